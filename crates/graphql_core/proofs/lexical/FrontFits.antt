-- What the front of an input takes, and the items one step on.
use Rattle.std.specs.Str.{IsCharBoundary}
use Rattle.std.specs.Char.{encode_utf8, is_ascii_digit}
use Rattle.std.specs.List.{prefix_len}
use Rattle.std.proofs.Common.{◌≡◌, ℕ, zero, suc, ◌+◌, ◌-◌, ◌<◌, ◌≤◌, Bool, true, false, cond, ◌&&◌, ◌||◌, ◌==◌, List, [], ◌∷◌, ◌++◌, Option, Some, None}
use Rattle.std.proofs.Common.{append_assoc, length-append, length, get_or, take, drop, IsUtf8, refl, sym, ap, ◌∙◌, subst, inl, inr, arith, add-zero}
use Rattle.std.proofs.Common.{add_assoc, eqb-true, length-drop}
use Rattle.std.proofs.lemmas.Bool.{cases_lt, and_parts}
use Rattle.std.proofs.lemmas.Bool.Decides.{nat_tests}
use Rattle.std.proofs.lemmas.List.{get_or_past, get_or-drop, get_or_at}
use Rattle.std.proofs.lemmas.List.Sums.{prefix_len-le-length, prefix_len_passes, prefix_len_stops}
use Rattle.std.proofs.lemmas.Str.{IsCharBoundary-end, IsCharBoundary-after_ascii, IsCharBoundary-at_seam, IsUtf8-past_char}
use Rattle.graphql_core.specs.declared.position.Pos.{Pos}
use Rattle.graphql_core.specs.declared.tokenizer.token.Kind.TheVariants.{StringValue, BlockString}
use Rattle.graphql_core.specs.declared.tokenizer.piece.Move.{Move}
use Rattle.graphql_core.specs.steps.Front.{FrontElement, AtEnd, Skips, Takes, Stops}
use Rattle.graphql_core.specs.{too_deep, is_name_start, is_name_continue, is_in_line, is_punctuator_byte, is_in_run, is_integer, begins_quotes, steps_over}
use Rattle.graphql_core.specs.{is_float, number, string_end, block_end, closed, quoted_front, front, comment, line_end, dots, other_token, FitsIn, IsItem}
use Rattle.graphql_core.specs.{Where, Item, item_at, TokenContent, LexicalError, past_ignored, past_token, is_too_deep, last_item, moved, token_then, run_at}
use Rattle.graphql_core.specs.{cause_at, further, next_place, items_by, items_in, items}
use Rattle.graphql_core.proofs.lexical.Numbers.{run_boundary}
use Rattle.graphql_core.proofs.lexical.Strings.{string_found, block_found, block_last}

-- the first n bytes exist, and are whole characters if the bytes are UTF-8
abbrev pub Part : List ℕ → ℕ → Type 0
Part bytes n = (0 < n) × (n ≤ length bytes) × (IsUtf8 bytes → IsCharBoundary bytes n)

abbrev pub PieceFits : List ℕ → FrontElement → Type 0
PieceFits bytes AtEnd = length bytes ≡ 0
PieceFits bytes Stops = 0 < length bytes
PieceFits bytes (Skips n m) = Part bytes n × (steps_over m ≤ 8)
PieceFits bytes (Takes n k t) = Part bytes n

either : (bytes : List ℕ) (t : Bool) (x y : FrontElement) → (t ≡ true → PieceFits bytes x) → (t ≡ false → PieceFits bytes y) → PieceFits bytes (cond t x y)
either bytes true x y f g = f refl
either bytes false x y f g = g refl

-- up to an ASCII byte
through_ascii : (bs : List ℕ) (i : ℕ) → i < length bs → get_or bs i 0 < 128 → Part bs (i + 1)
through_ascii bs i lt h = (omega arith, omega arith, λ utf8. IsCharBoundary-after_ascii bs i utf8 lt h)

one : (b : ℕ) (bs : List ℕ) → b < 128 → Part (b ∷ bs) 1
one b bs h = through_ascii (b ∷ bs) 0 (omega arith) h

-- a non-zero byte was read inside the list
is_inside : (xs : List ℕ) (i : ℕ) → 0 < get_or xs i 0 → i < length xs
is_inside xs i h = elim (cases_lt i (length xs)) [ inl lt ↦ lt | inr past ↦ absurd (omega (arith, get_or_past xs i 0 past)) ]

-- up to an ASCII byte after a first byte
after : (a : ℕ) (bs : List ℕ) (i n : ℕ) → n ≡ i + 2 → i < length bs → get_or bs i 0 < 128 → Part (a ∷ bs) n
after a bs i n e lt h =
    let more : suc i + 1 ≡ n = omega arith in
    subst (Part (a ∷ bs)) more (through_ascii (a ∷ bs) (suc i) (omega arith) h)

bom_at : (b : ℕ) (bs : List ℕ) → b ≡ 239 → get_or bs 0 0 ≡ 187 → get_or bs 1 0 ≡ 191 → Part (b ∷ bs) 3
unfolding encode_utf8
bom_at b [] e0 e1 e2 = absurd (omega arith)
bom_at b (x ∷ []) e0 e1 e2 = absurd (omega arith)
bom_at b (x ∷ y ∷ rest) e0 e1 e2 =
    let whole : b ∷ x ∷ y ∷ rest ≡ encode_utf8 65279 ++ rest = rw (e0, e1, e2) refl in (
      omega arith,
      omega arith,
      λ utf8. IsCharBoundary-at_seam (b ∷ x ∷ y ∷ rest) (encode_utf8 65279) rest whole (IsUtf8-past_char (b ∷ x ∷ y ∷ rest) rest 65279 utf8 whole),
    )

bom : (b : ℕ) (bs : List ℕ) → (b == 239 && (get_or bs 0 0 == 187 && get_or bs 1 0 == 191)) ≡ true → Part (b ∷ bs) 3
bom b bs h =
    let p = and_parts (b == 239) (get_or bs 0 0 == 187 && get_or bs 1 0 == 191) h in
    let q = and_parts (get_or bs 0 0 == 187) (get_or bs 1 0 == 191) p.1 in
    bom_at b bs (eqb-true _ _ p.0) (eqb-true _ _ q.0) (eqb-true _ _ q.1)

run_last : (p : ℕ → Bool) (b : ℕ) (bs : List ℕ) (n : ℕ) → prefix_len p bs ≡ n → b < 128 → ((c : ℕ) → p c ≡ true → c < 128) → get_or (b ∷ bs) n 0 < 128
run_last p b bs zero e h ascii = h
run_last p b bs (suc k) e h ascii = ascii _ (prefix_len_passes p bs k 0 (omega arith))

starts_ascii : (b : ℕ) → is_name_start b ≡ true → b < 128
starts_ascii b h = grind (arith, nat_tests)

goes_on_ascii : (b : ℕ) → is_name_continue b ≡ true → b < 128
goes_on_ascii b h = grind (arith, nat_tests)

name : (b : ℕ) (bs : List ℕ) → is_name_start b ≡ true → Part (b ∷ bs) (prefix_len is_name_continue bs + 1)
name b bs h =
    through_ascii (b ∷ bs) (prefix_len is_name_continue bs) (omega (arith, prefix_len-le-length is_name_continue bs))
    (run_last is_name_continue b bs _ refl (starts_ascii b h) goes_on_ascii)

ends_line_ascii : (b : ℕ) → is_in_line b ≡ false → b < 128
ends_line_ascii b h = grind (arith, nat_tests)

line_fits : (a : ℕ) (bs rest : List ℕ) (n : ℕ) → n ≡ prefix_len is_in_line bs → drop n bs ≡ rest → PieceFits (a ∷ bs) (line_end n rest)
line_fits a bs [] n e d =
    let le = prefix_len-le-length is_in_line bs in
    let none : length bs - n ≡ 0 = sym (length-drop n bs) ∙ ap length d in
    let all : suc (length bs) ≡ n + 1 = omega arith in
    ((omega arith, omega arith, λ utf8. subst (IsCharBoundary (a ∷ bs)) all (IsCharBoundary-end (a ∷ bs))), omega arith)
line_fits a bs (c ∷ cs) n e d =
    let some : length bs - n ≡ suc (length cs) = sym (length-drop n bs) ∙ ap length d in
    let lt : n < length bs = omega arith in
    let c-is : get_or bs n 0 ≡ c = sym (rw (get_or-drop n bs 0 0, add-zero) refl) ∙ ap (λ l. get_or l 0 0) d in
    let next-is : get_or bs (n + 1) 0 ≡ get_or cs 0 0 = sym (get_or-drop n bs 1 0) ∙ ap (λ l. get_or l 1 0) d in
    let stop : is_in_line (get_or bs n 0) ≡ false = rw e (prefix_len_stops is_in_line bs 0 (omega arith)) in
    either (a ∷ bs) (c == 13 && get_or cs 0 0 == 10) _ _
    (λ t.
    let ten : get_or cs 0 0 ≡ 10 = eqb-true _ _ (and_parts (c == 13) (get_or cs 0 0 == 10) t).1 in
    (after a bs (n + 1) (n + 3) (omega arith) (is_inside bs (n + 1) (omega arith)) (omega arith), omega arith))
    (λ _. (after a bs n (n + 2) (omega arith) lt (ends_line_ascii _ stop), omega arith))

in_comment : (a : ℕ) (bs : List ℕ) → PieceFits (a ∷ bs) (comment bs)
unfolding comment
in_comment a bs = line_fits a bs _ _ refl refl

punctuator_ascii : (b : ℕ) → is_punctuator_byte b ≡ true → b < 128
punctuator_ascii b h = grind (arith, nat_tests)

in_dots : (b : ℕ) (bs : List ℕ) → PieceFits (b ∷ bs) (dots (b ∷ bs))
in_dots b bs =
    either (b ∷ bs) (get_or bs 0 0 == 46 && get_or bs 1 0 == 46) _ _
    (λ t.
    let last : get_or bs 1 0 ≡ 46 = eqb-true _ _ (and_parts (get_or bs 0 0 == 46) (get_or bs 1 0 == 46) t).1 in
    after b bs 1 3 refl (is_inside bs 1 (omega arith)) (omega arith))
    (λ _. omega arith)

-- through an ASCII byte that comes after some bytes
through : (bs front rest : List ℕ) (c n : ℕ) → bs ≡ front ++ c ∷ rest → c < 128 → n ≡ length front + 1 → Part bs n
through bs front rest c n e h len =
    let here : get_or bs (length front) 0 ≡ c = rw e (get_or_at front c rest 0 (length front) refl) in
    subst (Part bs) (sym len) (through_ascii bs (length front) (omega (arith, ap length e, length-append front (c ∷ rest))) (omega arith))

in_string : (b : ℕ) (bs : List ℕ) (x : Option ℕ) → string_end 0 false bs ≡ x → PieceFits (b ∷ bs) (closed StringValue 1 x)
in_string b bs None e = omega arith
in_string b bs (Some m) e =
    let f = string_found bs false 0 m e in
    through (b ∷ bs) (b ∷ f.body) f.rest 34 (m + 1) (ap (λ l. b ∷ l) f.is) (omega arith) (omega (arith, f.len))

in_block : (a b c : ℕ) (bs : List ℕ) (x : Option ℕ) → block_end 0 0 bs ≡ x → PieceFits (a ∷ b ∷ c ∷ bs) (closed BlockString 3 x)
in_block a b c bs None e = omega arith
in_block a b c bs (Some m) e =
    let f = block_found bs 0 m e in
    let last = block_last f.closes in
    through (a ∷ b ∷ c ∷ bs) (a ∷ b ∷ c ∷ last.0) f.rest 34 (m + 3)
    (ap (λ l. a ∷ b ∷ c ∷ l) (f.is ∙ ap (λ l. l ++ f.rest) last.1 ∙ append_assoc last.0 (34 ∷ []) f.rest)) (omega arith)
    (omega (arith, f.len, ap length last.1, length-append last.0 (34 ∷ [])))

in_quotes : (bs : List ℕ) → begins_quotes bs ≡ true → PieceFits bs (closed BlockString 3 (block_end 0 0 (drop 3 bs)))
in_quotes [] h = absurd cc
in_quotes (a ∷ []) h = absurd cc
in_quotes (a ∷ b ∷ []) h = absurd cc
in_quotes (a ∷ b ∷ c ∷ bs) h = in_block a b c bs (block_end 0 0 bs) refl

in_quoted : (b : ℕ) (bs : List ℕ) → PieceFits (b ∷ bs) (quoted_front (b ∷ bs))
unfolding quoted_front
in_quoted b bs =
    either (b ∷ bs) (begins_quotes (b ∷ bs)) _ _
    (λ t. in_quotes (b ∷ bs) t)
    (λ _. in_string b bs (string_end 0 false bs) refl)

integer_some : (n : ℕ) (xs : List ℕ) → is_integer (take n xs) ≡ true → 0 < n
integer_some zero xs h = absurd cc
integer_some (suc n) xs h = omega arith

float_some : (n : ℕ) (xs : List ℕ) → is_float (take n xs) ≡ true → 0 < n
unfolding is_float
float_some zero xs h = absurd cc
float_some (suc n) xs h = omega arith

in_number : (b : ℕ) (bs : List ℕ) → PieceFits (b ∷ bs) (number (b ∷ bs))
unfolding number
in_number b bs =
    let B = b ∷ bs in
    let le = prefix_len-le-length is_in_run B in
    either B (is_integer (run_at B)) _ _
    (λ t. (integer_some _ B t, le, λ utf8. run_boundary B))
    (λ _. either B (is_float (run_at B)) _ _
    (λ t. (float_some _ B t, le, λ utf8. run_boundary B))
    (λ _. omega arith))

in_token : (b : ℕ) (bs : List ℕ) → PieceFits (b ∷ bs) (other_token b (b ∷ bs))
unfolding other_token
in_token b bs =
    let B = b ∷ bs in
    either B (is_punctuator_byte b) _ _ (λ e. one b bs (punctuator_ascii b e))
    (λ _. either B (b == 34) _ _ (λ _. in_quoted b bs)
    (λ _. either B (b == 46) _ _ (λ _. in_dots b bs)
    (λ _. either B (b == 45 || is_ascii_digit b) _ _ (λ _. in_number b bs)
    (λ _. omega arith))))

pub front_within : (bytes : List ℕ) → PieceFits bytes (front bytes)
unfolding front
front_within [] = refl
front_within (b ∷ bs) =
    let B = b ∷ bs in
    either B (b == 9) _ _ (λ e. (one b bs (omega (arith, eqb-true b 9 e)), omega arith))
    (λ _. either B (b == 10) _ _ (λ e. (one b bs (omega (arith, eqb-true b 10 e)), omega arith))
    (λ _. either B (b == 13) _ _ (λ e. (one b bs (omega (arith, eqb-true b 13 e)), omega arith))
    (λ _. either B (b == 32 || b == 44) _ _ (λ e. (one b bs (grind (arith, nat_tests)), omega arith))
    (λ _. either B (is_name_start b) _ _ (λ e. name b bs e)
    (λ _. either B (b == 35) _ _ (λ e. in_comment b bs)
    (λ _. either B (b == 239 && (get_or bs 0 0 == 187 && get_or bs 1 0 == 191)) _ _ (λ e. (bom b bs e, omega arith))
    (λ _. in_token b bs)))))))

fits : (bytes : List ℕ) (x : FrontElement) → IsUtf8 bytes → PieceFits bytes x → FitsIn bytes x
fits bytes AtEnd utf8 h = h
fits bytes Stops utf8 h = h
fits bytes (Skips n m) utf8 h = ((h.0.0, h.0.1, h.0.2 utf8), h.1)
fits bytes (Takes n k t) utf8 h = (h.0, h.1, h.2 utf8)

pub front_fits : (bytes : List ℕ) (x : FrontElement) → x ≡ front bytes → IsUtf8 bytes → FitsIn bytes x
front_fits bytes x e utf8 = rw e (fits bytes (front bytes) utf8 (front_within bytes))

-- ---- the fuel is enough

abbrev Same : (Where → List ℕ → List Item) → (Where → List ℕ → List Item) → ℕ → Type 0
Same f g n = (w : Where) (bytes : List ℕ) → length bytes < n → f w bytes ≡ g w bytes

by_same : (f g : Where → List ℕ → List Item) (w : Where) (bytes : List ℕ) (x : FrontElement) → PieceFits bytes x → Same f g (length bytes)
    → items_by f w bytes x ≡ items_by g w bytes x
by_same f g w bytes AtEnd fits same = refl
by_same f g w bytes Stops fits same = refl
by_same f g w bytes (Skips n m) fits same = same _ _ (omega (arith, length-drop n bytes))
by_same f g w bytes (Takes n k t) fits same =
    ap (token_then (is_too_deep t w) (item_at (LexicalError too_deep) w) (item_at (TokenContent k (take n bytes)) w))
    (same (past_token t (take n bytes) w) (drop n bytes) (omega (arith, length-drop n bytes)))

fuel_same : (n m : ℕ) (w : Where) (bytes : List ℕ) → length bytes ≤ n → length bytes ≤ m → items_in n w bytes ≡ items_in m w bytes
unfolding items_in front
fuel_same zero zero w bytes h k = refl
fuel_same zero (suc m) w [] h k = refl
fuel_same zero (suc m) w (b ∷ bs) h k = absurd (omega arith)
fuel_same (suc n) zero w [] h k = refl
fuel_same (suc n) zero w (b ∷ bs) h k = absurd (omega arith)
fuel_same (suc n) (suc m) w bytes h k =
    by_same (items_in n) (items_in m) w bytes (front bytes) (front_within bytes) (λ v xs lt. fuel_same n m v xs (omega arith) (omega arith))

pub items_unfold : (w : Where) (bytes : List ℕ) → items w bytes ≡ items_by items w bytes (front bytes)
unfolding items items_in front
items_unfold w [] = refl
items_unfold w (b ∷ bs) =
    by_same (items_in (length bs)) items w (b ∷ bs) (front (b ∷ bs)) (front_within (b ∷ bs))
    (λ v xs lt. fuel_same (length bs) (length xs) v xs (omega arith) (omega arith))

pub items_at : (w : Where) (bytes : List ℕ) (x : FrontElement) → front bytes ≡ x → items w bytes ≡ items_by items w bytes x
items_at w bytes x e = items_unfold w bytes ∙ ap (items_by items w bytes) e

-- ignored text has no item
pub items_skip : (w : Where) (bytes : List ℕ) (n : ℕ) (m : Move) → front bytes ≡ Skips n m → items (past_ignored m n w) (drop n bytes) ≡ items w bytes
items_skip w bytes n m e = sym (items_at w bytes (Skips n m) e)

-- the items one step on, if ignored text moved a position that is counted apart
pub further_skip : (w : Where) (place : Pos) (passed : ℕ) (bytes : List ℕ) (n : ℕ) (m : Move) → front bytes ≡ Skips n m
    → items (further (moved m place) (passed + n) w) (drop n bytes) ≡ items (further place passed w) bytes
further_skip w place passed bytes n m e =
    rw (← add_assoc w.offset passed n) (items_skip (further place passed w) bytes n m e)

token_place : (b : Bool) (bad token : Item) (more : List Item) → bad.place ≡ token.place → next_place (token_then b bad token more) ≡ token.place
token_place true bad token more e = e
token_place false bad token more e = refl

last_place : (w : Where) (bytes : List ℕ) → (last_item w bytes).place ≡ w
last_place w [] = refl
last_place w (b ∷ bs) = refl

place_by : (w : Where) (bytes : List ℕ) (x : FrontElement) → IsItem x → next_place (items_by items w bytes x) ≡ w
place_by w bytes AtEnd h = refl
place_by w bytes Stops h = last_place w bytes
place_by w bytes (Skips n m) h = absurd h
place_by w bytes (Takes n k t) h = token_place (is_too_deep t w) _ _ _ refl

-- an item at the front is at the position of the input
pub next_place_items : (w : Where) (bytes : List ℕ) → IsItem (front bytes) → next_place (items w bytes) ≡ w
next_place_items w bytes h = ap next_place (items_unfold w bytes) ∙ place_by w bytes (front bytes) h

-- the last item of an input that no lexical element begins
pub last_some : (w : Where) (bytes : List ℕ) → 0 < length bytes → last_item w bytes ≡ item_at (LexicalError (cause_at (get_or bytes 0 0) (drop 1 bytes))) w
last_some w [] h = absurd (omega arith)
last_some w (b ∷ bs) h = refl
