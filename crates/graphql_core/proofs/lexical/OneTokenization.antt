-- Each input has one division into lexical elements, and its items are those of its lexical elements.
use Rattle.std.specs.Char.{is_ascii_digit}
use Rattle.std.specs.List.{prefix_len, list_all}
use Rattle.std.proofs.Common.{◌≡◌, ◌≢◌, ℕ, zero, suc, ◌<◌, ◌≤◌, Bool, true, false, cond, ◌&&◌, ◌||◌, ◌==◌, List, [], ◌∷◌, ◌++◌, Option, Some, None, length}
use Rattle.std.proofs.Common.{get_or, drop, refl, sym, ap, ◌∙◌, subst, inl, inr, arith, length-append, append_assoc, eqb-true, le_refl, ◌⊎◌}
use Rattle.std.proofs.lemmas.Bool.{cases_eq}
use Rattle.std.proofs.lemmas.Bool.Decides.{nat_tests}
use Rattle.std.proofs.lemmas.List.{take_at, drop_at}
use Rattle.graphql_core.specs.declared.tokenizer.piece.Nesting.TheVariants.{Unchanged}
use Rattle.graphql_core.specs.declared.tokenizer.token.Kind.TheVariants.{Punctuator, Name, IntValue, FloatValue, StringValue, BlockString}
use Rattle.graphql_core.specs.declared.tokenizer.piece.Move.TheVariants.{Stay, Down}
use Rattle.graphql_core.specs.steps.Front.{FrontElement, AtEnd, Skips, Takes, Stops}
use Rattle.graphql_core.specs.{front, other_token, comment, line_end, is_float, number, string_end, block_end, closed, quoted_front, Where, Item, HasItemsFrom}
use Rattle.graphql_core.specs.{HasItems, start, past_ignored, past_token, last_item, piece_then, items_of, run_at, items_by, items, is_name_start}
use Rattle.graphql_core.specs.{is_name_continue, is_in_line, is_punctuator_byte, nesting_of, is_integer, begins_quotes, Meaning, Ignored, TokenOf, IsLexicalElement}
use Rattle.graphql_core.specs.{ignored_tab, ignored_line_feed, ignored_carriage_return, ignored_space, ignored_comma, ignored_byte_order_mark, comment_at_end}
use Rattle.graphql_core.specs.{comment_feed, comment_return_feed, comment_return, name_token, punctuator_token, spread_token, integer_token, float_token}
use Rattle.graphql_core.specs.{string_token, block_string_token, BeginsNone, Piece, IsTokenizedInto}
use Rattle.graphql_core.proofs.lexical.Runs.{run_of}
use Rattle.graphql_core.proofs.lexical.Numbers.{float_is, run_parts, integer_run, float_run}
use Rattle.graphql_core.proofs.lexical.Strings.{HasBody, string_found, block_found}
use Rattle.graphql_core.proofs.lexical.FrontFits.{PieceFits, items_at, front_within}
use Rattle.graphql_core.proofs.lexical.FrontIsPiece.{ahead_of, element_at_front}

abbrev pub HasPiece : List ℕ → Type 0
HasPiece text = (bytes : List ℕ) × (m : Meaning) × (rest : List ℕ) × (text ≡ bytes ++ rest) × IsLexicalElement bytes m rest

abbrev pub Sees : List ℕ → FrontElement → Type 0
Sees text AtEnd = Unit {0}
Sees text Stops = Unit {0}
Sees text (Skips n m) = HasPiece text
Sees text (Takes n k t) = HasPiece text

look : (text : List ℕ) (t : Bool) (x y : FrontElement) → (t ≡ true → Sees text x) → (t ≡ false → Sees text y) → Sees text (cond t x y)
look text true x y f g = f refl
look text false x y f g = g refl

-- a lexical element of one byte
single : (b k : ℕ) (bs : List ℕ) (m : Meaning) → b ≡ k → IsLexicalElement (k ∷ []) m bs → HasPiece (b ∷ bs)
single b k bs m e s = (k ∷ [], m, bs, ap (λ x. x ∷ bs) e, s)

stops_line : (c : ℕ) → is_in_line c ≡ false → c ≢ 10 → c ≡ 13
stops_line c h n = grind (arith, nat_tests)

-- what follows a line: nothing, or a byte that ends the line
abbrev EndsLine : List ℕ → Type 0
EndsLine [] = Unit {0}
EndsLine (c ∷ cs) = is_in_line c ≡ false

after_return : (line cs : List ℕ) → list_all is_in_line line ≡ true → HasPiece (35 ∷ (line ++ 13 ∷ cs))
after_return line [] all =
    (35 ∷ (line ++ 13 ∷ []), Ignored Down, [], ap (λ l. 35 ∷ l) (sym (append_assoc line (13 ∷ []) [])), comment_return line all (λ e. omega arith))
after_return line (c ∷ cs) all =
    elim (cases_eq c 10) [
      | inl ten ↦ (
        35 ∷ (line ++ 13 ∷ 10 ∷ []),
        Ignored Down,
        cs,
        ap (λ x. 35 ∷ (line ++ 13 ∷ x ∷ cs)) ten
            ∙ ap (λ l. 35 ∷ l) (sym (append_assoc line (13 ∷ 10 ∷ []) cs)),
        comment_return_feed line all,
      )
      | inr other ↦ (35 ∷ (line ++ 13 ∷ []), Ignored Down, c ∷ cs, ap (λ l. 35 ∷ l) (sym (append_assoc line (13 ∷ []) (c ∷ cs))), comment_return line all other)
    ]

has_comment : (line rest : List ℕ) → list_all is_in_line line ≡ true → EndsLine rest → HasPiece (35 ∷ (line ++ rest))
has_comment line [] all ends = (35 ∷ line, Ignored Stay, [], refl, comment_at_end line all)
has_comment line (c ∷ cs) all ends =
    elim (cases_eq c 10) [
      | inl ten ↦ (
        35 ∷ (line ++ 10 ∷ []),
        Ignored Down,
        cs,
        ap (λ x. 35 ∷ (line ++ x ∷ cs)) ten ∙ ap (λ l. 35 ∷ l) (sym (append_assoc line (10 ∷ []) cs)),
        comment_feed line all,
      )
      | inr other ↦ subst (λ x. HasPiece (35 ∷ (line ++ x ∷ cs))) (sym (stops_line c ends other)) (after_return line cs all)
    ]

ends_line : (rest : List ℕ) → (0 < length rest → is_in_line (get_or rest 0 0) ≡ false) → EndsLine rest
ends_line [] h = tt
ends_line (c ∷ cs) h = h (omega arith)

sees_line : (text : List ℕ) (n : ℕ) (rest : List ℕ) → HasPiece text → Sees text (line_end n rest)
sees_line text n [] h = h
sees_line text n (c ∷ cs) h = look text (c == 13 && get_or cs 0 0 == 10) _ _ (λ _. h) (λ _. h)

sees_comment : (b : ℕ) (bs : List ℕ) → b ≡ 35 → Sees (b ∷ bs) (comment bs)
unfolding comment
sees_comment b bs e =
    let r = run_of is_in_line bs in
    let h = has_comment r.0 r.1 r.3 (ends_line r.1 r.5) in
    sees_line (b ∷ bs) (prefix_len is_in_line bs) (drop (prefix_len is_in_line bs) bs)
    (subst HasPiece (sym (ap (λ l. 35 ∷ l) r.2) ∙ ap (λ x. x ∷ bs) (sym e)) h)

not_continue : (rest : List ℕ) → (0 < length rest → is_name_continue (get_or rest 0 0) ≡ false) → is_name_continue (get_or rest 0 0) ≡ false
not_continue [] h = refl
not_continue (c ∷ cs) h = h (omega arith)

sees_name : (b : ℕ) (bs : List ℕ) → is_name_start b ≡ true → HasPiece (b ∷ bs)
sees_name b bs h =
    let r = run_of is_name_continue bs in
    (b ∷ r.0, TokenOf Name Unchanged, r.1, ap (λ l. b ∷ l) r.2, name_token h r.3 (not_continue r.1 r.5))

sees_byte_order_mark : (b : ℕ) (bs : List ℕ) → (b == 239 && (get_or bs 0 0 == 187 && get_or bs 1 0 == 191)) ≡ true → HasPiece (b ∷ bs)
sees_byte_order_mark b [] h = absurd (grind (arith, nat_tests))
sees_byte_order_mark b (x ∷ []) h = absurd (grind (arith, nat_tests))
sees_byte_order_mark b (x ∷ y ∷ rest) h =
    let e0 : b ≡ 239 = grind (arith, nat_tests) in
    let e1 : x ≡ 187 = grind (arith, nat_tests) in
    let e2 : y ≡ 191 = grind (arith, nat_tests) in
    (239 ∷ 187 ∷ 191 ∷ [], Ignored Stay, rest, rw (e0, e1, e2) refl, ignored_byte_order_mark)

sees_space : (b : ℕ) (bs : List ℕ) → (b == 32 || b == 44) ≡ true → HasPiece (b ∷ bs)
sees_space b bs h =
    elim (cases_eq b 32) [
      | inl e ↦ single b 32 bs _ e ignored_space
      | inr other ↦ let e : b ≡ 44 = grind (arith, nat_tests) in single b 44 bs _ e ignored_comma
    ]

sees_dots : (b : ℕ) (bs : List ℕ) → b ≡ 46 → (get_or bs 0 0 == 46 && get_or bs 1 0 == 46) ≡ true → HasPiece (b ∷ bs)
sees_dots b [] e h = absurd (grind (arith, nat_tests))
sees_dots b (x ∷ []) e h = absurd (grind (arith, nat_tests))
sees_dots b (x ∷ y ∷ rest) e h =
    let e1 : x ≡ 46 = grind (arith, nat_tests) in
    let e2 : y ≡ 46 = grind (arith, nat_tests) in
    (46 ∷ 46 ∷ 46 ∷ [], TokenOf Punctuator Unchanged, rest, rw (e, e1, e2) refl, spread_token)

-- after the two quotes of an empty string comes no other quote
no_more_quotes : (body rest : List ℕ) → begins_quotes (34 ∷ (body ++ 34 ∷ rest)) ≡ false → body ≡ [] → get_or rest 0 0 ≢ 34
no_more_quotes [] [] h e = λ z. omega arith
no_more_quotes [] (c ∷ rest) h e = λ z. absurd (grind (arith, nat_tests))
no_more_quotes (b ∷ body) rest h e = absurd cc

has_string : (bs : List ℕ) (m : ℕ) → begins_quotes (34 ∷ bs) ≡ false → HasBody false 0 m bs → HasPiece (34 ∷ bs)
has_string bs m none f = (
  34 ∷ (f.body ++ 34 ∷ []),
  TokenOf StringValue Unchanged,
  f.rest,
  ap (λ l. 34 ∷ l) (f.is ∙ sym (append_assoc f.body (34 ∷ []) f.rest)),
  string_token f.body f.valid (no_more_quotes f.body f.rest (rw f.is at none)),
)

sees_string : (bs : List ℕ) (x : Option ℕ) → begins_quotes (34 ∷ bs) ≡ false → string_end 0 false bs ≡ x → Sees (34 ∷ bs) (closed StringValue 1 x)
sees_string bs None none e = tt
sees_string bs (Some m) none e = has_string bs m none (string_found bs false 0 m e)

sees_closed : (bs : List ℕ) (x : Option ℕ) → block_end 0 0 bs ≡ x → Sees (34 ∷ 34 ∷ 34 ∷ bs) (closed BlockString 3 x)
sees_closed bs None e = tt
sees_closed bs (Some m) e =
    let f = block_found bs 0 m e in
    (34 ∷ 34 ∷ 34 ∷ f.body, TokenOf BlockString Unchanged, f.rest, ap (λ l. 34 ∷ 34 ∷ 34 ∷ l) f.is, block_string_token f.closes)

sees_block : (bs : List ℕ) → begins_quotes bs ≡ true → Sees bs (closed BlockString 3 (block_end 0 0 (drop 3 bs)))
sees_block [] h = absurd cc
sees_block (a ∷ []) h = absurd cc
sees_block (a ∷ b ∷ []) h = absurd cc
sees_block (a ∷ b ∷ c ∷ bs) h =
    let ea : a ≡ 34 = grind (arith, nat_tests) in
    let eb : b ≡ 34 = grind (arith, nat_tests) in
    let ec : c ≡ 34 = grind (arith, nat_tests) in
    rw (ea, eb, ec) (sees_closed bs (block_end 0 0 bs) refl)

sees_quoted : (b : ℕ) (bs : List ℕ) → b ≡ 34 → Sees (b ∷ bs) (quoted_front (b ∷ bs))
unfolding quoted_front
sees_quoted b bs e =
    look (b ∷ bs) (begins_quotes (b ∷ bs)) _ _
    (λ t. sees_block (b ∷ bs) t)
    (λ none. rw e (sees_string bs (string_end 0 false bs) (ap (λ x. begins_quotes (x ∷ bs)) (sym e) ∙ none) refl))

sees_number : (bs : List ℕ) → Sees bs (number bs)
unfolding number
sees_number bs =
    let (rest, e, ends) = run_parts bs in
    look bs (is_integer (run_at bs)) _ _
    (λ t. (run_at bs, TokenOf IntValue Unchanged, rest, e, integer_token t ends))
    (λ _. look bs (is_float (run_at bs)) _ _
    (λ t. (run_at bs, TokenOf FloatValue Unchanged, rest, e, float_token (float_is (run_at bs) t) ends))
    (λ _. tt))

sees_token : (b : ℕ) (bs : List ℕ) → Sees (b ∷ bs) (other_token b (b ∷ bs))
unfolding other_token
sees_token b bs =
    let B = b ∷ bs in
    look B (is_punctuator_byte b) _ _ (λ e. (b ∷ [], TokenOf Punctuator (nesting_of b), bs, refl, punctuator_token e))
    (λ _. look B (b == 34) _ _ (λ e. sees_quoted b bs (eqb-true b 34 e))
    (λ _. look B (b == 46) _ _ (λ e. look B (get_or bs 0 0 == 46 && get_or bs 1 0 == 46) _ _ (λ d. sees_dots b bs (eqb-true b 46 e) d) (λ _. tt))
    (λ _. look B (b == 45 || is_ascii_digit b) _ _ (λ _. sees_number B)
    (λ _. tt))))

pub front_sees : (text : List ℕ) → Sees text (front text)
unfolding front
front_sees [] = tt
front_sees (b ∷ bs) =
    let B = b ∷ bs in
    look B (b == 9) _ _ (λ e. single b 9 bs _ (eqb-true b 9 e) ignored_tab)
    (λ _. look B (b == 10) _ _ (λ e. single b 10 bs _ (eqb-true b 10 e) ignored_line_feed)
    (λ _. look B (b == 13) _ _ (λ e. single b 13 bs _ (eqb-true b 13 e) ignored_carriage_return)
    (λ _. look B (b == 32 || b == 44) _ _ (λ e. sees_space b bs e)
    (λ _. look B (is_name_start b) _ _ (λ e. sees_name b bs e)
    (λ _. look B (b == 35) _ _ (λ e. sees_comment b bs (eqb-true b 35 e))
    (λ _. look B (b == 239 && (get_or bs 0 0 == 187 && get_or bs 1 0 == 191)) _ _ (λ e. sees_byte_order_mark b bs e)
    (λ _. sees_token b bs)))))))

-- ---- the items

last_by : (w : Where) (text : List ℕ) (x : FrontElement) → PieceFits text x → Sees text x → BeginsNone text → items_by items w text x ≡ last_item w text ∷ []
last_by w [] AtEnd f s none = refl
last_by w (b ∷ bs) AtEnd f s none = absurd (omega arith)
last_by w text Stops f s none = refl
last_by w text (Skips n m) f s none = absurd (none s.0 s.1 s.2 s.4 s.3)
last_by w text (Takes n k t) f s none = absurd (none s.0 s.1 s.2 s.4 s.3)

one_piece : (m : Meaning) (w : Where) (bytes rest : List ℕ) (more : Where → List Item) → ((v : Where) → items v rest ≡ more v)
    → items_by items w (bytes ++ rest) (ahead_of m (length bytes)) ≡ piece_then m more w bytes
one_piece (Ignored m) w bytes rest more h = rw (drop_at bytes rest (length bytes) refl) (h (past_ignored m (length bytes) w))
one_piece (TokenOf k t) w bytes rest more h = rw (take_at bytes rest (length bytes) refl, drop_at bytes rest (length bytes) refl, h (past_token t bytes w)) refl

-- the items of an input are those of its lexical elements
pub items_tokenized : (ps : List Piece) (text stop : List ℕ) → IsTokenizedInto text ps stop → (w : Where) → items w text ≡ items_of w ps stop
unfolding items_of
items_tokenized [] text stop (e, none) w =
    ap (items w) e ∙ items_at w stop (front stop) refl ∙ last_by w stop (front stop) (front_within stop) (front_sees stop) none
items_tokenized (q ∷ qs) text stop (rest, e, st, more) w =
    ap (items w) e ∙ items_at w (q.bytes ++ rest) (ahead_of q.meaning (length q.bytes)) (element_at_front st)
    ∙ one_piece q.meaning w q.bytes rest (λ v. items_of v qs stop) (λ v. items_tokenized qs rest stop more v)

-- ---- each input has a division

some_bytes : {bytes : List ℕ} {m : Meaning} {rest : List ℕ} → IsLexicalElement bytes m rest → 0 < length bytes
some_bytes ignored_tab = omega arith
some_bytes ignored_line_feed = omega arith
some_bytes ignored_carriage_return = omega arith
some_bytes ignored_space = omega arith
some_bytes ignored_comma = omega arith
some_bytes ignored_byte_order_mark = omega arith
some_bytes (comment_at_end line all) = omega arith
some_bytes (comment_feed line all) = omega arith
some_bytes (comment_return_feed line all) = omega arith
some_bytes (comment_return line all stop) = omega arith
some_bytes (name_token first more stop) = omega arith
some_bytes (punctuator_token h) = omega arith
some_bytes spread_token = omega arith
some_bytes (integer_token {run} h ends) = omega (arith, ap length (integer_run run h).is)
some_bytes (float_token h ends) = omega (arith, ap length (float_run h).is)
some_bytes (string_token body valid some) = omega arith
some_bytes (block_string_token closes) = omega arith

not_ahead : (m : Meaning) (n : ℕ) (x : FrontElement) → x ≡ ahead_of m n → (x ≡ AtEnd) ⊎ (x ≡ Stops) → ⊥
not_ahead (Ignored m) n x e h = elim h [ inl a ↦ cc | inr b ↦ cc ]
not_ahead (TokenOf k t) n x e h = elim h [ inl a ↦ cc | inr b ↦ cc ]

begins_none : (text : List ℕ) → (front text ≡ AtEnd) ⊎ (front text ≡ Stops) → BeginsNone text
begins_none text h bytes m rest st e = not_ahead m (length bytes) (front text) (ap front e ∙ element_at_front st) h

abbrev pub Tokenization : List ℕ → Type 0
Tokenization text = (ps : List Piece) × (stop : List ℕ) × IsTokenizedInto text ps stop

tokenization_by : (n : ℕ) (text : List ℕ) (x : FrontElement) → front text ≡ x → Sees text x → length text ≤ n → Tokenization text
tokenization_by n text AtEnd e s h = ([], text, (refl, begins_none text (inl e)))
tokenization_by n text Stops e s h = ([], text, (refl, begins_none text (inr e)))
tokenization_by zero text (Skips i m) e s h = absurd (omega (arith, some_bytes s.4, ap length s.3, length-append s.0 s.2))
tokenization_by (suc n) text (Skips i m) e s h =
    let r = tokenization_by n s.2 (front s.2) refl (front_sees s.2) (omega (arith, some_bytes s.4, ap length s.3, length-append s.0 s.2)) in
    (record { bytes = s.0; meaning = s.1 } ∷ r.0, r.1, (s.2, s.3, s.4, r.2))
tokenization_by zero text (Takes i k t) e s h = absurd (omega (arith, some_bytes s.4, ap length s.3, length-append s.0 s.2))
tokenization_by (suc n) text (Takes i k t) e s h =
    let r = tokenization_by n s.2 (front s.2) refl (front_sees s.2) (omega (arith, some_bytes s.4, ap length s.3, length-append s.0 s.2)) in
    (record { bytes = s.0; meaning = s.1 } ∷ r.0, r.1, (s.2, s.3, s.4, r.2))

pub tokenization_of : (text : List ℕ) → Tokenization text
tokenization_of text = tokenization_by (length text) text (front text) refl (front_sees text) (le_refl (length text))

-- the items that the step function finds are the items of the input, from any position
pub has_items_from : (w : Where) (text : List ℕ) → HasItemsFrom w text (items w text)
has_items_from w text = let c = tokenization_of text in (c.0, c.1, c.2, items_tokenized c.0 text c.1 c.2 w)

pub has_items : (text : List ℕ) → HasItems text (items start text)
has_items text = has_items_from start text

-- and the only ones
pub items_only : (text : List ℕ) (found : List Item) → HasItems text found → found ≡ items start text
items_only text found (ps, stop, tokenized, e) = e ∙ sym (items_tokenized ps text stop tokenized start)

-- an input has one list of items
pub items_unique : (text : List ℕ) (found others : List Item) → HasItems text found → HasItems text others → found ≡ others
items_unique text found others h k = items_only text found h ∙ sym (items_only text others k)
