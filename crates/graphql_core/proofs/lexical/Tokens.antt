-- Tokens and plain ignored text at the front of an input.
use Rattle.std.specs.Str.{IsCharBoundary}
use Rattle.std.specs.List.{prefix_len}
use Rattle.std.proofs.Common.{◌≡◌, ℕ, zero, suc, ◌+◌, ◌-◌, ◌<◌, ◌≤◌, Bool, true, false, ◌==◌, List, [], ◌∷◌}
use Rattle.std.proofs.Common.{Option, Some, None, length, take, drop, get_or, IsUtf8}
use Rattle.std.proofs.Common.{refl, sym, ap, ◌∙◌, arith, eqb-true, IfSome, cond, slice_index, add-zero, inl, inr, ◌&&◌, ◌||◌}
use Rattle.std.proofs.lemmas.Bool.{false≢true, eqb-false, and_parts, or_cases, both_ways, cases_Bool}
use Rattle.std.proofs.lemmas.List.{length-take, take_min}
use Rattle.std.proofs.lemmas.Bool.Decides.{nat_tests}
use Rattle.graphql_core.specs.declared.position.Pos.{Pos}
use Rattle.graphql_core.specs.declared.tokenizer.token.Kind.{Kind}
use Rattle.graphql_core.specs.declared.tokenizer.token.Kind.TheVariants.{Punctuator, Name}
use Rattle.graphql_core.specs.declared.tokenizer.piece.Move.{Move}
use Rattle.graphql_core.specs.declared.tokenizer.piece.Move.TheVariants.{Stay, Over, Down}
use Rattle.graphql_core.specs.declared.tokenizer.piece.Nesting.{Nesting}
use Rattle.graphql_core.specs.declared.tokenizer.piece.Nesting.TheVariants.{Unchanged, Opens, Closes}
use Rattle.graphql_core.specs.declared.tokenizer.piece.Taken.{Taken}
use Rattle.graphql_core.specs.steps.Front.{FrontElement, AtEnd, Skips, Takes, Stops}
use Rattle.graphql_core.specs.{is_name_start, is_name_continue, is_punctuator_byte, nesting_of, is_in_line, too_deep, Where, Item, Content, item_at}
use Rattle.graphql_core.specs.{TokenContent, EndOfInput, LexicalError, is_token, is_too_deep, openers_after, closers_after, past_token, token_then, items}
use Rattle.graphql_core.specs.{items_by, BeginsWithNext, AreItemsOfRest, further, front, other_token, comment, line_end, FitsIn, IsItem, taken, FitsTaken}
use Rattle.graphql_core.specs.{is_space, is_space_or_comma, is_line_feed, is_spacing, can_begin_ignored, columns_of, moved}
use Rattle.graphql_core.proofs.lexical.Runs.{differs, run_widens}
use Rattle.graphql_core.proofs.lexical.FrontFits.{further_skip, front_fits, front_within, items_at, next_place_items, PieceFits}
use Rattle.graphql_core.proofs.lexical.OneTokenization.{has_items_from}
use Rattle.graphql_core.proofs.lexical.Spaces.{no_front, item_first}

-- ---- tokens

pub name_front : (b : ℕ) (bs : List ℕ) → is_name_start b ≡ true → front (b ∷ bs) ≡ Takes (prefix_len is_name_continue bs + 1) Name Unchanged
unfolding front
name_front b bs h =
    rw (
      differs is_name_start b 9 h refl,
      differs is_name_start b 10 h refl,
      differs is_name_start b 13 h refl,
      differs is_name_start b 32 h refl,
      differs is_name_start b 44 h refl,
      h,
    ) refl

pub punctuator_front : (b : ℕ) (bs : List ℕ) → is_punctuator_byte b ≡ true → is_name_start b ≡ false → front (b ∷ bs) ≡ Takes 1 Punctuator (nesting_of b)
unfolding front other_token
punctuator_front b bs h other =
    rw (
      differs is_punctuator_byte b 9 h refl,
      differs is_punctuator_byte b 10 h refl,
      differs is_punctuator_byte b 13 h refl,
      differs is_punctuator_byte b 32 h refl,
      differs is_punctuator_byte b 44 h refl,
      other,
      differs is_punctuator_byte b 35 h refl,
      differs is_punctuator_byte b 239 h refl,
      h,
    ) refl

fits_parts : (bytes : List ℕ) (x : FrontElement) → FitsIn bytes x → FitsTaken bytes (taken x)
fits_parts bytes AtEnd h = tt
fits_parts bytes Stops h = tt
fits_parts bytes (Skips n m) h = tt
fits_parts bytes (Takes n k t) h = h

pub taken_fits : (bytes : List ℕ) (x : Option Taken) → x ≡ taken (front bytes) → IsUtf8 bytes → FitsTaken bytes x
taken_fits bytes x e utf8 = rw e (fits_parts bytes (front bytes) (front_fits bytes (front bytes) refl utf8))

pub found_fits : (bytes : List ℕ) (x : Option Taken) → IfSome x (λ t. Some t ≡ taken (front bytes)) → IsUtf8 bytes → FitsTaken bytes x
found_fits bytes None e utf8 = tt
found_fits bytes (Some t) e utf8 = taken_fits bytes (Some t) e utf8

back : Option Taken → FrontElement
back None = Stops
back (Some t) = Takes t.len t.kind t.nesting

pub taken_front : (x : FrontElement) (t : Taken) → taken x ≡ Some t → x ≡ Takes t.len t.kind t.nesting
unfolding back
taken_front AtEnd t e = absurd cc
taken_front Stops t e = absurd cc
taken_front (Skips i m) t e = absurd cc
taken_front (Takes i j s) t e = ap back e

no_token_in_line : (n : ℕ) (bytes : List ℕ) → taken (line_end n bytes) ≡ None
no_token_in_line n [] = refl
no_token_in_line n (b ∷ bs) =
    elim (cases_Bool (b == 13 && slice_index bs 0 == 10)) [
      | inl e ↦ rw e refl
      | inr e ↦ rw e refl
    ]

one_test : (t : Bool) (x y z : FrontElement) → (t ≡ true → taken x ≡ taken z) → (t ≡ false → taken y ≡ taken z) → taken (cond t x y) ≡ taken z
one_test true x y z h k = h refl
one_test false x y z h k = k refl

no_token_of : (b k : ℕ) (bs : List ℕ) → (b == k) ≡ true → taken (other_token k (k ∷ bs)) ≡ None → None ≡ taken (other_token b (b ∷ bs))
no_token_of b k bs e none = sym (ap (λ x. taken (other_token x (x ∷ bs))) (eqb-true b k e) ∙ none)

-- Where no name begins, the token at the front is that of its first byte. Ignored text begins with none.
pub token_front : (b : ℕ) (bs : List ℕ) → is_name_start b ≡ false → taken (front (b ∷ bs)) ≡ taken (other_token b (b ∷ bs))
unfolding front other_token comment
token_front b bs n =
    let z = other_token b (b ∷ bs) in
    one_test (b == 9) _ _ z (λ e. no_token_of b 9 bs e refl)
    (λ _. one_test (b == 10) _ _ z (λ e. no_token_of b 10 bs e refl)
    (λ _. one_test (b == 13) _ _ z (λ e. no_token_of b 13 bs e refl)
    (λ _. one_test (b == 32 || b == 44) _ _ z
    (λ e. elim (or_cases (b == 32) (b == 44) e) [
      | inl i ↦ no_token_of b 32 bs i refl
      | inr i ↦ no_token_of b 44 bs i refl
    ])
    (λ _. one_test (is_name_start b) _ _ z (λ e. absurd (both_ways (is_name_start b) n e))
    (λ _. one_test (b == 35) _ _ z (λ e. no_token_in_line _ (drop (prefix_len is_in_line bs) bs) ∙ no_token_of b 35 bs e refl)
    (λ _. one_test (b == 239 && (slice_index bs 0 == 187 && slice_index bs 1 == 191)) _ _ z (λ e. no_token_of b 239 bs (and_parts (b == 239) _ e).0 refl)
    (λ _. refl)))))))

-- where there is no token, the input is empty or no lexical element begins it
pub end_front : (bytes : List ℕ) → length bytes ≡ 0 → front bytes ≡ AtEnd
unfolding front
end_front [] e = refl
end_front (b ∷ bs) e = absurd (omega arith)

stops_by : (bytes : List ℕ) (x : FrontElement) → PieceFits bytes x → taken x ≡ None → IsItem x → 0 < length bytes → x ≡ Stops
stops_by bytes AtEnd h e item some = absurd (omega arith)
stops_by bytes Stops h e item some = refl
stops_by bytes (Skips n m) h e item some = absurd item
stops_by bytes (Takes n k t) h e item some = absurd cc

pub stops_front : (bytes : List ℕ) → taken (front bytes) ≡ None → IsItem (front bytes) → 0 < length bytes → front bytes ≡ Stops
stops_front bytes e item some = stops_by bytes (front bytes) (front_within bytes) e item some

-- ---- the input from the next item on

abbrev spelling_of : Content → List ℕ
spelling_of (TokenContent k value) = value
spelling_of EndOfInput = []
spelling_of (LexicalError bad) = []

-- the spelling of the first item, if that is a token
abbrev spelling : List Item → List ℕ
spelling [] = []
spelling (i ∷ is) = spelling_of i.content

abbrev begins : List Item → Bool
begins [] = false
begins (i ∷ is) = is_token i.content

other_first : (items : List Item) (k : Kind) (value : List ℕ) (place : Where) (more : List Item) → begins items ≡ false
    → items ≡ item_at (TokenContent k value) place ∷ more → ⊥
other_first items k value place more none e = false≢true (sym none ∙ ap begins e)

take_length_take : (n : ℕ) (xs : List ℕ) → take (length (take n xs)) xs ≡ take n xs
take_length_take n xs = rw (length-take n xs) (take_min n xs)

begins_token : (w : Where) (bytes : List ℕ) (n : ℕ) (k : Kind) (t : Nesting) (deep : Bool) (next : List Item)
    → BeginsWithNext (token_then deep (item_at (LexicalError too_deep) w) (item_at (TokenContent k (take n bytes)) w) next) bytes
begins_token w bytes n k t true next kind value place more e = absurd (other_first _ kind value place more refl e)
begins_token w bytes n k t false next kind value place more e =
    let is : value ≡ take n bytes = sym (ap spelling e) in
    rw is (take_length_take n bytes)

begins_by : (w : Where) (bytes : List ℕ) (x : FrontElement) → IsItem x → BeginsWithNext (items_by items w bytes x) bytes
begins_by w bytes AtEnd h k value place more e = absurd (other_first _ k value place more refl e)
begins_by w [] Stops h k value place more e = absurd (other_first _ k value place more refl e)
begins_by w (b ∷ bs) Stops h k value place more e = absurd (other_first _ k value place more refl e)
begins_by w bytes (Skips n m) h k value place more e = absurd h
begins_by w bytes (Takes n k t) h kind value place more e =
    begins_token w bytes n k t (is_too_deep t w) (items (past_token t (take n bytes) w) (drop n bytes)) kind value place more e

pub begins_with_next : (w : Where) (bytes : List ℕ) → IsItem (front bytes) → BeginsWithNext (items w bytes) bytes
begins_with_next w bytes h =
    rw (items_at w bytes (front bytes) refl) (begins_by w bytes (front bytes) h)

-- an input from a place on where an item is, with at most 50 brackets open
pub items_of_rest : (w : Where) (bytes : List ℕ) → IsItem (front bytes) → w.openers ≤ w.closers + 50 → AreItemsOfRest (items w bytes) bytes
items_of_rest w bytes h few = rw (next_place_items w bytes h) (has_items_from w bytes, few)

-- a token opens and closes at most one bracket
one_bracket : (n : Nesting) (k : ℕ) → (openers_after n k ≤ k + 1) × (closers_after n k ≤ k + 1)
one_bracket Unchanged k = (omega arith, omega arith)
one_bracket Opens k = (omega arith, omega arith)
one_bracket Closes k = (omega arith, omega arith)

-- a token that is not too deep leaves at most 50 brackets open
few_open : (n : Nesting) (w : Where) → is_too_deep n w ≡ false → w.openers ≤ w.closers + 50
    → openers_after n w.openers ≤ closers_after n w.closers + 50
few_open Unchanged w deep few = few
few_open Opens w deep few = omega (arith, eqb-false w.openers (w.closers + 50) deep)
few_open Closes w deep few = omega (arith, few)

-- past a token that is not too deep: at most one bracket more is open or closed, and at most 50 are open
pub still_open : (n : Nesting) (w : Where) {o c : ℕ} → is_too_deep n w ≡ false → w.openers ≤ w.closers + 50
    → o ≡ openers_after n w.openers → c ≡ closers_after n w.closers → (o ≤ w.openers + 1) × (c ≤ w.closers + 1) × (o ≤ c + 50)
still_open n w deep few openers closers =
    rw (openers, closers) ((one_bracket n w.openers).0, (one_bracket n w.closers).1, few_open n w deep few)

-- The next item is a token. The other items are those of the rest, which begins after ignored text, at this place.
pub token_then_rest : (w : Where) (text value after rest : List ℕ) (size : ℕ) (t : Taken) (place : Pos) → Some t ≡ taken (front text)
    → is_too_deep t.nesting w ≡ false → value ≡ take t.len text → after ≡ drop t.len text
    → items (further place (length after - length rest) (past_token t.nesting value w)) rest ≡ items (past_token t.nesting value w) after
    → w.offset + length value + (length after - length rest) ≡ size - length rest
    → items w text ≡ item_at (TokenContent t.kind value) w
    ∷ items (record { position = place; offset = size - length rest; openers = openers_after t.nesting w.openers; closers = closers_after t.nesting w.closers })
    rest
token_then_rest w text value after rest size t place is deep value_is after_is more offset =
    let here = items_at w text (Takes t.len t.kind t.nesting) (taken_front (front text) t (sym is)) in
    rw (← offset, more, value_is, after_is) (rw deep at here)

-- ---- plain ignored text

blank : (b : ℕ) (bs : List ℕ) → is_space_or_comma b ≡ true → front (b ∷ bs) ≡ Skips 1 (Over 1)
unfolding front
blank b bs h = rw (differs is_space_or_comma b 9 h refl, differs is_space_or_comma b 10 h refl, differs is_space_or_comma b 13 h refl, h) refl

pub blank_front : (bytes : List ℕ) → is_space_or_comma (get_or bytes 0 0) ≡ true → front bytes ≡ Skips 1 (Over 1)
blank_front [] h = absurd cc
blank_front (b ∷ bs) h = blank b bs h

-- the items after some spaces and commas
pub further_blanks : (w : Where) (place : Pos) (passed : ℕ) (bytes : List ℕ) (n : ℕ) → n ≤ prefix_len is_space_or_comma bytes
    → items (further (moved (Over n) place) (passed + n) w) (drop n bytes) ≡ items (further place passed w) bytes
further_blanks w place passed bytes zero h = rw (add-zero place.column, add-zero passed) refl
further_blanks w place passed [] (suc n) h = absurd (omega arith)
further_blanks w place passed (b ∷ bs) (suc n) h =
    elim (cases_Bool (is_space_or_comma b)) [
      | inl is_blank ↦
          let one : Pos = moved (Over 1) place in
          let column : place.column + 1 + n ≡ place.column + suc n = omega arith in
          let count : passed + 1 + n ≡ passed + suc n = omega arith in
          rw (← column, ← count) (further_blanks w one (passed + 1) bs n (omega (arith, rw is_blank at h))
          ∙ further_skip w place passed (b ∷ bs) 1 (Over 1) (blank b bs is_blank))
      | inr other ↦ absurd (omega (arith, rw other at h))
    ]

-- the items after some spaces
pub further_spaces : (w : Where) (place : Pos) (passed : ℕ) (bytes : List ℕ) (n : ℕ) → n ≤ prefix_len is_space bytes
    → items (further (moved (Over n) place) (passed + n) w) (drop n bytes) ≡ items (further place passed w) bytes
further_spaces w place passed bytes n h =
    further_blanks w place passed bytes n (omega (arith, h, run_widens is_space is_space_or_comma (λ b is. rw is refl) bytes))

feed : (bs : List ℕ) → front (10 ∷ bs) ≡ Skips 1 Down
unfolding front
feed bs = refl

pub feed_front : (bytes : List ℕ) → is_line_feed (get_or bytes 0 0) ≡ true → front bytes ≡ Skips 1 Down
feed_front [] h = absurd cc
feed_front (b ∷ bs) h = ap (λ x. front (x ∷ bs)) (eqb-true b 10 h) ∙ feed bs

tab : (bs : List ℕ) → front (9 ∷ bs) ≡ Skips 1 (Over 8)
unfolding front
tab bs = refl

return : (bs : List ℕ) → front (13 ∷ bs) ≡ Skips 1 Stay
unfolding front
return bs = refl

-- how a space, a comma, a tab or a carriage return moves the position
abbrev pub spacing_move : ℕ → Move
spacing_move b = cond (b == 13) Stay (Over (columns_of b))

pub spacing_front : (bytes : List ℕ) → is_spacing (get_or bytes 0 0) ≡ true → front bytes ≡ Skips 1 (spacing_move (get_or bytes 0 0))
spacing_front [] h = absurd cc
spacing_front (b ∷ bs) h =
    elim (cases_Bool (b == 9)) [
      | inl is_tab ↦ rw (eqb-true b 9 is_tab) (tab bs)
      | inr no_tab ↦ elim (cases_Bool (b == 13)) [
        | inl is_return ↦ rw (eqb-true b 13 is_return) (return bs)
        | inr no_return ↦
            let blank_is : is_space_or_comma b ≡ true = rw (no_tab, no_return) at h in
            rw (no_return, no_tab, blank_is) (blank b bs blank_is)
      ]
    ]

spacing_moves : (b : ℕ) (place : Pos) → moved (spacing_move b) place ≡ moved (Over (columns_of b)) place
spacing_moves b place =
    elim (cases_Bool (b == 13)) [
      | inl is_return ↦ rw (eqb-true b 13 is_return, add-zero place.column) refl
      | inr no_return ↦ rw no_return refl
    ]

-- past a space, a comma, a tab or a carriage return
pub further_spacing : (w : Where) (place : Pos) (passed : ℕ) (bytes : List ℕ) (n : ℕ) → is_spacing (get_or bytes 0 0) ≡ true
    → n ≡ columns_of (get_or bytes 0 0)
    → items (further (moved (Over n) place) (passed + 1) w) (drop 1 bytes) ≡ items (further place passed w) bytes
further_spacing w place passed bytes n h columns =
    let b = get_or bytes 0 0 in
    rw columns (ap (λ p. items (further p (passed + 1) w) (drop 1 bytes)) (sym (spacing_moves b place))
    ∙ further_skip w place passed bytes 1 (spacing_move b) (spacing_front bytes h))

pub columns_most : (b : ℕ) → columns_of b ≤ 8
columns_most b =
    elim (cases_Bool (b == 9)) [
      | inl is_tab ↦ rw is_tab (omega arith)
      | inr no_tab ↦ rw no_tab (elim (cases_Bool (is_space_or_comma b)) [ inl blank_is ↦ rw blank_is (omega arith) | inr other ↦ rw other (omega arith) ])
    ]

-- past one byte of ignored text
past_byte : (bytes : List ℕ) (m : Move) → IsUtf8 bytes → front bytes ≡ Skips 1 m → IsCharBoundary bytes 1
past_byte bytes m utf8 e = (front_fits bytes (Skips 1 m) (sym e) utf8).0.2

pub spacing_boundary : (bytes : List ℕ) → is_spacing (get_or bytes 0 0) ≡ true → IsUtf8 bytes → IsCharBoundary bytes 1
spacing_boundary bytes h utf8 = past_byte bytes _ utf8 (spacing_front bytes h)

pub feed_boundary : (bytes : List ℕ) → is_line_feed (get_or bytes 0 0) ≡ true → IsUtf8 bytes → IsCharBoundary bytes 1
feed_boundary bytes h utf8 = past_byte bytes _ utf8 (feed_front bytes h)

-- a test of the first byte has the result that was found
pub first_decided : (p : ℕ → Bool) (bytes : List ℕ) {byte : ℕ} {found is_true : Bool} → byte ≡ get_or bytes 0 0 → found ≡ p byte → found ≡ is_true
    → p (get_or bytes 0 0) ≡ is_true
first_decided p bytes first found stated = ap p (sym first) ∙ sym found ∙ stated

none_of : (b : ℕ) → can_begin_ignored b ≡ false
    → ((b == 9) ≡ false) × ((b == 10) ≡ false) × ((b == 13) ≡ false) × (is_space_or_comma b ≡ false) × ((b == 35) ≡ false) × ((b == 239) ≡ false)
none_of b h =
    (grind (arith, nat_tests), grind (arith, nat_tests), grind (arith, nat_tests), grind (arith, nat_tests), grind (arith, nat_tests), grind (arith, nat_tests))

at_end : IsItem (front [])
unfolding front
at_end = tt

-- an input that begins with no ignored byte
pub item_front : (bytes : List ℕ) → can_begin_ignored (get_or bytes 0 0) ≡ false → IsItem (front bytes)
item_front [] h = at_end
item_front (b ∷ bs) h =
    let n = none_of b h in
    item_first (front (b ∷ bs)) (no_front b bs n.0 n.1 n.2 n.3 n.4 (rw n.5 refl))

-- what a test of the first byte says
pub ruleset first_bytes = (item_front, spacing_boundary, feed_boundary)
