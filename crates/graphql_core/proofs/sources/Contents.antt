-- Items without their positions. They depend on the brackets that are open before the input, and not on its position.
use Rattle.std.specs.Str.{IsCharBoundary}
use Rattle.std.specs.List.{prefix_len}
use Rattle.std.proofs.Common.{◌≡◌, ℕ, zero, suc, ◌+◌, ◌-◌, ◌<◌, ◌≤◌, Bool, true, false, List, [], ◌∷◌, Some}
use Rattle.std.proofs.Common.{length, take, drop, get_or, IsUtf8, refl, sym, ap, subst, ◌∙◌, arith, inl, inr}
use Rattle.std.proofs.lemmas.Bool.Decides.{nat_tests}
use Rattle.std.proofs.lemmas.List.Sums.{prefix_len-le-length, prefix_len_passes}
use Rattle.std.proofs.lemmas.Str.{IsCharBoundary-start, IsCharBoundary-after_ascii}
use Rattle.std.proofs.lemmas.Bool.{cases_Bool}
use Rattle.graphql_core.specs.declared.position.Pos.{Pos}
use Rattle.graphql_core.specs.declared.tokenizer.token.Kind.{Kind}
use Rattle.graphql_core.specs.declared.tokenizer.piece.Move.{Move}
use Rattle.graphql_core.specs.declared.tokenizer.piece.Move.TheVariants.{Over, Down}
use Rattle.graphql_core.specs.declared.tokenizer.piece.Nesting.{Nesting}
use Rattle.graphql_core.specs.declared.tokenizer.piece.Nesting.TheVariants.{Unchanged, Opens, Closes}
use Rattle.graphql_core.specs.declared.tokenizer.piece.Taken.{Taken}
use Rattle.graphql_core.specs.steps.Front.{FrontElement, AtEnd, Skips, Takes, Stops}
use Rattle.graphql_core.specs.{Where, Item, Content, item_at, TokenContent, LexicalError, is_too_deep, openers_after, closers_after, past_token, past_ignored}
use Rattle.graphql_core.specs.{last_item, token_then, contents, taken, is_space, is_space_or_comma, is_gap, HasContentsOf}
use Rattle.graphql_core.specs.{SkipsTo, further, too_deep, items, items_in, items_by, front}
use Rattle.graphql_core.proofs.lexical.{items_at, items_skip, taken_front, blank_front, feed_front, run_widens}

-- equally many brackets were opened and closed before both
abbrev pub SameBrackets : Where → Where → Type 0
SameBrackets w v = (w.openers ≡ v.openers) × (w.closers ≡ v.closers)

same_depth : (t : Nesting) (w v : Where) → SameBrackets w v → is_too_deep t w ≡ is_too_deep t v
same_depth Unchanged w v e = refl
same_depth Opens w v e = rw (e.0, e.1) refl
same_depth Closes w v e = refl

same_token : (deep : Bool) (w v : Where) (k : Kind) (value : List ℕ) (more others : List Item) → contents more ≡ contents others
    → contents (token_then deep (item_at (LexicalError too_deep) w) (item_at (TokenContent k value) w) more)
    ≡ contents (token_then deep (item_at (LexicalError too_deep) v) (item_at (TokenContent k value) v) others)
same_token true w v k value more others e = refl
same_token false w v k value more others e = ap (λ (cs : List Content). TokenContent k value ∷ cs) e

same_last : (w v : Where) (bytes : List ℕ) → contents (last_item w bytes ∷ []) ≡ contents (last_item v bytes ∷ [])
same_last w v [] = refl
same_last w v (b ∷ bs) = refl

same_by : (f : Where → List ℕ → List Item) → ((w v : Where) (bytes : List ℕ) → SameBrackets w v → contents (f w bytes) ≡ contents (f v bytes))
    → (w v : Where) (bytes : List ℕ) (x : FrontElement) → SameBrackets w v → contents (items_by f w bytes x) ≡ contents (items_by f v bytes x)
same_by f same w v bytes AtEnd e = refl
same_by f same w v bytes Stops e = same_last w v bytes
same_by f same w v bytes (Skips n m) e = same (past_ignored m n w) (past_ignored m n v) (drop n bytes) e
same_by f same w v bytes (Takes n k t) e =
    rw (same_depth t w v e) (same_token (is_too_deep t v) w v k (take n bytes) _ _
    (same (past_token t (take n bytes) w) (past_token t (take n bytes) v) (drop n bytes) (ap (openers_after t) e.0, ap (closers_after t) e.1)))

same_in : (n : ℕ) (w v : Where) (bytes : List ℕ) → SameBrackets w v → contents (items_in n w bytes) ≡ contents (items_in n v bytes)
unfolding items_in
same_in zero w v bytes e = refl
same_in (suc n) w v bytes e = same_by (items_in n) (same_in n) w v bytes (front bytes) e

pub same_contents : (w v : Where) (bytes : List ℕ) → SameBrackets w v → contents (items w bytes) ≡ contents (items v bytes)
unfolding items
same_contents w v bytes e = same_in (length bytes) w v bytes e

-- past ignored text
pub skip_contents : (bytes : List ℕ) (n : ℕ) (m : Move) → front bytes ≡ Skips n m → HasContentsOf (drop n bytes) bytes
skip_contents bytes n m e w =
    same_contents w (past_ignored m n w) (drop n bytes) (refl, refl) ∙ ap contents (items_skip w bytes n m e)

-- past ignored text
pub skips_contents : (text : List ℕ) (at : Pos) (rest : List ℕ) (place : Pos) → SkipsTo text at rest place
    → HasContentsOf rest text
skips_contents text at rest place skips w =
    let here : Where = record { position = at; offset = w.offset; openers = w.openers; closers = w.closers } in
    let there = further place (length text - length rest) here in
    same_contents w there rest (refl, refl) ∙ ap contents (skips.0 here refl) ∙ same_contents here w text (refl, refl)

-- past one space, comma or line feed
one_gap : (b : ℕ) (bs : List ℕ) → is_gap b ≡ true → HasContentsOf bs (b ∷ bs)
one_gap b bs gap w =
    elim (cases_Bool (is_space_or_comma b)) [
      | inl blank ↦ skip_contents (b ∷ bs) 1 (Over 1) (blank_front (b ∷ bs) blank) w
      | inr other ↦ skip_contents (b ∷ bs) 1 Down (feed_front (b ∷ bs) (rw other at gap)) w
    ]

-- past spaces, commas and line feeds
pub gap_contents : (n : ℕ) (bytes : List ℕ) → n ≤ prefix_len is_gap bytes → HasContentsOf (drop n bytes) bytes
gap_contents zero bytes h w = refl
gap_contents (suc n) [] h w = refl
gap_contents (suc n) (b ∷ bs) h w =
    elim (cases_Bool (is_gap b)) [
      | inl gap ↦ gap_contents n bs (omega (arith, rw gap at h)) w ∙ one_gap b bs gap w
      | inr other ↦ absurd (omega (arith, rw other at h))
    ]

-- runs of spaces, and of spaces and commas, are within that run
pub spaces_gap : (bytes : List ℕ) → prefix_len is_space bytes ≤ prefix_len is_gap bytes
spaces_gap bytes = run_widens is_space is_gap (λ b is. rw is refl) bytes

pub blanks_gap : (bytes : List ℕ) → prefix_len is_space_or_comma bytes ≤ prefix_len is_gap bytes
blanks_gap bytes = run_widens is_space_or_comma is_gap (λ b is. rw is refl) bytes

gap_ascii : (b : ℕ) → is_gap b ≡ true → b < 128
gap_ascii b h = grind (arith, nat_tests)

pub gap_boundary : (bytes : List ℕ) (n : ℕ) → IsUtf8 bytes → n ≤ prefix_len is_gap bytes → IsCharBoundary bytes n
gap_boundary bytes zero utf8 h = IsCharBoundary-start bytes utf8
gap_boundary bytes (suc n) utf8 h =
    let last : get_or bytes n 0 < 128 = gap_ascii _ (prefix_len_passes is_gap bytes n 0 (omega arith)) in
    let more : n + 1 ≡ suc n = omega arith in
    subst (IsCharBoundary bytes) more (IsCharBoundary-after_ascii bytes n utf8 (omega (arith, prefix_len-le-length is_gap bytes)) last)

-- the next item is a token; the others are those of the rest, ignoring positions
pub lexeme_then_rest : (w v : Where) (text value after rest : List ℕ) (t : Taken) → Some t ≡ taken (front text)
    → is_too_deep t.nesting w ≡ false → value ≡ take t.len text → after ≡ drop t.len text → HasContentsOf rest after
    → v.openers ≡ openers_after t.nesting w.openers → v.closers ≡ closers_after t.nesting w.closers
    → (x : Where) × (more : List Item) × (items w text ≡ item_at (TokenContent t.kind value) x ∷ more) × (contents (items v rest) ≡ contents more)
lexeme_then_rest w v text value after rest t is deep value_is after_is left openers closers =
    let here = items_at w text (Takes t.len t.kind t.nesting) (taken_front (front text) t (sym is)) in
    let next = past_token t.nesting value w in
    (w, items next after, rw (value_is, after_is) (rw deep at here), left v ∙ same_contents v next after (openers, closers))
