-- Where the items of an input are: their positions increase, and each item begins at a character of the input.
use Rattle.std.proofs.Common.{◌≡◌, ℕ, zero, suc, ◌<◌, ◌≤◌, Bool, true, false, not, ◌==◌, ◌&&◌, List, [], ◌∷◌, ◌++◌, length, drop, IsUtf8, refl, sym, ap, ◌∙◌}
use Rattle.std.proofs.Common.{subst, Option, Some, None, Result, Ok, Err, ◌⊎◌, inl, inr, arith}
use Rattle.std.proofs.lemmas.List.{take_at}
use Rattle.std.proofs.lemmas.Str.{encodes-chars, IsUtf8-take, IsCharBoundary-start, IsCharBoundary-from_drop}
use Rattle.std.proofs.lemmas.Bool.Decides.{nat_tests}
use Rattle.graphql_core.specs.declared.tokenizer.piece.Move.TheVariants.{Stay, Down, Over}
use Rattle.graphql_core.specs.{moved, past, past_character, past_characters, LexicalError, items_of, Where, Item, item_at, TokenContent, HasItems, start}
use Rattle.graphql_core.specs.{past_ignored, past_token, is_too_deep, token_then, piece_then, NextItem, next_place, too_deep, Meaning, Ignored, TokenOf, IsLexicalElement}
use Rattle.graphql_core.specs.{Piece, IsTokenizedInto}
use Rattle.graphql_core.specs.declared.tokenizer.token.Token.{Token}
use Rattle.graphql_core.specs.declared.tokenizer.piece.Move.{Move}
use Rattle.graphql_core.specs.declared.tokenizer.token.Bad.{Bad}
use Rattle.std.specs.Str.{chars, IsCharBoundary}
use Rattle.graphql_core.specs.declared.position.Pos.{Pos}
use Rattle.graphql_core.specs.declared.tokenizer.piece.Nesting.{Nesting}
use Rattle.graphql_core.specs.declared.tokenizer.token.Kind.{Kind}
use Rattle.graphql_core.proofs.sources.TokenPlaces.{IsAt, part, rest_at}

-- ---- the order of positions

abbrev pub Before : Pos → Pos → Type 0
Before p q = (p.line < q.line) ⊎ ((p.line ≡ q.line) × (p.column < q.column))

abbrev pub NotAfter : Pos → Pos → Type 0
NotAfter p q = (p.line < q.line) ⊎ ((p.line ≡ q.line) × (p.column ≤ q.column))

stays : (p : Pos) → NotAfter p p
stays p = inr (refl, omega arith)

then_not_after : (p q r : Pos) → NotAfter p q → NotAfter q r → NotAfter p r
then_not_after p q r (inl a) (inl b) = inl (omega (arith, a, b))
then_not_after p q r (inl a) (inr b) = inl (omega (arith, a, b.0))
then_not_after p q r (inr a) (inl b) = inl (omega (arith, a.0, b))
then_not_after p q r (inr a) (inr b) = inr (a.0 ∙ b.0, omega (arith, a.1, b.1))

then_before : (p q r : Pos) → Before p q → NotAfter q r → Before p r
then_before p q r (inl a) (inl b) = inl (omega (arith, a, b))
then_before p q r (inl a) (inr b) = inl (omega (arith, a, b.0))
then_before p q r (inr a) (inl b) = inl (omega (arith, a.0, b))
then_before p q r (inr a) (inr b) = inr (a.0 ∙ b.0, omega (arith, a.1, b.1))

before_not_after : (p q : Pos) → Before p q → NotAfter p q
before_not_after p q (inl a) = inl a
before_not_after p q (inr a) = inr (a.0, omega (arith, a.1))

never_before : (p q : Pos) → p ≡ q → Before p q → ⊥
never_before p q e (inl a) = omega (arith, a, ap (λ (r : Pos). r.line) e)
never_before p q e (inr a) = omega (arith, a.1, ap (λ (r : Pos). r.column) e)

pub other_position : (p q : Pos) → not (p.line == q.line && p.column == q.column) ≡ true → p ≡ q → ⊥
other_position p q h e =
    let line = ap (λ (r : Pos). r.line) e in
    let column = ap (λ (r : Pos). r.column) e in
    absurd (grind (arith, nat_tests))

pub same_position : (p q : Pos) → not (p.line == q.line && p.column == q.column) ≡ false → p ≡ q
same_position p q h =
    let line : p.line ≡ q.line = grind (arith, nat_tests) in
    let column : p.column ≡ q.column = grind (arith, nat_tests) in
    λ i. record { line = line i; column = column i }

-- ---- positions after input

passed_move : (m : Move) (p : Pos) → NotAfter p (moved m p)
passed_move Stay p = stays p
passed_move (Over n) p = inr (refl, omega arith)
passed_move Down p = inl (omega arith)

passed_character : (c : ℕ) (p : Pos) → Before p (past_character c p)
passed_character c p = by (c == 10) refl
  where
    by : (b : Bool) → (c == 10) ≡ b → Before p (past_character c p)
    by true e = rw e (inl (omega arith))
    by false e = rw e (inr (refl, omega arith))

passed_characters : (cs : List ℕ) (p : Pos) → NotAfter p (past_characters cs p)
passed_characters [] p = stays p
passed_characters (c ∷ cs) p =
    then_not_after p _ _ (before_not_after p _ (passed_character c p)) (passed_characters cs (past_character c p))

passed_some : (c : ℕ) (cs : List ℕ) (p : Pos) → Before p (past_characters (c ∷ cs) p)
passed_some c cs p = then_before p _ _ (passed_character c p) (passed_characters cs (past_character c p))

-- ---- the items

-- an item begins at a character boundary of the input, or is at its end
abbrev pub IsSeam : List ℕ → ℕ → Type 0
IsSeam whole n = (n ≤ length whole) × IsUtf8 (drop n whole)

abbrev pub AllAfter : Pos → List Item → Type 0
AllAfter p [] = Unit {0}
AllAfter p (i ∷ is) = Before p i.place.position × AllAfter p is

abbrev AllFrom : Pos → List Item → Type 0
AllFrom p [] = Unit {0}
AllFrom p (i ∷ is) = NotAfter p i.place.position × AllFrom p is

-- each item is at such a boundary, and all items after it have later positions
abbrev pub Rise : List ℕ → List Item → Type 0
Rise whole [] = Unit {0}
Rise whole (i ∷ is) = IsSeam whole i.place.offset × AllAfter i.place.position is × Rise whole is

all_after : (p q : Pos) (is : List Item) → Before p q → AllFrom q is → AllAfter p is
all_after p q [] b h = tt
all_after p q (i ∷ is) b h = (then_before p q i.place.position b h.0, all_after p q is b h.1)

all_from : (p q : Pos) (is : List Item) → NotAfter p q → AllFrom q is → AllFrom p is
all_from p q [] b h = tt
all_from p q (i ∷ is) b h = (then_not_after p q i.place.position b h.0, all_from p q is b h.1)

abbrev From : List ℕ → Where → List Item → Type 0
From whole w is = AllFrom w.position is × Rise whole is

-- a token advances the position
some_characters : (cs bytes : List ℕ) (p : Pos) → chars bytes ≡ cs → IsUtf8 bytes → 0 < length bytes → Before p (past_characters cs p)
some_characters [] bytes p is utf8 some = let none = rw is at (encodes-chars bytes utf8) in absurd (omega (arith, some, ap length none))
some_characters (c ∷ cs) bytes p is utf8 some = passed_some c cs p

passed_token : (k : Kind) (t : Nesting) (bytes rest : List ℕ) (p : Pos) → IsLexicalElement bytes (TokenOf k t) rest → IsUtf8 (bytes ++ rest) → Before p (past bytes p)
passed_token k t bytes rest p st utf8 =
    let h = part (TokenOf k t) bytes rest st in
    let own = subst IsUtf8 (take_at bytes rest (length bytes) refl) (IsUtf8-take (bytes ++ rest) (length bytes) utf8 (h.2 utf8)) in
    some_characters (chars bytes) bytes p refl own h.0

piece_from : (m : Meaning) (bytes rest whole : List ℕ) (w : Where) (more : Where → List Item) → IsLexicalElement bytes m rest → IsAt whole w (bytes ++ rest)
    → ((v : Where) → IsAt whole v rest → From whole v (more v)) → From whole w (piece_then m more w bytes)
piece_from (Ignored m) bytes rest whole w more st at f =
    let v : Where = past_ignored m (length bytes) w in
    let h = f v (rest_at (Ignored m) bytes rest whole w v st at refl) in
    (all_from w.position v.position (more v) (passed_move m w.position) h.0, h.1)
piece_from (TokenOf k t) bytes rest whole w more st at f = by (is_too_deep t w)
  where
    v : Where
    v = past_token t bytes w

    seam : IsSeam whole w.offset
    seam = (at.0, subst IsUtf8 (sym at.1) at.2)

    by : (b : Bool) → From whole w (token_then b (item_at (LexicalError too_deep) w) (item_at (TokenContent k bytes) w) (more v))
    by true = ((stays w.position, tt), (seam, tt, tt))
    by false =
        let h = f v (rest_at (TokenOf k t) bytes rest whole w v st at refl) in
        let b = passed_token k t bytes rest w.position st at.2 in (
          (stays w.position, all_from w.position v.position (more v) (before_not_after w.position v.position b) h.0),
          (seam, all_after w.position v.position (more v) b h.0, h.1),
        )

items_from : (ps : List Piece) (whole text stop : List ℕ) (w : Where) → IsTokenizedInto text ps stop → IsAt whole w text → From whole w (items_of w ps stop)
unfolding items_of
items_from [] whole text [] w (e, none) at = ((stays w.position, tt), ((at.0, subst IsUtf8 (sym at.1) at.2), tt, tt))
items_from [] whole text (b ∷ bs) w (e, none) at = ((stays w.position, tt), ((at.0, subst IsUtf8 (sym at.1) at.2), tt, tt))
items_from (q ∷ qs) whole text stop w (rest, e, st, more) at =
    piece_from q.meaning q.bytes rest whole w (λ v. items_of v qs stop) st (subst (IsAt whole w) e at) (λ v h. items_from qs whole rest stop v more h)

-- the positions of the items of an input increase
pub items_rise : (text : List ℕ) (items : List Item) → IsUtf8 text → HasItems text items → Rise text items
items_rise text items utf8 (pieces, stop, tokenized, e) =
    subst (Rise text) (sym e) (items_from pieces text text stop start tokenized (omega arith, refl, utf8)).1

-- ---- at most one item at a position

-- an item of the list at this position has this offset
abbrev pub HasItemAt : List Item → Pos → ℕ → Type 0
HasItemAt items p o = (n : ℕ) × (n < length items) × ((next_place (drop n items)).position ≡ p) × ((next_place (drop n items)).offset ≡ o)

later : (p : Pos) (items : List Item) (n : ℕ) → AllAfter p items → n < length items → Before p (next_place (drop n items)).position
later p [] n h some = absurd (omega (arith, some))
later p (i ∷ is) zero h some = h.0
later p (i ∷ is) (suc n) h some = later p is n h.1 (omega (arith, some))

pub holds_first : (whole : List ℕ) (items : List Item) (p : Pos) (o : ℕ) → Rise whole items → HasItemAt items p o → (next_place items).position ≡ p
    → (next_place items).offset ≡ o
holds_first whole [] p o rise (n, some, at, is) e = absurd (omega (arith, some))
holds_first whole (i ∷ is) p o rise (zero, some, at, offset) e = offset
holds_first whole (i ∷ is) p o rise (suc n, some, at, offset) e =
    absurd (never_before i.place.position _ (e ∙ sym at) (later i.place.position is n rise.1 (omega (arith, some))))

holds_later : (i : Item) (is : List Item) (p : Pos) (o : ℕ) → HasItemAt (i ∷ is) p o → (i.place.position ≡ p → ⊥) → HasItemAt is p o
holds_later i is p o (zero, some, at, offset) other = absurd (other at)
holds_later i is p o (suc n, some, at, offset) other = (n, omega (arith, some), at, offset)

-- no item is left after the last one
only_item : (old : List Item) (i : Item) (p : Pos) (o : ℕ) → old ≡ i ∷ [] → HasItemAt old p o → ((next_place old).position ≡ p → ⊥) → ⊥
only_item old i p o is h other =
    let (n, some, rest, offset) = holds_later i [] p o (subst (λ (l : List Item). HasItemAt l p o) is h)
    (λ e. other (ap (λ (l : List Item). (next_place l).position) is ∙ e)) in
    omega (arith, some)

-- past the next item
pub rise_on : (whole : List ℕ) (old new : List Item) (r : Result (Option Token) Bad) → NextItem old r new → Rise whole old → Rise whole new
rise_on whole old new (Ok (Some t)) (w, is) rise = (subst (Rise whole) is rise).2
rise_on whole old new (Ok None) (w, is, same) rise = subst (Rise whole) (sym same) rise
rise_on whole old new (Err b) (w, is, same) rise = subst (Rise whole) (sym same) rise

pub holds_on : (old new : List Item) (r : Result (Option Token) Bad) (p : Pos) (o : ℕ) → NextItem old r new → HasItemAt old p o
    → ((next_place old).position ≡ p → ⊥) → HasItemAt new p o
holds_on old new (Ok (Some t)) p o (w, is) h other =
    holds_later _ new p o (subst (λ (l : List Item). HasItemAt l p o) is h) (λ e. other (ap (λ (l : List Item). (next_place l).position) is ∙ e))
holds_on old new (Ok None) p o (w, is, same) h other = absurd (only_item old _ p o is h other)
holds_on old new (Err b) p o (w, is, same) h other = absurd (only_item old _ p o is h other)

-- an item begins at a character boundary of the input
pub boundary : (whole : List ℕ) (items : List Item) → IsUtf8 whole → Rise whole items → IsCharBoundary whole (next_place items).offset
boundary whole [] utf8 rise = IsCharBoundary-start whole utf8
boundary whole (i ∷ is) utf8 rise = IsCharBoundary-from_drop whole i.place.offset rise.0.0 rise.0.1
