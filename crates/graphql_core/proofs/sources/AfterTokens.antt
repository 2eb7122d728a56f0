-- The position of the item that follows some tokens of an input.
use Rattle.std.proofs.Common.{◌≡◌, ℕ, ◌<◌, Bool, true, false, List, [], ◌∷◌, ◌++◌, length, drop, refl, sym, ap, subst, ◌∙◌, arith}
use Rattle.graphql_core.specs.{EndOfInput, LexicalError, Content, items_of, Where, Item, item_at, TokenContent, HasItems, start, past_ignored, past_token}
use Rattle.graphql_core.specs.{is_too_deep, token_then, piece_then, tokens_then, split, place_of, place_next, Token, Place, too_deep, Meaning, Ignored, TokenOf}
use Rattle.graphql_core.specs.{Piece, next_place}
use Rattle.graphql_core.specs.declared.position.Pos.{Pos}

abbrev pub HasMore : List Item → Type 0
HasMore is = length (split is).tokens < length is

token_has_more : (b : Bool) (bad w : Where) (k : _) (bytes : List ℕ) (more : List Item) → HasMore more
    → HasMore (token_then b (item_at (LexicalError too_deep) bad) (item_at (TokenContent k bytes) w) more)
token_has_more true bad w k bytes more h = omega arith
token_has_more false bad w k bytes more h = omega (arith, h)

piece_has_more : (m : Meaning) (more : Where → List Item) (w : Where) (bytes : List ℕ) → ((v : Where) → HasMore (more v)) → HasMore (piece_then m more w bytes)
piece_has_more (Ignored m) more w bytes f = f (past_ignored m (length bytes) w)
piece_has_more (TokenOf k t) more w bytes f = token_has_more (is_too_deep t w) w w k bytes (more (past_token t bytes w)) (f (past_token t bytes w))

-- after the tokens comes one more item
has_more : (ps : List Piece) (stop : List ℕ) (w : Where) → HasMore (items_of w ps stop)
unfolding items_of
has_more [] [] w = omega arith
has_more [] (b ∷ bs) w = omega arith
has_more (q ∷ qs) stop w = piece_has_more q.meaning (λ v. items_of v qs stop) w q.bytes (λ v. has_more qs stop v)

pub more_items : (text : List ℕ) (is : List Item) → HasItems text is → HasMore is
more_items text is (pieces, stop, tokenized, e) = subst HasMore (sym e) (has_more pieces stop start)

-- where the next item of a list begins
first_place : (c : Content) (w : Where) (is : List Item) → place_next (split (item_at c w ∷ is)) ≡ place_of w.position
first_place (TokenContent k bytes) w is = refl
first_place EndOfInput w is = refl
first_place (LexicalError b) w is = refl

-- an item after a token
past_first : (c : Content) (w : Where) (is : List Item) (t : Token) (ts others : List Token) (p : Place) → (split (item_at c w ∷ is)).tokens ≡ t ∷ ts
    → ((split is).tokens ≡ ts → place_next (tokens_then others (split is).last) ≡ p) → place_next (tokens_then others (split (item_at c w ∷ is)).last) ≡ p
past_first (TokenContent k bytes) w is t ts others p e f = f (ap (drop 1) e)
past_first EndOfInput w is t ts others p e f = absurd cc
past_first (LexicalError b) w is t ts others p e f = absurd cc

-- where the item after some tokens begins
pub place_after : (is : List Item) (front others : List Token) → (split is).tokens ≡ front ++ others → length front < length is
    → place_next (tokens_then others (split is).last) ≡ place_of (next_place (drop (length front) is)).position
place_after [] front others e some = absurd (omega (arith, some))
place_after (i ∷ is) [] others e some =
    ap (λ (ts : List Token). place_next (tokens_then ts (split (i ∷ is)).last)) (sym e) ∙ first_place i.content i.place is
place_after (i ∷ is) (t ∷ front) others e some =
    past_first i.content i.place is t (front ++ others) others _ e (λ parts. place_after is front others parts (omega (arith, some)))

pub one_position : (p q : Pos) → place_of p ≡ place_of q → p ≡ q
one_position p q e =
    let line : p.line ≡ q.line = ap (λ (r : Place). r.line) e in
    let column : p.column ≡ q.column = ap (λ (r : Place). r.column) e in
    λ i. record { line = line i; column = column i }
