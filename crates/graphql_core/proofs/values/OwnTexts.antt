-- The rest of an input from an item on, as an input itself.
use Rattle.std.proofs.Common.{◌≡◌, ℕ, ◌+◌, Bool, true, false, List, [], ◌∷◌, ◌++◌, length, drop, refl, sym, ap, subst, ◌∙◌, arith}
use Rattle.graphql_core.specs.{LexicalError, items_of, TokenContent, past_ignored, past_token, is_too_deep, token_then, piece_then, item_at, Where, Item}
use Rattle.graphql_core.specs.{HasItems, start, token_of, split, IsEnd, too_deep, Meaning, Ignored, TokenOf, IsLexicalElement, Piece, IsTokenizedInto, Token, next_place}
use Rattle.graphql_core.specs.{unplaced}
use Rattle.graphql_core.specs.declared.tokenizer.piece.Nesting.TheVariants.{Opens, Closes, Unchanged}
use Rattle.graphql_core.specs.declared.tokenizer.piece.Nesting.{Nesting}
use Rattle.graphql_core.proofs.values.NestingDepth.{past_bytes}
use Rattle.std.proofs.lemmas.Bool.Decides.{nat_tests}
use Rattle.graphql_core.specs.declared.tokenizer.token.Kind.{Kind}
use Rattle.graphql_core.proofs.values.TreesAlike.{Alike}

-- ---- the same lexical elements at two places

-- the same number of brackets is open before both places
abbrev pub AsDeep : Where → Where → Type 0
AsDeep v w = v.openers + w.closers ≡ w.openers + v.closers

deep_alike : (s : Nesting) (v w : Where) → AsDeep v w → is_too_deep s v ≡ is_too_deep s w
deep_alike Unchanged v w e = refl
deep_alike Opens v w e = grind (arith, nat_tests)
deep_alike Closes v w e = refl

deep_after : (s : Nesting) (bytes : List ℕ) (v w : Where) → AsDeep v w → AsDeep (past_token s bytes v) (past_token s bytes w)
deep_after Unchanged bytes v w e = e
deep_after Opens bytes v w e = omega (arith, e)
deep_after Closes bytes v w e = omega (arith, e)

-- their tokens are equal ignoring positions, and if the second list has an end, so does the first
abbrev pub AreTokenizedAlike : List Item → List Item → Type 0
AreTokenizedAlike is js = Alike (split is).tokens (split js).tokens × (IsEnd (split js).last → IsEnd (split is).last)

token_alike : (b : Bool) (k : Kind) (bytes : List ℕ) (v w : Where) (is js : List Item) → AreTokenizedAlike is js
    → AreTokenizedAlike (token_then b (item_at (LexicalError too_deep) v) (item_at (TokenContent k bytes) v) is)
    (token_then b (item_at (LexicalError too_deep) w) (item_at (TokenContent k bytes) w) js)
token_alike true k bytes v w is js h = (refl, λ e. e)
token_alike false k bytes v w is js (same, end) = (ap (λ (ts : List Token). unplaced (token_of w.position k bytes) ∷ ts) same, end)

piece_alike : (m : Meaning) (bytes : List ℕ) (v w : Where) (more : Where → List Item) → AsDeep v w
    → ((a b : Where) → AsDeep a b → AreTokenizedAlike (more a) (more b)) → AreTokenizedAlike (piece_then m more v bytes) (piece_then m more w bytes)
piece_alike (Ignored m) bytes v w more e h = h (past_ignored m (length bytes) v) (past_ignored m (length bytes) w) e
piece_alike (TokenOf k s) bytes v w more e h =
    rw (deep_alike s v w e)
    (token_alike (is_too_deep s w) k bytes v w (more (past_token s bytes v)) (more (past_token s bytes w)) (h _ _ (deep_after s bytes v w e)))

tokenized_alike : (ps : List Piece) (stop : List ℕ) (v w : Where) → AsDeep v w → AreTokenizedAlike (items_of v ps stop) (items_of w ps stop)
unfolding items_of
tokenized_alike [] [] v w e = (refl, λ h. h)
tokenized_alike [] (b ∷ bs) v w e = (refl, λ h. h)
tokenized_alike (q ∷ qs) stop v w e = piece_alike q.meaning q.bytes v w (λ a. items_of a qs stop) e (λ a b. tokenized_alike qs stop a b)

-- ---- the rest as an input

-- The input from the next of these items on has the same items, ignoring positions. At the end it is empty.
pub record OfItsOwn (whole : List ℕ) (is : List Item) : Type 0 where
  pub items : List Item
  pub has : HasItems (drop (next_place is).offset whole) items
  pub alike : AreTokenizedAlike items is
  pub empty : (split is).tokens ≡ [] → IsEnd (split is).last → drop (next_place is).offset whole ≡ []

-- the next item is where the lexical elements begin
from_here : (ps : List Piece) (text stop whole : List ℕ) (w : Where) (is : List Item) → IsTokenizedInto text ps stop → drop w.offset whole ≡ text
    → w.openers ≡ w.closers → is ≡ items_of w ps stop → next_place is ≡ w → ((split is).tokens ≡ [] → IsEnd (split is).last → text ≡ []) → OfItsOwn whole is
from_here ps text stop whole w is tokenized there level same next empty =
    let begins = ap (λ (v : Where). drop v.offset whole) next ∙ there in
    record {
      items = items_of start ps stop;
      has = (ps, stop, subst (λ (l : List ℕ). IsTokenizedInto l ps stop) (sym begins) tokenized, refl);
      alike = subst (AreTokenizedAlike (items_of start ps stop)) (sym same) (tokenized_alike ps stop start w (omega (arith, level)));
      empty = λ none end. begins ∙ empty none end;
    }

token_next : (b : Bool) (bad token : List ℕ) (k : Kind) (bytes : List ℕ) (w : Where) (more : List Item)
    → next_place (token_then b (item_at (LexicalError too_deep) w) (item_at (TokenContent k bytes) w) more) ≡ w
token_next true bad token k bytes w more = refl
token_next false bad token k bytes w more = refl

token_is_some : (b : Bool) (k : Kind) (bytes : List ℕ) (w : Where) (more : List Item)
    → (split (token_then b (item_at (LexicalError too_deep) w) (item_at (TokenContent k bytes) w) more)).tokens ≡ []
    → IsEnd (split (token_then b (item_at (LexicalError too_deep) w) (item_at (TokenContent k bytes) w) more)).last → ⊥
token_is_some true k bytes w more e end = end
token_is_some false k bytes w more e end = absurd cc

from_piece : (m : Meaning) (bytes rest text stop whole : List ℕ) (qs : List Piece) (w : Where) → text ≡ bytes ++ rest → IsLexicalElement bytes m rest
    → IsTokenizedInto rest qs stop → drop w.offset whole ≡ text → w.openers ≡ w.closers
    → ((v : Where) → drop v.offset whole ≡ rest → v.openers ≡ v.closers → OfItsOwn whole (items_of v qs stop))
    → OfItsOwn whole (piece_then m (λ v. items_of v qs stop) w bytes)
unfolding items_of
from_piece (Ignored m) bytes rest text stop whole qs w e st tokenized there level h =
    h (past_ignored m (length bytes) w) (past_bytes w.offset whole bytes rest (there ∙ e)) level
from_piece (TokenOf k s) bytes rest text stop whole qs w e st tokenized there level h =
    let more = items_of (past_token s bytes w) qs stop in
    from_here (record { bytes = bytes; meaning = TokenOf k s } ∷ qs) text stop whole w _ (rest, e, st, tokenized) there level refl
    (token_next (is_too_deep s w) [] [] k bytes w more) (λ none end. absurd (token_is_some (is_too_deep s w) k bytes w more none end))

pub own_text : (ps : List Piece) (text stop whole : List ℕ) (w : Where) → IsTokenizedInto text ps stop → drop w.offset whole ≡ text → w.openers ≡ w.closers
    → OfItsOwn whole (items_of w ps stop)
unfolding items_of
own_text [] text [] whole w tokenized there level = from_here [] text [] whole w _ tokenized there level refl refl (λ none end. tokenized.0)
own_text [] text (b ∷ bs) whole w tokenized there level = from_here [] text (b ∷ bs) whole w _ tokenized there level refl refl (λ none end. absurd end)
own_text (q ∷ qs) text stop whole w (rest, e, st, tokenized) there level =
    from_piece q.meaning q.bytes rest text stop whole qs w e st tokenized there level (λ v at even. own_text qs rest stop whole v tokenized at even)
