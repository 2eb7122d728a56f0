-- Items are tokens, and then one last item.
use Rattle.std.proofs.Common.{◌≡◌, ℕ, Bool, true, false, List, [], ◌∷◌, refl, sym, ap, subst}
use Rattle.graphql_core.specs.{Piece, Meaning, Ignored, TokenOf, Where, Item, EndsOnce, HasItems, is_token, is_too_deep}
use Rattle.graphql_core.specs.{items_of, last_item, piece_then, token_then}

alone : (i : Item) → is_token i.content ≡ false → EndsOnce (i ∷ [])
alone i e = record { tokens = []; last = i; all = refl; before = refl; ends = e }

last_ends : (w : Where) (stop : List ℕ) → EndsOnce (last_item w stop ∷ [])
last_ends w [] = alone _ refl
last_ends w (b ∷ bs) = alone _ refl

token_ends : (deep : Bool) (bad token : Item) (more : List Item) → is_token bad.content ≡ false → is_token token.content ≡ true → EndsOnce more
    → EndsOnce (token_then deep bad token more)
token_ends true bad token more b t e = alone bad b
token_ends false bad token more b t e =
    record { tokens = token ∷ e.tokens; last = e.last; all = ap (λ l. token ∷ l) e.all; before = rw (t, e.before) refl; ends = e.ends }

piece_ends : (m : Meaning) (more : Where → List Item) (w : Where) (bytes : List ℕ) → ((v : Where) → EndsOnce (more v)) → EndsOnce (piece_then m more w bytes)
piece_ends (Ignored m) more w bytes e = e _
piece_ends (TokenOf k t) more w bytes e = token_ends (is_too_deep t w) _ _ _ refl refl (e _)

pieces_end : (w : Where) (pieces : List Piece) (stop : List ℕ) → EndsOnce (items_of w pieces stop)
unfolding items_of
pieces_end w [] stop = last_ends w stop
pieces_end w (p ∷ ps) stop = piece_ends p.meaning (λ v. items_of v ps stop) w p.bytes (λ v. pieces_end v ps stop)

pub end_once : (text : List ℕ) (items : List Item) → HasItems text items → EndsOnce items
end_once text items (pieces, stop, tokenized, same) = subst EndsOnce (sym same) (pieces_end _ pieces stop)
