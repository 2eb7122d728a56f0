-- The errors and the document of a new stream are those of its input.
use Rattle.std.proofs.Common.{◌≡◌, ℕ, ◌≤◌, List, length, Result, sym, ap}
use Rattle.graphql_core.specs.{HasItems, Item, Stream, ParseFailure, Language, ParsesDocument, ParsesStream, max_length, split, IsReadable}
use Rattle.graphql_core.proofs.{parsed}

pub parsed_whole : {D V : Type 0} {l : Language D} {view : V → D} {text : List ℕ} {old new : Stream} {r : Result V ParseFailure} → IsReadable l
    → length text ≤ max_length → ((others : List Item) → HasItems text others → others ≡ old.items)
    → ParsesStream l view old new r → ParsesDocument l view text r
parsed_whole {l = l} {view = view} {text = text} {old = old} {r = r} readable bound only h =
    parsed l readable view text (split old.items) (λ found has. ((split found).spent, ap split (sym (only found has)))) bound r
    (record { sound = h.sound; complete = h.complete; first_error = h.first_error })
