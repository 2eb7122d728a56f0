-- Items with the same contents are spaced and end in the same way.
use Rattle.std.proofs.Common.{◌≡◌, ℕ, List, [], ◌∷◌, ◌++◌, refl, sym, ap, ◌∙◌, subst}
use Rattle.graphql_core.specs.declared.position.Pos.{Pos}
use Rattle.graphql_core.specs.{Content, Item, contents, nowhere, kind_number, Items, IsEnd, split, split_by, is_spaced, space_if, spaced_after}
use Rattle.graphql_core.specs.lexical.Items as items

-- the tokens among these contents, spaced after one of this kind
abbrev written_after : (kind : ℕ) → List Content → List ℕ
written_after kind [] = []
written_after kind (items.TokenContent k bytes ∷ more) =
    space_if (is_spaced kind (record { kind = kind_number k; spelling = bytes; place = nowhere })) ++ (bytes ++ written_after (kind_number k) more)
written_after kind (items.EndOfInput ∷ more) = []
written_after kind (items.LexicalError b ∷ more) = []

-- the first of them that is no token is the end of input
abbrev EndWell : List Content → Type 0
EndWell [] = Unit {0}
EndWell (items.TokenContent k bytes ∷ more) = EndWell more
EndWell (items.EndOfInput ∷ more) = Unit {0}
EndWell (items.LexicalError b ∷ more) = ⊥

first_written : (c : Content) (p : Pos) (kind : ℕ) (after : Items) (more : List Content)
    → ((k : ℕ) → spaced_after k after.tokens ≡ written_after k more) → spaced_after kind (split_by c p after).tokens ≡ written_after kind (c ∷ more)
first_written (items.TokenContent k bytes) p kind after more same =
    ap (λ (l : List ℕ). space_if (is_spaced kind (record { kind = kind_number k; spelling = bytes; place = nowhere })) ++ (bytes ++ l)) (same (kind_number k))
first_written items.EndOfInput p kind after more same = refl
first_written (items.LexicalError b) p kind after more same = refl

are_written : (xs : List Item) (kind : ℕ) → spaced_after kind (split xs).tokens ≡ written_after kind (contents xs)
are_written [] kind = refl
are_written (i ∷ is) kind = first_written i.content i.place.position kind (split is) (contents is) (are_written is)

first_ends : (c : Content) (p : Pos) (after : Items) (more : List Content) → (IsEnd after.last → EndWell more) → IsEnd (split_by c p after).last
    → EndWell (c ∷ more)
first_ends (items.TokenContent k bytes) p after more same end = same end
first_ends items.EndOfInput p after more same end = tt
first_ends (items.LexicalError b) p after more same end = end

end_well : (xs : List Item) → IsEnd (split xs).last → EndWell (contents xs)
end_well [] end = tt
end_well (i ∷ is) end = first_ends i.content i.place.position (split is) (contents is) (end_well is) end

first_is_end : (c : Content) (p : Pos) (after : Items) (more : List Content) → (EndWell more → IsEnd after.last) → EndWell (c ∷ more)
    → IsEnd (split_by c p after).last
first_is_end (items.TokenContent k bytes) p after more same well = same well
first_is_end items.EndOfInput p after more same well = tt
first_is_end (items.LexicalError b) p after more same well = well

are_at_end : (xs : List Item) → EndWell (contents xs) → IsEnd (split xs).last
are_at_end [] well = tt
are_at_end (i ∷ is) well = first_is_end i.content i.place.position (split is) (contents is) (are_at_end is) well

pub spaced_alike : (kind : ℕ) (xs ys : List Item) → contents xs ≡ contents ys → spaced_after kind (split xs).tokens ≡ spaced_after kind (split ys).tokens
spaced_alike kind xs ys same = are_written xs kind ∙ ap (written_after kind) same ∙ sym (are_written ys kind)

pub ends_alike : (xs ys : List Item) → contents xs ≡ contents ys → IsEnd (split xs).last → IsEnd (split ys).last
ends_alike xs ys same end = are_at_end ys (subst EndWell same (end_well xs end))
