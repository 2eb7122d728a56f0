use Rattle.std.proofs.Common.{◌≡◌, ◌∙◌, refl, List, [], ◌∷◌, ℕ, Some, inl, inr, ap, sym}
use Rattle.graphql_core.proofs.{same_spelling-true}
use Rattle.graphql_core.specs.{same_spelling}
use Rattle.std.proofs.lemmas.Bool.{cases_Bool}
use Rattle.graphql_schema.specs.declared.location.DirectiveLocation.{DirectiveLocation}
use Rattle.graphql_schema.specs.{word_of, found, all}
use Rattle.graphql_schema.proofs.{location_named}
use Rattle.graphql_schema.proofs.text_laws.locations_are_named.Goals as goal

same : (l m : DirectiveLocation) → Some l ≡ Some m → l ≡ m
same l m h = cc

only : (word : List ℕ) (ls : List DirectiveLocation) (l : DirectiveLocation) → found word ls ≡ Some l → word ≡ word_of l
only word [] l h = absurd cc
only word (m ∷ ms) l h = elim (cases_Bool (same_spelling word (word_of m))) [
  | inl e ↦ let is : l ≡ m = same l m (sym h ∙ rw (e) refl) in same_spelling-true word (word_of m) e ∙ ap word_of (sym is)
  | inr e ↦ only word ms l (rw (e) at h)
]

pub returns : goal.returns
returns c = record { named = location_named; only = λ word l h. only word all l h }
