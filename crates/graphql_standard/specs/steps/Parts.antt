-- The parts of a source that are checked.
use Rattle.std.specs.Prelude.{◌≡◌, ◌≢◌, ◌≤◌, ◌+◌, ◌⊎◌, ◌++◌, ℕ, suc, List, [], length, slice_index, Option, Some, None}
use Rattle.graphql_core.specs.{max_length}
use Rattle.graphql_standard.specs.Places.{IsPlaceAfter}
use Rattle.graphql_standard.specs.declared.place.Place.{Place}
use Rattle.graphql_standard.specs.declared.errors.Part.{Part}

-- the texts before two places of which the second is counted from the first
pub record ArePlaces (front text : List ℕ) (start p : Place) : Type 0 where
  pub front_is : IsPlaceAfter front start
  pub text_is : IsPlaceAfter text p
  pub short : length front + length text ≤ max_length

-- the second text does not begin with the LF of a CR LF
abbrev pub AreApart : (front text : List ℕ) → Type 0
AreApart front text = (front ≡ []) ⊎ (slice_index text 0 ≢ 10)

-- the source, or its end from a text that does not begin with LF
pub record IsPart (source : List ℕ) (p : Part) : Type 0 where
  pub short : length source ≤ max_length
  pub starts : (front : List ℕ) × (source ≡ front ++ p.text.now) × IsPlaceAfter front p.start × AreApart front p.text.now

-- how many bytes are left, and one more
abbrev pub left_of : Option Part → ℕ
left_of None = 0
left_of (Some p) = suc (length p.text.now)
