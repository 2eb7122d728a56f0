-- One token at a time: a match takes exactly one token, or leaves the source as it is.
use Rattle.std.specs.Prelude.{◌≡◌, Bool, true, false, [], ◌∷◌, Result, Ok, Err}
use Rattle.graphql_core.specs.grammar.{Token, Class, matches, peek}
use Rattle.graphql_core.specs.theory.{sees}
use Rattle.graphql_core.specs.declared.helpers.read_error.ReadError.{ReadError}
use Rattle.graphql_core.specs.declared.helpers.read_error.ReadError.TheVariants.{Memory, Item}
use Rattle.graphql_core.specs.sources.{Items}
use Rattle.graphql_core.specs.steps.Sources.{kept}

-- the next token is of the class
abbrev pub sees_class : Class → Items → Bool
sees_class c i = sees (c ∷ []) (peek i.tokens)

-- a token of the class is taken, and nothing else
pub record TakesToken (c : Class) (old new : Items) (t : Token) : Type 0 where
  pub of_class : matches c t ≡ true
  pub tokens : old.tokens ≡ t ∷ new.tokens
  pub kept : kept new ≡ kept old

-- A token of the class is taken, of which `P` holds with the returned value. Or nothing is taken:
-- out of memory, or the next token is not of the class.
abbrev pub TakesOne : {A : Type 0} → Class → Items → Items → (A → Token → Type 0) → Result A ReadError → Type 0
TakesOne c old new P (Ok v) = (t : Token) × TakesToken c old new t × P v t
TakesOne c old new P (Err Memory) = new ≡ old
TakesOne c old new P (Err Item) = (new ≡ old) × (sees_class c old ≡ false)
TakesOne c old new P (Err other) = ⊥
