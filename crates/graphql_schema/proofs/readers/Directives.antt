-- Directive locations and directive definitions.
use Rattle.std.proofs.Common.{◌≡◌, ℕ, Bool, true, false, List, [], ◌∷◌, map, Result, Ok, Err, Option, Some, None, IsErrAnd, refl, sym, ap, subst, ◌∙◌}
use Rattle.graphql_core.specs.{fails_value, Token, Place, Sym, ParseTree, Leaf, Node, peek, sees, Improper, Fails, fails_node, after, lexeme_token, any}
use Rattle.graphql_core.specs.{location_class, Gives, IsNext, Shows, Items, Consumes, StopsFor}
use Rattle.graphql_core.specs.declared.helpers.read_error.ReadError.{ReadError}
use Rattle.graphql_core.specs.declared.tokenizer.token.Kind.TheVariants.{Name}
use Rattle.graphql_core.proofs.{takes_token, next_matches, TakesNone, none_within, begun, took, lacks_last, consumed}
use Rattle.graphql_core.specs.declared.helpers.source.Lexeme.{Lexeme}
use Rattle.graphql_schema.specs.declared.location.DirectiveLocation.{DirectiveLocation}
use Rattle.graphql_schema.specs.{IsNamed, is_location, location_symbol, present, InputValueTree, DirectiveDefinitionTree}
use Rattle.graphql_schema.proofs.readers.Lifted.{reading}

-- ---- what a word names

-- the location that is returned
pub named : (E : Type 0) (o : Option DirectiveLocation) (l : DirectiveLocation) → IsNamed {E = E} o (Ok l) → o ≡ Some l
named E (Some m) l h = ap found_location (sym h)
  where
    found_location : Result DirectiveLocation E → Option DirectiveLocation
    found_location (Ok x) = Some x
    found_location (Err e) = None
named E None l h = absurd cc

-- an error, if there is no location
pub unnamed : (E : Type 0) (o : Option DirectiveLocation) (e : E) → IsNamed {E = E} o (Err e) → o ≡ None
unnamed E (Some m) e h = absurd cc
unnamed E None e h = refl

-- ---- a location

-- a name can begin a location, and no other token can
no_location : (item : Option Token) → sees (any Name ∷ []) item ≡ false → sees (location_class ∷ []) item ≡ false
no_location None h = refl
no_location (Some t) h = h

no_location_taken : (i : Items) (s : ReadError) → TakesNone (any Name) i i s → TakesNone location_class i i s
no_location_taken i s = none_within {A = Unit {0}} (any Name) location_class i i (λ v t. Unit {0}) s (no_location (peek i.tokens))

module _ {T : Type 0} (bytes : T → List ℕ) (i : Items) where
  -- the next token is no name
  pub location_missing : {A : Type 0} (P : A → ParseTree → Type 0) (r : Result A ReadError) (e : ReadError) → Shows bytes Name i (Err e)
      → IsErrAnd r (λ d. d ≡ e)
      → Gives reading (Sym location_symbol) i i P r
  location_missing P r e s up = lacks_last i i P r e (begun location_symbol (λ x. refl)) (no_location_taken i e s) up

  module _ (t : Lexeme T) (n : IsNext bytes Name i t) where
    -- the next token is a name, but no location
    pub location_rejected : is_location (bytes t.text) ≡ false → StopsFor reading (Sym location_symbol) i i (Some (Improper location_class))
    location_rejected bad = (
      subst (λ (ts : List Token). Fails reading (Sym location_symbol) ts (Improper location_class) ts) (sym n.first)
          (fails_node (fails_value (next_matches bytes Name i t n) bad)),
      refl,
    )

    -- the next token is a location
    pub location_taken : (new : Items) → is_location (bytes t.text) ≡ true → new ≡ after i
        → Consumes reading (Sym location_symbol) i (Node location_symbol (Leaf (lexeme_token bytes t))) new
    location_taken new good e =
        consumed (begun {g = reading} location_symbol (λ x. refl))
        (took {g = reading} (takes_token location_class i new (lexeme_token bytes t) n.first e (next_matches bytes Name i t n)) good)

-- ---- options that have a value

module _ {A : Type 0} where
  present_each : (xs : List A) → present (map Some xs) ≡ xs
  present_each [] = refl
  present_each (x ∷ xs) = ap (λ l. x ∷ l) (present_each xs)

  -- if each option has a value
  pub all_present : (xs : List A) (os : List (Option A)) → map Some xs ≡ os → xs ≡ present os
  all_present xs os are = sym (present_each xs) ∙ ap present are

-- ---- definitions

-- a directive definition from its parts
abbrev definition : Place → Option (List ℕ) → List ℕ → List InputValueTree → Bool → List DirectiveLocation → DirectiveDefinitionTree
definition p d n arguments r ls =
    record { position = p; description = d; name = n; arguments = arguments; repeatable = r; locations = ls }

pub same_definition : {p q : Place} {n m : List ℕ} {vs ws : List InputValueTree} {a b : Bool} {ls ks : List DirectiveLocation} → q ≡ p → m ≡ n → vs ≡ ws
    → a ≡ b → ls ≡ ks → definition p None n vs a ls ≡ definition q None m ws b ks
same_definition at spelled arguments repeats places = rw (at, spelled, arguments, repeats, places) refl
