-- Results of readers of values, types and directives in a language that extends their grammar, and where a tree begins.
use Rattle.std.proofs.Common.{◌≡◌, ◌<◌, true, false, not, List, [], ◌∷◌, ◌++◌, length, Result, Ok, Err, Option, refl, sym, ap, subst, ◌∙◌, arith}
use Rattle.graphql_core.proofs.rules.{written-leaves, reads_on, left_alone}
use Rattle.graphql_core.proofs.grammar.{takes-fits, takes-leaves, shorter}
use Rattle.graphql_core.proofs.readers.{halts}
use Rattle.graphql_core.specs.{Token, Expr, ParseTree, leaves, nullable, Takes, Reason, TakesSome, StopsFor, TestsAlike, is_below, written, Items, Last}
use Rattle.graphql_core.specs.{fault_by, place_next, shared, shared_symbols, reading, Language, first_place, Gives, reason_of, IsReadable}
use Rattle.graphql_core.specs.declared.helpers.read_error.ReadError.{ReadError}

first_of : (xs ts us : List Token) (l : Last) → ts ≡ xs ++ us → length us < length ts → first_place xs ≡ (fault_by ts l).place
first_of [] ts us l parts h = let e : length ts ≡ length us = ap length parts in absurd (omega (arith, e, h))
first_of (t ∷ xs) ts us l parts h = rw parts refl

module _ {D : Type 0} (l : Language D) (r : IsReadable l) where
  -- the written tree of what is read begins at the next item, if something is read
  pub begins_at : (e : Expr) (old new : Items) (x : ParseTree) → nullable l.factored_rows e ≡ false → Takes (reading l) e old.tokens x new.tokens
      → first_place (leaves (written l.changes x)) ≡ place_next old
  begins_at e old new x something h =
      ap first_place (written-leaves l.grammar l.factored_rows l.changes r.each (takes-fits (reading l) h))
      ∙ first_of (leaves x) old.tokens new.tokens old.last (takes-leaves (reading l) h)
      (shorter (reading l) r.ll1 e old.tokens new.tokens x (ap not something) h)

  -- an expression of the shared symbols, whose leaves are tested as in the language
  module _ (e : Expr) (alike : TestsAlike shared (reading l) e) (below : is_below shared_symbols e ≡ true) where
    pub stops_lifted : (old new : Items) (o : Option Reason) → StopsFor shared e old new o → StopsFor (reading l) e old new o
    stops_lifted old new o =
        halts new o refl (λ why. (reads_on shared_symbols shared (reading l) r.goes_on e below alike).fails old.tokens new.tokens why)

    -- its parse tree is its own written tree
    pub some_lifted : (old new : Items) (P : ParseTree → Type 0) → TakesSome shared e old new P → TakesSome (reading l) e old new (λ x. P (written l.changes x))
    some_lifted old new P (x, (h, same), p) = (
      x,
      ((reads_on shared_symbols shared (reading l) r.goes_on e below alike).takes old.tokens new.tokens x h, same),
      subst P (sym (left_alone shared_symbols shared l.changes r.alone (takes-fits shared h) below)) p,
    )

    pub gives_lifted : {A : Type 0} (old new : Items) (P : A → ParseTree → Type 0) (v : Result A ReadError) → Gives shared e old new P v
        → Gives (reading l) e old new (λ v x. P v (written l.changes x)) v
    gives_lifted old new P (Ok v) h = some_lifted old new (P v) h
    gives_lifted old new P (Err d) h = stops_lifted old new (reason_of d) h
