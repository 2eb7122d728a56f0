-- The grammar as the specification writes it derives what `standard` derives.
use Rattle.std.proofs.Common.{◌≡◌, ◌↔◌, ℕ, Bool, true, false, ◌||◌, ◌==◌, eqb, List, [], ◌∷◌, ◌++◌, codes, refl, sym, ap, subst, ◌∙◌, append-nil, append_assoc, ◌⊎◌, inl, inr}
use Rattle.std.proofs.lemmas.Bool.{eqb-true, or_cases}
use Rattle.graphql_core.specs.{Token, Expr, Then, Either, Many, Sym, ParseTree, Grammar, row, leaves, optional, word, punctuator, Fits}
use Rattle.graphql_core.specs.{fits_stop, fits_more}
use Rattle.graphql_standard.specs.theory.Stack.{HasNoChecks}
use Rattle.graphql_standard.specs.Grammar.{standard}
use Rattle.graphql_standard.specs.Symbols as symbol
use Rattle.graphql_standard.specs.Recognizing.{IsDocument}
use Rattle.graphql_standard.specs.Document.{written, IsDefinition, AreDefinitions, no_definition, more_definitions, IsDocumentBy, IsDocumentAsWritten}
use Rattle.graphql_standard.proofs.Following.{no_checks}
use Rattle.graphql_standard.proofs.Included.{DerivesAll, derives_none, derives_one, AnyDerives, included, included-sound, fold_then, fold_left, fold_right, fold_symbol}
use Rattle.graphql_standard.proofs.SameLanguage.{Has, alone, one, HasRules, carried, has_rule}
use Rattle.graphql_standard.proofs.Written as standard_form

no_tests : HasNoChecks written
no_tests k x = refl

-- ---- rules with a left recursion

absorb : (k : ℕ) (step : Expr) (front : List Token) {x : ParseTree}
    → ((ts : List Token) → DerivesAll written (Sym k ∷ step ∷ []) ts → Has written (Sym k) ts) → Has written (Sym k) front
    → Fits written (Many step) x → Has written (Sym k) (front ++ leaves x)
absorb k step front close d fits_stop = subst (Has written (Sym k)) (sym (append-nil front)) d
absorb k step front close (x, p, h) (fits_more {x = y} {y = z} q r) =
    subst (Has written (Sym k)) (append_assoc front (leaves y) (leaves z))
    (absorb k step (front ++ leaves y) close (close (front ++ leaves y)
    (derives_one p (ap (λ (l : List Token). l ++ leaves y) h)
    (derives_one q (sym (append-nil (leaves y))) derives_none))) r)

left_rule : (k : ℕ) (step base rule : Expr) → (row written k).rule ≡ Either (Then (Sym k) step) base
    → included written 60 (rule ∷ []) ((base ∷ Many step ∷ []) ∷ []) ≡ true → (ts : List Token) → Has written rule ts
    → Has written (Sym k) ts
left_rule k step base rule e t ts d =
    of (included-sound written no_tests 60 (rule ∷ []) ((base ∷ Many step ∷ []) ∷ []) ts t (one written rule ts d))
  where
    from : (us : List Token) → DerivesAll written (Either (Then (Sym k) step) base ∷ []) us → Has written (Sym k) us
    from us q =
        alone written (Sym k) us (fold_symbol written no_tests k [] us
        (subst (λ (i : Expr). DerivesAll written (i ∷ []) us) (sym e) q))

    close : (us : List Token) → DerivesAll written (Sym k ∷ step ∷ []) us → Has written (Sym k) us
    close us q =
        from us (fold_left written (Then (Sym k) step) base [] us (fold_then written (Sym k) step [] us q))

    of : AnyDerives written ((base ∷ Many step ∷ []) ∷ []) ts → Has written (Sym k) ts
    of (inl (derives_one {x = x} p h (derives_one {x = y} q i derives_none))) =
        subst (Has written (Sym k)) (sym (h ∙ ap (λ (l : List Token). leaves x ++ l) (i ∙ append-nil (leaves y))))
        (absorb k step (leaves x) close
        (from (leaves x) (fold_right written (Then (Sym k) step) base [] (leaves x) (one written base (leaves x) (x, p, refl)))) q)
    of (inr z) = absurd z

-- ---- the rules of each grammar, in the other

abbrev is_left : ℕ → Bool
is_left k =
    (k == symbol.implements_interfaces) || ((k == symbol.union_member_types) || (k == symbol.directive_locations))

interfaces : (ts : List Token) → Has written (row standard symbol.implements_interfaces).rule ts
    → Has written (Sym symbol.implements_interfaces) ts
interfaces ts d =
    left_rule symbol.implements_interfaces (Then (punctuator (codes "&")) (Sym symbol.named_type))
    (Then (word (codes "implements")) (Then (optional (punctuator (codes "&"))) (Sym symbol.named_type)))
    (row standard symbol.implements_interfaces).rule refl refl ts d

members : (ts : List Token) → Has written (row standard symbol.union_member_types).rule ts
    → Has written (Sym symbol.union_member_types) ts
members ts d =
    left_rule symbol.union_member_types (Then (punctuator (codes "|")) (Sym symbol.named_type))
    (Then (punctuator (codes "=")) (Then (optional (punctuator (codes "|"))) (Sym symbol.named_type)))
    (row standard symbol.union_member_types).rule refl refl ts d

locations : (ts : List Token) → Has written (row standard symbol.directive_locations).rule ts
    → Has written (Sym symbol.directive_locations) ts
locations ts d =
    left_rule symbol.directive_locations (Then (punctuator (codes "|")) (Sym symbol.directive_location))
    (Then (optional (punctuator (codes "|"))) (Sym symbol.directive_location))
    (row standard symbol.directive_locations).rule refl refl ts d

rules_in_written : HasRules standard written
rules_in_written k ts d = of (is_left k) refl
  where
    at : (j : ℕ) → ((us : List Token) → Has written (row standard j).rule us → Has written (Sym j) us) → eqb k j ≡ true
        → Has written (Sym k) ts
    at j f e =
        let same : k ≡ j = eqb-true k j e in
        subst (λ (i : ℕ). Has written (Sym i) ts) (sym same)
        (f ts (subst (λ (i : ℕ). Has written (row standard i).rule ts) same d))

    others : (eqb k symbol.union_member_types ≡ true) ⊎ (eqb k symbol.directive_locations ≡ true) → Has written (Sym k) ts
    others (inl e) = at symbol.union_member_types members e
    others (inr e) = at symbol.directive_locations locations e

    left : (eqb k symbol.implements_interfaces ≡ true)
        ⊎ ((eqb k symbol.union_member_types || eqb k symbol.directive_locations) ≡ true) → Has written (Sym k) ts
    left (inl e) = at symbol.implements_interfaces interfaces e
    left (inr e) = others (or_cases (eqb k symbol.union_member_types) (eqb k symbol.directive_locations) e)

    of : (b : Bool) → is_left k ≡ b → Has written (Sym k) ts
    of true e = left (or_cases (eqb k symbol.implements_interfaces) _ e)
    of false e = has_rule standard written no_tests is_left refl refl k e ts d

rules_in_standard : HasRules written standard
rules_in_standard k ts d = has_rule written standard no_checks (λ j. false) refl refl k refl ts d

to_standard : (e : Expr) (ts : List Token) → Has written e ts → Has standard e ts
to_standard e ts (x, p, h) =
    subst (Has standard e) (sym h) (carried written standard (λ c t. refl) rules_in_standard p)

to_written : (e : Expr) (ts : List Token) → Has standard e ts → Has written e ts
to_written e ts (x, p, h) =
    subst (Has written e) (sym h) (carried standard written (λ c t. refl) rules_in_written p)

-- ---- documents

module _ (g h : Grammar) (to : (e : Expr) (ts : List Token) → Has g e ts → Has h e ts) where
  definition_as : (ts us : List Token) → IsDefinition g ts us → IsDefinition h ts us
  definition_as ts us (a, x, is, (p, e), may) =
      let (y, q, i) = to a.rule ts (x, p, e) in (a, y, is, (q, i), may)

  definitions_as : (ts : List Token) → AreDefinitions g ts → AreDefinitions h ts
  definitions_as ts no_definition = no_definition
  definitions_as ts (more_definitions {ts = front} {us = us} d ds) =
      more_definitions (definition_as front us d) (definitions_as us ds)

  document_as : (ts : List Token) → IsDocumentBy g ts → IsDocumentBy h ts
  document_as ts (front, rest, e, d, ds) = (front, rest, e, definition_as front rest d, definitions_as rest ds)

pub as_written : (ts : List Token) → IsDocument ts ↔ IsDocumentAsWritten ts
as_written ts = (
  λ d. document_as standard written to_written ts (standard_form.written ts d),
  λ d. standard_form.derived ts (document_as written standard to_standard ts d),
)
