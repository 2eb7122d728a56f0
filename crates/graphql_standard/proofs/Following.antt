-- A step that passes the test is what the grammar does.
use Rattle.std.proofs.Common.{◌≡◌, ℕ, Bool, true, false, ◌&&◌, List, [], ◌∷◌, ◌++◌, Some, None, refl, sym, ap, subst}
use Rattle.std.proofs.Common.{◌∙◌}
use Rattle.std.proofs.lemmas.Bool.{and_parts}
use Rattle.graphql_core.specs.{Token, Expr, Grammar}
use Rattle.graphql_standard.specs.theory.Stack.{HasNoChecks, Alike}
use Rattle.graphql_standard.specs.theory.Effects.{Effect, Taken, Passed, Stopped, Unknown, effect, flat}
use Rattle.graphql_standard.specs.Grammar.{standard}
use Rattle.graphql_standard.specs.Terminals.{terminals}
use Rattle.graphql_standard.specs.steps.Meanings.{means, means_all}
use Rattle.graphql_standard.specs.steps.Groups.{sample_of}
use Rattle.graphql_standard.specs.steps.Fitting.{same_exprs, named_classes, names_only, fits_effect, fits, fits_end}
use Rattle.graphql_standard.specs.steps.Fitting.{fits_all, step_by, step_of, FitsRow}
use Rattle.graphql_standard.specs.steps.Following.{FollowsAt, Follows, EndsWith, IsRowOf}
use Rattle.graphql_standard.specs.declared.terminal.Terminal.{Terminal}
use Rattle.graphql_standard.specs.declared.symbol.Symbol.{Symbol}
use Rattle.graphql_standard.specs.declared.symbol.Row.{Row}
use Rattle.graphql_standard.specs.declared.symbol.Step.{Step}
use Rattle.graphql_standard.specs.declared.symbol.Step.TheVariants.{Take, Skip, Reject}
use Rattle.graphql_standard.proofs.SameExpressions.{same_exprs-true}
use Rattle.graphql_standard.proofs.TerminalLists.{all_terminals, of_each}
use Rattle.graphql_standard.proofs.Alike.{effect-alike}
use Rattle.graphql_standard.proofs.Uniform.{alike}
use Rattle.graphql_standard.proofs.Effects.{Did, did, flat-alike, Alike-then, Alike-back}

same_flat : (g : Grammar) → HasNoChecks g → (n : ℕ) (es fs rest : List Expr) (ts : List Token)
    → same_exprs (flat n g es) (flat n g fs) ≡ true → Alike g (es ++ rest) ts (fs ++ rest) ts
same_flat g ok n es fs rest ts h =
    Alike-then g (flat-alike g ok n es rest ts)
    (subst (λ (hs : List Expr). Alike g (hs ++ rest) ts (fs ++ rest) ts) (sym (same_exprs-true _ _ h))
    (Alike-back g (flat-alike g ok n fs rest ts)))

pub no_checks : HasNoChecks standard
no_checks k x = refl

by_effect : (s : Symbol) (t : Token) (e : Effect) (step : Step) → fits_effect e step ≡ true
    → ((rest : List Expr) (ts : List Token) → Did standard no_checks (means s ∷ []) rest (Some t) ts e) → FollowsAt s t step
by_effect s t (Taken es) (Take x) h d = λ rest ts.
    Alike-then standard (d rest ts) (same_flat standard no_checks 60 es (means_all x.now) rest ts h)
by_effect s t Passed Skip h d = d
by_effect s t Stopped Reject h d = d
by_effect s t (Taken es) Skip h d = absurd cc
by_effect s t (Taken es) Reject h d = absurd cc
by_effect s t Passed (Take x) h d = absurd cc
by_effect s t Passed Reject h d = absurd cc
by_effect s t Stopped (Take x) h d = absurd cc
by_effect s t Stopped Skip h d = absurd cc
by_effect s t Unknown (Take x) h d = absurd cc
by_effect s t Unknown Skip h d = absurd cc
by_effect s t Unknown Reject h d = absurd cc

-- the sample of the terminal decides for each of its tokens
pub follows : (s : Symbol) (k : Terminal) (step : Step) → names_only named_classes (means s) ≡ true → fits s k step ≡ true
    → Follows s k step
follows s k step n h = λ t is.
    let e = effect-alike standard named_classes refl t (sample_of k) (alike k t is) 60 (means s ∷ []) (n, tt) in
    by_effect s t (effect 60 standard (means s ∷ []) (Some t)) step
    (subst (λ (x : Effect). fits_effect x step ≡ true) (sym e) h)
    (λ rest ts. did standard no_checks 60 (means s ∷ []) rest (Some t) ts)

ends : (s : Symbol) (e : Effect) (b : Bool) → fits_end e b ≡ true
    → ((rest : List Expr) → Did standard no_checks (means s ∷ []) rest None [] e) → EndsWith s b
ends s Passed true h d = d
ends s Stopped false h d = d
ends s Passed false h d = absurd cc
ends s Stopped true h d = absurd cc
ends s (Taken es) true h d = absurd cc
ends s (Taken es) false h d = absurd cc
ends s Unknown true h d = absurd cc
ends s Unknown false h d = absurd cc

as_all : (s : Symbol) (r : Row) (ks : List Terminal) → fits_all s r ks ≡ true → all_terminals (λ k. fits s k (step_of r k)) ks ≡ true
as_all s r [] h = refl
as_all s r (k ∷ ks) h =
    let p = and_parts (fits s k (step_of r k)) (fits_all s r ks) h in
    let q = as_all s r ks p.1 in
    subst (λ (b : Bool). (b && all_terminals (λ j. fits s j (step_of r j)) ks) ≡ true) (sym p.0) q

pub is_row : (s : Symbol) (r : Row) → FitsRow s r → IsRowOf s r
unfolding FitsRow
is_row s r h =
    let p = and_parts (names_only named_classes (means s) && fits_end (effect 60 standard (means s ∷ []) None) r.is_optional) (fits_all s r terminals) h in
    let q = and_parts (names_only named_classes (means s)) (fits_end (effect 60 standard (means s ∷ []) None) r.is_optional) p.0 in (
      λ k. follows s k (step_of r k) q.0 (of_each (λ j. fits s j (step_of r j)) (as_all s r terminals p.1) k),
      ends s (effect 60 standard (means s ∷ []) None) r.is_optional q.1
          (λ rest. did standard no_checks 60 (means s ∷ []) rest None []),
    )

abbrev pick : Bool → Step
pick v = elim v [ true ↦ Skip | false ↦ Reject ]

pub by_step : (s : Symbol) (r : Row) (k : Terminal) → FitsRow s r → (step : Step) → step_of r k ≡ step → Follows s k step
by_step s r k h step e = subst (λ (x : Step). Follows s k x) e ((is_row s r h).0 k)

pub by_absence : (s : Symbol) (r : Row) (k : Terminal) → FitsRow s r → ((other : Step) → step_by r.own.now k other ≡ other)
    → ((other : Step) → step_by r.shared.now k other ≡ other) → (b : Bool) → r.is_optional ≡ b → Follows s k (pick b)
by_absence s r k h own shared b e =
    by_step s r k h (pick b) (own (step_by r.shared.now k (pick r.is_optional)) ∙ (shared (pick r.is_optional) ∙ ap pick e))

pub ends_as : (s : Symbol) (r : Row) → FitsRow s r → (b : Bool) → r.is_optional ≡ b → EndsWith s b
ends_as s r h b e = subst (λ (v : Bool). EndsWith s v) e (is_row s r h).1
