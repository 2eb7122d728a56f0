use Rattle.std.proofs.Common.{codes, refl, sym, ◌∙◌}
use Rattle.graphql_core.specs.{Expr, Then, Empty, punctuator, punctuator_class, name}
use Rattle.graphql_core.proofs.{side_first, takes_none, here, took, past, into, lacks, lacks_last, whole}
use Rattle.graphql_query.specs.{reading}
use Rattle.graphql_query.proofs.read.alias.alias_and_name.Goals as goal

abbrev second : Expr
second = Then (punctuator (codes ":")) name

pub returns-in_err-first : goal.returns-in_err-first
returns-in_err-first g c = lacks _ _ _ _ _ here c.in_err-first.ensures c.from_residual.ensures.1

pub returns-then-not-sees_punctuator : goal.returns-then-not-sees_punctuator
returns-then-not-sees_punctuator g c =
    let (n, named, spelled) = c.in_ok-first.ensures in
    let none = takes_none reading second _ refl (sym c.sees_punctuator.ensures ∙ c.if-not-sees_punctuator.true) in
    whole (past here (took named refl)) (none, refl) (rw spelled refl)

pub returns-in_err-name : goal.returns-in_err-name
returns-in_err-name g c =
    let side = side_first reading second Empty (punctuator_class (codes ":")) _ refl (sym c.sees_punctuator.ensures ∙ c.if-not-sees_punctuator.false) in
    let renames = into (past here (took c.in_ok-first.ensures.1 refl)) side in
    lacks_last _ _ _ _ _ (past renames (took c.in_ok-expect_punctuator.ensures.1 refl)) c.in_err-name.ensures c.from_residual-in_err-name.ensures.1

pub returns : goal.returns
returns g c =
    let (n, named, first) = c.in_ok-first.ensures in
    let (o, opens, at) = c.in_ok-expect_punctuator.ensures in
    let (m, renames, spelled) = c.in_ok-name.ensures in
    let side = side_first reading second Empty (punctuator_class (codes ":")) _ refl (sym c.sees_punctuator.ensures ∙ c.if-not-sees_punctuator.false) in
    whole (past (into (past here (took named refl)) side) (took opens refl)) (took renames refl) (rw (first, spelled) refl)
