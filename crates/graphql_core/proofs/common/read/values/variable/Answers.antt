use Rattle.std.proofs.Common.{refl, sym, ap, ◌∙◌}
use Rattle.graphql_core.specs.{variable}
use Rattle.graphql_core.proofs.{here, took, past, whole, lacks, lacks_last, variable_made}
use Rattle.graphql_core.proofs.common.read.values.variable.Goals as goal

pub returns-in_err-expect_punctuator : goal.returns-in_err-expect_punctuator
returns-in_err-expect_punctuator g c = lacks _ _ _ _ _ here c.in_err-expect_punctuator.ensures c.from_residual.ensures.1

pub returns-in_err-expect_name : goal.returns-in_err-expect_name
returns-in_err-expect_name g c =
    lacks_last _ _ _ _ _ (past here (took c.in_ok-expect_punctuator.ensures.1 refl)) c.in_err-expect_name.ensures c.from_residual-in_err-expect_name.ensures.1

pub returns : goal.returns
returns g c =
    let (d, dollar, at) = c.in_ok-expect_punctuator.ensures in
    let (n, named, spelled) = c.in_ok-expect_name.ensures in
    whole (past here (took dollar refl)) (took named refl) (variable_made _ _ g.S.Names.Names.bytes _ ∙ ap variable (sym spelled))
