use Rattle.std.proofs.Common.{refl, sym}
use Rattle.graphql_core.proofs.{adds_one, here, took, past, lacks, lacks_last, whole}
use Rattle.graphql_schema.proofs.read.names.separated_name.Goals as goal

pub returns-in_err-expect_punctuator : goal.returns-in_err-expect_punctuator
returns-in_err-expect_punctuator g c = lacks _ _ _ _ _ here c.in_err-expect_punctuator.ensures c.from_residual.ensures.1

pub returns-in_err-expect_name : goal.returns-in_err-expect_name
returns-in_err-expect_name g c =
    let mark = past here (took c.in_ok-expect_punctuator.ensures.1 refl) in
    lacks_last _ _ _ _ _ mark c.in_err-expect_name.ensures c.from_residual-in_err-expect_name.ensures.1

pub returns : goal.returns
returns g c =
    let (t, named, spelled) = c.in_ok-expect_name.ensures in
    whole (past here (took c.in_ok-expect_punctuator.ensures.1 refl)) (took named refl)
    (adds_one g.S.Names.Names.bytes _ _ _ _ c.in_ok-push.ensures.items (sym spelled))
