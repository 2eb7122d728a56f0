use Rattle.std.proofs.Common.{refl, Some}
use Rattle.graphql_core.proofs.{adds_one, here, took, past, fails_last, lacks, whole}
use Rattle.graphql_schema.proofs.read.directive.separated_location.Goals as goal

pub returns-in_err-expect_punctuator : goal.returns-in_err-expect_punctuator
returns-in_err-expect_punctuator g c = lacks _ _ _ _ _ here c.in_err-expect_punctuator.ensures c.from_residual.ensures.1

pub returns-in_err-location : goal.returns-in_err-location
returns-in_err-location g c =
    fails_last _ _ _ _ (past here (took c.in_ok-expect_punctuator.ensures.1 refl)) c.in_err-location.ensures c.from_residual-in_err-location.ensures.1

pub returns : goal.returns
returns g c =
    let (x, takes, is) = c.in_ok-location.ensures in
    whole (past here (took c.in_ok-expect_punctuator.ensures.1 refl)) takes (adds_one Some _ _ _ _ c.in_ok-push.ensures.items is)
