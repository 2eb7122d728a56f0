use Rattle.std.proofs.Common.{refl}
use Rattle.graphql_core.specs.{default_symbol}
use Rattle.graphql_core.proofs.{begun, took, past, gives_led, lacks}
use Rattle.graphql_core.proofs.common.read.directives.default_value.Goals as goal

pub returns-in_err-expect_punctuator : goal.returns-in_err-expect_punctuator
returns-in_err-expect_punctuator g c =
    lacks _ _ _ _ _ (begun default_symbol (λ x. refl)) c.in_err-expect_punctuator.ensures c.from_residual.ensures.1

pub returns : goal.returns
returns g c =
    gives_led _ _ _ _ (past (begun default_symbol (λ x. refl)) (took c.in_ok-expect_punctuator.ensures.1 refl)) (λ v x h is. is) c.constant.ensures
