use Rattle.std.proofs.Common.{refl, sym}
use Rattle.graphql_core.proofs.{took, past, lacks, lacks_last, whole}
use Rattle.graphql_query.specs.{type_condition_symbol}
use Rattle.graphql_query.proofs.{begun}
use Rattle.graphql_query.proofs.read.fragment.type_condition.Goals as goal

pub returns-in_err-expect_keyword : goal.returns-in_err-expect_keyword
returns-in_err-expect_keyword g c = lacks _ _ _ _ _ (begun type_condition_symbol) c.in_err-expect_keyword.ensures c.from_residual.ensures.1

pub returns-in_err-expect_name : goal.returns-in_err-expect_name
returns-in_err-expect_name g c =
    let word = past (begun type_condition_symbol) (took c.in_ok-expect_keyword.ensures.1 refl) in
    lacks_last _ _ _ _ _ word c.in_err-expect_name.ensures c.from_residual-in_err-expect_name.ensures.1

pub returns : goal.returns
returns g c =
    let (o, opens, at) = c.in_ok-expect_keyword.ensures in
    let (n, named, spelled) = c.in_ok-expect_name.ensures in
    whole (past (begun type_condition_symbol) (took opens refl)) (took named refl) (sym spelled)
