use Rattle.std.proofs.Common.{sym}
use Rattle.graphql_json.proofs.{then_last, later-one}
use Rattle.graphql_json.proofs.node.write_name.Goals as goal

pub returns : goal.returns
returns c =
    then_last _ _ _ c.in_ok-write_label.ensures c.write_valued.ensures
    (sym (later-one _ _))
