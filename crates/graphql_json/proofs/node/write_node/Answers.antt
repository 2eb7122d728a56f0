use Rattle.std.proofs.Common.{sym}
use Rattle.graphql_json.proofs.{then_last, later-one}
use Rattle.graphql_json.proofs.node.write_node.Goals as goal

pub returns : goal.returns
returns g c =
    then_last _ _ _ c.in_ok-write_label.ensures c.write.ensures
    (sym (later-one _ _))
