use Rattle.std.proofs.Common.{}
use Rattle.graphql_json.proofs.{then_last, text-node, later-nil}
use Rattle.graphql_json.proofs.values.write_null.Goals as goal

pub returns : goal.returns
returns c =
    then_last _ _ _ c.in_ok-open_node.ensures c.close_node.ensures
    (simp (text-node, later-nil))
