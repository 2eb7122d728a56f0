use Rattle.std.proofs.Common.{append_assoc}
use Rattle.graphql_json.proofs.{◌▹◌, then_last, text-node}
use Rattle.graphql_json.proofs.node.write_document.Goals as goal

pub returns : goal.returns
returns g c =
    then_last _ _ _ (c.in_ok-open_node.ensures ▹ c.in_ok-write_nodes.ensures) c.close_node.ensures
    (simp (text-node, append_assoc))
