use Rattle.std.proofs.Common.{append_assoc}
use Rattle.graphql_json.proofs.{◌▹◌, then_last, text-node}
use Rattle.graphql_json.proofs.values.write_boolean_value.Goals as goal

pub returns : goal.returns
returns c =
    then_last _ _ _ (c.in_ok-open_node.ensures ▹ c.in_ok-write_boolean.ensures) c.close_node.ensures
    (simp (text-node, append_assoc))
