use Rattle.std.proofs.Common.{append_assoc}
use Rattle.graphql_json.proofs.{◌▹◌, then_last, text-node, later-append}
use Rattle.graphql_json.proofs.schema.write_root_node.Goals as goal

pub returns : goal.returns
returns c =
    then_last _ _ _ (c.in_ok-open_node.ensures ▹ c.in_ok-write_string.ensures ▹ c.in_ok-write_named_node.ensures) c.close_node.ensures
    (simp (text-node, later-append, append_assoc))
