use Rattle.std.proofs.Common.{append_assoc}
use Rattle.graphql_json.proofs.{◌▹◌, then_last, text-node, later-append, option_map-option_map}
use Rattle.graphql_json.proofs.schema.parts.InputValueNode.write.Goals as goal

pub returns : goal.returns
returns g c =
    let directives = rw c.deref.ensures.value at c.in_ok-write_directives.ensures in
    then_last _ _ _ (c.in_ok-open_described.ensures ▹ c.in_ok-write_node.ensures ▹ c.in_ok-write_optional_node.ensures ▹ directives) c.close_node.ensures
    (rw c.view.ensures (simp (option_map-option_map, text-node, later-append, append_assoc)))
