use Rattle.std.proofs.Common.{append_assoc}
use Rattle.graphql_json.proofs.{◌▹◌, then_last, text-node, later-append}
use Rattle.graphql_json.proofs.schema.parts.EnumValueNode.write.Goals as goal

pub returns : goal.returns
returns g c =
    let directives = rw c.deref.ensures.value at c.in_ok-write_directives.ensures in
    then_last _ _ _ (c.in_ok-open_described.ensures ▹ directives) c.close_node.ensures
    (rw c.view.ensures (simp (text-node, later-append, append_assoc)))
