use Rattle.std.proofs.Common.{append_assoc}
use Rattle.graphql_json.proofs.{◌▹◌, then_last, text-node, later-append}
use Rattle.graphql_json.proofs.values.DirectiveNode.write.Goals as goal

pub returns : goal.returns
returns g c =
    let arguments = rw c.deref.ensures.value at c.in_ok-write_arguments.ensures in
    then_last _ _ _ (c.in_ok-open_node.ensures ▹ c.in_ok-write_position.ensures ▹ c.in_ok-write_name.ensures ▹ arguments) c.close_node.ensures
    (rw c.view.ensures (simp (text-node, later-append, append_assoc)))
