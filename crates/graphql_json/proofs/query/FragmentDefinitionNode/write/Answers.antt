use Rattle.std.proofs.Common.{append_assoc}
use Rattle.graphql_json.proofs.{◌▹◌, then_last, text-node, later-append}
use Rattle.graphql_json.proofs.query.FragmentDefinitionNode.write.Goals as goal

pub returns : goal.returns
returns g c =
    let directives = rw c.deref.ensures.value at c.in_ok-write_directives.ensures in
    then_last _ _ _
    (c.in_ok-open_node.ensures ▹ c.in_ok-write_position.ensures ▹ c.in_ok-write_name.ensures ▹ c.in_ok-write_node.ensures ▹ directives
    ▹ c.in_ok-write_node-2.ensures) c.close_node.ensures
    (rw c.view.ensures (simp (text-node, later-append, append_assoc)))
