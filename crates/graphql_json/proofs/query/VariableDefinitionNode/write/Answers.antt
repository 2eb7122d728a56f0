use Rattle.std.proofs.Common.{codes}
use Rattle.graphql_core.specs.{value_view}
use Rattle.graphql_json.specs.{value_json}
use Rattle.graphql_json.proofs.{◌▹◌, then_last, if_viewed, node_five}
use Rattle.graphql_json.proofs.query.VariableDefinitionNode.write.Goals as goal

pub returns : goal.returns
returns g c =
    let bytes = g.N.Names.bytes in
    let default = if_viewed value_json (value_view bytes) (codes "defaultValue") c.args.self.now.default_value _ _ c.in_ok-write_optional_node.ensures in
    let directives = rw c.deref.ensures.value at c.in_ok-write_directives.ensures in
    then_last _ _ _
    (c.in_ok-open_node.ensures ▹ c.in_ok-write_position.ensures ▹ c.in_ok-write_named_node.ensures ▹ c.in_ok-write_node.ensures ▹ default ▹ directives)
    c.close_node.ensures
    (rw c.view.ensures (node_five _ _ _ _ _ _))
