use Rattle.std.proofs.Common.{codes}
use Rattle.graphql_query.specs.Tree.{variable_definition_view}
use Rattle.graphql_json.specs.{variable_definition_json}
use Rattle.graphql_json.proofs.{◌▹◌, then_last, as_viewed, node_six}
use Rattle.graphql_json.proofs.query.write_operation.Goals as goal

pub returns : goal.returns
returns g c =
    let variables = as_viewed variable_definition_json (variable_definition_view g.N.Names.bytes) (codes "variableDefinitions") c.args.variables.now _ _
    c.in_ok-write_nodes.ensures in
    then_last _ _ _
    (c.in_ok-open_node.ensures ▹ c.in_ok-write_position.ensures ▹ c.in_ok-write_string.ensures ▹ c.in_ok-write_optional_name.ensures ▹ variables
    ▹ c.in_ok-write_directives.ensures ▹ c.in_ok-write_node.ensures) c.close_node.ensures
    (node_six _ _ _ _ _ _ _)
