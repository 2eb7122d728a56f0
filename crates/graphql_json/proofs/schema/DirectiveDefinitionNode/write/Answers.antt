use Rattle.std.proofs.Common.{codes, option_map, string_bytes}
use Rattle.graphql_schema.specs.Views.{input_value_view}
use Rattle.graphql_json.specs.Schema.{input_value_json, described}
use Rattle.graphql_core.specs.{place_of}
use Rattle.graphql_json.specs.Nodes.{located, one}
use Rattle.graphql_json.specs.Values.{name_json}
use Rattle.graphql_json.proofs.{◌▹◌, then_last, as_viewed, node_described}
use Rattle.graphql_json.proofs.schema.DirectiveDefinitionNode.write.Goals as goal

pub returns : goal.returns
returns g c =
    let arguments = as_viewed input_value_json (input_value_view g.N.Names.bytes) (codes "arguments") c.args.self.now.arguments.items _ _
    (rw c.deref.ensures.value at c.in_ok-write_nodes.ensures) in
    let locations = rw c.deref-2.ensures.value at c.in_ok-write_nodes-2.ensures in
    then_last _ _ _ (c.in_ok-open_described.ensures ▹ arguments ▹ c.in_ok-write_boolean.ensures ▹ locations) c.close_node.ensures
    (rw c.view.ensures (node_described _ (located (place_of c.args.self.now.position)) (described (option_map string_bytes c.args.self.now.description))
    (one (codes "name") (name_json (g.N.Names.bytes c.args.self.now.name))) _ _ _))
