use Rattle.std.proofs.Common.{◌≡◌, ap, rules, codes, ◌∙◌}
use Rattle.graphql_core.specs.{type_view}
use Rattle.graphql_core.specs.values.Values.{list_of, non_null}
use Rattle.graphql_core.specs.declared.common.tree.Type.{the_lemmas}
use Rattle.graphql_json.specs.{type_json}
use Rattle.graphql_json.specs.Json.{json_text}
use Rattle.graphql_json.proofs.{◌▹◌, then_last, text-node_one}
use Rattle.graphql_json.proofs.values.+write_type.Goals as goal

pub returns-in_ok-write_type-in-ListType : goal.returns-in_ok-write_type-in-ListType
returns-in_ok-write_type-in-ListType g t c =
    let bytes = g.N.Names.bytes in
    let seen : list_of (type_view bytes c.deref.result.now) ≡ type_view bytes c.args.declared.now = search (rules, the_lemmas) in
    then_last _ _ _
    (c.in_ok-open_node-in-ListType.ensures ▹ c.in_ok-write_label-in-ListType.ensures ▹ c.in_ok-write_type-in-ListType.ensures) c.close_node.ensures
    (text-node_one (codes "ListType") (codes "type") _ ∙ ap (λ d. json_text (type_json d)) seen)

pub returns-in_ok-write_type-in-NonNullType : goal.returns-in_ok-write_type-in-NonNullType
returns-in_ok-write_type-in-NonNullType g t c =
    let bytes = g.N.Names.bytes in
    let seen : non_null (type_view bytes c.deref-in-NonNullType.result.now) ≡ type_view bytes c.args.declared.now = search (rules, the_lemmas) in
    then_last _ _ _
    (c.in_ok-open_node-in-NonNullType.ensures ▹ c.in_ok-write_label-in-NonNullType.ensures ▹ c.in_ok-write_type-in-NonNullType.ensures)
    c.close_node-in-NonNullType.ensures
    (text-node_one (codes "NonNullType") (codes "type") _ ∙ ap (λ d. json_text (type_json d)) seen)
