use Rattle.std.proofs.Common.{◌≡◌, ◌++◌, false, codes, drop}
use Rattle.graphql_core.specs.values.ValueViews.{items_view, members_view}
use Rattle.graphql_json.specs.{items_json, fields_json}
use Rattle.graphql_json.specs.Json.{elements_text}
use Rattle.graphql_json.proofs.values.+value.Given as goal

abbrev pub invariant-write_items-items : goal.invariant-write_items-items
invariant-write_items-items g l =
    l.out ++ elements_text l.is_later (items_json (items_view g.N.Names.bytes (drop l.item-index l.items)))
    ≡ l.fn.out ++ (codes "[" ++ elements_text false (items_json (items_view g.N.Names.bytes l.items)))

abbrev pub invariant-write_fields-members : goal.invariant-write_fields-members
invariant-write_fields-members g l =
    l.out ++ elements_text l.is_later (fields_json (members_view g.N.Names.bytes l.name-iterator))
    ≡ l.fn.out ++ (codes "[" ++ elements_text false (fields_json (members_view g.N.Names.bytes l.members.entries)))
