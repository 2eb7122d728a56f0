use Rattle.std.proofs.Common.{◌≡◌, ◌++◌, false, codes, drop}
use Rattle.graphql_query.specs.Tree.{selections_view}
use Rattle.graphql_json.specs.{selections_json}
use Rattle.graphql_json.specs.Json.{elements_text}
use Rattle.graphql_json.proofs.query.+selection.Given as goal

abbrev pub invariant-write_selections-items : goal.invariant-write_selections-items
invariant-write_selections-items g l =
    l.out ++ elements_text l.is_later (selections_json (selections_view g.N.Names.bytes (drop l.item-index l.items)))
    ≡ l.fn.out ++ (codes "[" ++ elements_text false (selections_json (selections_view g.N.Names.bytes l.items)))
