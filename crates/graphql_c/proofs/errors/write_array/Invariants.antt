use Rattle.std.proofs.Common.{◌≡◌, ◌++◌, false, codes, drop, map}
use Rattle.graphql_json.specs.Nodes.{elements_of}
use Rattle.graphql_json.specs.Json.{elements_text}
use Rattle.graphql_c.proofs.errors.write_array.Given as goal

abbrev pub invariant-items : goal.invariant-items
invariant-items g l =
    l.out ++ elements_text l.is_later (elements_of (map g.T.ToJson.as_json (drop l.item-index l.items)))
    ≡ l.fn.out ++ (codes "[" ++ elements_text false (elements_of (map g.T.ToJson.as_json l.items)))
