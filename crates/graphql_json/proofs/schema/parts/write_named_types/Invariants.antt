use Rattle.std.proofs.Common.{◌≡◌, ◌++◌, false, codes, drop, map}
use Rattle.graphql_json.specs.{elements_of, label, named_type_json}
use Rattle.graphql_json.specs.Json.{elements_text}
use Rattle.graphql_json.proofs.schema.parts.write_named_types.Given as goal

abbrev pub invariant-names : goal.invariant-names
invariant-names g l =
    l.out ++ elements_text l.is_later (elements_of (map named_type_json (map g.N.Names.bytes (drop l.name-index l.names))))
    ≡ l.fn.out
    ++ ((label l.label ++ codes "[")
    ++ elements_text false (elements_of (map named_type_json (map g.N.Names.bytes l.names))))
