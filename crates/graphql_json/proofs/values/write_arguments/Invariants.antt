use Rattle.std.proofs.Common.{◌≡◌, ◌++◌, false, codes, drop, map}
use Rattle.graphql_core.specs.{arguments_view}
use Rattle.graphql_json.specs.{elements_of, label, argument_json}
use Rattle.graphql_json.specs.Json.{elements_text}
use Rattle.graphql_json.proofs.values.write_arguments.Given as goal

abbrev pub invariant-arguments : goal.invariant-arguments
invariant-arguments g l =
    l.out ++ elements_text l.is_later (elements_of (map argument_json (arguments_view g.N.Names.bytes (drop l.argument-index l.arguments))))
    ≡ l.fn.out
    ++ ((label (codes "arguments") ++ codes "[")
    ++ elements_text false (elements_of (map argument_json (arguments_view g.N.Names.bytes l.arguments))))
