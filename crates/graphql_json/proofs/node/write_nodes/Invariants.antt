use Rattle.std.proofs.Common.{◌≡◌, ◌++◌, false, codes, drop, map}
use Rattle.graphql_json.specs.{elements_of, label}
use Rattle.graphql_json.specs.Json.{elements_text}
use Rattle.graphql_json.proofs.node.write_nodes.Given as goal

abbrev pub invariant-nodes : goal.invariant-nodes
invariant-nodes g l =
    l.out ++ elements_text l.is_later (elements_of (map g.T.Node.as_json (drop l.node-index l.nodes)))
    ≡ l.fn.out ++ ((label l.name ++ codes "[") ++ elements_text false (elements_of (map g.T.Node.as_json l.nodes)))
