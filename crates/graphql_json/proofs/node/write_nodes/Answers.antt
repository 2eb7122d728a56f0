use Rattle.std.proofs.Common.{◌∙◌, ◌++◌, ap, refl, sym, map, arith, append_assoc}
use Rattle.graphql_core.proofs.{item_here}
use Rattle.graphql_json.specs.{elements_of}
use Rattle.graphql_json.specs.Json.{elements_text}
use Rattle.graphql_json.proofs.{then_last, next_element, list_appended, later-one, text-array}
use Rattle.graphql_json.proofs.node.write_nodes.Goals as goal

pub nodes-preserved : goal.nodes-preserved
nodes-preserved g c =
    let l = c.nodes in
    let here = item_here c.args.nodes.now l.node-index c.node-item.result (omega arith) c.node-item.is in
    next_element l.is_later _ _ _ _ _ _ c.in_ok-write_separator.ensures.grown c.in_ok-write.ensures.grown
    (ap (λ ns. l.out ++ elements_text l.is_later (elements_of (map g.T.Node.as_json ns))) (sym here) ∙ l.invariant)

pub returns : goal.returns
returns g c =
    let l = c.nodes in
    let nodes = list_appended (λ ns. elements_of (map g.T.Node.as_json ns)) c.args.nodes.now l.node-index l.is_later _ _ _ (omega arith) refl l.invariant in
    then_last _ _ _ nodes c.write_text-2.ensures
    (simp (later-one, text-array, append_assoc))
