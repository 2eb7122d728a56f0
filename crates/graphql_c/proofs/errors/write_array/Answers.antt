use Rattle.std.proofs.Common.{◌∙◌, ◌++◌, ap, refl, sym, map, arith, append_assoc, codes}
use Rattle.graphql_core.proofs.{item_here}
use Rattle.graphql_json.specs.Nodes.{elements_of}
use Rattle.graphql_json.specs.Json.{elements_text}
use Rattle.graphql_json.proofs.Texts.{then_last, next_element, list_appended, text-array}
use Rattle.graphql_c.proofs.errors.write_array.Goals as goal

pub items-preserved : goal.items-preserved
items-preserved g c =
    let l = c.items in
    let here = item_here c.args.items.now l.item-index c.item-item.result (omega arith) c.item-item.is in
    next_element l.is_later _ _ _ _ _ _ c.in_ok-write_separator.ensures.grown c.in_ok-write.ensures.grown
    (ap (λ vs. l.out ++ elements_text l.is_later (elements_of (map g.T.ToJson.as_json vs))) (sym here) ∙ l.invariant)

pub returns : goal.returns
returns g c =
    let l = c.items in
    let items = list_appended (λ vs. elements_of (map g.T.ToJson.as_json vs)) c.args.items.now l.item-index l.is_later c.args.out.now l.out (codes "[") (omega arith) refl l.invariant in
    then_last _ _ _ items c.write_text-2.ensures
    (simp (text-array, append_assoc))
