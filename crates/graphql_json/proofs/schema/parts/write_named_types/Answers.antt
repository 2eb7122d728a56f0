use Rattle.std.proofs.Common.{◌∙◌, ◌++◌, ap, refl, sym, map, arith, append_assoc}
use Rattle.graphql_core.proofs.{item_here}
use Rattle.graphql_json.specs.{elements_of, named_type_json}
use Rattle.graphql_json.specs.Json.{elements_text}
use Rattle.graphql_json.proofs.{then_last, next_element, list_appended, later-one, text-array}
use Rattle.graphql_json.proofs.schema.parts.write_named_types.Goals as goal

pub names-preserved : goal.names-preserved
names-preserved g c =
    let bytes = g.N.Names.bytes in
    let l = c.names in
    let here = item_here c.args.names.now l.name-index c.name-item.result (omega arith) c.name-item.is in
    let written = rw c.view.ensures at c.in_ok-write_named.ensures.grown in
    next_element l.is_later _ _ _ _ _ _ c.in_ok-write_separator.ensures.grown written
    (ap (λ xs. l.out ++ elements_text l.is_later (elements_of (map named_type_json (map bytes xs)))) (sym here) ∙ l.invariant)

pub returns : goal.returns
returns g c =
    let bytes = g.N.Names.bytes in
    let l = c.names in
    let names = list_appended (λ xs. elements_of (map named_type_json (map bytes xs))) c.args.names.now l.name-index l.is_later _ _ _
    (omega arith) refl l.invariant in
    then_last _ _ _ names c.write_text-2.ensures
    (simp (later-one, text-array, append_assoc))
