use Rattle.std.proofs.Common.{◌∙◌, ◌++◌, ap, refl, sym, map, arith, append_assoc}
use Rattle.graphql_core.proofs.{item_here}
use Rattle.graphql_core.specs.{arguments_view}
use Rattle.graphql_json.specs.{elements_of, argument_json}
use Rattle.graphql_json.specs.Json.{elements_text}
use Rattle.graphql_json.proofs.{then_last, next_element, list_appended, later-one, text-array}
use Rattle.graphql_json.proofs.values.write_arguments.Goals as goal

pub arguments-preserved : goal.arguments-preserved
arguments-preserved g c =
    let bytes = g.N.Names.bytes in
    let l = c.arguments in
    let here = item_here c.args.arguments.now l.argument-index c.argument-item.result (omega arith) c.argument-item.is in
    let written = rw c.view.ensures at c.in_ok-write_pair.ensures.grown in
    next_element l.is_later _ _ _ _ _ _ c.in_ok-write_separator.ensures.grown written
    (ap (λ xs. l.out ++ elements_text l.is_later (elements_of (map argument_json (arguments_view bytes xs)))) (sym here) ∙ l.invariant)

pub returns : goal.returns
returns g c =
    let bytes = g.N.Names.bytes in
    let l = c.arguments in
    let arguments = list_appended (λ xs. elements_of (map argument_json (arguments_view bytes xs))) c.args.arguments.now l.argument-index l.is_later _ _ _
    (omega arith) refl l.invariant in
    then_last _ _ _ arguments c.write_text-2.ensures
    (simp (later-one, text-array, append_assoc))
