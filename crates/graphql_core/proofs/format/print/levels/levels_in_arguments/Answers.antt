use Rattle.std.proofs.Common.{◌-◌, ◌^◌, ◌∙◌, arith, refl, sym, ap, min}
use Rattle.graphql_core.specs.{value_view, arguments_view, most_levels}
use Rattle.graphql_core.proofs.{all_counted, argument_here, some_items, filled_levels}
use Rattle.graphql_core.proofs.format.print.levels.levels_in_arguments.Goals as goal

pub arguments-preserved : goal.arguments-preserved
arguments-preserved g c =
    let bytes = g.N.Names.bytes in
    let here = argument_here _ _ bytes c.args.arguments.now c.arguments.argument-index c.argument-item.result (omega arith) c.argument-item.is in
    let before = rw here at c.arguments.invariant.levels in
    record {
      levels = omega (arith, before, c.levels_in_value.ensures);
    }

pub returns : goal.returns
returns g c =
    let bytes = g.N.Names.bytes in
    let style = c.args.style.now in
    let xs = c.args.arguments.now in
    let some = some_items _ xs refl (sym c.is_empty.ensures ∙ c.if-is_empty.false) in
    let l = c.arguments in
    let most =
    all_counted (arguments_view bytes) xs xs l.argument-index (omega arith) refl
    (most_levels style) l.most (2 ^ 64 - 1) refl l.invariant.levels
    in
    c.levels_around.ensures (most_levels style (arguments_view bytes xs)) most
    ∙ ap (λ n. min n (2 ^ 64 - 1)) (sym (filled_levels (λ a. (bytes a.0, value_view bytes a.1)) style xs some))
