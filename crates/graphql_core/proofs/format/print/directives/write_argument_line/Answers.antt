use Rattle.std.proofs.Common.{arith, rules, ◌∙◌, ◌++◌, ◌^◌, ap, sym, refl, codes, map}
use Rattle.std.proofs.lemmas.List.{at_drop_all}
use Rattle.graphql_core.specs.{text_of, value_view, arguments_view, value_layout, each_argument}
use Rattle.graphql_core.specs.steps.Joined.{led}
use Rattle.graphql_core.proofs.{argument_here, and_last, and_part, all_done, narrower, led_next, led_arguments}
use Rattle.graphql_core.proofs.{arguments_fit, inside_line}
use Rattle.graphql_core.proofs.format.print.directives.write_argument_line.Goals as goal

pub arguments-init : goal.arguments-init
arguments-init g c =
    let bytes = g.N.Names.bytes in
    let style = c.args.style.now in
    let xs = c.args.arguments.now in
    let fits = arguments_fit (λ a. (bytes a.0, value_view bytes a.1)) style c.args.margin (2 ^ 32) xs c.requires.some c.requires.width in
    record {
      utf8 = search rules;
      bound = rw (inside_line style c.args.margin c.requires.in_line) at fits;
      wrote = (_, g.met.S.Sink.took_nil _, refl);
      well_formed = λ h. h;
    }

pub write_value-requires : goal.write_value-requires
write_value-requires g c =
    let xs = c.args.arguments.now in
    let here = argument_here _ _ g.N.Names.bytes xs c.arguments.argument-index c.argument-item.result (omega arith) c.argument-item.is in
    let bound = rw here at c.arguments.invariant.bound in
    let fits = narrower _ _ _ c.args.style.now.indent (2 ^ 32) bound in
    fits.0

pub arguments-preserved : goal.arguments-preserved
arguments-preserved g c =
    let more = g.met.S.Sink.took_more in
    let bytes = g.N.Names.bytes in
    let style = c.args.style.now in
    let margin = c.args.margin in
    let xs = c.args.arguments.now in
    let here = argument_here _ _ bytes xs c.arguments.argument-index c.argument-item.result (omega arith) c.argument-item.is in
    let bound = rw here at c.arguments.invariant.bound in
    let fits = narrower _ _ _ style.indent (2 ^ 32) bound in
    let (done, wrote, rest) = c.arguments.invariant.wrote in
    let before = c.arguments.before.now in
    let name = bytes c.argument-item.result.0 in
    let value = value_layout style margin (value_view bytes c.argument-item.result.1) in
    let part = more _ _ _ _ _ (rw c.view.ensures at c.in_ok-push_three.ensures) c.in_ok-write_value.ensures.text in
    record {
      utf8 = search rules;
      bound = fits.1;
      wrote = and_part g.S.Sink.took more _ _ _ done _ _ _ wrote part
          (ap (λ r. done ++ r) (led_next before name value _)
          ∙ ap (λ r. done ++ led before (codes ", ") (map text_of (each_argument style margin r))) (sym here) ∙ rest);
      well_formed = λ h. c.arguments.invariant.well_formed (rw here (c.in_ok-write_value.ensures.well_formed, h));
    }

pub returns-clause-text : goal.returns-clause-text
returns-clause-text g c =
    let bytes = g.N.Names.bytes in
    let style = c.args.style.now in
    let margin = c.args.margin in
    let xs = c.args.arguments.now in
    let (done, wrote, rest) = c.arguments.invariant.wrote in
    let left = at_drop_all
    (λ ys. led c.arguments.before.now (codes ", ") (map text_of (each_argument style margin (arguments_view bytes ys)))) xs
    c.arguments.argument-index (omega arith) in
    let all = all_done g.S.Sink.took g.met.S.Sink.took_more _ _ done _ _ wrote rest left in
    and_last g.S.Sink.took g.met.S.Sink.took_more _ _ _ _ _ _ _ all c.push_str.ensures
    (led_arguments (λ a. (bytes a.0, value_view bytes a.1)) style margin xs c.requires.some c.requires.in_line)
