use Rattle.std.proofs.Common.{arith, ◌∙◌, ◌++◌, ◌^◌, ap, sym, refl, codes}
use Rattle.std.proofs.lemmas.List.{at_drop_all}
use Rattle.graphql_core.specs.{text_of, value_view, arguments_view, parts, value_layout, pair_layout, each_argument}
use Rattle.graphql_core.proofs.{argument_here, alike, and_last, all_done, narrower, pair_text}
use Rattle.graphql_core.proofs.{enclosed_text, and_next, arguments_fit, filled_layout}
use Rattle.graphql_core.proofs.format.print.directives.write_argument_lines.Goals as goal

pub inside-indented-requires : goal.inside-indented-requires
inside-indented-requires g c =
    let bytes = g.N.Names.bytes in
    let xs = c.args.arguments.now in
    let fits = arguments_fit (λ a. (bytes a.0, value_view bytes a.1)) c.args.style.now c.args.margin (2 ^ 32) xs c.requires.some c.requires.width in
    omega arith

pub arguments-init : goal.arguments-init
arguments-init g c =
    let bytes = g.N.Names.bytes in
    let xs = c.args.arguments.now in
    let fits = arguments_fit (λ a. (bytes a.0, value_view bytes a.1)) c.args.style.now c.args.margin (2 ^ 32) xs c.requires.some c.requires.width in
    record {
      bound = rw c.inside-indented.ensures fits;
      wrote = (codes "(", c.in_ok-push_str.ensures, refl);
      well_formed = λ h. h;
    }

pub write_value-requires : goal.write_value-requires
write_value-requires g c =
    let xs = c.args.arguments.now in
    let here = argument_here _ _ g.N.Names.bytes xs c.arguments.argument-index c.argument-item.result (omega arith) c.argument-item.is in
    let bound = rw here at c.arguments.invariant.bound in
    let fits = narrower _ _ _ c.args.style.now.indent (2 ^ 32) bound in
    fits.0

pub arguments-preserved : goal.arguments-preserved
arguments-preserved g c =
    let more = g.met.S.Sink.took_more in
    let bytes = g.N.Names.bytes in
    let style = c.args.style.now in
    let margin = c.inside-indented.result in
    let xs = c.args.arguments.now in
    let here = argument_here _ _ bytes xs c.arguments.argument-index c.argument-item.result (omega arith) c.argument-item.is in
    let bound = rw here at c.arguments.invariant.bound in
    let fits = narrower _ _ _ style.indent (2 ^ 32) bound in
    let (done, wrote, rest) = c.arguments.invariant.wrote in
    let name = bytes c.argument-item.result.0 in
    let value = value_layout style margin (value_view bytes c.argument-item.result.1) in
    let pair : g.S.Sink.took c.write_before_part.new.out (text_of (pair_layout name value)) c.write_value.new.out =
    alike g.S.Sink.took more _ _ _ _ (ap (λ n. (n ++ codes ": ") ++ text_of value) c.view.ensures ∙ pair_text name value)
    (more _ _ _ _ _ c.in_ok-write_label.ensures c.in_ok-write_value.ensures.text) in
    record {
      bound = fits.1;
      wrote = and_next g.S.Sink.took more style margin c.arguments.is_later
          (pair_layout name value) _ _ _ _ _ done _ wrote c.in_ok-write_before_part.ensures pair
          (ap (λ r. done ++ text_of (parts style margin c.arguments.is_later (each_argument style margin r))) (sym here) ∙ rest);
      well_formed = λ h. c.arguments.invariant.well_formed (rw here (c.in_ok-write_value.ensures.well_formed, h));
    }

pub returns-clause-text : goal.returns-clause-text
returns-clause-text g c =
    let bytes = g.N.Names.bytes in
    let style = c.args.style.now in
    let margin = c.inside-indented.result in
    let xs = c.args.arguments.now in
    let (done, wrote, rest) = c.arguments.invariant.wrote in
    let left = at_drop_all
    (λ ys. text_of (parts style margin c.arguments.is_later
    (each_argument style margin (arguments_view bytes ys)))) xs c.arguments.argument-index (omega arith) in
    let all = all_done g.S.Sink.took g.met.S.Sink.took_more _ _ done _ _ wrote rest left in
    and_last g.S.Sink.took g.met.S.Sink.took_more _ _ _ _ _ _ _ all c.write_closer.ensures
    (enclosed_text style c.args.margin margin (codes "(") (codes ")") (λ m. each_argument style m (arguments_view bytes xs)) c.inside-indented.ensures
    ∙ ap text_of (filled_layout (λ a. (bytes a.0, value_view bytes a.1)) style c.args.margin xs c.requires.some))
