use Rattle.std.proofs.Common.{arith, ◌∙◌, ◌++◌, ◌^◌, ap, sym}
use Rattle.graphql_core.specs.{text_of, directive_view, directives_layout}
use Rattle.graphql_core.proofs.{directive_here, and_part, narrower, directives_more}
use Rattle.graphql_core.proofs.format.print.directives.write_directives.Goals as goal

pub directives-preserved : goal.directives-preserved
directives-preserved g c =
    let more = g.met.S.Sink.took_more in
    let bytes = g.N.Names.bytes in
    let style = c.args.style.now in
    let margin = c.args.margin in
    let here = directive_here _ _ bytes c.args.directives.now c.directives.directive-index c.directive-item.result
    (omega arith) c.directive-item.is in
    let bound = rw here at c.directives.invariant.bound in
    let fits = narrower _ _ _ style.indent (2 ^ 32) bound in
    let (done, wrote, rest) = c.directives.invariant.wrote in
    record {
      bound = fits.1;
      wrote = and_part g.S.Sink.took more _ _ _ done _ _ _ wrote (more _ _ _ _ _ c.in_ok-push_str.ensures c.in_ok-write_directive.ensures.text)
          (ap (λ r. done ++ r)
          (directives_more style margin (directive_view bytes c.directive-item.result) _
          ∙ ap (λ ds. text_of (directives_layout style margin ds)) (sym here)) ∙ rest);
      well_formed = λ h. c.directives.invariant.well_formed (rw here (c.in_ok-write_directive.ensures.well_formed, h));
    }
