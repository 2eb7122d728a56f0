use Rattle.std.proofs.Common.{◌++◌, ◌∙◌, ap, codes}
use Rattle.graphql_core.specs.{text_of, directive_view, arguments_view, arguments_layout}
use Rattle.graphql_core.proofs.{and_last, directive_text}
use Rattle.graphql_core.proofs.format.print.directives.write_directive.Goals as goal

pub returns-clause-text : goal.returns-clause-text
returns-clause-text g c =
    let bytes = g.N.Names.bytes in
    let style = c.args.style.now in
    let margin = c.args.margin in
    let arguments = rw c.deref.ensures.value at c.write_arguments.ensures.text in
    and_last g.S.Sink.took g.met.S.Sink.took_more _ _ _ _ _ _ _ c.in_ok-push_two.ensures arguments
    (ap (λ n. (codes "@" ++ n) ++ text_of (arguments_layout style margin (arguments_view bytes c.args.directive.now.arguments.items))) c.view.ensures
    ∙ directive_text style margin (directive_view bytes c.args.directive.now))
