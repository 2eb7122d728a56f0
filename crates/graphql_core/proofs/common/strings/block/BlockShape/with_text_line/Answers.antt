use Rattle.std.proofs.Common.{Some, refl, ap, ◌∙◌, arith}
use Rattle.graphql_core.specs.steps.BlockShape.{least_indent}
use Rattle.graphql_core.proofs.{text_added}
use Rattle.graphql_core.proofs.common.strings.block.BlockShape.with_text_line.Goals as goal

pub returns : goal.returns
returns c ls within text spaces is =
    text_added ls c.args.index c.args.self _ within is text (omega arith)
    (ap Some (c.least_indent.ensures ∙ ap (least_indent c.args.self.indent) spaces)) refl refl
