use Rattle.std.proofs.Common.{sym, ap, ◌∙◌}
use Rattle.graphql_core.specs.{is_blank_line, indent}
use Rattle.graphql_core.proofs.{blank_from_indent, text_from_indent}
use Rattle.graphql_core.proofs.common.strings.block.BlockShape.with_line.Goals as goal

pub returns-then-spaces-line : goal.returns-then-spaces-line
returns-then-spaces-line c ls within at is =
    let blank = blank_from_indent c.args.line.now (sym c.indent-spaces.ensures ∙ c.if-spaces-line.true) in
    c.with_blank_line.ensures ls within (ap is_blank_line (sym at) ∙ blank) is

pub returns : goal.returns
returns c ls within at is =
    let text = text_from_indent c.args.line.now (λ e. c.if-spaces-line.false (c.indent-spaces.ensures ∙ e)) in
    c.with_text_line.ensures ls within (ap is_blank_line (sym at) ∙ text) (c.indent-spaces.ensures ∙ ap indent at) is
