use Rattle.std.proofs.Common.{◌∙◌, refl, sym}
use Rattle.std.proofs.lemmas.Bool.{false≢true}
use Rattle.graphql_schema.proofs.{never_too_wide}
use Rattle.graphql_schema.proofs.print.width.is_never_too_wide.Goals as goal

pub returns : goal.returns
returns c narrow =
    let one_line = sym c.has_multiline_arguments.ensures ∙ c.if-has_multiline_arguments.false in
    never_too_wide c.args.style.now one_line (λ wide. false≢true (rw ((c.is_too_wide.ensures 2 refl).1 wide) at narrow))
