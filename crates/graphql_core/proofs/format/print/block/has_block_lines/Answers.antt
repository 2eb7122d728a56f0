use Rattle.std.proofs.Common.{◌∙◌}
use Rattle.graphql_core.specs.{lines_of}
use Rattle.graphql_core.proofs.{first_has_text, last_has_text, same_tests}
use Rattle.graphql_core.proofs.format.print.block.has_block_lines.Goals as goal

pub returns : goal.returns
returns c =
    let lines = lines_of c.args.text.now in
    c.has_whole_lines_around.ensures ∙ same_tests _ _ _ _ _ _ _ (first_has_text lines) (last_has_text lines)
