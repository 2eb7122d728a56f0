use Rattle.std.proofs.Common.{◌∙◌}
use Rattle.graphql_core.proofs.{block_bytes}
use Rattle.graphql_core.proofs.format.print.block.has_block_characters.Goals as goal

pub returns : goal.returns
returns c = c.has_block_bytes.ensures ∙ block_bytes c.args.text.now c.utf8.text
