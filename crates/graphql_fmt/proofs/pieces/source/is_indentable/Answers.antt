use Rattle.graphql_core.specs.values.Leaves.{without_ends}
use Rattle.graphql_fmt.proofs.Elements.{block_quotes}
use Rattle.graphql_fmt.proofs.pieces.source.is_indentable.Goals as goal

pub unquote_block_string-requires : goal.unquote_block_string-requires
unquote_block_string-requires c = (without_ends 3 c.args.spelling.now, block_quotes _ c.requires)
