use Rattle.std.proofs.Common.{◌∙◌}
use Rattle.graphql_fmt.proofs.Trimmed.{trimmed_is}
use Rattle.graphql_fmt.proofs.pieces.source.trimmed.Goals as goal

pub returns : goal.returns
returns c = let (n, e, len, within, white, last) = c.trim_ascii_end.ensures.value in e ∙ trimmed_is c.args.comment.now n within white last
