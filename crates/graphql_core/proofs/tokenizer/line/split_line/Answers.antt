use Rattle.std.proofs.Common.{arith}
use Rattle.std.proofs.lemmas.Str.Pattern.{strip_prefix_char}
use Rattle.graphql_core.proofs.{line_parts}
use Rattle.graphql_core.proofs.tokenizer.line.split_line.Goals as goal

pub returns-clause-lines : goal.returns-clause-lines
returns-clause-lines c =
    let after = c.split_at.result.1.now in
    line_parts c.args.text.now _ c.split_at.result.0.now after c.strip_prefix.result c.line_len.ensures.len c.split_at.ensures.front c.split_at.ensures.back
    (strip_prefix_char 10 after c.strip_prefix.result c.strip_prefix.ensures.cases (omega arith))
