use Rattle.std.proofs.Common.{sym, ◌∙◌, arith}
use Rattle.graphql_core.proofs.{skips_plain, skips_escape, skips_unit}
use Rattle.graphql_core.proofs.tokenizer.quoted.units_len.Goals as goal

pub returns-then-plain-gt0-clause-skips : goal.returns-then-plain-gt0-clause-skips
returns-then-plain-gt0-clause-skips c n = skips_plain n c.class_prefix_len-plain.result c.args.bytes.now (omega (arith, c.class_prefix_len-plain.ensures.len))

pub returns-then-begins_escape-clause-skips : goal.returns-then-begins_escape-clause-skips
returns-then-begins_escape-clause-skips c n =
    skips_escape n c.args.bytes.now c.requires.open (sym c.begins_escape.ensures ∙ c.if-begins_escape.true)

pub returns-else-begins_escape-clause-skips : goal.returns-else-begins_escape-clause-skips
returns-else-begins_escape-clause-skips c n =
    skips_unit n c.args.bytes.now c.requires.some c.requires.open (sym c.begins_escape.ensures ∙ c.if-begins_escape.false)
