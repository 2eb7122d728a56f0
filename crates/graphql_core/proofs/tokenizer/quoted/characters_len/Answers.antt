use Rattle.std.proofs.Common.{sym, ◌∙◌, arith}
use Rattle.graphql_core.proofs.{skips_characters, skips_escaped, no_character}
use Rattle.graphql_core.proofs.tokenizer.quoted.characters_len.Goals as goal

pub returns-then-plain-gt0-clause-skips : goal.returns-then-plain-gt0-clause-skips
returns-then-plain-gt0-clause-skips c n =
    skips_characters n c.class_prefix_len-plain.result c.args.bytes.now (omega (arith, c.class_prefix_len-plain.ensures.len))

pub returns-then-begins_escaped-clause-skips : goal.returns-then-begins_escaped-clause-skips
returns-then-begins_escaped-clause-skips c n = skips_escaped n c.args.bytes.now (sym c.begins_escaped.ensures ∙ c.if-begins_escaped.true)

pub returns-else-begins_escaped-clause-none : goal.returns-else-begins_escaped-clause-none
returns-else-begins_escaped-clause-none c none n =
    no_character n c.args.bytes.now c.requires.some (omega (arith, c.class_prefix_len-plain.ensures.len, c.if-plain-gt0.false))
    (sym c.begins_escaped.ensures ∙ c.if-begins_escaped.false) c.requires.open
