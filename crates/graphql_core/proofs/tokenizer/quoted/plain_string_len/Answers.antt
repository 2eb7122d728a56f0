use Rattle.std.proofs.Common.{sym, ◌∙◌}
use Rattle.graphql_core.proofs.{plain_string, plain_flat}
use Rattle.graphql_core.proofs.tokenizer.quoted.plain_string_len.Goals as goal

pub returns-clause-is : goal.returns-clause-is
returns-clause-is c =
    plain_string c.args.bytes.now c.class_prefix_len-len.result c.class_prefix_len-len.ensures.len
    (sym c.byte_at.ensures ∙ c.if-byte_at-ne34.false) c.if-len-eq0.false

pub returns-clause-flat : goal.returns-clause-flat
returns-clause-flat c =
    plain_flat c.args.bytes.now c.class_prefix_len-len.result c.class_prefix_len-len.ensures.len (sym c.byte_at.ensures ∙ c.if-byte_at-ne34.false)
