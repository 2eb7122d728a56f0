use Rattle.std.proofs.Common.{◌++◌, string_bytes, ap, sym}
use Rattle.graphql_core.proofs.{plain_line, completed}
use Rattle.graphql_core.proofs.common.strings.block.push_line.Goals as goal

pub returns-then-has_no_backslash : goal.returns-then-has_no_backslash
returns-then-has_no_backslash c =
    completed c.push_str.result _ (string_bytes c.args.value.now) c.args.line.now _ c.push_str.ensures.bytes
    (ap (λ t. string_bytes c.args.value.now ++ t) (sym (plain_line c.args.line.now (c.has_no_backslash.ensures c.if-has_no_backslash.true))))
