use Rattle.std.proofs.Common.{sym}
use Rattle.graphql_core.proofs.{not_equal, no_front}
use Rattle.graphql_core.proofs.tokenizer.piece.ignored_bytes.Goals as goal

pub returns-else-is_byte_order_mark : goal.returns-else-is_byte_order_mark
returns-else-is_byte_order_mark c =
    let b = c.in-Some.byte.now in
    let none = no_front b c.in-Some.rest.now (not_equal b 9 c.if-byte-eq9.false) (not_equal b 10 c.if-byte-eq10.false) (not_equal b 13 c.if-byte-eq13.false)
    (sym (c.if-is_space_or_comma.ensures)) (not_equal b 35 c.if-byte-eq35.false) (sym (c.if-is_byte_order_mark.ensures)) in
    rw c.in-Some.ensures.cases.0 (sym none)
