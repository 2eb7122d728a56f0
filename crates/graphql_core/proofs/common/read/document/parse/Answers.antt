use Rattle.std.proofs.Common.{arith}
use Rattle.graphql_core.specs.{start, items, split}
use Rattle.graphql_core.proofs.{has_items, unread, parsed, tokenized_first}
use Rattle.graphql_core.proofs.common.read.document.parse.Goals as goal

pub returns-then-source-gt-MAX_LENGTH : goal.returns-then-source-gt-MAX_LENGTH
returns-then-source-gt-MAX_LENGTH g c readable =
    unread g.D.ReadDocument.language readable _ _ _ (omega arith) c.text_too_long.ensures

pub returns-then-source-lt-WIDE_TEXT : goal.returns-then-source-lt-WIDE_TEXT
returns-then-source-lt-WIDE_TEXT g c readable =
    let text = c.args.source.now in
    parsed g.D.ReadDocument.language readable _ text (split (items start text)) (tokenized_first text) (omega arith) _
    (c.read_spans.ensures _ (has_items text))

pub returns-else-source-lt-WIDE_TEXT : goal.returns-else-source-lt-WIDE_TEXT
returns-else-source-lt-WIDE_TEXT g c readable =
    let text = c.args.source.now in
    parsed g.D.ReadDocument.language readable _ text (split (items start text)) (tokenized_first text) (omega arith) _
    (c.read_spans-else-source-lt-WIDE_TEXT.ensures _ (has_items text))
