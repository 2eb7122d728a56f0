use Rattle.std.proofs.lemmas.Bool.{not-true}
use Rattle.graphql_core.specs.{can_begin_ignored}
use Rattle.graphql_core.proofs.{first_decided, item_front}
use Rattle.graphql_core.proofs.tokenizer.ignored.shows_item.Goals as goal

pub returns-then-not-is_empty : goal.returns-then-not-is_empty
returns-then-not-is_empty c item =
    let text = c.args.text.now in
    item_front text (first_decided can_begin_ignored text c.first_byte.ensures c.can_begin_ignored.ensures (not-true _ item))
