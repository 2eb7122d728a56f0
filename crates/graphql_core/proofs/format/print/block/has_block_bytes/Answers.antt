use Rattle.std.proofs.Common.{rules, tests, ◌∙◌, ◌&&◌, true}
use Rattle.std.proofs.lemmas.Iterator.Consumers.{fold_from_yields_List}
use Rattle.std.proofs.lemmas.Iterator.Adapters.{YieldsList-from_bytes}
use Rattle.graphql_core.specs.{is_block_byte}
use Rattle.graphql_core.proofs.{all_folded}
use Rattle.graphql_core.proofs.format.print.block.has_block_bytes.Goals as goal

pub returns : goal.returns
returns c =
    fold_from_yields_List _ (λ all b. all && is_block_byte b) true c.fold.result c.fold.ensures.ran
    (YieldsList-from_bytes c.args.text.now c.bytes.ensures.rest) (λ a x b q k. search (rules, tests))
    ∙ all_folded is_block_byte c.args.text.now
