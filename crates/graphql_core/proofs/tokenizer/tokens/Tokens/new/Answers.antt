use Rattle.std.proofs.Common.{refl, sym, ap, ◌∙◌, zero-add}
use Rattle.graphql_core.specs.{start, depth_of}
use Rattle.graphql_core.proofs.{has_items, items_only, next_place_items}
use Rattle.graphql_core.proofs.tokenizer.tokens.Tokens.new.Goals as goal

pub returns-clause-items : goal.returns-clause-items
returns-clause-items c =
    let e = rw zero-add at (c.skip_ignored.ensures.skips.0 start refl) in
    rw e (has_items c.args.source.now)

pub returns-clause-only : goal.returns-clause-only
returns-clause-only c others h =
    let e = rw zero-add at (c.skip_ignored.ensures.skips.0 start refl) in
    items_only c.args.source.now others h ∙ sym e

pub returns-clause-none_open : goal.returns-clause-none_open
returns-clause-none_open c = ap depth_of (next_place_items _ _ c.skip_ignored.ensures.first)
