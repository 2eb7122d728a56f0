use Rattle.std.proofs.Common.{◌≡◌, ◌<◌, ℕ, List, length, drop, sym, ap, subst, ◌∙◌}
use Rattle.graphql_core.proofs.{items_rise, holds_first, rise_on, holds_on, boundary, other_position, same_position}
use Rattle.graphql_core.specs.{Item, next_place}
use Rattle.graphql_query.proofs.consume.text_from.Goals as goal

pub items-init : goal.items-init
items-init c = record {
  rise = items_rise c.args.source.now c.new-stream.result.items c.utf8.source c.new-stream.ensures.items;
  holds = λ items n has some at.
      let is = c.new-stream.ensures.only items has in (
        n,
        subst (λ (l : List Item). n < length l) is some,
        subst (λ (l : List Item). (next_place (drop n l)).position ≡ c.args.position) is at,
        ap (λ (l : List Item). (next_place (drop n l)).offset) (sym is),
      );
}

pub items-preserved : goal.items-preserved
items-preserved c = record {
  rise = rise_on c.args.source.now c.items.stream.items _ _ c.next_token.ensures.item c.items.invariant.rise;
  holds = λ items n has some at.
      holds_on c.items.stream.items _ _ c.args.position _ c.next_token.ensures.item (c.items.invariant.holds items n has some at)
      (λ e. other_position c.position.result c.args.position (sym c.ne.ensures ∙ c.items-test.true) (c.position.ensures ∙ e));
}

pub split_at-requires : goal.split_at-requires
split_at-requires c = rw c.offset.ensures (boundary c.args.source.now c.items.stream.items c.utf8.source c.items.invariant.rise)

pub returns : goal.returns
returns c items n has some at =
    let here = same_position c.position.result c.args.position (sym c.ne.ensures ∙ c.items-test.false) in
    let offset = holds_first c.args.source.now c.items.stream.items c.args.position _ c.items.invariant.rise (c.items.invariant.holds items n has some at)
    (sym c.position.ensures ∙ here) in
    c.split_at.ensures.back ∙ ap (λ (k : ℕ). drop k c.args.source.now) (c.offset.ensures ∙ offset)
