use Rattle.std.proofs.Common.{List, sym, ap, ◌∙◌, arith}
use Rattle.std.proofs.lemmas.List.Elements.{All-nil, All-same}
use Rattle.graphql_core.specs.{split, Marks, then_left}
use Rattle.graphql_core.specs.declared.helpers.span.Span.{Span}
use Rattle.graphql_core.proofs.{all_left, all_tokenized, last_next}
use Rattle.graphql_core.proofs.helpers.spans.tokenize.Goals as goal

pub batches-init : goal.batches-init
batches-init g c =
    let number = g.W.Width.number in
    let text = c.args.text.now in
    let none = c.in_ok-spans.ensures.items in
    record {
      marks = All-same (Marks number text) _ _ none (All-nil (Marks number text));
      left = all_left number text c.new-tokens.result c.new-tokens.ensures.items c.utf8.text c.requires.small c.requires.narrow;
      items = λ all has.
          ap split (c.new-tokens.ensures.only all has)
          ∙ sym (ap (λ (l : List (Span g.row.W.Denot)). then_left number text l (split c.new-tokens.result)) none);
      some = omega (arith, c.in_ok-spans.ensures.exact, c.in_ok-spans.ensures.len);
    }

pub returns-then-len-capacity : goal.returns-then-len-capacity
returns-then-len-capacity g c items has =
    let text = c.args.text.now in
    let step = c.append-after.ensures.appends text c.batches.invariant.left in
    let last = c.append-after.ensures.last (omega (arith, c.len.ensures, c.capacity.ensures, c.if-len-capacity.true)) in
    record {
      marks = step.marks c.batches.invariant.marks;
      items =
          all_tokenized g.W.Width.number text _ _ _ _ (c.batches.invariant.items items has ∙ step.items)
          (last_next _ _ _ last c.position-end.ensures);
    }

pub batches-preserved : goal.batches-preserved
batches-preserved g c =
    let number = g.W.Width.number in
    let text = c.args.text.now in
    let step = c.append-after.ensures.appends text c.batches.invariant.left in
    let grown = c.reserve.ensures.items in
    record {
      marks = All-same (Marks number text) _ _ grown (step.marks c.batches.invariant.marks);
      left = step.left;
      items = λ all has.
          c.batches.invariant.items all has ∙ step.items
          ∙ sym (ap (λ (l : List (Span g.row.W.Denot)). then_left number text l (split c.append-after.result.0)) grown);
      some =
          omega (
            arith,
            c.batches.invariant.some,
            c.append-after.ensures.capacity,
            c.len.ensures,
            c.capacity.ensures,
            c.if-len-capacity.false,
            c.reserve.ensures.len,
            c.in_ok-reserve.ensures.ok,
            c.len-in-batches.ensures,
          );
    }
