use Rattle.std.proofs.Common.{◌+◌, List, Some, Ok, length, refl, sym, ap, ◌∙◌, arith}
use Rattle.std.proofs.lemmas.List.Elements.{All-push, All-same}
use Rattle.graphql_core.specs.declared.position.Pos.{Pos}
use Rattle.graphql_core.specs.{NextItem, next_place, split, Marks, then_left}
use Rattle.graphql_core.specs.declared.helpers.span.Span.{Span}
use Rattle.graphql_core.proofs.{next_of, next_left, marks, is_token, one_tokenized, taken}
use Rattle.graphql_core.proofs.helpers.spans.append.Given.{Over}
use Rattle.graphql_core.proofs.helpers.spans.append.Goals.{in-Some, in-None+in-Ok-Some, Joined-fast_token}
use Rattle.std.proofs.lemmas.Grind.{common_steps}
use Rattle.graphql_core.proofs.helpers.spans.append.Goals as goal

-- the token that either call returned is the next one
next : (g : Over) (c : Joined-fast_token g) → NextItem c.tokens.tokens (Ok (Some c.match-fast_token.token)) c.match-fast_token.tokens
next g c = elim c.match-fast_token.branch [
  | in-Some w ↦ rw (w.token-is, w.tokens-is) w.in-Some.ensures.item
  | in-None+in-Ok-Some w ↦
      rw (w.token-is, w.tokens-is) (next_of NextItem _ _ _ _ w.in-Ok-Some.token (w.in-None.ensures.stays refl) w.slow_token-after.ensures
      (w.in-Ok-Some.is ∙ ap Ok (rw w.in-Ok-Some.is at w.in-Ok-Some.field-0-is)))
]

pub span_of-span-requires : goal.span_of-span-requires
span_of-span-requires g c =
    let (text, first) = c.requires.left in
    let left = (c.tokens.invariant.appends text first).left in
    let (is, token, more) = next_left text _ _ c.match-fast_token.token (next g c) left in
    record {
      small = omega (arith, c.offset-start.ensures, token.within, left.small);
      end = omega (arith, c.offset-start.ensures, token.within, left.narrow);
      line = omega (arith, ap (λ (p : Pos). p.line) c.position-position.ensures, token.low.0, token.within, left.narrow);
      column = omega (arith, ap (λ (p : Pos). p.column) c.position-position.ensures, token.low.1, token.within, left.narrow);
    }

pub tokens-preserved : goal.tokens-preserved
tokens-preserved g c =
    let old = c.tokens.tokens in
    let new = c.match-fast_token.tokens in
    let spans = c.tokens.spans.items in
    let token = c.match-fast_token.token in
    let following : NextItem old (Ok (Some token)) new = elim c.match-fast_token.branch [
      | in-Some w ↦ rw (w.token-is, w.tokens-is) w.in-Some.ensures.item
      | in-None+in-Ok-Some w ↦
          rw (w.token-is, w.tokens-is) (next_of NextItem _ _ _ _ w.in-Ok-Some.token (w.in-None.ensures.stays refl) w.slow_token-after.ensures
          (w.in-Ok-Some.is ∙ ap Ok (rw w.in-Ok-Some.is at w.in-Ok-Some.field-0-is)))
    ] in
    let pushed = c.push_reserved.ensures.items in
    record {
      appends = λ text left.
          let number = g.W.Width.number in
          let span = c.span_of-span.result in
          let so_far = c.tokens.invariant.appends text left in
          let (is, is_element, more) = next_left text old new token following so_far.left in
          let w = next_place old in
          let start = c.span_of-span.ensures.start ∙ c.offset-start.ensures in
          let end = c.span_of-span.ensures.end ∙ ap (λ n. n + length token.value.now) c.offset-start.ensures in
          let line = c.span_of-span.ensures.line ∙ ap (λ (p : Pos). p.line) c.position-position.ensures in
          let column = c.span_of-span.ensures.column ∙ ap (λ (p : Pos). p.column) c.position-position.ensures in
          let kind = c.span_of-span.ensures.kind in
          let front = c.span_of-span.ensures.front in
          record {
            marks = λ marked.
                All-same (Marks number text) _ _ pushed
                (All-push (Marks number text) spans span (so_far.marks marked)
                (marks number text span w token.kind token.value.now is_element start end line column kind front));
            left = more;
            items =
                one_tokenized number text spans span old new token.kind token.value.now w _ so_far.items is
                (is_token number text span w token.kind token.value.now is_element start end line column kind front)
                ∙ sym (ap (λ (l : List (Span g.row.W.Denot)). then_left number text l (split new)) pushed);
          };
      count = taken old new token spans _ _ _ following pushed c.tokens.invariant.count;
      capacity = c.push_reserved.ensures.capacity ∙ c.tokens.invariant.capacity;
    }

pub returns-in-Ok-None-clause-appends : goal.returns-in-Ok-None-clause-appends
returns-in-Ok-None-clause-appends g c text left =
    let none = c.in-Ok-None.is ∙ ap Ok (rw c.in-Ok-None.is at c.in-Ok-None.field-0-is) in
    let (w, is, same) = rw none at c.slow_token-after.ensures in
    rw (same ∙ c.in-None.ensures.stays refl) (c.tokens.invariant.appends text left)

pub returns-in-Err-clause-appends : goal.returns-in-Err-clause-appends
returns-in-Err-clause-appends g c text left =
    let (w, is, same) = rw c.in-Err.is at c.slow_token-after.ensures in
    rw (same ∙ c.in-None.ensures.stays refl) (c.tokens.invariant.appends text left)

pub returns-in-Err-clause-last : goal.returns-in-Err-clause-last
returns-in-Err-clause-last g c less =
    let (w, is, same) = rw c.in-Err.is at c.slow_token-after.ensures in
    (w, same ∙ is)

pub push_reserved-requires : goal.push_reserved-requires
push_reserved-requires g c = omega arith

pub returns-in-Ok-None-clause-count : goal.returns-in-Ok-None-clause-count
returns-in-Ok-None-clause-count g c = grind (arith, common_steps)

pub returns-in-Err-clause-count : goal.returns-in-Err-clause-count
returns-in-Err-clause-count g c = grind (arith, common_steps)

pub returns-in-Ok-None-clause-capacity : goal.returns-in-Ok-None-clause-capacity
returns-in-Ok-None-clause-capacity g c = omega arith

pub returns-in-Err-clause-capacity : goal.returns-in-Err-clause-capacity
returns-in-Err-clause-capacity g c = omega arith

pub returns-clause-count : goal.returns-clause-count
returns-clause-count g c = omega arith

pub returns-clause-capacity : goal.returns-clause-capacity
returns-clause-capacity g c = omega arith

pub tokens-smaller : goal.tokens-smaller
tokens-smaller g c = grind (arith, common_steps)
