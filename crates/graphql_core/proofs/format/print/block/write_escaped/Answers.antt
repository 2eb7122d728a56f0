use Rattle.std.proofs.Common.{◌∷◌, ◌++◌, ◌∙◌, [], take, drop, arith, rules, sym, ap, append_assoc}
use Rattle.graphql_core.specs.{escaped_quotes}
use Rattle.graphql_core.proofs.{and_alone, and_last, and_part, alike, escaped_at, escaped_none, unquoted}
use Rattle.graphql_core.proofs.format.print.block.write_escaped.Goals as goal

pub quotes-preserved : goal.quotes-preserved
quotes-preserved g c =
    let more = g.met.S.Sink.took_more in
    let (i, j, found, before, after, ordered, front, back) = c.in-Some.ensures.cases in
    let rest = c.quotes.rest.now in
    let (done, wrote, whole) = c.quotes.invariant.written in
    let split = escaped_at rest i j (omega arith) found.0 found.1.split in
    let part = and_part g.S.Sink.took more _ _ _ done _ (escaped_quotes (drop j rest)) _ wrote
    (more _ _ _ _ _ (alike g.S.Sink.took more _ _ _ _ before c.in_ok-push_str.ensures) c.in_ok-push_str-2.ensures)
    (ap (λ t. done ++ t) (append_assoc (take i rest) (92 ∷ 34 ∷ 34 ∷ 34 ∷ []) (escaped_quotes (drop j rest)) ∙ sym split) ∙ whole) in
    record {
      text = search rules;
      written = rw after part;
    }

pub returns : goal.returns
returns g c =
    let (done, wrote, whole) = c.quotes.invariant.written in
    let none = escaped_none c.quotes.rest.now c.in_default.ensures.cases in
    and_last g.S.Sink.took g.met.S.Sink.took_more _ _ _ _ _ _ _ wrote c.push_str-2.ensures (ap (λ t. done ++ t) (sym none) ∙ whole)

pub returns-then-not-may_have_quotes : goal.returns-then-not-may_have_quotes
returns-then-not-may_have_quotes g c =
    and_alone g.S.Sink.took g.met.S.Sink.took_more _ _ _ _ _ c.push_str.ensures
    (sym (unquoted c.args.line.now (c.may_have_quotes.ensures c.if-not-may_have_quotes.true)))
