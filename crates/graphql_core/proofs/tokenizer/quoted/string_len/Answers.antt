use Rattle.std.proofs.Common.{◌≡◌, false, drop, get_or, sym, ap, ◌∙◌, arith}
use Rattle.std.proofs.lemmas.List.{take_rest}
use Rattle.graphql_core.proofs.{string_ends, string_none}
use Rattle.graphql_core.proofs.tokenizer.quoted.string_len.Goals as goal

pub returns-then-byte_at-eq34-clause-end : goal.returns-then-byte_at-eq34-clause-end
returns-then-byte_at-eq34-clause-end c =
    let rest = drop c.characters.len c.args.bytes.now in
    let quote : get_or rest 0 0 ≡ 34 = ap (λ l. get_or l 0 0) (sym (take_rest c.args.bytes.now c.characters.len))
    ∙ sym c.byte_at.ensures ∙ c.if-byte_at-eq34.true in
    sym (string_ends c.characters.len rest quote) ∙ c.characters.invariant.end

pub returns-clause-end : goal.returns-clause-end
returns-clause-end c =
    sym (string_none c.characters.len c.args.bytes.now false (omega (arith, c.characters-test.false))) ∙ c.characters.invariant.end
