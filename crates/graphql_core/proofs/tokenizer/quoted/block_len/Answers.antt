use Rattle.std.proofs.Common.{◌≡◌, true, drop, sym, ◌∙◌, ap}
use Rattle.std.proofs.lemmas.List.{take_rest}
use Rattle.graphql_core.specs.{begins_quotes}
use Rattle.graphql_core.proofs.{block_closes, block_none}
use Rattle.graphql_core.proofs.tokenizer.quoted.block_len.Goals as goal

pub returns-then-begins_quotes-clause-end : goal.returns-then-begins_quotes-clause-end
returns-then-begins_quotes-clause-end c =
    let here : begins_quotes (drop c.units.len c.args.bytes.now) ≡ true = ap begins_quotes (sym (take_rest c.args.bytes.now c.units.len))
    ∙ sym c.begins_quotes.ensures ∙ c.if-begins_quotes.true in
    sym (block_closes c.units.len c.args.bytes.now here) ∙ c.units.invariant.end

pub returns-clause-end : goal.returns-clause-end
returns-clause-end c = sym (block_none c.units.len c.args.bytes.now c.units-test.false) ∙ c.units.invariant.end
