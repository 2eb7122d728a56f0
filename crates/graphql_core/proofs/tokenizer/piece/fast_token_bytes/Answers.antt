use Rattle.std.proofs.Common.{◌≡◌, ◌+◌, sym, ap, ◌∙◌, refl, arith}
use Rattle.graphql_core.specs.{nesting_of, front, taken}
use Rattle.graphql_core.specs.declared.tokenizer.token.Kind.TheVariants.{Punctuator, Name}
use Rattle.graphql_core.specs.declared.tokenizer.piece.Nesting.TheVariants.{Unchanged}
use Rattle.graphql_core.specs.steps.Front.{Takes}
use Rattle.graphql_core.proofs.{name_front, punctuator_front, token_flat}
use Rattle.std.proofs.lemmas.Grind.{common_steps}
use Rattle.graphql_core.proofs.tokenizer.piece.fast_token_bytes.Goals as goal

pub returns-then-is_name_start : goal.returns-then-is_name_start
returns-then-is_name_start c =
    let bytes = c.args.bytes.now in
    let len = c.in_ok-len.len in
    let name : front bytes ≡ Takes (len + 1) Name Unchanged = rw (c.in_ok-byte.ensures.cases.0, c.in_ok-len.ensures.len)
    (name_front c.in_ok-byte.byte.now c.in_ok-byte.rest.now (sym c.is_name_start.ensures ∙ c.if-is_name_start.true)) in
    rw c.no_bracket.ensures (record { is = sym (ap taken name); flat = token_flat bytes (len + 1) Name Unchanged name refl })

pub returns-then-is_punctuator_byte : goal.returns-then-is_punctuator_byte
returns-then-is_punctuator_byte c =
    let bytes = c.args.bytes.now in
    let nesting = nesting_of c.in_ok-byte.byte.now in
    let first = sym c.is_punctuator_byte.ensures ∙ c.if-is_punctuator_byte.true in
    let no_name = sym c.is_name_start.ensures ∙ c.if-is_name_start.false in
    let mark : front bytes ≡ Takes 1 Punctuator nesting = rw c.in_ok-byte.ensures.cases.0
    (punctuator_front c.in_ok-byte.byte.now c.in_ok-byte.rest.now first no_name) in
    record { is = rw c.nesting_of.ensures (sym (ap taken mark)); flat = token_flat bytes 1 Punctuator nesting mark refl }

pub overflow_add-len : goal.overflow_add-len
overflow_add-len c = grind (arith, common_steps)

pub fast_value-requires-clause-small : goal.fast_value-requires-clause-small
fast_value-requires-clause-small c = omega arith
