use Rattle.std.proofs.Common.{drop, sym, ap, ◌∙◌, arith}
use Rattle.graphql_core.specs.{taken, is_gap}
use Rattle.graphql_core.specs.declared.tokenizer.token.Kind.TheVariants.{Punctuator}
use Rattle.graphql_core.specs.steps.Front.{Takes}
use Rattle.graphql_core.proofs.{punctuator_front, found_fits, front_run}
use Rattle.graphql_core.proofs.tokenizer.piece.punctuator_in_one_load.Goals as goal

pub returns-clause-is : goal.returns-clause-is
returns-clause-is c =
    let whole = sym c.as_bytes.ensures.value ∙ c.in_ok-byte.ensures.cases.0 in
    let punctuator = sym c.is_punctuator_byte.ensures ∙ c.if-not-is_punctuator_byte.false in
    let first = punctuator_front c.in_ok-byte.byte.now c.in_ok-byte.rest.now punctuator (rw whole at c.requires.other) in
    rw (whole, c.nesting_of.ensures) (sym (ap taken first))

pub returns-clause-gap : goal.returns-clause-gap
returns-clause-gap c =
    let left = ap (drop 1) (sym c.as_bytes.ensures.value ∙ c.in_ok-byte.ensures.cases.0) in
    rw left (omega (arith, c.gap_lanes_from.ensures, front_run is_gap 16 c.in_ok-byte.rest.now))

pub returns-clause-cuts : goal.returns-clause-cuts
returns-clause-cuts c =
    (found_fits c.args.text.now (taken (Takes 1 Punctuator c.nesting_of.result)) (returns-clause-is c) c.utf8.text).2
