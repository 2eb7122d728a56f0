use Rattle.std.proofs.Common.{true, false, ◌∙◌}
use Rattle.graphql_standard.specs.declared.symbol.Step.TheVariants.{Take}
use Rattle.graphql_standard.proofs.Following.{by_step, by_absence}
use Rattle.graphql_standard.proofs.symbol.after.Goals as goal

pub returns-in-Some : goal.returns-in-Some
returns-in-Some c =
    by_step c.args.symbol c.row_of-row.result c.args.terminal c.row_of-row.ensures (Take c.in-Some.symbols)
    (c.in-Some.ensures _)

pub returns-in-Some-first_fit : goal.returns-in-Some-first_fit
returns-in-Some-first_fit c =
    by_step c.args.symbol c.row_of-row.result c.args.terminal c.row_of-row.ensures (Take c.in-Some-first_fit.symbols)
    (c.in_default.ensures _ ∙ c.in-Some-first_fit.ensures _)

pub returns-then-row : goal.returns-then-row
returns-then-row c =
    by_absence c.args.symbol c.row_of-row.result c.args.terminal c.row_of-row.ensures c.in_default.ensures
    c.in_default-first_fit.ensures true c.if-row.true

pub returns-else-row : goal.returns-else-row
returns-else-row c =
    by_absence c.args.symbol c.row_of-row.result c.args.terminal c.row_of-row.ensures c.in_default.ensures
    c.in_default-first_fit.ensures false c.if-row.false
