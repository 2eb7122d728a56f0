use Rattle.std.proofs.Common.{List, ◌++◌, drop}
use Rattle.graphql_fmt.specs.declared.reports.ErrorReport.{ErrorReport}
use Rattle.graphql_c.specs.{AreReportsOf}
use Rattle.graphql_c.proofs.errors.reports_of.Given as goal

abbrev pub invariant-errors : goal.invariant-errors
invariant-errors l =
    (rs : List ErrorReport) → AreReportsOf (drop l.error-index l.errors) rs → AreReportsOf l.errors (l.reports.items ++ rs)
