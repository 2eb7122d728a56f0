use Rattle.std.proofs.lemmas.Bool.{false≢true}
use Rattle.graphql_query.proofs.print.width.is_document_too_wide.Goals as goal

pub returns-then-is_narrow_by_sets : goal.returns-then-is_narrow_by_sets
returns-then-is_narrow_by_sets g c = (λ h. absurd (false≢true h), λ wide. absurd (c.is_narrow_by_sets.ensures c.if-is_narrow_by_sets.true wide))

pub returns : goal.returns
returns g c = c.is_too_wide.ensures _ c.levels.ensures
