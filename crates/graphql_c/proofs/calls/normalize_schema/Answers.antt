use Rattle.graphql_schema.specs.{schemas, layout, IsTooWide}
use Rattle.graphql_c.proofs.{halts, formatted}
use Rattle.graphql_c.proofs.calls.normalize_schema.Goals as goal

pub returns-in_err-document : goal.returns-in_err-document
returns-in_err-document c = halts _ _ _ _ _ (λ e no. no) c.in_err-document.ensures c.from_residual.ensures.1

pub returns : goal.returns
returns c =
    formatted schemas _ _ (layout _) (IsTooWide _) _ _ c.in_ok-document.ensures c.format.ensures.text c.format.ensures.too_wide c.output_of.ensures
