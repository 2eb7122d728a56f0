use Rattle.std.proofs.Common.{ap, ◌∙◌}
use Rattle.graphql_core.proofs.{gives_led, leads_in, fails_last, whole}
use Rattle.graphql_query.specs.{short, kind_of}
use Rattle.graphql_query.proofs.{kind_side, kind_means, short_side}
use Rattle.graphql_query.proofs.read.operation.operation_definition.Goals as goal

pub returns-in_err-selection_set-in-None : goal.returns-in_err-selection_set-in-None
returns-in_err-selection_set-in-None g c =
    let side = short_side (g.S.TokenSource.items c.args.source.now) c.in-None.ensures in
    fails_last _ _ _ _ (leads_in side) c.in_err-selection_set-in-None.ensures.reads c.from_residual.ensures.1

pub returns-in_ok-selection_set-in-None : goal.returns-in_ok-selection_set-in-None
returns-in_ok-selection_set-in-None g c =
    let (x, takes, view) = c.in_ok-selection_set-in-None.ensures.reads in
    whole (leads_in (short_side (g.S.TokenSource.items c.args.source.now) c.in-None.ensures)) takes (ap short view)

pub returns-in-Some : goal.returns-in-Some
returns-in-Some g c =
    let kind = kind_of c.in-Some.keyword in
    gives_led _ _ _ _ (leads_in (kind_side kind _ c.in-Some.ensures)) (λ v x h view. view ∙ kind_means kind x) c.keyword_operation.ensures
