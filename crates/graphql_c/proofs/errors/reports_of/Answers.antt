use Rattle.std.proofs.Common.{◌∷◌, ◌++◌, [], List, ap, sym, ◌∙◌, subst, append_assoc, append-nil, arith}
use Rattle.std.proofs.lemmas.List.{at_drop_all, at_drop_more}
use Rattle.graphql_fmt.specs.declared.reports.ErrorReport.{ErrorReport}
use Rattle.graphql_c.specs.{AreReportsOf, no_reports, one_more}
use Rattle.graphql_c.proofs.errors.reports_of.Goals as goal

pub errors-init : goal.errors-init
errors-init c rs more = subst (λ (l : List ErrorReport). AreReportsOf c.args.errors.now (l ++ rs)) (sym c.new-reports.ensures.items) more

pub errors-preserved : goal.errors-preserved
errors-preserved c rs more =
    let l = c.errors in
    let r = c.in_ok-report.field-0 in
    let here = at_drop_more (λ es. es) c.args.errors.now l.error-index _ (omega arith) in
    let one = subst (λ es. AreReportsOf es (r ∷ rs)) (sym here) (one_more c.in_ok-report.ensures more) in
    let same = sym (append_assoc l.reports.items (r ∷ []) rs) ∙ ap (λ (k : List ErrorReport). k ++ rs) (sym c.in_ok-push.ensures.items) in
    subst (AreReportsOf c.args.errors.now) same (l.invariant (r ∷ rs) one)

pub returns : goal.returns
returns c =
    let l = c.errors in
    let none = subst (λ es. AreReportsOf es []) (sym (at_drop_all (λ es. es) c.args.errors.now l.error-index (omega arith))) no_reports in
    subst (AreReportsOf c.args.errors.now) (append-nil l.reports.items) (l.invariant [] none)
