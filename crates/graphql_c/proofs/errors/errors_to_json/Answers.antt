use Rattle.graphql_c.proofs.{reports_text}
use Rattle.graphql_c.proofs.errors.errors_to_json.Goals as goal

pub returns : goal.returns
returns c =
    reports_text c.args.errors.now c.in_ok-reports.reports.items c.deref.result.now c.new-out.result c.write_array.new.out _ c.in_ok-reports.ensures
    c.deref.ensures.value c.new-out.ensures c.in_ok-write_array.ensures c.into_string.ensures
