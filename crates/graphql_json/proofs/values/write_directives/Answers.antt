use Rattle.std.proofs.Common.{codes}
use Rattle.std.proofs.lemmas.Result.{on_ok_weaker}
use Rattle.graphql_core.specs.{directive_view}
use Rattle.graphql_json.specs.{directive_json}
use Rattle.graphql_json.proofs.{as_viewed}
use Rattle.graphql_json.proofs.values.write_directives.Goals as goal

pub returns : goal.returns
returns g c =
    on_ok_weaker c.write_nodes.result (as_viewed directive_json (directive_view g.N.Names.bytes) (codes "directives") c.args.directives.now _ _)
    c.write_nodes.ensures
