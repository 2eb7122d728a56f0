use Rattle.std.proofs.Common.{codes}
use Rattle.graphql_core.specs.{directives_view}
use Rattle.graphql_json.specs.{directives_json}
use Rattle.graphql_schema.specs.Views.{field_view}
use Rattle.graphql_json.specs.Schema.{field_json}
use Rattle.graphql_json.proofs.{then_last, last_viewed, members_end}
use Rattle.graphql_json.proofs.schema.types.write_fielded.Goals as goal

pub returns : goal.returns
returns g c =
    let bytes = g.N.Names.bytes in
    let fields = last_viewed field_json (field_view bytes) (codes "fields") c.write_parts.result (directives_json (directives_view bytes c.args.directives.now))
    c.args.fields.now _ _ c.write_parts.ensures in
    then_last _ _ _ c.in_ok-write_named_types.ensures fields
    (members_end _ _)
