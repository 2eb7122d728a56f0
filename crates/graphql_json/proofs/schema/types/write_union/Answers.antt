use Rattle.std.proofs.Common.{append_assoc}
use Rattle.graphql_json.proofs.{◌▹◌, then_last, later-append}
use Rattle.graphql_json.proofs.schema.types.write_union.Goals as goal

pub returns : goal.returns
returns g c =
    then_last _ _ _ (c.in_ok-write_directives.ensures ▹ c.in_ok-write_named_types.ensures) c.close_node.ensures
    (simp (later-append, append_assoc))
