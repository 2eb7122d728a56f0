use Rattle.std.proofs.Common.{append_assoc}
use Rattle.graphql_json.proofs.{◌▹◌, then_last, later-append}
use Rattle.graphql_json.proofs.schema.parts.open_described.Goals as goal

pub returns : goal.returns
returns c =
    then_last _ _ _ (c.in_ok-open_at.ensures ▹ c.in_ok-write_description.ensures) c.write_name.ensures
    (simp (later-append, append_assoc))
