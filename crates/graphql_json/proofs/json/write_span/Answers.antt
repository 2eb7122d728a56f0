use Rattle.std.proofs.Common.{append_assoc}
use Rattle.graphql_json.specs.{spanned}
use Rattle.graphql_json.proofs.{◌▹◌, then_last, later-one, later-append}
use Rattle.graphql_json.proofs.json.write_span.Goals as goal

pub returns : goal.returns
unfolding spanned
returns c =
    then_last _ _ _ (c.in_ok-write_position.ensures ▹ c.in_ok-write_label.ensures) c.write_place.ensures
    (simp (later-append, later-one, append_assoc))
