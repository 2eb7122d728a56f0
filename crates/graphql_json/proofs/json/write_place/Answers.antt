use Rattle.std.proofs.Common.{append_assoc, append-nil}
use Rattle.graphql_json.specs.{place_json, one}
use Rattle.graphql_json.specs.Json.{json_text, members_text}
use Rattle.graphql_json.proofs.{◌▹◌, then_last}
use Rattle.graphql_json.proofs.json.write_place.Goals as goal

pub returns : goal.returns
unfolding place_json one json_text members_text
returns c =
    then_last _ _ _
    (c.in_ok-write_text.ensures ▹ c.in_ok-write_number.ensures ▹ c.in_ok-write_text-2.ensures ▹ c.in_ok-write_number-2.ensures) c.write_text-3.ensures
    (simp (append_assoc, append-nil))
