use Rattle.std.proofs.Common.{sym}
use Rattle.graphql_json.specs.Json.{json_text}
use Rattle.graphql_json.specs.Json as json
use Rattle.graphql_json.proofs.{then_last, later-one}
use Rattle.graphql_json.proofs.json.write_boolean.Goals as goal

pub returns : goal.returns
unfolding json_text
returns c =
    then_last _ _ _ c.in_ok-write_label.ensures c.write_truth.ensures
    (sym (later-one c.args.name.now (json.boolean c.args.value)))
