use Rattle.std.proofs.Common.{sym}
use Rattle.graphql_json.specs.{located}
use Rattle.graphql_json.proofs.{then_last, later-one}
use Rattle.graphql_json.proofs.json.write_position.Goals as goal

pub returns : goal.returns
unfolding located
returns c =
    then_last _ _ _ c.in_ok-write_label.ensures c.write_place.ensures
    (sym (later-one _ _))
