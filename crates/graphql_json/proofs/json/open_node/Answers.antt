use Rattle.std.proofs.Common.{refl}
use Rattle.graphql_json.specs.{opening}
use Rattle.graphql_json.proofs.{then_last}
use Rattle.graphql_json.proofs.json.open_node.Goals as goal

pub returns : goal.returns
unfolding opening
returns c =
    then_last _ _ _ c.in_ok-write_text.ensures c.write_quoted.ensures
    refl
