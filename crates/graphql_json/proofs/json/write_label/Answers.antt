use Rattle.std.proofs.Common.{refl}
use Rattle.graphql_json.specs.{label}
use Rattle.graphql_json.proofs.{◌▹◌, then_last}
use Rattle.graphql_json.proofs.json.write_label.Goals as goal

pub returns : goal.returns
unfolding label
returns c =
    then_last _ _ _ (c.in_ok-write_text.ensures ▹ c.in_ok-write_quoted.ensures) c.write_text-2.ensures
    refl
