use Rattle.std.proofs.Common.{append_assoc}
use Rattle.graphql_json.proofs.Texts.{◌▹◌, then_last}
use Rattle.graphql_c.specs.steps.{numbers_text}
use Rattle.graphql_c.proofs.errors.write_numbers.Goals as goal

pub returns : goal.returns
unfolding numbers_text
returns c =
    then_last _ _ _
    (c.in_ok-write_text.ensures ▹ c.in_ok-write_number.ensures ▹ c.in_ok-write_text-2.ensures ▹ c.in_ok-write_number-2.ensures
    ▹ c.in_ok-write_text-3.ensures ▹ c.in_ok-write_number-3.ensures ▹ c.in_ok-write_text-4.ensures)
    c.write_number-4.ensures (simp append_assoc)
