use Rattle.std.proofs.Common.{append_assoc}
use Rattle.graphql_json.proofs.Texts.{◌▹◌, then_last}
use Rattle.graphql_c.specs.steps.{inner_text}
use Rattle.graphql_c.proofs.errors.write_inner.Goals as goal

pub returns : goal.returns
unfolding inner_text
returns c =
    then_last _ _ _ (c.in_ok-write_text.ensures ▹ rw c.column_of.ensures at c.in_ok-write.ensures ▹ c.in_ok-write_text-2.ensures)
    (rw c.offset_of.ensures at c.write-2.ensures) (simp append_assoc)
