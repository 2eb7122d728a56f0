use Rattle.std.proofs.Common.{append_assoc}
use Rattle.graphql_json.proofs.{◌▹◌, then_last, text-node, later-append}
use Rattle.graphql_json.proofs.schema.SchemaDefinitionNode.write.Goals as goal

pub returns : goal.returns
returns g c =
    let operations = rw c.deref.ensures.value at c.write_operations.ensures in
    then_last _ _ _ (c.in_ok-open_at.ensures ▹ c.in_ok-write_description.ensures) operations
    (simp (text-node, later-append, append_assoc))
