use Rattle.graphql_json.proofs.{then_last, placed_end}
use Rattle.graphql_json.proofs.schema.SchemaExtensionNode.write.Goals as goal

pub returns : goal.returns
returns g c =
    let operations = rw c.deref.ensures.value at c.write_operations.ensures in
    then_last _ _ _ c.in_ok-open_at.ensures operations
    (placed_end _ _ _)
