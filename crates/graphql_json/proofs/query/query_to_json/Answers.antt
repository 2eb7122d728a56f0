use Rattle.std.proofs.lemmas.Simd.{map-map}
use Rattle.graphql_json.proofs.query.query_to_json.Goals as goal

pub returns : goal.returns
returns g c = simp map-map (rw c.deref.ensures.value at c.document_to_json.ensures)
