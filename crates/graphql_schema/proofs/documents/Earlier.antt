-- Every document of version 0.4.1 is one in this version, without the parts added since.
use Rattle.std.proofs.Common.{ℕ, List, sym, subst}
use Rattle.graphql_core.proofs.{later_document_of}
use Rattle.graphql_schema.specs.{DocumentTree, schemas, IsDocumentOf, schemas_0_4_1, IsDocumentOf_0_4_1, HasNoNewParts}
use Rattle.graphql_schema.proofs.documents.EarlierTrees.{new_parts, schemas_grow, document_has_none}

pub earlier_document : (text : List ℕ) (d : DocumentTree) → IsDocumentOf_0_4_1 text d → HasNoNewParts d × IsDocumentOf text d
earlier_document text d h =
    let (items, has, (x, (fits, is), end, means)) = h in
    (subst HasNoNewParts (sym means) (document_has_none fits), later_document_of new_parts schemas_0_4_1 schemas schemas_grow text d h)
