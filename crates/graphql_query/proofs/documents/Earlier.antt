-- Every document or first definition of version 0.4.1 is one in this version, without the parts added since.
use Rattle.std.proofs.Common.{ℕ, List, ◌++◌, length, refl, sym, ap, subst, ◌∙◌}
use Rattle.graphql_core.specs.{Token, grown}
use Rattle.graphql_core.proofs.{IsGrown, later_parse_tree, later_document_of}
use Rattle.graphql_query.specs.{DefinitionTree, DocumentTree, queries, IsDocumentOf, queries_0_4_1, IsDocumentOf_0_4_1, HasNoNewPart, HasNoNewParts}
use Rattle.graphql_query.specs.{one_definition_of, one_definition, text_after, IsFirstDefinition, IsFirstDefinition_0_4_1}
use Rattle.graphql_query.proofs.documents.EarlierTrees.{new_parts, queries_grow, definition_grown, definition_has_none, document_has_none}

pub earlier_document : (text : List ℕ) (d : DocumentTree) → IsDocumentOf_0_4_1 text d → HasNoNewParts d × IsDocumentOf text d
earlier_document text d h =
    let (items, has, (x, (fits, is), end, means)) = h in
    (subst HasNoNewParts (sym means) (document_has_none fits), later_document_of new_parts queries_0_4_1 queries queries_grow text d h)

one_grows : IsGrown new_parts (one_definition_of queries_0_4_1) one_definition
one_grows = record { grows = queries_grow.grows; document = refl; below = refl; means = λ x f. definition_grown f }

pub earlier_definition : (text : List ℕ) (r : DefinitionTree × List ℕ) → IsFirstDefinition_0_4_1 text r → HasNoNewPart r.0 × IsFirstDefinition text r
earlier_definition text (d, rest) (items, has, x, others, (fits, parts), means, after) =
    let (fit, same) = later_parse_tree new_parts (one_definition_of queries_0_4_1) one_definition one_grows x fits in (
      subst HasNoNewPart (sym means) (definition_has_none fits),
      (
        items,
        has,
        grown new_parts x,
        others,
        (fit, parts ∙ ap (λ (ts : List Token). ts ++ others) same),
        means ∙ sym (definition_grown fits),
        after ∙ ap (λ (ts : List Token). text_after (length ts) items text) same,
      ),
    )
