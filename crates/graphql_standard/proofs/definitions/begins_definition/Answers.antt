use Rattle.graphql_standard.proofs.NextDefinitions.{definition_of, no_definition, other_start, no_next}
use Rattle.graphql_standard.proofs.definitions.begins_definition.Goals as goal

pub returns-in_default-first_token : goal.returns-in_default-first_token
returns-in_default-first_token c =
    no_definition _ (no_next _ _ _ _ c.in-Some.ensures.first c.in_default-first_token.ensures)

pub returns-then-not-is_name : goal.returns-then-not-is_name
returns-then-not-is_name c =
    no_definition _ (other_start _ _ _ _ c.in-Some.ensures.first (c.is_name.ensures.other c.if-not-is_name.true))

pub begin_document-requires : goal.begin_document-requires
begin_document-requires c = c.in-Some-first_token.ensures.1

pub returns : goal.returns
returns c =
    definition_of _ _ _ _ _ _ _ c.in-Some.ensures.first (c.is_name.ensures.name c.if-not-is_name.false)
    c.in-Some-first_token.ensures.0 c.begin_document.ensures
