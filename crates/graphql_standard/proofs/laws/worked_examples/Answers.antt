use Rattle.std.proofs.Common.{ℕ, List, [], ◌∷◌, ◌++◌, take, codes, refl, slice_index_or}
use Rattle.graphql_core.specs.{Token, sample}
use Rattle.graphql_core.specs.declared.tokenizer.token.Kind.TheVariants.{Name}
use Rattle.graphql_standard.specs.examples.StandardExamples.{tokens}
use Rattle.graphql_standard.proofs.Running.{accepted, unfinished, rejected}
use Rattle.graphql_standard.proofs.laws.worked_examples.Goals as goal

-- the token at the index
abbrev at : ℕ → List ℕ → Token
at i text = slice_index_or (tokens text) i (sample Name [])

pub returns-clause-described_operation : goal.returns-clause-described_operation
returns-clause-described_operation c = accepted (tokens (34 ∷ 34 ∷ codes " query Q { a }")) refl

pub returns-clause-described_fragment : goal.returns-clause-described_fragment
returns-clause-described_fragment c = accepted (tokens (34 ∷ 34 ∷ codes " fragment F on T { a }")) refl

pub returns-clause-described_variable : goal.returns-clause-described_variable
returns-clause-described_variable c = accepted (tokens (codes "query ( " ++ 34 ∷ 34 ∷ codes " $ v : Int = 1 ) { a }")) refl

pub returns-clause-described_selection_set : goal.returns-clause-described_selection_set
returns-clause-described_selection_set c =
    let text = 34 ∷ 34 ∷ codes " { a }" in let r = rejected (take 1 (tokens text)) (at 1 text) refl in (refl, r.0, r.1)

pub returns-clause-described_extension : goal.returns-clause-described_extension
returns-clause-described_extension c =
    let text = 34 ∷ 34 ∷ codes " extend schema @ a" in let r = rejected (take 1 (tokens text)) (at 1 text) refl in (refl, r.0, r.1)

pub returns-clause-mixed_document : goal.returns-clause-mixed_document
returns-clause-mixed_document c = accepted (tokens (codes "{ a } type A { b : C } { d } scalar E { f } extend scalar E @ g { h }")) refl

pub returns-clause-fields_come_first : goal.returns-clause-fields_come_first
returns-clause-fields_come_first c =
    let text = codes "type A { b }" in let r = rejected (take 4 (tokens text)) (at 4 text) refl in (refl, r.0, r.1)

pub returns-clause-selection_set_later : goal.returns-clause-selection_set_later
returns-clause-selection_set_later c = accepted (tokens (codes "type A { b : C } { d }")) refl

pub returns-clause-type_without_fields : goal.returns-clause-type_without_fields
returns-clause-type_without_fields c = accepted (tokens (codes "type A type B query { d }")) refl

pub returns-clause-no_definition : goal.returns-clause-no_definition
returns-clause-no_definition c = unfinished (tokens (codes "query Q")) refl

pub returns-clause-empty_selection_set : goal.returns-clause-empty_selection_set
returns-clause-empty_selection_set c =
    let text = codes "{ }" in let r = rejected (take 1 (tokens text)) (at 1 text) refl in (refl, r.0, r.1)

pub returns-clause-fragment_named_on : goal.returns-clause-fragment_named_on
returns-clause-fragment_named_on c =
    let text = codes "fragment on on A { b }" in let r = rejected (take 1 (tokens text)) (at 1 text) refl in (refl, r.0, r.1)

pub returns-clause-keywords_as_names : goal.returns-clause-keywords_as_names
returns-clause-keywords_as_names c = accepted (tokens (codes "query query ( $ fragment : type ) { on : true ( enum : input ) ... on on { null } }")) refl

pub returns-clause-empty_fields : goal.returns-clause-empty_fields
returns-clause-empty_fields c =
    let text = codes "type A { }" in let r = rejected (take 3 (tokens text)) (at 3 text) refl in (refl, r.0, r.1)

pub returns-clause-enum_value_true : goal.returns-clause-enum_value_true
returns-clause-enum_value_true c =
    let text = codes "enum A { true }" in let r = rejected (take 3 (tokens text)) (at 3 text) refl in (refl, r.0, r.1)

pub returns-clause-interface_extension : goal.returns-clause-interface_extension
returns-clause-interface_extension c = accepted (tokens (codes "extend interface A implements B & C")) refl

pub returns-clause-two_types_for_one_operation : goal.returns-clause-two_types_for_one_operation
returns-clause-two_types_for_one_operation c = accepted (tokens (codes "schema { query : A query : B }")) refl

pub returns-clause-empty_schema : goal.returns-clause-empty_schema
returns-clause-empty_schema c =
    let text = codes "schema { }" in let r = rejected (take 2 (tokens text)) (at 2 text) refl in (refl, r.0, r.1)

pub returns-clause-variable_in_type_directive : goal.returns-clause-variable_in_type_directive
returns-clause-variable_in_type_directive c =
    let text = codes "scalar A @ b ( c : $ d )" in let r = rejected (take 7 (tokens text)) (at 7 text) refl in (refl, r.0, r.1)

pub returns-clause-variable_in_variable_directive : goal.returns-clause-variable_in_variable_directive
returns-clause-variable_in_variable_directive c =
    let text = codes "query ( $ a : B @ c ( d : $ e ) ) { f }" in let r = rejected (take 11 (tokens text)) (at 11 text) refl in (refl, r.0, r.1)

pub returns-clause-empty_extension : goal.returns-clause-empty_extension
returns-clause-empty_extension c =
    let text = codes "extend type A type B" in let r = rejected (take 3 (tokens text)) (at 3 text) refl in (refl, r.0, r.1)

pub returns-clause-known_location : goal.returns-clause-known_location
returns-clause-known_location c = accepted (tokens (codes "directive @ a repeatable on | VARIABLE_DEFINITION | FIELD")) refl

pub returns-clause-unknown_location : goal.returns-clause-unknown_location
returns-clause-unknown_location c =
    let text = codes "directive @ a on VARIABLE" in let r = rejected (take 4 (tokens text)) (at 4 text) refl in (refl, r.0, r.1)
