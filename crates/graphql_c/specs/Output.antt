-- The output of each call, and why a call has no output.
use Rattle.std.specs.Prelude.{◌≡◌, ◌<◌, ◌≤◌, ◌++◌, ℕ, Bool, List, [], length, drop}
use Rattle.std.specs.Str.{IsUtf8}
use Rattle.graphql_core.specs.{ParseFailure, StyleOptions, IsDocumentOf, IsMinified, IsWrittenOf, HasNarrow, HasNone, IsWide}
use Rattle.graphql_core.specs.{max_length}
use Rattle.graphql_query.specs.{queries, DefinitionTree, one_definition, IsFirstDefinition}
use Rattle.graphql_query.specs.Layout as query
use Rattle.graphql_schema.specs.{schemas}
use Rattle.graphql_schema.specs.Layout as schema
use Rattle.graphql_json.specs.Json.{json_text}
use Rattle.graphql_json.specs.Query as query_json
use Rattle.graphql_json.specs.Schema as schema_json

-- ---- inputs

-- the input is UTF-8, and has at most `max_length` bytes
abbrev pub IsAllowed : List ℕ → Type 0
IsAllowed text = IsUtf8 text × (length text ≤ max_length)

-- ---- documents

-- the style with these two settings
abbrev pub layout_in : ℕ → Bool → StyleOptions
layout_in indent multiline = record { indent = indent; multiline = multiline }

-- the output is the formatted document of the input, which is not too wide
abbrev pub IsFormattedQuery : StyleOptions → List ℕ → List ℕ → Type 0
IsFormattedQuery style text output =
    IsAllowed text
    × IsWrittenOf (HasNarrow (IsDocumentOf queries) (query.IsTooWide style)) (query.layout style) text output

abbrev pub IsFormattedSchema : StyleOptions → List ℕ → List ℕ → Type 0
IsFormattedSchema style text output =
    IsAllowed text
    × IsWrittenOf (HasNarrow (IsDocumentOf schemas) (schema.IsTooWide style)) (schema.layout style) text output

-- the input parses to a document, and the output is empty
abbrev pub IsQueryChecked : List ℕ → List ℕ → Type 0
IsQueryChecked text output = IsAllowed text × IsWrittenOf (IsDocumentOf queries) (λ d. []) text output

abbrev pub IsSchemaChecked : List ℕ → List ℕ → Type 0
IsSchemaChecked text output = IsAllowed text × IsWrittenOf (IsDocumentOf schemas) (λ d. []) text output

-- the output is the JSON text of the document of the input
abbrev pub IsQueryJson : List ℕ → List ℕ → Type 0
IsQueryJson text output =
    IsAllowed text × IsWrittenOf (IsDocumentOf queries) (λ d. json_text (query_json.document_json d)) text output

abbrev pub IsSchemaJson : List ℕ → List ℕ → Type 0
IsSchemaJson text output =
    IsAllowed text × IsWrittenOf (IsDocumentOf schemas) (λ d. json_text (schema_json.document_json d)) text output

-- the output is the minified input
abbrev pub IsMinifiedInput : List ℕ → List ℕ → Type 0
IsMinifiedInput text output = IsAllowed text × IsMinified text output

-- why the input is no such document
abbrev pub HasNoQuery : List ℕ → ParseFailure → Type 0
HasNoQuery = HasNone (IsDocumentOf queries) queries

abbrev pub HasNoSchema : List ℕ → ParseFailure → Type 0
HasNoSchema = HasNone (IsDocumentOf schemas) schemas

-- the document of the input is too wide for the style
abbrev pub IsQueryTooWide : StyleOptions → List ℕ → Type 0
IsQueryTooWide style text = IsAllowed text × IsWide (IsDocumentOf queries) (query.IsTooWide style) text

abbrev pub IsSchemaTooWide : StyleOptions → List ℕ → Type 0
IsSchemaTooWide style text = IsAllowed text × IsWide (IsDocumentOf schemas) (schema.IsTooWide style) text

-- ---- first definitions
-- The source can be any bytes: the lexical grammar defines the tokens of each list of bytes, UTF-8 or not.

-- the rest of the source, after its first definition and the ignored tokens behind it, begins at this offset
abbrev pub EndsAt : List ℕ → ℕ → Type 0
EndsAt text n = (n ≤ length text) × (d : DefinitionTree) × IsFirstDefinition text (d, drop n text)

-- Some prefix of the source is UTF-8. The rest of this prefix, after its first definition and the ignored tokens behind
-- it, begins at this offset and is not empty.
abbrev pub EndsWithin : List ℕ → ℕ → Type 0
EndsWithin text n =
    (front more : List ℕ) × (text ≡ front ++ more) × IsUtf8 front × EndsAt front n × (n < length front)

-- why the source begins with no definition
abbrev pub HasNoFirst : List ℕ → ParseFailure → Type 0
HasNoFirst = HasNone IsFirstDefinition one_definition
