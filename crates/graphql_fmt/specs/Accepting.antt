-- Which sources are documents, and which are accepted.
use Rattle.std.specs.Prelude.{◌≤◌, ◌⊎◌, ℕ, List, length}
use Rattle.graphql_core.specs.{Token, max_length, IsDocumentOf}
use Rattle.graphql_core.specs.documents.Languages as languages
use Rattle.graphql_query.specs.{queries}
use Rattle.graphql_schema.specs.{schemas}
use Rattle.graphql_standard.specs.Recognizing.{IsDocument}
use Rattle.graphql_standard.specs.Checking.{HasTokens, IsWithin}
use Rattle.graphql_fmt.specs.Comments.{HasNoToken}

-- how many brackets can be open in a document of September 2025
abbrev pub max_open : ℕ
max_open = 1000

-- a document of September 2025 in which at most `max_open` brackets are open
abbrev pub IsStandardDocument : List ℕ → Type 0
IsStandardDocument source = (ts : List Token) × HasTokens source ts × IsDocument ts × IsWithin max_open ts

-- the source parses to a document of the language
abbrev pub ParsesTo : {D : Type 0} → languages.Language D → List ℕ → Type 0
ParsesTo {D} l source = (d : D) × IsDocumentOf l source d

-- a query document or a schema document of `graphql_parser`
abbrev pub IsParsedDocument : List ℕ → Type 0
IsParsedDocument source = ParsesTo queries source ⊎ ParsesTo schemas source

abbrev pub IsSourceDocument : List ℕ → Type 0
IsSourceDocument source = IsStandardDocument source ⊎ IsParsedDocument source

-- the source has at most `max_length` bytes, and is a document or has no token
abbrev pub IsAccepted : List ℕ → Type 0
IsAccepted source = (length source ≤ max_length) × (HasNoToken source ⊎ IsSourceDocument source)
