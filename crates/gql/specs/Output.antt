-- The output of each command, and the errors.
use Rattle.std.specs.Prelude.{◌≡◌, ◌≤◌, ◌++◌, ℕ, List, [], ◌∷◌, length, Option, IfSome}
use Rattle.std.specs.Io.KnownBytes.{Appends, IsAtEnd}
use Rattle.std.specs.Str.{IsUtf8}
use Rattle.graphql_core.specs.{ParseFailure, StyleOptions, IsMinified, IsDocumentOf, IsWrittenOf, HasNone, IsWide, HasNarrow}
use Rattle.graphql_core.specs.{max_length}
use Rattle.graphql_query.specs.{queries, DefinitionTree, one_definition, IsFirstDefinition, IsMinifyErrorOf}
use Rattle.graphql_query.specs.Layout as query
use Rattle.graphql_schema.specs.{schemas}
use Rattle.graphql_schema.specs.Layout as schema
use Rattle.graphql_core.specs.declared.format.error.FormatError.{FormatError}
use Rattle.graphql_core.specs.declared.format.error.FormatError.TheVariants.{TooWide}
use Rattle.graphql_core.specs.declared.format.error.FormatError.TheVariants as layout_error
use Rattle.gql.specs.Faults.{HasFault}
use Rattle.gql.specs.declared.error.RunError.{RunError}
use Rattle.gql.specs.declared.error.RunError.TheVariants.{Read, NotUtf8, Format, Write, OutOfMemory}
use Rattle.gql.specs.declared.error.RunError.TheVariants as error
use Rattle.gql.specs.declared.command.Command.{Command}
use Rattle.gql.specs.declared.command.Command.TheVariants.{Query, Schema, Minify, First}

-- ---- first definitions

-- a definition formatted as a document, and then the rest unchanged
abbrev pub definition_and_rest : StyleOptions → DefinitionTree × List ℕ → List ℕ
definition_and_rest style (d, rest) = query.layout style (d ∷ []) ++ rest

-- a definition is too wide as a document
abbrev pub IsTooWideAlone : StyleOptions → DefinitionTree × List ℕ → Type 0
IsTooWideAlone style (d, rest) = query.IsTooWide style (d ∷ [])

-- ---- commands

-- the command writes this output, if the input is not too long
abbrev pub Writes : Command → StyleOptions → List ℕ → List ℕ → Type 0
Writes Query style = IsWrittenOf (HasNarrow (IsDocumentOf queries) (query.IsTooWide style)) (query.layout style)
Writes Schema style = IsWrittenOf (HasNarrow (IsDocumentOf schemas) (schema.IsTooWide style)) (schema.layout style)
Writes Minify style = IsMinified
Writes First style = IsWrittenOf (HasNarrow IsFirstDefinition (IsTooWideAlone style)) (definition_and_rest style)

-- The command has this output for this input, which has at most `max_length` bytes.
abbrev pub IsOutputOf : Command → StyleOptions → List ℕ → List ℕ → Type 0
IsOutputOf command style text output = (length text ≤ max_length) × Writes command style text output

-- why the input is no query document, or begins with no definition of one
abbrev pub HasNoQuery : Command → List ℕ → ParseFailure → Type 0
HasNoQuery Query text e = HasNone (IsDocumentOf queries) queries text e
HasNoQuery Schema text e = ⊥
HasNoQuery Minify text e = ⊥
HasNoQuery First text e = HasNone IsFirstDefinition one_definition text e

-- why the input is no schema document
abbrev pub HasNoSchema : Command → List ℕ → ParseFailure → Type 0
HasNoSchema Query text e = ⊥
HasNoSchema Schema text e = HasNone (IsDocumentOf schemas) schemas text e
HasNoSchema Minify text e = ⊥
HasNoSchema First text e = ⊥

-- why the input is not minified: an allocation failed, the input is too long, or it has a lexical error
abbrev pub HasLexicalError : Command → List ℕ → ParseFailure → Type 0
HasLexicalError Query text e = ⊥
HasLexicalError Schema text e = ⊥
HasLexicalError Minify text e = IsMinifyErrorOf text e
HasLexicalError First text e = ⊥

module _ {T : Type 0} (Has : List ℕ → T → Type 0) where
  abbrev pub HasOne : List ℕ → Type 0
  HasOne text = (t : T) × Has text t

-- the input parses to a document, or begins with a definition
abbrev pub HasDocument : Command → List ℕ → Type 0
HasDocument Query text = HasOne (IsDocumentOf queries) text
HasDocument Schema text = HasOne (IsDocumentOf schemas) text
HasDocument Minify text = ⊥
HasDocument First text = HasOne IsFirstDefinition text

-- the engine itself allocates, for the document with a first definition, or for the rest behind it
abbrev pub Allocates : Command → List ℕ → Type 0
Allocates Query text = ⊥
Allocates Schema text = ⊥
Allocates Minify text = ⊥
Allocates First text = HasOne IsFirstDefinition text

-- the document of the input, or its first definition, is too wide for the style
abbrev pub HasNoLayout : Command → StyleOptions → List ℕ → Type 0
HasNoLayout Query style text = IsWide (IsDocumentOf queries) (query.IsTooWide style) text
HasNoLayout Schema style text = IsWide (IsDocumentOf schemas) (schema.IsTooWide style) text
HasNoLayout Minify style text = ⊥
HasNoLayout First style text = IsWide IsFirstDefinition (IsTooWideAlone style) text

-- ---- devices

-- all that was left was read, and P holds of it
abbrev pub ReadsAll : Option (List ℕ) → Option (List ℕ) → (List ℕ → Type 0) → Type 0
ReadsAll old new P = IsAtEnd new × IfSome old P

-- all that was left was read, it is UTF-8, and P holds of it
abbrev pub ReadsText : Option (List ℕ) → Option (List ℕ) → (List ℕ → Type 0) → Type 0
ReadsText old new P = ReadsAll old new (λ input. IsUtf8 input × P input)

-- a prefix of these bytes was written
abbrev pub WritesPart : Option (List ℕ) → Option (List ℕ) → List ℕ → Type 0
WritesPart old new all = (front : List ℕ) × (rest : List ℕ) × (all ≡ front ++ rest) × Appends old new front

-- ---- runs that end early

-- reading ends early if an allocation failed, or a read failed
abbrev pub EndsReading : ℕ → ℕ → RunError → Type 0
EndsReading old new Read = HasFault old new
EndsReading old new OutOfMemory = Unit {0}
EndsReading old new NotUtf8 = ⊥
EndsReading old new (error.Query e) = ⊥
EndsReading old new (error.Schema e) = ⊥
EndsReading old new (error.Minify e) = ⊥
EndsReading old new (Format e) = ⊥
EndsReading old new Write = ⊥

-- What an error of formatting says of the input, which has at most `max_length` bytes: `OutOfMemory` comes only if
-- there was a document to format.
abbrev pub RejectsFormat : Command → StyleOptions → List ℕ → FormatError → Type 0
RejectsFormat command style text TooWide = (length text ≤ max_length) × HasNoLayout command style text
RejectsFormat command style text layout_error.OutOfMemory = (length text ≤ max_length) × HasDocument command text

-- what an error of the engine says of the input
abbrev pub EndsEngine : Command → StyleOptions → List ℕ → RunError → Type 0
EndsEngine command style text (error.Query e) = HasNoQuery command text e
EndsEngine command style text (error.Schema e) = HasNoSchema command text e
EndsEngine command style text (error.Minify e) = HasLexicalError command text e
EndsEngine command style text (Format e) = RejectsFormat command style text e
EndsEngine command style text OutOfMemory = Allocates command text
EndsEngine command style text Read = ⊥
EndsEngine command style text NotUtf8 = ⊥
EndsEngine command style text Write = ⊥
