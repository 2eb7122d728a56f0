-- The language of schemas: the document of an input, and the errors of an input without one.
use Rattle.std.specs.Prelude.{◌≡◌, ℕ, ◌==◌, if◌then◌else◌, List, [], Option, Some, None, option_map}
use Rattle.graphql_core.specs.{unknown_location, Place, Token, Class, Except, ParseTree, Node, CauseText}
use Rattle.graphql_core.specs.{empty_extension, FaultText, HasNoValue, Language}
use Rattle.graphql_schema.specs.Locations.{location_of}
use Rattle.graphql_schema.specs.Tree.{SchemaTree, DefinitionTree, extension, schema_extension, DocumentTree, erase}
use Rattle.graphql_schema.specs.Meanings.{no_schema, schema_of, schema_extension_of, extension_of, document_of}
use Rattle.graphql_schema.specs.Roots.{RootFault, root_fault_of, extension_fault_of, root_cause}
use Rattle.graphql_schema.specs.Grammar.{schema_grammar, document_symbol, schema_symbol, schema_extension_symbol}
use Rattle.graphql_schema.specs.steps.FactoredRules.{factored_rows, changes}
use Rattle.graphql_core.specs.documents.Document as document
use Rattle.graphql_core.specs.documents.Faults as fault

-- Why a leaf is rejected: its name is no directive location (`Except k []` is `location_class`), or its token has no
-- value.
abbrev pub Lacks : Class → Token → CauseText → Type 0
Lacks (Except k []) t c = (location_of t.spelling ≡ None) × (c ≡ unknown_location)
Lacks leaf t c = HasNoValue t c

-- the error of a wrong operation in a schema or in an extension of it, at the keyword
abbrev pub said_at : SchemaTree → RootFault → FaultText
said_at s f = record { cause = root_cause f; place = s.position }

-- the position of the keyword after `extend`
abbrev pub keyword_place_of : DefinitionTree → Place
keyword_place_of (extension b) = b.position
keyword_place_of (schema_extension s) = s.position
keyword_place_of _ = no_schema.position

-- The error of a rejected node. For a schema or an extension of it: the first wrong operation, at the keyword.
-- For an extension that adds nothing: at the keyword after `extend`.
abbrev pub said_of : ParseTree → Option FaultText
said_of (Node k x) =
    if k == schema_symbol then option_map (said_at (schema_of (Node k x))) (root_fault_of x)
    else if k == schema_extension_symbol
    then option_map (said_at (schema_extension_of (Node k x))) (extension_fault_of x)
    else Some (record { cause = empty_extension; place = keyword_place_of (extension_of (Node k x)) })
said_of _ = None

abbrev pub schemas : Language DocumentTree
schemas = record {
  grammar = schema_grammar;
  document = document_symbol;
  means = document_of;
  erase = erase;
  lacks = Lacks;
  rejects = λ node f. said_of node ≡ Some f;
  factored_rows = factored_rows;
  changes = changes;
}

-- ---- documents

-- the input parses to this document
abbrev pub IsDocumentOf : List ℕ → DocumentTree → Type 0
IsDocumentOf = document.IsDocumentOf schemas

-- the input parses to this document, ignoring positions
abbrev pub ParsesBackTo : List ℕ → DocumentTree → Type 0
ParsesBackTo = document.ParsesBackTo schemas

-- ---- errors

-- the first error of the input
abbrev pub IsFirstErrorOf : List ℕ → FaultText → Type 0
IsFirstErrorOf = fault.IsFirstErrorOf schemas
