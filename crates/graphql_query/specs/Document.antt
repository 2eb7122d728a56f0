-- The language of queries: the document of an input, and the errors of an input without one.
use Rattle.std.specs.Prelude.{ℕ, List, Result}
use Rattle.graphql_core.specs.{ParseFailure, Items, FaultText, Language}
use Rattle.graphql_query.specs.Tree.{DocumentTree, erase}
use Rattle.graphql_query.specs.Grammar.{query, document_symbol}
use Rattle.graphql_query.specs.steps.FactoredRules.{factored_rows, changes}
use Rattle.graphql_query.specs.Meanings.{document_of}
use Rattle.graphql_core.specs.documents.Document as document
use Rattle.graphql_core.specs.documents.Faults as fault

-- no node of a query document is rejected
abbrev pub queries : Language DocumentTree
queries = record {
  grammar = query;
  document = document_symbol;
  means = document_of;
  erase = erase;
  lacks = λ c. fault.HasNoValue;
  rejects = λ node f. ⊥;
  factored_rows = factored_rows;
  changes = changes;
}

-- ---- documents

-- the grammar derives the tokens with a parse tree that denotes this document, and the end of the input follows
abbrev pub IsDocument : Items → DocumentTree → Type 0
IsDocument = document.IsDocument queries

-- the input parses to this document
abbrev pub IsDocumentOf : List ℕ → DocumentTree → Type 0
IsDocumentOf = document.IsDocumentOf queries

-- the input parses to this document, ignoring positions
abbrev pub ParsesBackTo : List ℕ → DocumentTree → Type 0
ParsesBackTo = document.ParsesBackTo queries

-- the result is sound and complete, for an input of at most `max_length` bytes; which error it is, is left open
abbrev pub IsParsed : List ℕ → Result DocumentTree ParseFailure → Type 0
IsParsed = document.IsParsed queries

-- both are documents that are equal ignoring positions, or both are errors, unless an allocation failed
abbrev pub AreAlike : Result DocumentTree ParseFailure → Result DocumentTree ParseFailure → Type 0
AreAlike = document.AreAlike queries

-- ---- errors

-- the first error of the input
abbrev pub IsFirstErrorOf : List ℕ → FaultText → Type 0
IsFirstErrorOf = fault.IsFirstErrorOf queries

-- the tokens before this error are a prefix of some document; with the offending token or end they are not (of a
-- lexical error this is not stated)
abbrev pub StopsAllDocumentsOf : List ℕ → FaultText → Type 0
StopsAllDocumentsOf = fault.StopsAllDocumentsOf queries
