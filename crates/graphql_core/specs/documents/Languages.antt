-- A language: its grammar, the documents that its parse trees denote, and the rules by which it is parsed.
use Rattle.std.specs.Prelude.{ℕ, List}
use Rattle.graphql_core.specs.theory.{with_rows, Change}
use Rattle.graphql_core.specs.grammar.{Token, Class, ParseTree, Row, Grammar}
use Rattle.graphql_core.specs.sources.{CauseText, FaultText}

-- `D` is the type of its documents.
pub record Language (D : Type 0) : Type 1 where
  -- the grammar as it is written, and its start symbol
  pub grammar : Grammar
  pub document : ℕ
  -- the document that a parse tree denotes, and a document without its positions
  pub means : ParseTree → D
  pub erase : D → D
  -- the cause for which a token is rejected as a leaf of this class
  pub lacks : Class → Token → CauseText → Type 0
  -- what is reported of a rejected node
  pub rejects : ParseTree → FaultText → Type 0
  -- the factored rules for the same symbols, by which it is parsed, and how their parse trees become those as written
  pub factored_rows : List Row
  pub changes : List Change

-- the factored grammar, by which a parser reads
abbrev pub reading : {D : Type 0} → Language D → Grammar
reading l = with_rows l.grammar l.factored_rows l.changes
