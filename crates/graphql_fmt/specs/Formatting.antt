-- The results of formatting a source.
use Rattle.std.specs.Prelude.{◌≡◌, ◌≤◌, ◌<◌, ℕ, List, length, Result, IfOk, IfErr, IsErrOf}
use Rattle.graphql_core.specs.{max_length, IsDocumentOf, ParsesBackTo}
use Rattle.graphql_query.specs.{queries}
use Rattle.graphql_query.specs.Tree as query
use Rattle.graphql_schema.specs.{schemas}
use Rattle.graphql_schema.specs.Tree as schema
use Rattle.graphql_standard.specs.Checking.{IsCheckError}
use Rattle.graphql_standard.specs.declared.error.CheckError.{CheckError}
use Rattle.graphql_standard.specs.declared.error.CheckError.TheVariants as error
use Rattle.graphql_fmt.specs.Accepting.{IsSourceDocument, max_open}
use Rattle.graphql_fmt.specs.Trees.{HasSameTrees}

-- Which sources are accepted, and which errors there are.
pub record AcceptsDocuments {A : Type 0} (source : List ℕ) (r : Result A CheckError) : Type 0 where
  -- Sound: a source that is accepted is a document.
  pub sound : IfOk r (λ _. IsSourceDocument source)
  -- Complete: a document of at most `max_length` bytes is accepted, or an allocation failed.
  pub complete : length source ≤ max_length → IsSourceDocument source → IfErr r (λ e. e ≡ error.OutOfMemory)
  -- An error is out of memory, too long, the first error of the source by September 2025, or a bracket that is one too
  -- many.
  pub first_error : IfErr r (IsCheckError max_open source)
  -- A source of more than `max_length` bytes is rejected as too long.
  pub too_long : max_length < length source → IsErrOf r error.TooLong

-- The text has the documents of the source.
pub record HasSameDocuments (source text : List ℕ) : Type 0 where
  -- The parse trees in the grammar of September 2025 are the same.
  pub standard : HasSameTrees source text
  -- If the source parses to a query document, the text parses to the same, ignoring positions.
  pub queries : (d : query.DocumentTree) → IsDocumentOf queries source d → ParsesBackTo queries text d
  -- If the source parses to a schema document, the text parses to the same, ignoring positions.
  pub schemas : (d : schema.DocumentTree) → IsDocumentOf schemas source d → ParsesBackTo schemas text d
