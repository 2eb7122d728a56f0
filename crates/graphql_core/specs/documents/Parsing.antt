-- The results of functions that parse a whole document.
use Rattle.std.specs.Prelude.{◌≡◌, ◌<◌, ◌≤◌, ℕ, List, length, Result, IfOk, IfErr, IsErrOf}
use Rattle.graphql_core.specs.lexical.{asked_once, Stream}
use Rattle.graphql_core.specs.sources.{ParseFailure, max_length, too_long, Items, FaultText, IsAtEnd, split}
use Rattle.graphql_core.specs.documents.Languages.{Language}
use Rattle.graphql_core.specs.documents.Document.{IsDocument, IsDocumentOf, ReturnsUnlessOutOfMemory, IsUnambiguous}
use Rattle.graphql_core.specs.documents.Document.{AreUnambiguous}
use Rattle.graphql_core.specs.documents.Faults.{IsFaultAt, IsErrorFor, IsErrorOf, HasOneFaultAt, HasOneFaultEach}
use Rattle.graphql_core.specs.documents.Faults.{HasNoFault}

-- The result for the items of a source. `view v` is the document that a returned value `v` stands for.
pub record ReadsDocument {D V : Type 0} (l : Language D) (view : V → D) (i : Items)
    (r : Result V ParseFailure) : Type 0 where
  -- Sound: a returned value is the document that the grammar derives from all of the tokens.
  pub sound : IfOk r (λ v. IsDocument l i (view v))
  -- Complete: if the items parse to a document, the result is that document or out of memory.
  pub complete : (d : D) → IsDocument l i d → ReturnsUnlessOutOfMemory view d r
  -- An error is out of memory or the first error of the items.
  pub first_error : IfErr r (IsErrorFor l i)

-- The result for an input.
pub record ParsesDocument {D V : Type 0} (l : Language D) (view : V → D) (text : List ℕ)
    (r : Result V ParseFailure) : Type 0 where
  -- Sound: a returned value is the document that the grammar derives from all tokens of the input, with positions.
  pub sound : IfOk r (λ v. IsDocumentOf l text (view v))
  -- Complete: if an input of at most `max_length` bytes parses to a document, the result is it or out of memory.
  pub complete : (d : D) → length text ≤ max_length → IsDocumentOf l text d → ReturnsUnlessOutOfMemory view d r
  -- Unambiguous: the tokens of the input have at most one parse tree, even if no leaf and no node is rejected.
  pub unambiguous : IsUnambiguous l text
  -- An error is out of memory, too long (only if the input is), or the first error of the input.
  pub first_error : IfErr r (IsErrorOf l text)
  -- An input of more than `max_length` bytes is rejected as too long.
  pub too_long : max_length < length text → IsErrOf r too_long
  -- No two errors of the input have the same index.
  pub one_error : HasOneFaultEach l text
  -- An input that parses to a document has no error.
  pub no_error : (d : D) → HasNoFault l text d

-- The result for the remaining items of a stream: `old` is the stream before the call, `new` the stream after it.
pub record ParsesStream {D V : Type 0} (l : Language D) (view : V → D) (old new : Stream)
    (r : Result V ParseFailure) : Type 0 where
  -- Sound: a returned value is the document that the grammar derives from all remaining tokens.
  pub sound : IfOk r (λ v. IsDocument l (split old.items) (view v))
  -- Complete: if the remaining items parse to a document, the result is that document or out of memory.
  pub complete : (d : D) → IsDocument l (split old.items) d → ReturnsUnlessOutOfMemory view d r
  -- Unambiguous: the remaining tokens have at most one parse tree, even if no leaf and no node is rejected.
  pub unambiguous : AreUnambiguous l (split old.items)
  -- An error is out of memory or the first error, where the next item of `old` has index 1.
  pub first_error : IfErr r (IsErrorFor l (split old.items))
  -- No two errors of the items have the same index.
  pub one_error : HasOneFaultAt l (split old.items)
  -- Items that parse to a document have no error.
  pub no_error : (d : D) → IsDocument l (split old.items) d → (f : FaultText) (n : ℕ)
      → IsFaultAt l (split old.items) f n → ⊥
  -- `cuts`, the number of items requested, is never less than before.
  pub requests_grow : old.cuts ≤ new.cuts
  -- It grew by at most the number of remaining items, including the last.
  pub requested_at_most_once : new.cuts ≤ (asked_once old).cuts
  -- If a document is returned, each remaining item was requested exactly once.
  pub all_requested : IfOk r (λ v. new ≡ asked_once old)
  -- If a document is returned, the stream is at its end.
  pub ended : IfOk r (λ v. IsAtEnd (split new.items))
