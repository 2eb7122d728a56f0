-- The document that an input parses to, in any language, and what a parser returns for the input.
use Rattle.std.specs.Prelude.{◌≡◌, ℕ, List, Result, Ok, Err, IfOk}
use Rattle.graphql_core.specs.grammar.{Derives, ParseTree, Sym, lax}
use Rattle.graphql_core.specs.lexical.{Item, HasItems}
use Rattle.graphql_core.specs.sources.{Items, IsEnd, split, no_memory, ParseFailure}
use Rattle.graphql_core.specs.layouts.{StyleOptions}
use Rattle.graphql_core.specs.documents.Languages.{Language}

-- the result is this document, seen through `view`, or the error is out of memory
abbrev pub ReturnsUnlessOutOfMemory : {V D : Type 0} → (V → D) → D → Result V ParseFailure → Type 0
ReturnsUnlessOutOfMemory view d (Ok v) = view v ≡ d
ReturnsUnlessOutOfMemory view d (Err e) = e ≡ no_memory

module _ {D : Type 0} (l : Language D) where
  -- the grammar derives the tokens by a parse tree that denotes `d`, and the end of the input follows them
  abbrev pub IsDocument : Items → D → Type 0
  IsDocument i d = (x : ParseTree) × Derives l.grammar (Sym l.document) i.tokens x × IsEnd i.last × (d ≡ l.means x)

  -- the input parses to the document `d`
  abbrev pub IsDocumentOf : List ℕ → D → Type 0
  IsDocumentOf text d = (items : List Item) × HasItems text items × IsDocument (split items) d

  -- the input parses to a document that is equal to `d`, ignoring positions
  abbrev pub ParsesBackTo : List ℕ → D → Type 0
  ParsesBackTo text d = (e : D) × IsDocumentOf text e × (l.erase e ≡ l.erase d)

  -- the tokens of the input have at most one parse tree, even in the plain grammar (`lax`)
  abbrev pub IsUnambiguous : List ℕ → Type 0
  IsUnambiguous text = (items : List Item) (x y : ParseTree) → HasItems text items
      → Derives (lax l.grammar) (Sym l.document) (split items).tokens x
      → Derives (lax l.grammar) (Sym l.document) (split items).tokens y → x ≡ y

  -- the same for the tokens of `i`
  abbrev pub AreUnambiguous : Items → Type 0
  AreUnambiguous i =
      (x y : ParseTree) → Derives (lax l.grammar) (Sym l.document) i.tokens x
      → Derives (lax l.grammar) (Sym l.document) i.tokens y → x ≡ y

  -- ---- results of a parser

  -- the result is sound and complete, for an input of at most `max_length` bytes; which error it is, is left open
  abbrev pub IsParsed : List ℕ → Result D ParseFailure → Type 0
  IsParsed text r =
      IfOk r (IsDocumentOf text) × ((d : D) → IsDocumentOf text d → ReturnsUnlessOutOfMemory (λ (e : D). e) d r)

  -- Both results are documents that are equal, ignoring positions, or both are errors.
  -- If only one result is an error, that error is out of memory.
  abbrev pub AreAlike : Result D ParseFailure → Result D ParseFailure → Type 0
  AreAlike (Ok d) (Ok e) = l.erase d ≡ l.erase e
  AreAlike (Ok d) (Err f) = f ≡ no_memory
  AreAlike (Err f) (Ok e) = f ≡ no_memory
  AreAlike (Err f) (Err g) = Unit {0}

-- Round trip: the output of a document, in any style, parses back to the same document, ignoring positions.
pub record OutputsParseBack {D : Type 0} (l : Language D) (layout : StyleOptions → D → List ℕ)
    (IsPrinted : D → Type 0) : Type 0 where
  -- the output in any style parses back to the document
  pub parses_back : (style : StyleOptions) (d : D) → IsPrinted d → ParsesBackTo l (layout style d) d
  -- a document parsed from the output is the same, and has the same output in that style (formatting is idempotent)
  pub printed_again : (style : StyleOptions) (d e : D) → IsPrinted d → IsDocumentOf l (layout style d) e
      → (l.erase e ≡ l.erase d) × (layout style e ≡ layout style d)
  -- documents parsed from the outputs in two styles are the same
  pub styles_agree : (style other : StyleOptions) (d e f : D) → IsPrinted d → IsDocumentOf l (layout style d) e
      → IsDocumentOf l (layout other d) f → l.erase e ≡ l.erase f
  -- documents with the same output are the same
  pub one_text : (style : StyleOptions) (d e : D) → IsPrinted d → IsPrinted e
      → layout style d ≡ layout style e → l.erase d ≡ l.erase e
