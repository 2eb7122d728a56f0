-- The errors of an input that is not a document of a language: the token index of each, and what is reported.
use mir.Syntax.{w64}
use Rattle.std.specs.Prelude.{◌≡◌, ◌≤◌, ◌<◌, ℕ, zero, suc, List, [], ◌∷◌, ◌++◌, length, take, drop}
use Rattle.std.specs.Int.RustNames.{FitsSigned}
use Rattle.graphql_core.specs.grammar.{Begins, Ends, Sym, ParseTree, Node, leaves, peek, RejectedNode, Reason, Unexpected}
use Rattle.graphql_core.specs.grammar.{Improper, lax, IsFault, IsLeast, IsRejected, Token, Class}
use Rattle.graphql_core.specs.declared.tokenizer.token.Kind.TheVariants.{IntValue, FloatValue, StringValue}
use Rattle.graphql_core.specs.lexical.{Item, HasItems}
use Rattle.graphql_core.specs.sources.{CauseText, kind_number, int_out_of_range, malformed_float, bad_escape, Items}
use Rattle.graphql_core.specs.sources.{Last, LastIsEnd, LastIsError, split, fault_by, FaultText, IsOutOfMemoryOr, at, no_memory}
use Rattle.graphql_core.specs.sources.{max_length, too_long, ParseFailure}
use Rattle.graphql_core.specs.strings.{IsFloatLiteral, IsInQuotes}
use Rattle.graphql_core.specs.values.{int_of}
use Rattle.graphql_core.specs.documents.Languages.{Language}
use Rattle.graphql_core.specs.documents.Document.{IsDocumentOf}
use Rattle.graphql_core.specs.grammar.Texts as texts
use Rattle.graphql_core.specs.strings.Strings as strings

-- ---- the items of an input

abbrev pub ending_of : Last → texts.Ending
ending_of (LastIsEnd p) = texts.InputEnds
ending_of (LastIsError p b) = texts.InvalidToken

-- the items as the theory of grammars sees them
abbrev pub numbered : Items → texts.Text
numbered i = record { tokens = i.tokens; ending = ending_of i.last }

-- the tokens from index `n` on; the first token has index 1
abbrev pub from_item : ℕ → List Token → List Token
from_item zero ts = ts
from_item (suc n) ts = drop n ts

-- the token is a literal without a value, for this cause
pub data HasNoValue : Token → CauseText → Type 0 where
  -- an integer outside the range of `i64`
  out_of_range : {t : Token} → t.kind ≡ kind_number IntValue → (FitsSigned w64 (int_of t.spelling) → ⊥)
      → HasNoValue t int_out_of_range
  -- a float whose exponent has no digit
  malformed : {t : Token} → t.kind ≡ kind_number FloatValue → (IsFloatLiteral t.spelling → ⊥)
      → HasNoValue t malformed_float
  -- a string with an invalid escape, so that the bytes between its quotes have no value
  escaped_badly : {t : Token} → t.kind ≡ kind_number StringValue
      → ((body : List ℕ) → IsInQuotes t.spelling body → strings.HasNoStringValue body) → HasNoValue t bad_escape

module _ {D : Type 0} (l : Language D) where
  -- ---- errors by index

  -- What is reported at this index: an unexpected token or end of input (or the lexical error), a token that is
  -- rejected as a leaf of its class, or the last token of a rejected node.
  abbrev pub Says : Reason → Items → ℕ → FaultText → Type 0
  Says Unexpected i n f = f ≡ fault_by (from_item n i.tokens) i.last
  Says (Improper c) i n f =
      (t : Token) × (rest : List Token) × (from_item n i.tokens ≡ t ∷ rest) × l.lacks c t f.cause × (f.place ≡ t.place)
  Says (RejectedNode k) i n f =
      (before us : List Token) × (x : ParseTree) × IsRejected l.grammar (Sym l.document) i.tokens k x before us
      × (n ≡ length (before ++ leaves x)) × l.rejects (Node k x) f

  -- the items have an error at index `n`, which is reported as `f`
  abbrev pub IsFaultAt : Items → FaultText → ℕ → Type 0
  IsFaultAt i f n = (why : Reason) × IsFault l.grammar (Sym l.document) (numbered i) why n × Says why i n f

  -- the first error: the one at the lowest token index
  abbrev pub IsFirstError : Items → FaultText → Type 0
  IsFirstError i f = (n : ℕ) × (why : Reason) × IsLeast l.grammar (Sym l.document) (numbered i) why n × Says why i n f

  -- The error is at the first token or end of input that the plain grammar (`lax`) rejects, just after `front`.
  abbrev pub NoneGoesOn : Items → FaultText → Type 0
  NoneGoesOn i f =
      (front others : List Token) × (i.tokens ≡ front ++ others) × (f ≡ fault_by others i.last)
      × Begins (lax l.grammar) (Sym l.document) front × Ends (lax l.grammar) (Sym l.document) front (peek others)

  -- The error is out of memory, or the first error of the items.
  abbrev pub IsErrorFor : Items → ParseFailure → Type 0
  IsErrorFor i r = IsOutOfMemoryOr (IsFirstError i) r

  -- no two errors of the items have the same index
  abbrev pub HasOneFaultAt : Items → Type 0
  HasOneFaultAt i = (f g : FaultText) (n : ℕ) → IsFaultAt i f n → IsFaultAt i g n → f ≡ g

  -- the same for an input
  abbrev pub IsFaultOf : List ℕ → FaultText → ℕ → Type 0
  IsFaultOf text f n = (items : List Item) × HasItems text items × IsFaultAt (split items) f n

  abbrev pub IsFirstErrorOf : List ℕ → FaultText → Type 0
  IsFirstErrorOf text f = (items : List Item) × HasItems text items × IsFirstError (split items) f

  -- no two errors of an input have the same index, so the first error is unique
  abbrev pub HasOneFaultEach : List ℕ → Type 0
  HasOneFaultEach text = (f g : FaultText) (n : ℕ) → IsFaultOf text f n → IsFaultOf text g n → f ≡ g

  -- an input that parses to a document has no error
  abbrev pub HasNoFault : List ℕ → D → Type 0
  HasNoFault text d = IsDocumentOf l text d → (f : FaultText) (n : ℕ) → IsFaultOf text f n → ⊥

  -- Why an input is rejected: out of memory, longer than `max_length` bytes, or its first error.
  pub data IsErrorOf (text : List ℕ) : ParseFailure → Type 0 where
    ran_out : IsErrorOf text no_memory
    past_bound : max_length < length text → IsErrorOf text too_long
    faulty : (f : FaultText) → length text ≤ max_length → IsFirstErrorOf text f → IsErrorOf text (at f)

  -- ---- the first error, if the language rejects no node

  -- Why no document begins with `front` and continues with the next token or end of input.
  pub data IsFaultAfter (front : List Token) : List Token → Last → FaultText → Type 0 where
    -- the token or end of input is not allowed here, even if no leaf is rejected
    unexpected : {after : List Token} {last : Last}
        → texts.EndsAt (lax l.grammar) (Sym l.document) front after (ending_of last)
        → IsFaultAfter front after last (fault_by after last)
    -- the token is allowed here, but rejected as a leaf of its class
    no_value : {t : Token} {after : List Token} {last : Last} {leaf : Class} {c : CauseText} → l.lacks leaf t c
        → Begins (lax l.grammar) (Sym l.document) (front ++ t ∷ [])
        → IsFaultAfter front (t ∷ after) last (record { cause = c; place = t.place })

  -- Some document begins with the first `n` tokens, and none continues with the next. The error there is `f`.
  abbrev pub StopsAllDocuments : Items → FaultText → Type 0
  StopsAllDocuments i f = (n : ℕ) × (n ≤ length i.tokens) × Begins l.grammar (Sym l.document) (take n i.tokens)
      × texts.EndsAt l.grammar (Sym l.document) (take n i.tokens) (drop n i.tokens) (ending_of i.last)
      × IsFaultAfter (take n i.tokens) (drop n i.tokens) i.last f

  -- the same for an input
  abbrev pub StopsAllDocumentsOf : List ℕ → FaultText → Type 0
  StopsAllDocumentsOf text f = (items : List Item) × HasItems text items × StopsAllDocuments (split items) f
