-- All errors of a source: its first error, and then those from the next definition on.
use Rattle.std.specs.Prelude.{◌≡◌, ◌≢◌, ◌≤◌, ◌<◌, ◌==◌, ◌||◌, ℕ, Bool, true, List, [], ◌∷◌, ◌++◌, length, Some}
use Rattle.std.specs.List.{list_all, after_first}
use Rattle.graphql_core.specs.{Token, Piece, Meaning, sample}
use Rattle.graphql_core.specs.declared.tokenizer.token.Kind.{Kind}
use Rattle.graphql_core.specs.declared.tokenizer.token.Kind.TheVariants.{Name}
use Rattle.graphql_core.specs.declared.tokenizer.element.ElementKind.TheVariants as element
use Rattle.graphql_standard.specs.lexical.Elements.{IsElement, BeginsNoneOf, BeginsWithOneOf}
use Rattle.graphql_standard.specs.Places.{EndsInLineEnd}
use Rattle.graphql_standard.specs.Recognizing.{IsDocument, BeginsDocument}
use Rattle.graphql_standard.specs.Checking.{tokens_of, HasTokens, IsWithin, BeginsWithAll, IsErrorOfPart, place_of}
use Rattle.graphql_standard.specs.declared.place.Place.{Place}
use Rattle.graphql_standard.specs.declared.error.CheckError.{CheckError}
use Rattle.graphql_standard.specs.declared.error.CheckError.TheVariants.{OutOfMemory}

-- ---- the beginning of a definition

-- a tab, a space or a comma
abbrev pub is_blank : ℕ → Bool
is_blank b = (b == 9) || ((b == 32) || (b == 44))

-- only blanks come after the last line end of the text
abbrev pub StartsLine : List ℕ → Type 0
StartsLine front =
    (lines : List ℕ) × (blanks : List ℕ) × (front ≡ lines ++ blanks) × EndsInLineEnd lines × (list_all is_blank blanks ≡ true)

-- the first token of a text
abbrev pub IsFirstToken : (text : List ℕ) → Kind → (bytes : List ℕ) → Type 0
IsFirstToken text k bytes =
    (ps : List Piece) × (rest : List ℕ) × (after : List ℕ) × BeginsWithAll text ps rest × (tokens_of ps ≡ [])
    × BeginsWithOneOf IsElement rest (element.Token k) bytes after

-- A name begins the text, and another token follows. Some document begins with these two tokens: so the name is the
-- keyword of a definition.
abbrev pub BeginsDefinition : List ℕ → Type 0
BeginsDefinition text =
    (word : List ℕ) × (after : List ℕ) × (k : Kind) × (bytes : List ℕ)
    × BeginsWithOneOf IsElement text (element.Token Name) word after × IsFirstToken after k bytes
    × BeginsDocument (sample Name word ∷ sample k bytes ∷ [])

-- ---- the next definition

-- the text after its first LF
abbrev pub next_line : List ℕ → List ℕ
next_line text = after_first (λ b. b == 10) text

-- The text has this end, which begins where a lexical element begins. Where none does, the rest of the line is skipped.
pub data Reaches : (text end : List ℕ) → Type 0 where
  here : {text : List ℕ} → Reaches text text
  past_element : {text bytes rest end : List ℕ} {m : Meaning} → text ≡ bytes ++ rest → IsElement bytes m rest
      → Reaches rest end → Reaches text end
  past_line : {text end : List ℕ} → text ≢ [] → BeginsNoneOf IsElement text → Reaches (next_line text) end
      → Reaches text end

-- At this end of a part of the source a definition begins a line, at this offset in the source or later. It is not the
-- one that begins the part.
pub record IsDefinitionAt (source part : List ℕ) (offset : ℕ) (end : List ℕ) : Type 0 where
  pub shorter : length end < length part
  pub starts : (front : List ℕ) × (source ≡ front ++ end) × (offset ≤ length front) × StartsLine front
  pub begins : BeginsDefinition end

-- such a definition, at the beginning of a lexical element
pub record IsDefinition (source part : List ℕ) (offset : ℕ) (end : List ℕ) : Type 0 where
  pub reached : Reaches part end
  pub at : IsDefinitionAt source part offset end

-- the first such definition
pub record IsNextDefinition (source part : List ℕ) (offset : ℕ) (end : List ℕ) : Type 0 where
  pub found : IsDefinition source part offset end
  pub first : (other : List ℕ) → IsDefinition source part offset other → length other ≤ length end

abbrev pub HasNoDefinition : (source part : List ℕ) (offset : ℕ) → Type 0
HasNoDefinition source part offset = (end : List ℕ) → IsDefinition source part offset end → ⊥

-- ---- all errors

-- the error of a part of the source; no allocation failed
abbrev pub IsPartError : (limit : ℕ) (source part : List ℕ) → CheckError → Type 0
IsPartError limit source part e = (e ≢ OutOfMemory) × IsErrorOfPart limit source part e

-- a document in which at most `limit` brackets are open
abbrev pub IsRight : (limit : ℕ) (part : List ℕ) → Type 0
IsRight limit part = (ts : List Token) × HasTokens part ts × IsDocument ts × IsWithin limit ts

-- no definition begins a line from the place of the error on
abbrev pub IsLastError : (source part : List ℕ) → CheckError → Type 0
IsLastError source part e = (p : Place) → place_of e ≡ Some p → HasNoDefinition source part p.offset

-- this is the next definition that begins a line
abbrev pub GoesOn : (source part : List ℕ) → CheckError → (end : List ℕ) → Type 0
GoesOn source part e end = (p : Place) × (place_of e ≡ Some p) × IsNextDefinition source part p.offset end

-- The errors of a part, which is the source, or its end from a definition on: none, if the part is a document; its
-- first error, if that is the last one; or its first error, and the errors from the next definition on.
pub data HasErrors (limit : ℕ) (source : List ℕ) : (part : List ℕ) → List CheckError → Type 0 where
  no_error : {part : List ℕ} → IsRight limit part → HasErrors limit source part []
  last_error : {part : List ℕ} {e : CheckError} → IsPartError limit source part e → IsLastError source part e
      → HasErrors limit source part (e ∷ [])
  more_errors : {part end : List ℕ} {e : CheckError} {es : List CheckError} → IsPartError limit source part e
      → GoesOn source part e end → HasErrors limit source end es
      → HasErrors limit source part (e ∷ es)
