-- What `format_source` returns, from the results of its parts.
use Rattle.std.proofs.Common.{◌≡◌, ◌≤◌, ◌<◌, ◌⊎◌, ◌↔◌, ℕ, true, false, IsTrue, List, length, Result, Ok, Err, IfOk, IfErr}
use Rattle.std.proofs.Common.{IsErrOf, inl, inr, refl, sym, ap, ◌∙◌, subst, arith}
use Rattle.std.proofs.lemmas.Bool.{cases_lt}
use Rattle.graphql_core.specs.{ParseFailure, max_length, no_memory, IsDocumentOf, ParsesBackTo, ParsesDocument, IsLexicalElement}
use Rattle.graphql_core.specs.documents.Languages as languages
use Rattle.graphql_core.proofs.{DependsOnValues, false≢true, has_items, same_values_document}
use Rattle.graphql_query.specs.{queries}
use Rattle.graphql_query.proofs.documents.MeaningsAlike as query
use Rattle.graphql_schema.specs.{schemas}
use Rattle.graphql_schema.proofs.documents.MeaningsAlike as schema
use Rattle.graphql_standard.specs.lexical.Elements.{IsEither}
use Rattle.graphql_standard.specs.Checking.{ChecksStandard, IsCheckError}
use Rattle.graphql_standard.specs.declared.error.CheckError.{CheckError}
use Rattle.graphql_standard.specs.declared.error.CheckError.TheVariants as error
use Rattle.graphql_fmt.specs.{Kept, HasKept, KeepsAll, KeepsIn, AcceptsDocuments, HasSameDocuments}
use Rattle.graphql_fmt.specs.{IsParsedDocument, IsSourceDocument, ParsesTo, max_open}
use Rattle.graphql_fmt.proofs.KeptValues.{same_values, has_kept, has_kept_of_either}
use Rattle.graphql_fmt.proofs.SameTrees.{trees_kept}

-- ---- the same document

-- the document depends only on the tokens
pub same_document : {D : Type 0} (l : languages.Language D) → DependsOnValues l → (source text : List ℕ) (ks : List Kept)
    (d : D) → HasKept IsLexicalElement source ks → HasKept IsLexicalElement text ks → IsDocumentOf l source d → ParsesBackTo l text d
same_document l p source text ks d mine theirs (items, has, doc) =
    let others = has_items text in
    let (values, end) = same_values source text items _ ks mine theirs has others in
    same_values_document l p source text items _ has others (end doc.2) values d (items, has, doc)

kept_document : {D : Type 0} (l : languages.Language D) → DependsOnValues l → (source text : List ℕ) → KeepsIn IsLexicalElement source text
    → (d : D) → IsDocumentOf l source d → ParsesBackTo l text d
kept_document l p source text keeps d (items, has, doc) =
    let (ks, mine) = has_kept source items has doc.2 in
    same_document l p source text ks d mine (keeps ks mine) (items, has, doc)

pub same_documents : (source text : List ℕ) → KeepsAll source text → HasSameDocuments source text
same_documents source text keeps = record {
  standard = trees_kept source text keeps.standard;
  queries = kept_document queries query.by_values source text keeps.core;
  schemas = kept_document schemas schema.by_values source text keeps.core;
}

-- ---- the results of a parser

abbrev Parses : {D : Type 0} → languages.Language D → (source : List ℕ) → Type 0
Parses l source = (length source ≤ max_length) × ParsesTo l source

module _ {D V : Type 0} (l : languages.Language D) {view : V → D} (source : List ℕ) where
  short : {v : V} → ParsesDocument l view source (Ok v) → length source ≤ max_length
  short parses =
      elim (cases_lt max_length (length source)) [ inl long ↦ let past = parses.too_long long in absurd cc | inr within ↦ within ]

  pub parsed : {v : V} → ParsesDocument l view source (Ok v) → IsTrue true ↔ Parses l source
  parsed {v} parses = (λ yes. (short parses, (view v, parses.sound)), λ h. refl)

  pub not_parsed : {e : ParseFailure} → ParsesDocument l view source (Err e) → (e ≡ no_memory → ⊥) → IsTrue false ↔ Parses l source
  not_parsed parses other =
      (λ yes. absurd (false≢true yes), λ (within, (d, derived)). absurd (other (parses.complete d within derived)))

pub parsed_kept : (source : List ℕ) → IsParsedDocument source → (ks : List Kept) × HasKept IsEither source ks
parsed_kept source (inl (d, (items, has, doc))) = has_kept_of_either source items has doc.2
parsed_kept source (inr (d, (items, has, doc))) = has_kept_of_either source items has doc.2

-- ---- which sources are accepted

module _ {A B : Type 0} (source : List ℕ) (e : CheckError) (checks : ChecksStandard {A = A} max_open source (Err e)) where
  -- the parsers accept no source with this error, or an allocation failed
  rejected : (f : CheckError) → (e ≡ error.TooLong → ⊥)
      → (f ≡ error.OutOfMemory) ⊎ ((f ≡ e) × (length source ≤ max_length → IsParsedDocument source → ⊥))
      → AcceptsDocuments {A = B} source (Err f)
  rejected f other (inl memory) = record {
    sound = tt;
    complete = λ short doc. memory;
    first_error = subst (IsCheckError max_open source) (sym memory) tt;
    too_long = λ long. let past = checks.too_long long in let same : e ≡ error.TooLong = cc in absurd (other same);
  }
  rejected f other (inr (is, none)) = record {
    sound = tt;
    complete = λ short doc. elim doc [
      | inl standard ↦
          let (ts, has, derived, within) = standard in
          is ∙ checks.complete ts short has derived within
      | inr others ↦ absurd (none short others)
    ];
    first_error = subst (IsCheckError max_open source) (sym is) checks.first_error;
    too_long = λ long. let past = checks.too_long long in let same : e ≡ error.TooLong = cc in absurd (other same);
  }

  pub by_parsers : (r : Result B CheckError) → (e ≡ error.TooLong → ⊥)
      → IfOk r (λ v. (length source ≤ max_length) × IsParsedDocument source)
      → IfErr r (λ f. (f ≡ error.OutOfMemory) ⊎ ((f ≡ e) × (length source ≤ max_length → IsParsedDocument source → ⊥)))
      → AcceptsDocuments source r
  by_parsers (Ok w) other (short, doc) fails = record {
    sound = inr doc;
    complete = λ within some. tt;
    first_error = tt;
    too_long = λ long. absurd (omega (arith, long, short));
  }
  by_parsers (Err f) other is which = rejected f other which
