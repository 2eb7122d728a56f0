-- The pieces of a source that a checker has read.
use Rattle.std.proofs.Common.{◌≡◌, ℕ, zero, suc, List, [], ◌∷◌, ◌++◌, map, replicate, Option, Some, None}
use Rattle.std.proofs.Common.{Ok, refl, sym, ap, ◌∙◌, subst, append_assoc, append-nil, inl}
use Rattle.graphql_core.specs.{Meaning}
use Rattle.graphql_core.specs.lexical.Elements.{element_kind}
use Rattle.graphql_core.specs.lexical.Lexical.{Piece as Element}
use Rattle.graphql_core.specs.declared.tokenizer.element.ElementKind.{ElementKind}
use Rattle.graphql_standard.specs.lexical.Elements.{IsElement, IsDividedInto}
use Rattle.graphql_standard.specs.Checking.{BeginsWithAll, ChecksNext, ChecksStandard, HasChecked, space}
use Rattle.graphql_standard.specs.declared.checker.Checker.{Checker}
use Rattle.graphql_standard.specs.declared.tokenizer.element.Element.{Element as Read}
use Rattle.graphql_standard.proofs.FirstErrors.{accepts, divided}
use Rattle.graphql_standard.proofs.lexical.Laws.{standard_laws, division_of_either}
use Rattle.graphql_fmt.specs.declared.pieces.piece.PieceKind.{PieceKind}
use Rattle.graphql_fmt.specs.declared.pieces.piece.Piece.{Piece}
use Rattle.graphql_fmt.specs.steps.Pieces.{ArePiecesOf, IsSomeElement, spelled, spelled_element, spelled_piece}

-- ---- one more element

last_element : (source : List ℕ) (ps : List Element) (p : Element) (rest : List ℕ) → BeginsWithAll source (ps ++ p ∷ []) rest
    → IsElement p.bytes p.meaning rest
last_element source [] p rest (after, e, el, same) = subst (IsElement p.bytes p.meaning) same el
last_element source (q ∷ ps) p rest (after, e, el, more) = last_element after ps p rest more

spelled_both : (ps qs : List Element) → spelled (ps ++ qs) ≡ spelled ps ++ spelled qs
spelled_both [] qs = refl
spelled_both (p ∷ ps) qs =
    let own = spelled_element (element_kind p.bytes p.meaning) p.bytes in
    ap (λ (l : List (PieceKind × List ℕ)). own ++ l) (spelled_both ps qs) ∙ sym (append_assoc own (spelled ps) (spelled qs))

no_spelling : (n : ℕ) → spelled (replicate n space) ≡ []
no_spelling zero = refl
no_spelling (suc n) = no_spelling n

pub spelled_spaces : (ps : List Element) (n : ℕ) → spelled (ps ++ replicate n space) ≡ spelled ps
spelled_spaces ps n =
    spelled_both ps (replicate n space) ∙ ap (λ (l : List (PieceKind × List ℕ)). spelled ps ++ l) (no_spelling n) ∙ append-nil (spelled ps)

module _ (limit : ℕ) (source : List ℕ) (ps : List Element) where
  -- the element that was read is one of the source
  pub some_element : (e : Read) (c : Checker) → ChecksNext limit source ps (Ok (Some e)) c → IsSomeElement e.kind e.text.now
  some_element e c (m, kind, rest, h) =
      (m, c.rest.now, inl (last_element source ps (record { bytes = e.text.now; meaning = m }) c.rest.now h.parts), kind)

  -- and its piece is the next one
  pub one_more : (e : Read) (c : Checker) (old new : List Piece) → ChecksNext limit source ps (Ok (Some e)) c → spelled ps ≡ map spelled_piece old
      → map spelled_piece new ≡ map spelled_piece old ++ spelled_element e.kind e.text.now
      → (qs : List Element) × HasChecked limit source qs c × (spelled qs ≡ map spelled_piece new)
  one_more e c old new (m, kind, rest, h) is pushed = (
    ps ++ record { bytes = e.text.now; meaning = m } ∷ [],
    h,
    spelled_both ps (record { bytes = e.text.now; meaning = m } ∷ [])
        ∙ ap (λ (l : List (PieceKind × List ℕ)). spelled ps ++ l) (append-nil (spelled_element (element_kind e.text.now m) e.text.now))
        ∙ ap (λ (k : ElementKind). spelled ps ++ spelled_element k e.text.now) kind
        ∙ ap (λ (l : List (PieceKind × List ℕ)). l ++ spelled_element e.kind e.text.now) is ∙ sym pushed,
  )

  -- all elements are read
  pub all_read : (c : Checker) (pieces : List Piece) → ChecksNext limit source ps (Ok None) c → spelled ps ≡ map spelled_piece pieces
      → ArePiecesOf source pieces
  all_read c pieces (parts, doc, h) is = (ps, division_of_either standard_laws source ps [] (divided source ps parts) refl, is)

  pub all_accepted : {A : Type 0} (c : Checker) (x : A) → ChecksNext limit source ps (Ok None) c → ChecksStandard limit source (Ok x)
  all_accepted c x (parts, doc, h) = accepts limit source ps c x parts doc h

-- some spaces are read after an element
pub more_spaces : (limit : ℕ) (source : List ℕ) (n : ℕ) (old new : Checker) (pieces : List Piece)
    → ((ps : List Element) × HasChecked limit source ps old × (spelled ps ≡ map spelled_piece pieces))
    → ((l : ℕ) (s : List ℕ) (ps : List Element) → HasChecked l s ps old → HasChecked l s (ps ++ replicate n space) new)
    → (qs : List Element) × HasChecked limit source qs new × (spelled qs ≡ map spelled_piece pieces)
more_spaces limit source n old new pieces (ps, h, is) skips = (ps ++ replicate n space, skips limit source ps h, spelled_spaces ps n ∙ is)

pub none_is : {A : Type 0} (o : Option A) → ((x : A) → o ≡ Some x → ⊥) → o ≡ None
none_is None other = refl
none_is (Some x) other = absurd (other x refl)
