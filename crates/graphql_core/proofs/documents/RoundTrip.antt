-- What parsing returns for an input with a known document, ignoring positions, and facts about layouts that parse back.
use Rattle.std.proofs.Common.{◌≡◌, ◌<◌, ◌≤◌, length, List, ℕ, inl, inr, sym, ap, ◌∙◌, subst}
use Rattle.std.proofs.lemmas.Bool.{cases_lt}
use Rattle.graphql_core.proofs.lexical.{items_unique}
use Rattle.graphql_core.specs.{StyleOptions, Item, split, max_length, IsDocument, IsDocumentOf, ParsesBackTo, OutputsParseBack, Language, IsReadable}
use Rattle.graphql_core.proofs.documents.Whole.{one_document}

module _ {D : Type 0} (l : Language D) where
  -- if an input of at most `MAX_LENGTH` bytes has no other document than v, v is d, ignoring positions
  pub same_document : (text : List ℕ) (d v : D) → ((e : D) → length text ≤ max_length → IsDocumentOf l text e → v ≡ e)
      → (max_length < length text → ⊥) → ParsesBackTo l text d → l.erase v ≡ l.erase d
  same_document text d v complete past (e, has, same) =
      elim (cases_lt max_length (length text)) [ inl long ↦ absurd (past long) | inr within ↦ ap l.erase (complete e within has) ∙ same ]

-- An output without positions for each of some documents in each style. Each output parses back.
module _
    {D : Type 0}
    (l : Language D)
    (r : IsReadable l)
    (layout : StyleOptions → D → List ℕ)
    (alike : (style : StyleOptions) (d : D) → layout style (l.erase d) ≡ layout style d)
    (IsPrinted : D → Type 0)
    (back : (style : StyleOptions) (d : D) → IsPrinted d → ParsesBackTo l (layout style d) d)
  where
    -- an input has one document
    only_document : (text : List ℕ) (d e : D) → IsDocumentOf l text d → IsDocumentOf l text e → d ≡ e
    only_document text d e (i, h, is) (j, k, other) =
        one_document l r (split i) d e is (subst (λ (items : List Item). IsDocument l (split items) e) (items_unique text j i k h) other)

    -- documents that are equal ignoring positions have one output in each style
    same_text : (style : StyleOptions) (d e : D) → l.erase d ≡ l.erase e → layout style d ≡ layout style e
    same_text style d e same = sym (alike style d) ∙ ap (layout style) same ∙ alike style e

    printed_again : (style : StyleOptions) (d e : D) → IsPrinted d → IsDocumentOf l (layout style d) e
        → (l.erase e ≡ l.erase d) × (layout style e ≡ layout style d)
    printed_again style d e is h =
        let w = back style d is in
        let same : l.erase e ≡ l.erase d = ap l.erase (only_document (layout style d) e w.0 h w.1) ∙ w.2 in
        (same, same_text style e d same)

    pub parse_back : OutputsParseBack l layout IsPrinted
    parse_back = record {
      parses_back = back;
      printed_again = printed_again;
      styles_agree = λ style other d e f is h k. (printed_again style d e is h).0 ∙ sym (printed_again other d f is k).0;
      one_text = λ style d e is other same.
          let w = back style e other in
          sym (printed_again style d w.0 is (subst (λ (t : List ℕ). IsDocumentOf l t w.0) (sym same) w.1)).0 ∙ w.2;
    }
