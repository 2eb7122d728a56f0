-- A language whose grammar grows: each document of the earlier language is a document of the later one.
use Rattle.std.proofs.Common.{◌≡◌, ℕ, true, List, length, Option, refl, sym, subst, ◌∙◌}
use Rattle.graphql_core.specs.{Grows, Growth, grown, Sym, ParseTree, leaves, Fits, is_below, Items, split, IsDocument, IsDocumentOf, Language}
use Rattle.graphql_core.proofs.rules.{derives_on}

-- The later language l is the earlier one e with new parts. A tree without new parts denotes the same document in both.
pub record IsGrown {D : Type 0} (ps : List (Option Growth)) (e l : Language D) : Type 0 where
  pub grows : Grows ps e.grammar l.grammar
  pub document : e.document ≡ l.document
  pub below : is_below (length e.grammar.rows) (Sym e.document) ≡ true
  pub means : (x : ParseTree) → Fits e.grammar (Sym e.document) x → l.means (grown ps x) ≡ e.means x

module _ {D : Type 0} (ps : List (Option Growth)) (e l : Language D) (g : IsGrown ps e l) where
  pub later_parse_tree : (x : ParseTree) → Fits e.grammar (Sym e.document) x → Fits l.grammar (Sym l.document) (grown ps x) × (leaves x ≡ leaves (grown ps x))
  later_parse_tree x fits =
      let (fit, same) = derives_on ps e.grammar l.grammar g.grows (Sym e.document) g.below (leaves x) x (fits, refl) in
      (subst (λ (k : ℕ). Fits l.grammar (Sym k) (grown ps x)) g.document fit, same)

  pub later_document : (i : Items) (d : D) → IsDocument e i d → IsDocument l i d
  later_document i d (x, (fits, is), end, means) =
      let (fit, same) = later_parse_tree x fits in
      (grown ps x, (fit, is ∙ same), end, means ∙ sym (g.means x fits))

  pub later_document_of : (text : List ℕ) (d : D) → IsDocumentOf e text d → IsDocumentOf l text d
  later_document_of text d (items, has, is) = (items, has, later_document (split items) d is)
