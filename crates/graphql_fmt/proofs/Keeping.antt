-- The joined pieces of a source keep its tokens and its comments, in each lexical grammar.
use Rattle.std.proofs.Common.{◌≡◌, ℕ, List, [], map, sym, ◌∙◌, subst, Result, Ok, Err, IfOk, String, string_bytes}
use Rattle.std.specs.Global.{Global}
use Rattle.std.specs.declared.alloc.AllocError.{AllocError}
use Rattle.graphql_core.specs.lexical.Lexical.{Piece as Element}
use Rattle.graphql_standard.specs.lexical.Elements.{LexicalGrammar, IsDividedInto, IsEither}
use Rattle.graphql_standard.proofs.lexical.Laws.{LexicalLaws, core_laws, standard_laws, either_laws, same_division}
use Rattle.graphql_fmt.specs.declared.pieces.piece.Piece.{Piece}
use Rattle.graphql_fmt.specs.Keeping.{HasKept, KeepsIn, KeepsAll}
use Rattle.graphql_fmt.specs.Tidy.{IsTidy}
use Rattle.graphql_fmt.specs.steps.Pieces.{kept_piece, spelled, spelled_piece, ArePiecesOf}
use Rattle.graphql_fmt.specs.steps.Joining.{AreJoined}
use Rattle.graphql_fmt.proofs.Elements.{AreSpelled, all_spelled, kept_is}
use Rattle.graphql_fmt.proofs.Joining.{joined_kept}
use Rattle.graphql_fmt.proofs.Tidying.{formatted}

module _ (source text : List ℕ) (pieces : List Piece) (of : ArePiecesOf source pieces) (joined : AreJoined pieces text) where
  -- the pieces are spelled in each lexical grammar that the whole source is in
  are_spelled : {E : LexicalGrammar} → LexicalLaws E → (ps : List Element) → IsDividedInto E source ps [] → spelled ps ≡ map spelled_piece pieces
      → AreSpelled E (map spelled_piece pieces)
  are_spelled {E} laws ps division is = subst (AreSpelled E) is (all_spelled laws source ps [] division)

  keeps_in : {E : LexicalGrammar} → LexicalLaws E → KeepsIn E source text
  keeps_in {E} laws ks (ps, division, is) =
      let (qs, either, pieces_are) = of in
      let same = same_division laws source ps qs division either in
      let found = subst (λ (l : List Element). spelled l ≡ map spelled_piece pieces) (sym same) pieces_are in
      subst (HasKept E text) (sym (kept_is ps pieces found) ∙ is) (joined_kept laws pieces text (are_spelled laws ps division found) joined)

  output_kept : HasKept IsEither text (map kept_piece pieces)
  output_kept = let (ps, division, is) = of in joined_kept either_laws pieces text (are_spelled either_laws ps division is) joined

  pub keeps_all : KeepsAll source text
  keeps_all =
      let (ps, division, is) = of in
      record {
        either = (map kept_piece pieces, (ps, division, kept_is ps pieces is), output_kept);
        standard = keeps_in standard_laws;
        core = keeps_in core_laws;
      }

  pub is_tidy : IsTidy text
  is_tidy =
      let (ps, division, is) = of in
      (map kept_piece pieces, output_kept, formatted pieces text (are_spelled either_laws ps division is) joined)

-- what holds of every source of the pieces
pub written : (r : Result (String Global) AllocError) (pieces : List Piece) → IfOk r (λ text. AreJoined pieces (string_bytes text))
    → IfOk r (λ text. (source : List ℕ) → ArePiecesOf source pieces → KeepsAll source (string_bytes text) × IsTidy (string_bytes text))
written (Ok text) pieces joined = λ source of. (keeps_all source (string_bytes text) pieces of joined, is_tidy source (string_bytes text) pieces of joined)
written (Err e) pieces joined = tt
