-- Two strings written to a formatter one after the other, whatever options the formatter has.
use Rattle.std.specs.Prelude.{◌≡◌, List, [], ◌∷◌, ◌++◌, ℕ, refl}
use Rattle.std.specs.declared.fmt.Formatter.{Formatter}
use Rattle.std.specs.Fmt.{HasWrittenStyled, IsFlush, WritesInCalls}
use Rattle.std.specs.List.{FoldsTo, concat}
use Rattle.std.proofs.Common.{sym, ap, subst, ◌∙◌, append_assoc}

concat_append : (xs ys : List (List ℕ)) → concat (xs ++ ys) ≡ concat xs ++ concat ys
concat_append [] ys = refl
concat_append (x ∷ xs) ys =
    ap (λ (l : List ℕ). x ++ l) (concat_append xs ys) ∙ sym (append_assoc x (concat xs) (concat ys))

module _ {W : Type 0} (took : W → List ℕ → W → Type 0) where
  calls_append : (w : W) (xs : List (List ℕ)) (v : W) (ys : List (List ℕ)) (u : W) → FoldsTo took w xs v
      → FoldsTo took v ys u → FoldsTo took w (xs ++ ys) u
  calls_append w [] v ys u p q = subst (λ (x : W). FoldsTo took x ys u) (sym p) q
  calls_append w (x ∷ xs) v ys u p q = (p.0, p.1, calls_append p.0 xs v ys u p.2 q)

  pub formatter_nil : (f : Formatter W) → IsFlush f → HasWrittenStyled took f [] f
  formatter_nil f flush =
      record { wrote = record { parts = []; calls = refl; whole = refl }; spec = refl; flush = flush }

  pub formatter_more : (f : Formatter W) (a : List ℕ) (g : Formatter W) (b : List ℕ) (h : Formatter W)
      → (IsFlush f → HasWrittenStyled took f a g) → (IsFlush g → HasWrittenStyled took g b h) → IsFlush f
      → HasWrittenStyled took f (a ++ b) h
  formatter_more f a g b h first second flush =
      let p = first flush in
      let q = second p.flush in
      let wrote : WritesInCalls took f.writer (a ++ b) h.writer = record {
        parts = p.wrote.parts ++ q.wrote.parts;
        calls = calls_append f.writer p.wrote.parts g.writer q.wrote.parts h.writer p.wrote.calls q.wrote.calls;
        whole = concat_append p.wrote.parts q.wrote.parts ∙ ap (λ l. l ++ concat q.wrote.parts) p.wrote.whole
            ∙ ap (λ l. a ++ l) q.wrote.whole;
      } in
      record { wrote = wrote; spec = q.spec ∙ p.spec; flush = q.flush }
