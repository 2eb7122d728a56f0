-- A list to which values were appended, and the appended values split off again.
use Rattle.std.proofs.Common.{◌≡◌, ℕ, List, [], ◌++◌, length, map, take, drop, sym, ap, ◌∙◌}
use Rattle.std.proofs.lemmas.List.{take-map, drop-map, length-map, append-nil}
use Rattle.std.proofs.Math.Seq.{take-append_seam, drop-append_seam}
use Rattle.graphql_core.specs.steps.ReaderResults.{Adds}

module _ {V A : Type 0} (f : V → A) (start found : List V) (xs : List A) (added : Adds f start found xs) where
  -- what was in the list before stays
  pub stays : (n : ℕ) → n ≡ length start → (left : List V) → left ≡ take n found → Adds f start left []
  stays n is left taken =
      ap (map f) taken ∙ sym (take-map f n found) ∙ ap (take n) added ∙ ap (λ (k : ℕ). take k (map f start ++ xs)) (is ∙ sym (length-map start f))
      ∙ take-append_seam (map f start) xs ∙ sym (append-nil (map f start))

  -- what is split off is what was appended
  pub taken_off : (n : ℕ) → n ≡ length start → (off : List V) → off ≡ drop n found → map f off ≡ xs
  taken_off n is off dropped =
      ap (map f) dropped ∙ sym (drop-map f n found) ∙ ap (drop n) added ∙ ap (λ (k : ℕ). drop k (map f start ++ xs)) (is ∙ sym (length-map start f))
      ∙ drop-append_seam (map f start) xs
