-- The line end and the spaces that margins are slices of.
use Rattle.std.specs.List.{slice_range}
use Rattle.std.proofs.Common.{◌≡◌, ℕ, zero, suc, ◌+◌, ◌-◌, ◌<◌, ◌≤◌, List, ◌∷◌, get_or, replicate, append-nil, sym, ap, ◌∙◌, subst, arith}
use Rattle.std.proofs.lemmas.List.{take-replicate}
use Rattle.graphql_core.specs.{text_of, new_line, spaces}
use Rattle.std.specs.Str.{IsCharBoundary}

abbrev pub line : List ℕ
line = 10 ∷ replicate 128 32

ascii : (n i : ℕ) → get_or (replicate n 32) i 0 < 128
ascii zero i = omega arith
ascii (suc n) zero = omega arith
ascii (suc n) (suc i) = ascii n i

pub line_boundary : (n : ℕ) → n ≤ 128 → IsCharBoundary line (n + 1)
line_boundary n h =
    let next : suc n ≡ n + 1 = omega arith in
    let small : get_or line (n + 1) 0 < 128 = subst (λ k. get_or line k 0 < 128) next (ascii 128 n) in
    (omega arith, λ _ big. absurd (omega (arith, small, big)))

back : (n : ℕ) → n + 1 - 1 ≡ n
back n = omega arith

pub line_spaces : (n : ℕ) → n ≤ 128 → slice_range line 1 (n + 1) ≡ spaces n
line_spaces n h = rw (back n) (take-replicate n 128 32 h)

whole : (n : ℕ) → n + 1 - 0 ≡ suc n
whole n = omega arith

pub line_margin : (n : ℕ) → n ≤ 128 → slice_range line 0 (n + 1) ≡ text_of (new_line n)
line_margin n h = rw (whole n) (ap (λ (r : List ℕ). 10 ∷ r) (take-replicate n 128 32 h ∙ sym (append-nil (spaces n))))
