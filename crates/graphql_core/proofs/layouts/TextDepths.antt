-- How many brackets parts open at once, from what they are made of.
use Rattle.std.proofs.Common.{◌≡◌, ℕ, suc, ◌+◌, ◌-◌, ◌≤◌, max, Bool, true, false, if◌then◌else◌, List, [], ◌∷◌, ◌++◌, ap, ◌∙◌, subst, arith, append_assoc}
use Rattle.std.proofs.Common.{append-nil}
use Rattle.graphql_core.specs.declared.tokenizer.token.Kind.{Kind}
use Rattle.graphql_core.specs.declared.tokenizer.piece.Nesting.TheVariants.{Unchanged, Opens, Closes}
use Rattle.graphql_core.specs.{Part, token, ignored, bracket_of, open_after, deepest_from, deepest}

-- parts that leave as many brackets open as before them, and open at most n more
pub record Rises (n : ℕ) (ps : List Part) : Type 0 where
  pub deep : (d : ℕ) (rest : List Part) → deepest_from d (ps ++ rest) ≡ max (d + n) (deepest_from d rest)

-- parts that close one bracket more than they open, and open at most n above it
pub record Sinks (n : ℕ) (ps : List Part) : Type 0 where
  pub deep : (d : ℕ) (rest : List Part) → deepest_from (suc d) (ps ++ rest) ≡ max (suc d + n) (deepest_from d rest)

pub at_least : (d : ℕ) (ps : List Part) → d ≤ deepest_from d ps
at_least d [] = omega arith
at_least d (ignored text ∷ ps) = at_least d ps
at_least d (token k s ∷ ps) = omega arith

-- the same depth, given by an equal number
pub rises_as : {m n : ℕ} {ps : List Part} → m ≡ n → Rises m ps → Rises n ps
rises_as {ps = ps} e h = subst (λ k. Rises k ps) e h

pub none_rise : Rises 0 []
none_rise = record { deep = λ d rest. let least = at_least d rest in omega (arith, least) }

pub gap_rises : {n : ℕ} {ps : List Part} (text : List ℕ) → Rises n ps → Rises n (ignored text ∷ ps)
gap_rises text h = record { deep = h.deep }

pub level_rises : {n : ℕ} {k : Kind} {s : List ℕ} {ps : List Part} → bracket_of k s ≡ Unchanged → Rises n ps → Rises n (token k s ∷ ps)
level_rises {n} {k} {s} {ps} e h = record {
  deep = λ d rest.
      let same : open_after (bracket_of k s) d ≡ d = ap (λ b. open_after b d) e in
      let deep = h.deep d rest in
      rw same (omega (arith, deep));
}

pub both_rise : {m n : ℕ} {ps qs : List Part} → Rises m ps → Rises n qs → Rises (max m n) (ps ++ qs)
both_rise {m} {n} {ps} {qs} h k = record {
  deep = λ d rest.
      let first = h.deep d (qs ++ rest) in
      let second = k.deep d rest in
      rw (append_assoc ps qs rest) (omega (arith, first, second));
}

-- parts with no bracket come first
pub flat_rise : {n : ℕ} {ps qs : List Part} → Rises 0 ps → Rises n qs → Rises n (ps ++ qs)
flat_rise {n} h k = rises_as {m = max 0 n} {n = n} (omega arith) (both_rise h k)

pub gap_sinks : {n : ℕ} {ps : List Part} (text : List ℕ) → Sinks n ps → Sinks n (ignored text ∷ ps)
gap_sinks text h = record { deep = h.deep }

back : (d : ℕ) → suc d - 1 ≡ d
back d = omega arith

pub closer_sinks : {k : Kind} {s : List ℕ} {ps : List Part} → bracket_of k s ≡ Closes → Rises 0 ps → Sinks 0 (token k s ∷ ps)
closer_sinks {k} {s} {ps} e h = record {
  deep = λ d rest.
      let same : open_after (bracket_of k s) (suc d) ≡ d = ap (λ b. open_after b (suc d)) e ∙ back d in
      let deep = h.deep d rest in
      rw same (omega (arith, deep));
}

pub both_sink : {m n : ℕ} {ps qs : List Part} → Rises m ps → Sinks n qs → Sinks (max m n) (ps ++ qs)
both_sink {m} {n} {ps} {qs} h k = record {
  deep = λ d rest.
      let first = h.deep (suc d) (qs ++ rest) in
      let second = k.deep d rest in
      rw (append_assoc ps qs rest) (omega (arith, first, second));
}

pub opener_rises : {n : ℕ} {k : Kind} {s : List ℕ} {ps : List Part} → bracket_of k s ≡ Opens → Sinks n ps → Rises (n + 1) (token k s ∷ ps)
opener_rises {n} {k} {s} {ps} e h = record {
  deep = λ d rest.
      let same : open_after (bracket_of k s) d ≡ suc d = ap (λ b. open_after b d) e in
      let deep = h.deep d rest in
      rw same (omega (arith, deep));
}

pub either_rises : {n : ℕ} {ps qs : List Part} (b : Bool) → Rises n ps → Rises n qs → Rises n (if b then ps else qs)
either_rises true h k = h
either_rises false h k = k

-- the parts alone
pub deepest_is : {n : ℕ} {ps : List Part} → Rises n ps → deepest ps ≡ n
deepest_is {n} {ps} h =
    let deep : deepest_from 0 (ps ++ []) ≡ max (0 + n) 0 = h.deep 0 [] in
    let alone : deepest_from 0 (ps ++ []) ≡ deepest ps = ap deepest (append-nil ps) in
    omega (arith, deep, alone)
