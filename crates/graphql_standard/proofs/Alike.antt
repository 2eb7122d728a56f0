-- Tokens that belong to the same classes have the same effect on a stack.
use Rattle.std.proofs.Common.{◌≡◌, ℕ, zero, suc, Bool, true, false, cond, ◌&&◌, ◌||◌, List, [], ◌∷◌, ◌++◌, Some, refl}
use Rattle.std.proofs.Common.{sym, ap, ap₂, subst, ◌∙◌, ◌⊎◌, inl, inr}
use Rattle.std.proofs.lemmas.Bool.{and_parts, or_cases}
use Rattle.graphql_core.specs.{Token, Class, matches, Expr, Empty, One, Then, Either, Many, Sym, Row, Grammar, row}
use Rattle.graphql_core.specs.{accepts, in_any, first}
use Rattle.graphql_core.specs.grammar.Trees.{row_at}
use Rattle.graphql_core.specs.theory.Tables.{nullable, only_if}
use Rattle.graphql_core.specs.theory.Reading.{choose, Choice, Left, Right, Neither}
use Rattle.graphql_standard.specs.theory.Effects.{Effect, Taken, Stopped, effect}
use Rattle.graphql_standard.specs.steps.Fitting.{same_class, is_among, are_among, names_only}
use Rattle.graphql_standard.proofs.SameExpressions.{same_class-true}

abbrev pub SameAt : Grammar → Token → Token → Class → Type 0
SameAt g t u c = (matches c t ≡ matches c u) × (accepts g c t ≡ accepts g c u)

abbrev pub SameFor : Grammar → Token → Token → List Class → Type 0
SameFor g t u [] = Unit {0}
SameFor g t u (c ∷ cs) = SameAt g t u c × SameFor g t u cs

among : (g : Grammar) (t u : Token) (c : Class) (cs : List Class) → is_among c cs ≡ true → SameFor g t u cs → SameAt g t u c
among g t u c [] h al = absurd cc
among g t u c (d ∷ ds) h al = of (λ k. among g t u c ds k al.1) (or_cases (same_class d c) (is_among c ds) h)
  where
    of : (is_among c ds ≡ true → SameAt g t u c) → (same_class d c ≡ true) ⊎ (is_among c ds ≡ true) → SameAt g t u c
    of later (inl k) = subst (SameAt g t u) (same_class-true d c k) al.0
    of later (inr k) = later k

or-assoc : (a b c : Bool) → (a || (b || c)) ≡ ((a || b) || c)
or-assoc true b c = refl
or-assoc false b c = refl

in_any-append : (cs ds : List Class) (t : Token) → in_any (cs ++ ds) t ≡ (in_any cs t || in_any ds t)
in_any-append [] ds t = refl
in_any-append (c ∷ cs) ds t =
    ap (λ (b : Bool). matches c t || b) (in_any-append cs ds t) ∙ or-assoc (matches c t) (in_any cs t) (in_any ds t)

append-alike : (cs ds : List Class) (t u : Token) → in_any cs t ≡ in_any cs u → in_any ds t ≡ in_any ds u
    → in_any (cs ++ ds) t ≡ in_any (cs ++ ds) u
append-alike cs ds t u h k =
    in_any-append cs ds t ∙ (ap₂ (λ (a b : Bool). a || b) h k ∙ sym (in_any-append cs ds u))

only-alike : (b : Bool) (ds : List Class) (t u : Token) → in_any ds t ≡ in_any ds u
    → in_any (only_if b ds) t ≡ in_any (only_if b ds) u
only-alike true ds t u h = h
only-alike false ds t u h = refl

-- the rows name only these classes
abbrev pub rows_name_only : List Class → List Row → Bool
rows_name_only cs [] = true
rows_name_only cs (r ∷ rs) = (names_only cs r.rule && are_among r.first cs) && rows_name_only cs rs

abbrev RowNames : List Class → Row → Type 0
RowNames cs r = (names_only cs r.rule ≡ true) × (are_among r.first cs ≡ true)

row_names : (cs : List Class) (rs : List Row) → rows_name_only cs rs ≡ true → (k : ℕ) → RowNames cs (row_at rs k)
row_names cs [] h k = (refl, refl)
row_names cs (r ∷ rs) h zero =
    let p = and_parts (names_only cs r.rule && are_among r.first cs) (rows_name_only cs rs) h in
    and_parts (names_only cs r.rule) (are_among r.first cs) p.0
row_names cs (r ∷ rs) h (suc k) =
    row_names cs rs (and_parts (names_only cs r.rule && are_among r.first cs) (rows_name_only cs rs) h).1 k

abbrev pub AllName : List Class → List Expr → Type 0
AllName cs [] = Unit {0}
AllName cs (e ∷ es) = (names_only cs e ≡ true) × AllName cs es

module _ (g : Grammar) (cs : List Class) (rows : rows_name_only cs g.rows ≡ true) (t u : Token) (al : SameFor g t u cs) where
  any-alike : (ds : List Class) → are_among ds cs ≡ true → in_any ds t ≡ in_any ds u
  any-alike [] h = refl
  any-alike (d ∷ ds) h =
      let p = and_parts (is_among d cs) (are_among ds cs) h in
      ap₂ (λ (a b : Bool). a || b) (among g t u d cs p.0 al).0 (any-alike ds p.1)

  first-alike : (e : Expr) → names_only cs e ≡ true → in_any (first g.rows e) t ≡ in_any (first g.rows e) u
  first-alike Empty h = refl
  first-alike (One c) h = ap (λ (b : Bool). b || false) (among g t u c cs h al).0
  first-alike (Then a b) h =
      let p = and_parts (names_only cs a) (names_only cs b) h in
      append-alike (first g.rows a) (only_if (nullable g.rows a) (first g.rows b)) t u (first-alike a p.0)
      (only-alike (nullable g.rows a) (first g.rows b) t u (first-alike b p.1))
  first-alike (Either a b) h =
      let p = and_parts (names_only cs a) (names_only cs b) h in
      append-alike (first g.rows a) (first g.rows b) t u (first-alike a p.0) (first-alike b p.1)
  first-alike (Many a) h = first-alike a h
  first-alike (Sym k) h = any-alike (row g k).first (row_names cs g.rows rows k).1

  choose-alike : (a b : Expr) → names_only cs a ≡ true → names_only cs b ≡ true
      → choose g.rows a b (Some t) ≡ choose g.rows a b (Some u)
  choose-alike a b h k = ap₂ (λ (x y : Bool). cond x Left
      (cond y Right (cond (nullable g.rows a) Left (cond (nullable g.rows b) Right Neither))))
      (first-alike a h) (first-alike b k)

  pub effect-alike : (n : ℕ) (es : List Expr) → AllName cs es → effect n g es (Some t) ≡ effect n g es (Some u)
  effect-alike zero es h = refl
  effect-alike (suc n) [] h = refl
  effect-alike (suc n) (Empty ∷ es) h = effect-alike n es h.1
  effect-alike (suc n) (One c ∷ es) h =
      ap (λ (b : Bool). elim b [ true ↦ Taken es | false ↦ Stopped ]) (among g t u c cs h.0 al).1
  effect-alike (suc n) (Then a b ∷ es) h =
      let p = and_parts (names_only cs a) (names_only cs b) h.0 in effect-alike n (a ∷ b ∷ es) (p.0, (p.1, h.1))
  effect-alike (suc n) (Either a b ∷ es) h =
      let p = and_parts (names_only cs a) (names_only cs b) h.0 in
      ap (λ (c : Choice). elim c
      [ Left ↦ effect n g (a ∷ es) (Some t) | Right ↦ effect n g (b ∷ es) (Some t) | Neither ↦ Stopped ])
      (choose-alike a b p.0 p.1)
      ∙ ap₂ (λ (x y : Effect). elim (choose g.rows a b (Some u)) [ Left ↦ x | Right ↦ y | Neither ↦ Stopped ])
      (effect-alike n (a ∷ es) (p.0, h.1)) (effect-alike n (b ∷ es) (p.1, h.1))
  effect-alike (suc n) (Many a ∷ es) h =
      ap (λ (c : Bool). elim c [ true ↦ effect n g (a ∷ Many a ∷ es) (Some t) | false ↦ effect n g es (Some t) ])
      (first-alike a h.0)
      ∙ ap₂ (λ (x y : Effect). elim (in_any (first g.rows a) u) [ true ↦ x | false ↦ y ])
      (effect-alike n (a ∷ Many a ∷ es) (h.0, (h.0, h.1))) (effect-alike n es h.1)
  effect-alike (suc n) (Sym k ∷ es) h =
      effect-alike n ((row g k).rule ∷ es) ((row_names cs g.rows rows k).0, h.1)
