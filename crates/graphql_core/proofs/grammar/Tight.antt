-- If no table has more than its rule, each class of a first set begins a list.
use Rattle.std.proofs.Common.{◌≡◌, ℕ, zero, suc, ◌<◌, Bool, true, false, not, ◌&&◌, ◌||◌, List, [], ◌∷◌, ◌++◌, refl, sym, ap, ◌∙◌, append-nil, arith, inl}
use Rattle.std.proofs.Common.{inr, ◌⊎◌}
use Rattle.std.proofs.lemmas.Bool.{and_parts, and_from, or_cases, or_left, or_right, ltb-true}
use Rattle.graphql_core.specs.{Token, Class, matches, in_any, all_within, Expr, Empty, One, Then, Either, Many, Sym, ParseTree, Nothing, Leaf, Both, First}
use Rattle.graphql_core.specs.{Second, Stop, More, Node, Row, Grammar, row_at, row, leaves, Fits, fits_nothing, fits_leaf, fits_both, fits_first, fits_second}
use Rattle.graphql_core.specs.{fits_stop, fits_more, fits_node, Begins, only_if, nullable, first, ranked, is_ll1, are_tight, is_tight, has_samples}
use Rattle.graphql_core.specs.{is_productive, lax}
use Rattle.graphql_core.proofs.grammar.Classes.{all_within-sound}
use Rattle.graphql_core.proofs.grammar.Complete.{IsRow-each, implied}
use Rattle.graphql_core.proofs.grammar.Total.{ranked-more, highest, ranked-highest}
use Rattle.graphql_core.proofs.grammar.FirstFault.{samples-at, tree-of, begins-around, begins-after, fits-lax}

record IsTightRow (rs : List Row) (r : Row) : Type 0 where
  pub nullable : r.nullable ≡ true → nullable rs r.rule ≡ true
  pub first : all_within r.first (first rs r.rule) ≡ true

tight-at : (rs more : List Row) (k : ℕ) → are_tight rs more ≡ true → IsTightRow rs (row_at more k)
tight-at rs [] k h = record { nullable = λ i. refl; first = refl }
tight-at rs (r ∷ more) zero h =
    let p = and_parts ((not r.nullable || nullable rs r.rule) && all_within r.first (first rs r.rule)) (are_tight rs more) h in
    let q = and_parts (not r.nullable || nullable rs r.rule) (all_within r.first (first rs r.rule)) p.0 in
    record { nullable = implied r.nullable (nullable rs r.rule) q.0; first = q.1 }
tight-at rs (r ∷ more) (suc k) h =
    tight-at rs more k (and_parts ((not r.nullable || nullable rs r.rule) && all_within r.first (first rs r.rule)) (are_tight rs more) h).1

in-parts : (cs ds : List Class) (t : Token) → in_any (cs ++ ds) t ≡ true → (in_any cs t ≡ true) ⊎ (in_any ds t ≡ true)
in-parts [] ds t h = inr h
in-parts (c ∷ cs) ds t h =
    elim (or_cases (matches c t) (in_any (cs ++ ds) t) h) [
      | inl m ↦ inl (or_left (matches c t) (in_any cs t) m)
      | inr m ↦ elim (in-parts cs ds t m) [
        | inl i ↦ inl (or_right (matches c t) (in_any cs t) i)
        | inr i ↦ inr i
      ]
    ]

in-if : (b : Bool) (cs : List Class) (t : Token) → in_any (only_if b cs) t ≡ true → (b ≡ true) × (in_any cs t ≡ true)
in-if true cs t h = (refl, h)
in-if false cs t h = absurd cc

-- the tables of the expression are exact
pub record Real (g : Grammar) (e : Expr) : Type 0 where
  pub empty : nullable g.rows e ≡ true → (x : ParseTree) × Fits (lax g) e x × (leaves x ≡ [])
  pub begins : (t : Token) → in_any (first g.rows e) t ≡ true → Begins (lax g) e (t ∷ [])

module _ (g : Grammar) (ok : is_ll1 g.rows ≡ true) (full : is_productive g ≡ true) (tight : is_tight g.rows ≡ true) where
  abbrev Lower : ℕ → Type 0
  Lower r = (k : ℕ) → (row g k).rank < r → Real g (Sym k)

  at-expr : (r : ℕ) → Lower r → (e : Expr) → has_samples g e ≡ true → ranked g.rows r e ≡ true → Real g e
  at-expr r lo Empty f k = record { empty = λ n. (Nothing, fits_nothing, refl); begins = λ t h. absurd cc }
  at-expr r lo (One c) f k = record { empty = λ n. absurd cc; begins = λ t h. (Leaf t, [], (fits_leaf (one t h), refl)) }
    where
      one : (t : Token) → (matches c t || false) ≡ true → (matches c t && true) ≡ true
      one t h = elim (or_cases (matches c t) false h) [ inl m ↦ and_from (matches c t) true m refl | inr m ↦ absurd cc ]
  at-expr r lo (Then a b) f k =
      let f1 = and_parts (has_samples g a) (has_samples g b) f in
      let k1 = and_parts (ranked g.rows r a) (not (nullable g.rows a) || ranked g.rows r b) k in
      let p = at-expr r lo a f1.0 k1.0 in
      let y = tree-of g full b f1.1 in
      let second = λ (n : nullable g.rows a ≡ true). at-expr r lo b f1.1 (implied (nullable g.rows a) (ranked g.rows r b) k1.1 n) in
      record {
        empty = λ n.
            let n1 = and_parts (nullable g.rows a) (nullable g.rows b) n in
            let u = p.empty n1.0 in
            let v = (second n1.0).empty n1.1 in
            (Both u.0 v.0, fits_both u.1 v.1, ap (λ (l : List Token). l ++ leaves v.0) u.2 ∙ v.2);
        begins = λ t h. elim (in-parts (first g.rows a) (only_if (nullable g.rows a) (first g.rows b)) t h) [
          | inl i ↦ begins-around (lax g) a (Then a b) (t ∷ []) (λ x. Both x y.0) (leaves y.0) (λ x w. fits_both w (fits-lax g y.1)) (λ x. refl) (p.begins t i)
          | inr i ↦
              let j = in-if (nullable g.rows a) (first g.rows b) t i in
              let u = p.empty j.0 in
              begins-after (lax g) b (Then a b) [] (t ∷ []) (Both u.0) (λ x w. fits_both u.1 w) (λ x. ap (λ (l : List Token). l ++ leaves x) u.2)
              ((second j.0).begins t j.1)
        ];
      }
  at-expr r lo (Either a b) f k =
      let f1 = and_parts (has_samples g a) (has_samples g b) f in
      let k1 = and_parts (ranked g.rows r a) (ranked g.rows r b) k in
      let p = at-expr r lo a f1.0 k1.0 in
      let q = at-expr r lo b f1.1 k1.1 in
      record {
        empty = λ n. elim (or_cases (nullable g.rows a) (nullable g.rows b) n) [
          | inl i ↦ let u = p.empty i in (First u.0, fits_first u.1, u.2)
          | inr i ↦ let u = q.empty i in (Second u.0, fits_second u.1, u.2)
        ];
        begins = λ t h. elim (in-parts (first g.rows a) (first g.rows b) t h) [
          | inl i ↦ begins-around (lax g) a (Either a b) (t ∷ []) First [] (λ x w. fits_first w) (λ x. sym (append-nil (leaves x))) (p.begins t i)
          | inr i ↦ begins-around (lax g) b (Either a b) (t ∷ []) Second [] (λ x w. fits_second w) (λ x. sym (append-nil (leaves x))) (q.begins t i)
        ];
      }
  at-expr r lo (Many a) f k =
      let p = at-expr r lo a f k in
      record {
        empty = λ n. (Stop, fits_stop, refl);
        begins = λ t h. begins-around (lax g) a (Many a) (t ∷ []) (λ x. More x Stop) [] (λ x w. fits_more w fits_stop) (λ x. refl) (p.begins t h);
      }
  at-expr r lo (Sym i) f k = lo i (ltb-true _ _ k)

  at-rank : (r : ℕ) → Lower r
  at-rank zero k lt = absurd (omega arith)
  at-rank (suc r) k lt =
      let i = IsRow-each g.rows ok k in
      let w = tight-at g.rows g.rows k tight in
      let p = at-expr r (at-rank r) (row g k).rule (samples-at g g.rows k full) (ranked-more g.rows (row g k).rank r (row g k).rule (omega arith) i.ranked) in
      record {
        empty = λ n. let u = p.empty (w.nullable n) in (Node k u.0, fits_node u.1 refl, u.2);
        begins = λ t h. begins-around (lax g) (row g k).rule (Sym k) (t ∷ []) (Node k) [] (λ x v. fits_node v refl) (λ x. sym (append-nil (leaves x)))
            (p.begins t (all_within-sound (row g k).first (first g.rows (row g k).rule) t w.first h));
      }

  pub real : (e : Expr) → has_samples g e ≡ true → Real g e
  real e f = at-expr (highest g.rows) (at-rank (highest g.rows)) e f (ranked-highest g.rows e)
