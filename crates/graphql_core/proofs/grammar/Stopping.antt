-- What is derived is read, if no list extends it with the next item.
use Rattle.std.proofs.Common.{◌≡◌, true, false, not, ◌&&◌, List, [], ◌∷◌, ◌++◌, Some, refl, sym, ap, subst, ◌∙◌, append_assoc, append-nil, inl, inr}
use Rattle.std.proofs.lemmas.Bool.{and_parts, both_ways, not-true, cases_Bool, false_from_ne_true}
use Rattle.graphql_core.specs.{Token, in_any, all_apart, Expr, Then, Either, Many, Sym, ParseTree, Both, First, Second, Stop, More, Node, Grammar, row, leaves}
use Rattle.graphql_core.specs.{peek, Fits, fits_nothing, fits_leaf, fits_both, fits_first, fits_second, fits_stop, fits_more, fits_node, Begins, nullable}
use Rattle.graphql_core.specs.{first, cont, decides, is_ll1, is_tight, has_samples, is_productive, sees, choose, Left, Right, Takes, takes_nothing, takes_leaf}
use Rattle.graphql_core.specs.{takes_both, takes_first, takes_second, takes_stop, takes_more, takes_node, lax, StopsBefore}
use Rattle.graphql_core.proofs.grammar.Items.{sees-apart}
use Rattle.graphql_core.proofs.grammar.Complete.{IsRow-each, fits-nullable, fits-first, complete, both, either, many}
use Rattle.graphql_core.proofs.grammar.FirstFault.{samples-at, begins-around, begins-after, fits-lax}
use Rattle.graphql_core.proofs.grammar.Leading.{goes-left, goes-right}
use Rattle.graphql_core.proofs.grammar.Tight.{real}

module _ (g : Grammar) (ok : is_ll1 g.rows ≡ true) (full : is_productive g ≡ true) (tight : is_tight g.rows ≡ true) where
  -- what is read before another part that is empty or shows that the first part is complete
  join : (a b : Expr) (x y : ParseTree) (us : List Token) → decides g.rows a ≡ true → all_apart (cont g.rows a) (first g.rows b) ≡ true → Fits g a x
      → Fits g b y
      → (leaves y ≡ [] → Takes g a (leaves x ++ us) x us) → Takes g a (leaves x ++ (leaves y ++ us)) x (leaves y ++ us)
  join a b x y us d w p q alone = go (leaves y) refl
    where
      go : (ys : List Token) → leaves y ≡ ys → Takes g a (leaves x ++ (ys ++ us)) x (ys ++ us)
      go [] i = alone i
      go (t ∷ ys) i = complete g ok p d (t ∷ (ys ++ us)) (sees-apart (cont g.rows a) (first g.rows b) (Some t) w (fits-first g ok q t (ap peek i)))

  not-both : (a b : Expr) → decides g.rows (Either a b) ≡ true → nullable g.rows a ≡ true → nullable g.rows b ≡ true → ⊥
  not-both a b d h k =
      both_ways (nullable g.rows a && nullable g.rows b) (not-true (nullable g.rows a && nullable g.rows b) (either g a b d).3) (rw (h, k) refl)

  begins-left : (a b : Expr) (ts : List Token) → Begins (lax g) a ts → Begins (lax g) (Either a b) ts
  begins-left a b ts h = begins-around (lax g) a (Either a b) ts First [] (λ x w. fits_first w) (λ x. sym (append-nil (leaves x))) h

  begins-right : (a b : Expr) (ts : List Token) → Begins (lax g) b ts → Begins (lax g) (Either a b) ts
  begins-right a b ts h = begins-around (lax g) b (Either a b) ts Second [] (λ x w. fits_second w) (λ x. sym (append-nil (leaves x))) h

  picks-left : (a b : Expr) (x : ParseTree) (us : List Token) → decides g.rows (Either a b) ≡ true → has_samples g b ≡ true → Fits g a x
      → StopsBefore (lax g) (Either a b) (leaves x) us
      → choose g.rows a b (peek (leaves x ++ us)) ≡ Left
  picks-left a b x us d f p n = go (leaves x) refl n
    where
      none : (vs : List Token) → leaves x ≡ [] → StopsBefore (lax g) (Either a b) [] vs → choose g.rows a b (peek vs) ≡ Left
      none [] i n = rw (fits-nullable g ok p i) refl
      none (u ∷ vs) i n =
          elim (cases_Bool (in_any (first g.rows a) u)) [
            | inl h ↦ goes-left g ok a b (Some u) h
            | inr h ↦ elim (cases_Bool (in_any (first g.rows b) u)) [
              | inl k ↦ absurd (n u vs refl (begins-right a b (u ∷ []) ((real g ok full tight b f).begins u k)))
              | inr k ↦ rw (h, k, fits-nullable g ok p i) refl
            ]
          ]

      go : (xs : List Token) → leaves x ≡ xs → StopsBefore (lax g) (Either a b) xs us → choose g.rows a b (peek (xs ++ us)) ≡ Left
      go [] i n = none us i n
      go (t ∷ xs) i n = goes-left g ok a b (Some t) (fits-first g ok p t (ap peek i))

  picks-right : (a b : Expr) (y : ParseTree) (us : List Token) → decides g.rows (Either a b) ≡ true → has_samples g a ≡ true → Fits g b y
      → StopsBefore (lax g) (Either a b) (leaves y) us
      → choose g.rows a b (peek (leaves y ++ us)) ≡ Right
  picks-right a b y us d f p n = go (leaves y) refl n
    where
      not-a : leaves y ≡ [] → nullable g.rows a ≡ false
      not-a i = false_from_ne_true (nullable g.rows a) (λ k. not-both a b d k (fits-nullable g ok p i))

      none : (vs : List Token) → leaves y ≡ [] → StopsBefore (lax g) (Either a b) [] vs → choose g.rows a b (peek vs) ≡ Right
      none [] i n = rw (not-a i, fits-nullable g ok p i) refl
      none (u ∷ vs) i n =
          elim (cases_Bool (in_any (first g.rows a) u)) [
            | inl h ↦ absurd (n u vs refl (begins-left a b (u ∷ []) ((real g ok full tight a f).begins u h)))
            | inr h ↦ elim (cases_Bool (in_any (first g.rows b) u)) [
              | inl k ↦ rw (h, k) refl
              | inr k ↦ rw (h, k, not-a i, fits-nullable g ok p i) refl
            ]
          ]

      go : (xs : List Token) → leaves y ≡ xs → StopsBefore (lax g) (Either a b) xs us → choose g.rows a b (peek (xs ++ us)) ≡ Right
      go [] i n = none us i n
      go (t ∷ xs) i n = goes-right g ok a b (Some t) (either g a b d).2 (fits-first g ok p t (ap peek i))

  no_turn : (a : Expr) (us : List Token) → has_samples g a ≡ true → StopsBefore (lax g) (Many a) [] us → sees (first g.rows a) (peek us) ≡ false
  no_turn a [] f n = refl
  no_turn a (u ∷ us) f n = false_from_ne_true (in_any (first g.rows a) u) (λ h. n u us refl
      (begins-around (lax g) a (Many a) (u ∷ []) (λ x. More x Stop) [] (λ x w. fits_more w fits_stop) (λ x. refl) ((real g ok full tight a f).begins u h)))

  has-turn : (a : Expr) (x : ParseTree) (us : List Token) → not (nullable g.rows a) ≡ true → Fits g a x → sees (first g.rows a) (peek (leaves x ++ us)) ≡ true
  has-turn a x us n p = go (leaves x) refl
    where
      go : (xs : List Token) → leaves x ≡ xs → sees (first g.rows a) (peek (xs ++ us)) ≡ true
      go [] i = absurd (both_ways (nullable g.rows a) (not-true (nullable g.rows a) n) (fits-nullable g ok p i))
      go (t ∷ xs) i = fits-first g ok p t (ap peek i)

  -- nothing comes after it
  short : (x y u : List Token) → y ≡ [] → x ++ u ≡ (x ++ y) ++ u
  short x y u i = ap (λ (l : List Token). l ++ u) (sym (ap (λ (l : List Token). x ++ l) i ∙ append-nil x))

  pub stops : {e : Expr} {x : ParseTree} → Fits g e x → decides g.rows e ≡ true → has_samples g e ≡ true → (us : List Token)
      → StopsBefore (lax g) e (leaves x) us
      → Takes g e (leaves x ++ us) x us
  stops fits_nothing d f us n = takes_nothing
  stops (fits_leaf h) d f us n = takes_leaf h
  stops (fits_both {a = a} {b = b} {x = x} {y = y} p q) d f us n =
      let i = both g a b d in
      let f1 = and_parts (has_samples g a) (has_samples g b) f in
      subst (λ (l : List Token). Takes g (Then a b) l (Both x y) us) (sym (append_assoc (leaves x) (leaves y) us))
      (takes_both
      (join a b x y us i.0 i.2 p q (λ j. stops p i.0 f1.0 us
      (λ u rest h k. n u rest h (subst (Begins (lax g) (Then a b)) (short (leaves x) (leaves y) (u ∷ []) j)
      (begins-around (lax g) a (Then a b) (leaves x ++ u ∷ []) (λ z. Both z y) (leaves y) (λ z w. fits_both w (fits-lax g q)) (λ z. refl) k)))))
      (stops q i.1 f1.1 us (λ u rest h k. n u rest h (subst (Begins (lax g) (Then a b)) (sym (append_assoc (leaves x) (leaves y) (u ∷ [])))
      (begins-after (lax g) b (Then a b) (leaves x) (leaves y ++ u ∷ []) (Both x) (λ z w. fits_both (fits-lax g p) w) (λ z. refl) k)))))
  stops (fits_first {a = a} {b = b} {x = x} p) d f us n =
      let i = either g a b d in
      let f1 = and_parts (has_samples g a) (has_samples g b) f in
      takes_first (picks-left a b x us d f1.1 p n) (stops p i.0 f1.0 us (λ u rest h k. n u rest h (begins-left a b (leaves x ++ u ∷ []) k)))
  stops (fits_second {a = a} {b = b} {y = y} p) d f us n =
      let i = either g a b d in
      let f1 = and_parts (has_samples g a) (has_samples g b) f in
      takes_second (picks-right a b y us d f1.0 p n) (stops p i.1 f1.1 us (λ u rest h k. n u rest h (begins-right a b (leaves y ++ u ∷ []) k)))
  stops (fits_stop {a = a}) d f us n = takes_stop (no_turn a us f n)
  stops (fits_more {a = a} {x = x} {y = y} p q) d f us n =
      let i = many g a d in
      subst (λ (l : List Token). Takes g (Many a) l (More x y) us) (sym (append_assoc (leaves x) (leaves y) us))
      (takes_more (has-turn a x (leaves y ++ us) i.1 p)
      (join a (Many a) x y us i.0 i.2 p q (λ j. stops p i.0 f us (λ u rest h k. n u rest h (subst (Begins (lax g) (Many a))
      (short (leaves x) (leaves y) (u ∷ []) j)
      (begins-around (lax g) a (Many a) (leaves x ++ u ∷ []) (λ z. More z Stop) [] (λ z w. fits_more w fits_stop) (λ z. refl) k)))))
      (stops q d f us (λ u rest h k. n u rest h (subst (Begins (lax g) (Many a)) (sym (append_assoc (leaves x) (leaves y) (u ∷ [])))
      (begins-after (lax g) (Many a) (Many a) (leaves x) (leaves y ++ u ∷ []) (More x) (λ z w. fits_more (fits-lax g p) w) (λ z. refl) k)))))
  stops (fits_node {k = k} {x = x} p c) d f us n =
      takes_node (stops p (IsRow-each g.rows ok k).decides (samples-at g g.rows k full) us (λ u rest h b. n u rest h
      (begins-around (lax g) (row g k).rule (Sym k) (leaves x ++ u ∷ []) (Node k) [] (λ z w. fits_node w refl) (λ z. sym (append-nil (leaves z))) b))) c
