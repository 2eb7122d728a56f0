-- What is derived is read, if the next item cannot continue it.
use Rattle.std.proofs.Common.{◌≡◌, ℕ, zero, suc, Bool, true, false, not, ◌&&◌, ◌||◌, List, [], ◌∷◌, ◌++◌, Option, Some, refl, sym, ap, subst, append_assoc}
use Rattle.std.proofs.Common.{inl, inr}
use Rattle.std.proofs.lemmas.Bool.{and_parts, and_from, or_left, or_right, cases_Bool, not-true, both_ways}
use Rattle.graphql_core.specs.{Token, Class, matches, in_any, all_apart, all_within, Expr, Then, Either, Many, ParseTree, Both, More, Row, Grammar, no_row}
use Rattle.graphql_core.specs.{row_at, row, leaves, peek, Fits, fits_nothing, fits_leaf, fits_both, fits_first, fits_second, fits_stop, fits_more, fits_node}
use Rattle.graphql_core.specs.{only_if, nullable, first, cont, decides, ranked, is_row, are_rows, is_ll1, sees, choose, Left, Right, Takes, takes_nothing}
use Rattle.graphql_core.specs.{takes_leaf, takes_both, takes_first, takes_second, takes_stop, takes_more, takes_node}
use Rattle.graphql_core.proofs.grammar.Classes.{all_within-sound, in_any-left, in_any-right}
use Rattle.graphql_core.proofs.grammar.Items.{peek-append, append-empty, sees-parts, sees-only, sees-within, sees-apart}

-- what the test states about one row
pub record IsRow (rs : List Row) (r : Row) : Type 0 where
  pub decides : decides rs r.rule ≡ true
  pub nullable : nullable rs r.rule ≡ true → r.nullable ≡ true
  pub first : all_within (first rs r.rule) r.first ≡ true
  pub cont : all_within (cont rs r.rule) r.cont ≡ true
  pub ranked : ranked rs r.rank r.rule ≡ true

pub implied : (b c : Bool) → (not b || c) ≡ true → b ≡ true → c ≡ true
implied true c h k = h
implied false c h k = absurd cc

IsRow-from_test : (rs : List Row) (r : Row) → is_row rs r ≡ true → IsRow rs r
IsRow-from_test rs r h =
    let n = not (nullable rs r.rule) || r.nullable in
    let f = all_within (first rs r.rule) r.first in
    let c = all_within (cont rs r.rule) r.cont in
    let k = ranked rs r.rank r.rule in
    let p = and_parts (decides rs r.rule && n) ((f && c) && k) h in
    let d = and_parts (decides rs r.rule) n p.0 in
    let q = and_parts (f && c) k p.1 in
    let e = and_parts f c q.0 in
    record { decides = d.0; nullable = implied (nullable rs r.rule) r.nullable d.1; first = e.0; cont = e.1; ranked = q.1 }

IsRow-no_row : (rs : List Row) → IsRow rs no_row
IsRow-no_row rs = record { decides = refl; nullable = λ h. refl; first = refl; cont = refl; ranked = refl }

IsRow-at : (rs more : List Row) (k : ℕ) → are_rows rs more ≡ true → IsRow rs (row_at more k)
IsRow-at rs [] k h = IsRow-no_row rs
IsRow-at rs (r ∷ more) zero h = IsRow-from_test rs r (and_parts (is_row rs r) (are_rows rs more) h).0
IsRow-at rs (r ∷ more) (suc k) h = IsRow-at rs more k (and_parts (is_row rs r) (are_rows rs more) h).1

pub IsRow-each : (rs : List Row) → is_ll1 rs ≡ true → (k : ℕ) → IsRow rs (row_at rs k)
IsRow-each rs h k = IsRow-at rs rs k h

-- the tables are correct

pub fits-nullable : (g : Grammar) → is_ll1 g.rows ≡ true → {e : Expr} {x : ParseTree} → Fits g e x → leaves x ≡ [] → nullable g.rows e ≡ true
fits-nullable g ok fits_nothing h = refl
fits-nullable g ok (fits_leaf k) h = absurd cc
fits-nullable g ok (fits_both {a = a} {b = b} {x = x} {y = y} p q) h =
    let s = append-empty (leaves x) (leaves y) h in
    and_from (nullable g.rows a) (nullable g.rows b) (fits-nullable g ok p s.0) (fits-nullable g ok q s.1)
fits-nullable g ok (fits_first {a = a} {b = b} p) h = or_left (nullable g.rows a) (nullable g.rows b) (fits-nullable g ok p h)
fits-nullable g ok (fits_second {a = a} {b = b} p) h = or_right (nullable g.rows a) (nullable g.rows b) (fits-nullable g ok p h)
fits-nullable g ok fits_stop h = refl
fits-nullable g ok (fits_more p q) h = refl
fits-nullable g ok (fits_node {k = k} p c) h = (IsRow-each g.rows ok k).nullable (fits-nullable g ok p h)

pub some_is : (t u : Token) → Some t ≡ Some u → t ≡ u
some_is t u h = cc

in_only : (b : Bool) (cs : List Class) (t : Token) → b ≡ true → in_any cs t ≡ true → in_any (only_if b cs) t ≡ true
in_only true cs t k h = h
in_only false cs t k h = absurd cc

pub fits-first : (g : Grammar) → is_ll1 g.rows ≡ true → {e : Expr} {x : ParseTree} → Fits g e x → (t : Token) → peek (leaves x) ≡ Some t
    → in_any (first g.rows e) t ≡ true
fits-first g ok fits_nothing t h = absurd cc
fits-first g ok (fits_leaf {c = c} {t = u} k) t h = or_left (matches c t) false
    (subst (λ (o : Token). matches c o ≡ true) (some_is u t h) (and_parts (matches c u) (g.good c u) k).0)
fits-first g ok (fits_both {a = a} {b = b} {x = x} {y = y} p q) t h =
    elim (peek-append (leaves x) (leaves y) t h) [
      | inl i ↦ in_any-left (first g.rows a) (only_if (nullable g.rows a) (first g.rows b)) t (fits-first g ok p t i)
      | inr i ↦ in_any-right (first g.rows a) (only_if (nullable g.rows a) (first g.rows b)) t
          (in_only (nullable g.rows a) (first g.rows b) t (fits-nullable g ok p i.0) (fits-first g ok q t i.1))
    ]
fits-first g ok (fits_first {a = a} {b = b} p) t h = in_any-left (first g.rows a) (first g.rows b) t (fits-first g ok p t h)
fits-first g ok (fits_second {a = a} {b = b} p) t h = in_any-right (first g.rows a) (first g.rows b) t (fits-first g ok p t h)
fits-first g ok fits_stop t h = absurd cc
fits-first g ok (fits_more {a = a} {x = x} {y = y} p q) t h =
    elim (peek-append (leaves x) (leaves y) t h) [
      | inl i ↦ fits-first g ok p t i
      | inr i ↦ fits-first g ok q t i.1
    ]
fits-first g ok (fits_node {k = k} p c) t h = all_within-sound _ _ t (IsRow-each g.rows ok k).first (fits-first g ok p t h)

-- The first token of a tree is in none of the classes that are disjoint from the tree's first set.
pub apart-front : (g : Grammar) → is_ll1 g.rows ≡ true → (cs : List Class) (e : Expr) (x : ParseTree) (rest : List Token) → Fits g e x
    → all_apart cs (first g.rows e) ≡ true
    → (nullable g.rows e ≡ true → sees cs (peek rest) ≡ false) → sees cs (peek (leaves x ++ rest)) ≡ false
apart-front g ok cs e x rest p a n = go (leaves x) refl
  where
    go : (ts : List Token) → leaves x ≡ ts → sees cs (peek (ts ++ rest)) ≡ false
    go [] h = n (fits-nullable g ok p h)
    go (t ∷ ts) h = sees-apart cs (first g.rows e) (Some t) a (fits-first g ok p t (ap peek h))

chosen_second : (g : Grammar) (a b : Expr) (item : Option Token) → sees (first g.rows a) item ≡ false → sees (first g.rows b) item ≡ true
    → choose g.rows a b item ≡ Right
chosen_second g a b item f s = rw (f, s) refl

empty_first : (g : Grammar) (a b : Expr) (item : Option Token) → sees (first g.rows b) item ≡ false → nullable g.rows a ≡ true → choose g.rows a b item ≡ Left
empty_first g a b item s n =
    elim (cases_Bool (sees (first g.rows a) item)) [
      | inl f ↦ rw f refl
      | inr f ↦ rw (f, s, n) refl
    ]

empty_second : (g : Grammar) (a b : Expr) (item : Option Token) → sees (first g.rows a) item ≡ false → nullable g.rows a ≡ false → nullable g.rows b ≡ true
    → choose g.rows a b item ≡ Right
empty_second g a b item f n m =
    elim (cases_Bool (sees (first g.rows b) item)) [
      | inl s ↦ rw (f, s) refl
      | inr s ↦ rw (f, s, n, m) refl
    ]

pub chooses-left : (g : Grammar) → is_ll1 g.rows ≡ true → (a b : Expr) (x : ParseTree) (rest : List Token) → Fits g a x
    → (nullable g.rows a ≡ true → sees (first g.rows b) (peek rest) ≡ false) → choose g.rows a b (peek (leaves x ++ rest)) ≡ Left
chooses-left g ok a b x rest p n = go (leaves x) refl
  where
    go : (ts : List Token) → leaves x ≡ ts → choose g.rows a b (peek (ts ++ rest)) ≡ Left
    go [] h = let m = fits-nullable g ok p h in empty_first g a b (peek rest) (n m) m
    go (t ∷ ts) h = rw (fits-first g ok p t (ap peek h)) refl

pub chooses-right : (g : Grammar) → is_ll1 g.rows ≡ true → (a b : Expr) (y : ParseTree) (rest : List Token) → Fits g b y
    → all_apart (first g.rows a) (first g.rows b) ≡ true
    → (nullable g.rows b ≡ true → (nullable g.rows a ≡ false) × (sees (first g.rows a) (peek rest) ≡ false))
    → choose g.rows a b (peek (leaves y ++ rest)) ≡ Right
chooses-right g ok a b y rest p d n = go (leaves y) refl
  where
    go : (ts : List Token) → leaves y ≡ ts → choose g.rows a b (peek (ts ++ rest)) ≡ Right
    go [] h = let m = fits-nullable g ok p h in empty_second g a b (peek rest) (n m).1 (n m).0 m
    go (t ∷ ts) h = let f = fits-first g ok p t (ap peek h) in chosen_second g a b (Some t) (sees-apart (first g.rows a) (first g.rows b) (Some t) d f) f

not_and : (b c : Bool) → not (b && c) ≡ true → c ≡ true → b ≡ false
not_and true c h k = absurd (both_ways (not c) (rw k refl) h)
not_and false c h k = refl

starts : (g : Grammar) → is_ll1 g.rows ≡ true → (a : Expr) (x : ParseTree) (rest : List Token) → Fits g a x → not (nullable g.rows a) ≡ true
    → sees (first g.rows a) (peek (leaves x ++ rest)) ≡ true
starts g ok a x rest p n = go (leaves x) refl
  where
    go : (ts : List Token) → leaves x ≡ ts → sees (first g.rows a) (peek (ts ++ rest)) ≡ true
    go [] h = absurd (both_ways (nullable g.rows a) (not-true (nullable g.rows a) n) (fits-nullable g ok p h))
    go (t ∷ ts) h = fits-first g ok p t (ap peek h)

-- what the test states about the parts of an expression
pub both : (g : Grammar) (a b : Expr) → decides g.rows (Then a b) ≡ true
    → (decides g.rows a ≡ true) × (decides g.rows b ≡ true) × (all_apart (cont g.rows a) (first g.rows b) ≡ true)
both g a b d = let p = and_parts (decides g.rows a && decides g.rows b) _ d in let q = and_parts (decides g.rows a) (decides g.rows b) p.0 in (q.0, q.1, p.1)

pub either : (g : Grammar) (a b : Expr) → decides g.rows (Either a b) ≡ true
    → (decides g.rows a ≡ true) × (decides g.rows b ≡ true) × (all_apart (first g.rows a) (first g.rows b) ≡ true)
    × (not (nullable g.rows a && nullable g.rows b) ≡ true)
either g a b d =
    let p = and_parts ((decides g.rows a && decides g.rows b) && all_apart (first g.rows a) (first g.rows b)) _ d in
    let r = and_parts (decides g.rows a && decides g.rows b) (all_apart (first g.rows a) (first g.rows b)) p.0 in
    let q = and_parts (decides g.rows a) (decides g.rows b) r.0 in
    (q.0, q.1, r.1, p.1)

pub many : (g : Grammar) (a : Expr) → decides g.rows (Many a) ≡ true
    → (decides g.rows a ≡ true) × (not (nullable g.rows a) ≡ true) × (all_apart (cont g.rows a) (first g.rows a) ≡ true)
many g a d =
    let p = and_parts (decides g.rows a && not (nullable g.rows a)) _ d in
    let q = and_parts (decides g.rows a) (not (nullable g.rows a)) p.0 in
    (q.0, q.1, p.1)

-- an item that cannot continue a choice
after_either : (g : Grammar) (a b : Expr) (item : Option Token) → sees (cont g.rows (Either a b)) item ≡ false
    → (sees (cont g.rows a) item ≡ false) × (sees (cont g.rows b) item ≡ false)
    × (nullable g.rows a ≡ true → sees (first g.rows b) item ≡ false) × (nullable g.rows b ≡ true → sees (first g.rows a) item ≡ false)
after_either g a b item n =
    let p = sees-parts (cont g.rows a ++ cont g.rows b) (only_if (nullable g.rows a) (first g.rows b) ++ only_if (nullable g.rows b) (first g.rows a)) item n in
    let q = sees-parts (cont g.rows a) (cont g.rows b) item p.0 in
    let r = sees-parts (only_if (nullable g.rows a) (first g.rows b)) (only_if (nullable g.rows b) (first g.rows a)) item p.1 in
    (q.0, q.1, λ z. sees-only (nullable g.rows a) (first g.rows b) item z r.0, λ z. sees-only (nullable g.rows b) (first g.rows a) item z r.1)

pub complete : (g : Grammar) → is_ll1 g.rows ≡ true → {e : Expr} {x : ParseTree} → Fits g e x → decides g.rows e ≡ true → (rest : List Token)
    → sees (cont g.rows e) (peek rest) ≡ false → Takes g e (leaves x ++ rest) x rest
complete g ok fits_nothing d rest n = takes_nothing
complete g ok (fits_leaf h) d rest n = takes_leaf h
complete g ok (fits_both {a = a} {b = b} {x = x} {y = y} p q) d rest n =
    let i = both g a b d in
    let n0 = sees-parts (cont g.rows b) (only_if (nullable g.rows b) (first g.rows b ++ cont g.rows a)) (peek rest) n in
    let gone : sees (cont g.rows a) (peek (leaves y ++ rest)) ≡ false =
    apart-front g ok (cont g.rows a) b y rest q i.2
    (λ z. (sees-parts (first g.rows b) (cont g.rows a) (peek rest)
    (sees-only (nullable g.rows b) (first g.rows b ++ cont g.rows a) (peek rest) z n0.1)).1) in
    subst (λ (l : List Token). Takes g (Then a b) l (Both x y) rest) (sym (append_assoc (leaves x) (leaves y) rest))
    (takes_both (complete g ok p i.0 (leaves y ++ rest) gone) (complete g ok q i.1 rest n0.0))
complete g ok (fits_first {a = a} {b = b} {x = x} p) d rest n =
    let r = after_either g a b (peek rest) n in
    takes_first (chooses-left g ok a b x rest p r.2) (complete g ok p (either g a b d).0 rest r.0)
complete g ok (fits_second {a = a} {b = b} {y = y} p) d rest n =
    let i = either g a b d in
    let r = after_either g a b (peek rest) n in
    takes_second (chooses-right g ok a b y rest p i.2 (λ z. (not_and (nullable g.rows a) (nullable g.rows b) i.3 z, r.3 z))) (complete g ok p i.1 rest r.1)
complete g ok (fits_stop {a = a}) d rest n = takes_stop (sees-parts (first g.rows a) (cont g.rows a) (peek rest) n).0
complete g ok (fits_more {a = a} {x = x} {y = y} p q) d rest n =
    let i = many g a d in
    let gone : sees (cont g.rows a) (peek (leaves y ++ rest)) ≡ false =
    apart-front g ok (cont g.rows a) (Many a) y rest q i.2 (λ z. (sees-parts (first g.rows a) (cont g.rows a) (peek rest) n).1) in
    subst (λ (l : List Token). Takes g (Many a) l (More x y) rest) (sym (append_assoc (leaves x) (leaves y) rest))
    (takes_more (starts g ok a x (leaves y ++ rest) p i.1) (complete g ok p i.0 (leaves y ++ rest) gone) (complete g ok q d rest n))
complete g ok (fits_node {k = k} p c) d rest n =
    let r = IsRow-each g.rows ok k in
    takes_node (complete g ok p r.decides rest (sees-within (cont g.rows (row g k).rule) (row g k).cont (peek rest) r.cont n)) c
