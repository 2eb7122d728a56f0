-- Reading always ends.
use Rattle.std.proofs.Common.{◌≡◌, ℕ, zero, suc, ◌<◌, ◌≤◌, max, true, not, ◌||◌, List, [], ◌∷◌, ◌++◌, length, refl, ap, ◌∙◌, arith, length-append, inl, inr}
use Rattle.std.proofs.lemmas.Bool.{and_parts, or_cases, or_left, or_right, and_from, both_ways, not-true, lt-ltb, ltb-true, cases_Bool}
use Rattle.graphql_core.specs.{Token, Expr, Empty, One, Then, Either, Many, Sym, ParseTree, Nothing, Stop, Row, Grammar, row_at, row, leaves, peek, nullable}
use Rattle.graphql_core.specs.{first, decides, ranked, is_ll1, sees, choose, Choice, Left, Right, Neither, Takes, takes_nothing, takes_stop, Unexpected}
use Rattle.graphql_core.specs.{fails_before, fails_neither, fails_turn, Done, Fault}
use Rattle.graphql_core.proofs.grammar.Sound.{takes-fits, takes-leaves}
use Rattle.graphql_core.proofs.grammar.Complete.{IsRow-each, fits-nullable, both, either, many}
use Rattle.graphql_core.proofs.grammar.ReaderOutcomes.{ReaderOutcome, leaf_outcome, then_taken, turn_taken, first_outcome, second_outcome, node_outcome}

-- ---- ranks

pub ranked-more : (rs : List Row) (m n : ℕ) (e : Expr) → m ≤ n → ranked rs m e ≡ true → ranked rs n e ≡ true
ranked-more rs m n Empty le h = refl
ranked-more rs m n (One c) le h = refl
ranked-more rs m n (Then a b) le h =
    let p = and_parts (ranked rs m a) _ h in
    and_from (ranked rs n a) (not (nullable rs a) || ranked rs n b) (ranked-more rs m n a le p.0)
    (elim (or_cases (not (nullable rs a)) (ranked rs m b) p.1) [
      | inl i ↦ or_left (not (nullable rs a)) (ranked rs n b) i
      | inr i ↦ or_right (not (nullable rs a)) (ranked rs n b) (ranked-more rs m n b le i)
    ])
ranked-more rs m n (Either a b) le h =
    let p = and_parts (ranked rs m a) (ranked rs m b) h in
    and_from (ranked rs n a) (ranked rs n b) (ranked-more rs m n a le p.0) (ranked-more rs m n b le p.1)
ranked-more rs m n (Many a) le h = ranked-more rs m n a le h
ranked-more rs m n (Sym k) le h = let i : (row_at rs k).rank < m = ltb-true _ _ h in lt-ltb (row_at rs k).rank n (omega arith)

-- a number above each rank
pub highest : List Row → ℕ
highest [] = 1
highest (r ∷ rs) = max (suc r.rank) (highest rs)

below-highest : (rs : List Row) (k : ℕ) → (row_at rs k).rank < highest rs
unfolding highest
below-highest [] k = omega arith
below-highest (r ∷ rs) zero = omega arith
below-highest (r ∷ rs) (suc k) = omega (arith, below-highest rs k)

pub ranked-highest : (rs : List Row) (e : Expr) → ranked rs (highest rs) e ≡ true
ranked-highest rs Empty = refl
ranked-highest rs (One c) = refl
ranked-highest rs (Then a b) = and_from (ranked rs (highest rs) a) (not (nullable rs a) || ranked rs (highest rs) b) (ranked-highest rs a)
    (or_right (not (nullable rs a)) (ranked rs (highest rs) b) (ranked-highest rs b))
ranked-highest rs (Either a b) = and_from (ranked rs (highest rs) a) (ranked rs (highest rs) b) (ranked-highest rs a) (ranked-highest rs b)
ranked-highest rs (Many a) = ranked-highest rs a
ranked-highest rs (Sym k) = lt-ltb (row_at rs k).rank (highest rs) (below-highest rs k)

-- ---- one step

then_outcome : (g : Grammar) (a b : Expr) (ts : List Token) → ReaderOutcome g a ts → ((x : ParseTree) (us : List Token) → Takes g a ts x us → ReaderOutcome g b us)
    → ReaderOutcome g (Then a b) ts
then_outcome g a b ts (Done x us, q) go = then_taken g q (go x us q)
then_outcome g a b ts (Fault why us, q) go = (Fault why us, fails_before q)

turn_outcome : (g : Grammar) (a : Expr) (ts : List Token) → sees (first g.rows a) (peek ts) ≡ true → ReaderOutcome g a ts
    → ((x : ParseTree) (us : List Token) → Takes g a ts x us → ReaderOutcome g (Many a) us) → ReaderOutcome g (Many a) ts
turn_outcome g a ts h (Done x us, q) go = turn_taken g h q (go x us q)
turn_outcome g a ts h (Fault why us, q) go = (Fault why us, fails_turn h q)

either_outcome : (g : Grammar) (a b : Expr) (ts : List Token) → ReaderOutcome g a ts → ReaderOutcome g b ts → ReaderOutcome g (Either a b) ts
either_outcome g a b ts p q = go (choose g.rows a b (peek ts)) refl
  where
    go : (c : Choice) → choose g.rows a b (peek ts) ≡ c → ReaderOutcome g (Either a b) ts
    go Left h = first_outcome g h p
    go Right h = second_outcome g h q
    go Neither h = (Fault Unexpected ts, fails_neither h)

-- ---- all steps

-- if the expression is not nullable, what is taken is not empty
pub shorter : (g : Grammar) → is_ll1 g.rows ≡ true → (a : Expr) (ts us : List Token) (x : ParseTree) → not (nullable g.rows a) ≡ true → Takes g a ts x us
    → length us < length ts
shorter g ok a ts us x n p = go (leaves x) refl
  where
    go : (xs : List Token) → leaves x ≡ xs → length us < length ts
    go [] h = absurd (both_ways (nullable g.rows a) (not-true _ n) (fits-nullable g ok (takes-fits g p) h))
    go (t ∷ xs) h = let e : length ts ≡ length (t ∷ (xs ++ us)) = ap length (takes-leaves g p ∙ ap (λ (l : List Token). l ++ us) h) in omega
        (arith, e, length-append xs us)

pub no_longer : (g : Grammar) (a : Expr) (ts us : List Token) (x : ParseTree) → Takes g a ts x us → length us ≤ length ts
no_longer g a ts us x p = omega (arith, ap length (takes-leaves g p), length-append (leaves x) us)

abbrev Shorter : Grammar → ℕ → Type 0
Shorter g n = (e : Expr) → decides g.rows e ≡ true → (ts : List Token) → length ts < n → ReaderOutcome g e ts

abbrev Lower : Grammar → ℕ → ℕ → Type 0
Lower g n r = (k : ℕ) → (row g k).rank < r → (ts : List Token) → length ts ≤ n → ReaderOutcome g (Sym k) ts

at-expr : (g : Grammar) → is_ll1 g.rows ≡ true → (n r : ℕ) → Shorter g n → Lower g n r → (e : Expr) → decides g.rows e ≡ true → ranked g.rows r e ≡ true
    → (ts : List Token) → length ts ≤ n → ReaderOutcome g e ts
at-expr g ok n r sh lo Empty d k ts le = (Done Nothing ts, takes_nothing)
at-expr g ok n r sh lo (One c) d k ts le = leaf_outcome g c ts
at-expr g ok n r sh lo (Then a b) d k ts le =
    let d1 = both g a b d in
    let k1 = and_parts (ranked g.rows r a) _ k in
    then_outcome g a b ts (at-expr g ok n r sh lo a d1.0 k1.0 ts le)
    (λ x us p. elim (or_cases (not (nullable g.rows a)) (ranked g.rows r b) k1.1) [
      | inl i ↦ let lt = shorter g ok a ts us x i p in sh b d1.1 us (omega arith)
      | inr i ↦ let l = no_longer g a ts us x p in at-expr g ok n r sh lo b d1.1 i us (omega arith)
    ])
at-expr g ok n r sh lo (Either a b) d k ts le =
    let d1 = either g a b d in
    let k1 = and_parts (ranked g.rows r a) (ranked g.rows r b) k in
    either_outcome g a b ts (at-expr g ok n r sh lo a d1.0 k1.0 ts le) (at-expr g ok n r sh lo b d1.1 k1.1 ts le)
at-expr g ok n r sh lo (Many a) d k ts le =
    let d1 = many g a d in
    elim (cases_Bool (sees (first g.rows a) (peek ts))) [
      | inr h ↦ (Done Stop ts, takes_stop h)
      | inl h ↦ turn_outcome g a ts h (at-expr g ok n r sh lo a d1.0 k ts le)
          (λ x us p. let lt = shorter g ok a ts us x d1.1 p in sh (Many a) d us (omega arith))
    ]
at-expr g ok n r sh lo (Sym k) d h ts le = lo k (ltb-true _ _ h) ts le

at-rank : (g : Grammar) → is_ll1 g.rows ≡ true → (n : ℕ) → Shorter g n → (r : ℕ) → Lower g n r
at-rank g ok n sh zero k lt ts le = absurd (omega arith)
at-rank g ok n sh (suc r) k lt ts le =
    let i = IsRow-each g.rows ok k in
    node_outcome g (at-expr g ok n r sh (at-rank g ok n sh r) (row g k).rule i.decides
    (ranked-more g.rows (row g k).rank r (row g k).rule (omega arith) i.ranked) ts le)

at-length : (g : Grammar) → is_ll1 g.rows ≡ true → (n : ℕ) → Shorter g n
at-length g ok zero e d ts lt = absurd (omega arith)
at-length g ok (suc n) e d ts lt =
    let sh = at-length g ok n in
    at-expr g ok n (highest g.rows) sh (at-rank g ok n sh (highest g.rows)) e d (ranked-highest g.rows e) ts (omega arith)

pub outcome_of : (g : Grammar) → is_ll1 g.rows ≡ true → (e : Expr) → decides g.rows e ≡ true → (ts : List Token) → ReaderOutcome g e ts
outcome_of g ok e d ts = at-length g ok (suc (length ts)) e d ts (omega arith)
