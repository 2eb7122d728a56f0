-- Trees of a grammar whose rules close the brackets that they open.
use Rattle.std.proofs.Common.{◌≡◌, ◌≤◌, ℕ, zero, suc, ◌+◌, ◌-◌, Bool, true, ◌&&◌, ◌==◌, List, [], ◌∷◌, refl, sym, ap, ◌∙◌, subst, arith, eqb-true}
use Rattle.std.proofs.lemmas.Bool.{and_parts}
use Rattle.graphql_core.proofs.rules.{below_is, row_same, rule_alike, rule_below}
use Rattle.std.specs.List.{AllByRecursion}
use Rattle.graphql_core.specs.{Token, Class, matches, Expr, Empty, One, Then, Either, Many, Sym, ParseTree, Nothing, Leaf, Both, First, Second, Stop, More}
use Rattle.graphql_core.specs.{Node, Row, Grammar, row_at, row, accepts, Fits, fits_nothing, fits_leaf, fits_both, fits_first, fits_second, fits_stop}
use Rattle.graphql_core.specs.{fits_more, fits_node, is_below, TestsAlike, Extends, IsLexeme}
use Rattle.graphql_core.specs.declared.tokenizer.piece.Nesting.{Nesting}
use Rattle.graphql_core.specs.declared.tokenizer.piece.Nesting.TheVariants.{Unchanged, Opens, Closes}
use Rattle.graphql_core.proofs.values.NestingDepth.{Past, NestsTree, class_nesting, has_nesting, past_class}

-- ---- brackets of an expression

abbrev opened : Nesting → ℕ
opened Opens = 1
opened _ = 0

abbrev closed : Nesting → ℕ
closed Closes = 1
closed _ = 0

-- how many brackets the expression's own tokens open; a choice, a repetition and a symbol must close theirs
abbrev pub openers : Expr → ℕ
openers (One c) = opened (class_nesting c)
openers (Then a b) = openers a + openers b
openers _ = 0

abbrev pub closers : Expr → ℕ
closers (One c) = closed (class_nesting c)
closers (Then a b) = closers a + closers b
closers _ = 0

-- how many brackets can be opened after a token, if n can be opened before it
abbrev pub capacity_past : Nesting → ℕ → ℕ
capacity_past Unchanged n = n
capacity_past Opens n = n - 1
capacity_past Closes n = n + 1

-- the same after an expression
abbrev pub capacity_after : Expr → ℕ → ℕ
capacity_after (One c) n = capacity_past (class_nesting c) n
capacity_after (Then a b) n = capacity_after b (capacity_after a n)
capacity_after _ n = n

abbrev as_many : Expr → Bool
as_many e = openers e == closers e

-- its choices and repetitions close what they open
abbrev pub is_even : Expr → Bool
is_even (One c) = has_nesting c
is_even (Then a b) = is_even a && is_even b
is_even (Either a b) = (is_even a && as_many a) && (is_even b && as_many b)
is_even (Many a) = is_even a && as_many a
is_even _ = true

-- each rule closes what it opens
abbrev pub are_balanced : List Row → Bool
are_balanced [] = true
are_balanced (r ∷ rs) = (is_even r.rule && as_many r.rule) && are_balanced rs

balanced_at : (rs : List Row) (k : ℕ) → are_balanced rs ≡ true → (is_even (row_at rs k).rule && as_many (row_at rs k).rule) ≡ true
balanced_at [] k h = refl
balanced_at (r ∷ rs) zero h = (and_parts (is_even r.rule && as_many r.rule) (are_balanced rs) h).0
balanced_at (r ∷ rs) (suc k) h = balanced_at rs k (and_parts (is_even r.rule && as_many r.rule) (are_balanced rs) h).1

-- ---- trees within the limit of open brackets

-- A tree of the expression, of tokens of the lexical grammar, if n brackets can be opened before it.
pub data HasCapacity (g : Grammar) : ℕ → Expr → ParseTree → Type 0 where
  capacity_nothing : {n : ℕ} → HasCapacity g n Empty Nothing
  capacity_leaf : {n : ℕ} {c : Class} {t : Token} → accepts g c t ≡ true → IsLexeme t → openers (One c) ≤ n → HasCapacity g n (One c) (Leaf t)
  capacity_both : {n : ℕ} {a b : Expr} {x y : ParseTree} → HasCapacity g n a x → HasCapacity g (capacity_after a n) b y → HasCapacity g n (Then a b) (Both x y)
  capacity_first : {n : ℕ} {a b : Expr} {x : ParseTree} → HasCapacity g n a x → HasCapacity g n (Either a b) (First x)
  capacity_second : {n : ℕ} {a b : Expr} {y : ParseTree} → HasCapacity g n b y → HasCapacity g n (Either a b) (Second y)
  capacity_stop : {n : ℕ} {a : Expr} → HasCapacity g n (Many a) Stop
  capacity_more : {n : ℕ} {a : Expr} {x y : ParseTree} → HasCapacity g n a x → HasCapacity g n (Many a) y → HasCapacity g n (Many a) (More x y)
  capacity_node : {n k : ℕ} {x : ParseTree} → HasCapacity g n (row g k).rule x → g.check k x ≡ true → HasCapacity g n (Sym k) (Node k x)

-- `capacity_after` is n and the brackets that the expression closes, less those that it opens
abbrev IsCapacityAfter : Expr → ℕ → Type 0
IsCapacityAfter e n = capacity_after e n + openers e ≡ n + closers e

after_leaf : (s : Nesting) (n : ℕ) (P : ℕ → Type 0) → Past s n P → (opened s ≤ n) × (capacity_past s n + opened s ≡ n + closed s) × P (capacity_past s n)
after_leaf Unchanged n P h = (omega arith, refl, h)
after_leaf Opens n P (m, is, h) = (omega arith, omega arith, subst P (omega arith) h)
after_leaf Closes n P h = (omega arith, omega arith, subst P (omega arith) h)

-- after an expression that closes all that it opens, as many brackets can be opened as before it
back_to : (e : Expr) (n : ℕ) → as_many e ≡ true → IsCapacityAfter e n → capacity_after e n ≡ n
back_to e n h is = let same = eqb-true _ _ h in omega arith

module _ (g : Grammar) (b : are_balanced g.rows ≡ true) where
  capacities : {e : Expr} {x : ParseTree} → Fits g e x → is_even e ≡ true → (n : ℕ) (P : ℕ → Type 0) → NestsTree x n P → HasCapacity g n e x × IsCapacityAfter e n
      × P (capacity_after e n)
  capacities fits_nothing h n P p = (capacity_nothing, refl, p)
  capacities (fits_leaf {c} {t} a) h n P (l, p) =
      let (most, is, q) = after_leaf (class_nesting c) n P (past_class c t n P h (and_parts (matches c t) (g.good c t) a).0 p) in
      (capacity_leaf a l most, is, q)
  capacities (fits_both {a = a} {b = c} {x = x} {y = y} f k) h n P p =
      let (even, also) = and_parts (is_even a) (is_even c) h in
      let (r, is, q) = capacities f even n (λ m. NestsTree y m P) p in
      let (s, are, z) = capacities k also (capacity_after a n) P q in
      (capacity_both r s, omega arith, z)
  capacities (fits_first {a = a} {b = c} f) h n P p =
      let (even, same) = and_parts (is_even a) (as_many a) (and_parts (is_even a && as_many a) (is_even c && as_many c) h).0 in
      let (r, is, q) = capacities f even n P p in
      (capacity_first r, refl, subst P (back_to a n same is) q)
  capacities (fits_second {a = a} {b = c} f) h n P p =
      let (even, same) = and_parts (is_even c) (as_many c) (and_parts (is_even a && as_many a) (is_even c && as_many c) h).1 in
      let (r, is, q) = capacities f even n P p in
      (capacity_second r, refl, subst P (back_to c n same is) q)
  capacities fits_stop h n P p = (capacity_stop, refl, p)
  capacities (fits_more {a = a} {x = x} {y = y} f k) h n P p =
      let (even, same) = and_parts (is_even a) (as_many a) h in
      let (r, is, q) = capacities f even n (λ m. NestsTree y m P) p in
      let (s, are, z) = capacities k h n P (subst (λ m. NestsTree y m P) (back_to a n same is) q) in
      (capacity_more r s, refl, z)
  capacities (fits_node {k} {x = x} f c) h n P p =
      let (even, same) = and_parts (is_even (row g k).rule) (as_many (row g k).rule) (balanced_at g.rows k b) in
      let (r, is, q) = capacities f even n P p in
      (capacity_node r c, refl, subst P (back_to (row g k).rule n same is) q)

  -- if n brackets can be opened before a tree, all its parts are within the limit
  pub has_capacity : {k : ℕ} {x : ParseTree} → Fits g (Sym k) x → (n : ℕ) (P : ℕ → Type 0) → NestsTree x n P → HasCapacity g n (Sym k) x
  has_capacity f n P p = (capacities f refl n P p).0

  -- what holds after a tree holds if as many brackets can be opened as before it
  pub past_tree : {k : ℕ} {x : ParseTree} → Fits g (Sym k) x → (n : ℕ) (P : ℕ → Type 0) → NestsTree x n P → P n
  past_tree f n P p = (capacities f refl n P p).2

-- ---- a grammar that extends another

module _ (n : ℕ) (g h : Grammar) (x : Extends n g h) where
  -- a tree of its first symbols is one of the other grammar
  pub capacity_back : {m : ℕ} {e : Expr} {s : ParseTree} → HasCapacity h m e s → is_below n e ≡ true → TestsAlike g h e → HasCapacity g m e s
  capacity_back capacity_nothing b w = capacity_nothing
  capacity_back (capacity_leaf {c = c} {t = t} a l d) b w = capacity_leaf (sym (ap (λ (v : Bool). matches c t && v) (w t)) ∙ a) l d
  capacity_back (capacity_both {a = p} {b = q} f k) b w = let s = and_parts (is_below n p) (is_below n q) b in capacity_both (capacity_back f s.0 w.0) (capacity_back k s.1 w.1)
  capacity_back (capacity_first {a = p} {b = q} f) b w = let s = and_parts (is_below n p) (is_below n q) b in capacity_first (capacity_back f s.0 w.0)
  capacity_back (capacity_second {a = p} {b = q} f) b w = let s = and_parts (is_below n p) (is_below n q) b in capacity_second (capacity_back f s.1 w.1)
  capacity_back capacity_stop b w = capacity_stop
  capacity_back (capacity_more f k) b w = capacity_more (capacity_back f b w) (capacity_back k b w)
  capacity_back (capacity_node {n = m} {k = k} {x = s} f c) b w =
      let e = row_same n g h x k b in
      let below = subst (λ (r : Row). is_below n r.rule ≡ true) (sym e) (rule_below n g h x k b) in
      let alike = subst (λ (r : Row). TestsAlike g h r.rule) (sym e) (rule_alike n g h x k b) in
      capacity_node (subst (λ (r : Row). HasCapacity g m r.rule s) e (capacity_back f below alike)) (sym (x.check k s (below_is k n b)) ∙ c)

-- ---- repetitions

-- what holds of what each turn denotes holds of the whole list
pub all_turns : {A : Type 0} {g : Grammar} {n : ℕ} {e : Expr} (Q : A → Type 0) (of : ParseTree → A) (all : ParseTree → List A) → all Stop ≡ []
    → ((x y : ParseTree) → all (More x y) ≡ of x ∷ all y)
    → ((x : ParseTree) → HasCapacity g n e x → Q (of x)) → {x : ParseTree} → HasCapacity g n (Many e) x → AllByRecursion Q (all x)
all_turns Q of all none more one capacity_stop = subst (AllByRecursion Q) (sym none) tt
all_turns Q of all none more one (capacity_more {x = x} {y = y} f k) = subst (AllByRecursion Q) (sym (more x y)) (one x f, all_turns Q of all none more one k)
