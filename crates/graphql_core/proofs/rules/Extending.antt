-- What one grammar reads, a grammar that extends it reads in the same way.
use Rattle.std.proofs.Common.{◌≡◌, ◌<◌, ℕ, zero, suc, Bool, true, ◌&&◌, List, [], ◌∷◌, ◌++◌, Option, length, replicate, refl, sym, ap, ap₂, subst, ◌∙◌, arith}
use Rattle.std.proofs.lemmas.Bool.{and_parts}
use Rattle.std.proofs.lemmas.Bool.Decides.{nat_tests}
use Rattle.graphql_core.specs.{Token, Class, matches, Expr, Empty, One, Then, Either, Many, Sym, ParseTree, Both, First, Second, More, Node, Row, Grammar}
use Rattle.graphql_core.specs.{row_at, row, accepts, peek, Fits, fits_nothing, fits_leaf, fits_both, fits_first, fits_second, fits_stop, fits_more, fits_node}
use Rattle.graphql_core.specs.{nullable, first, sees, choose, Takes, takes_nothing, takes_leaf, takes_both, takes_first, takes_second, takes_stop, takes_more}
use Rattle.graphql_core.specs.{takes_node, Reason, Fails, fails_one, fails_value, fails_before, fails_after, fails_first, fails_second, fails_neither}
use Rattle.graphql_core.specs.{fails_turn, fails_later, fails_node, fails_check, is_below, TestsAlike, Extends, ReadsOn, LeavesAlone, Change, unchanged}
use Rattle.graphql_core.specs.{change_at, written}

pub below_is : (k n : ℕ) → is_below n (Sym k) ≡ true → k < n
below_is k n h = grind (arith, nat_tests)

module _ (n : ℕ) (g h : Grammar) (x : Extends n g h) where
  pub row_same : (k : ℕ) → is_below n (Sym k) ≡ true → row_at h.rows k ≡ row_at g.rows k
  row_same k b = x.rows k (below_is k n b)

  nullable-same : (e : Expr) → is_below n e ≡ true → nullable h.rows e ≡ nullable g.rows e
  nullable-same Empty b = refl
  nullable-same (One c) b = refl
  nullable-same (Then p q) b = let s = and_parts (is_below n p) (is_below n q) b in rw (nullable-same p s.0, nullable-same q s.1) refl
  nullable-same (Either p q) b = let s = and_parts (is_below n p) (is_below n q) b in rw (nullable-same p s.0, nullable-same q s.1) refl
  nullable-same (Many p) b = refl
  nullable-same (Sym k) b = ap (λ (r : Row). r.nullable) (row_same k b)

  first-same : (e : Expr) → is_below n e ≡ true → first h.rows e ≡ first g.rows e
  first-same Empty b = refl
  first-same (One c) b = refl
  first-same (Then p q) b = let s = and_parts (is_below n p) (is_below n q) b in rw (first-same p s.0, first-same q s.1, nullable-same p s.0) refl
  first-same (Either p q) b = let s = and_parts (is_below n p) (is_below n q) b in rw (first-same p s.0, first-same q s.1) refl
  first-same (Many p) b = first-same p b
  first-same (Sym k) b = ap (λ (r : Row). r.first) (row_same k b)

  choose-same : (p q : Expr) (item : Option Token) → is_below n p ≡ true → is_below n q ≡ true → choose h.rows p q item ≡ choose g.rows p q item
  choose-same p q item b c = rw (first-same p b, first-same q c, nullable-same p b, nullable-same q c) refl

  sees-same : (e : Expr) (item : Option Token) (v : Bool) → is_below n e ≡ true → sees (first g.rows e) item ≡ v → sees (first h.rows e) item ≡ v
  sees-same e item v b s = ap (λ cs. sees cs item) (first-same e b) ∙ s

  accepts-same : (c : Class) (t : Token) → TestsAlike g h (One c) → accepts g c t ≡ true → accepts h c t ≡ true
  accepts-same c t w a = ap (λ v. matches c t && v) (w t) ∙ a

  pub rule_alike : (k : ℕ) → is_below n (Sym k) ≡ true → TestsAlike g h (row g k).rule
  rule_alike k b = x.good k (below_is k n b)

  pub rule_below : (k : ℕ) → is_below n (Sym k) ≡ true → is_below n (row g k).rule ≡ true
  rule_below k b = x.closed k (below_is k n b)

  fits-on : {e : Expr} {s : ParseTree} → Fits g e s → is_below n e ≡ true → TestsAlike g h e → Fits h e s
  fits-on fits_nothing b w = fits_nothing
  fits-on (fits_leaf {c} {t} a) b w = fits_leaf (accepts-same c t w a)
  fits-on (fits_both {a = p} {b = q} f k) b w = let s = and_parts (is_below n p) (is_below n q) b in fits_both (fits-on f s.0 w.0) (fits-on k s.1 w.1)
  fits-on (fits_first {a = p} {b = q} f) b w = let s = and_parts (is_below n p) (is_below n q) b in fits_first (fits-on f s.0 w.0)
  fits-on (fits_second {a = p} {b = q} f) b w = let s = and_parts (is_below n p) (is_below n q) b in fits_second (fits-on f s.1 w.1)
  fits-on fits_stop b w = fits_stop
  fits-on (fits_more f k) b w = fits_more (fits-on f b w) (fits-on k b w)
  fits-on (fits_node {k} {x = s} f c) b w =
      let e = row_same k b in
      fits_node (subst (λ (r : Row). Fits h r.rule s) (sym e) (fits-on f (rule_below k b) (rule_alike k b))) (x.check k s (below_is k n b) ∙ c)

  takes-on : {e : Expr} {ts us : List Token} {s : ParseTree} → Takes g e ts s us → is_below n e ≡ true → TestsAlike g h e → Takes h e ts s us
  takes-on takes_nothing b w = takes_nothing
  takes-on (takes_leaf {c} {t} a) b w = takes_leaf (accepts-same c t w a)
  takes-on (takes_both {a = p} {b = q} f k) b w = let s = and_parts (is_below n p) (is_below n q) b in takes_both (takes-on f s.0 w.0) (takes-on k s.1 w.1)
  takes-on (takes_first {a = p} {b = q} {ts = ts} c f) b w =
      let s = and_parts (is_below n p) (is_below n q) b in takes_first (choose-same p q (peek ts) s.0 s.1 ∙ c) (takes-on f s.0 w.0)
  takes-on (takes_second {a = p} {b = q} {ts = ts} c f) b w =
      let s = and_parts (is_below n p) (is_below n q) b in takes_second (choose-same p q (peek ts) s.0 s.1 ∙ c) (takes-on f s.1 w.1)
  takes-on (takes_stop {a = p} {ts = ts} v) b w = takes_stop (sees-same p (peek ts) _ b v)
  takes-on (takes_more {a = p} {ts = ts} v f k) b w = takes_more (sees-same p (peek ts) _ b v) (takes-on f b w) (takes-on k b w)
  takes-on (takes_node {k} {ts = ts} {us = us} {x = s} f c) b w =
      let e = row_same k b in
      takes_node (subst (λ (r : Row). Takes h r.rule ts s us) (sym e) (takes-on f (rule_below k b) (rule_alike k b))) (x.check k s (below_is k n b) ∙ c)

  fails-on : {e : Expr} {ts us : List Token} {why : Reason} → Fails g e ts why us → is_below n e ≡ true → TestsAlike g h e → Fails h e ts why us
  fails-on (fails_one v) b w = fails_one v
  fails-on (fails_value {c} {t} m v) b w = fails_value m (w t ∙ v)
  fails-on (fails_before {a = p} {b = q} f) b w = let s = and_parts (is_below n p) (is_below n q) b in fails_before (fails-on f s.0 w.0)
  fails-on (fails_after {a = p} {b = q} t f) b w = let s = and_parts (is_below n p) (is_below n q) b in fails_after (takes-on t s.0 w.0) (fails-on f s.1 w.1)
  fails-on (fails_first {a = p} {b = q} {ts = ts} c f) b w =
      let s = and_parts (is_below n p) (is_below n q) b in fails_first (choose-same p q (peek ts) s.0 s.1 ∙ c) (fails-on f s.0 w.0)
  fails-on (fails_second {a = p} {b = q} {ts = ts} c f) b w =
      let s = and_parts (is_below n p) (is_below n q) b in fails_second (choose-same p q (peek ts) s.0 s.1 ∙ c) (fails-on f s.1 w.1)
  fails-on (fails_neither {a = p} {b = q} {ts = ts} c) b w =
      let s = and_parts (is_below n p) (is_below n q) b in fails_neither (choose-same p q (peek ts) s.0 s.1 ∙ c)
  fails-on (fails_turn {a = p} {ts = ts} v f) b w = fails_turn (sees-same p (peek ts) _ b v) (fails-on f b w)
  fails-on (fails_later {a = p} {ts = ts} v t f) b w = fails_later (sees-same p (peek ts) _ b v) (takes-on t b w) (fails-on f b w)
  fails-on (fails_node {k} {ts = ts} {us = us} {why = why} f) b w =
      let e = row_same k b in
      fails_node (subst (λ (r : Row). Fails h r.rule ts why us) (sym e) (fails-on f (rule_below k b) (rule_alike k b)))
  fails-on (fails_check {k} {ts = ts} {us = us} {x = s} t c) b w =
      let e = row_same k b in
      fails_check (subst (λ (r : Row). Takes h r.rule ts s us) (sym e) (takes-on t (rule_below k b) (rule_alike k b))) (x.check k s (below_is k n b) ∙ c)

  pub reads_on : (e : Expr) → is_below n e ≡ true → TestsAlike g h e → ReadsOn g h e
  reads_on e b w = record {
    takes = λ ts us s t. takes-on t b w;
    fails = λ ts us why f. fails-on f b w;
    derives = λ ts s d. (fits-on d.0 b w, d.1);
  }

-- a tree of these symbols is its own written tree
pub left_alone : (n : ℕ) (g : Grammar) (cs : List Change) → LeavesAlone n g cs → {e : Expr} {x : ParseTree} → Fits g e x → is_below n e ≡ true
    → written cs x ≡ x
left_alone n g cs a fits_nothing b = refl
left_alone n g cs a (fits_leaf h) b = refl
left_alone n g cs a (fits_both {a = p} {b = q} f k) b = let s = and_parts (is_below n p) (is_below n q) b in ap₂ Both (left_alone n g cs a f s.0)
    (left_alone n g cs a k s.1)
left_alone n g cs a (fits_first {a = p} {b = q} f) b = let s = and_parts (is_below n p) (is_below n q) b in ap First (left_alone n g cs a f s.0)
left_alone n g cs a (fits_second {a = p} {b = q} f) b = let s = and_parts (is_below n p) (is_below n q) b in ap Second (left_alone n g cs a f s.1)
left_alone n g cs a fits_stop b = refl
left_alone n g cs a (fits_more f k) b = ap₂ More (left_alone n g cs a f b) (left_alone n g cs a k b)
left_alone n g cs a (fits_node {k} {x = s} f c) b =
    let i = below_is k n b in
    ap (Node k) (ap (change_at cs k).to_written (left_alone n g cs a f (a.closed k i)) ∙ a.alone k i s)

-- ---- rows after those of another grammar

row_before : (rs more : List Row) (k : ℕ) → k < length rs → row_at (rs ++ more) k ≡ row_at rs k
row_before [] more k h = absurd (omega arith)
row_before (r ∷ rs) more zero h = refl
row_before (r ∷ rs) more (suc k) h = row_before rs more k (omega arith)

abbrev pub all_below : ℕ → List Row → Bool
all_below n [] = true
all_below n (r ∷ rs) = is_below n r.rule && all_below n rs

below_at : (n : ℕ) (rs : List Row) (k : ℕ) → all_below n rs ≡ true → k < length rs → is_below n (row_at rs k).rule ≡ true
below_at n [] k b h = absurd (omega arith)
below_at n (r ∷ rs) zero b h = (and_parts (is_below n r.rule) (all_below n rs) b).0
below_at n (r ∷ rs) (suc k) b h = below_at n rs k (and_parts (is_below n r.rule) (all_below n rs) b).1 (omega arith)

pub tests_alike : (g h : Grammar) → ((c : Class) (t : Token) → h.good c t ≡ g.good c t) → (e : Expr) → TestsAlike g h e
tests_alike g h w Empty = tt
tests_alike g h w (One c) = w c
tests_alike g h w (Then a b) = (tests_alike g h w a, tests_alike g h w b)
tests_alike g h w (Either a b) = (tests_alike g h w a, tests_alike g h w b)
tests_alike g h w (Many a) = tests_alike g h w a
tests_alike g h w (Sym k) = tt

-- g with more rows, and possibly another test of leaves of classes that the rows of g do not name
pub with_more : (g : Grammar) (more : List Row) (good : Class → Token → Bool) (check : ℕ → ParseTree → Bool) (samples : List Token)
    → all_below (length g.rows) g.rows ≡ true
    → ((k : ℕ) → k < length g.rows → TestsAlike g (record { rows = g.rows ++ more; good = good; check = check; samples = samples }) (row_at g.rows k).rule)
    → ((k : ℕ) (x : ParseTree) → k < length g.rows → check k x ≡ g.check k x)
    → Extends (length g.rows) g (record { rows = g.rows ++ more; good = good; check = check; samples = samples })
with_more g more good check samples b alike same = record {
  rows = λ k h. row_before g.rows more k h;
  closed = λ k h. below_at (length g.rows) g.rows k b h;
  good = alike;
  check = same;
}

change_before : (n : ℕ) (cs : List Change) (k : ℕ) → k < n → change_at (replicate n unchanged ++ cs) k ≡ unchanged
change_before zero cs k h = absurd (omega arith)
change_before (suc n) cs zero h = refl
change_before (suc n) cs (suc k) h = change_before n cs k (omega arith)

-- changes of symbols after those of g
pub alone_before : (g : Grammar) (cs : List Change) → all_below (length g.rows) g.rows ≡ true
    → LeavesAlone (length g.rows) g (replicate (length g.rows) unchanged ++ cs)
alone_before g cs b = record {
  closed = λ k h. below_at (length g.rows) g.rows k b h;
  alone = λ k h x. ap (λ (c : Change). c.to_written x) (change_before (length g.rows) cs k h);
}
