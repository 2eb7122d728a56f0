-- No two errors have the same index.
use Rattle.std.proofs.Common.{◌≡◌, ℕ, suc, ◌+◌, ◌<◌, ◌≤◌, true, false, List, [], ◌∷◌, ◌++◌, length, refl, sym, ap, subst, ◌∙◌, append_assoc, append-nil}
use Rattle.std.proofs.Common.{length-append, arith, inl, inr, ◌⊎◌}
use Rattle.std.proofs.lemmas.Bool.{both_ways, and_from}
use Rattle.graphql_core.specs.{Token, Class, matches, Expr, One, Then, Either, Many, Sym, ParseTree, Both, First, Second, Stop, More, Node, Grammar, row}
use Rattle.graphql_core.specs.{leaves, peek, Fits, fits_leaf, fits_both, fits_first, fits_second, fits_stop, fits_more, fits_node, Begins, Ends, first, cont}
use Rattle.graphql_core.specs.{decides, is_ll1, is_tight, has_samples, is_productive, sees, Takes, takes_leaf, Reason, Improper, RejectedNode}
use Rattle.graphql_core.specs.{fails_value, takes_both, takes_first, takes_second, takes_stop, takes_more, takes_node, lax, leads_here, leads_before}
use Rattle.graphql_core.specs.{leads_after, leads_first, leads_second, leads_turn, leads_later, leads_node, Leads, Text, StopsBefore, IsFault, IsRejected}
use Rattle.graphql_core.specs.{lexical_error, unexpected_item, leaf_rejected, node_rejected, ReturnsFirstError, RejectsTokens}
use Rattle.graphql_core.proofs.grammar.{begins-around, begins-after, fits-lax, takes-lax, sees-apart, takes-leaves, IsRow-each, complete, both, either, many}
use Rattle.graphql_core.proofs.grammar.{same-take, take-or_fail, goes-left, goes-right, leads-first, same_rest, run-takes}
use Rattle.graphql_core.proofs.first_errors.Faulted.{sees_leaf, sees_node, positive, node_takes, node_fails, no_earlier, returns_first_error}
use Rattle.graphql_core.proofs.grammar.Deterministic.{left_right}

module _ (g : Grammar) (ok : is_ll1 g.rows ≡ true) where
  no_more : {e : Expr} {ts us : List Token} {x : ParseTree} → Takes (lax g) e ts x us → length us ≤ length ts
  no_more {us = us} {x = x} t = omega (arith, ap length (takes-leaves (lax g) t), length-append (leaves x) us)

  -- what d takes at rest ends before the whole does
  abbrev Within : Expr → List Token → List Token → Type 0
  Within d rest us = (z : ParseTree) × (vs : List Token) × Takes (lax g) d rest z vs × (length us ≤ length vs)

  farther : (d : Expr) (rest us vs : List Token) → length vs ≤ length us → Within d rest us → Within d rest vs
  farther d rest us vs h w = (w.0, w.1, w.2, omega (arith, h, w.3))

  visits : {e d : Expr} {front : List Token} → Leads (lax g) e front d → decides g.rows e ≡ true → (ts rest : List Token) → ts ≡ front ++ rest
      → sees (first g.rows d) (peek rest) ≡ true
      → {x : ParseTree} {us : List Token} → Takes (lax g) e ts x us → Within d rest us
  visits (leads_here {e}) dc ts rest h s {x} {us} t = (x, us, subst (λ (l : List Token). Takes (lax g) e l x us) h t, omega arith)
  visits (leads_before {a} {b} {d} l f) dc ts rest h s {us = us} (takes_both {us = vs} p q) =
      farther d rest vs us (no_more q) (visits l (both g a b dc).0 ts rest h s p)
  visits (leads_after {a} {b} {ts = fr} {x = x} f l) dc ts rest h s (takes_both {us = vs} {x = z} p q) =
      let i = both g a b dc in
      let w = same_rest (lax g) ok a i.0 ts vs (fr ++ rest) z x p f (h ∙ append_assoc (leaves x) fr rest)
      (sees-apart (cont g.rows a) (first g.rows b) (peek (fr ++ rest)) i.2 (leads-first g ok l rest s)) in
      visits l i.1 vs rest w s q
  visits (leads_first {a} {b} l) dc ts rest h s (takes_first c p) = visits l (either g a b dc).0 ts rest h s p
  visits (leads_first {a} {b} l) dc ts rest h s (takes_second c p) =
      absurd (left_right (goes-left g ok a b (peek ts) (ap (λ (m : List Token). sees (first g.rows a) (peek m)) h ∙ leads-first g ok l rest s)) c)
  visits (leads_second {a} {b} l) dc ts rest h s (takes_first c p) =
      absurd (left_right c (goes-right g ok a b (peek ts) (either g a b dc).2
      (ap (λ (m : List Token). sees (first g.rows b) (peek m)) h ∙ leads-first g ok l rest s)))
  visits (leads_second {a} {b} l) dc ts rest h s (takes_second c p) = visits l (either g a b dc).1 ts rest h s p
  visits (leads_turn {a} l) dc ts rest h s (takes_stop c) =
      absurd (both_ways (sees (first g.rows a) (peek ts)) c (ap (λ (m : List Token). sees (first g.rows a) (peek m)) h ∙ leads-first g ok l rest s))
  visits (leads_turn {a} {d} l) dc ts rest h s {us = us} (takes_more {us = vs} c p q) =
      farther d rest vs us (no_more q) (visits l (many g a dc).0 ts rest h s p)
  visits (leads_later {a} {ts = fr} {x = x} f l) dc ts rest h s (takes_stop c) =
      absurd (both_ways (sees (first g.rows a) (peek ts)) c
      (ap (λ (m : List Token). sees (first g.rows a) (peek m)) h ∙ leads-first g ok (leads_later f l) rest s))
  visits (leads_later {a} {ts = fr} {x = x} f l) dc ts rest h s (takes_more {us = vs} {x = z} c p q) =
      let i = many g a dc in
      let w = same_rest (lax g) ok a i.0 ts vs (fr ++ rest) z x p f (h ∙ append_assoc (leaves x) fr rest)
      (sees-apart (cont g.rows a) (first g.rows a) (peek (fr ++ rest)) i.2 (leads-first g ok l rest s)) in
      visits l dc vs rest w s q
  visits (leads_node {k} l) dc ts rest h s (takes_node p c) = visits l (IsRow-each g.rows ok k).decides ts rest h s p

  -- of two places, one is within the other, or they are apart
  abbrev Compared : List Token → Expr → List Token → List Token → Expr → List Token → Type 0
  Compared fr d rest fr2 d2 rest2 =
      (((mid : List Token) × Leads (lax g) d mid d2 × (rest ≡ mid ++ rest2)) ⊎ ((mid : List Token) × Leads (lax g) d2 mid d × (rest2 ≡ mid ++ rest)))
      ⊎ (Within d rest rest2 ⊎ Within d2 rest2 rest)

  -- a tree that ends before the second place
  apart-from : (a : Expr) (x : ParseTree) (ts w : List Token) → decides g.rows a ≡ true → Fits (lax g) a x → ts ≡ leaves x ++ w
      → sees (cont g.rows a) (peek w) ≡ false → Takes (lax g) a ts x w
  apart-from a x ts w d f h n = subst (λ (l : List Token). Takes (lax g) a l x w) (sym h) (complete (lax g) ok f d w n)

  compare : {e d d2 : Expr} {fr fr2 : List Token} → Leads (lax g) e fr d → Leads (lax g) e fr2 d2 → decides g.rows e ≡ true → (ts rest rest2 : List Token)
      → ts ≡ fr ++ rest → ts ≡ fr2 ++ rest2
      → sees (first g.rows d) (peek rest) ≡ true → sees (first g.rows d2) (peek rest2) ≡ true → Compared fr d rest fr2 d2 rest2
  compare {fr2 = fr2} leads_here m dc ts rest rest2 h k s r = inl (inl (fr2, m, sym h ∙ k))
  compare {fr = fr} l leads_here dc ts rest rest2 h k s r = inl (inr (fr, l, sym k ∙ h))
  compare (leads_before {a} {b} l f) (leads_before m f2) dc ts rest rest2 h k s r = compare l m (both g a b dc).0 ts rest rest2 h k s r
  compare (leads_before {a} {b} {d} l f) (leads_after {ts = us} {x = x} f2 m) dc ts rest rest2 h k s r =
      let i = both g a b dc in
      let t = apart-from a x ts (us ++ rest2) i.0 f2 (k ∙ append_assoc (leaves x) us rest2)
      (sees-apart (cont g.rows a) (first g.rows b) (peek (us ++ rest2)) i.2 (leads-first g ok m rest2 r)) in
      inr (inl (farther d rest (us ++ rest2) rest2 (omega (arith, length-append us rest2)) (visits l i.0 ts rest h s t)))
  compare (leads_after {a} {b} {ts = us} {x = x} f l) (leads_before {d = d2} m f2) dc ts rest rest2 h k s r =
      let i = both g a b dc in
      let t = apart-from a x ts (us ++ rest) i.0 f (h ∙ append_assoc (leaves x) us rest)
      (sees-apart (cont g.rows a) (first g.rows b) (peek (us ++ rest)) i.2 (leads-first g ok l rest s)) in
      inr (inr (farther d2 rest2 (us ++ rest) rest (omega (arith, length-append us rest)) (visits m i.0 ts rest2 k r t)))
  compare (leads_after {a} {b} {ts = us} {x = x} f l) (leads_after {ts = vs} {x = y} f2 m) dc ts rest rest2 h k s r =
      let i = both g a b dc in
      let t = apart-from a x ts (us ++ rest) i.0 f (h ∙ append_assoc (leaves x) us rest)
      (sees-apart (cont g.rows a) (first g.rows b) (peek (us ++ rest)) i.2 (leads-first g ok l rest s)) in
      let t2 = apart-from a y ts (vs ++ rest2) i.0 f2 (k ∙ append_assoc (leaves y) vs rest2)
      (sees-apart (cont g.rows a) (first g.rows b) (peek (vs ++ rest2)) i.2 (leads-first g ok m rest2 r)) in
      compare l m i.1 (us ++ rest) rest rest2 refl (same-take (lax g) t t2).1 s r
  compare (leads_first {a} {b} l) (leads_first m) dc ts rest rest2 h k s r = compare l m (either g a b dc).0 ts rest rest2 h k s r
  compare (leads_first {a} {b} l) (leads_second m) dc ts rest rest2 h k s r =
      absurd (left_right (goes-left g ok a b (peek ts) (ap (λ (m : List Token). sees (first g.rows a) (peek m)) h ∙ leads-first g ok l rest s))
      (goes-right g ok a b (peek ts) (either g a b dc).2 (ap (λ (m : List Token). sees (first g.rows b) (peek m)) k ∙ leads-first g ok m rest2 r)))
  compare (leads_second {a} {b} l) (leads_first m) dc ts rest rest2 h k s r =
      absurd (left_right (goes-left g ok a b (peek ts) (ap (λ (m : List Token). sees (first g.rows a) (peek m)) k ∙ leads-first g ok m rest2 r))
      (goes-right g ok a b (peek ts) (either g a b dc).2 (ap (λ (m : List Token). sees (first g.rows b) (peek m)) h ∙ leads-first g ok l rest s)))
  compare (leads_second {a} {b} l) (leads_second m) dc ts rest rest2 h k s r = compare l m (either g a b dc).1 ts rest rest2 h k s r
  compare (leads_turn {a} l) (leads_turn m) dc ts rest rest2 h k s r = compare l m (many g a dc).0 ts rest rest2 h k s r
  compare (leads_turn {a} {d} l) (leads_later {ts = us} {x = x} f2 m) dc ts rest rest2 h k s r =
      let i = many g a dc in
      let t = apart-from a x ts (us ++ rest2) i.0 f2 (k ∙ append_assoc (leaves x) us rest2)
      (sees-apart (cont g.rows a) (first g.rows a) (peek (us ++ rest2)) i.2 (leads-first g ok m rest2 r)) in
      inr (inl (farther d rest (us ++ rest2) rest2 (omega (arith, length-append us rest2)) (visits l i.0 ts rest h s t)))
  compare (leads_later {a} {ts = us} {x = x} f l) (leads_turn {d = d2} m) dc ts rest rest2 h k s r =
      let i = many g a dc in
      let t = apart-from a x ts (us ++ rest) i.0 f (h ∙ append_assoc (leaves x) us rest)
      (sees-apart (cont g.rows a) (first g.rows a) (peek (us ++ rest)) i.2 (leads-first g ok l rest s)) in
      inr (inr (farther d2 rest2 (us ++ rest) rest (omega (arith, length-append us rest)) (visits m i.0 ts rest2 k r t)))
  compare (leads_later {a} {ts = us} {x = x} f l) (leads_later {ts = vs} {x = y} f2 m) dc ts rest rest2 h k s r =
      let i = many g a dc in
      let t = apart-from a x ts (us ++ rest) i.0 f (h ∙ append_assoc (leaves x) us rest)
      (sees-apart (cont g.rows a) (first g.rows a) (peek (us ++ rest)) i.2 (leads-first g ok l rest s)) in
      let t2 = apart-from a y ts (vs ++ rest2) i.0 f2 (k ∙ append_assoc (leaves y) vs rest2)
      (sees-apart (cont g.rows a) (first g.rows a) (peek (vs ++ rest2)) i.2 (leads-first g ok m rest2 r)) in
      compare l m dc (us ++ rest) rest rest2 refl (same-take (lax g) t t2).1 s r
  compare (leads_node {k = j} l) (leads_node m) dc ts rest rest2 h k s r = compare l m (IsRow-each g.rows ok j).decides ts rest rest2 h k s r

-- what is derived there can be extended to a whole list
leads-begins : (g : Grammar) {e d : Expr} {front : List Token} {z : ParseTree} → Leads (lax g) e front d → Fits (lax g) d z
    → Begins (lax g) e (front ++ leaves z)
leads-begins g {z = z} leads_here f = (z, [], (f, append-nil (leaves z)))
leads-begins g {z = z} (leads_before {a} {b} {ts = ts} {y = y} l w) f =
    begins-around (lax g) a (Then a b) (ts ++ leaves z) (λ x. Both x y) (leaves y) (λ x v. fits_both v w) (λ x. refl) (leads-begins g l f)
leads-begins g {z = z} (leads_after {a} {b} {ts = ts} {x = x} w l) f =
    subst (Begins (lax g) (Then a b)) (sym (append_assoc (leaves x) ts (leaves z)))
    (begins-after (lax g) b (Then a b) (leaves x) (ts ++ leaves z) (Both x) (λ y v. fits_both w v) (λ y. refl) (leads-begins g l f))
leads-begins g {z = z} (leads_first {a} {b} {ts = ts} l) f =
    begins-around (lax g) a (Either a b) (ts ++ leaves z) First [] (λ x v. fits_first v) (λ x. sym (append-nil (leaves x))) (leads-begins g l f)
leads-begins g {z = z} (leads_second {a} {b} {ts = ts} l) f =
    begins-around (lax g) b (Either a b) (ts ++ leaves z) Second [] (λ x v. fits_second v) (λ x. sym (append-nil (leaves x))) (leads-begins g l f)
leads-begins g {z = z} (leads_turn {a} {ts = ts} l) f =
    begins-around (lax g) a (Many a) (ts ++ leaves z) (λ x. More x Stop) [] (λ x v. fits_more v fits_stop) (λ x. refl) (leads-begins g l f)
leads-begins g {z = z} (leads_later {a} {ts = ts} {x = x} w l) f =
    subst (Begins (lax g) (Many a)) (sym (append_assoc (leaves x) ts (leaves z)))
    (begins-after (lax g) (Many a) (Many a) (leaves x) (ts ++ leaves z) (More x) (λ y v. fits_more w v) (λ y. refl) (leads-begins g l f))
leads-begins g {z = z} (leads_node {k} {ts = ts} l) f =
    begins-around (lax g) (row g k).rule (Sym k) (ts ++ leaves z) (Node k) [] (λ x v. fits_node v refl) (λ x. sym (append-nil (leaves x))) (leads-begins g l f)

one_leads : (g : Grammar) {c : Class} {d : Expr} {ts : List Token} → Leads g (One c) ts d → d ≡ One c
one_leads g leads_here = refl

leaf_takes : (g : Grammar) {c : Class} {u : Token} {us vs : List Token} {z : ParseTree} → Takes g (One c) (u ∷ us) z vs → length vs ≡ length us
leaf_takes g (takes_leaf h) = refl

class_is : (a b : Class) → One a ≡ One b → Improper b ≡ Improper a
class_is a b h = cc

symbol_is : (k j : ℕ) (x y : ParseTree) → Node k x ≡ Node j y → RejectedNode k ≡ RejectedNode j
symbol_is k j x y h = cc

no_leaf : (c : Class) (k : ℕ) → Sym k ≡ One c → ⊥
no_leaf c k h = cc

-- A list of e can have a list of d after front. The next tokens are xs, whose last token has the index n. Whatever d
-- takes there ends after xs.
record CanEndAt (g : Grammar) (e d : Expr) (ts front xs us : List Token) (n : ℕ) : Type 0 where
  pub parts : ts ≡ front ++ (xs ++ us)
  pub leads : Leads (lax g) e front d
  pub begins : Begins (lax g) e (front ++ xs)
  pub seen : sees (first g.rows d) (peek (xs ++ us)) ≡ true
  pub some : 0 < length xs
  pub ends : (z : ParseTree) (vs : List Token) → Takes (lax g) d (xs ++ us) z vs → length vs ≡ length us
  pub index : n ≡ length front + length xs

module _ (g : Grammar) (ok : is_ll1 g.rows ≡ true) (full : is_productive g ≡ true) (tight : is_tight g.rows ≡ true) (e : Expr) (d : decides g.rows e ≡ true)
    (f : has_samples g e ≡ true) where
  -- the plain grammar takes a rejected node up to its end
  node_ends : (k : ℕ) (x : ParseTree) (us vs : List Token) (z : ParseTree) → Fits g (row g k).rule x → StopsBefore (lax g) (Sym k) (leaves x) us
      → Takes (lax g) (Sym k) (leaves x ++ us) z vs → vs ≡ us
  node_ends k x us vs z p n t = (same-take (lax g) t (takes_node (takes-lax g (node_takes g ok full tight e d f k x us p n)) refl)).1

  -- nothing that is rejected is within a rejected node
  leaf_within : (k : ℕ) (x : ParseTree) (us : List Token) (c : Class) (u : Token) (vs mid : List Token) → Fits g (row g k).rule x
      → StopsBefore (lax g) (Sym k) (leaves x) us
      → matches c u ≡ true → g.good c u ≡ false → leaves x ++ us ≡ mid ++ u ∷ vs → Leads (lax g) (Sym k) mid (One c) → ⊥
  leaf_within k x us c u vs mid p n m b h (leads_node l) =
      let t = run-takes g ok l (IsRow-each g.rows ok k).decides (leaves x ++ us) (u ∷ vs) h (sees_leaf g ok full tight e d f c u vs m)
      (node_takes g ok full tight e d f k x us p n) in
      take-or_fail g t.2 (fails_value {c = c} {t = u} {ts = vs} m b)

  node_within : (k j : ℕ) (x y : ParseTree) (us vs mid : List Token) → Fits g (row g k).rule x → StopsBefore (lax g) (Sym k) (leaves x) us
      → Fits g (row g j).rule y → g.check j y ≡ false → (leaves y ≡ [] → ⊥) → StopsBefore (lax g) (Sym j) (leaves y) vs
      → leaves x ++ us ≡ mid ++ (leaves y ++ vs) → Leads (lax g) (Sym k) mid (Sym j) → Node k x ≡ Node j y
  node_within k j x y us vs mid p n q c ne r h leads_here =
      let t = subst (λ (ts : List Token). Takes g (row g k).rule ts y vs) (sym h) (node_takes g ok full tight e d f k y vs q r) in
      ap (Node k) (same-take g (node_takes g ok full tight e d f k x us p n) t).0
  node_within k j x y us vs mid p n q c ne r h (leads_node l) =
      let t = run-takes g ok l (IsRow-each g.rows ok k).decides (leaves x ++ us) (leaves y ++ vs) h (sees_node g ok full tight e d f j y vs q ne)
      (node_takes g ok full tight e d f k x us p n) in
      absurd (take-or_fail g t.2 (node_fails g ok full tight e d f j y vs q c r))

  leaf_can_end : (ts front us : List Token) (u : Token) (c : Class) → ts ≡ front ++ u ∷ us → Leads (lax g) e front (One c) → matches c u ≡ true
      → CanEndAt g e (One c) ts front (u ∷ []) us (suc (length front))
  leaf_can_end ts front us u c p l m = record {
    parts = p;
    leads = l;
    begins = leads-begins g l (fits_leaf {t = u} (and_from (matches c u) true m refl));
    seen = sees_leaf g ok full tight e d f c u us m;
    some = omega arith;
    ends = λ z vs t. leaf_takes (lax g) t;
    index = omega arith;
  }

  node_can_end : (ts before us : List Token) (k : ℕ) (x : ParseTree) → IsRejected g e ts k x before us
      → CanEndAt g e (Sym k) ts before (leaves x) us (length (before ++ leaves x))
  node_can_end ts before us k x (p, ne, l, w, c, n) = record {
    parts = p;
    leads = l;
    begins = leads-begins g {z = Node k x} l (fits_node (fits-lax g w) refl);
    seen = sees_node g ok full tight e d f k x us w ne;
    some = positive g ok full tight e d f (leaves x) ne;
    ends = λ z vs t. ap length (node_ends k x us vs z w n t);
    index = length-append before (leaves x);
  }

  -- the index is not past the tokens
  not_past : {a : Expr} {ts front xs us : List Token} {m n : ℕ} → CanEndAt g e a ts front xs us n → m ≡ n → m ≡ suc (length ts) → ⊥
  not_past {front = front} {xs = xs} {us = us} s h k =
      omega (arith, h, k, s.index, ap length s.parts, length-append front (xs ++ us), length-append xs us)

  -- nor is it that of an unexpected item
  not_unexpected : {a : Expr} {ts front2 xs us : List Token} {m n : ℕ} (front vs : List Token) → ts ≡ front ++ vs → Ends (lax g) e front (peek vs)
      → CanEndAt g e a ts front2 xs us n → m ≡ n → m ≡ suc (length front) → ⊥
  not_unexpected {ts = ts} {front2 = front2} {xs = xs} {us = us} front vs p n s h k =
      elim (no_earlier g ok full tight e d f ts us front vs (front2 ++ xs) (s.parts ∙ sym (append_assoc front2 xs us)) p s.begins n) [
        | inl l ↦ omega (arith, l, h, k, s.index, ap length s.parts, length-append front2 (xs ++ us), length-append xs us)
        | inr l ↦ omega (arith, h, k, s.index, length-append front2 xs, ap length l.0)
      ]

  -- of two with the same index, neither ends before the other
  not_before : {a b : Expr} {ts front xs us front2 ys vs : List Token} {m n : ℕ} → CanEndAt g e a ts front xs us m → CanEndAt g e b ts front2 ys vs n → m ≡ n
      → Within g ok a (xs ++ us) (ys ++ vs) → ⊥
  not_before {front = front} {xs = xs} {us = us} {front2 = front2} {ys = ys} {vs = vs} s r h w = omega (
    arith,
    h,
    s.index,
    r.index,
    r.some,
    w.3,
    s.ends w.0 w.1 w.2,
    ap length s.parts,
    ap length r.parts,
    length-append front (xs ++ us),
    length-append xs us,
    length-append front2 (ys ++ vs),
    length-append ys vs,
  )

  -- so one is within the other
  abbrev Inside : Expr → Expr → List Token → List Token → Type 0
  Inside a b rest rest2 = (mid : List Token) × Leads (lax g) a mid b × (rest ≡ mid ++ rest2)

  inside : {a b : Expr} {ts front xs us front2 ys vs : List Token} {m n : ℕ} → CanEndAt g e a ts front xs us m → CanEndAt g e b ts front2 ys vs n → m ≡ n
      → Inside a b (xs ++ us) (ys ++ vs) ⊎ Inside b a (ys ++ vs) (xs ++ us)
  inside {ts = ts} {xs = xs} {us = us} {ys = ys} {vs = vs} s r h =
      elim (compare g ok s.leads r.leads d ts (xs ++ us) (ys ++ vs) s.parts r.parts s.seen r.seen) [
        | inl o ↦ o
        | inr o ↦ elim o [
          | inl w ↦ absurd (not_before s r h w)
          | inr w ↦ absurd (not_before r s (sym h) w)
        ]
      ]

  leaf_node : (ts front us before vs : List Token) (u : Token) (c : Class) (k : ℕ) (x : ParseTree) → ts ≡ front ++ u ∷ us → Leads (lax g) e front (One c)
      → matches c u ≡ true → g.good c u ≡ false → IsRejected g e ts k x before vs → suc (length front) ≡ length (before ++ leaves x) → ⊥
  leaf_node ts front us before vs u c k x p l m b r h =
      elim (inside (leaf_can_end ts front us u c p l m) (node_can_end ts before vs k x r) h) [
        | inl i ↦ no_leaf c k (one_leads (lax g) i.1)
        | inr i ↦ leaf_within k x vs c u us i.0 r.3 r.5 m b i.2 i.1
      ]

  -- no two rejected nodes end at the same place
  pub one_node : (ts before us before2 vs : List Token) (k j : ℕ) (x y : ParseTree) → IsRejected g e ts k x before us → IsRejected g e ts j y before2 vs
      → length (before ++ leaves x) ≡ length (before2 ++ leaves y) → Node k x ≡ Node j y
  one_node ts before us before2 vs k j x y r q h =
      elim (inside (node_can_end ts before us k x r) (node_can_end ts before2 vs j y q) h) [
        | inl i ↦ node_within k j x y us vs i.0 r.3 r.5 q.3 q.4 q.1 q.5 i.2 i.1
        | inr i ↦ sym (node_within j k y x vs us i.0 q.3 q.5 r.3 r.4 r.1 r.5 i.2 i.1)
      ]

  pub one_index : (t : Text) (why other : Reason) (m n : ℕ) → IsFault g e t why m → IsFault g e t other n → m ≡ n → why ≡ other
  one_index t _ _ _ _ (lexical_error b) (lexical_error b2) h = refl
  one_index t _ _ _ _ (lexical_error b) (unexpected_item front us p i b2 n) h = refl
  one_index t _ _ _ _ (lexical_error b) (leaf_rejected front us u c p l m n) h = absurd (not_past (leaf_can_end t.tokens front us u c p l m) h refl)
  one_index t _ _ _ _ (lexical_error b) (node_rejected before us k x r) h = absurd (not_past (node_can_end t.tokens before us k x r) h refl)
  one_index t _ _ _ _ (unexpected_item front us p i b n) (lexical_error b2) h = refl
  one_index t _ _ _ _ (unexpected_item front us p i b n) (unexpected_item front2 us2 p2 i2 b2 n2) h = refl
  one_index t _ _ _ _ (unexpected_item front us p i b n) (leaf_rejected front2 us2 u c p2 l m n2) h =
      absurd (not_unexpected front us p n (leaf_can_end t.tokens front2 us2 u c p2 l m) h refl)
  one_index t _ _ _ _ (unexpected_item front us p i b n) (node_rejected before us2 k x r) h =
      absurd (not_unexpected front us p n (node_can_end t.tokens before us2 k x r) h refl)
  one_index t _ _ _ _ (leaf_rejected front us u c p l m n) (leaf_rejected front2 us2 v k p2 l2 m2 n2) h =
      elim (inside (leaf_can_end t.tokens front us u c p l m) (leaf_can_end t.tokens front2 us2 v k p2 l2 m2) h) [
        | inl i ↦ class_is k c (one_leads (lax g) i.1)
        | inr i ↦ sym (class_is c k (one_leads (lax g) i.1))
      ]
  one_index t _ _ _ _ (leaf_rejected front us u c p l m n) (node_rejected before vs k x r) h =
      absurd (leaf_node t.tokens front us before vs u c k x p l m n r h)
  one_index t _ _ _ _ (node_rejected before us k x r) (node_rejected before2 vs j y q) h =
      symbol_is k j x y (one_node t.tokens before us before2 vs k j x y r q h)
  one_index t _ _ _ _ (leaf_rejected front us u c p l m n) (lexical_error b) h = absurd (not_past (leaf_can_end t.tokens front us u c p l m) (sym h) refl)
  one_index t _ _ _ _ (leaf_rejected front2 us2 u c p2 l m n2) (unexpected_item front us p i b n) h =
      absurd (not_unexpected front us p n (leaf_can_end t.tokens front2 us2 u c p2 l m) (sym h) refl)
  one_index t _ _ _ _ (node_rejected before us k x r) (lexical_error b) h = absurd (not_past (node_can_end t.tokens before us k x r) (sym h) refl)
  one_index t _ _ _ _ (node_rejected before us2 k x r) (unexpected_item front us p i b n) h =
      absurd (not_unexpected front us p n (node_can_end t.tokens before us2 k x r) (sym h) refl)
  one_index t _ _ _ _ (node_rejected before vs k x r) (leaf_rejected front us u c p l m n) h =
      absurd (leaf_node t.tokens front us before vs u c k x p l m n r (sym h))

  pub grammar_least : RejectsTokens g → ReturnsFirstError g g e
  grammar_least tokens = returns_first_error g ok full tight e d f tokens (λ t why other n x y. one_index t why other n n x y refl)
