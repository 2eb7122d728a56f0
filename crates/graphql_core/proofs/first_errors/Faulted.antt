-- The reader returns the first error.
use Rattle.std.proofs.Common.{◌≡◌, ℕ, suc, ◌+◌, ◌-◌, ◌<◌, ◌≤◌, true, false, List, [], ◌∷◌, ◌++◌, length, refl, sym, ap, subst, ◌∙◌, append_assoc}
use Rattle.std.proofs.Common.{append-nil, length-append, arith, inl, inr, ◌⊎◌}
use Rattle.std.proofs.lemmas.Bool.{and_parts, or_left}
use Rattle.graphql_core.specs.{Token, Class, matches, Expr, One, Then, Either, Many, Sym, ParseTree, Node, Grammar, row, leaves, peek, Fits, fits_node, Begins}
use Rattle.graphql_core.specs.{Ends, first, decides, is_ll1, is_tight, has_samples, is_productive, sees, Takes, Reason, Unexpected, Improper, RejectedNode, Fails}
use Rattle.graphql_core.specs.{fails_one, fails_value, fails_before, fails_after, fails_first, fails_second, fails_neither, fails_turn, fails_later, fails_node}
use Rattle.graphql_core.specs.{fails_check, Outcome, Done, Fault, ReadsTo, unchecked, lax, IsFirstFaultFor, leads_here, leads_before, leads_after, leads_first}
use Rattle.graphql_core.specs.{leads_second, leads_turn, leads_later, leads_node, Leads, Text, Ending, InputEnds, InvalidToken, WholeResult, Tree, Rejected}
use Rattle.graphql_core.specs.{result_of, StopsBefore, IsFault, lexical_error, unexpected_item, leaf_rejected, node_rejected, IsLeast, index_of, ReturnsFirstError}
use Rattle.graphql_core.specs.{IsRejected, RejectsTokens}
use Rattle.graphql_core.proofs.grammar.{Fronts, fronts, cancel, takes-fits, takes-leaves, IsRow-each, fits-first, take-or_fail, same-fail, outcome_of, samples-at}
use Rattle.graphql_core.proofs.grammar.{tree-of, begins-around, fits-lax, takes-lax, taken-ends, first_fault, step, run-takes, run-fails, stops}
use Rattle.graphql_core.proofs.grammar.WholeTexts.{some_peeked, rejected_is}

ends_once : InputEnds ≡ InvalidToken → ⊥
ends_once i = cc

-- ---- where an error is

-- the place in a tree where the reader stops
data Source (g : Grammar) : Expr → List Token → Reason → List Token → Type 0 where
  at_value : {c : Class} {t : Token} {ts : List Token} → matches c t ≡ true → g.good c t ≡ false → Source g (One c) (t ∷ ts) (Improper c) (t ∷ ts)
  at_check : {k : ℕ} {ts us : List Token} {x : ParseTree} → Takes g (row g k).rule ts x us → g.check k x ≡ false → Source g (Sym k) ts (RejectedNode k) us
  elsewhere : {e : Expr} {ts us : List Token} → Source g e ts Unexpected us

record IsFrom (g : Grammar) (e : Expr) (ts : List Token) (why : Reason) (us : List Token) : Type 0 where
  pub place : Expr
  pub front : List Token
  pub rest : List Token
  pub parts : ts ≡ front ++ rest
  pub leads : Leads (lax g) e front place
  pub source : Source g place rest why us

here : (g : Grammar) (e : Expr) (ts us : List Token) (why : Reason) → Source g e ts why us → IsFrom g e ts why us
here g e ts us why s = record { place = e; front = []; rest = ts; parts = refl; leads = leads_here; source = s }

wider : (g : Grammar) (a e : Expr) (ts us : List Token) (why : Reason) → ((d : Expr) (front : List Token) → Leads (lax g) a front d → Leads (lax g) e front d)
    → IsFrom g a ts why us → IsFrom g e ts why us
wider g a e ts us why f s = record { place = s.place; front = s.front; rest = s.rest; parts = s.parts; leads = f s.place s.front s.leads; source = s.source }

later : (g : Grammar) (b e : Expr) (ts vs us : List Token) (x : ParseTree) (why : Reason) → ts ≡ leaves x ++ vs
    → ((d : Expr) (front : List Token) → Leads (lax g) b front d → Leads (lax g) e (leaves x ++ front) d) → IsFrom g b vs why us → IsFrom g e ts why us
later g b e ts vs us x why h f s = record {
  place = s.place;
  front = leaves x ++ s.front;
  rest = s.rest;
  parts = h ∙ ap (λ (l : List Token). leaves x ++ l) s.parts ∙ sym (append_assoc (leaves x) s.front s.rest);
  leads = f s.place s.front s.leads;
  source = s.source;
}

from : (g : Grammar) → is_productive g ≡ true → {e : Expr} {ts us : List Token} {why : Reason} → Fails g e ts why us → has_samples g e ≡ true
    → IsFrom g e ts why us
from g full (fails_one {c = c} {ts = ts} h) f = here g (One c) ts ts Unexpected elsewhere
from g full (fails_value {c = c} {t = t} {ts = ts} m h) f = here g (One c) (t ∷ ts) (t ∷ ts) (Improper c) (at_value m h)
from g full (fails_before {a = a} {b = b} {ts = ts} {us = us} {why = why} p) f =
    let f1 = and_parts (has_samples g a) (has_samples g b) f in
    let y = tree-of g full b f1.1 in
    wider g a (Then a b) ts us why (λ d front l. leads_before l (fits-lax g y.1)) (from g full p f1.0)
from g full (fails_after {a = a} {b = b} {ts = ts} {us = us} {vs = vs} {x = x} {why = why} p q) f =
    let f1 = and_parts (has_samples g a) (has_samples g b) f in
    later g b (Then a b) ts us vs x why (takes-leaves g p) (λ d front l. leads_after (fits-lax g (takes-fits g p)) l) (from g full q f1.1)
from g full (fails_first {a = a} {b = b} {ts = ts} {us = us} {why = why} h p) f =
    wider g a (Either a b) ts us why (λ d front l. leads_first l) (from g full p (and_parts (has_samples g a) (has_samples g b) f).0)
from g full (fails_second {a = a} {b = b} {ts = ts} {us = us} {why = why} h p) f =
    wider g b (Either a b) ts us why (λ d front l. leads_second l) (from g full p (and_parts (has_samples g a) (has_samples g b) f).1)
from g full (fails_neither {a = a} {b = b} {ts = ts} h) f = here g (Either a b) ts ts Unexpected elsewhere
from g full (fails_turn {a = a} {ts = ts} {us = us} {why = why} h p) f = wider g a (Many a) ts us why (λ d front l. leads_turn l) (from g full p f)
from g full (fails_later {a = a} {ts = ts} {us = us} {vs = vs} {x = x} {why = why} h p q) f =
    later g (Many a) (Many a) ts us vs x why (takes-leaves g p) (λ d front l. leads_later (fits-lax g (takes-fits g p)) l) (from g full q f)
from g full (fails_node {k = k} {ts = ts} {us = us} {why = why} p) f =
    wider g (row g k).rule (Sym k) ts us why (λ d front l. leads_node l) (from g full p (samples-at g g.rows k full))
from g full (fails_check {k = k} {ts = ts} {us = us} {x = x} p h) f = here g (Sym k) ts us (RejectedNode k) (at_check p h)

lax-begins : (g : Grammar) (e : Expr) (ts : List Token) → Begins (unchecked g) e ts → Begins (lax g) e ts
lax-begins g e ts b = (b.0, b.1, (fits-lax (unchecked g) b.2.0, b.2.1))

-- if no list continues front with the token u, no list begins with front, u and any other tokens
begins-past : (g : Grammar) (e : Expr) (front us more : List Token) (u : Token) → Ends g e front (peek us) → us ≡ u ∷ more → (l : List Token)
    → Begins g e (front ++ u ∷ l) → ⊥
begins-past g e front us more u n h l b = n b.0 ((u ∷ l) ++ b.1) (b.2.0, sym (append_assoc front (u ∷ l) b.1) ∙ b.2.1) (sym (ap peek h))

-- a node that is taken is as long as possible: no list of its symbol extends it with the next item
module _ (g : Grammar) (ok : is_ll1 g.rows ≡ true) where
  in_node : (k : ℕ) (ts : List Token) (y : ParseTree) → Fits (lax g) (Sym k) y → ts ≡ leaves y
      → (z : ParseTree) × Fits (lax g) (row g k).rule z × (ts ≡ leaves z)
  in_node k ts _ (fits_node {x = z} w c) i = (z, w, i)

  pub stopped : (k : ℕ) (x : ParseTree) (ts us : List Token) → Takes g (row g k).rule ts x us → StopsBefore (lax g) (Sym k) (leaves x) us
  stopped k x ts us w u rest i b =
      let z = in_node k ((leaves x ++ u ∷ []) ++ b.1) b.0 b.2.0 b.2.1 in
      let r = taken-ends (lax g) ok (row g k).rule (IsRow-each g.rows ok k).decides ts us x (takes-lax g w) z.0 (u ∷ b.1)
      (z.1, sym (append_assoc (leaves x) (u ∷ []) b.1) ∙ z.2) (sym (ap peek i)) in
      not_empty u b.1 r.1
    where
      not_empty : (v : Token) (vs : List Token) → v ∷ vs ≡ [] → ⊥
      not_empty v vs j = cc

  -- a node that is taken and does not pass its check is rejected
  pub node_here : RejectsTokens g → (k : ℕ) (x : ParseTree) (ts us : List Token) → Takes g (row g k).rule ts x us → g.check k x ≡ false
      → IsRejected g (Sym k) ts k x [] us
  node_here tokens k x ts us w bad =
      let fits = takes-fits g w in
      (takes-leaves g w, (λ i. tokens k x fits bad i), leads_here, fits, bad, stopped k x ts us w)

module _ (g : Grammar) (ok : is_ll1 g.rows ≡ true) (full : is_productive g ≡ true) (tight : is_tight g.rows ≡ true) (e : Expr) (d : decides g.rows e ≡ true)
    (f : has_samples g e ≡ true) where
  -- the reader's error, of index n, is before one of index m, or is the same
  abbrev Before : List Token → Reason → List Token → Reason → ℕ → Type 0
  Before ts why us other m = (length ts + step why < m + length us) ⊎ ((length ts + step why ≡ m + length us) × (why ≡ other))

  pub sees_leaf : (c : Class) (u : Token) (us : List Token) → matches c u ≡ true → sees (first g.rows (One c)) (peek (u ∷ us)) ≡ true
  sees_leaf c u us m = or_left (matches c u) false m

  pub sees_node : (k : ℕ) (x : ParseTree) (us : List Token) → Fits g (row g k).rule x → (leaves x ≡ [] → ⊥)
      → sees (first g.rows (Sym k)) (peek (leaves x ++ us)) ≡ true
  sees_node k x us p n = go (leaves x) refl
    where
      go : (xs : List Token) → leaves x ≡ xs → sees (first g.rows (Sym k)) (peek (xs ++ us)) ≡ true
      go [] i = absurd (n i)
      go (t ∷ xs) i = fits-first (lax g) ok (fits_node {k = k} {x = x} (fits-lax g p) refl) t (ap peek i)

  pub node_takes : (k : ℕ) (x : ParseTree) (us : List Token) → Fits g (row g k).rule x → StopsBefore (lax g) (Sym k) (leaves x) us
      → Takes g (row g k).rule (leaves x ++ us) x us
  node_takes k x us p n =
      stops g ok full tight p (IsRow-each g.rows ok k).decides (samples-at g g.rows k full) us (λ u rest h b. n u rest h
      (begins-around (lax g) (row g k).rule (Sym k) (leaves x ++ u ∷ []) (Node k) [] (λ z w. fits_node w refl) (λ z. sym (append-nil (leaves z))) b))

  pub node_fails : (k : ℕ) (x : ParseTree) (us : List Token) → Fits g (row g k).rule x → g.check k x ≡ false → StopsBefore (lax g) (Sym k) (leaves x) us
      → Fails g (Sym k) (leaves x ++ us) (RejectedNode k) us
  node_fails k x us p c n = fails_check (node_takes k x us p n) c

  pub positive : (xs : List Token) → (xs ≡ [] → ⊥) → 0 < length xs
  positive [] n = absurd (n refl)
  positive (x ∷ xs) n = omega arith

  -- if the reader has taken front0, no unexpected item comes earlier
  pub no_earlier : (ts us front vs front0 : List Token) → ts ≡ front0 ++ us → ts ≡ front ++ vs → Begins (lax g) e front0 → Ends (lax g) e front (peek vs)
      → (length ts < length front + length us) ⊎ ((front0 ≡ front) × (us ≡ vs))
  no_earlier ts us front vs front0 p q b n = go (fronts front0 us front vs (sym p ∙ q))
    where
      equal : (z : List Token) → front0 ≡ front ++ z → vs ≡ z ++ us → (length ts < length front + length us) ⊎ ((front0 ≡ front) × (us ≡ vs))
      equal [] h k = inr (h ∙ append-nil front, sym k)
      equal (u ∷ l) h k = absurd (begins-past (lax g) e front vs (l ++ us) u n k l (subst (Begins (lax g) e) h b))

      go : Fronts front0 us front vs → (length ts < length front + length us) ⊎ ((front0 ≡ front) × (us ≡ vs))
      go (inl i) = equal i.0 i.1 (cancel front vs (i.0 ++ us) (sym q ∙ p ∙ ap (λ (l : List Token). l ++ us) i.1 ∙ append_assoc front i.0 us))
      go (inr i) = inl (omega (arith, ap length p, ap length i.2, length-append front0 us, length-append front0 (i.0 ∷ i.1)))

  unexpected_met : (ts us front vs : List Token) (why : Reason) → Fails g e ts why us → ts ≡ front ++ vs → Ends (lax g) e front (peek vs)
      → Before ts why us Unexpected (suc (length front))
  unexpected_met ts us front vs why h q n = go why refl (no_earlier ts us front vs s.front s.parts q (lax-begins g e s.front s.begins) n)
    where
      s : IsFirstFaultFor g e ts why us
      s = (first_fault g ok full e d f ts us why h).fault

      go : (w : Reason) → why ≡ w → (length ts < length front + length us) ⊎ ((s.front ≡ front) × (us ≡ vs)) → Before ts w us Unexpected (suc (length front))
      go Unexpected i (inl l) = inl (omega (arith, l))
      go (Improper c) i (inl l) = inl (omega (arith, l))
      go (RejectedNode k) i (inl l) = inl (omega (arith, l))
      go Unexpected i (inr j) = inr (omega (arith, ap length s.parts, length-append s.front us, ap length j.0), refl)
      go (RejectedNode k) i (inr j) = inl (omega (arith, ap length s.parts, length-append s.front us, ap length j.0))
      go (Improper c) i (inr j) =
          let v = s.value c i in
          absurd (begins-past (lax g) e front vs v.rest v.token n (sym j.1 ∙ v.is) []
          (subst (λ (l : List Token). Begins (lax g) e (l ++ v.token ∷ [])) j.0 v.begins))

  meets : (t : Text) (why other : Reason) (us : List Token) (m : ℕ) → Fails g e t.tokens why us → IsFault g e t other m → Before t.tokens why us other m
  meets t why _ us _ h (lexical_error b) = go why us refl refl
    where
      s : IsFirstFaultFor g e t.tokens why us
      s = (first_fault g ok full e d f t.tokens us why h).fault

      not_empty : (v : Token) (vs : List Token) → [] ≡ v ∷ vs → ⊥
      not_empty v vs i = cc

      go : (w : Reason) (vs : List Token) → why ≡ w → us ≡ vs → Before t.tokens w vs Unexpected (suc (length t.tokens))
      go Unexpected [] i j = inr (omega arith, refl)
      go Unexpected (v ∷ vs) i j = inl (omega arith)
      go (RejectedNode k) vs i j = inl (omega arith)
      go (Improper c) (v ∷ vs) i j = inl (omega arith)
      go (Improper c) [] i j = let v = s.value c i in absurd (not_empty v.token v.rest (sym j ∙ v.is))
  meets t why _ us _ h (unexpected_item front vs p i b n) = unexpected_met t.tokens us front vs why h p n
  meets t why _ us _ h (leaf_rejected front vs u c p l m n) =
      elim (run-fails g ok l d t.tokens (u ∷ vs) p (sees_leaf c u vs m) h) [
        | inl i ↦ inl (omega (arith, i, ap length p, length-append front (u ∷ vs)))
        | inr o ↦ elim o [
          | inl k ↦ let q = same-fail g k (fails_value {c = c} {t = u} {ts = vs} m n) in inr (again q.0 q.1, q.0)
          | inr k ↦ absurd (take-or_fail g k.2 (fails_value {c = c} {t = u} {ts = vs} m n))
        ]
      ]
    where
      again : why ≡ Improper c → us ≡ u ∷ vs → length t.tokens + step why ≡ suc (length front) + length us
      again i j = omega (arith, ap step i, ap length j, ap length p, length-append front (u ∷ vs))
  meets t why _ us _ h (node_rejected before vs k x (p, ne, l, q, c, n)) =
      let r = node_fails k x vs q c n in
      elim (run-fails g ok l d t.tokens (leaves x ++ vs) p (sees_node k x vs q ne) h) [
        | inl i ↦ inl (omega (arith, i, ap length p, length-append before (leaves x ++ vs), length-append before (leaves x), positive (leaves x) ne))
        | inr o ↦ elim o [
          | inl w ↦ let z = same-fail g w r in inr (again z.0 z.1, z.0)
          | inr w ↦ absurd (take-or_fail g w.2 r)
        ]
      ]
    where
      again : why ≡ RejectedNode k → us ≡ vs → length t.tokens + step why ≡ length (before ++ leaves x) + length us
      again i j =
          omega (
            arith,
            ap step i,
            ap length j,
            ap length p,
            length-append before (leaves x ++ vs),
            length-append before (leaves x),
            length-append (leaves x)
                vs,
          )

  meets-taken : (t : Text) (other : Reason) (us : List Token) (m : ℕ) (z : ParseTree) → Takes g e t.tokens z us → IsFault g e t other m
      → Before t.tokens Unexpected us other m
  meets-taken t _ us _ z h (lexical_error b) = go us
    where
      go : (vs : List Token) → Before t.tokens Unexpected vs Unexpected (suc (length t.tokens))
      go [] = inr (omega arith, refl)
      go (v ∷ vs) = inl (omega arith)
  meets-taken t _ us _ z h (unexpected_item front vs p i b n) =
      elim (no_earlier t.tokens us front vs (leaves z) (takes-leaves g h) p (z, [], (fits-lax g (takes-fits g h), append-nil (leaves z))) n) [
        | inl l ↦ inl (omega (arith, l))
        | inr j ↦ inr (omega (arith, ap length (takes-leaves g h), length-append (leaves z) us, ap length j.0), refl)
      ]
  meets-taken t _ us _ z h (leaf_rejected front vs u c p l m n) =
      let k = run-takes g ok l d t.tokens (u ∷ vs) p (sees_leaf c u vs m) h in
      absurd (take-or_fail g k.2 (fails_value {c = c} {t = u} {ts = vs} m n))
  meets-taken t _ us _ z h (node_rejected before vs k x (p, ne, l, q, c, n)) =
      let w = run-takes g ok l d t.tokens (leaves x ++ vs) p (sees_node k x vs q ne) h in
      absurd (take-or_fail g w.2 (node_fails k x vs q c n))

  no_error : (t : Text) (z : ParseTree) → Takes g e t.tokens z [] → t.ending ≡ InputEnds → (other : Reason) (m : ℕ) → IsFault g e t other m → ⊥
  no_error t z h k _ _ (lexical_error b) = ends_once (sym k ∙ b)
  no_error t z h k _ _ (unexpected_item front vs p i b n) =
      elim (no_earlier t.tokens [] front vs (leaves z) (takes-leaves g h) p (z, [], (fits-lax g (takes-fits g h), append-nil (leaves z))) n) [
        | inl l ↦ omega (arith, l, ap length p, length-append front vs)
        | inr j ↦ n z [] (fits-lax g (takes-fits g h), append-nil front ∙ sym j.0) (ap peek j.1)
      ]
  no_error t z h k _ _ (leaf_rejected front vs u c p l m n) =
      let w = run-takes g ok l d t.tokens (u ∷ vs) p (sees_leaf c u vs m) h in
      take-or_fail g w.2 (fails_value {c = c} {t = u} {ts = vs} m n)
  no_error t z h k _ _ (node_rejected before vs j x (p, ne, l, q, c, n)) =
      let w = run-takes g ok l d t.tokens (leaves x ++ vs) p (sees_node j x vs q ne) h in
      take-or_fail g w.2 (node_fails j x vs q c n)

  -- ---- what the reader returns

  -- the index of the reader's errors
  index_is : (why : Reason) (ts us front : List Token) → ts ≡ front ++ us → index_of why (length ts - length us) ≡ length front + step why
  index_is Unexpected ts us front p = omega (arith, ap length p, length-append front us)
  index_is (Improper c) ts us front p = omega (arith, ap length p, length-append front us)
  index_is (RejectedNode k) ts us front p = omega (arith, ap length p, length-append front us)

  record Decided (t : Text) (why : Reason) (n : ℕ) : Type 0 where
    pub fault : IsFault g e t why n
    pub meets : (other : Reason) (m : ℕ) → IsFault g e t other m → (n < m) ⊎ ((n ≡ m) × (why ≡ other))

  at-index : (t : Text) (why : Reason) (n m : ℕ) → m ≡ n → IsFault g e t why n → IsFault g e t why m
  at-index t why n m h x = subst (λ (i : ℕ). IsFault g e t why i) (sym h) x

  some-or-end : (us : List Token) (ending : Ending) → ((us ≡ []) × (ending ≡ InvalidToken)) ⊎ (us ≡ [] → ending ≡ InputEnds)
  some-or-end (u ∷ us) ending = inr (λ i. absurd cc)
  some-or-end [] InputEnds = inr (λ i. refl)
  some-or-end [] InvalidToken = inl (refl, refl)

  -- an unexpected item, or an invalid token
  at-item : (t : Text) (front us : List Token) → t.tokens ≡ front ++ us → Begins (lax g) e front
      → ((us ≡ [] → t.ending ≡ InputEnds) → Ends (lax g) e front (peek us)) → IsFault g e t Unexpected (suc (length front))
  at-item t front us p b n =
      elim (some-or-end us t.ending) [
        | inl i ↦ at-index t Unexpected (suc (length t.tokens)) (suc (length front)) (omega (arith, ap length p, length-append front us, ap length i.0))
            (lexical_error i.1)
        | inr i ↦ unexpected_item front us p i b (n i)
      ]

  source_value : (c : Class) (d2 : Expr) (rest us : List Token) → Source g d2 rest (Improper c) us
      → (u : Token) × (vs : List Token) × (d2 ≡ One c) × (rest ≡ u ∷ vs) × (us ≡ u ∷ vs) × (matches c u ≡ true) × (g.good c u ≡ false)
  source_value c _ _ _ (at_value {t = t} {ts = ts} m h) = (t, ts, refl, refl, refl, m, h)

  source_check : (k : ℕ) (d2 : Expr) (rest us : List Token) → Source g d2 rest (RejectedNode k) us
      → (x : ParseTree) × (d2 ≡ Sym k) × Takes g (row g k).rule rest x us × (g.check k x ≡ false)
  source_check k _ _ _ (at_check {x = x} t h) = (x, refl, t, h)

  faulted : RejectsTokens g → (t : Text) (why : Reason) (us : List Token) → Fails g e t.tokens why us
      → IsFault g e t why (index_of why (length t.tokens - length us))
  faulted tokens t Unexpected us h =
      let s = (first_fault g ok full e d f t.tokens us Unexpected h).fault in
      at-index t Unexpected (suc (length s.front)) (index_of Unexpected (length t.tokens - length us))
      (omega (arith, index_is Unexpected t.tokens us s.front s.parts))
      (at-item t s.front us s.parts (lax-begins g e s.front s.begins) (λ i. s.unexpected refl))
  faulted tokens t (Improper c) us h =
      let s = from g full h f in
      let v = source_value c s.place s.rest us s.source in
      let p : t.tokens ≡ s.front ++ v.0 ∷ v.1 = s.parts ∙ ap (λ (l : List Token). s.front ++ l) v.3 in
      at-index t (Improper c) (suc (length s.front)) (index_of (Improper c) (length t.tokens - length us))
      (omega (arith, index_is (Improper c) t.tokens us s.front (p ∙ ap (λ (l : List Token). s.front ++ l) (sym v.4))))
      (leaf_rejected s.front v.1 v.0 c p (subst (λ (a : Expr). Leads (lax g) e s.front a) v.2 s.leads) v.5 v.6)
  faulted tokens t (RejectedNode k) us h =
      let s = from g full h f in
      let v = source_check k s.place s.rest us s.source in
      let x = v.0 in
      let fits = takes-fits g v.2 in
      let p : t.tokens ≡ s.front ++ (leaves x ++ us) = s.parts ∙ ap (λ (l : List Token). s.front ++ l) (takes-leaves g v.2) in
      at-index t (RejectedNode k) (length (s.front ++ leaves x)) (index_of (RejectedNode k) (length t.tokens - length us))
      (omega (arith, index_is (RejectedNode k) t.tokens us (s.front ++ leaves x) (p ∙ sym (append_assoc s.front (leaves x) us))))
      (node_rejected s.front us k x
      (p, (λ i. tokens k x fits v.3 i), subst (λ (a : Expr). Leads (lax g) e s.front a) v.1 s.leads, fits, v.3, stopped g ok k x s.rest us v.2))

  -- the same for the place that the reader returns
  before-index : (why : Reason) (ts us front : List Token) → ts ≡ front ++ us → (other : Reason) (m : ℕ) → Before ts why us other m
      → (index_of why (length ts - length us) < m) ⊎ ((index_of why (length ts - length us) ≡ m) × (why ≡ other))
  before-index why ts us front p other m (inl l) = inl (omega (arith, l, index_is why ts us front p, ap length p, length-append front us))
  before-index why ts us front p other m (inr l) = inr (omega (arith, l.0, index_is why ts us front p, ap length p, length-append front us), l.1)

  decided-fails : RejectsTokens g → (t : Text) (why : Reason) (us : List Token) → Fails g e t.tokens why us
      → Decided t why (index_of why (length t.tokens - length us))
  decided-fails tokens t why us h =
      let s = (first_fault g ok full e d f t.tokens us why h).fault in
      record { fault = faulted tokens t why us h; meets = λ other m x. before-index why t.tokens us s.front s.parts other m (meets t why other us m h x) }

  decided-taken : (t : Text) (us : List Token) (z : ParseTree) → Takes g e t.tokens z us → (us ≡ [] → t.ending ≡ InvalidToken)
      → Decided t Unexpected (suc (length t.tokens - length us))
  decided-taken t us z h k =
      let p = takes-leaves g h in
      record {
        fault = at-index t Unexpected (suc (length (leaves z))) (suc (length t.tokens - length us)) (omega (arith, ap length p, length-append (leaves z) us))
            (at-item t (leaves z) us p (z, [], (fits-lax g (takes-fits g h), append-nil (leaves z))) (λ i. ends us h k i));
        meets = λ other m x. before-index Unexpected t.tokens us (leaves z) p other m (meets-taken t other us m z h x);
      }
    where
      ends : (vs : List Token) → Takes g e t.tokens z vs → (vs ≡ [] → t.ending ≡ InvalidToken) → (vs ≡ [] → t.ending ≡ InputEnds)
          → Ends (lax g) e (leaves z) (peek vs)
      ends [] w i j y more b q = absurd (ends_once (sym (j refl) ∙ i refl))
      ends (u ∷ vs) w i j y more b q = absurd (some_peeked more q (taken-ends (lax g) ok e d t.tokens (u ∷ vs) z (takes-lax g w) y more b q).1)

  decided : RejectsTokens g → (ts : List Token) (ending : Ending) (why : Reason) (place : ℕ) (o : Outcome) → ReadsTo g e ts o
      → Rejected why place ≡ result_of (record { tokens = ts; ending = ending }) o
      → Decided (record { tokens = ts; ending = ending }) why (index_of why place)
  decided tokens ts ending why place (Fault other us) r h =
      let w = rejected_is why other place (length ts - length us) h in
      let t : Text = record { tokens = ts; ending = ending } in
      subst (λ (a : Reason). Decided t a (index_of a place)) (sym w.0)
      (subst (λ (i : ℕ). Decided t other (index_of other i)) (sym w.1) (decided-fails tokens t other us r))
  decided tokens ts ending why place (Done z (u ∷ us)) r h =
      let w = rejected_is why Unexpected place (length ts - length (u ∷ us)) h in
      let t : Text = record { tokens = ts; ending = ending } in
      subst (λ (a : Reason). Decided t a (index_of a place)) (sym w.0)
      (subst (λ (i : ℕ). Decided t Unexpected (suc i)) (sym w.1) (decided-taken t (u ∷ us) z r (λ i. absurd cc)))
  decided tokens ts InputEnds why place (Done z []) r h = absurd cc
  decided tokens ts InvalidToken why place (Done z []) r h =
      let w = rejected_is why Unexpected place (length ts) h in
      let t : Text = record { tokens = ts; ending = InvalidToken } in
      let n : suc place ≡ suc (length ts - length {A = Token} []) = omega (arith, w.1) in
      subst (λ (a : Reason). Decided t a (index_of a place)) (sym w.0) (subst (λ (i : ℕ). Decided t Unexpected i) (sym n) (decided-taken t [] z r (λ i. refl)))

  no_fault_in_tree : (ts : List Token) (ending : Ending) (x : ParseTree) (o : Outcome) → ReadsTo g e ts o
      → Tree x ≡ result_of (record { tokens = ts; ending = ending }) o
      → (other : Reason) (m : ℕ) → IsFault g e (record { tokens = ts; ending = ending }) other m → ⊥
  no_fault_in_tree ts ending x (Fault why us) r h = absurd cc
  no_fault_in_tree ts ending x (Done z (u ∷ us)) r h = absurd cc
  no_fault_in_tree ts InputEnds x (Done z []) r h = λ other m y. no_error (record { tokens = ts; ending = InputEnds }) z r refl other m y
  no_fault_in_tree ts InvalidToken x (Done z []) r h = absurd cc

  least_is : (t : Text) (why other : Reason) (n m : ℕ) → Decided t why n → IsLeast g e t other m → (why ≡ other) × (n ≡ m)
  least_is t why other n m x y =
      let l = y.1 why n x.fault in
      elim (x.meets other m y.0) [
        | inl i ↦ absurd (omega (arith, i, l))
        | inr i ↦ (i.1, i.0)
      ]

  pub returns_first_error : RejectsTokens g → ((t : Text) (why other : Reason) (n : ℕ) → IsFault g e t why n → IsFault g e t other n → why ≡ other)
      → ReturnsFirstError g g e
  returns_first_error tokens one_index = record {
    one_index = one_index;
    tree = λ t x a why n y. no_fault_in_tree t.tokens t.ending x a.0 a.1 a.2 why n y;
    wrong =
        λ t why place a. let x =
        decided tokens t.tokens t.ending why place a.0 a.1 a.2 in (x.fault, λ other m y. no_later (index_of why place) m (x.meets other m y));
    one = λ t why other m n x y. let a = outcome_of g ok e d t.tokens in one_of t why other m n x y (result_of t a.0) a.0 a.1 refl;
  }
    where
      no_later : {why other : Reason} (n m : ℕ) → ((n < m) ⊎ ((n ≡ m) × (why ≡ other))) → n ≤ m
      no_later n m (inl i) = omega (arith, i)
      no_later n m (inr i) = omega (arith, i.0)

      one_of : (t : Text) (why other : Reason) (m n : ℕ) → IsLeast g e t why m → IsLeast g e t other n → (a : WholeResult) (o : Outcome) → ReadsTo g e t.tokens o
          → a ≡ result_of t o → (why ≡ other) × (m ≡ n)
      one_of t why other m n x y (Tree z) o r h = absurd (no_fault_in_tree t.tokens t.ending z o r h why m x.0)
      one_of t why other m n x y (Rejected w place) o r h =
          let u = decided tokens t.tokens t.ending w place o r h in
          let p = least_is t w why (index_of w place) m u x in
          let q = least_is t w other (index_of w place) n u y in
          (sym p.0 ∙ q.0, sym p.1 ∙ q.1)
