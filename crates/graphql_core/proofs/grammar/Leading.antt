-- If a place in a tree comes next, the reader reaches it, or has failed before it.
use Rattle.std.proofs.Common.{◌≡◌, ℕ, ◌+◌, ◌≤◌, Bool, true, false, List, [], ◌∷◌, ◌++◌, length, Option, Some, None, refl, sym, ap, subst, ◌∙◌, append_assoc}
use Rattle.std.proofs.Common.{length-append, arith, inl, inr, ◌⊎◌}
use Rattle.std.proofs.lemmas.Bool.{both_ways}
use Rattle.graphql_core.specs.{Token, Class, all_apart, Expr, Then, Many, ParseTree, Grammar, row, leaves, peek, Fits, only_if, nullable, first, cont, decides}
use Rattle.graphql_core.specs.{is_ll1, sees, choose, Left, Right, Takes, takes_nothing, takes_leaf, takes_both, takes_first, takes_second, takes_stop}
use Rattle.graphql_core.specs.{takes_more, takes_node, Reason, RejectedNode, Fails, fails_one, fails_value, fails_before, fails_after, fails_first, fails_second}
use Rattle.graphql_core.specs.{fails_neither, fails_turn, fails_later, fails_node, fails_check, lax, leads_here, leads_before, leads_after, leads_first}
use Rattle.graphql_core.specs.{leads_second, leads_turn, leads_later, leads_node, Leads}
use Rattle.graphql_core.proofs.grammar.Classes.{all_within-sound, in_any-left, in_any-right}
use Rattle.graphql_core.proofs.grammar.Items.{sees-apart}
use Rattle.graphql_core.proofs.grammar.Sound.{takes-leaves}
use Rattle.graphql_core.proofs.grammar.Complete.{IsRow-each, fits-nullable, fits-first, both, either, many, complete}
use Rattle.graphql_core.proofs.grammar.Deterministic.{same-take, take-or_fail, left_right, left_neither, right_neither}
use Rattle.graphql_core.proofs.grammar.FirstFault.{takes-lax}

sees-left : (cs ds : List Class) (item : Option Token) → sees cs item ≡ true → sees (cs ++ ds) item ≡ true
sees-left cs ds None h = absurd cc
sees-left cs ds (Some t) h = in_any-left cs ds t h

sees-right : (cs ds : List Class) (item : Option Token) → sees ds item ≡ true → sees (cs ++ ds) item ≡ true
sees-right cs ds None h = absurd cc
sees-right cs ds (Some t) h = in_any-right cs ds t h

sees-if : (b : Bool) (cs : List Class) (item : Option Token) → b ≡ true → sees cs item ≡ true → sees (only_if b cs) item ≡ true
sees-if true cs item k h = h
sees-if false cs item k h = absurd cc

-- errors for this reason are counted at the last token before, the others at the next item
abbrev pub step : Reason → ℕ
step (RejectedNode k) = 0
step why = 1

module _ (g : Grammar) (ok : is_ll1 g.rows ≡ true) where
  pub leads-first : {e d : Expr} {front : List Token} → Leads (lax g) e front d → (rest : List Token) → sees (first g.rows d) (peek rest) ≡ true
      → sees (first g.rows e) (peek (front ++ rest)) ≡ true
  leads-first leads_here rest h = h
  leads-first (leads_before {a} {b} {ts = ts} l f) rest h =
      sees-left (first g.rows a) (only_if (nullable g.rows a) (first g.rows b)) (peek (ts ++ rest)) (leads-first l rest h)
  leads-first (leads_after {a} {b} {ts = ts} {x = x} f l) rest h = go (leads-first l rest h) (leaves x) refl
    where
      go : sees (first g.rows b) (peek (ts ++ rest)) ≡ true → (xs : List Token) → leaves x ≡ xs
          → sees (first g.rows (Then a b)) (peek ((xs ++ ts) ++ rest)) ≡ true
      go r [] i =
          sees-right (first g.rows a) (only_if (nullable g.rows a) (first g.rows b)) (peek (ts ++ rest))
          (sees-if (nullable g.rows a) (first g.rows b) (peek (ts ++ rest)) (fits-nullable (lax g) ok f i) r)
      go r (t ∷ xs) i = sees-left (first g.rows a) (only_if (nullable g.rows a) (first g.rows b)) (Some t) (fits-first (lax g) ok f t (ap peek i))
  leads-first (leads_first {a} {b} {ts = ts} l) rest h = sees-left (first g.rows a) (first g.rows b) (peek (ts ++ rest)) (leads-first l rest h)
  leads-first (leads_second {a} {b} {ts = ts} l) rest h = sees-right (first g.rows a) (first g.rows b) (peek (ts ++ rest)) (leads-first l rest h)
  leads-first (leads_turn l) rest h = leads-first l rest h
  leads-first (leads_later {a} {ts = ts} {x = x} f l) rest h = go (leads-first l rest h) (leaves x) refl
    where
      go : sees (first g.rows a) (peek (ts ++ rest)) ≡ true → (xs : List Token) → leaves x ≡ xs → sees (first g.rows a) (peek ((xs ++ ts) ++ rest)) ≡ true
      go r [] i = r
      go r (t ∷ xs) i = fits-first (lax g) ok f t (ap peek i)
  leads-first (leads_node {k} {ts = ts} l) rest h = sees_row (peek (ts ++ rest)) (leads-first l rest h)
    where
      sees_row : (item : Option Token) → sees (first g.rows (row g k).rule) item ≡ true → sees (row g k).first item ≡ true
      sees_row None i = absurd cc
      sees_row (Some t) i = all_within-sound (first g.rows (row g k).rule) (row g k).first t (IsRow-each g.rows ok k).first i

  -- what comes before in the plain grammar is what the reader takes
  pub same_rest : (a : Expr) → decides g.rows a ≡ true → (ts us w : List Token) (x y : ParseTree) → Takes g a ts x us → Fits (lax g) a y → ts ≡ leaves y ++ w
      → sees (cont g.rows a) (peek w) ≡ false → us ≡ w
  same_rest a d ts us w x y p f e n =
      (same-take (lax g) (takes-lax g p) (subst (λ (l : List Token). Takes (lax g) a l y w) (sym e) (complete (lax g) ok f d w n))).1

  pub goes-left : (a b : Expr) (item : Option Token) → sees (first g.rows a) item ≡ true → choose g.rows a b item ≡ Left
  goes-left a b item h = rw h refl

  pub goes-right : (a b : Expr) (item : Option Token) → all_apart (first g.rows a) (first g.rows b) ≡ true → sees (first g.rows b) item ≡ true
      → choose g.rows a b item ≡ Right
  goes-right a b item p h = rw (sees-apart (first g.rows a) (first g.rows b) item p h, h) refl

  pub run-takes : {e d : Expr} {front : List Token} → Leads (lax g) e front d → decides g.rows e ≡ true → (ts rest : List Token) → ts ≡ front ++ rest
      → sees (first g.rows d) (peek rest) ≡ true
      → {x : ParseTree} {us : List Token} → Takes g e ts x us → (z : ParseTree) × (vs : List Token) × Takes g d rest z vs
  run-takes (leads_here {e}) dc ts rest h s {x} {us} t = (x, us, subst (λ (l : List Token). Takes g e l x us) h t)
  run-takes (leads_before {a} {b} l f) dc ts rest h s (takes_both p q) = run-takes l (both g a b dc).0 ts rest h s p
  run-takes (leads_after {a} {b} {ts = fr} {x = x} f l) dc ts rest h s (takes_both {us = vs} {x = z} p q) =
      let i = both g a b dc in
      let w = same_rest a i.0 ts vs (fr ++ rest) z x p f (h ∙ append_assoc (leaves x) fr rest)
      (sees-apart (cont g.rows a) (first g.rows b) (peek (fr ++ rest)) i.2 (leads-first l rest s)) in
      run-takes l i.1 vs rest w s q
  run-takes (leads_first {a} {b} l) dc ts rest h s (takes_first c p) = run-takes l (either g a b dc).0 ts rest h s p
  run-takes (leads_first {a} {b} l) dc ts rest h s (takes_second c p) =
      absurd (left_right (goes-left a b (peek ts) (ap (λ (m : List Token). sees (first g.rows a) (peek m)) h ∙ leads-first l rest s)) c)
  run-takes (leads_second {a} {b} l) dc ts rest h s (takes_first c p) =
      absurd (left_right c (goes-right a b (peek ts) (either g a b dc).2 (ap (λ (m : List Token). sees (first g.rows b) (peek m)) h
      ∙ leads-first l rest s)))
  run-takes (leads_second {a} {b} l) dc ts rest h s (takes_second c p) = run-takes l (either g a b dc).1 ts rest h s p
  run-takes (leads_turn {a} l) dc ts rest h s (takes_stop c) =
      absurd (both_ways (sees (first g.rows a) (peek ts)) c (ap (λ (m : List Token). sees (first g.rows a) (peek m)) h ∙ leads-first l rest s))
  run-takes (leads_turn {a} l) dc ts rest h s (takes_more c p q) = run-takes l (many g a dc).0 ts rest h s p
  run-takes (leads_later {a} {ts = fr} {x = x} f l) dc ts rest h s (takes_stop c) =
      absurd (both_ways (sees (first g.rows a) (peek ts)) c (ap (λ (m : List Token). sees (first g.rows a) (peek m)) h ∙ leads-first (leads_later f l) rest s))
  run-takes (leads_later {a} {ts = fr} {x = x} f l) dc ts rest h s (takes_more {us = vs} {x = z} c p q) =
      let i = many g a dc in
      let w = same_rest a i.0 ts vs (fr ++ rest) z x p f (h ∙ append_assoc (leaves x) fr rest)
      (sees-apart (cont g.rows a) (first g.rows a) (peek (fr ++ rest)) i.2 (leads-first l rest s)) in
      run-takes l dc vs rest w s q
  run-takes (leads_node {k} l) dc ts rest h s (takes_node p c) = run-takes l (IsRow-each g.rows ok k).decides ts rest h s p

-- if the plain grammar takes a list, an error is within that list
pub fails-within : (g : Grammar) {e : Expr} {ts us vs : List Token} {x : ParseTree} {why : Reason} → Takes (lax g) e ts x vs → Fails g e ts why us
    → length vs + step why ≤ length us
fails-within g takes_nothing f = elim f [ ]
fails-within g (takes_leaf {c = c} {t = t} {ts = ts} h) (fails_one k) =
    absurd (take-or_fail (lax g) {us = ts} {vs = t ∷ ts} (takes_leaf {c = c} {t = t} {ts = ts} h) (fails_one {c = c} {ts = t ∷ ts} k))
fails-within g (takes_leaf h) (fails_value m k) = omega arith
fails-within g (takes_both {us = us} {vs = vs} {y = y} p q) (fails_before r) =
    omega (arith, fails-within g p r, ap length (takes-leaves (lax g) q), length-append (leaves y) vs)
fails-within g (takes_both {b = b} {vs = ws} {y = y} p q) (fails_after {vs = vs} {why = why} r s) =
    fails-within g q (subst (λ (l : List Token). Fails g b l why vs) (same-take (lax g) (takes-lax g r) p).1 s)
fails-within g (takes_first h p) (fails_first k q) = fails-within g p q
fails-within g (takes_first {a = a} {b = b} {ts = ts} h p) (fails_second k q) = absurd (left_right h k)
fails-within g (takes_first {a = a} {b = b} {ts = ts} h p) (fails_neither k) =
    absurd (take-or_fail (lax g) (takes_first {a = a} {b = b} h p) (fails_neither {a = a} {b = b} {ts = ts} k))
fails-within g (takes_second {a = a} {b = b} {ts = ts} h p) (fails_first k q) = absurd (left_right k h)
fails-within g (takes_second h p) (fails_second k q) = fails-within g p q
fails-within g (takes_second {a = a} {b = b} {ts = ts} h p) (fails_neither k) =
    absurd (take-or_fail (lax g) (takes_second {a = a} {b = b} h p) (fails_neither {a = a} {b = b} {ts = ts} k))
fails-within g (takes_stop h) (fails_turn k q) = absurd (both_ways _ h k)
fails-within g (takes_stop h) (fails_later k q r) = absurd (both_ways _ h k)
fails-within g (takes_more {us = us} {vs = vs} {y = y} h p q) (fails_turn k r) =
    omega (arith, fails-within g p r, ap length (takes-leaves (lax g) q), length-append (leaves y) vs)
fails-within g (takes_more {a = a} h p q) (fails_later {vs = vs} {why = why} k r s) =
    fails-within g q (subst (λ (l : List Token). Fails g (Many a) l why vs) (same-take (lax g) (takes-lax g r) p).1 s)
fails-within g (takes_node p c) (fails_node q) = fails-within g p q
fails-within g (takes_node p c) (fails_check q d) = let e = (same-take (lax g) (takes-lax g q) p).1 in omega (arith, ap length e)

module _ (g : Grammar) (ok : is_ll1 g.rows ≡ true) where
  -- What reading e results in, if d is at rest: an earlier error, the error of d, or a tree of d.
  abbrev Comes : Expr → List Token → Reason → List Token → Type 0
  Comes d rest why us = (length rest + step why ≤ length us) ⊎ (Fails g d rest why us ⊎ ((z : ParseTree) × (vs : List Token) × Takes g d rest z vs))

  pub run-fails : {e d : Expr} {front : List Token} → Leads (lax g) e front d → decides g.rows e ≡ true → (ts rest : List Token) → ts ≡ front ++ rest
      → sees (first g.rows d) (peek rest) ≡ true
      → {why : Reason} {us : List Token} → Fails g e ts why us → Comes d rest why us
  run-fails (leads_here {e}) dc ts rest h s {why} {us} t = inr (inl (subst (λ (l : List Token). Fails g e l why us) h t))
  run-fails (leads_before {a} {b} l f) dc ts rest h s (fails_before p) = run-fails l (both g a b dc).0 ts rest h s p
  run-fails (leads_before {a} {b} l f) dc ts rest h s (fails_after p q) = inr (inr (run-takes g ok l (both g a b dc).0 ts rest h s p))
  run-fails (leads_after {a} {b} {ts = fr} {x = x} f l) dc ts rest h s {why} {us} (fails_before p) =
      let i = both g a b dc in
      let n = sees-apart (cont g.rows a) (first g.rows b) (peek (fr ++ rest)) i.2 (leads-first g ok l rest s) in
      let t = complete (lax g) ok f i.0 (fr ++ rest) n in
      let p2 = subst (λ (m : List Token). Fails g a m why us) (h ∙ append_assoc (leaves x) fr rest) p in
      inl (omega (arith, fails-within g t p2, length-append fr rest))
  run-fails (leads_after {a} {b} {ts = fr} {x = x} f l) dc ts rest h s (fails_after {us = vs} {x = z} p q) =
      let i = both g a b dc in
      let w = same_rest g ok a i.0 ts vs (fr ++ rest) z x p f (h ∙ append_assoc (leaves x) fr rest)
      (sees-apart (cont g.rows a) (first g.rows b) (peek (fr ++ rest)) i.2 (leads-first g ok l rest s)) in
      run-fails l i.1 vs rest w s q
  run-fails (leads_first {a} {b} l) dc ts rest h s (fails_first c p) = run-fails l (either g a b dc).0 ts rest h s p
  run-fails (leads_first {a} {b} l) dc ts rest h s (fails_second c p) =
      absurd (left_right (goes-left g ok a b (peek ts) (ap (λ (m : List Token). sees (first g.rows a) (peek m)) h ∙ leads-first g ok l rest s))
      c)
  run-fails (leads_first {a} {b} l) dc ts rest h s (fails_neither c) =
      absurd (left_neither (goes-left g ok a b (peek ts) (ap (λ (m : List Token). sees (first g.rows a) (peek m)) h ∙ leads-first g ok l rest s)) c)
  run-fails (leads_second {a} {b} l) dc ts rest h s (fails_first c p) =
      absurd (left_right c (goes-right g ok a b (peek ts) (either g a b dc).2
      (ap (λ (m : List Token). sees (first g.rows b) (peek m)) h ∙ leads-first g ok l rest s)))
  run-fails (leads_second {a} {b} l) dc ts rest h s (fails_second c p) = run-fails l (either g a b dc).1 ts rest h s p
  run-fails (leads_second {a} {b} l) dc ts rest h s (fails_neither c) =
      absurd (right_neither (goes-right g ok a b (peek ts) (either g a b dc).2
      (ap (λ (m : List Token). sees (first g.rows b) (peek m)) h ∙ leads-first g ok l rest s)) c)
  run-fails (leads_turn {a} l) dc ts rest h s (fails_turn c p) = run-fails l (many g a dc).0 ts rest h s p
  run-fails (leads_turn {a} l) dc ts rest h s (fails_later c p q) = inr (inr (run-takes g ok l (many g a dc).0 ts rest h s p))
  run-fails (leads_later {a} {ts = fr} {x = x} f l) dc ts rest h s {why} {us} (fails_turn c p) =
      let i = many g a dc in
      let n = sees-apart (cont g.rows a) (first g.rows a) (peek (fr ++ rest)) i.2 (leads-first g ok l rest s) in
      let t = complete (lax g) ok f i.0 (fr ++ rest) n in
      let p2 = subst (λ (m : List Token). Fails g a m why us) (h ∙ append_assoc (leaves x) fr rest) p in
      inl (omega (arith, fails-within g t p2, length-append fr rest))
  run-fails (leads_later {a} {ts = fr} {x = x} f l) dc ts rest h s (fails_later {us = vs} {x = z} c p q) =
      let i = many g a dc in
      let w = same_rest g ok a i.0 ts vs (fr ++ rest) z x p f (h ∙ append_assoc (leaves x) fr rest)
      (sees-apart (cont g.rows a) (first g.rows a) (peek (fr ++ rest)) i.2 (leads-first g ok l rest s)) in
      run-fails l dc vs rest w s q
  run-fails (leads_node {k} l) dc ts rest h s (fails_node p) = run-fails l (IsRow-each g.rows ok k).decides ts rest h s p
  run-fails (leads_node {k} l) dc ts rest h s (fails_check p c) = inr (inr (run-takes g ok l (IsRow-each g.rows ok k).decides ts rest h s p))
