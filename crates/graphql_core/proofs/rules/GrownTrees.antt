-- What an earlier grammar derives, a later one derives, if the rules grow.
use Rattle.std.proofs.Common.{◌≡◌, ◌<◌, ℕ, zero, suc, true, ◌&&◌, List, [], ◌∷◌, ◌++◌, length, Option, Some, None, refl, sym, ap, ap₂, subst, ◌∙◌, arith}
use Rattle.std.proofs.Common.{append-nil, ◌⊎◌, inl, inr}
use Rattle.std.proofs.lemmas.Bool.{and_parts}
use Rattle.graphql_core.specs.{Token, Class, matches, Expr, Then, Either, Many, Sym, ParseTree, Grammar, row, accepts, leaves, Derives, Fits, fits_nothing}
use Rattle.graphql_core.specs.{fits_leaf, fits_both, fits_first, fits_second, fits_stop, fits_more, fits_node, has_tree, is_below, Growth, Same, InParts}
use Rattle.graphql_core.specs.{InSides, InTurns, Before, After, AsFirst, AsSecond, later_tree, growth_at, either_way, grown, same_rule, no_tokens, has_empty}
use Rattle.graphql_core.specs.{grows, is_none, is_whole, rule_grows, rules_grow, Grows}
use Rattle.graphql_core.proofs.rules.Unchanged.{same_rule-true}
use Rattle.graphql_core.proofs.grammar.{fits-from_test}
use Rattle.graphql_core.proofs.rules.Extending.{below_is}

empty-is : (ts : List Token) → no_tokens ts ≡ true → ts ≡ []
empty-is [] h = refl
empty-is (t ∷ ts) h = absurd cc

-- ---- one rule

module _ (h : Grammar) where
  put-fits : (p : Growth) (e f : Expr) {x : ParseTree} → grows h p e f ≡ true → Fits h e x → Fits h f (later_tree p x)
  put-fits Same e f {x} w fit = subst (λ (d : Expr). Fits h d x) (same_rule-true e f w) fit
  put-fits (InParts p q) (Then a b) (Then c d) w (fits_both l r) =
      let s = and_parts (grows h p a c) (grows h q b d) w in
      fits_both (put-fits p a c s.0 l) (put-fits q b d s.1 r)
  put-fits (InSides p q) (Either a b) (Either c d) w (fits_first l) = fits_first (put-fits p a c (and_parts (grows h p a c) (grows h q b d) w).0 l)
  put-fits (InSides p q) (Either a b) (Either c d) w (fits_second r) = fits_second (put-fits q b d (and_parts (grows h p a c) (grows h q b d) w).1 r)
  put-fits (InTurns p) (Many a) (Many c) w fits_stop = fits_stop
  put-fits (InTurns p) (Many a) (Many c) w (fits_more l r) = fits_more (put-fits p a c w l) (put-fits (InTurns p) (Many a) (Many c) w r)
  put-fits (Before z p) e (Then c d) w fit =
      let s = and_parts (has_empty h c z) (grows h p e d) w in
      fits_both (fits-from_test h c z (and_parts (has_tree h c z) (no_tokens (leaves z)) s.0).0) (put-fits p e d s.1 fit)
  put-fits (After p z) e (Then c d) w fit =
      let s = and_parts (grows h p e c) (has_empty h d z) w in
      fits_both (put-fits p e c s.0 fit) (fits-from_test h d z (and_parts (has_tree h d z) (no_tokens (leaves z)) s.1).0)
  put-fits (AsFirst p) e (Either c d) w fit = fits_first (put-fits p e c w fit)
  put-fits (AsSecond p) e (Either c d) w fit = fits_second (put-fits p e d w fit)
  put-fits _ _ _ w fit = absurd cc

  put-leaves : (p : Growth) (e f : Expr) {x : ParseTree} → grows h p e f ≡ true → Fits h e x → leaves (later_tree p x) ≡ leaves x
  put-leaves Same e f w fit = refl
  put-leaves (InParts p q) (Then a b) (Then c d) w (fits_both l r) =
      let s = and_parts (grows h p a c) (grows h q b d) w in
      ap₂ (λ (ts us : List Token). ts ++ us) (put-leaves p a c s.0 l) (put-leaves q b d s.1 r)
  put-leaves (InSides p q) (Either a b) (Either c d) w (fits_first l) = put-leaves p a c (and_parts (grows h p a c) (grows h q b d) w).0 l
  put-leaves (InSides p q) (Either a b) (Either c d) w (fits_second r) = put-leaves q b d (and_parts (grows h p a c) (grows h q b d) w).1 r
  put-leaves (InTurns p) (Many a) (Many c) w fits_stop = refl
  put-leaves (InTurns p) (Many a) (Many c) w (fits_more l r) =
      ap₂ (λ (ts us : List Token). ts ++ us) (put-leaves p a c w l) (put-leaves (InTurns p) (Many a) (Many c) w r)
  put-leaves (Before z p) e (Then c d) w fit =
      let s = and_parts (has_empty h c z) (grows h p e d) w in
      ap₂ (λ (ts us : List Token). ts ++ us) (empty-is (leaves z) (and_parts (has_tree h c z) (no_tokens (leaves z)) s.0).1) (put-leaves p e d s.1 fit)
  put-leaves (After p z) e (Then c d) {x} w fit =
      let s = and_parts (grows h p e c) (has_empty h d z) w in
      ap₂ (λ (ts us : List Token). ts ++ us) (put-leaves p e c s.0 fit) (empty-is (leaves z) (and_parts (has_tree h d z) (no_tokens (leaves z)) s.1).1)
      ∙ append-nil (leaves x)
  put-leaves (AsFirst p) e (Either c d) w fit = put-leaves p e c w fit
  put-leaves (AsSecond p) e (Either c d) w fit = put-leaves p e d w fit
  put-leaves _ _ _ w fit = absurd cc

-- ---- all rules

record RuleGrows (ps : List (Option Growth)) (g h : Grammar) (k : ℕ) : Type 0 where
  pub closed : is_below (length g.rows) (row g k).rule ≡ true
  pub grows : rule_grows ps h (growth_at ps k) (row g k).rule (row h k).rule ≡ true

rule-at : (ps : List (Option Growth)) (g h : Grammar) (n k : ℕ) → rules_grow ps g h n ≡ true → k < n → RuleGrows ps g h k
rule-at ps g h zero k w l = absurd (omega arith)
rule-at ps g h (suc n) k w l =
    let s = and_parts (is_below (length g.rows) (row g n).rule && rule_grows ps h (growth_at ps n) (row g n).rule (row h n).rule) (rules_grow ps g h n) w in
    let q = and_parts (is_below (length g.rows) (row g n).rule) (rule_grows ps h (growth_at ps n) (row g n).rule (row h n).rule) s.0 in
    let last : RuleGrows ps g h n = record { closed = q.0; grows = q.1 } in
    elim (last_or_before k n l) [
      | inl e ↦ subst (RuleGrows ps g h) (sym e) last
      | inr b ↦ rule-at ps g h n k s.1 b
    ]
  where
    last_or_before : (k n : ℕ) → k < suc n → (k ≡ n) ⊎ (k < n)
    last_or_before zero zero l = inl refl
    last_or_before zero (suc n) l = inr (omega arith)
    last_or_before (suc k) zero l = absurd (omega arith)
    last_or_before (suc k) (suc n) l = elim (last_or_before k n (omega arith)) [
      | inl e ↦ inl (ap suc e)
      | inr b ↦ inr (omega (arith, b))
    ]

module _ (ps : List (Option Growth)) (g h : Grammar) (w : Grows ps g h) where
  abbrev Below : Expr → Type 0
  Below e = is_below (length g.rows) e ≡ true

  at-symbol : (k : ℕ) → Below (Sym k) → RuleGrows ps g h k
  at-symbol k b = rule-at ps g h (length g.rows) k w.rules (below_is k (length g.rows) b)

  accepts-on : (c : Class) (t : Token) → accepts g c t ≡ true → accepts h c t ≡ true
  accepts-on c t a = let s = and_parts (matches c t) (g.good c t) a in rw (s.0, w.good c t s.1) refl

  -- a symbol whose trees have no new parts
  whole-rule : (p : Option Growth) (e f : Expr) → is_none p ≡ true → rule_grows ps h p e f ≡ true → (e ≡ f) × (is_whole ps e ≡ true)
  whole-rule None e f i r = let s = and_parts (same_rule e f) (is_whole ps e) r in (same_rule-true e f s.0, s.1)
  whole-rule (Some p) e f i r = absurd cc

  whole-way : (p : Option Growth) (x y : ParseTree) → is_none p ≡ true → either_way p x y ≡ x
  whole-way None x y i = refl
  whole-way (Some p) x y i = absurd cc

  whole-fits : {e : Expr} {x : ParseTree} → Fits g e x → Below e → is_whole ps e ≡ true → Fits h e x
  whole-fits fits_nothing b i = fits_nothing
  whole-fits (fits_leaf {c} {t} a) b i = fits_leaf (accepts-on c t a)
  whole-fits (fits_both {a = p} {b = q} l r) b i =
      let s = and_parts (is_below (length g.rows) p) (is_below (length g.rows) q) b in
      let j = and_parts (is_whole ps p) (is_whole ps q) i in
      fits_both (whole-fits l s.0 j.0) (whole-fits r s.1 j.1)
  whole-fits (fits_first {a = p} {b = q} l) b i =
      let s = and_parts (is_below (length g.rows) p) (is_below (length g.rows) q) b in
      fits_first (whole-fits l s.0 (and_parts (is_whole ps p) (is_whole ps q) i).0)
  whole-fits (fits_second {a = p} {b = q} r) b i =
      let s = and_parts (is_below (length g.rows) p) (is_below (length g.rows) q) b in
      fits_second (whole-fits r s.1 (and_parts (is_whole ps p) (is_whole ps q) i).1)
  whole-fits fits_stop b i = fits_stop
  whole-fits (fits_more l r) b i = fits_more (whole-fits l b i) (whole-fits r b i)
  whole-fits (fits_node {k} {x} f c) b i =
      let r = at-symbol k b in
      let s = whole-rule (growth_at ps k) (row g k).rule (row h k).rule i r.grows in
      fits_node (subst (λ (e : Expr). Fits h e x) s.0 (whole-fits f r.closed s.1))
      (ap (h.check k) (sym (whole-way (growth_at ps k) x (grown ps x) i)) ∙ w.check k x f c)

  node-fits : (p : Option Growth) (e f : Expr) {x : ParseTree} → rule_grows ps h p e f ≡ true → Below e → Fits g e x → Fits h e (grown ps x)
      → Fits h f (either_way p x (grown ps x))
  node-fits None e f {x} r b fit on = let s = and_parts (same_rule e f) (is_whole ps e) r in
      subst (λ (d : Expr). Fits h d x) (same_rule-true e f s.0) (whole-fits fit b s.1)
  node-fits (Some p) e f r b fit on = put-fits h p e f r on

  node-leaves : (p : Option Growth) (e f : Expr) (x : ParseTree) → rule_grows ps h p e f ≡ true → Fits h e (grown ps x) → leaves (grown ps x) ≡ leaves x
      → leaves (either_way p x (grown ps x)) ≡ leaves x
  node-leaves None e f x r on same = refl
  node-leaves (Some p) e f x r on same = put-leaves h p e f r on ∙ same

  grown-fits : {e : Expr} {x : ParseTree} → Fits g e x → Below e → Fits h e (grown ps x)
  grown-fits fits_nothing b = fits_nothing
  grown-fits (fits_leaf {c} {t} a) b = fits_leaf (accepts-on c t a)
  grown-fits (fits_both {a = p} {b = q} l r) b =
      let s = and_parts (is_below (length g.rows) p) (is_below (length g.rows) q) b in
      fits_both (grown-fits l s.0) (grown-fits r s.1)
  grown-fits (fits_first {a = p} {b = q} l) b = fits_first (grown-fits l (and_parts (is_below (length g.rows) p) (is_below (length g.rows) q) b).0)
  grown-fits (fits_second {a = p} {b = q} r) b = fits_second (grown-fits r (and_parts (is_below (length g.rows) p) (is_below (length g.rows) q) b).1)
  grown-fits fits_stop b = fits_stop
  grown-fits (fits_more l r) b = fits_more (grown-fits l b) (grown-fits r b)
  grown-fits (fits_node {k} {x} f c) b =
      let r = at-symbol k b in
      fits_node (node-fits (growth_at ps k) (row g k).rule (row h k).rule r.grows r.closed f (grown-fits f r.closed)) (w.check k x f c)

  grown-leaves : {e : Expr} {x : ParseTree} → Fits g e x → Below e → leaves (grown ps x) ≡ leaves x
  grown-leaves fits_nothing b = refl
  grown-leaves (fits_leaf a) b = refl
  grown-leaves (fits_both {a = p} {b = q} l r) b =
      let s = and_parts (is_below (length g.rows) p) (is_below (length g.rows) q) b in
      ap₂ (λ (ts us : List Token). ts ++ us) (grown-leaves l s.0) (grown-leaves r s.1)
  grown-leaves (fits_first {a = p} {b = q} l) b = grown-leaves l (and_parts (is_below (length g.rows) p) (is_below (length g.rows) q) b).0
  grown-leaves (fits_second {a = p} {b = q} r) b = grown-leaves r (and_parts (is_below (length g.rows) p) (is_below (length g.rows) q) b).1
  grown-leaves fits_stop b = refl
  grown-leaves (fits_more l r) b = ap₂ (λ (ts us : List Token). ts ++ us) (grown-leaves l b) (grown-leaves r b)
  grown-leaves (fits_node {k} {x} f c) b =
      let r = at-symbol k b in
      node-leaves (growth_at ps k) (row g k).rule (row h k).rule x r.grows (grown-fits f r.closed) (grown-leaves f r.closed)

  pub derives_on : (e : Expr) → Below e → (ts : List Token) (x : ParseTree) → Derives g e ts x → Derives h e ts (grown ps x)
  derives_on e b ts x d = (grown-fits d.0 b, d.1 ∙ sym (grown-leaves d.0 b))
