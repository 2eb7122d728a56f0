-- Trees of the factored rules and trees of the written rules correspond one to one.
use Rattle.std.proofs.Common.{◌≡◌, ℕ, zero, suc, true, List, [], ◌∷◌, ◌++◌, take, drop, Option, Some, None, refl, sym, ap, ap₂, subst, ◌∙◌, append_assoc}
use Rattle.std.proofs.lemmas.Bool.{both_ways}
use Rattle.graphql_core.specs.{Token, Class, Expr, Empty, Then, Either, Sym, ParseTree, Both, First, Second, More, Node, Row, Grammar, row_at, leaves, peek}
use Rattle.graphql_core.specs.{Derives, Begins, Ends, Fits, fits_nothing, fits_leaf, fits_both, fits_first, fits_second, fits_stop, fits_more, fits_node}
use Rattle.graphql_core.specs.{with_nodes, decides, is_ll1, has_samples, is_productive, unchecked, lax, IsValue, classes, Change, unchanged, change_at, written}
use Rattle.graphql_core.specs.{with_rows, IsFactored, AreFactored, EachIsFactored, out_of_head, in_second, out_of_prefix, out_of_symbols, IsExactFor}
use Rattle.graphql_core.specs.{leads_before, leads_after, leads_first, leads_second, leads_node, IsTested, Leads, Ending, InputEnds, InvalidToken, EndsAt}
use Rattle.graphql_core.specs.{IsWholeFor, leads_here}
use Rattle.graphql_core.proofs.grammar.{grammar_exact, value_in, reads_alike, grammar_whole}

pub IsFactored-unchanged : (g : Grammar) (rs : List Row) (cs : List Change) (e : Expr) → IsFactored g rs cs e e unchanged
IsFactored-unchanged g rs cs e =
    record {
      fits = λ x h. h;
      leaves = λ x h. refl;
      classes = λ x h. refl;
      leads = λ ts d w l. l;
      leads_back = λ ts d w l. l;
      fits_back = λ y h. h;
      back = λ y
          h. refl;
    }

second-at : (g : Grammar) (rs : List Row) (cs : List Change) (ws more : List Row) (others : List Change) → AreFactored g rs cs ws more others → (k : ℕ)
    → IsFactored g rs cs (row_at ws k).rule (row_at more k).rule (change_at others k)
second-at g rs cs [] [] [] h k = IsFactored-unchanged g rs cs Empty
second-at g rs cs (w ∷ ws) (r ∷ more) (c ∷ others) h zero = h.0
second-at g rs cs (w ∷ ws) (r ∷ more) (c ∷ others) h (suc k) = second-at g rs cs ws more others h.1 k
second-at g rs cs _ _ _ h k = absurd h

pub each_is_factored : (g : Grammar) (rs : List Row) (cs : List Change) → AreFactored g rs cs g.rows rs cs → EachIsFactored g rs cs
each_is_factored g rs cs h k = second-at g rs cs g.rows rs cs h k

abbrev pub seconds : List Change → ParseTree → ParseTree
seconds cs = with_nodes (λ k x y. (change_at cs k).to_factored y)

module _ (g : Grammar) (rs : List Row) (cs : List Change) (each : EachIsFactored g rs cs) where
  pub written-fits : {e : Expr} {x : ParseTree} → Fits (with_rows g rs cs) e x → Fits g e (written cs x)
  written-fits fits_nothing = fits_nothing
  written-fits (fits_leaf h) = fits_leaf h
  written-fits (fits_both p q) = fits_both (written-fits p) (written-fits q)
  written-fits (fits_first p) = fits_first (written-fits p)
  written-fits (fits_second p) = fits_second (written-fits p)
  written-fits fits_stop = fits_stop
  written-fits (fits_more p q) = fits_more (written-fits p) (written-fits q)
  written-fits (fits_node {k = k} {x = x} p c) = fits_node ((each k).fits (written cs x) (written-fits p)) c

  pub written-leaves : {e : Expr} {x : ParseTree} → Fits (with_rows g rs cs) e x → leaves (written cs x) ≡ leaves x
  written-leaves fits_nothing = refl
  written-leaves (fits_leaf h) = refl
  written-leaves (fits_both p q) = ap₂ (λ (a b : List Token). a ++ b) (written-leaves p) (written-leaves q)
  written-leaves (fits_first p) = written-leaves p
  written-leaves (fits_second p) = written-leaves p
  written-leaves fits_stop = refl
  written-leaves (fits_more p q) = ap₂ (λ (a b : List Token). a ++ b) (written-leaves p) (written-leaves q)
  written-leaves (fits_node {k = k} {x = x} p c) = (each k).leaves (written cs x) (written-fits p) ∙ written-leaves p

  pub written-classes : {e : Expr} {x : ParseTree} → Fits (with_rows g rs cs) e x → classes g e (written cs x) ≡ classes (with_rows g rs cs) e x
  written-classes fits_nothing = refl
  written-classes (fits_leaf h) = refl
  written-classes (fits_both p q) = ap₂ (λ (a b : List Class). a ++ b) (written-classes p) (written-classes q)
  written-classes (fits_first p) = written-classes p
  written-classes (fits_second p) = written-classes p
  written-classes fits_stop = refl
  written-classes (fits_more p q) = ap₂ (λ (a b : List Class). a ++ b) (written-classes p) (written-classes q)
  written-classes (fits_node {k = k} {x = x} p c) = (each k).classes (written cs x) (written-fits p) ∙ written-classes p

  second-of : {e : Expr} {y : ParseTree} → Fits g e y → Fits (with_rows g rs cs) e (seconds cs y) × (written cs (seconds cs y) ≡ y)
  second-of fits_nothing = (fits_nothing, refl)
  second-of (fits_leaf h) = (fits_leaf h, refl)
  second-of (fits_both p q) = let a = second-of p in let b = second-of q in (fits_both a.0 b.0, ap₂ Both a.1 b.1)
  second-of (fits_first p) = let a = second-of p in (fits_first a.0, ap First a.1)
  second-of (fits_second p) = let a = second-of p in (fits_second a.0, ap Second a.1)
  second-of fits_stop = (fits_stop, refl)
  second-of (fits_more p q) = let a = second-of p in let b = second-of q in (fits_more a.0 b.0, ap₂ More a.1 b.1)
  second-of (fits_node {k = k} {x = y} p c) =
      let a = second-of p in
      let e = (each k).back (seconds cs y) a.0 ∙ a.1 in
      (fits_node ((each k).fits_back (seconds cs y) a.0) (subst (λ (z : ParseTree). g.check k z ≡ true) (sym e) c), ap (Node k) e)

  pub seconds-fits : {e : Expr} {y : ParseTree} → Fits g e y → Fits (with_rows g rs cs) e (seconds cs y)
  seconds-fits h = (second-of h).0

  pub written-seconds : {e : Expr} {y : ParseTree} → Fits g e y → written cs (seconds cs y) ≡ y
  written-seconds h = (second-of h).1

  pub classes-second : {e : Expr} {y : ParseTree} → Fits g e y → classes (with_rows g rs cs) e (seconds cs y) ≡ classes g e y
  classes-second {e} h = sym (written-classes (seconds-fits h)) ∙ ap (classes g e) (written-seconds h)

  -- a derivation by the written rules is one by the factored rules
  pub to-second : (e : Expr) (ts : List Token) (y : ParseTree) → Derives g e ts y → Derives (with_rows g rs cs) e ts (seconds cs y)
  to-second e ts y h = (seconds-fits h.0, h.1 ∙ ap leaves (sym (written-seconds h.0)) ∙ written-leaves (seconds-fits h.0))

  pub to-written : (e : Expr) (ts : List Token) (x : ParseTree) → Derives (with_rows g rs cs) e ts x → Derives g e ts (written cs x)
  to-written e ts x h = (written-fits h.0, h.1 ∙ sym (written-leaves h.0))

  pub begins-written : (e : Expr) (ts : List Token) → Begins (with_rows g rs cs) e ts → Begins g e ts
  begins-written e ts b = (written cs b.0, b.1, to-written e (ts ++ b.1) b.0 b.2)

  pub ends-written : (e : Expr) (ts : List Token) (item : Option Token) → Ends (with_rows g rs cs) e ts item → Ends g e ts item
  ends-written e ts item h y more k i = h (seconds cs y) more (to-second e (ts ++ more) y k) i

  ends_at-written : (e : Expr) (front us : List Token) (ending : Ending) → EndsAt (with_rows g rs cs) e front us ending → EndsAt g e front us ending
  ends_at-written e front [] InvalidToken h = tt
  ends_at-written e front [] InputEnds h = ends-written e front None h
  ends_at-written e front (u ∷ us) InvalidToken h = ends-written e front (Some u) h
  ends_at-written e front (u ∷ us) InputEnds h = ends-written e front (Some u) h

-- a token without a value that would continue a list if all values were good
value-written : (g : Grammar) (rs : List Row) (cs : List Change) → EachIsFactored (lax g) rs cs → (e : Expr) (front us : List Token) (c : Class)
    → IsValue (with_rows g rs cs) e front c us → IsValue g e front c us
value-written g rs cs each_lax e front us c v = value_in v v.not_good (begins-written (lax g) rs cs each_lax e (front ++ v.token ∷ []) v.begins)

module _ (g : Grammar) (rs : List Row) (cs : List Change) (each : EachIsFactored g rs cs) (each_unchecked : EachIsFactored (unchecked g) rs cs)
    (each_lax : EachIsFactored (lax g) rs cs) where
  pub exact_for : is_ll1 rs ≡ true → is_productive (with_rows g rs cs) ≡ true → (e : Expr) → decides rs e ≡ true → has_samples (with_rows g rs cs) e ≡ true
      → IsExactFor g rs cs e
  exact_for ok full e d f =
      let x = grammar_exact (with_rows g rs cs) ok full e d f in
      record {
        sound = λ ts us y h. let s = x.sound ts us y h in (to-written g rs cs each e (leaves y) y s.0, s.1);
        complete = λ ts rest y h n. (seconds cs y, x.complete ts rest (seconds cs y) (to-second g rs cs each e ts y h) n, written-seconds g rs cs each h.0);
        longest = λ ts us y h z more k i.
            let l = x.longest ts us y h (seconds cs z) more (to-second (lax g) rs cs each_lax e (leaves y ++ more) z k) i in
            (sym (written-seconds (lax g) rs cs each_lax k.0) ∙ ap (written cs) l.0, l.1);
        one_split = λ ts us vs ws y z h k same n m.
            let s = x.one_split ts us vs ws (seconds cs y) (seconds cs z) (to-second g rs cs each e ts y h) (to-second g rs cs each e us z k) same n m in
            (sym (written-seconds g rs cs each h.0) ∙ ap (written cs) s.0 ∙ written-seconds g rs cs each k.0, s.1, s.2);
        alike_lax = λ ts us vs y z h k.
            let r = reads_alike (lax (with_rows g rs cs)) ok e d ts us vs (seconds cs y) (seconds cs z) (to-second (lax g) rs cs each_lax e (ts ++ us) y h)
            (to-second (lax g) rs cs each_lax e (ts ++ vs) z k) in
            (r.0, r.1, r.2, sym (classes-second (lax g) rs cs each_lax h.0) ∙ r.3, sym (classes-second (lax g) rs cs each_lax k.0) ∙ r.4, r.5);
        alike = λ ts us vs y z h k.
            let r = reads_alike (with_rows g rs cs) ok e d ts us vs (seconds cs y) (seconds cs z) (to-second g rs cs each e (ts ++ us) y h)
            (to-second g rs cs each e (ts ++ vs) z k) in
            (r.0, r.1, r.2, sym (classes-second g rs cs each h.0) ∙ r.3, sym (classes-second g rs cs each k.0) ∙ r.4, r.5);
        unambiguous = λ ts y z h k. sym (written-seconds g rs cs each h.0)
            ∙ ap (written cs) (x.unambiguous ts (seconds cs y) (seconds cs z) (to-second g rs cs each e ts y h) (to-second g rs cs each e ts z k))
            ∙ written-seconds g rs cs each k.0;
        earliest = λ ts us why h. let s = (x.earliest ts us why h).fault in record {
          front = s.front;
          parts = s.parts;
          begins = begins-written (unchecked g) rs cs each_unchecked e s.front s.begins;
          ends = ends-written g rs cs each e s.front (peek us) s.ends;
          value = λ c i. value-written g rs cs each_lax e s.front us c (s.value c i);
          unexpected = λ i. ends-written (lax g) rs cs each_lax e s.front (peek us) (s.unexpected i);
        };
      }

  pub whole_for : is_ll1 rs ≡ true → is_productive (with_rows g rs cs) ≡ true → (e : Expr) → decides rs e ≡ true → has_samples (with_rows g rs cs) e ≡ true
      → IsWholeFor g rs cs e
  whole_for ok full e d f =
      let w = grammar_whole (with_rows g rs cs) e (grammar_exact (with_rows g rs cs) ok full e d f) in
      record {
        sound = λ t x a. let r = (w.tree t x).0 a in (to-written g rs cs each e t.tokens x r.0, r.1);
        complete = λ t y h k. (seconds cs y, (w.tree t (seconds cs y)).1 (to-second g rs cs each e t.tokens y h, k), written-seconds g rs cs each h.0);
        wrong = λ t why place a. let r = w.wrong t why place a in record {
          within = r.within;
          begins = begins-written (unchecked g) rs cs each_unchecked e (take place t.tokens) r.begins;
          ends = ends_at-written g rs cs each e (take place t.tokens) (drop place t.tokens) t.ending r.ends;
          value = λ c i. value-written g rs cs each_lax e (take place t.tokens) (drop place t.tokens) c (r.value c i);
          unexpected = λ i. ends_at-written (lax g) rs cs each_lax e (take place t.tokens) (drop place t.tokens) t.ending (r.unexpected i);
        };
      }

-- ---- ways to factor

pub IsFactored-head : (g : Grammar) (rs : List Row) (cs : List Change) (d p q : Expr)
    → IsFactored g rs cs (Either (Then d p) (Then d q)) (Then d (Either p q)) out_of_head
IsFactored-head g rs cs d p q =
    record { fits = fit; leaves = same; classes = alike; leads = leading; leads_back = leading_back; fits_back = fit_back; back = again }
  where
    fit : (x : ParseTree) → Fits g (Then d (Either p q)) x → Fits g (Either (Then d p) (Then d q)) (out_of_head.to_written x)
    fit _ (fits_both h (fits_first x)) = fits_first (fits_both h x)
    fit _ (fits_both h (fits_second y)) = fits_second (fits_both h y)

    same : (x : ParseTree) → Fits g (Then d (Either p q)) x → leaves (out_of_head.to_written x) ≡ leaves x
    same _ (fits_both h (fits_first x)) = refl
    same _ (fits_both h (fits_second y)) = refl

    alike : (x : ParseTree) → Fits g (Then d (Either p q)) x
        → classes g (Either (Then d p) (Then d q)) (out_of_head.to_written x) ≡ classes g (Then d (Either p q)) x
    alike _ (fits_both h (fits_first x)) = refl
    alike _ (fits_both h (fits_second y)) = refl

    leading : (ts : List Token) (v : Expr) → IsTested g v → Leads (lax g) (Then d (Either p q)) ts v → Leads (lax g) (Either (Then d p) (Then d q)) ts v
    leading ts v w leads_here = absurd w
    leading ts v w (leads_before l (fits_first f)) = leads_first (leads_before l f)
    leading ts v w (leads_before l (fits_second f)) = leads_second (leads_before l f)
    leading ts v w (leads_after f leads_here) = absurd w
    leading ts v w (leads_after f (leads_first l)) = leads_first (leads_after f l)
    leading ts v w (leads_after f (leads_second l)) = leads_second (leads_after f l)

    leading_back : (ts : List Token) (v : Expr) → IsTested g v → Leads (lax (with_rows g rs cs)) (Either (Then d p) (Then d q)) ts v
        → Leads (lax (with_rows g rs cs)) (Then d (Either p q)) ts v
    leading_back ts v w leads_here = absurd w
    leading_back ts v w (leads_first leads_here) = absurd w
    leading_back ts v w (leads_first (leads_before l f)) = leads_before l (fits_first f)
    leading_back ts v w (leads_first (leads_after f l)) = leads_after f (leads_first l)
    leading_back ts v w (leads_second leads_here) = absurd w
    leading_back ts v w (leads_second (leads_before l f)) = leads_before l (fits_second f)
    leading_back ts v w (leads_second (leads_after f l)) = leads_after f (leads_second l)

    fit_back : (y : ParseTree) → Fits (with_rows g rs cs) (Either (Then d p) (Then d q)) y
        → Fits (with_rows g rs cs) (Then d (Either p q)) (out_of_head.to_factored y)
    fit_back _ (fits_first (fits_both h x)) = fits_both h (fits_first x)
    fit_back _ (fits_second (fits_both h y)) = fits_both h (fits_second y)

    again : (y : ParseTree) → Fits (with_rows g rs cs) (Either (Then d p) (Then d q)) y
        → out_of_head.to_written (written cs (out_of_head.to_factored y)) ≡ written cs y
    again _ (fits_first (fits_both h x)) = refl
    again _ (fits_second (fits_both h y)) = refl

pub IsFactored-symbols : (g : Grammar) (rs : List Row) (cs : List Change) (j k : ℕ) (d p q : Expr)
    → (row_at g.rows j).rule ≡ Then d p → (row_at rs j).rule ≡ Then d p → (row_at g.rows k).rule ≡ Then d q → (row_at rs k).rule ≡ Then d q
    → ((x : ParseTree) → (change_at cs j).to_written x ≡ x) → ((x : ParseTree) → (change_at cs k).to_written x ≡ x) → ((x : ParseTree) → g.check j x ≡ true)
    → ((x : ParseTree) → g.check k x ≡ true)
    → IsFactored g rs cs (Either (Sym j) (Sym k)) (Then d (Either p q)) (out_of_symbols j k)
IsFactored-symbols g rs cs j k d p q wj sj wk sk uj uk passj passk =
    record { fits = fit; leaves = same; classes = alike; leads = leading; leads_back = leading_back; fits_back = fit_back; back = again }
  where
    fit : (x : ParseTree) → Fits g (Then d (Either p q)) x → Fits g (Either (Sym j) (Sym k)) ((out_of_symbols j k).to_written x)
    fit _ (fits_both {x = h} a (fits_first {x = x} b)) =
        fits_first (fits_node (subst (λ (e : Expr). Fits g e (Both h x)) (sym wj) (fits_both a b)) (passj (Both h x)))
    fit _ (fits_both {x = h} a (fits_second {y = y} b)) =
        fits_second (fits_node (subst (λ (e : Expr). Fits g e (Both h y)) (sym wk) (fits_both a b)) (passk (Both h y)))

    same : (x : ParseTree) → Fits g (Then d (Either p q)) x → leaves ((out_of_symbols j k).to_written x) ≡ leaves x
    same _ (fits_both a (fits_first b)) = refl
    same _ (fits_both a (fits_second b)) = refl

    alike : (x : ParseTree) → Fits g (Then d (Either p q)) x
        → classes g (Either (Sym j) (Sym k)) ((out_of_symbols j k).to_written x) ≡ classes g (Then d (Either p q)) x
    alike _ (fits_both {x = h} a (fits_first {x = x} b)) = ap (λ (e : Expr). classes g e (Both h x)) wj
    alike _ (fits_both {x = h} a (fits_second {y = y} b)) = ap (λ (e : Expr). classes g e (Both h y)) wk

    side : (i : ℕ) (r : Expr) (ts : List Token) (v : Expr) → (row_at g.rows i).rule ≡ Then d r → Leads (lax g) (Then d r) ts v → Leads (lax g) (Sym i) ts v
    side i r ts v h l = leads_node (subst (λ (e : Expr). Leads (lax g) e ts v) (sym h) l)

    leading : (ts : List Token) (v : Expr) → IsTested g v → Leads (lax g) (Then d (Either p q)) ts v → Leads (lax g) (Either (Sym j) (Sym k)) ts v
    leading ts v w leads_here = absurd w
    leading ts v w (leads_before l (fits_first f)) = leads_first (side j p ts v wj (leads_before l f))
    leading ts v w (leads_before l (fits_second f)) = leads_second (side k q ts v wk (leads_before l f))
    leading ts v w (leads_after f leads_here) = absurd w
    leading _ v w (leads_after {ts = ts} {x = x} f (leads_first l)) = leads_first (side j p (leaves x ++ ts) v wj (leads_after f l))
    leading _ v w (leads_after {ts = ts} {x = x} f (leads_second l)) = leads_second (side k q (leaves x ++ ts) v wk (leads_after f l))

    from_first : (ts : List Token) (v : Expr) → IsTested g v → Leads (lax (with_rows g rs cs)) (Then d p) ts v
        → Leads (lax (with_rows g rs cs)) (Then d (Either p q)) ts v
    from_first ts v w leads_here = absurd w
    from_first ts v w (leads_before l f) = leads_before l (fits_first f)
    from_first ts v w (leads_after f l) = leads_after f (leads_first l)

    from_second : (ts : List Token) (v : Expr) → IsTested g v → Leads (lax (with_rows g rs cs)) (Then d q) ts v
        → Leads (lax (with_rows g rs cs)) (Then d (Either p q)) ts v
    from_second ts v w leads_here = absurd w
    from_second ts v w (leads_before l f) = leads_before l (fits_second f)
    from_second ts v w (leads_after f l) = leads_after f (leads_second l)

    leading_back : (ts : List Token) (v : Expr) → IsTested g v → Leads (lax (with_rows g rs cs)) (Either (Sym j) (Sym k)) ts v
        → Leads (lax (with_rows g rs cs)) (Then d (Either p q)) ts v
    leading_back ts v w leads_here = absurd w
    leading_back ts v w (leads_first leads_here) = absurd (both_ways (g.check j w.0) w.1 (passj w.0))
    leading_back ts v w (leads_first (leads_node l)) = from_first ts v w (subst (λ (e : Expr). Leads (lax (with_rows g rs cs)) e ts v) sj l)
    leading_back ts v w (leads_second leads_here) = absurd (both_ways (g.check k w.0) w.1 (passk w.0))
    leading_back ts v w (leads_second (leads_node l)) = from_second ts v w (subst (λ (e : Expr). Leads (lax (with_rows g rs cs)) e ts v) sk l)

    in_node : (i : ℕ) (r : Expr) → (row_at rs i).rule ≡ Then d r → (z : ParseTree) → Fits (with_rows g rs cs) (Sym i) z
        → (a : ParseTree) × (b : ParseTree) × (z ≡ Node i (Both a b)) × Fits (with_rows g rs cs) d a × Fits (with_rows g rs cs) r b
    in_node i r s _ (fits_node {x = x} h pass') = go x (subst (λ (e : Expr). Fits (with_rows g rs cs) e x) s h)
      where
        go : (y : ParseTree) → Fits (with_rows g rs cs) (Then d r) y
            → (a : ParseTree) × (b : ParseTree) × (Node i y ≡ Node i (Both a b)) × Fits (with_rows g rs cs) d a
            × Fits (with_rows g rs cs) r b
        go _ (fits_both {x = a} {y = b} f f') = (a, b, refl, f, f')

    fit_back : (y : ParseTree) → Fits (with_rows g rs cs) (Either (Sym j) (Sym k)) y
        → Fits (with_rows g rs cs) (Then d (Either p q)) ((out_of_symbols j k).to_factored y)
    fit_back _ (fits_first {x = z} h) =
        let i = in_node j p sj z h in
        subst (λ (y : ParseTree). Fits (with_rows g rs cs) (Then d (Either p q)) ((out_of_symbols j k).to_factored (First y))) (sym i.2)
        (fits_both i.3 (fits_first i.4))
    fit_back _ (fits_second {y = z} h) =
        let i = in_node k q sk z h in
        subst (λ (y : ParseTree). Fits (with_rows g rs cs) (Then d (Either p q)) ((out_of_symbols j k).to_factored (Second y))) (sym i.2)
        (fits_both i.3 (fits_second i.4))

    again : (y : ParseTree) → Fits (with_rows g rs cs) (Either (Sym j) (Sym k)) y
        → (out_of_symbols j k).to_written (written cs ((out_of_symbols j k).to_factored y)) ≡ written cs y
    again _ (fits_first {x = z} h) =
        let i = in_node j p sj z h in
        subst (λ (y : ParseTree). (out_of_symbols j k).to_written (written cs ((out_of_symbols j k).to_factored (First y))) ≡ written cs (First y)) (sym i.2)
        (ap (λ (y : ParseTree). First (Node j y)) (sym (uj (Both (written cs i.0) (written cs i.1)))))
    again _ (fits_second {y = z} h) =
        let i = in_node k q sk z h in
        subst (λ (y : ParseTree). (out_of_symbols j k).to_written (written cs ((out_of_symbols j k).to_factored (Second y))) ≡ written cs (Second y)) (sym i.2)
        (ap (λ (y : ParseTree). Second (Node k y)) (sym (uk (Both (written cs i.0) (written cs i.1)))))

pub IsFactored-second : (g : Grammar) (rs : List Row) (cs : List Change) (a e q : Expr) (c : Change) → IsFactored g rs cs e q c
    → IsFactored g rs cs (Either a e) (Either a q) (in_second c)
IsFactored-second g rs cs a e q c i =
    record { fits = fit; leaves = same; classes = alike; leads = leading; leads_back = leading_back; fits_back = fit_back; back = again }
  where
    fit : (x : ParseTree) → Fits g (Either a q) x → Fits g (Either a e) ((in_second c).to_written x)
    fit _ (fits_first h) = fits_first h
    fit _ (fits_second {y = y} h) = fits_second (i.fits y h)

    same : (x : ParseTree) → Fits g (Either a q) x → leaves ((in_second c).to_written x) ≡ leaves x
    same _ (fits_first h) = refl
    same _ (fits_second {y = y} h) = i.leaves y h

    alike : (x : ParseTree) → Fits g (Either a q) x → classes g (Either a e) ((in_second c).to_written x) ≡ classes g (Either a q) x
    alike _ (fits_first h) = refl
    alike _ (fits_second {y = y} h) = i.classes y h

    leading : (ts : List Token) (v : Expr) → IsTested g v → Leads (lax g) (Either a q) ts v → Leads (lax g) (Either a e) ts v
    leading ts v w leads_here = absurd w
    leading ts v w (leads_first l) = leads_first l
    leading ts v w (leads_second l) = leads_second (i.leads ts v w l)

    leading_back : (ts : List Token) (v : Expr) → IsTested g v → Leads (lax (with_rows g rs cs)) (Either a e) ts v
        → Leads (lax (with_rows g rs cs)) (Either a q) ts v
    leading_back ts v w leads_here = absurd w
    leading_back ts v w (leads_first l) = leads_first l
    leading_back ts v w (leads_second l) = leads_second (i.leads_back ts v w l)

    fit_back : (y : ParseTree) → Fits (with_rows g rs cs) (Either a e) y → Fits (with_rows g rs cs) (Either a q) ((in_second c).to_factored y)
    fit_back _ (fits_first h) = fits_first h
    fit_back _ (fits_second {y = y} h) = fits_second (i.fits_back y h)

    again : (y : ParseTree) → Fits (with_rows g rs cs) (Either a e) y → (in_second c).to_written (written cs ((in_second c).to_factored y)) ≡ written cs y
    again _ (fits_first h) = refl
    again _ (fits_second {y = y} h) = ap Second (i.back y h)

pub IsFactored-prefix : (g : Grammar) (rs : List Row) (cs : List Change) (k : ℕ) (n c r : Expr) → (row_at g.rows k).rule ≡ Then n c
    → (row_at rs k).rule ≡ Then n c → ((x : ParseTree) → (change_at cs k).to_written x ≡ x) → ((x : ParseTree) → g.check k x ≡ true)
    → IsFactored g rs cs (Then (Either (Sym k) Empty) (Then n r)) (Then n (Then (Either (Then c n) Empty) r)) (out_of_prefix k)
IsFactored-prefix g rs cs k n c r w s u pass =
    record { fits = fit; leaves = same; classes = alike; leads = leading; leads_back = leading_back; fits_back = fit_back; back = again }
  where
    fit : (x : ParseTree) → Fits g (Then n (Then (Either (Then c n) Empty) r)) x
        → Fits g (Then (Either (Sym k) Empty) (Then n r)) ((out_of_prefix k).to_written x)
    fit _ (fits_both {x = a} p (fits_both (fits_first (fits_both {x = b} q m)) t)) =
        fits_both (fits_first (fits_node (subst (λ (e : Expr). Fits g e (Both a b)) (sym w) (fits_both p q)) (pass (Both a b)))) (fits_both m t)
    fit _ (fits_both p (fits_both (fits_second z) t)) = fits_both (fits_second z) (fits_both p t)

    same : (x : ParseTree) → Fits g (Then n (Then (Either (Then c n) Empty) r)) x → leaves ((out_of_prefix k).to_written x) ≡ leaves x
    same _ (fits_both {x = a} p (fits_both {y = d} (fits_first (fits_both {x = b} {y = m'} q m)) t)) =
        append_assoc (leaves a) (leaves b) (leaves m' ++ leaves d)
        ∙ ap (λ (l : List Token). leaves a ++ l) (sym (append_assoc (leaves b) (leaves m') (leaves d)))
    same _ (fits_both p (fits_both (fits_second fits_nothing) t)) = refl

    alike : (x : ParseTree) → Fits g (Then n (Then (Either (Then c n) Empty) r)) x
        → classes g (Then (Either (Sym k) Empty) (Then n r)) ((out_of_prefix k).to_written x) ≡ classes g (Then n (Then (Either (Then c n) Empty) r)) x
    alike _ (fits_both {x = a} p (fits_both {y = d} (fits_first (fits_both {x = b} {y = m'} q m)) t)) =
        ap (λ (e : Expr). classes g e (Both a b) ++ (classes g n m' ++ classes g r d)) w
        ∙ append_assoc (classes g n a) (classes g c b) (classes g n m' ++ classes g r d)
        ∙ ap (λ (l : List Class). classes g n a ++ l) (sym (append_assoc (classes g c b) (classes g n m') (classes g r d)))
    alike _ (fits_both p (fits_both (fits_second fits_nothing) t)) = refl

    prefix_node : (x : ParseTree) → Fits (lax g) (Then n c) x → Fits (lax g) (Sym k) (Node k x)
    prefix_node x f = fits_node (subst (λ (e : Expr). Fits (lax g) e x) (sym w) f) refl

    prefix_leads : (ts : List Token) (v : Expr) → Leads (lax g) (Then n c) ts v → Leads (lax g) (Sym k) ts v
    prefix_leads ts v l = leads_node (subst (λ (e : Expr). Leads (lax g) e ts v) (sym w) l)

    leading : (ts : List Token) (v : Expr) → IsTested g v → Leads (lax g) (Then n (Then (Either (Then c n) Empty) r)) ts v
        → Leads (lax g) (Then (Either (Sym k) Empty) (Then n r)) ts v
    leading ts v i leads_here = absurd i
    leading ts v i (leads_before l (fits_both (fits_first (fits_both q m)) t)) =
        leads_before (leads_first (prefix_leads ts v (leads_before l q))) (fits_both m t)
    leading ts v i (leads_before l (fits_both (fits_second fits_nothing) t)) = leads_after (fits_second fits_nothing) (leads_before l t)
    leading ts v i (leads_after f leads_here) = absurd i
    leading ts v i (leads_after f (leads_before leads_here t)) = absurd i
    leading ts v i (leads_after f (leads_before (leads_first leads_here) t)) = absurd i
    leading _ v i (leads_after {ts = ts} {x = x} f (leads_before (leads_first (leads_before l m)) t)) =
        leads_before (leads_first (prefix_leads (leaves x ++ ts) v (leads_after f l))) (fits_both m t)
    leading _ v i (leads_after {x = x} f (leads_before (leads_first (leads_after {ts = us} {x = y} q l)) t)) =
        subst (λ (m : List Token). Leads (lax g) (Then (Either (Sym k) Empty) (Then n r)) m v) (append_assoc (leaves x) (leaves y) us)
        (leads_after (fits_first (prefix_node (Both x y) (fits_both f q))) (leads_before l t))
    leading ts v i (leads_after f (leads_before (leads_second leads_here) t)) = absurd i
    leading _ v i (leads_after {x = x} f (leads_after {ts = us} (fits_first (fits_both {x = y} {y = z} q m)) l)) =
        subst (λ (m' : List Token). Leads (lax g) (Then (Either (Sym k) Empty) (Then n r)) m' v)
        (append_assoc (leaves x) (leaves y) (leaves z ++ us) ∙ ap (λ (m' : List Token). leaves x ++ m') (sym (append_assoc (leaves y) (leaves z) us)))
        (leads_after (fits_first (prefix_node (Both x y) (fits_both f q))) (leads_after m l))
    leading ts v i (leads_after f (leads_after (fits_second fits_nothing) l)) = leads_after (fits_second fits_nothing) (leads_after f l)

    in_prefix : (ts : List Token) (v : Expr) (z d : ParseTree) → IsTested g v → Fits (lax (with_rows g rs cs)) n z → Fits (lax (with_rows g rs cs)) r d
        → Leads (lax (with_rows g rs cs)) (Then n c) ts v → Leads (lax (with_rows g rs cs)) (Then n (Then (Either (Then c n) Empty) r)) ts v
    in_prefix ts v z d i m t leads_here = absurd i
    in_prefix ts v z d i m t (leads_before l q) = leads_before l (fits_both (fits_first (fits_both q m)) t)
    in_prefix ts v z d i m t (leads_after f l) = leads_after f (leads_before (leads_first (leads_before l m)) t)

    after_prefix : (x : ParseTree) (us : List Token) (v : Expr) → IsTested g v → Fits (lax (with_rows g rs cs)) (Then n c) x
        → Leads (lax (with_rows g rs cs)) (Then n r) us v → Leads (lax (with_rows g rs cs)) (Then n (Then (Either (Then c n) Empty) r)) (leaves x ++ us) v
    after_prefix _ _ v i f leads_here = absurd i
    after_prefix _ us v i (fits_both {x = x} {y = y} f q) (leads_before l t) =
        subst (λ (m : List Token). Leads (lax (with_rows g rs cs)) (Then n (Then (Either (Then c n) Empty) r)) m v)
        (sym (append_assoc (leaves x) (leaves y) us)) (leads_after f (leads_before (leads_first (leads_after q l)) t))
    after_prefix _ _ v i (fits_both {x = x} {y = y} f q) (leads_after {ts = us} {x = z} m l) =
        subst (λ (m' : List Token). Leads (lax (with_rows g rs cs)) (Then n (Then (Either (Then c n) Empty) r)) m' v)
        (sym (append_assoc (leaves x) (leaves y) (leaves z ++ us) ∙ ap (λ (m' : List Token). leaves x ++ m') (sym (append_assoc (leaves y) (leaves z) us))))
        (leads_after f (leads_after (fits_first (fits_both q m)) l))

    leading_back : (ts : List Token) (v : Expr) → IsTested g v → Leads (lax (with_rows g rs cs)) (Then (Either (Sym k) Empty) (Then n r)) ts v
        → Leads (lax (with_rows g rs cs)) (Then n (Then (Either (Then c n) Empty) r)) ts v
    leading_back ts v i leads_here = absurd i
    leading_back ts v i (leads_before leads_here t) = absurd i
    leading_back ts v i (leads_before (leads_first leads_here) t) = absurd (both_ways (g.check k i.0) i.1 (pass i.0))
    leading_back ts v i (leads_before (leads_first (leads_node l)) (fits_both {x = z} {y = d} m t)) =
        in_prefix ts v z d i m t (subst (λ (e : Expr). Leads (lax (with_rows g rs cs)) e ts v) s l)
    leading_back ts v i (leads_before (leads_second leads_here) t) = absurd i
    leading_back _ v i (leads_after {ts = us} (fits_first (fits_node {x = x} f pass')) l) =
        after_prefix x us v i (subst (λ (e : Expr). Fits (lax (with_rows g rs cs)) e x) s f) l
    leading_back ts v i (leads_after (fits_second fits_nothing) leads_here) = absurd i
    leading_back ts v i (leads_after (fits_second fits_nothing) (leads_before l t)) = leads_before l (fits_both (fits_second fits_nothing) t)
    leading_back ts v i (leads_after (fits_second fits_nothing) (leads_after m l)) = leads_after m (leads_after (fits_second fits_nothing) l)

    in_node : (z : ParseTree) → Fits (with_rows g rs cs) (Sym k) z → (a : ParseTree) × (b : ParseTree) × (z ≡ Node k (Both a b)) × Fits (with_rows g rs cs) n a
        × Fits (with_rows g rs cs) c b
    in_node _ (fits_node {x = x} h pass') = go x (subst (λ (e : Expr). Fits (with_rows g rs cs) e x) s h)
      where
        go : (y : ParseTree) → Fits (with_rows g rs cs) (Then n c) y
            → (a : ParseTree) × (b : ParseTree) × (Node k y ≡ Node k (Both a b)) × Fits (with_rows g rs cs) n a
            × Fits (with_rows g rs cs) c b
        go _ (fits_both {x = a} {y = b} p q) = (a, b, refl, p, q)

    fit_back : (y : ParseTree) → Fits (with_rows g rs cs) (Then (Either (Sym k) Empty) (Then n r)) y
        → Fits (with_rows g rs cs) (Then n (Then (Either (Then c n) Empty) r)) ((out_of_prefix k).to_factored y)
    fit_back _ (fits_both (fits_first {x = z} h) (fits_both {x = m'} {y = d} m t)) =
        let i = in_node z h in
        subst (λ (y : ParseTree). Fits (with_rows g rs cs) (Then n (Then (Either (Then c n) Empty) r))
        ((out_of_prefix k).to_factored (Both (First y) (Both m' d)))) (sym i.2)
        (fits_both i.3 (fits_both (fits_first (fits_both i.4 m)) t))
    fit_back _ (fits_both (fits_second z) (fits_both m t)) = fits_both m (fits_both (fits_second z) t)

    again : (y : ParseTree) → Fits (with_rows g rs cs) (Then (Either (Sym k) Empty) (Then n r)) y
        → (out_of_prefix k).to_written (written cs ((out_of_prefix k).to_factored y)) ≡ written cs y
    again _ (fits_both (fits_first {x = z} h) (fits_both {x = m'} {y = d} m t)) =
        let i = in_node z h in
        subst (λ (y : ParseTree). (out_of_prefix k).to_written (written cs ((out_of_prefix k).to_factored (Both (First y) (Both m' d)))) ≡ written cs
        (Both (First y) (Both m' d))) (sym i.2)
        (ap (λ (y : ParseTree). Both (First (Node k y)) (Both (written cs m') (written cs d))) (sym (u (Both (written cs i.0) (written cs i.1)))))
    again _ (fits_both (fits_second z) (fits_both m t)) = refl
