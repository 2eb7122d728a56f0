-- The errors of an input by a written grammar are those by its factored rules.
use Rattle.std.proofs.Common.{◌≡◌, ℕ, true, false, List, [], ◌∷◌, ◌++◌, length, Option, refl, sym, ap, subst, ◌∙◌}
use Rattle.graphql_core.specs.{Token, Expr, Then, Many, Sym, ParseTree, Node, Row, Grammar, row_at, row, leaves, peek, Fits, Begins, Ends, decides, is_ll1}
use Rattle.graphql_core.specs.{is_tight, has_samples, is_productive, Reason, RejectedNode, lax, Change, change_at, written, with_rows, EachIsFactored, leads_here}
use Rattle.graphql_core.specs.{leads_before, leads_after, leads_first, leads_second, leads_turn, leads_later, leads_node, IsTested, Leads, Text, IsFault}
use Rattle.graphql_core.specs.{lexical_error, unexpected_item, leaf_rejected, node_rejected, IsRejected, ReturnsFirstError, RejectsTokens}
use Rattle.graphql_core.proofs.rules.{seconds, written-fits, written-leaves, seconds-fits, written-seconds, to-second, begins-written, ends-written}
use Rattle.graphql_core.proofs.first_errors.OneIndex.{grammar_least, one_node}

-- what is in a node
abbrev inside : ParseTree → ParseTree
inside (Node k x) = x
inside x = x

module _ (g : Grammar) (rs : List Row) (cs : List Change) (each : EachIsFactored g rs cs) (each_lax : EachIsFactored (lax g) rs cs) where
  seconds-leaves : {e : Expr} {y : ParseTree} → Fits (lax g) e y → leaves (seconds cs y) ≡ leaves y
  seconds-leaves f = sym (written-leaves (lax g) rs cs each_lax (seconds-fits (lax g) rs cs each_lax f)) ∙ ap leaves (written-seconds (lax g) rs cs each_lax f)

  -- a place in a tree of the factored rules is the same place in the written tree
  leads-written : {e d : Expr} {ts : List Token} → IsTested g d → Leads (lax (with_rows g rs cs)) e ts d → Leads (lax g) e ts d
  leads-written w leads_here = leads_here
  leads-written w (leads_before l f) = leads_before (leads-written w l) (written-fits (lax g) rs cs each_lax f)
  leads-written w (leads_after {a} {b} {d} {ts = ts} {x = x} f l) =
      subst (λ (m : List Token). Leads (lax g) (Then a b) (m ++ ts) d) (written-leaves (lax g) rs cs each_lax f)
      (leads_after (written-fits (lax g) rs cs each_lax f) (leads-written w l))
  leads-written w (leads_first l) = leads_first (leads-written w l)
  leads-written w (leads_second l) = leads_second (leads-written w l)
  leads-written w (leads_turn l) = leads_turn (leads-written w l)
  leads-written w (leads_later {a} {d} {ts = ts} {x = x} f l) =
      subst (λ (m : List Token). Leads (lax g) (Many a) (m ++ ts) d) (written-leaves (lax g) rs cs each_lax f)
      (leads_later (written-fits (lax g) rs cs each_lax f) (leads-written w l))
  leads-written w (leads_node {k} {d} {ts = ts} l) = leads_node ((each k).leads ts d w (leads-written w l))

  leads-second : {e d : Expr} {ts : List Token} → IsTested g d → Leads (lax g) e ts d → Leads (lax (with_rows g rs cs)) e ts d
  leads-second w leads_here = leads_here
  leads-second w (leads_before l f) = leads_before (leads-second w l) (seconds-fits (lax g) rs cs each_lax f)
  leads-second w (leads_after {a} {b} {d} {ts = ts} {x = x} f l) =
      subst (λ (m : List Token). Leads (lax (with_rows g rs cs)) (Then a b) (m ++ ts) d) (seconds-leaves f)
      (leads_after (seconds-fits (lax g) rs cs each_lax f) (leads-second w l))
  leads-second w (leads_first l) = leads_first (leads-second w l)
  leads-second w (leads_second l) = leads_second (leads-second w l)
  leads-second w (leads_turn l) = leads_turn (leads-second w l)
  leads-second w (leads_later {a} {d} {ts = ts} {x = x} f l) =
      subst (λ (m : List Token). Leads (lax (with_rows g rs cs)) (Many a) (m ++ ts) d) (seconds-leaves f)
      (leads_later (seconds-fits (lax g) rs cs each_lax f) (leads-second w l))
  leads-second w (leads_node {k} {d} {ts = ts} l) = leads_node ((each k).leads_back ts d w (leads-second w l))

  begins-second : (e : Expr) (ts : List Token) → Begins (lax g) e ts → Begins (lax (with_rows g rs cs)) e ts
  begins-second e ts b = (seconds cs b.0, b.1, to-second (lax g) rs cs each_lax e (ts ++ b.1) b.0 b.2)

  ends-second : (e : Expr) (ts : List Token) (item : Option Token) → Ends (lax g) e ts item → Ends (lax (with_rows g rs cs)) e ts item
  ends-second e ts item h y more k i = h (written cs y) more (written-fits (lax g) rs cs each_lax k.0, k.1 ∙ sym (written-leaves (lax g) rs cs each_lax k.0)) i

  -- the tree of the written rule
  to-rule : ℕ → ParseTree → ParseTree
  to-rule k x = (change_at cs k).to_written (written cs x)

  rule-fits : (k : ℕ) (x : ParseTree) → Fits (with_rows g rs cs) (row_at rs k).rule x → Fits g (row g k).rule (to-rule k x)
  unfolding to-rule
  rule-fits k x f = (each k).fits (written cs x) (written-fits g rs cs each f)

  rule-leaves : (k : ℕ) (x : ParseTree) → Fits (with_rows g rs cs) (row_at rs k).rule x → leaves (to-rule k x) ≡ leaves x
  unfolding to-rule
  rule-leaves k x f = (each k).leaves (written cs x) (written-fits g rs cs each f) ∙ written-leaves g rs cs each f

  rule-check : (k : ℕ) (x : ParseTree) → (with_rows g rs cs).check k x ≡ g.check k (to-rule k x)
  unfolding to-rule
  rule-check k x = refl

  from-rule : ℕ → ParseTree → ParseTree
  from-rule k x = (change_at cs k).to_factored (seconds cs x)

  from-fits : (k : ℕ) (x : ParseTree) → Fits g (row g k).rule x → Fits (with_rows g rs cs) (row_at rs k).rule (from-rule k x)
  unfolding from-rule
  from-fits k x f = (each k).fits_back (seconds cs x) (seconds-fits g rs cs each f)

  from-to : (k : ℕ) (x : ParseTree) → Fits g (row g k).rule x → to-rule k (from-rule k x) ≡ x
  unfolding from-rule to-rule
  from-to k x f = (each k).back (seconds cs x) (seconds-fits g rs cs each f) ∙ written-seconds g rs cs each f

  at-leaves : (h : Grammar) (e : Expr) (t : Text) (k : ℕ) (before xs ys : List Token) → xs ≡ ys → IsFault h e t (RejectedNode k) (length (before ++ xs))
      → IsFault h e t (RejectedNode k) (length (before ++ ys))
  at-leaves h e t k before xs ys i x = subst (λ (l : List Token). IsFault h e t (RejectedNode k) (length (before ++ l))) i x

  from-leaves : (k : ℕ) (x : ParseTree) → Fits g (row g k).rule x → leaves (from-rule k x) ≡ leaves x
  from-leaves k x f = sym (rule-leaves k (from-rule k x) (from-fits k x f)) ∙ ap leaves (from-to k x f)

  node-written : (e : Expr) (ts : List Token) (k : ℕ) (x : ParseTree) (before us : List Token) → IsRejected (with_rows g rs cs) e ts k x before us
      → IsRejected g e ts k (to-rule k x) before us
  node-written e ts k x before us (p, ne, l, f, c, n) =
      let y = to-rule k x in
      let i = rule-leaves k x f in
      let c2 : g.check k y ≡ false = sym (rule-check k x) ∙ c in (
        p ∙ ap (λ (m : List Token). before ++ (m ++ us)) (sym i),
        (λ j. ne (sym i ∙ j)),
        leads-written (y, c2) l,
        rule-fits k x f,
        c2,
        (λ u rest h b. n u rest h (begins-second (Sym k) (leaves x ++ u ∷ []) (subst (λ (m : List Token). Begins (lax g) (Sym k) (m ++ u ∷ [])) i b))),
      )

  node-second : (e : Expr) (ts : List Token) (k : ℕ) (x : ParseTree) (before us : List Token) → IsRejected g e ts k x before us
      → IsRejected (with_rows g rs cs) e ts k (from-rule k x) before us
  node-second e ts k x before us (p, ne, l, f, c, n) =
      let i = from-leaves k x f in (
        p ∙ ap (λ (m : List Token). before ++ (m ++ us)) (sym i),
        (λ j. ne (sym i ∙ j)),
        leads-second (x, c) l,
        from-fits k x f,
        rule-check k (from-rule k x) ∙ ap (g.check k) (from-to k x f) ∙ c,
        (λ u rest h b. n u rest h (begins-written (lax g) rs cs each_lax (Sym k) (leaves x ++ u ∷ [])
            (subst (λ (m : List Token). Begins (lax (with_rows g rs cs)) (Sym k) (m ++ u ∷ [])) i b))),
      )

  fault-written : (e : Expr) (t : Text) (why : Reason) (n : ℕ) → IsFault (with_rows g rs cs) e t why n → IsFault g e t why n
  fault-written e t _ _ (lexical_error b) = lexical_error b
  fault-written e t _ _ (unexpected_item front us p i b n) =
      unexpected_item front us p i (begins-written (lax g) rs cs each_lax e front b) (ends-written (lax g) rs cs each_lax e front (peek us) n)
  fault-written e t _ _ (leaf_rejected front us u c p l m n) = leaf_rejected front us u c p (leads-written tt l) m n
  fault-written e t _ _ (node_rejected before us k x r) =
      at-leaves g e t k before (leaves (to-rule k x)) (leaves x) (rule-leaves k x r.3)
      (node_rejected before us k (to-rule k x) (node-written e t.tokens k x before us r))

  fault-second : (e : Expr) (t : Text) (why : Reason) (n : ℕ) → IsFault g e t why n → IsFault (with_rows g rs cs) e t why n
  fault-second e t _ _ (lexical_error b) = lexical_error b
  fault-second e t _ _ (unexpected_item front us p i b n) = unexpected_item front us p i (begins-second e front b) (ends-second e front (peek us) n)
  fault-second e t _ _ (leaf_rejected front us u c p l m n) = leaf_rejected front us u c p (leads-second tt l) m n
  fault-second e t _ _ (node_rejected before us k x r) =
      at-leaves (with_rows g rs cs) e t k before (leaves (from-rule k x)) (leaves x) (from-leaves k x r.3)
      (node_rejected before us k (from-rule k x) (node-second e t.tokens k x before us r))

  pub rejects_tokens_for : RejectsTokens g → RejectsTokens (with_rows g rs cs)
  rejects_tokens_for tokens k x w c i = tokens k (to-rule k x) (rule-fits k x w) (sym (rule-check k x) ∙ c) (rule-leaves k x w ∙ i)

  pub least_for : is_ll1 rs ≡ true → is_tight rs ≡ true → is_productive (with_rows g rs cs) ≡ true → RejectsTokens g
      → (e : Expr) → decides rs e ≡ true → has_samples (with_rows g rs cs) e ≡ true → ReturnsFirstError g (with_rows g rs cs) e
  least_for ok tight full tokens e d f =
      let a = grammar_least (with_rows g rs cs) ok full tight e d f (rejects_tokens_for tokens) in
      record {
        one_index = λ t why other n x y. a.one_index t why other n (fault-second e t why n x) (fault-second e t other n y);
        tree = λ t x b why n y. a.tree t x b why n (fault-second e t why n y);
        wrong = λ t why place b. let l = a.wrong t why place b in (fault-written e t why _ l.0, λ other m y. l.1 other m (fault-second e t other m y));
        one = λ t why other m n x y. a.one t why other m n
            (fault-second e t why m x.0, λ w i z. x.1 w i (fault-written e t w i z)) (fault-second e t other n y.0, λ w i z. y.1 w i (fault-written e t w i z));
      }

  -- If a node is rejected in the factored rule of a symbol, the written node is rejected in that symbol.
  pub node_rejected_for : (j : ℕ) (ts : List Token) (k : ℕ) (x : ParseTree) (before us : List Token)
      → IsRejected (with_rows g rs cs) (row_at rs j).rule ts k x before us
      → (y : ParseTree) × (written cs (Node k x) ≡ Node k y) × IsRejected g (Sym j) ts k y before us
  unfolding to-rule
  node_rejected_for j ts k x before us (p, ne, l, f, c, n) =
      (to-rule k x, refl, node-written (Sym j) ts k x before us (p, ne, leads_node l, f, c, n))

  -- in one symbol, at most one rejected node ends there
  pub one_node_for : is_ll1 rs ≡ true → is_tight rs ≡ true → is_productive (with_rows g rs cs) ≡ true
      → (e : Expr) → decides rs e ≡ true → has_samples (with_rows g rs cs) e ≡ true → (ts before us before2 vs : List Token) (k : ℕ) (x y : ParseTree)
      → IsRejected g e ts k x before us → IsRejected g e ts k y before2 vs → length (before ++ leaves x) ≡ length (before2 ++ leaves y) → x ≡ y
  one_node_for ok tight full e d f ts before us before2 vs k x y a b h =
      let one = one_node (with_rows g rs cs) ok full tight e d f ts before us before2 vs k k (from-rule k x) (from-rule k y)
      (node-second e ts k x before us a) (node-second e ts k y before2 vs b)
      (ap (λ (m : List Token). length (before ++ m)) (from-leaves k x a.3) ∙ h ∙ ap (λ (m : List Token). length (before2 ++ m)) (sym (from-leaves k y b.3))) in
      sym (from-to k x a.3) ∙ ap (λ (n : ParseTree). to-rule k (inside n)) one ∙ from-to k y b.3
