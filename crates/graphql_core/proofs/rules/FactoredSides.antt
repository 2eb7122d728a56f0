-- What comes before one alternative of a choice, and before both alternatives of a symbol, is read before the choice.
use Rattle.std.proofs.Common.{◌≡◌, ℕ, true, List, refl, sym, ap, subst}
use Rattle.std.proofs.lemmas.Bool.{both_ways}
use Rattle.graphql_core.specs.{classes, IsFactored, Change, change_at, written, with_rows, out_of_head, out_of_sides, leads_here, leads_after, IsTested}
use Rattle.graphql_core.specs.{leads_before, leads_first, leads_second, leads_node, Leads, Grammar, Expr, Then, Either, Sym, ParseTree, Both, First, Second}
use Rattle.graphql_core.specs.{Node, Row, row_at, leaves, Fits, fits_both, fits_first, fits_second, fits_node, Token, lax}

-- The symbol k has d before p and before q, and is read as d and then one of them. s also has d before it; a does not.
module _ (g : Grammar) (rs : List Row) (cs : List Change) (k : ℕ) (d s a p q : Expr)
    (wk : (row_at g.rows k).rule ≡ Either (Then d p) (Then d q)) (sk : (row_at rs k).rule ≡ Then d (Either p q))
    (ck : (x : ParseTree) → (change_at cs k).to_written x ≡ out_of_head.to_written x) (pass : (x : ParseTree) → g.check k x ≡ true) where
  abbrev rule : Expr
  rule = Either (Then d s) (Either a (Sym k))

  abbrev second : Expr
  second = Either (Then d (Either s (Either p q))) a

  abbrev the_change : Change
  the_change = out_of_sides k

  -- a tree of the symbol's rule
  in_symbol : {x : ParseTree} → Fits g (Either (Then d p) (Then d q)) x → Fits g rule (Second (Second (Node k x)))
  in_symbol {x = x} f = fits_second (fits_second (fits_node (subst (λ (e : Expr). Fits g e x) (sym wk) f) (pass x)))

  fit : (x : ParseTree) → Fits g second x → Fits g rule (the_change.to_written x)
  fit _ (fits_first (fits_both f (fits_first h))) = fits_first (fits_both f h)
  fit _ (fits_first (fits_both f (fits_second (fits_first h)))) = in_symbol (fits_first (fits_both f h))
  fit _ (fits_first (fits_both f (fits_second (fits_second h)))) = in_symbol (fits_second (fits_both f h))
  fit _ (fits_second h) = fits_second (fits_first h)

  same : (x : ParseTree) → Fits g second x → leaves (the_change.to_written x) ≡ leaves x
  same _ (fits_first (fits_both f (fits_first h))) = refl
  same _ (fits_first (fits_both f (fits_second (fits_first h)))) = refl
  same _ (fits_first (fits_both f (fits_second (fits_second h)))) = refl
  same _ (fits_second h) = refl

  alike : (x : ParseTree) → Fits g second x → classes g rule (the_change.to_written x) ≡ classes g second x
  alike _ (fits_first (fits_both f (fits_first h))) = refl
  alike _ (fits_first (fits_both {x = x} f (fits_second (fits_first {x = y} h)))) = ap (λ (e : Expr). classes g e (First (Both x y))) wk
  alike _ (fits_first (fits_both {x = x} f (fits_second (fits_second {y = y} h)))) = ap (λ (e : Expr). classes g e (Second (Both x y))) wk
  alike _ (fits_second h) = refl

  leads_in_symbol : (ts : List Token) (v : Expr) → Leads (lax g) (Either (Then d p) (Then d q)) ts v → Leads (lax g) rule ts v
  leads_in_symbol ts v l = leads_second (leads_second (leads_node (subst (λ (e : Expr). Leads (lax g) e ts v) (sym wk) l)))

  leading : (ts : List Token) (v : Expr) → IsTested g v → Leads (lax g) second ts v → Leads (lax g) rule ts v
  leading ts v w leads_here = absurd w
  leading ts v w (leads_first leads_here) = absurd w
  leading ts v w (leads_first (leads_before l (fits_first f))) = leads_first (leads_before l f)
  leading ts v w (leads_first (leads_before l (fits_second (fits_first f)))) = leads_in_symbol ts v (leads_first (leads_before l f))
  leading ts v w (leads_first (leads_before l (fits_second (fits_second f)))) = leads_in_symbol ts v (leads_second (leads_before l f))
  leading ts v w (leads_first (leads_after f leads_here)) = absurd w
  leading ts v w (leads_first (leads_after f (leads_first l))) = leads_first (leads_after f l)
  leading ts v w (leads_first (leads_after f (leads_second leads_here))) = absurd w
  leading ts v w (leads_first (leads_after f (leads_second (leads_first l)))) = leads_in_symbol ts v (leads_first (leads_after f l))
  leading ts v w (leads_first (leads_after f (leads_second (leads_second l)))) = leads_in_symbol ts v (leads_second (leads_after f l))
  leading ts v w (leads_second l) = leads_second (leads_first l)

  -- what the symbol's factored rule leads to
  from_symbol : (ts : List Token) (v : Expr) → IsTested g v → Leads (lax (with_rows g rs cs)) (Then d (Either p q)) ts v
      → Leads (lax (with_rows g rs cs)) second ts v
  from_symbol ts v w leads_here = absurd w
  from_symbol ts v w (leads_before l f) = leads_first (leads_before l (fits_second f))
  from_symbol ts v w (leads_after f l) = leads_first (leads_after f (leads_second l))

  leading_back : (ts : List Token) (v : Expr) → IsTested g v → Leads (lax (with_rows g rs cs)) rule ts v → Leads (lax (with_rows g rs cs)) second ts v
  leading_back ts v w leads_here = absurd w
  leading_back ts v w (leads_first leads_here) = absurd w
  leading_back ts v w (leads_first (leads_before l f)) = leads_first (leads_before l (fits_first f))
  leading_back ts v w (leads_first (leads_after f l)) = leads_first (leads_after f (leads_first l))
  leading_back ts v w (leads_second leads_here) = absurd w
  leading_back ts v w (leads_second (leads_first l)) = leads_second l
  leading_back ts v w (leads_second (leads_second leads_here)) = absurd (both_ways (g.check k w.0) w.1 (pass w.0))
  leading_back ts v w (leads_second (leads_second (leads_node l))) =
      from_symbol ts v w (subst (λ (e : Expr). Leads (lax (with_rows g rs cs)) e ts v) sk l)

  -- a tree of the symbol's factored rule
  in_node : (z : ParseTree) → Fits (with_rows g rs cs) (Sym k) z
      → (x : ParseTree) × (y : ParseTree) × (z ≡ Node k (Both x y)) × Fits (with_rows g rs cs) d x × Fits (with_rows g rs cs) (Either p q) y
  in_node _ (fits_node {x = x} h c) = go x (subst (λ (e : Expr). Fits (with_rows g rs cs) e x) sk h)
    where
      go : (x : ParseTree) → Fits (with_rows g rs cs) (Then d (Either p q)) x → (y : ParseTree) × (z : ParseTree) × (Node k x ≡ Node k (Both y z))
          × Fits (with_rows g rs cs) d y × Fits (with_rows g rs cs) (Either p q) z
      go _ (fits_both {x = y} {y = z} f h) = (y, z, refl, f, h)

  fit_back : (y : ParseTree) → Fits (with_rows g rs cs) rule y → Fits (with_rows g rs cs) second (the_change.to_factored y)
  fit_back _ (fits_first (fits_both f h)) = fits_first (fits_both f (fits_first h))
  fit_back _ (fits_second (fits_first h)) = fits_second h
  fit_back _ (fits_second (fits_second {y = z} h)) =
      let i = in_node z h in
      subst (λ (y : ParseTree). Fits (with_rows g rs cs) second (the_change.to_factored (Second (Second y)))) (sym i.2)
      (fits_first (fits_both i.3 (fits_second i.4)))

  again : (y : ParseTree) → Fits (with_rows g rs cs) rule y → the_change.to_written (written cs (the_change.to_factored y)) ≡ written cs y
  again _ (fits_first (fits_both f h)) = refl
  again _ (fits_second (fits_first h)) = refl
  again _ (fits_second (fits_second {y = z} h)) =
      let i = in_node z h in
      subst (λ (y : ParseTree). the_change.to_written (written cs (the_change.to_factored (Second (Second y)))) ≡ written cs (Second (Second y))) (sym i.2)
      (ap (λ (y : ParseTree). Second (Second (Node k y))) (sym (ck (Both (written cs i.0) (written cs i.1)))))

  pub IsFactored-sides : IsFactored g rs cs rule second the_change
  IsFactored-sides =
      record { fits = fit; leaves = same; classes = alike; leads = leading; leads_back = leading_back; fits_back = fit_back; back = again }
