-- A written grammar, and factored rules for the same symbols, which can be read with one token of lookahead.
use Rattle.std.specs.Prelude.{◌≡◌, ℕ, zero, suc, false, List, [], ◌∷◌, ◌++◌}
use Rattle.graphql_core.specs.grammar.Tokens.{Token}
use Rattle.graphql_core.specs.grammar.Trees.{Expr, One, Sym, ParseTree, Nothing, Leaf, Both, First, Second, Stop, More}
use Rattle.graphql_core.specs.grammar.Trees.{Node, Row, Grammar, row_at, leaves, peek, Fits, Derives, lax}
use Rattle.graphql_core.specs.theory.Tables.{cont}
use Rattle.graphql_core.specs.theory.Reading.{sees, Takes, Fails}
use Rattle.graphql_core.specs.grammar.GrammarFaults.{Reason}
use Rattle.graphql_core.specs.theory.Theorems.{IsFirstFaultFor, classes, ReadsAlike}
use Rattle.graphql_core.specs.grammar.NextPlaces.{Leads}

-- converts a parse tree of a symbol's factored rule to one of its written rule, and back
pub record Change : Type 0 where
  pub to_written : ParseTree → ParseTree
  pub to_factored : ParseTree → ParseTree

abbrev pub unchanged : Change
unchanged = record { to_written = λ x. x; to_factored = λ x. x }

abbrev pub change_at : List Change → ℕ → Change
change_at [] k = unchanged
change_at (c ∷ cs) zero = c
change_at (c ∷ cs) (suc k) = change_at cs k

-- A parse tree with each node changed, inner nodes first: `f` takes a symbol, the old content and the changed content.
abbrev pub with_nodes : (ℕ → ParseTree → ParseTree → ParseTree) → ParseTree → ParseTree
with_nodes f Nothing = Nothing
with_nodes f (Leaf t) = Leaf t
with_nodes f (Both x y) = Both (with_nodes f x) (with_nodes f y)
with_nodes f (First x) = First (with_nodes f x)
with_nodes f (Second y) = Second (with_nodes f y)
with_nodes f Stop = Stop
with_nodes f (More x y) = More (with_nodes f x) (with_nodes f y)
with_nodes f (Node k x) = Node k (f k x (with_nodes f x))

-- converts a whole parse tree by the factored rules to one by the written rules
abbrev pub written : List Change → ParseTree → ParseTree
written cs = with_nodes (λ k x y. (change_at cs k).to_written y)

-- the grammar with the factored rules
abbrev pub with_rows : Grammar → List Row → List Change → Grammar
with_rows g rs cs = record {
  rows = rs;
  good = g.good;
  check = λ k x. g.check k ((change_at cs k).to_written (written cs x));
  samples = g.samples;
}

-- the grammar can reject what the expression derives: a leaf, or a node of a symbol whose check can fail
abbrev pub IsTested : Grammar → Expr → Type 0
IsTested g (One c) = Unit {0}
IsTested g (Sym k) = (x : ParseTree) × (g.check k x ≡ false)
IsTested g _ = ⊥

-- The factored rule `q` has the same parse trees as the written rule `e`, converted by `c`. The conversion keeps
-- the tokens and their classes. Tested leaves and nodes come after the same tokens.
pub record IsFactored (g : Grammar) (rs : List Row) (cs : List Change) (e q : Expr) (c : Change) : Type 0 where
  pub fits : (x : ParseTree) → Fits g q x → Fits g e (c.to_written x)
  pub leaves : (x : ParseTree) → Fits g q x → leaves (c.to_written x) ≡ leaves x
  pub classes : (x : ParseTree) → Fits g q x → classes g e (c.to_written x) ≡ classes g q x
  pub fits_back : (y : ParseTree) → Fits (with_rows g rs cs) e y → Fits (with_rows g rs cs) q (c.to_factored y)
  pub leads : (ts : List Token) (d : Expr) → IsTested g d → Leads (lax g) q ts d → Leads (lax g) e ts d
  pub leads_back : (ts : List Token) (d : Expr) → IsTested g d → Leads (lax (with_rows g rs cs)) e ts d
      → Leads (lax (with_rows g rs cs)) q ts d
  pub back : (y : ParseTree) → Fits (with_rows g rs cs) e y → c.to_written (written cs (c.to_factored y)) ≡ written cs y

-- the same for lists of rules
abbrev pub AreFactored : Grammar → List Row → List Change → List Row → List Row → List Change → Type 0
AreFactored g rs cs [] [] [] = Unit {0}
AreFactored g rs cs (w ∷ ws) (r ∷ more) (c ∷ others) =
    IsFactored g rs cs w.rule r.rule c × AreFactored g rs cs ws more others
AreFactored g rs cs _ _ _ = ⊥

-- the same for every symbol
abbrev pub EachIsFactored : Grammar → List Row → List Change → Type 0
EachIsFactored g rs cs = (k : ℕ) → IsFactored g rs cs (row_at g.rows k).rule (row_at rs k).rule (change_at cs k)

-- ways to factor

-- `h x | h y`, factored to `h (x | y)`
abbrev pub out_of_head : Change
out_of_head = record { to_written = spread; to_factored = gather }
  where
    spread : ParseTree → ParseTree
    spread (Both h (First x)) = First (Both h x)
    spread (Both h (Second y)) = Second (Both h y)
    spread s = s

    gather : ParseTree → ParseTree
    gather (First (Both h x)) = Both h (First x)
    gather (Second (Both h y)) = Both h (Second y)
    gather s = s

-- `h x | y | k` with `k = h v | h w`, factored to `h (x | v | w) | y`
abbrev pub out_of_sides : ℕ → Change
out_of_sides k = record { to_written = spread; to_factored = gather }
  where
    spread : ParseTree → ParseTree
    spread (First (Both h (First x))) = First (Both h x)
    spread (First (Both h (Second x))) = Second (Second (Node k (out_of_head.to_written (Both h x))))
    spread (Second x) = Second (First x)
    spread x = x

    gather : ParseTree → ParseTree
    gather (First (Both h x)) = First (Both h (First x))
    gather (Second (First x)) = Second x
    gather (Second (Second (Node j (Both h x)))) = First (Both h (Second x))
    gather x = x

-- a change in the second side of a choice
abbrev pub in_second : Change → Change
in_second c = record { to_written = at_second c.to_written; to_factored = at_second c.to_factored }
  where
    at_second : (ParseTree → ParseTree) → ParseTree → ParseTree
    at_second f (Second y) = Second (f y)
    at_second f s = s

-- `k? n r` with `k = n c`, factored to `n (c n)? r`
abbrev pub out_of_prefix : ℕ → Change
out_of_prefix k = record { to_written = spread; to_factored = gather }
  where
    spread : ParseTree → ParseTree
    spread (Both n (Both (First (Both c m)) r)) = Both (First (Node k (Both n c))) (Both m r)
    spread (Both n (Both (Second z) r)) = Both (Second z) (Both n r)
    spread s = s

    gather : ParseTree → ParseTree
    gather (Both (First (Node j (Both n c))) (Both m r)) = Both n (Both (First (Both c m)) r)
    gather (Both (Second z) (Both n r)) = Both n (Both (Second z) r)
    gather s = s

-- `j | k` with `j = h x` and `k = h y`, factored to `h (x | y)`
abbrev pub out_of_symbols : ℕ → ℕ → Change
out_of_symbols j k = record { to_written = spread; to_factored = gather }
  where
    spread : ParseTree → ParseTree
    spread (Both h (First x)) = First (Node j (Both h x))
    spread (Both h (Second y)) = Second (Node k (Both h y))
    spread s = s

    gather : ParseTree → ParseTree
    gather (First (Node i (Both h x))) = Both h (First x)
    gather (Second (Node i (Both h y))) = Both h (Second y)
    gather s = s

-- The reader of the factored grammar returns what the written grammar `g` derives.
pub record IsExactFor (g : Grammar) (rs : List Row) (cs : List Change) (e : Expr) : Type 0 where
  pub sound : (ts us : List Token) (x : ParseTree) → Takes (with_rows g rs cs) e ts x us
      → Derives g e (leaves x) (written cs x) × (ts ≡ leaves x ++ us)
  pub complete : (ts rest : List Token) (y : ParseTree) → Derives g e ts y → sees (cont rs e) (peek rest) ≡ false
      → (x : ParseTree) × Takes (with_rows g rs cs) e (ts ++ rest) x rest × (written cs x ≡ y)
  -- even in the plain grammar, no other list begins with the taken tokens and the next
  pub longest : (ts us : List Token) (x : ParseTree) → Takes (with_rows g rs cs) e ts x us
      → (y : ParseTree) (more : List Token) → Derives (lax g) e (leaves x ++ more) y → peek more ≡ peek us
      → (y ≡ written cs x) × (more ≡ [])
  pub unambiguous : (ts : List Token) (x y : ParseTree) → Derives g e ts x → Derives g e ts y → x ≡ y
  pub one_split : (ts us vs ws : List Token) (x y : ParseTree) → Derives g e ts x → Derives g e us y
      → ts ++ vs ≡ us ++ ws → sees (cont rs e) (peek vs) ≡ false → sees (cont rs e) (peek ws) ≡ false
      → (x ≡ y) × (ts ≡ us) × (vs ≡ ws)
  pub alike : ReadsAlike g e
  pub alike_lax : ReadsAlike (lax g) e
  pub earliest : (ts us : List Token) (why : Reason) → Fails (with_rows g rs cs) e ts why us
      → IsFirstFaultFor g e ts why us
