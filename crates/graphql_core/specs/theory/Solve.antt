-- Computes the tables of rules by iteration. The test in `Tables` decides whether the tables are right.
use Rattle.std.specs.Prelude.{ℕ, zero, suc, ◌+◌, max, Bool, false, cond, List, [], ◌∷◌, ◌++◌, map, Option, Some, None}
use Rattle.graphql_core.specs.grammar.Tokens.{Token, Class}
use Rattle.graphql_core.specs.theory.Classes.{within_any}
use Rattle.graphql_core.specs.grammar.Trees.{Expr, Empty, One, Then, Either, Many, Sym, ParseTree, Nothing, Leaf, Both}
use Rattle.graphql_core.specs.grammar.Trees.{First, Second, Stop, Node, Row, row_at}
use Rattle.graphql_core.specs.theory.Tables.{nullable, first, cont}

-- `done` and the classes, without those that are within earlier ones
abbrev pub plain : List Class → List Class → List Class
plain done [] = done
plain done (c ∷ cs) = cond (within_any c done) (plain done cs) (plain (done ++ c ∷ []) cs)

-- one more than the greatest rank of a symbol that can be reached before the first token, or 0
abbrev pub rank_of : List Row → Expr → ℕ
rank_of rs Empty = 0
rank_of rs (One c) = 0
rank_of rs (Then a b) = cond (nullable rs a) (max (rank_of rs a) (rank_of rs b)) (rank_of rs a)
rank_of rs (Either a b) = max (rank_of rs a) (rank_of rs b)
rank_of rs (Many a) = rank_of rs a
rank_of rs (Sym k) = (row_at rs k).rank + 1

abbrev pub better : List Row → Row → Row
better rs r = record {
  rule = r.rule;
  nullable = nullable rs r.rule;
  first = plain [] (first rs r.rule);
  cont = plain [] (cont rs r.rule);
  rank = rank_of rs r.rule;
  least = r.least;
}

abbrev pub better_rows : ℕ → List Row → List Row
better_rows zero rs = rs
better_rows (suc n) rs = better_rows n (map (better rs) rs)

-- a parse tree for each symbol that has one

abbrev pub tree_at : List (Option ParseTree) → ℕ → Option ParseTree
tree_at [] k = None
tree_at (t ∷ ts) zero = t
tree_at (t ∷ ts) (suc k) = tree_at ts k

abbrev pub with_tree : (ParseTree → ParseTree) → Option ParseTree → Option ParseTree
with_tree f None = None
with_tree f (Some x) = Some (f x)

abbrev pub with_trees : Option ParseTree → Option ParseTree → Option ParseTree
with_trees None o = None
with_trees (Some x) None = None
with_trees (Some x) (Some y) = Some (Both x y)

abbrev pub either_tree : Option ParseTree → Option ParseTree → Option ParseTree
either_tree (Some x) o = Some (First x)
either_tree None (Some y) = Some (Second y)
either_tree None None = None

abbrev pub sample_tree : (Class → Token → Bool) → List Token → Class → Option ParseTree
sample_tree takes [] c = None
sample_tree takes (t ∷ ts) c = cond (takes c t) (Some (Leaf t)) (sample_tree takes ts c)

abbrev pub some_tree : (Class → Token → Bool) → List Token → List (Option ParseTree) → Expr → Option ParseTree
some_tree takes samples ts Empty = Some Nothing
some_tree takes samples ts (One c) = sample_tree takes samples c
some_tree takes samples ts (Then a b) = with_trees (some_tree takes samples ts a) (some_tree takes samples ts b)
some_tree takes samples ts (Either a b) = either_tree (some_tree takes samples ts a) (some_tree takes samples ts b)
some_tree takes samples ts (Many a) = Some Stop
some_tree takes samples ts (Sym k) = with_tree (Node k) (tree_at ts k)

abbrev pub no_tree : Expr → Option ParseTree
no_tree e = None

abbrev pub better_trees : (Class → Token → Bool) → List Token → List Expr → ℕ → List (Option ParseTree)
    → List (Option ParseTree)
better_trees takes samples rules zero ts = ts
better_trees takes samples rules (suc n) ts =
    better_trees takes samples rules n (map (some_tree takes samples ts) rules)

abbrev pub read_tree : Option ParseTree → ParseTree
read_tree None = Nothing
read_tree (Some x) = x

abbrev pub start_rows : List Expr → List (Option ParseTree) → List Row
start_rows [] ts = []
start_rows (e ∷ es) [] =
    record { rule = e; nullable = false; first = []; cont = []; rank = 0; least = Nothing } ∷ start_rows es []
start_rows (e ∷ es) (t ∷ ts) =
    record { rule = e; nullable = false; first = []; cont = []; rank = 0; least = read_tree t } ∷ start_rows es ts

abbrev pub solve : (Class → Token → Bool) → List Token → ℕ → List Expr → List Row
solve takes samples n rules = better_rows n (start_rows rules (better_trees takes samples rules n (map no_tree rules)))
