-- The LL(1) test of a grammar's tables.
use Rattle.std.specs.Prelude.{ℕ, Bool, true, false, not, ◌&&◌, ◌||◌, ◌==◌, nat_lt, cond, List, [], ◌∷◌, ◌++◌}
use Rattle.graphql_core.specs.grammar.Tokens.{Token, Class}
use Rattle.graphql_core.specs.theory.Classes.{all_apart, all_within}
use Rattle.graphql_core.specs.grammar.Trees.{Expr, Empty, One, Then, Either, Many, Sym, ParseTree, Nothing, Leaf, Both}
use Rattle.graphql_core.specs.grammar.Trees.{First, Second, Stop, More, Node, Row, Grammar, row_at, row, accepts}

-- the classes if `b` is true, else none
abbrev pub only_if : Bool → List Class → List Class
only_if b cs = cond b cs []

-- the expression derives the empty list
abbrev pub nullable : List Row → Expr → Bool
nullable rs Empty = true
nullable rs (One c) = false
nullable rs (Then a b) = nullable rs a && nullable rs b
nullable rs (Either a b) = nullable rs a || nullable rs b
nullable rs (Many a) = true
nullable rs (Sym k) = (row_at rs k).nullable

-- the first set: the classes that can begin a derived list
abbrev pub first : List Row → Expr → List Class
first rs Empty = []
first rs (One c) = c ∷ []
first rs (Then a b) = first rs a ++ only_if (nullable rs a) (first rs b)
first rs (Either a b) = first rs a ++ first rs b
first rs (Many a) = first rs a
first rs (Sym k) = (row_at rs k).first

-- the classes of tokens that can continue a complete derived list
abbrev pub cont : List Row → Expr → List Class
cont rs Empty = []
cont rs (One c) = []
cont rs (Then a b) = cont rs b ++ only_if (nullable rs b) (first rs b ++ cont rs a)
cont rs (Either a b) =
    (cont rs a ++ cont rs b) ++ (only_if (nullable rs a) (first rs b) ++ only_if (nullable rs b) (first rs a))
cont rs (Many a) = first rs a ++ cont rs a
cont rs (Sym k) = (row_at rs k).cont

-- the next token always decides how to continue
abbrev pub decides : List Row → Expr → Bool
decides rs Empty = true
decides rs (One c) = true
decides rs (Then a b) = (decides rs a && decides rs b) && all_apart (cont rs a) (first rs b)
decides rs (Either a b) =
    ((decides rs a && decides rs b) && all_apart (first rs a) (first rs b)) && not (nullable rs a && nullable rs b)
decides rs (Many a) = (decides rs a && not (nullable rs a)) && all_apart (cont rs a) (first rs a)
decides rs (Sym k) = true

-- each symbol that can be reached before the first token has a rank below `n`, so there is no left recursion
abbrev pub ranked : List Row → ℕ → Expr → Bool
ranked rs n Empty = true
ranked rs n (One c) = true
ranked rs n (Then a b) = ranked rs n a && (not (nullable rs a) || ranked rs n b)
ranked rs n (Either a b) = ranked rs n a && ranked rs n b
ranked rs n (Many a) = ranked rs n a
ranked rs n (Sym k) = nat_lt (row_at rs k).rank n

-- the tables fit the rule
abbrev pub is_row : List Row → Row → Bool
is_row rs r =
    (decides rs r.rule && (not (nullable rs r.rule) || r.nullable))
    && ((all_within (first rs r.rule) r.first && all_within (cont rs r.rule) r.cont) && ranked rs r.rank r.rule)

abbrev pub are_rows : List Row → List Row → Bool
are_rows rs [] = true
are_rows rs (r ∷ more) = is_row rs r && are_rows rs more

abbrev pub is_ll1 : List Row → Bool
is_ll1 rs = are_rows rs rs

-- No table says more than its rule: a symbol is nullable only if its rule is,
-- and its first set has only classes that can begin its rule.
abbrev pub are_tight : List Row → List Row → Bool
are_tight rs [] = true
are_tight rs (r ∷ more) =
    ((not r.nullable || nullable rs r.rule) && all_within r.first (first rs r.rule)) && are_tight rs more

abbrev pub is_tight : List Row → Bool
is_tight rs = are_tight rs rs

-- tests that the parse tree is a derivation from the expression
abbrev pub has_tree : Grammar → Expr → ParseTree → Bool
has_tree g Empty Nothing = true
has_tree g (One c) (Leaf t) = accepts g c t
has_tree g (Then a b) (Both x y) = has_tree g a x && has_tree g b y
has_tree g (Either a b) (First x) = has_tree g a x
has_tree g (Either a b) (Second y) = has_tree g b y
has_tree g (Many a) Stop = true
has_tree g (Many a) (More x y) = has_tree g a x && has_tree g (Many a) y
has_tree g (Sym k) (Node j x) = (k == j) && (has_tree g (row g k).rule x && g.check k x)
has_tree g _ _ = false

-- each class in the expression has an accepted sample token, and each symbol a parse tree

abbrev pub sample_in : List Token → Grammar → Class → Bool
sample_in [] g c = false
sample_in (t ∷ ts) g c = accepts g c t || sample_in ts g c

abbrev pub has_samples : Grammar → Expr → Bool
has_samples g Empty = true
has_samples g (One c) = sample_in g.samples g c
has_samples g (Then a b) = has_samples g a && has_samples g b
has_samples g (Either a b) = has_samples g a && has_samples g b
has_samples g (Many a) = has_samples g a
has_samples g (Sym k) = has_tree g (Sym k) (Node k (row g k).least)

abbrev pub are_full : Grammar → List Row → Bool
are_full g [] = true
are_full g (r ∷ rs) = has_samples g r.rule && are_full g rs

abbrev pub is_productive : Grammar → Bool
is_productive g = are_full g g.rows
