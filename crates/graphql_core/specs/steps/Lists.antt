-- Lists whose elements follow one another without separators.
use Rattle.std.specs.Prelude.{◌≡◌, ℕ, true, false, List, [], ◌∷◌}
use Rattle.graphql_core.specs.theory.{nullable, first, Takes}
use Rattle.graphql_core.specs.grammar.{Token, Class, Expr, One, Then, Many, Sym, ParseTree, Nothing, Leaf, Both, First}
use Rattle.graphql_core.specs.grammar.{Second, Node, Grammar, row, some_of}
use Rattle.graphql_core.specs.values.Parts.{each_of}

-- The symbol `k` is a non-empty list between an opener and a closer. None of its nodes is rejected.
-- `m` is what a node denotes, and `f` what an element denotes.
pub record IsList {A : Type 0} (g : Grammar) (o c : Class) (a : Expr) (f : ParseTree → A) (k : ℕ)
    (m : ParseTree → List A) : Type 0 where
  pub rule : (row g k).rule ≡ Then (One o) (Then (some_of a) (One c))
  pub passes : (x : ParseTree) → g.check k x ≡ true
  pub opens : (t : Token) → g.good o t ≡ true
  pub closes : (t : Token) → g.good c t ≡ true
  pub begins : first g.rows (Sym k) ≡ o ∷ []
  pub is_more : nullable g.rows (Sym k) ≡ false
  pub means : {ts us : List Token} (t u : Token) (x xs : ParseTree) → Takes g (Many a) ts xs us
      → m (Node k (Both (Leaf t) (Both (Both x xs) (Leaf u)))) ≡ f x ∷ each_of f xs

-- `n` is what an optional part denotes, and `m` what the part denotes if it is present
pub record IsOption {A : Type 0} (m n : ParseTree → List A) : Type 0 where
  pub some : (x : ParseTree) → n (First x) ≡ m x
  pub none : n (Second Nothing) ≡ []
