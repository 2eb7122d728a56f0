-- What the next token, or the end, does to a stack, computed: up to and with the step that goes past the token.
use Rattle.std.specs.Prelude.{ℕ, zero, suc, true, false, List, [], ◌∷◌, Option, Some, None}
use Rattle.graphql_core.specs.grammar.Tokens.{Token}
use Rattle.graphql_core.specs.grammar.Trees.{Expr, Empty, One, Then, Either, Many, Sym, Grammar, row, accepts}
use Rattle.graphql_core.specs.theory.Tables.{first}
use Rattle.graphql_core.specs.theory.Reading.{sees, choose, Left, Right, Neither}

pub data Effect : Type 0 where
  -- the token is taken, and these are still to be read
  Taken : (es : List Expr) → Effect
  -- the stack is empty, and nothing is taken
  Passed : Effect
  -- the token or the end is not allowed
  Stopped : Effect
  -- more steps are needed
  Unknown : Effect

-- in at most `n` steps
abbrev pub effect : ℕ → Grammar → List Expr → Option Token → Effect
effect zero g es t = Unknown
effect (suc n) g [] t = Passed
effect (suc n) g (Empty ∷ es) t = effect n g es t
effect (suc n) g (One c ∷ es) None = Stopped
effect (suc n) g (One c ∷ es) (Some u) = elim (accepts g c u) [ true ↦ Taken es | false ↦ Stopped ]
effect (suc n) g (Then a b ∷ es) t = effect n g (a ∷ b ∷ es) t
effect (suc n) g (Either a b ∷ es) t =
    elim (choose g.rows a b t) [ Left ↦ effect n g (a ∷ es) t | Right ↦ effect n g (b ∷ es) t | Neither ↦ Stopped ]
effect (suc n) g (Many a ∷ es) t =
    elim (sees (first g.rows a) t) [ true ↦ effect n g (a ∷ Many a ∷ es) t | false ↦ effect n g es t ]
effect (suc n) g (Sym k ∷ es) t = effect n g ((row g k).rule ∷ es) t

-- the same stack, with sequences and symbols taken apart
abbrev pub flat : ℕ → Grammar → List Expr → List Expr
flat zero g es = es
flat (suc n) g [] = []
flat (suc n) g (Empty ∷ es) = flat n g es
flat (suc n) g (Then a b ∷ es) = flat n g (a ∷ b ∷ es)
flat (suc n) g (Sym k ∷ es) = flat n g ((row g k).rule ∷ es)
flat (suc n) g (e ∷ es) = e ∷ flat n g es

-- the tokens, of which this is the first
abbrev pub input : Option Token → List Token → List Token
input None ts = []
input (Some t) ts = t ∷ ts
