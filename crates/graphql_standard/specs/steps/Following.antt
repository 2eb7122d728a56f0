-- What a step of the program says of the grammar.
use Rattle.std.specs.Prelude.{Bool, true, false, List, [], ◌∷◌, ◌++◌}
use Rattle.graphql_core.specs.{Token, Expr, Reason}
use Rattle.graphql_standard.specs.theory.Stack.{FailsIn, Alike}
use Rattle.graphql_standard.specs.Grammar.{standard}
use Rattle.graphql_standard.specs.Terminals.{IsTokenOf}
use Rattle.graphql_standard.specs.steps.Meanings.{means, means_all}
use Rattle.graphql_standard.specs.steps.Fitting.{step_of}
use Rattle.graphql_standard.specs.declared.symbol.Row.{Row}
use Rattle.graphql_standard.specs.declared.terminal.Terminal.{Terminal}
use Rattle.graphql_standard.specs.declared.symbol.Symbol.{Symbol}
use Rattle.graphql_standard.specs.declared.symbol.Step.{Step}
use Rattle.graphql_standard.specs.declared.symbol.Step.TheVariants.{Take, Skip, Reject}

-- By the grammar, the token belongs to the symbol, and these symbols come after it; or the symbol is absent; or the
-- token is not allowed.
abbrev pub FollowsAt : Symbol → Token → Step → Type 0
FollowsAt s t (Take x) = (rest : List Expr) (ts : List Token)
    → Alike standard (means s ∷ rest) (t ∷ ts) (means_all x.now ++ rest) ts
FollowsAt s t Skip = (rest : List Expr) (ts : List Token) → Alike standard (means s ∷ rest) (t ∷ ts) rest (t ∷ ts)
FollowsAt s t Reject = (rest : List Expr) (ts : List Token)
    → (why : Reason) × FailsIn standard (means s ∷ rest) (t ∷ ts) why (t ∷ ts)

-- the same for each token of a terminal
abbrev pub Follows : Symbol → Terminal → Step → Type 0
Follows s k step = (t : Token) → IsTokenOf k t → FollowsAt s t step

-- at the end the symbol can be absent, or not
abbrev pub EndsWith : Symbol → Bool → Type 0
EndsWith s true = (rest : List Expr) → Alike standard (means s ∷ rest) [] rest []
EndsWith s false = (rest : List Expr) → (why : Reason) × FailsIn standard (means s ∷ rest) [] why []

abbrev pub IsRowOf : Symbol → Row → Type 0
IsRowOf s r = ((k : Terminal) → Follows s k (step_of r k)) × EndsWith s r.is_optional
