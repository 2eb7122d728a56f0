-- Stacks of symbols, as the program has them: the last symbol comes next.
use Rattle.std.specs.Prelude.{◌≤◌, ◌⊎◌, ℕ, Bool, true, false, List, [], ◌∷◌, ◌++◌, length, take, reverse}
use Rattle.graphql_core.specs.{Token, Expr, Sym, Reason}
use Rattle.graphql_standard.specs.theory.Stack.{TakesAll, FailsIn, Alike}
use Rattle.graphql_standard.specs.Grammar.{standard}
use Rattle.graphql_standard.specs.Symbols as symbol
use Rattle.graphql_standard.specs.Terminals.{IsTokenOf}
use Rattle.graphql_standard.specs.steps.Meanings.{means}
use Rattle.graphql_standard.specs.declared.terminal.Terminal.{Terminal}
use Rattle.graphql_standard.specs.declared.symbol.Symbol.{Symbol}

abbrev pub above : List Symbol → List Expr → List Expr
above [] rest = rest
above (s ∷ ss) rest = above ss (means s ∷ rest)

abbrev pub stack_of : List Symbol → List Expr
stack_of ss = above ss []

-- reading stops at the first of these tokens
abbrev pub Stops : List Expr → List Token → Type 0
Stops es us = ((why : Reason) × FailsIn standard es us why us) ⊎ TakesAll standard es us us

-- each token of the terminal leads from one stack to the other
abbrev pub GoesOn : List Symbol → Terminal → List Symbol → Type 0
GoesOn old k new = (t : Token) → IsTokenOf k t → (ts : List Token)
    → Alike standard (stack_of old) (t ∷ ts) (stack_of new) ts

-- each token of the terminal leads to the first `n` symbols and these on top, the next one first
abbrev pub IsNext : List Symbol → Terminal → ℕ → List Symbol → Type 0
IsNext ss k n xs = (n ≤ length ss) × GoesOn ss k (take n ss ++ reverse xs)

-- reading stops at each token of the terminal
abbrev pub StopsAt : List Symbol → Terminal → Type 0
StopsAt ss k = (t : Token) → IsTokenOf k t → (ts : List Token) → Stops (stack_of ss) (t ∷ ts)

-- some token of the terminal is allowed, or none is
abbrev pub Comes : Bool → List Symbol → Terminal → Type 0
Comes true ss k = (n : ℕ) × (xs : List Symbol) × IsNext ss k n xs
Comes false ss k = StopsAt ss k

-- the input can end here, or not
abbrev pub EndsAs : Bool → List Expr → Type 0
EndsAs true es = TakesAll standard es [] []
EndsAs false es = (why : Reason) × FailsIn standard es [] why []

abbrev pub AtEnd : Bool → List Symbol → Type 0
AtEnd b ss = EndsAs b (stack_of ss)

-- after these tokens a document goes on as these expressions do
abbrev pub LeadsTo : List Token → List Expr → Type 0
LeadsTo ts es = (us : List Token) → Alike standard (Sym symbol.document ∷ []) (ts ++ us) es us

-- the stack after these tokens
abbrev pub IsAt : List Token → List Symbol → Type 0
IsAt ts ss = LeadsTo ts (stack_of ss)
