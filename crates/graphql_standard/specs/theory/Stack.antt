-- Reading with a stack: the expressions that are still to be read, the next one first. No tree is built.
use Rattle.std.specs.Prelude.{◌≡◌, ◌↔◌, ℕ, true, false, List, [], ◌∷◌}
use Rattle.graphql_core.specs.grammar.Tokens.{Token, Class}
use Rattle.graphql_core.specs.grammar.Trees.{Expr, Empty, One, Then, Either, Many, Sym, ParseTree, Grammar, row}
use Rattle.graphql_core.specs.grammar.Trees.{accepts, peek}
use Rattle.graphql_core.specs.grammar.GrammarFaults.{Reason}
use Rattle.graphql_core.specs.theory.Tables.{first}
use Rattle.graphql_core.specs.theory.Reading.{sees, choose, Left, Right, Takes, Fails}

-- no node is rejected
abbrev pub HasNoChecks : Grammar → Type 0
HasNoChecks g = (k : ℕ) (x : ParseTree) → g.check k x ≡ true

-- the reader takes all of these expressions, one after another
pub data TakesAll (g : Grammar) : List Expr → List Token → List Token → Type 0 where
  takes_none : {ts : List Token} → TakesAll g [] ts ts
  takes_one : {e : Expr} {es : List Expr} {ts us vs : List Token} {x : ParseTree} → Takes g e ts x us
      → TakesAll g es us vs → TakesAll g (e ∷ es) ts vs

-- the reader fails in one of them
pub data FailsIn (g : Grammar) : List Expr → List Token → Reason → List Token → Type 0 where
  fails_here : {e : Expr} {es : List Expr} {ts us : List Token} {why : Reason} → Fails g e ts why us
      → FailsIn g (e ∷ es) ts why us
  fails_further : {e : Expr} {es : List Expr} {ts us vs : List Token} {x : ParseTree} {why : Reason} → Takes g e ts x us
      → FailsIn g es us why vs → FailsIn g (e ∷ es) ts why vs

-- one step of a machine with this stack at these tokens
pub data Steps (g : Grammar) : List Expr → List Token → List Expr → List Token → Type 0 where
  steps_nothing : {es : List Expr} {ts : List Token} → Steps g (Empty ∷ es) ts es ts
  steps_token : {c : Class} {es : List Expr} {t : Token} {ts : List Token} → accepts g c t ≡ true
      → Steps g (One c ∷ es) (t ∷ ts) es ts
  steps_then : {a b : Expr} {es : List Expr} {ts : List Token} → Steps g (Then a b ∷ es) ts (a ∷ b ∷ es) ts
  steps_left : {a b : Expr} {es : List Expr} {ts : List Token} → choose g.rows a b (peek ts) ≡ Left
      → Steps g (Either a b ∷ es) ts (a ∷ es) ts
  steps_right : {a b : Expr} {es : List Expr} {ts : List Token} → choose g.rows a b (peek ts) ≡ Right
      → Steps g (Either a b ∷ es) ts (b ∷ es) ts
  steps_stop : {a : Expr} {es : List Expr} {ts : List Token} → sees (first g.rows a) (peek ts) ≡ false
      → Steps g (Many a ∷ es) ts es ts
  steps_more : {a : Expr} {es : List Expr} {ts : List Token} → sees (first g.rows a) (peek ts) ≡ true
      → Steps g (Many a ∷ es) ts (a ∷ Many a ∷ es) ts
  steps_symbol : {k : ℕ} {es : List Expr} {ts : List Token} → Steps g (Sym k ∷ es) ts ((row g k).rule ∷ es) ts

-- any number of steps
pub data StepsOn (g : Grammar) : List Expr → List Token → List Expr → List Token → Type 0 where
  steps_end : {es : List Expr} {ts : List Token} → StepsOn g es ts es ts
  steps_next : {es fs hs : List Expr} {ts us vs : List Token} → Steps g es ts fs us → StepsOn g fs us hs vs
      → StepsOn g es ts hs vs

-- the reader does the same with both stacks
pub record Alike (g : Grammar) (es : List Expr) (ts : List Token) (fs : List Expr) (us : List Token) : Type 0 where
  pub takes : (vs : List Token) → TakesAll g es ts vs ↔ TakesAll g fs us vs
  pub fails : (why : Reason) (vs : List Token) → FailsIn g es ts why vs ↔ FailsIn g fs us why vs
