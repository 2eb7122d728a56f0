-- Reading from left to right with one token of lookahead (LL(1)).
use Rattle.std.specs.Prelude.{◌≡◌, ℕ, Bool, true, false, cond, List, [], ◌∷◌, Option, Some, None}
use Rattle.graphql_core.specs.grammar.Tokens.{Token, Class, matches}
use Rattle.graphql_core.specs.theory.Classes.{in_any}
use Rattle.graphql_core.specs.grammar.Trees.{Expr, Empty, One, Then, Either, Many, Sym, ParseTree, Nothing, Leaf, Both}
use Rattle.graphql_core.specs.grammar.Trees.{First, Second, Stop, More, Node, Row, Grammar, row, accepts, peek}
use Rattle.graphql_core.specs.grammar.GrammarFaults.{Reason, Unexpected, Improper, RejectedNode}
use Rattle.graphql_core.specs.theory.Tables.{nullable, first}

-- the next token is of one of the classes
abbrev pub sees : List Class → Option Token → Bool
sees cs None = false
sees cs (Some t) = in_any cs t

pub data Choice : Type 0 where
  Left Right Neither : Choice

-- the side of a choice that the next token decides
abbrev pub choose : List Row → Expr → Expr → Option Token → Choice
choose rs a b item = cond (sees (first rs a) item) Left
    (cond (sees (first rs b) item) Right (cond (nullable rs a) Left (cond (nullable rs b) Right Neither)))

-- `Takes g e ts x us`: at the tokens `ts` the reader takes the parse tree `x`, and continues at `us`.
pub data Takes (g : Grammar) : Expr → List Token → ParseTree → List Token → Type 0 where
  takes_nothing : {ts : List Token} → Takes g Empty ts Nothing ts
  takes_leaf : {c : Class} {t : Token} {ts : List Token} → accepts g c t ≡ true → Takes g (One c) (t ∷ ts) (Leaf t) ts
  takes_both : {a b : Expr} {ts us vs : List Token} {x y : ParseTree} → Takes g a ts x us → Takes g b us y vs
      → Takes g (Then a b) ts (Both x y) vs
  takes_first : {a b : Expr} {ts us : List Token} {x : ParseTree} → choose g.rows a b (peek ts) ≡ Left
      → Takes g a ts x us → Takes g (Either a b) ts (First x) us
  takes_second : {a b : Expr} {ts us : List Token} {y : ParseTree} → choose g.rows a b (peek ts) ≡ Right
      → Takes g b ts y us → Takes g (Either a b) ts (Second y) us
  takes_stop : {a : Expr} {ts : List Token} → sees (first g.rows a) (peek ts) ≡ false → Takes g (Many a) ts Stop ts
  takes_more : {a : Expr} {ts us vs : List Token} {x y : ParseTree} → sees (first g.rows a) (peek ts) ≡ true
      → Takes g a ts x us → Takes g (Many a) us y vs → Takes g (Many a) ts (More x y) vs
  takes_node : {k : ℕ} {ts us : List Token} {x : ParseTree} → Takes g (row g k).rule ts x us → g.check k x ≡ true
      → Takes g (Sym k) ts (Node k x) us

-- `Fails g e ts why us`: from `ts` the reader gets to `us`, and stops at the token or end of input there.
pub data Fails (g : Grammar) : Expr → List Token → Reason → List Token → Type 0 where
  fails_one : {c : Class} {ts : List Token} → sees (c ∷ []) (peek ts) ≡ false → Fails g (One c) ts Unexpected ts
  fails_value : {c : Class} {t : Token} {ts : List Token} → matches c t ≡ true → g.good c t ≡ false
      → Fails g (One c) (t ∷ ts) (Improper c) (t ∷ ts)
  fails_before : {a b : Expr} {ts us : List Token} {why : Reason} → Fails g a ts why us → Fails g (Then a b) ts why us
  fails_after : {a b : Expr} {ts us vs : List Token} {x : ParseTree} {why : Reason} → Takes g a ts x us
      → Fails g b us why vs → Fails g (Then a b) ts why vs
  fails_first : {a b : Expr} {ts us : List Token} {why : Reason} → choose g.rows a b (peek ts) ≡ Left
      → Fails g a ts why us → Fails g (Either a b) ts why us
  fails_second : {a b : Expr} {ts us : List Token} {why : Reason} → choose g.rows a b (peek ts) ≡ Right
      → Fails g b ts why us → Fails g (Either a b) ts why us
  fails_neither : {a b : Expr} {ts : List Token} → choose g.rows a b (peek ts) ≡ Neither
      → Fails g (Either a b) ts Unexpected ts
  fails_turn : {a : Expr} {ts us : List Token} {why : Reason} → sees (first g.rows a) (peek ts) ≡ true
      → Fails g a ts why us → Fails g (Many a) ts why us
  fails_later : {a : Expr} {ts us vs : List Token} {x : ParseTree} {why : Reason}
      → sees (first g.rows a) (peek ts) ≡ true → Takes g a ts x us
      → Fails g (Many a) us why vs → Fails g (Many a) ts why vs
  fails_node : {k : ℕ} {ts us : List Token} {why : Reason} → Fails g (row g k).rule ts why us
      → Fails g (Sym k) ts why us
  fails_check : {k : ℕ} {ts us : List Token} {x : ParseTree} → Takes g (row g k).rule ts x us → g.check k x ≡ false
      → Fails g (Sym k) ts (RejectedNode k) us

pub data Outcome : Type 0 where
  Done : (x : ParseTree) (after : List Token) → Outcome
  Fault : (why : Reason) (after : List Token) → Outcome

abbrev pub ReadsTo : Grammar → Expr → List Token → Outcome → Type 0
ReadsTo g e ts (Done x us) = Takes g e ts x us
ReadsTo g e ts (Fault why us) = Fails g e ts why us
