-- What can come next after some tokens.
use Rattle.std.specs.Prelude.{ℕ, List, [], ◌++◌}
use Rattle.graphql_core.specs.grammar.Tokens.{Token}
use Rattle.graphql_core.specs.grammar.Trees.{Expr, Then, Either, Many, Sym, ParseTree, Grammar, row, leaves, Fits}

-- `Leads g e ts d`: a leftmost derivation from `e` reaches `ts d ..`, so after the tokens `ts`, `d` can come next.
pub data Leads (g : Grammar) : Expr → List Token → Expr → Type 0 where
  leads_here : {e : Expr} → Leads g e [] e
  leads_before : {a b d : Expr} {ts : List Token} {y : ParseTree} → Leads g a ts d → Fits g b y
      → Leads g (Then a b) ts d
  leads_after : {a b d : Expr} {ts : List Token} {x : ParseTree} → Fits g a x → Leads g b ts d
      → Leads g (Then a b) (leaves x ++ ts) d
  leads_first : {a b d : Expr} {ts : List Token} → Leads g a ts d → Leads g (Either a b) ts d
  leads_second : {a b d : Expr} {ts : List Token} → Leads g b ts d → Leads g (Either a b) ts d
  leads_turn : {a d : Expr} {ts : List Token} → Leads g a ts d → Leads g (Many a) ts d
  leads_later : {a d : Expr} {ts : List Token} {x : ParseTree} → Fits g a x → Leads g (Many a) ts d
      → Leads g (Many a) (leaves x ++ ts) d
  leads_node : {k : ℕ} {d : Expr} {ts : List Token} → Leads g (row g k).rule ts d → Leads g (Sym k) ts d
