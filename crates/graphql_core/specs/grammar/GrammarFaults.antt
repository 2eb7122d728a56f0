-- The errors of an input, each with its index. The first token has index 1. The end or an invalid token is last.
use Rattle.std.specs.Prelude.{◌≡◌, ◌≤◌, ℕ, suc, true, false, List, [], ◌∷◌, ◌++◌, length}
use Rattle.graphql_core.specs.grammar.Tokens.{Token, Class, matches}
use Rattle.graphql_core.specs.grammar.Trees.{Expr, One, Sym, ParseTree, Grammar, row, leaves, peek, Fits, Begins, Ends}
use Rattle.graphql_core.specs.grammar.Trees.{lax}
use Rattle.graphql_core.specs.grammar.NextPlaces.{Leads}
use Rattle.graphql_core.specs.grammar.Texts.{Text, InputEnds, InvalidToken}

-- a token or end of input that is not allowed here, a token that is rejected as a leaf of its class,
-- or a node that fails the check of its symbol
pub data Reason : Type 0 where
  Unexpected : Reason
  Improper : (class : Class) → Reason
  RejectedNode : (symbol : ℕ) → Reason

-- no list that the expression derives begins with `ts` and continues with the first token of `us`
abbrev pub StopsBefore : Grammar → Expr → List Token → List Token → Type 0
StopsBefore g e ts us = (u : Token) (rest : List Token) → us ≡ u ∷ rest → Begins g e (ts ++ u ∷ []) → ⊥

-- A node of the symbol `k` between these tokens fails its check, though everything in the node passes. The node has a
-- token. After `before`, `k` can come next. No list of `k` begins with the tokens of the node and the next token.
abbrev pub IsRejected : Grammar → Expr → List Token → ℕ → ParseTree → List Token → List Token → Type 0
IsRejected g e ts k x before us =
    (ts ≡ before ++ (leaves x ++ us)) × (leaves x ≡ [] → ⊥) × Leads (lax g) e before (Sym k)
    × Fits g (row g k).rule x × (g.check k x ≡ false) × StopsBefore (lax g) (Sym k) (leaves x) us

-- An error by the grammar `g`. The plain grammar `lax g` has the same rules, and rejects no leaf and no node.
pub data IsFault (g : Grammar) (e : Expr) (t : Text) : Reason → ℕ → Type 0 where
  -- the invalid token after the other tokens; a reader that stops there returns `Unexpected`
  lexical_error : t.ending ≡ InvalidToken → IsFault g e t Unexpected (suc (length t.tokens))
  -- the first token or end of input that the plain grammar does not allow
  unexpected_item : (front us : List Token) → t.tokens ≡ front ++ us → (us ≡ [] → t.ending ≡ InputEnds)
      → Begins (lax g) e front → Ends (lax g) e front (peek us) → IsFault g e t Unexpected (suc (length front))
  -- a token that the plain grammar allows, but that is rejected as a leaf of its class
  leaf_rejected : (front us : List Token) (u : Token) (c : Class) → t.tokens ≡ front ++ u ∷ us
      → Leads (lax g) e front (One c) → matches c u ≡ true → g.good c u ≡ false
      → IsFault g e t (Improper c) (suc (length front))
  -- the last token of a rejected node
  node_rejected : (before us : List Token) (k : ℕ) (x : ParseTree) → IsRejected g e t.tokens k x before us
      → IsFault g e t (RejectedNode k) (length (before ++ leaves x))

-- the first error: no error has a smaller index
abbrev pub IsLeast : Grammar → Expr → Text → Reason → ℕ → Type 0
IsLeast g e t why n = IsFault g e t why n × ((other : Reason) (m : ℕ) → IsFault g e t other m → n ≤ m)

-- the index of an error, from the number of tokens before the place where the reader stopped
abbrev pub index_of : Reason → ℕ → ℕ
index_of (RejectedNode k) place = place
index_of why place = suc place
