-- What a reader returns for a whole input.
use Rattle.std.specs.Prelude.{◌≡◌, ◌↔◌, ◌≤◌, ℕ, ◌-◌, List, [], ◌∷◌, length, take, drop}
use Rattle.graphql_core.specs.grammar.Tokens.{Class}
use Rattle.graphql_core.specs.grammar.Trees.{Expr, ParseTree, Row, Grammar, Derives, Begins, unchecked, lax}
use Rattle.graphql_core.specs.grammar.Texts.{Text, Ending, InputEnds, InvalidToken, EndsAt}
use Rattle.graphql_core.specs.grammar.GrammarFaults.{Reason, Unexpected, Improper, IsFault, IsLeast, index_of}
use Rattle.graphql_core.specs.theory.Factored.{Change, written, with_rows}
use Rattle.graphql_core.specs.theory.Reading.{Outcome, Done, Fault, ReadsTo}
use Rattle.graphql_core.specs.theory.Theorems.{IsValue}

pub data WholeResult : Type 0 where
  Tree : (x : ParseTree) → WholeResult
  Rejected : (why : Reason) (place : ℕ) → WholeResult

-- a parse tree only if no token is left; `place` is the number of tokens before the place where the reader stopped
abbrev pub result_of : Text → Outcome → WholeResult
result_of t (Fault why us) = Rejected why (length t.tokens - length us)
result_of t (Done x (u ∷ us)) = Rejected Unexpected (length t.tokens - length (u ∷ us))
result_of t (Done x []) = at_end t.ending
  where
    at_end : Ending → WholeResult
    at_end InputEnds = Tree x
    at_end InvalidToken = Rejected Unexpected (length t.tokens)

-- the reader returns `a` for the input `t`
abbrev pub HasResult : Grammar → Expr → Text → WholeResult → Type 0
HasResult g e t a = (o : Outcome) × ReadsTo g e t.tokens o × (a ≡ result_of t o)

-- The first error, after `place` tokens: no derived list continues there.
-- The plain grammar (`lax g`) continues with an improper token, but not with an unexpected one.
pub record IsGrammarFaultAt (g : Grammar) (e : Expr) (t : Text) (why : Reason) (place : ℕ) : Type 0 where
  pub within : place ≤ length t.tokens
  pub begins : Begins (unchecked g) e (take place t.tokens)
  pub ends : EndsAt g e (take place t.tokens) (drop place t.tokens) t.ending
  pub value : (c : Class) → why ≡ Improper c → IsValue g e (take place t.tokens) c (drop place t.tokens)
  pub unexpected : why ≡ Unexpected → EndsAt (lax g) e (take place t.tokens) (drop place t.tokens) t.ending

pub record IsWhole (g : Grammar) (e : Expr) : Type 0 where
  -- a parse tree is returned exactly if the grammar derives it from the whole input
  pub tree : (t : Text) (x : ParseTree) → HasResult g e t (Tree x) ↔ (Derives g e t.tokens x × (t.ending ≡ InputEnds))
  -- an error is at the first place where no derived list continues
  pub wrong : (t : Text) (why : Reason) (place : ℕ) → HasResult g e t (Rejected why place)
      → IsGrammarFaultAt g e t why place
  -- there is exactly one result
  pub has_result : (t : Text) → (a : WholeResult) × HasResult g e t a
  pub one : (t : Text) (a b : WholeResult) → HasResult g e t a → HasResult g e t b → a ≡ b

-- the same for a written grammar `g` that is read by its factored rules
pub record IsWholeFor (g : Grammar) (rs : List Row) (cs : List Change) (e : Expr) : Type 0 where
  pub sound : (t : Text) (x : ParseTree) → HasResult (with_rows g rs cs) e t (Tree x)
      → Derives g e t.tokens (written cs x) × (t.ending ≡ InputEnds)
  pub complete : (t : Text) (y : ParseTree) → Derives g e t.tokens y → t.ending ≡ InputEnds
      → (x : ParseTree) × HasResult (with_rows g rs cs) e t (Tree x) × (written cs x ≡ y)
  pub wrong : (t : Text) (why : Reason) (place : ℕ) → HasResult (with_rows g rs cs) e t (Rejected why place)
      → IsGrammarFaultAt g e t why place

-- The reader of `h` returns the first error by `g`.
pub record ReturnsFirstError (g h : Grammar) (e : Expr) : Type 0 where
  -- a parse tree only if there is no error
  pub tree : (t : Text) (x : ParseTree) → HasResult h e t (Tree x) → (why : Reason) (n : ℕ) → IsFault g e t why n → ⊥
  pub wrong : (t : Text) (why : Reason) (place : ℕ) → HasResult h e t (Rejected why place)
      → IsLeast g e t why (index_of why place)
  -- no two errors have the same index
  pub one_index : (t : Text) (why other : Reason) (n : ℕ) → IsFault g e t why n → IsFault g e t other n → why ≡ other
  -- so the first error is unique
  pub one : (t : Text) (why other : Reason) (m n : ℕ) → IsLeast g e t why m → IsLeast g e t other n
      → (why ≡ other) × (m ≡ n)
