-- A grammar that extends another: its first rows are the rows of the other.
use Rattle.std.specs.Prelude.{◌≡◌, ◌<◌, ℕ, Bool, true, ◌&&◌, nat_lt, List}
use Rattle.graphql_core.specs.grammar.Tokens.{Token}
use Rattle.graphql_core.specs.grammar.Trees.{Expr, Empty, One, Then, Either, Many, Sym, ParseTree, Grammar, row_at}
use Rattle.graphql_core.specs.grammar.Trees.{Derives}
use Rattle.graphql_core.specs.theory.Factored.{Change, change_at}
use Rattle.graphql_core.specs.theory.Reading.{Takes, Fails}
use Rattle.graphql_core.specs.grammar.GrammarFaults.{Reason}

-- the expression names only symbols below `n`
abbrev pub is_below : ℕ → Expr → Bool
is_below n Empty = true
is_below n (One c) = true
is_below n (Then a b) = is_below n a && is_below n b
is_below n (Either a b) = is_below n a && is_below n b
is_below n (Many a) = is_below n a
is_below n (Sym k) = nat_lt k n

-- `h` tests tokens as `g` does, for the classes that the expression names
abbrev pub TestsAlike : Grammar → Grammar → Expr → Type 0
TestsAlike g h Empty = Unit {0}
TestsAlike g h (One c) = (t : Token) → h.good c t ≡ g.good c t
TestsAlike g h (Then a b) = TestsAlike g h a × TestsAlike g h b
TestsAlike g h (Either a b) = TestsAlike g h a × TestsAlike g h b
TestsAlike g h (Many a) = TestsAlike g h a
TestsAlike g h (Sym k) = Unit {0}

-- `h` has the first `n` rows of `g`, and tests their leaves and nodes as `g` does.
-- The rules of these rows name only symbols below `n`.
pub record Extends (n : ℕ) (g h : Grammar) : Type 0 where
  pub rows : (k : ℕ) → k < n → row_at h.rows k ≡ row_at g.rows k
  pub closed : (k : ℕ) → k < n → is_below n (row_at g.rows k).rule ≡ true
  pub good : (k : ℕ) → k < n → TestsAlike g h (row_at g.rows k).rule
  pub check : (k : ℕ) (x : ParseTree) → k < n → h.check k x ≡ g.check k x

-- The first `n` rules of `g` name only symbols below `n`. No change affects the parse trees of these symbols.
pub record LeavesAlone (n : ℕ) (g : Grammar) (cs : List Change) : Type 0 where
  pub closed : (k : ℕ) → k < n → is_below n (row_at g.rows k).rule ≡ true
  pub alone : (k : ℕ) → k < n → (x : ParseTree) → (change_at cs k).to_written x ≡ x

-- what `g` reads or derives, `h` reads or derives in the same way
pub record ReadsOn (g h : Grammar) (e : Expr) : Type 0 where
  pub takes : (ts us : List Token) (x : ParseTree) → Takes g e ts x us → Takes h e ts x us
  pub fails : (ts us : List Token) (why : Reason) → Fails g e ts why us → Fails h e ts why us
  pub derives : (ts : List Token) (x : ParseTree) → Derives g e ts x → Derives h e ts x
