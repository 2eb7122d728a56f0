-- What is proved about the reader.
use Rattle.std.specs.Prelude.{◌≡◌, ℕ, true, false, List, [], ◌∷◌, ◌++◌, length}
use Rattle.graphql_core.specs.grammar.Tokens.{Token, Class, matches}
use Rattle.graphql_core.specs.grammar.Trees.{Expr, One, Then, Either, Many, Sym, ParseTree, Leaf, Both, First, Second}
use Rattle.graphql_core.specs.grammar.Trees.{More, Node, Grammar, row, leaves, peek, Fits, Derives, Begins, Ends}
use Rattle.graphql_core.specs.grammar.Trees.{unchecked, lax}
use Rattle.graphql_core.specs.theory.Tables.{cont}
use Rattle.graphql_core.specs.theory.Reading.{sees, Takes, Fails, Outcome, ReadsTo}
use Rattle.graphql_core.specs.grammar.GrammarFaults.{Reason, Unexpected, Improper, RejectedNode}

-- the next token is of class `c`, but rejected as its leaf; the plain grammar (`lax g`) continues with the token
pub record IsValue (g : Grammar) (e : Expr) (front : List Token) (c : Class) (us : List Token) : Type 0 where
  pub token : Token
  pub rest : List Token
  pub is : us ≡ token ∷ rest
  pub of_class : matches c token ≡ true
  pub not_good : g.good c token ≡ false
  pub begins : Begins (lax g) e (front ++ token ∷ [])

-- a parse tree of the symbol `k` ends after `front`, and fails its check
pub record IsRejectedBefore (g : Grammar) (front : List Token) (k : ℕ) : Type 0 where
  pub tree : ParseTree
  pub before : List Token
  pub parts : front ≡ before ++ leaves tree
  pub fits : Fits g (row g k).rule tree
  pub check : g.check k tree ≡ false

-- The first error: some list begins with `front`, if no node is rejected, but no list continues after `front`.
pub record IsFirstFaultFor (g : Grammar) (e : Expr) (ts : List Token) (why : Reason) (us : List Token) : Type 0 where
  pub front : List Token
  pub parts : ts ≡ front ++ us
  pub begins : Begins (unchecked g) e front
  pub ends : Ends g e front (peek us)
  pub value : (c : Class) → why ≡ Improper c → IsValue g e front c us
  pub unexpected : why ≡ Unexpected → Ends (lax g) e front (peek us)

-- the same, and a node that is rejected is at the end of `front`
pub record IsFirstStop (g : Grammar) (e : Expr) (ts : List Token) (why : Reason) (us : List Token) : Type 0 where
  pub fault : IsFirstFaultFor g e ts why us
  pub rejected : (k : ℕ) → why ≡ RejectedNode k → IsRejectedBefore g fault.front k

-- the reader returns what the grammar derives
pub record IsExact (g : Grammar) (e : Expr) : Type 0 where
  -- a taken parse tree is derived, and its tokens come first
  pub sound : (ts us : List Token) (x : ParseTree) → Takes g e ts x us
      → Derives g e (leaves x) x × (ts ≡ leaves x ++ us)
  -- even in the plain grammar (`lax g`), no other list begins with the taken tokens and the next
  pub longest : (ts us : List Token) (x : ParseTree) → Takes g e ts x us → (y : ParseTree) (more : List Token)
      → Derives (lax g) e (leaves x ++ more) y → peek more ≡ peek us → (y ≡ x) × (more ≡ [])
  -- a derived list is taken, if the next token cannot continue the list
  pub complete : (ts rest : List Token) (x : ParseTree) → Derives g e ts x → sees (cont g.rows e) (peek rest) ≡ false
      → Takes g e (ts ++ rest) x rest
  -- a list has at most one parse tree
  pub unambiguous : (ts : List Token) (x y : ParseTree) → Derives g e ts x → Derives g e ts y → x ≡ y
  -- a list has at most one derived prefix that the next token cannot continue
  pub one_split : (ts us vs ws : List Token) (x y : ParseTree) → Derives g e ts x → Derives g e us y
      → ts ++ vs ≡ us ++ ws → sees (cont g.rows e) (peek vs) ≡ false → sees (cont g.rows e) (peek ws) ≡ false
      → (x ≡ y) × (ts ≡ us) × (vs ≡ ws)
  -- a reported error is the first error
  pub earliest : (ts us : List Token) (why : Reason) → Fails g e ts why us → IsFirstStop g e ts why us
  -- the reader has at most one outcome
  pub one_outcome : (ts : List Token) (o p : Outcome) → ReadsTo g e ts o → ReadsTo g e ts p → o ≡ p
  -- the reader always has an outcome
  pub has_outcome : (ts : List Token) → (o : Outcome) × ReadsTo g e ts o

-- the class that each token of a parse tree matches
abbrev pub classes : Grammar → Expr → ParseTree → List Class
classes g (One c) (Leaf t) = c ∷ []
classes g (Then a b) (Both x y) = classes g a x ++ classes g b y
classes g (Either a b) (First x) = classes g a x
classes g (Either a b) (Second y) = classes g b y
classes g (Many a) (More x y) = classes g a x ++ classes g (Many a) y
classes g (Sym k) (Node j x) = classes g (row g k).rule x
classes g _ _ = []

-- Parse trees whose tokens have a common prefix agree on its classes: later tokens never change a class.
abbrev pub ReadsAlike : Grammar → Expr → Type 0
ReadsAlike g e = (ts us vs : List Token) (x y : ParseTree) → Derives g e (ts ++ us) x → Derives g e (ts ++ vs) y
    → (cs : List Class) × (ds : List Class) × (es : List Class) × (classes g e x ≡ cs ++ ds)
    × (classes g e y ≡ cs ++ es) × (length cs ≡ length ts)

-- no node without tokens is rejected
abbrev pub RejectsTokens : Grammar → Type 0
RejectsTokens g = (k : ℕ) (x : ParseTree) → Fits g (row g k).rule x → g.check k x ≡ false → leaves x ≡ [] → ⊥
