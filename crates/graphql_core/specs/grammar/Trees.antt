-- A grammar as data, and what it derives: parse trees, with their tokens in order.
use Rattle.std.specs.Prelude.{◌≡◌, ℕ, zero, suc, ◌+◌, Bool, true, ◌&&◌, List, [], ◌∷◌, ◌++◌, take, drop}
use Rattle.std.specs.Prelude.{Option, Some, None}
use Rattle.graphql_core.specs.grammar.Tokens.{Token, Class, matches}

pub data Expr : Type 0 where
  Empty : Expr
  One : (class : Class) → Expr
  Then : (a b : Expr) → Expr
  Either : (a b : Expr) → Expr
  Many : (a : Expr) → Expr
  Sym : (symbol : ℕ) → Expr

abbrev pub optional : Expr → Expr
optional e = Either e Empty

abbrev pub some_of : Expr → Expr
some_of e = Then e (Many e)

pub data ParseTree : Type 0 where
  Nothing : ParseTree
  Leaf : (token : Token) → ParseTree
  Both : (x y : ParseTree) → ParseTree
  First : (x : ParseTree) → ParseTree
  Second : (y : ParseTree) → ParseTree
  Stop : ParseTree
  More : (x y : ParseTree) → ParseTree
  Node : (symbol : ℕ) (x : ParseTree) → ParseTree

-- the tokens of a parse tree, in order
abbrev pub leaves : ParseTree → List Token
leaves Nothing = []
leaves (Leaf t) = t ∷ []
leaves (Both x y) = leaves x ++ leaves y
leaves (First x) = leaves x
leaves (Second y) = leaves y
leaves Stop = []
leaves (More x y) = leaves x ++ leaves y
leaves (Node k x) = leaves x

-- a symbol: its rule, and the tables that `is_row` compares with the rule
pub record Row : Type 0 where
  pub rule : Expr
  pub nullable : Bool
  pub first : List Class
  pub cont : List Class
  pub rank : ℕ
  pub least : ParseTree

abbrev pub no_row : Row
no_row = record { rule = Empty; nullable = true; first = []; cont = []; rank = 0; least = Nothing }

-- rules with their tables beside them, so that a rule can be looked up without unfolding the tables

abbrev pub first_row : List Row → Row
first_row [] = no_row
first_row (r ∷ rs) = r

abbrev pub other_rows : List Row → List Row
other_rows [] = []
other_rows (r ∷ rs) = rs

abbrev pub with_tables : List Expr → List Row → List Row
with_tables [] rs = []
with_tables (e ∷ es) rs =
    record {
      rule = e;
      nullable = (first_row rs).nullable;
      first = (first_row rs).first;
      cont = (first_row rs).cont;
      rank = (first_row rs).rank;
      least = (first_row rs).least;
    }
    ∷ with_tables es (other_rows rs)

-- the list with another element at an index
abbrev pub replaced : {A : Type 0} → ℕ → A → List A → List A
replaced k x xs = take k xs ++ x ∷ drop (k + 1) xs

-- The rows of the symbols 0, 1, ..; which tokens are accepted as a leaf of a class;
-- which parse trees pass the check of their symbol; and an accepted token for each class.
pub record Grammar : Type 0 where
  pub rows : List Row
  pub good : Class → Token → Bool
  pub check : ℕ → ParseTree → Bool
  pub samples : List Token

abbrev pub row_at : List Row → ℕ → Row
row_at [] k = no_row
row_at (r ∷ rs) zero = r
row_at (r ∷ rs) (suc k) = row_at rs k

abbrev pub row : Grammar → ℕ → Row
row g k = row_at g.rows k

-- the token is of the class, and accepted as its leaf
abbrev pub accepts : Grammar → Class → Token → Bool
accepts g c t = matches c t && g.good c t

-- the parse tree is a derivation from the expression
pub data Fits (g : Grammar) : Expr → ParseTree → Type 0 where
  fits_nothing : Fits g Empty Nothing
  fits_leaf : {c : Class} {t : Token} → accepts g c t ≡ true → Fits g (One c) (Leaf t)
  fits_both : {a b : Expr} {x y : ParseTree} → Fits g a x → Fits g b y → Fits g (Then a b) (Both x y)
  fits_first : {a b : Expr} {x : ParseTree} → Fits g a x → Fits g (Either a b) (First x)
  fits_second : {a b : Expr} {y : ParseTree} → Fits g b y → Fits g (Either a b) (Second y)
  fits_stop : {a : Expr} → Fits g (Many a) Stop
  fits_more : {a : Expr} {x y : ParseTree} → Fits g a x → Fits g (Many a) y → Fits g (Many a) (More x y)
  fits_node : {k : ℕ} {x : ParseTree} → Fits g (row g k).rule x → g.check k x ≡ true → Fits g (Sym k) (Node k x)

-- the expression derives these tokens by this parse tree
abbrev pub Derives : Grammar → Expr → List Token → ParseTree → Type 0
Derives g e ts x = Fits g e x × (ts ≡ leaves x)

-- the expression derives a list that begins with these tokens
abbrev pub Begins : Grammar → Expr → List Token → Type 0
Begins g e ts = (x : ParseTree) × (more : List Token) × Derives g e (ts ++ more) x

-- the next token, or `None` at the end
abbrev pub peek : List Token → Option Token
peek [] = None
peek (t ∷ ts) = Some t

-- no list that the expression derives begins with these tokens and continues with `item`: a token, or `None` at the end
abbrev pub Ends : Grammar → Expr → List Token → Option Token → Type 0
Ends g e ts item = (x : ParseTree) (more : List Token) → Derives g e (ts ++ more) x → peek more ≡ item → ⊥

-- the same rules with other tests of leaves and nodes
abbrev pub with_tests : Grammar → (Class → Token → Bool) → (ℕ → ParseTree → Bool) → Grammar
with_tests g good check = record { rows = g.rows; good = good; check = check; samples = g.samples }

-- the grammar without tests of nodes
abbrev pub unchecked : Grammar → Grammar
unchecked g = with_tests g g.good (λ k x. true)

-- the plain grammar: no leaf and no node is rejected
abbrev pub lax : Grammar → Grammar
lax g = with_tests g (λ c t. true) (λ k x. true)
