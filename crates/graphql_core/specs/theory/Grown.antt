-- A grammar that grows: the later grammar derives what the earlier one derives.
-- The parse trees are the same, except for new parts, which are empty.
use Rattle.std.specs.Prelude.{◌≡◌, ℕ, zero, suc, Bool, true, false, ◌&&◌, ◌==◌, List, [], ◌∷◌, length, Option, Some}
use Rattle.std.specs.Prelude.{None}
use Rattle.graphql_core.specs.grammar.Tokens.{Token, Class, Spelled, AnyOf, Except, same_spelling}
use Rattle.graphql_core.specs.theory.Classes.{same_spellings}
use Rattle.graphql_core.specs.grammar.Trees.{Expr, Empty, One, Then, Either, Many, Sym, ParseTree, Both, First, Second}
use Rattle.graphql_core.specs.grammar.Trees.{More, Grammar, row, Fits, Derives, leaves}
use Rattle.graphql_core.specs.theory.Factored.{with_nodes}
use Rattle.graphql_core.specs.theory.Tables.{has_tree}
use Rattle.graphql_core.specs.theory.Extended.{is_below}

-- Where a rule has new parts: nowhere; in the parts of a sequence, the sides of a choice, or the body of a repetition;
-- before or after the rule, where `new` is the parse tree of the new part; or as another side of a choice.
pub data Growth : Type 0 where
  Same : Growth
  InParts : (a b : Growth) → Growth
  InSides : (a b : Growth) → Growth
  InTurns : (a : Growth) → Growth
  Before : (new : ParseTree) (a : Growth) → Growth
  After : (a : Growth) (new : ParseTree) → Growth
  AsFirst : (a : Growth) → Growth
  AsSecond : (a : Growth) → Growth

-- a parse tree of the earlier rule as one of the later rule
abbrev pub later_tree : Growth → ParseTree → ParseTree
later_tree (InParts a b) (Both x y) = Both (later_tree a x) (later_tree b y)
later_tree (InSides a b) (First x) = First (later_tree a x)
later_tree (InSides a b) (Second y) = Second (later_tree b y)
later_tree (InTurns a) (More x y) = More (later_tree a x) (later_tree (InTurns a) y)
later_tree (Before z a) x = Both z (later_tree a x)
later_tree (After a z) x = Both (later_tree a x) z
later_tree (AsFirst a) x = First (later_tree a x)
later_tree (AsSecond a) x = Second (later_tree a x)
later_tree _ x = x

-- how the rule of each symbol grows, or `None` if its parse trees do not change
abbrev pub growth_at : List (Option Growth) → ℕ → Option Growth
growth_at [] k = None
growth_at (p ∷ ps) zero = p
growth_at (p ∷ ps) (suc k) = growth_at ps k

abbrev pub either_way : Option Growth → ParseTree → ParseTree → ParseTree
either_way None x y = x
either_way (Some p) x y = later_tree p y

-- the same at every node of a parse tree
abbrev pub grown : List (Option Growth) → ParseTree → ParseTree
grown ps = with_nodes (λ k x y. either_way (growth_at ps k) x y)

-- ---- the test

-- tests that two classes, or two expressions, are the same
abbrev pub same_class : Class → Class → Bool
same_class (Spelled k s) (Spelled j u) = (k == j) && same_spelling s u
same_class (AnyOf k) (AnyOf j) = k == j
same_class (Except k ss) (Except j us) = (k == j) && same_spellings ss us
same_class _ _ = false

abbrev pub same_rule : Expr → Expr → Bool
same_rule Empty Empty = true
same_rule (One c) (One d) = same_class c d
same_rule (Then a b) (Then c d) = same_rule a c && same_rule b d
same_rule (Either a b) (Either c d) = same_rule a c && same_rule b d
same_rule (Many a) (Many b) = same_rule a b
same_rule (Sym j) (Sym k) = j == k
same_rule _ _ = false

abbrev pub no_tokens : List Token → Bool
no_tokens [] = true
no_tokens (t ∷ ts) = false

-- `z` is a parse tree of `e` in the later grammar `h`, and has no tokens
abbrev pub has_empty : Grammar → Expr → ParseTree → Bool
has_empty h e z = has_tree h e z && no_tokens (leaves z)

-- the expression `f` of the later grammar `h` is `e` with these new parts
abbrev pub grows : Grammar → Growth → Expr → Expr → Bool
grows h Same e f = same_rule e f
grows h (InParts p q) (Then a b) (Then c d) = grows h p a c && grows h q b d
grows h (InSides p q) (Either a b) (Either c d) = grows h p a c && grows h q b d
grows h (InTurns p) (Many a) (Many c) = grows h p a c
grows h (Before z p) e (Then c d) = has_empty h c z && grows h p e d
grows h (After p z) e (Then c d) = grows h p e c && has_empty h d z
grows h (AsFirst p) e (Either c d) = grows h p e c
grows h (AsSecond p) e (Either c d) = grows h p e d
grows h _ _ _ = false

-- the expression names only symbols whose parse trees do not change
abbrev pub is_none : Option Growth → Bool
is_none None = true
is_none (Some p) = false

abbrev pub is_whole : List (Option Growth) → Expr → Bool
is_whole ps Empty = true
is_whole ps (One c) = true
is_whole ps (Then a b) = is_whole ps a && is_whole ps b
is_whole ps (Either a b) = is_whole ps a && is_whole ps b
is_whole ps (Many a) = is_whole ps a
is_whole ps (Sym k) = is_none (growth_at ps k)

abbrev pub rule_grows : List (Option Growth) → Grammar → Option Growth → Expr → Expr → Bool
rule_grows ps h None e f = same_rule e f && is_whole ps e
rule_grows ps h (Some p) e f = grows h p e f

-- tests how the rules of the first `n` symbols of `g` grow
abbrev pub rules_grow : List (Option Growth) → Grammar → Grammar → ℕ → Bool
rules_grow ps g h zero = true
rules_grow ps g h (suc k) =
    (is_below (length g.rows) (row g k).rule && rule_grows ps h (growth_at ps k) (row g k).rule (row h k).rule)
    && rules_grow ps g h k

-- The later grammar `h` is the earlier grammar `g` with these new parts. The test of the rules is computed.
-- A leaf or a node that `g` accepts is also accepted by `h`.
pub record Grows (ps : List (Option Growth)) (g h : Grammar) : Type 0 where
  pub rules : rules_grow ps g h (length g.rows) ≡ true
  pub good : (c : Class) (t : Token) → g.good c t ≡ true → h.good c t ≡ true
  pub check : (k : ℕ) (x : ParseTree) → Fits g (row g k).rule x → g.check k x ≡ true
      → h.check k (either_way (growth_at ps k) x (grown ps x)) ≡ true

-- the later grammar derives what the earlier one derives, with the new parts empty
abbrev pub DerivesOn : List (Option Growth) → Grammar → Grammar → Expr → Type 0
DerivesOn ps g h e = (ts : List Token) (x : ParseTree) → Derives g e ts x → Derives h e ts (grown ps x)
