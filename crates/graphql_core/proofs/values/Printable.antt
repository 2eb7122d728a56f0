-- What the shared productions derive can be printed.
use Rattle.std.specs.Ordering.{match_ordering}
use Rattle.std.proofs.Common.{ℕ, ◌-◌, ◌≤◌, List, [], ◌∷◌, Ordering, Less, Equal, Greater, nat_cmp, codes, refl, arith, ◌≡◌, true, sym, subst}
use Rattle.graphql_core.specs.{Grammar, Many, Sym, ParseTree, optional, One, Then, row, some_of, Node, Expr, IsName, ValueTree, ValueMembers, put, TypeTree}
use Rattle.graphql_core.specs.{named, list_of, no_members, member, shared, punctuator, value_symbol, const_symbol, const_pair_symbol, plain_symbol, type_symbol}
use Rattle.graphql_core.specs.{arguments_symbol, argument_symbol, directives_symbol, directive_symbol, default_symbol, spelling_at, plain_of, put_all, value_of}
use Rattle.graphql_core.specs.{values_of, argument_of, pairs_of, const_of, consts_of, const_pair_of, const_pairs_of, default_of, optional_non_null, type_of}
use Rattle.graphql_core.specs.{arguments_of, optional_arguments_of, directive_of, directives_of, optional_default_of, IsPrintableValue, ArePrintableItems}
use Rattle.graphql_core.specs.{ArePrintableMembers, AreConstant, HoldConstants, AdmitsNull, IsPrintableType, IsPrintableArgument, IsPrintableDirective}
use Rattle.graphql_core.specs.{IsPrintableDefault, value_brackets, items_brackets, members_brackets, type_brackets, argument_brackets, arguments_brackets}
use Rattle.graphql_core.specs.{directive_brackets, directives_brackets, most, most_enclosed, each_of, optional_of, optional_list_of, enclosed_of, Class, Token}
use Rattle.graphql_core.specs.{Items, split, IsDocument, IsDocumentOf, Language}
use Rattle.graphql_core.proofs.values.BracketCapacity.{HasCapacity, capacity_nothing, capacity_leaf, capacity_both, capacity_first, capacity_second, capacity_stop, capacity_more, capacity_node}
use Rattle.graphql_core.proofs.values.BracketCapacity.{all_turns, has_capacity, openers, capacity_after, are_balanced}
use Rattle.graphql_core.proofs.values.NestingDepth.{Nests, Anything, nests, nests_tree}
use Rattle.std.specs.Cmp.Lexicographic.{slice_cmp}
use Rattle.std.specs.List.{AllByRecursion}
use Rattle.std.specs.Option.{IfSome, option_map_or}
use Rattle.graphql_core.proofs.values.Leaves.{leaf_name, leaf_except}

-- ---- all elements of a list, each with at most n nested brackets

abbrev pub Within : {A : Type 0} → (A → Type 0) → (A → ℕ) → ℕ → A → Type 0
Within P brackets n x = P x × (brackets x ≤ n)

pub all_within : {A : Type 0} (P : A → Type 0) (brackets : A → ℕ) (n : ℕ) (xs : List A) → AllByRecursion (Within P brackets n) xs → AllByRecursion P xs
    × (most brackets xs ≤ n)
all_within P brackets n [] h = (tt, omega arith)
all_within P brackets n (x ∷ xs) h = let (p, b) = all_within P brackets n xs h.1 in let c = h.0.1 in ((h.0.0, p), omega arith)

pub each_of_both : {A : Type 0} (P Q : A → Type 0) (xs : List A) → AllByRecursion (λ x. P x × Q x) xs → AllByRecursion P xs × AllByRecursion Q xs
each_of_both P Q [] h = (tt, tt)
each_of_both P Q (x ∷ xs) ((p, q), h) = let (ps, qs) = each_of_both P Q xs h in ((p, ps), (q, qs))

-- what a symbol derives can be printed, and so can a list of it
module _ {A : Type 0} {g : Grammar} (k : ℕ) (f : ParseTree → A) (P : A → Type 0) (brackets : A → ℕ)
    (one : (n : ℕ) (x : ParseTree) → HasCapacity g n (Sym k) x → Within P brackets n (f x)) where
  pub each_printable : {n : ℕ} {x : ParseTree} → HasCapacity g n (Many (Sym k)) x → Within (AllByRecursion P) (most brackets) n (each_of f x)
  each_printable {n} {x} r = all_within P brackets n (each_of f x) (all_turns (Within P brackets n) f (each_of f) refl (λ y z. refl) (one n) r)

  pub some_printable : {n : ℕ} {x : ParseTree} → HasCapacity g n (some_of (Sym k)) x → Within (AllByRecursion P) (most brackets) n (each_of f x)
  some_printable {n} (capacity_both {x = x} r rs) = let (is, b) = one n x r in let (are, c) = each_printable rs in ((is, are), omega arith)

  inside : (j : ℕ) {n : ℕ} {o c : Class} {x : ParseTree} → openers (One o) ≡ 1 → ((m : ℕ) → capacity_after (One o) m ≡ m - 1)
      → HasCapacity g n (Then (One o) (Then (some_of (Sym k)) (One c))) x → Within (AllByRecursion P) (most_enclosed brackets) n (enclosed_of f (Node j x))
  inside j {n} opens after (capacity_both (capacity_leaf a l d) (capacity_both (capacity_both r rs) e)) =
      let (are, b) = some_printable (capacity_both r rs) in
      let left = after n in
      (are, omega arith)

  -- an optional list between an opener and a closer
  pub enclosed_printable : {j n : ℕ} {o c : Class} {x : ParseTree} → (row g j).rule ≡ Then (One o) (Then (some_of (Sym k)) (One c)) → openers (One o) ≡ 1
      → ((m : ℕ) → capacity_after (One o) m ≡ m - 1) → HasCapacity g n (optional (Sym j)) x
      → Within (AllByRecursion P) (most_enclosed brackets) n (optional_list_of (enclosed_of f) x)
  enclosed_printable {j} {n} rule opens after (capacity_first (capacity_node {x = x} r e)) =
      inside j opens after (subst (λ (e : Expr). HasCapacity g n e x) rule r)
  enclosed_printable rule opens after (capacity_second capacity_nothing) = (tt, omega arith)

-- ---- optional parts

pub part_printable : {A : Type 0} {g : Grammar} {n : ℕ} {e : Expr} {x : ParseTree} (f : ParseTree → A) (P : A → Type 0)
    → ((y : ParseTree) → HasCapacity g n e y → P (f y))
    → HasCapacity g n (optional e) x → IfSome (optional_of f x) P
part_printable f P one (capacity_first {x = x} r) = one x r
part_printable f P one (capacity_second capacity_nothing) = tt

-- ---- names with values

abbrev pub IsValue : ℕ → ValueTree → Type 0
IsValue = Within IsPrintableValue value_brackets

abbrev pub IsDefault : ℕ → ValueTree → Type 0
IsDefault = Within IsPrintableDefault value_brackets

abbrev IsPair : (ValueTree → Type 0) → List ℕ × ValueTree → Type 0
IsPair V p = IsName p.0 × V p.1

abbrev AllFields : (ValueTree → Type 0) → ValueMembers → Type 0
AllFields V no_members = Unit {0}
AllFields V (member k v ms) = IsPair V (k, v) × AllFields V ms

fields_match : (V : ValueTree → Type 0) (o : Ordering) (a b c : ValueMembers) → AllFields V a → AllFields V b → AllFields V c
    → AllFields V (match_ordering o a b c)
fields_match V Less a b c p q r = p
fields_match V Equal a b c p q r = q
fields_match V Greater a b c p q r = r

put_keeps : (V : ValueTree → Type 0) (k : List ℕ) (v : ValueTree) (ms : ValueMembers) → IsPair V (k, v) → AllFields V ms → AllFields V (put k v ms)
put_keeps V k v no_members q h = (q, tt)
put_keeps V k v (member l w ms) q h = fields_match V (slice_cmp nat_cmp k l) _ _ _ (q, h) ((h.0.0, q.1), h.1) (h.0, put_keeps V k v ms q h.1)

put_all_keeps : (V : ValueTree → Type 0) (ps : List (List ℕ × ValueTree)) (ms : ValueMembers) → AllByRecursion (IsPair V) ps → AllFields V ms
    → AllFields V (put_all ps ms)
put_all_keeps V [] ms h all = all
put_all_keeps V (p ∷ ps) ms h all = put_all_keeps V ps (put p.0 p.1 ms) h.1 (put_keeps V p.0 p.1 ms h.0 all)

fields_printable : (n : ℕ) (ms : ValueMembers) → AllFields (IsValue n) ms → ArePrintableMembers ms × (members_brackets ms ≤ n)
fields_printable n no_members h = (tt, omega arith)
fields_printable n (member k v ms) h =
    let (are, b) = fields_printable n ms h.1 in
    let (is, c) = h.0.1 in
    ((h.0.0, is, are), omega arith)

fields_constant : (n : ℕ) (ms : ValueMembers) → AllFields (IsDefault n) ms → ArePrintableMembers ms × HoldConstants ms × (members_brackets ms ≤ n)
fields_constant n no_members h = (tt, tt, omega arith)
fields_constant n (member k v ms) h =
    let (are, constant, b) = fields_constant n ms h.1 in
    let (is, c) = h.0.1 in
    ((h.0.0, is.0, are), (is.1, constant), omega arith)

object_printable : (n : ℕ) (ps : List (List ℕ × ValueTree)) → AllByRecursion (IsPair (IsValue n)) ps → ArePrintableMembers (put_all ps no_members)
    × (members_brackets (put_all ps no_members) ≤ n)
object_printable n ps h = fields_printable n (put_all ps no_members) (put_all_keeps (IsValue n) ps no_members h tt)

object_constant : (n : ℕ) (ps : List (List ℕ × ValueTree)) → AllByRecursion (IsPair (IsDefault n)) ps
    → ArePrintableMembers (put_all ps no_members) × HoldConstants (put_all ps no_members) × (members_brackets (put_all ps no_members) ≤ n)
object_constant n ps h = fields_constant n (put_all ps no_members) (put_all_keeps (IsDefault n) ps no_members h tt)

arguments_within : (n : ℕ) (ps : List (List ℕ × ValueTree)) → AllByRecursion (IsPair (IsValue n)) ps → AllByRecursion IsPrintableArgument ps
    × (most argument_brackets ps ≤ n)
arguments_within n [] h = (tt, omega arith)
arguments_within n (p ∷ ps) h =
    let (are, b) = arguments_within n ps h.1 in
    let (is, c) = h.0.1 in
    (((h.0.0, is), are), omega arith)

-- ---- values

plain_printable : {n : ℕ} {x : ParseTree} → HasCapacity shared n (Sym plain_symbol) x → IsDefault n (plain_of x)
plain_printable (capacity_node (capacity_first t) c) = ((tt, tt), omega arith)
plain_printable (capacity_node (capacity_second (capacity_first t)) c) = ((tt, tt), omega arith)
plain_printable (capacity_node (capacity_second (capacity_second (capacity_first t))) c) = ((tt, tt), omega arith)
plain_printable (capacity_node (capacity_second (capacity_second (capacity_second (capacity_first (capacity_node t e))))) c) =
    (((leaf_name refl t, (leaf_except (codes "true") refl t, (leaf_except (codes "false") refl t, (leaf_except (codes "null") refl t, tt)))), tt), omega arith)
plain_printable (capacity_node (capacity_second (capacity_second (capacity_second (capacity_second (capacity_first t))))) c) = ((tt, tt), omega arith)
plain_printable (capacity_node (capacity_second (capacity_second (capacity_second (capacity_second (capacity_second (capacity_first t)))))) c) = ((tt, tt), omega arith)
plain_printable (capacity_node (capacity_second (capacity_second (capacity_second (capacity_second (capacity_second (capacity_second (capacity_first t))))))) c) = ((tt, tt), omega arith)
plain_printable (capacity_node (capacity_second (capacity_second (capacity_second (capacity_second (capacity_second (capacity_second (capacity_second t))))))) c) = ((tt, tt), omega arith)

mutual
  pub value_printable : {n : ℕ} {x : ParseTree} → HasCapacity shared n (Sym value_symbol) x → IsValue n (value_of x)
  value_printable (capacity_node (capacity_first (capacity_both d name)) c) = (leaf_name refl name, omega arith)
  value_printable (capacity_node (capacity_second (capacity_first p)) c) = let (is, b) = plain_printable p in (is.0, b)
  value_printable (capacity_node (capacity_second (capacity_second (capacity_first (capacity_both (capacity_leaf a l most) (capacity_both vs e))))) c) =
      let (are, b) = items_printable vs in
      (are, omega arith)
  value_printable {n} (capacity_node (capacity_second (capacity_second (capacity_second (capacity_both (capacity_leaf a l most) (capacity_both {x = ps} f e))))) c) =
      let (are, b) = object_printable (n - 1) (pairs_of ps) (pairs_printable f) in
      (are, omega arith)

  items_printable : {n : ℕ} {x : ParseTree} → HasCapacity shared n (Many (Sym value_symbol)) x
      → ArePrintableItems (values_of x) × (items_brackets (values_of x) ≤ n)
  items_printable capacity_stop = (tt, omega arith)
  items_printable (capacity_more f fs) =
      let (is, b) = value_printable f in
      let (are, c) = items_printable fs in
      ((is, are), omega arith)

  argument_printable : {n : ℕ} {x : ParseTree} → HasCapacity shared n (Sym argument_symbol) x → IsPair (IsValue n) (argument_of x)
  argument_printable (capacity_node (capacity_both name (capacity_both colon f)) c) = (leaf_name refl name, value_printable f)

  pairs_printable : {n : ℕ} {x : ParseTree} → HasCapacity shared n (Many (Sym argument_symbol)) x → AllByRecursion (IsPair (IsValue n)) (pairs_of x)
  pairs_printable capacity_stop = tt
  pairs_printable (capacity_more f fs) = (argument_printable f, pairs_printable fs)

-- the same for constants
mutual
  const_printable : {n : ℕ} {x : ParseTree} → HasCapacity shared n (Sym const_symbol) x → IsDefault n (const_of x)
  const_printable (capacity_node (capacity_first p) c) = plain_printable p
  const_printable (capacity_node (capacity_second (capacity_first (capacity_both (capacity_leaf a l most) (capacity_both vs e)))) c) =
      let (are, constant, b) = consts_printable vs in
      ((are, constant), omega arith)
  const_printable {n} (capacity_node (capacity_second (capacity_second (capacity_both (capacity_leaf a l most) (capacity_both {x = ps} f e)))) c) =
      let (are, constant, b) = object_constant (n - 1) (const_pairs_of ps) (const_pairs_printable f) in
      ((are, constant), omega arith)

  consts_printable : {n : ℕ} {x : ParseTree} → HasCapacity shared n (Many (Sym const_symbol)) x → ArePrintableItems (consts_of x) × AreConstant (consts_of x)
      × (items_brackets (consts_of x) ≤ n)
  consts_printable capacity_stop = (tt, tt, omega arith)
  consts_printable (capacity_more f fs) =
      let (is, b) = const_printable f in
      let (are, constant, c) = consts_printable fs in
      ((is.0, are), (is.1, constant), omega arith)

  const_pair_printable : {n : ℕ} {x : ParseTree} → HasCapacity shared n (Sym const_pair_symbol) x → IsPair (IsDefault n) (const_pair_of x)
  const_pair_printable (capacity_node (capacity_both name (capacity_both colon f)) c) = (leaf_name refl name, const_printable f)

  const_pairs_printable : {n : ℕ} {x : ParseTree} → HasCapacity shared n (Many (Sym const_pair_symbol)) x → AllByRecursion (IsPair (IsDefault n)) (const_pairs_of x)
  const_pairs_printable capacity_stop = tt
  const_pairs_printable (capacity_more f fs) = (const_pair_printable f, const_pairs_printable fs)

default_printable : {n : ℕ} {x : ParseTree} → HasCapacity shared n (Sym default_symbol) x → IsDefault n (default_of x)
default_printable (capacity_node (capacity_both e f) c) = const_printable f

pub optional_default_printable : {n : ℕ} {x : ParseTree} → HasCapacity shared n (optional (Sym default_symbol)) x
    → IfSome (optional_default_of x) IsPrintableDefault × (option_map_or value_brackets (optional_default_of x) 0 ≤ n)
optional_default_printable (capacity_first f) = default_printable f
optional_default_printable (capacity_second capacity_nothing) = (tt, omega arith)

-- ---- types

optional_non_null_printable : {n m : ℕ} {x : ParseTree} (t : TypeTree) → HasCapacity shared m (optional (punctuator (codes "!"))) x → AdmitsNull t
    → Within IsPrintableType type_brackets n t
    → Within IsPrintableType type_brackets n (optional_non_null x t)
optional_non_null_printable t (capacity_first f) a (is, b) = ((a, is), b)
optional_non_null_printable t (capacity_second capacity_nothing) a h = h

pub type_printable : {n : ℕ} {x : ParseTree} → HasCapacity shared n (Sym type_symbol) x → Within IsPrintableType type_brackets n (type_of x)
type_printable (capacity_node (capacity_first (capacity_both {x = x} name m)) c) =
    optional_non_null_printable (named (spelling_at x)) m tt (leaf_name refl name, omega arith)
type_printable (capacity_node (capacity_second (capacity_both (capacity_leaf a l most) (capacity_both {x = x} f (capacity_both e m)))) c) =
    let (is, b) = type_printable f in
    optional_non_null_printable (list_of (type_of x)) m tt (is, omega arith)

-- ---- arguments and directives

pub arguments_printable : {n : ℕ} {x : ParseTree} → HasCapacity shared n (Sym arguments_symbol) x
    → Within (AllByRecursion IsPrintableArgument) arguments_brackets n (arguments_of x)
arguments_printable {n} (capacity_node (capacity_both (capacity_leaf a l d) (capacity_both (capacity_both {x = x} {y = xs} f fs) e)) c) =
    let (are, b) = arguments_within (n - 1) (argument_of x ∷ pairs_of xs) (argument_printable f, pairs_printable fs) in
    (are, omega arith)

pub optional_arguments_printable : {n : ℕ} {x : ParseTree} → HasCapacity shared n (optional (Sym arguments_symbol)) x
    → Within (AllByRecursion IsPrintableArgument) arguments_brackets n (optional_arguments_of x)
optional_arguments_printable (capacity_first f) = arguments_printable f
optional_arguments_printable (capacity_second capacity_nothing) = (tt, omega arith)

directive_printable : (n : ℕ) (x : ParseTree) → HasCapacity shared n (Sym directive_symbol) x → Within IsPrintableDirective directive_brackets n (directive_of x)
directive_printable n _ (capacity_node (capacity_both sign (capacity_both name arguments)) c) =
    let (are, b) = optional_arguments_printable arguments in
    ((leaf_name refl name, are), b)

pub directives_printable : {n : ℕ} {x : ParseTree} → HasCapacity shared n (Sym directives_symbol) x
    → Within (AllByRecursion IsPrintableDirective) directives_brackets n (directives_of x)
directives_printable (capacity_node fs c) = each_printable directive_symbol directive_of IsPrintableDirective directive_brackets directive_printable fs

-- ---- documents

-- a language whose brackets are balanced, if its documents of at most 50 nested brackets can be printed
module _ {D : Type 0} (l : Language D) (balanced : are_balanced l.grammar.rows ≡ true) (P : D → Type 0)
    (document : (x : ParseTree) → HasCapacity l.grammar 50 (Sym l.document) x → P (l.means x)) where
  pub tokens_printable : (i : Items) (d : D) → Nests i.tokens 50 Anything → IsDocument l i d → P d
  tokens_printable i d nested (x, (fits, is), end, e) =
      let capacity = nests_tree x 50 Anything (subst (λ (ts : List Token). Nests ts 50 Anything) is nested) in
      subst P (sym e) (document x (has_capacity l.grammar balanced fits 50 Anything capacity))

  pub text_printable : (text : List ℕ) (d : D) → IsDocumentOf l text d → P d
  text_printable text d (items, has, document) = tokens_printable (split items) d (nests text items has) document
