-- The reader's outcome, one step at a time, and by computing.
use Rattle.std.proofs.Common.{◌≡◌, ℕ, zero, suc, Bool, true, false, ◌&&◌, ◌||◌, List, [], ◌∷◌, Option, Some, None, refl, ap, ap₂}
use Rattle.graphql_core.specs.{Choice, Neither, Outcome, Done, Fault, ReadsTo, fails_first, fails_second, fails_neither, fails_turn, fails_later, sees, choose}
use Rattle.graphql_core.specs.{Left, Right, Takes, takes_nothing, takes_leaf, takes_both, takes_first, takes_second, takes_stop, takes_more, takes_node}
use Rattle.graphql_core.specs.{Unexpected, Improper, RejectedNode, fails_one, fails_value, fails_before, fails_after, fails_node, fails_check, Grammar, Expr, Empty}
use Rattle.graphql_core.specs.{One, Then, Either, Many, Sym, ParseTree, Nothing, Leaf, Both, First, Second, Stop, More, Node, row, peek, Token, Class, matches}
use Rattle.graphql_core.specs.{first}

-- an outcome, with the proof that it is the reader's
abbrev pub ReaderOutcome : Grammar → Expr → List Token → Type 0
ReaderOutcome g e ts = (o : Outcome) × ReadsTo g e ts o

-- the same, if one was found
abbrev pub Found : Grammar → Expr → List Token → Type 0
Found g e ts = Option (ReaderOutcome g e ts)

-- an outcome for an expression from the one found for a part
abbrev from_found : {g : Grammar} {a e : Expr} {ts us : List Token} → (ReaderOutcome g a us → ReaderOutcome g e ts) → Found g a us → Found g e ts
from_found f None = None
from_found f (Some r) = Some (f r)

module _ (g : Grammar) where
  abbrev leaf : (c : Class) (t : Token) (ts : List Token) (m v : Bool) → matches c t ≡ m → g.good c t ≡ v → ReaderOutcome g (One c) (t ∷ ts)
  leaf c t ts true true h k = (Done (Leaf t) ts, takes_leaf (ap₂ (λ a b. a && b) h k))
  leaf c t ts true false h k = (Fault (Improper c) (t ∷ ts), fails_value h k)
  leaf c t ts false v h k = (Fault Unexpected (t ∷ ts), fails_one (ap (λ a. a || false) h))

  abbrev pub leaf_outcome : (c : Class) (ts : List Token) → ReaderOutcome g (One c) ts
  leaf_outcome c [] = (Fault Unexpected [], fails_one refl)
  leaf_outcome c (t ∷ ts) = leaf c t ts (matches c t) (g.good c t) refl refl

  abbrev pub then_taken : {a b : Expr} {ts us : List Token} {x : ParseTree} → Takes g a ts x us → ReaderOutcome g b us → ReaderOutcome g (Then a b) ts
  then_taken h (Done y vs, k) = (Done (Both _ y) vs, takes_both h k)
  then_taken h (Fault why vs, k) = (Fault why vs, fails_after h k)

  abbrev both : {a b : Expr} {ts : List Token} → ((us : List Token) → Found g b us) → Found g a ts → Found g (Then a b) ts
  both next None = None
  both next (Some (Done x us, h)) = from_found (then_taken h) (next us)
  both next (Some (Fault why us, h)) = Some (Fault why us, fails_before h)

  abbrev pub first_outcome : {a b : Expr} {ts : List Token} → choose g.rows a b (peek ts) ≡ Left → ReaderOutcome g a ts → ReaderOutcome g (Either a b) ts
  first_outcome c (Done x us, h) = (Done (First x) us, takes_first c h)
  first_outcome c (Fault why us, h) = (Fault why us, fails_first c h)

  abbrev pub second_outcome : {a b : Expr} {ts : List Token} → choose g.rows a b (peek ts) ≡ Right → ReaderOutcome g b ts → ReaderOutcome g (Either a b) ts
  second_outcome c (Done y us, h) = (Done (Second y) us, takes_second c h)
  second_outcome c (Fault why us, h) = (Fault why us, fails_second c h)

  abbrev either : {a b : Expr} {ts : List Token} (c : Choice) → choose g.rows a b (peek ts) ≡ c → Found g a ts → Found g b ts → Found g (Either a b) ts
  either Left e p q = from_found (first_outcome e) p
  either Right e p q = from_found (second_outcome e) q
  either Neither e p q = Some (Fault Unexpected _, fails_neither e)

  abbrev pub turn_taken : {a : Expr} {ts us : List Token} {x : ParseTree} → sees (first g.rows a) (peek ts) ≡ true → Takes g a ts x us
      → ReaderOutcome g (Many a) us
      → ReaderOutcome g (Many a) ts
  turn_taken s h (Done y vs, k) = (Done (More _ y) vs, takes_more s h k)
  turn_taken s h (Fault why vs, k) = (Fault why vs, fails_later s h k)

  abbrev many : {a : Expr} {ts : List Token} (b : Bool) → sees (first g.rows a) (peek ts) ≡ b → ((us : List Token) → Found g (Many a) us) → Found g a ts
      → Found g (Many a) ts
  many false s next p = Some (Done Stop _, takes_stop s)
  many true s next None = None
  many true s next (Some (Done x us, h)) = from_found (turn_taken s h) (next us)
  many true s next (Some (Fault why us, h)) = Some (Fault why us, fails_turn s h)

  abbrev checked : {k : ℕ} {ts us : List Token} {x : ParseTree} → Takes g (row g k).rule ts x us → (b : Bool) → g.check k x ≡ b → ReaderOutcome g (Sym k) ts
  checked h true c = (Done (Node _ _) _, takes_node h c)
  checked h false c = (Fault (RejectedNode _) _, fails_check h c)

  abbrev pub node_outcome : {k : ℕ} {ts : List Token} → ReaderOutcome g (row g k).rule ts → ReaderOutcome g (Sym k) ts
  node_outcome {k} (Done x us, h) = checked h (g.check k x) refl
  node_outcome (Fault why us, h) = (Fault why us, fails_node h)

  -- in at most n nested steps
  abbrev pub find : ℕ → (e : Expr) (ts : List Token) → Found g e ts
  find zero e ts = None
  find (suc n) Empty ts = Some (Done Nothing ts, takes_nothing)
  find (suc n) (One c) ts = Some (leaf_outcome c ts)
  find (suc n) (Then a b) ts = both (find n b) (find n a ts)
  find (suc n) (Either a b) ts = either (choose g.rows a b (peek ts)) refl (find n a ts) (find n b ts)
  find (suc n) (Many a) ts = many (sees (first g.rows a) (peek ts)) refl (find n (Many a)) (find n a ts)
  find (suc n) (Sym k) ts = from_found node_outcome (find n (row g k).rule ts)

-- an outcome was found
abbrev pub IsGiven : {g : Grammar} {e : Expr} {ts : List Token} → Found g e ts → Type 0
IsGiven None = ⊥
IsGiven (Some r) = Unit {0}

abbrev pub given : {g : Grammar} {e : Expr} {ts : List Token} (a : Found g e ts) → IsGiven a → ReaderOutcome g e ts
given None h = absurd h
given (Some r) h = r
