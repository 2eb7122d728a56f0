-- Walks: which calls a visitor gets, and what follows from its results.
use Rattle.std.specs.Prelude.{◌≡◌, Bool, true, false, List, [], ◌∷◌, Result, Ok, Err}
use Rattle.std.specs.declared.ops.ControlFlow.{ControlFlow}
use Rattle.std.specs.declared.ops.ControlFlow.TheVariants as control
use Rattle.graphql_walk.specs.Nodes.{NodeTree, Branch, branch, Branches, none, more, Event, enter, leave}
use Rattle.graphql_walk.specs.declared.visitor.Flow.{Flow}
use Rattle.graphql_walk.specs.declared.visitor.Flow.TheVariants.{Continue, Skip, Stop}
use Rattle.graphql_walk.specs.declared.visitor.Halt.{Halt}
use Rattle.graphql_walk.specs.declared.visitor.Halt.TheVariants.{Stopped, Failed}

-- how a part of a walk ends: with a value if the walk continues
abbrev pub Ending : Type 0 → Type 0 → Type 0
Ending A E = Result A (Halt E)

-- what a visitor returned on entering a node: whether the nodes inside it are walked
abbrev pub entered : {E : Type 0} → Result Flow E → Ending Bool E
entered (Ok Continue) = Ok true
entered (Ok Skip) = Ok false
entered (Ok Stop) = Err Stopped
entered (Err e) = Err (Failed e)

-- what it returned on leaving a node
abbrev pub left : {E : Type 0} → Result Flow E → Ending (Unit {0}) E
left (Ok Continue) = Ok tt
left (Ok Skip) = Ok tt
left (Ok Stop) = Err Stopped
left (Err e) = Err (Failed e)

-- the end of a walk, as it is returned
abbrev pub ending : {E : Type 0} → Result (ControlFlow (Unit {0}) (Unit {0})) E → Ending (Unit {0}) E
ending (Ok (control.Continue u)) = Ok tt
ending (Ok (control.Break u)) = Err Stopped
ending (Err e) = Err (Failed e)

-- `visited` holds of the calls of a visitor: the visitor before the call, the event, the result, the visitor after it
module _ {S E : Type 0} (visited : S → Event → Result Flow E → S → Type 0) where
  -- a part of a walk: the visitor before it, how it ends, and the visitor after it
  abbrev pub Part : Type 0 → Type 1
  Part A = S → Ending A E → S → Type 0

  abbrev pub Entering : NodeTree → Part Bool
  Entering n s r t = (a : Result Flow E) × visited s (enter n) a t × (r ≡ entered a)

  abbrev pub Leaving : NodeTree → Part (Unit {0})
  Leaving n s r t = (a : Result Flow E) × visited s (leave n) a t × (r ≡ left a)

  -- nothing more
  abbrev pub Done : Part (Unit {0})
  Done s r t = (r ≡ Ok tt) × (t ≡ s)

  -- what follows a part with this end
  abbrev pub Next : {A : Type 0} → Ending A E → (A → Part (Unit {0})) → Part (Unit {0})
  Next (Ok x) next m r t = next x m r t
  Next (Err h) next m r t = (r ≡ Err h) × (t ≡ m)

  -- a part, and then another, unless the first one ends the walk
  abbrev pub Then : {A : Type 0} → Part A → (A → Part (Unit {0})) → Part (Unit {0})
  Then {A} first next s r t = (a : Ending A E) × (m : S) × first s a m × Next a next m r t

  -- the nodes inside a node, if they are walked, and then the node's end
  abbrev pub Inside : Part (Unit {0}) → NodeTree → Bool → Part (Unit {0})
  Inside inside n true = Then inside (λ _. Leaving n)
  Inside inside n false = Done

  abbrev mutual
    -- a node is entered; unless the visitor skips it, the nodes inside it are walked, and it is left
    pub Walks : Branch → Part (Unit {0})
    Walks (branch n bs) = Then (Entering n) (Inside (WalksEach bs) n)

    -- nodes, one after another
    pub WalksEach : Branches → Part (Unit {0})
    WalksEach none = Done
    WalksEach (more b bs) = Then (Walks b) (λ _. WalksEach bs)

  -- ---- walks that the visitor does not interrupt

  -- the visitor continues after each call
  abbrev pub AlwaysContinues : Type 0
  AlwaysContinues = (s : S) (e : Event) (a : Result Flow E) (t : S) → visited s e a t → a ≡ Ok Continue

  -- the visitor is called for these events, one after another, and continues after each
  abbrev pub Calls : List Event → S → S → Type 0
  Calls [] s t = t ≡ s
  Calls (e ∷ es) s t = (m : S) × visited s e (Ok Continue) m × Calls es m t
