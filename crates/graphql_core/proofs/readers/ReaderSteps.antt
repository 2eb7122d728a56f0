-- The steps of a function that reads: a loop over a repetition, an error that is returned, and a choice.
use Rattle.std.proofs.Common.{◌≡◌, ℕ, true, false, not, ◌&&◌, List, [], ◌∷◌, ◌++◌, Option, Some, None}
use Rattle.std.proofs.Common.{refl, sym, ◌∙◌, append_assoc, append-nil}
use Rattle.std.proofs.lemmas.Bool.{and_parts}
use Rattle.graphql_core.specs.{Token, all_apart, Expr, Then, Either, Many, Sym, ParseTree, Stop, More, Row, Grammar, row, peek, nullable, first, decides, sees}
use Rattle.graphql_core.specs.{choose, Left, Right, Neither, Takes, takes_stop, takes_more, Reason, Fails, fails_before, fails_after, fails_first, fails_second}
use Rattle.graphql_core.specs.{fails_node, fails_turn, fails_later, each_of, Items, kept, Consumes, TakesSome, StopsFor}
use Rattle.graphql_core.proofs.grammar.{sees-parts, sees-apart}

-- the error of a part, which begins at mid, is an error of the whole
pub halts : {g h : Grammar} {e f : Expr} {old mid : Items} (new : Items) (o : Option Reason) → kept mid ≡ kept old
    → ((why : Reason) → Fails h f mid.tokens why new.tokens → Fails g e old.tokens why new.tokens) → StopsFor h f mid new o → StopsFor g e old new o
halts new None same fails h = h ∙ same
halts new (Some why) same fails (h, k) = (fails why h, k ∙ same)

-- A loop over `Many a` began at `start` and has reached `now`: the whole takes what the rest takes.
-- `f` is what one repetition denotes, and `items` what those so far denote.
pub record Turns {A : Type 0} (g : Grammar) (a : Expr) (f : ParseTree → A) (start now : Items) (items : List A) : Type 0 where
  pub takes : (y : ParseTree) (us : List Token) → Takes g (Many a) now.tokens y us
      → (x : ParseTree) × Takes g (Many a) start.tokens x us × (each_of f x ≡ items ++ each_of f y)
  pub fails : (why : Reason) (us : List Token) → Fails g (Many a) now.tokens why us → Fails g (Many a) start.tokens why us
  pub kept : kept now ≡ kept start

pub Turns-start : {A : Type 0} (g : Grammar) (a : Expr) (f : ParseTree → A) (start : Items) → Turns g a f start start []
Turns-start g a f start = record { takes = λ y us h. (y, h, refl); fails = λ why us h. h; kept = refl }

pub Turns-more : {A : Type 0} (g : Grammar) (a : Expr) (f : ParseTree → A) (start now next : Items) (items : List A) (x : ParseTree)
    → Turns g a f start now items
    → sees (first g.rows a) (peek now.tokens) ≡ true → Consumes g a now x next → Turns g a f start next (items ++ f x ∷ [])
Turns-more g a f start now next items x t s (h, same) = record {
  takes = λ y us k. let r = t.takes (More x y) us (takes_more s h k) in (r.0, r.1, r.2 ∙ sym (append_assoc items (f x ∷ []) (each_of f y)));
  fails = λ why us k. t.fails why us (fails_later s h k);
  kept = same ∙ t.kept;
}

pub Turns-stop : {A : Type 0} (g : Grammar) (a : Expr) (f : ParseTree → A) (start now : Items) (items : List A) → Turns g a f start now items
    → sees (first g.rows a) (peek now.tokens) ≡ false → TakesSome g (Many a) start now (λ x. each_of f x ≡ items)
Turns-stop g a f start now items t s = let r = t.takes Stop now.tokens (takes_stop s) in (r.0, (r.1, t.kept), r.2 ∙ append-nil items)

-- ---- how an error is returned

pub Stops-before : (g : Grammar) (a b : Expr) (old new : Items) (o : Option Reason) → StopsFor g a old new o → StopsFor g (Then a b) old new o
Stops-before g a b old new o = halts new o refl (λ why. fails_before)

pub Stops-after : (g : Grammar) (a b : Expr) (old mid new : Items) (x : ParseTree) (o : Option Reason) → Consumes g a old x mid → StopsFor g b mid new o
    → StopsFor g (Then a b) old new o
Stops-after g a b old mid new x o (t, same) = halts new o same (λ why. fails_after t)

pub Stops-first : (g : Grammar) (a b : Expr) (old new : Items) (o : Option Reason) → choose g.rows a b (peek old.tokens) ≡ Left → StopsFor g a old new o
    → StopsFor g (Either a b) old new o
Stops-first g a b old new o k = halts new o refl (λ why. fails_first k)

pub Stops-second : (g : Grammar) (a b : Expr) (old new : Items) (o : Option Reason) → choose g.rows a b (peek old.tokens) ≡ Right → StopsFor g b old new o
    → StopsFor g (Either a b) old new o
Stops-second g a b old new o k = halts new o refl (λ why. fails_second k)

pub Stops-node : (g : Grammar) (k : ℕ) (old new : Items) (o : Option Reason) → StopsFor g (row g k).rule old new o → StopsFor g (Sym k) old new o
Stops-node g k old new o = halts new o refl (λ why. fails_node)

pub Stops-turn : {A : Type 0} (g : Grammar) (a : Expr) (f : ParseTree → A) (start now new : Items) (items : List A) (o : Option Reason)
    → Turns g a f start now items
    → sees (first g.rows a) (peek now.tokens) ≡ true → StopsFor g a now new o → StopsFor g (Many a) start new o
Stops-turn g a f start now new items o t s = halts new o t.kept (λ why h. t.fails why new.tokens (fails_turn s h))

pub ruleset exits = (Stops-before, Stops-after, Stops-first, Stops-second, Stops-node, Stops-turn)

-- ---- which alternative of a choice is read

pub picks-first : (rs : List Row) (a b : Expr) (item : Option Token) → sees (first rs a) item ≡ true → choose rs a b item ≡ Left
picks-first rs a b item h = rw h refl

-- the test states that the first alternative cannot begin with this item
pub picks-second : (rs : List Row) (a b : Expr) (item : Option Token) → decides rs (Either a b) ≡ true → sees (first rs b) item ≡ true
    → choose rs a b item ≡ Right
picks-second rs a b item d h =
    let p = and_parts (decides rs a && decides rs b) (all_apart (first rs a) (first rs b)) (and_parts _ (not (nullable rs a && nullable rs b)) d).0 in
    rw (sees-apart (first rs a) (first rs b) item p.1 h, h) refl

pub picks-neither : (rs : List Row) (a b : Expr) (item : Option Token) → nullable rs a ≡ false → nullable rs b ≡ false
    → sees (first rs (Either a b)) item ≡ false → choose rs a b item ≡ Neither
picks-neither rs a b item n m h = let p = sees-parts (first rs a) (first rs b) item h in rw (p.0, p.1, n, m) refl
