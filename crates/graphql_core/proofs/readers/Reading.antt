-- The steps of readers, for every grammar: single tokens, choices and loops.
use Rattle.std.proofs.Common.{◌≡◌, true, false, List, [], ◌∷◌, ◌++◌, map, Result, Ok, Err, IsErrAnd, Option, Some, None, refl, sym, ap, subst, ◌∙◌}
use Rattle.std.proofs.Common.{append_assoc, append-nil, inl, inr}
use Rattle.graphql_core.specs.{fails_first, fails_second, fails_neither, fails_turn, takes_more, takes_leaf, takes_stop, sees, choose, Left, Right, Takes}
use Rattle.graphql_core.specs.{takes_nothing, takes_first, takes_second, Reason, Unexpected, Fails, fails_one, fails_before, fails_after, Grammar, Expr, Empty}
use Rattle.graphql_core.specs.{One, Then, Either, Many, ParseTree, Nothing, Leaf, First, Second, More, Row, optional, TakesOne, TakesToken, Token, Class}
use Rattle.graphql_core.specs.{matches, nullable, first, StopsFor, Items, kept, fault_by, place_next, Consumes, GivesBy, Adds, reason_of, each_of}
use Rattle.graphql_core.proofs.grammar.{sees-parts, take-or_fail, same-fail}
use Rattle.graphql_core.proofs.readers.ReaderSteps.{exits, halts, picks-neither, Turns, Turns-stop, picks-first}
use Rattle.graphql_core.specs.declared.helpers.read_error.ReadError.TheVariants.{Item, Memory, Integer, Float, Escape, Location}
use Rattle.std.proofs.lemmas.Bool.{and_from, cases_Bool}
use Rattle.graphql_core.specs.declared.helpers.read_error.ReadError.{ReadError}
use Rattle.graphql_core.specs.grammar.Trees as trees

-- ---- single tokens

-- a token that a match takes is a leaf, if every token of its class has a value
pub takes_one : (g : Grammar) (c : Class) (old new : Items) (t : Token) → g.good c t ≡ true → TakesToken c old new t → Consumes g (One c) old (Leaf t) new
takes_one g c old new t good h = (
  subst (λ (ts : List Token). Takes g (One c) ts (Leaf t) new.tokens) (sym h.tokens) (takes_leaf (and_from (matches c t) (g.good c t) h.of_class good)),
  h.kept,
)

-- the token is where the next item began
pub placed : (c : Class) (old new : Items) (t : Token) → TakesToken c old new t → place_next old ≡ t.place
placed c old new t h = ap (λ ts. (fault_by ts old.last).place) h.tokens

-- the state after a match that takes nothing
abbrev pub TakesNone : Class → Items → Items → ReadError → Type 0
TakesNone c old new s = TakesOne {A = Unit {0}} c old new (λ v t. Unit {0}) (Err s)

-- its error is the one of the theory
pub stops_one : (g : Grammar) (c : Class) (old new : Items) (s : ReadError) → TakesNone c old new s → StopsFor g (One c) old new (reason_of s)
stops_one g c old new Memory h = ap kept h
stops_one g c old new Item (same, unseen) = rw same (fails_one unseen, refl)
stops_one g c old new Integer h = absurd h
stops_one g c old new Float h = absurd h
stops_one g c old new Escape h = absurd h
stops_one g c old new Location h = absurd h

-- if the next item is not of class c, it is not of class d
pub none_within : {A : Type 0} (c d : Class) (old new : Items) (P : A → Token → Type 0) (s : ReadError)
    → (sees (c ∷ []) (trees.peek old.tokens) ≡ false → sees (d ∷ []) (trees.peek old.tokens) ≡ false) → TakesOne c old new P (Err s)
    → TakesOne d old new P (Err s)
none_within c d old new P Memory within h = h
none_within c d old new P Item within (same, unseen) = (same, within unseen)
none_within c d old new P Integer within h = h
none_within c d old new P Float within h = h
none_within c d old new P Escape within h = h
none_within c d old new P Location within h = h

-- ---- choices of which one alternative remains

-- If the next item is not in the first set of an expression, the expression fails there.
abbrev pub FailsUnseen : Grammar → Expr → List Token → Type 0
FailsUnseen g a ts = sees (first g.rows a) (trees.peek ts) ≡ false → Fails g a ts Unexpected ts

pub unseen_one : (g : Grammar) (c : Class) (ts : List Token) → FailsUnseen g (One c) ts
unseen_one g c ts h = fails_one h

pub unseen_then : (g : Grammar) (a b : Expr) (ts : List Token) → nullable g.rows a ≡ false → FailsUnseen g a ts → FailsUnseen g (Then a b) ts
unseen_then g a b ts n f h = fails_before (f (sees-parts (first g.rows a) _ (trees.peek ts) h).0)

pub unseen_either : (g : Grammar) (a b : Expr) (ts : List Token) → nullable g.rows a ≡ false → nullable g.rows b ≡ false → FailsUnseen g (Either a b) ts
unseen_either g a b ts n m h = fails_neither (picks-neither g.rows a b (trees.peek ts) n m h)

-- what is taken begins with a token of the first set
pub takes_seen : (g : Grammar) (a : Expr) (ts us : List Token) (x : ParseTree) → FailsUnseen g a ts → Takes g a ts x us
    → sees (first g.rows a) (trees.peek ts) ≡ true
takes_seen g a ts us x f h = elim (cases_Bool (sees (first g.rows a) (trees.peek ts))) [ inl seen ↦ seen | inr unseen ↦ absurd (take-or_fail g h (f unseen)) ]

-- how a reader stops, by whether the expression is seen or not
stops_cases : (g : Grammar) (a e : Expr) (ts ss us : List Token) (why : Reason) → FailsUnseen g a ts
    → (sees (first g.rows a) (trees.peek ts) ≡ true → Fails g e ss why us) → (sees (first g.rows a) (trees.peek ts) ≡ false → Fails g e ss Unexpected ts)
    → Fails g a ts why us → Fails g e ss why us
stops_cases g a e ts ss us why f where_seen elsewhere h =
    elim (cases_Bool (sees (first g.rows a) (trees.peek ts))) [
      | inl seen ↦ where_seen seen
      | inr unseen ↦ let (reason, place) = same-fail g h (f unseen) in rw (reason, place) (elsewhere unseen)
    ]

-- the second alternative is not seen: the first is taken, or fails
pub takes_left : (g : Grammar) (a b : Expr) (ts us : List Token) (x : ParseTree) → FailsUnseen g a ts → Takes g a ts x us
    → choose g.rows a b (trees.peek ts) ≡ Left
takes_left g a b ts us x f h = picks-first g.rows a b (trees.peek ts) (takes_seen g a ts us x f h)

pub fails_left : (g : Grammar) (a b : Expr) (ts us : List Token) (why : Reason) → nullable g.rows a ≡ false → nullable g.rows b ≡ false
    → FailsUnseen g a ts
    → sees (first g.rows b) (trees.peek ts) ≡ false → Fails g a ts why us → Fails g (Either a b) ts why us
fails_left g a b ts us why n m f other h =
    stops_cases g a (Either a b) ts ts us why f (λ seen. fails_first (picks-first g.rows a b (trees.peek ts) seen) h)
    (λ unseen. fails_neither (rw (unseen, other, n, m) refl)) h

-- the first alternative is not seen: the second is taken, or fails
pub takes_right : (g : Grammar) (a b : Expr) (ts us : List Token) (x : ParseTree) → FailsUnseen g b ts → sees (first g.rows a) (trees.peek ts) ≡ false
    → Takes g b ts x us → choose g.rows a b (trees.peek ts) ≡ Right
takes_right g a b ts us x f other h = rw (other, takes_seen g b ts us x f h) refl

pub fails_right : (g : Grammar) (a b : Expr) (ts us : List Token) (why : Reason) → nullable g.rows a ≡ false → nullable g.rows b ≡ false
    → FailsUnseen g b ts
    → sees (first g.rows a) (trees.peek ts) ≡ false → Fails g b ts why us → Fails g (Either a b) ts why us
fails_right g a b ts us why n m f other h =
    stops_cases g b (Either a b) ts ts us why f (λ seen. fails_second (rw (other, seen) refl) h) (λ unseen. fails_neither (rw (other, unseen, n, m) refl)) h

-- ---- optional parts

pub picks_none : (rs : List Row) (a : Expr) (item : Option Token) → nullable rs a ≡ false → sees (first rs a) item ≡ false → choose rs a Empty item ≡ Right
picks_none rs a None n h = rw n refl
picks_none rs a (Some t) n h = rw (h, n) refl

pub takes_some : (g : Grammar) (a : Expr) (old new : Items) (x : ParseTree) → sees (first g.rows a) (trees.peek old.tokens) ≡ true
    → Consumes g a old x new → Consumes g (optional a) old (First x) new
takes_some g a old new x seen (h, same) = (takes_first (picks-first g.rows a Empty (trees.peek old.tokens) seen) h, same)

pub takes_none : (g : Grammar) (a : Expr) (ts : List Token) → nullable g.rows a ≡ false → sees (first g.rows a) (trees.peek ts) ≡ false
    → Takes g (optional a) ts (Second Nothing) ts
takes_none g a ts n unseen = takes_second (picks_none g.rows a (trees.peek ts) n unseen) takes_nothing

-- ---- errors

-- an error of any type is returned, with the reason of that error
pub gives_error_by : {A E : Type 0} (reason : E → Option Reason) (g : Grammar) (e : Expr) (old new : Items) (P : A → ParseTree → Type 0)
    (r : Result A E) (d : E)
    → StopsFor g e old new (reason d) → IsErrAnd r (λ x. x ≡ d) → GivesBy reason g e old new P r
gives_error_by reason g e old new P (Ok v) d stops h = absurd h
gives_error_by reason g e old new P (Err x) d stops h = rw h stops

-- ---- elements in a row

-- what a repetition denotes, from what its turns denote
pub many_means : {A B : Type 0} (g : Grammar) (a : Expr) (f : ParseTree → A) (m : ParseTree → B) (of : List A → B) → m trees.Stop ≡ of []
    → ((x y : ParseTree) (vs : List A) → m y ≡ of vs → m (More x y) ≡ of (f x ∷ vs))
    → {ts : List Token} {x : ParseTree} {us : List Token} → Takes g (Many a) ts x us → m x ≡ of (each_of f x)
many_means g a f m of stop more (takes_stop h) = stop
many_means g a f m of stop more (takes_more {x = x} {y = y} h p q) = more x y (each_of f y) (many_means g a f m of stop more q)

-- the same, if turns denote the elements of a list
pub each_means : {A : Type 0} {g : Grammar} {a : Expr} (f : ParseTree → A) (m : ParseTree → List A) → m trees.Stop ≡ []
    → ((x y : ParseTree) → m (More x y) ≡ f x ∷ m y)
    → {ts : List Token} {x : ParseTree} {us : List Token} → Takes g (Many a) ts x us → m x ≡ each_of f x
each_means {g = g} {a = a} f m stop more h = many_means g a f m (λ l. l) stop (λ x y vs e. more x y ∙ ap (λ l. f x ∷ l) e) h

pub map_push : {A B : Type 0} (f : A → B) (xs : List A) (x : A) → map f (xs ++ x ∷ []) ≡ map f xs ++ f x ∷ []
map_push f [] x = refl
map_push f (y ∷ ys) x = ap (λ l. f y ∷ l) (map_push f ys x)

-- what readers append; f is what an element is seen as
module _ {V A : Type 0} (f : V → A) where
  pub adds_none : (start : List V) → Adds f start start []
  adds_none start = sym (append-nil (map f start))

  pub adds_one : (found next : List V) (v : V) (x : A) → next ≡ found ++ v ∷ [] → f v ≡ x → Adds f found next (x ∷ [])
  adds_one found next v x push one = ap (map f) push ∙ map_push f found v ∙ ap (λ (t : A). map f found ++ t ∷ []) one

  -- capacity is reserved first
  pub adds_reserved : (found spare next : List V) (v : V) (x : A) → spare ≡ found → next ≡ spare ++ v ∷ [] → f v ≡ x → Adds f found next (x ∷ [])
  adds_reserved found spare next v x same push one = adds_one found next v x (push ∙ ap (λ l. l ++ v ∷ []) same) one

  pub adds_more : (start found next : List V) (xs ys : List A) → Adds f start found xs → Adds f found next ys → Adds f start next (xs ++ ys)
  adds_more start found next xs ys so_far more = more ∙ ap (λ (l : List A). l ++ ys) so_far ∙ append_assoc (map f start) xs ys

  -- into a list that was empty
  pub fills : (start found : List V) (xs : List A) → start ≡ [] → Adds f start found xs → map f found ≡ xs
  fills start found xs none so_far = so_far ∙ ap (λ (l : List V). map f l ++ xs) none

-- An error in a turn of a loop. The loop continues until it sees the token after the repetition.
pub stops_until : {A : Type 0} (g : Grammar) (a : Expr) (c : Class) (f : ParseTree → A) (start now new : Items) (items : List A) (o : Option Reason)
    → FailsUnseen g a now.tokens → Turns g a f start now items → sees (c ∷ []) (trees.peek now.tokens) ≡ false → StopsFor g a now new o
    → StopsFor g (Then (Many a) (One c)) start new o
stops_until g a c f start now new items o un t s = halts new o t.kept (λ why h.
    stops_cases g a (Then (Many a) (One c)) now.tokens start.tokens new.tokens why un (λ seen. fails_before (t.fails why new.tokens (fails_turn seen h)))
    (λ unseen. let r = Turns-stop g a f start now items t unseen in fails_after r.1.0 (fails_one s)) h)

-- for errors that are returned
pub ruleset reader_steps = (exits, stops_one)
