-- A rule that is read from left to right: after what was taken, the rest is read.
use Rattle.std.proofs.Common.{◌≡◌, ◌<◌, ◌≤◌, ℕ, true, false, not, List, [], ◌∷◌, ◌++◌, length, map, Result, Ok, Err, IsErrAnd, Option}
use Rattle.std.proofs.Common.{refl, sym, ap, subst, ◌∙◌, append_assoc}
use Rattle.graphql_core.proofs.grammar.{takes-fits, takes-leaves, fits-lax, shorter, no_longer}
use Rattle.graphql_core.proofs.readers.ReaderSteps.{halts, Turns, Turns-start, Turns-more, Turns-stop, Stops-before, Stops-turn}
use Rattle.graphql_core.specs.{Grammar, Expr, One, Then, Many, Sym, ParseTree, Leaf, Both, Stop, More, Node, row, leaves, peek, Token, Class, nullable, first}
use Rattle.graphql_core.specs.{is_ll1, sees, Takes, takes_both, Reason, Fails, fails_after, lax, TakesSome, StopsFor, Items, kept, TakesToken, Consumes, Gives}
use Rattle.graphql_core.specs.{Adds, reason_of, each_of}
use Rattle.graphql_core.specs.declared.helpers.read_error.ReadError.{ReadError}
use Rattle.graphql_core.proofs.readers.Reading.{takes_one, stops_one, gives_error_by, TakesNone, each_means, adds_none, adds_one, adds_more}
use Rattle.graphql_core.proofs.readers.Alternatives.{IsSide, side_node}
use Rattle.graphql_core.specs.grammar.NextPlaces as Derives

-- The reader of e began at old and is at mid. There it reads the rest f. The trees of f are inside those of e.
pub record Leads (g : Grammar) (e f : Expr) (inside : ParseTree → ParseTree) (old mid : Items) : Type 0 where
  pub takes : (vs : List Token) (x : ParseTree) → Takes g f mid.tokens x vs → Takes g e old.tokens (inside x) vs
  pub fails : (vs : List Token) (why : Reason) → Fails g f mid.tokens why vs → Fails g e old.tokens why vs
  pub kept : kept mid ≡ kept old
  -- what was read; what f leads to, e leads to after it
  pub front : List Token
  pub parts : old.tokens ≡ front ++ mid.tokens
  pub derives : (vs : List Token) (d : Expr) → Derives.Leads (lax g) f vs d → Derives.Leads (lax g) e (front ++ vs) d

pub leads_in : {g : Grammar} {e f : Expr} {inside : ParseTree → ParseTree} {old : Items} → IsSide g e f inside old.tokens → Leads g e f inside old old
leads_in s = record { takes = s.takes; fails = s.fails; kept = refl; front = []; parts = refl; derives = s.leads }

-- the rule itself, and an alternative of what is read
pub here : {g : Grammar} {e : Expr} {old : Items} → Leads g e e (λ x. x) old old
here = record { takes = λ vs x h. h; fails = λ vs why h. h; kept = refl; front = []; parts = refl; derives = λ vs d h. h }

pub into : {g : Grammar} {e f h : Expr} {inside j : ParseTree → ParseTree} {old mid : Items} → Leads g e f inside old mid → IsSide g f h j mid.tokens
    → Leads g e h (λ x. inside (j x)) old mid
into {j = j} l s = record {
  takes = λ vs x k. l.takes vs (j x) (s.takes vs x k);
  fails = λ vs why k. l.fails vs why (s.fails vs why k);
  kept = l.kept;
  front = l.front;
  parts = l.parts;
  derives = λ vs d k. l.derives vs d (s.leads vs d k);
}

-- its first part is taken
pub past : {g : Grammar} {e a b : Expr} {inside : ParseTree → ParseTree} {old mid new : Items} {x : ParseTree}
    → Leads g e (Then a b) inside old mid → Consumes g a mid x new → Leads g e b (λ y. inside (Both x y)) old new
past {g} {e} {new = new} {x = x} l (h, same) = record {
  takes = λ ws y k. l.takes ws (Both x y) (takes_both h k);
  fails = λ ws why k. l.fails ws why (fails_after h k);
  kept = same ∙ l.kept;
  front = l.front ++ leaves x;
  parts = l.parts ∙ ap (λ (ws : List Token). l.front ++ ws) (takes-leaves g h) ∙ sym (append_assoc l.front (leaves x) new.tokens);
  derives = λ ws d k. subst (λ (us : List Token). Derives.Leads (lax g) e us d) (sym (append_assoc l.front (leaves x) ws))
      (l.derives (leaves x ++ ws) d (Derives.leads_after (fits-lax g (takes-fits g h)) k));
}

-- if f stops from mid on, e, which began at old, stops there
abbrev pub StopsBy : Grammar → Expr → Expr → Items → Items → Type 0
StopsBy g e f old mid = (new : Items) (o : Option Reason) → StopsFor g f mid new o → StopsFor g e old new o

pub rest_stops : {g : Grammar} {e f : Expr} {inside : ParseTree → ParseTree} {old mid : Items} → Leads g e f inside old mid → StopsBy g e f old mid
rest_stops l new o = halts new o l.kept (l.fails new.tokens)

-- or its first part stops
pub before : {g : Grammar} {e a b : Expr} {inside : ParseTree → ParseTree} {old mid : Items} → Leads g e (Then a b) inside old mid → StopsBy g e a old mid
before {a = a} {b = b} {mid = mid} l new o h = rest_stops l new o (Stops-before _ a b mid new o h)

-- one after the other
pub taken_both : {g : Grammar} {a b : Expr} {old mid new : Items} {x y : ParseTree} → Consumes g a old x mid → Consumes g b mid y new
    → Consumes g (Then a b) old (Both x y) new
taken_both (h, same) (k, still) = (takes_both h k, still ∙ same)

-- What is taken is not longer than what was left. It is not empty, if the expression is not nullable.
pub no_more : {g : Grammar} {e : Expr} {old new : Items} {P : ParseTree → Type 0} → TakesSome g e old new P → length new.tokens ≤ length old.tokens
no_more {g} {e} {old} {new} (x, (h, same), is) = no_longer g e old.tokens new.tokens x h

pub fewer : {g : Grammar} {e : Expr} {old new : Items} {P : ParseTree → Type 0} → is_ll1 g.rows ≡ true → nullable g.rows e ≡ false
    → TakesSome g e old new P → length new.tokens < length old.tokens
fewer {g} {e} {old} {new} ok something (x, (h, same), is) = shorter g ok e old.tokens new.tokens x (ap not something) h

-- ---- a reader, part by part

-- the rule of a symbol whose nodes all pass has begun
pub begun : {g : Grammar} {old : Items} (k : ℕ) → ((x : ParseTree) → g.check k x ≡ true) → Leads g (Sym k) (row g k).rule (Node k) old old
begun {g} {old} k passes = leads_in (side_node g k old.tokens passes)

-- a token that was taken
pub took : {g : Grammar} {c : Class} {old new : Items} {t : Token} → TakesToken c old new t → g.good c t ≡ true → Consumes g (One c) old (Leaf t) new
took {g} {c} {old} {new} {t} taken good = takes_one g c old new t good taken

-- what another reader took
pub after : {g : Grammar} {e a b : Expr} {inside : ParseTree → ParseTree} {old mid new : Items} {P : ParseTree → Type 0}
    → Leads g e (Then a b) inside old mid → (h : TakesSome g a mid new P) → Leads g e b (λ y. inside (Both h.0 y)) old new
after l h = past l h.1

-- the last part completes it
pub consumed : {g : Grammar} {e f : Expr} {inside : ParseTree → ParseTree} {old mid new : Items} {x : ParseTree}
    → Leads g e f inside old mid → Consumes g f mid x new → Consumes g e old (inside x) new
consumed {new = new} {x = x} l (h, same) = (l.takes new.tokens x h, same ∙ l.kept)

pub whole : {g : Grammar} {e f : Expr} {inside : ParseTree → ParseTree} {old mid new : Items} {x : ParseTree} {Q : ParseTree → Type 0}
    → Leads g e f inside old mid → Consumes g f mid x new → Q (inside x) → TakesSome g e old new Q
whole {inside = inside} {x = x} l taken q = (inside x, consumed l taken, q)

-- what a reader of the rest returns
pub gives_led : {A : Type 0} {g : Grammar} {e f : Expr} {inside : ParseTree → ParseTree} {old mid : Items} (new : Items) (P Q : A → ParseTree → Type 0)
    (r : Result A ReadError) → Leads g e f inside old mid → ((v : A) (x : ParseTree) → Takes g f mid.tokens x new.tokens → P v x → Q v (inside x))
    → Gives g f mid new P r → Gives g e old new Q r
gives_led new P Q (Ok v) l means (x, h, is) = whole l h (means v x h.0 is)
gives_led new P Q (Err d) l means h = rest_stops l new (reason_of d) h

-- An error is returned: in the last part, in a part before others, or for a missing token.
module _ {A : Type 0} {g : Grammar} {e : Expr} where
  pub fails_last : {f : Expr} {inside : ParseTree → ParseTree} {old mid : Items} (new : Items) (P : A → ParseTree → Type 0)
      (r : Result A ReadError) (d : ReadError)
      → Leads g e f inside old mid → StopsFor g f mid new (reason_of d) → IsErrAnd r (λ x. x ≡ d) → Gives g e old new P r
  fails_last new P r d l h up = gives_error_by reason_of g e _ new P r d (rest_stops l new (reason_of d) h) up

  pub fails : {a b : Expr} {inside : ParseTree → ParseTree} {old mid : Items} (new : Items) (P : A → ParseTree → Type 0)
      (r : Result A ReadError) (d : ReadError)
      → Leads g e (Then a b) inside old mid → StopsFor g a mid new (reason_of d) → IsErrAnd r (λ x. x ≡ d) → Gives g e old new P r
  fails new P r d l h up = gives_error_by reason_of g e _ new P r d (before l new (reason_of d) h) up

  pub lacks : {b : Expr} {c : Class} {inside : ParseTree → ParseTree} {old : Items} (mid new : Items) (P : A → ParseTree → Type 0) (r : Result A ReadError)
      (d : ReadError)
      → Leads g e (Then (One c) b) inside old mid → TakesNone c mid new d → IsErrAnd r (λ x. x ≡ d) → Gives g e old new P r
  lacks {c = c} mid new P r d l h up = fails new P r d l (stops_one g c mid new d h) up

  pub lacks_last : {c : Class} {inside : ParseTree → ParseTree} {old : Items} (mid new : Items) (P : A → ParseTree → Type 0)
      (r : Result A ReadError) (d : ReadError)
      → Leads g e (One c) inside old mid → TakesNone c mid new d → IsErrAnd r (λ x. x ≡ d) → Gives g e old new P r
  lacks_last {c = c} mid new P r d l h up = fails_last new P r d l (stops_one g c mid new d h) up

-- ---- loops

-- A loop that pushes what each turn of a repetition returns, seen through view. It has read from start to now.
pub record Pushes {V A : Type 0} (g : Grammar) (a : Expr) (f : ParseTree → A) (view : V → A) (start now : Items) (old new : List V) : Type 0 where
  pub means : List A
  pub turns : Turns g a f start now means
  pub adds : Adds view old new means
  pub front : List Token
  pub parts : start.tokens ≡ front ++ now.tokens
  -- what the next turn leads to, the repetition leads to
  pub leads : (ts : List Token) (d : Expr) → Derives.Leads (lax g) (Many a) ts d → Derives.Leads (lax g) (Many a) (front ++ ts) d

-- a turn fails
pub turn_fails : {V A : Type 0} {g : Grammar} {a : Expr} {f : ParseTree → A} {view : V → A} {start now : Items} {old new : List V} (next : Items)
    (o : Option Reason) → Pushes g a f view start now old new → sees (first g.rows a) (peek now.tokens) ≡ true → StopsFor g a now next o
    → StopsFor g (Many a) start next o
turn_fails {g = g} {a = a} {f = f} {start = start} {now = now} next o p seen stops = Stops-turn g a f start now next p.means o p.turns seen stops

-- no turn begins
pub pushed : {V A : Type 0} {g : Grammar} {a : Expr} {f : ParseTree → A} {view : V → A} {start now : Items} {old new : List V}
    (p : Pushes g a f view start now old new) → sees (first g.rows a) (peek now.tokens) ≡ false → TakesSome g (Many a) start now (λ x. each_of f x ≡ p.means)
pushed {g = g} {a = a} {f = f} {start = start} {now = now} p unseen = Turns-stop g a f start now p.means p.turns unseen

module _ {V A : Type 0} (g : Grammar) (a : Expr) (f : ParseTree → A) (view : V → A) where
  pub pushes_none : (start : Items) (old : List V) → Pushes g a f view start start old old
  pushes_none start old =
      record { means = []; turns = Turns-start g a f start; adds = adds_none view old; front = []; parts = refl; leads = λ ts d l. l }

  -- what a turn appends, if its reader pushes by itself
  pub turn_appends : (start now next : Items) (old found new : List V) → Pushes g a f view start now old found
      → sees (first g.rows a) (peek now.tokens) ≡ true → TakesSome g a now next (λ x. Adds view found new (f x ∷ []))
      → Pushes g a f view start next old new
  turn_appends start now next old found new p seen (x, taken, adds) = record {
    means = p.means ++ f x ∷ [];
    turns = Turns-more g a f start now next p.means x p.turns seen taken;
    adds = adds_more view old found new p.means (f x ∷ []) p.adds adds;
    front = p.front ++ leaves x;
    parts = p.parts ∙ ap (λ (ts : List Token). p.front ++ ts) (takes-leaves g taken.0) ∙ sym (append_assoc p.front (leaves x) next.tokens);
    leads = λ ts d l. subst (λ (us : List Token). Derives.Leads (lax g) (Many a) us d) (sym (append_assoc p.front (leaves x) ts))
        (p.leads _ d (Derives.leads_later (fits-lax g (takes-fits g taken.0)) l));
  }

  pub pushes_more : (start now next : Items) (old found new : List V) (v : V) → Pushes g a f view start now old found
      → sees (first g.rows a) (peek now.tokens) ≡ true
      → TakesSome g a now next (λ x. view v ≡ f x) → new ≡ found ++ v ∷ [] → Pushes g a f view start next old new
  pushes_more start now next old found new v p seen (x, taken, is) push =
      turn_appends start now next old found new p seen (x, taken, adds_one view found new v (f x) push is)

-- After a first element, until no turn begins: f, h and n are what the first, a turn and all turns denote. m is what
-- the whole denotes.
pub some_taken : {V A : Type 0} {g : Grammar} {a b : Expr} {h : ParseTree → A} {view : V → A} {old start now : Items} {to new : List V}
    (f : ParseTree → A) (n m : ParseTree → List A) (from : List V) → n Stop ≡ [] → ((x y : ParseTree) → n (More x y) ≡ h x ∷ n y)
    → ((x y : ParseTree) → m (Both x y) ≡ f x ∷ n y) → TakesSome g b old start (λ x. Adds view from to (f x ∷ []))
    → Pushes g a h view start now to new → sees (first g.rows a) (peek now.tokens) ≡ false
    → TakesSome g (Then b (Many a)) old now (λ x. Adds view from new (m x))
some_taken {h = h} {view = view} {to = to} {new = new} f n m from stop more both (x, taken, adds) p unseen =
    let (xs, turns, are) = pushed p unseen in (
      Both x xs,
      taken_both taken turns,
      adds_more view from to new (f x ∷ []) p.means adds p.adds
          ∙ ap (λ l. map view from ++ l) (ap (λ l. f x ∷ l) (sym (each_means h n stop more turns.0 ∙ are)) ∙ sym (both x xs)),
    )
