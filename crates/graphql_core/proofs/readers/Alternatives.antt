-- An alternative of a rule that is read: what it takes and how it fails holds for the rule.
use Rattle.std.proofs.Common.{◌≡◌, ℕ, zero, suc, Bool, true, false, ◌&&◌, ◌||◌, List, [], ◌∷◌, ◌++◌, Option, Some, None, refl, sym, ap, ◌∙◌}
use Rattle.std.proofs.Math.Bool.{or_assoc}
use Rattle.graphql_core.specs.{leads_second, leads_first, Leads, leads_node, in_any, Token, Class, all_within, matches, Grammar, Expr, Empty, One, Then, Either}
use Rattle.graphql_core.specs.{Many, Sym, ParseTree, First, Second, Node, Row, row, nullable, first, decides, sees, choose, Left, Right, Takes, takes_node}
use Rattle.graphql_core.specs.{takes_first, takes_second, Reason, Fails, fails_node, fails_first, fails_second, lax}
use Rattle.graphql_core.proofs.grammar.{all_within-sound, sees-within}
use Rattle.graphql_core.proofs.readers.ReaderSteps.{picks-second, picks-first}
use Rattle.std.proofs.lemmas.Bool.{and_parts}
use Rattle.graphql_core.proofs.readers.Reading.{FailsUnseen, takes_left, fails_left, takes_right, fails_right}
use Rattle.graphql_core.specs.grammar.Trees as trees

-- e is read here by its alternative f; the trees of f are inside those of e
pub record IsSide (g : Grammar) (e f : Expr) (inside : ParseTree → ParseTree) (ts : List Token) : Type 0 where
  pub takes : (us : List Token) (x : ParseTree) → Takes g f ts x us → Takes g e ts (inside x) us
  pub fails : (us : List Token) (why : Reason) → Fails g f ts why us → Fails g e ts why us
  -- what f leads to, e leads to
  pub leads : (us : List Token) (d : Expr) → Leads (lax g) f us d → Leads (lax g) e us d

pub through : (g : Grammar) (e f h : Expr) (i j : ParseTree → ParseTree) (ts : List Token) → IsSide g e f i ts → IsSide g f h j ts
    → IsSide g e h (λ x. i (j x)) ts
through g e f h i j ts outer inner = record {
  takes = λ us x t. outer.takes us (j x) (inner.takes us x t);
  fails = λ us why s. outer.fails us why (inner.fails us why s);
  leads = λ us d l. outer.leads us d (inner.leads us d l);
}

pub side_node : (g : Grammar) (k : ℕ) (ts : List Token) → ((x : ParseTree) → g.check k x ≡ true) → IsSide g (Sym k) (row g k).rule (Node k) ts
side_node g k ts passes =
    record { takes = λ us x t. takes_node t (passes x); fails = λ us why s. fails_node s; leads = λ us d l. leads_node l }

-- an alternative of the rule is one of the symbol
pub side_in : {g : Grammar} {f : Expr} {inside : ParseTree → ParseTree} {ts : List Token} (k : ℕ) → ((x : ParseTree) → g.check k x ≡ true)
    → IsSide g (row g k).rule f inside ts → IsSide g (Sym k) f (λ x. Node k (inside x)) ts
side_in {g} {f} {inside} {ts} k passes side = through g _ _ f (Node k) inside ts (side_node g k ts passes) side

pub side_chosen_first : (g : Grammar) (a b : Expr) (ts : List Token) → choose g.rows a b (trees.peek ts) ≡ Left → IsSide g (Either a b) a First ts
side_chosen_first g a b ts h =
    record { takes = λ us x t. takes_first h t; fails = λ us why s. fails_first h s; leads = λ us d l. leads_first l }

pub side_chosen_second : (g : Grammar) (a b : Expr) (ts : List Token) → choose g.rows a b (trees.peek ts) ≡ Right → IsSide g (Either a b) b Second ts
side_chosen_second g a b ts h =
    record { takes = λ us x t. takes_second h t; fails = λ us why s. fails_second h s; leads = λ us d l. leads_second l }

-- ---- alternatives that begin with a token that is seen

sees_within : (cs ds : List Class) (item : Option Token) → all_within cs ds ≡ true → sees cs item ≡ true → sees ds item ≡ true
sees_within cs ds None w h = h
sees_within cs ds (Some t) w h = all_within-sound cs ds t w h

pub side_first : (g : Grammar) (a b : Expr) (c : Class) (ts : List Token) → all_within (c ∷ []) (first g.rows a) ≡ true
    → sees (c ∷ []) (trees.peek ts) ≡ true → IsSide g (Either a b) a First ts
side_first g a b c ts w h = side_chosen_first g a b ts (picks-first g.rows a b (trees.peek ts) (sees_within (c ∷ []) _ (trees.peek ts) w h))

pub side_second : (g : Grammar) (a b : Expr) (c : Class) (ts : List Token) → decides g.rows (Either a b) ≡ true
    → all_within (c ∷ []) (first g.rows b) ≡ true → sees (c ∷ []) (trees.peek ts) ≡ true → IsSide g (Either a b) b Second ts
side_second g a b c ts d w h = side_chosen_second g a b ts (picks-second g.rows a b (trees.peek ts) d (sees_within (c ∷ []) _ (trees.peek ts) w h))

-- one of many alternatives, by the number of those before it
abbrev pub nth_side : Expr → ℕ → Expr
nth_side (Either a b) zero = a
nth_side (Either a b) (suc n) = nth_side b n
nth_side e n = e

abbrev pub in_nth : Expr → ℕ → ParseTree → ParseTree
in_nth (Either a b) zero x = First x
in_nth (Either a b) (suc n) x = Second (in_nth b n x)
in_nth e n x = x

-- the class c decides this alternative
abbrev pub decides_nth : List Row → Class → Expr → ℕ → Bool
decides_nth rs c (Either a b) zero = all_within (c ∷ []) (first rs a)
decides_nth rs c (Either a b) (suc n) = (decides rs (Either a b) && all_within (c ∷ []) (first rs b)) && decides_nth rs c b n
decides_nth rs c e n = true

side_whole : (g : Grammar) (e : Expr) (ts : List Token) → IsSide g e e (λ x. x) ts
side_whole g e ts = record { takes = λ us x t. t; fails = λ us why s. s; leads = λ us d l. l }

pub side_nth : {g : Grammar} {ts : List Token} (c : Class) (e : Expr) (n : ℕ) → decides_nth g.rows c e n ≡ true → sees (c ∷ []) (trees.peek ts) ≡ true
    → IsSide g e (nth_side e n) (λ x. in_nth e n x) ts
side_nth {g} {ts} c (Either a b) zero stated seen = side_first g a b c ts stated seen
side_nth {g} {ts} c (Either a b) (suc n) stated seen =
    let (here, later) = and_parts (decides g.rows (Either a b) && all_within (c ∷ []) (first g.rows b)) (decides_nth g.rows c b n) stated in
    let (decided, within) = and_parts (decides g.rows (Either a b)) (all_within (c ∷ []) (first g.rows b)) here in
    through g (Either a b) b (nth_side b n) (λ x. Second x) (λ x. in_nth b n x) ts (side_second g a b c ts decided within seen) (side_nth c b n later seen)
side_nth {g} {ts} c Empty n stated seen = side_whole g Empty ts
side_nth {g} {ts} c (One d) n stated seen = side_whole g (One d) ts
side_nth {g} {ts} c (Then a b) n stated seen = side_whole g (Then a b) ts
side_nth {g} {ts} c (Many a) n stated seen = side_whole g (Many a) ts
side_nth {g} {ts} c (Sym k) n stated seen = side_whole g (Sym k) ts

-- ---- the alternative that remains if the other is not seen

pub side_left : (g : Grammar) (a b : Expr) (ts : List Token) → nullable g.rows a ≡ false → nullable g.rows b ≡ false → FailsUnseen g a ts
    → sees (first g.rows b) (trees.peek ts) ≡ false → IsSide g (Either a b) a First ts
side_left g a b ts n m f h = record {
  takes = λ us x t. takes_first (takes_left g a b ts us x f t) t;
  fails = λ us why s. fails_left g a b ts us why n m f h s;
  leads = λ us d l. leads_first l;
}

pub side_right : (g : Grammar) (a b : Expr) (ts : List Token) → nullable g.rows a ≡ false → nullable g.rows b ≡ false → FailsUnseen g b ts
    → sees (first g.rows a) (trees.peek ts) ≡ false → IsSide g (Either a b) b Second ts
side_right g a b ts n m f h = record {
  takes = λ us x t. takes_second (takes_right g a b ts us x f h t) t;
  fails = λ us why s. fails_right g a b ts us why n m f h s;
  leads = λ us d l. leads_second l;
}

pub unseen_symbol : (g : Grammar) (k : ℕ) (ts : List Token) → all_within (first g.rows (row g k).rule) (row g k).first ≡ true
    → FailsUnseen g (row g k).rule ts → FailsUnseen g (Sym k) ts
unseen_symbol g k ts w f h = fails_node (f (sees-within _ _ (trees.peek ts) w h))

-- the next item is in one of the two lists of classes
pub sees_both : (cs ds : List Class) (item : Option Token) → sees (cs ++ ds) item ≡ sees cs item || sees ds item
sees_both cs ds None = refl
sees_both [] ds (Some t) = refl
sees_both (c ∷ cs) ds (Some t) = ap (λ b. matches c t || b) (sees_both cs ds (Some t)) ∙ sym (or_assoc (matches c t) (in_any cs t) (in_any ds t))

-- the next item is in neither list
pub sees_neither : (cs ds : List Class) (item : Option Token) → sees cs item ≡ false → sees ds item ≡ false → sees (cs ++ ds) item ≡ false
sees_neither cs ds item h k = sees_both cs ds item ∙ rw (h, k) refl
