-- What is computed is what the reader does.
use Rattle.std.proofs.Common.{◌≡◌, ◌↔◌, ℕ, zero, suc, Bool, true, false, ◌&&◌, ◌||◌, List, [], ◌∷◌, ◌++◌, Option}
use Rattle.std.proofs.Common.{Some, None, refl, sym, subst}
use Rattle.graphql_core.specs.grammar.Tokens.{Token, Class, matches}
use Rattle.graphql_core.specs.grammar.Trees.{Expr, Empty, One, Then, Either, Many, Sym, Grammar, row, accepts, peek}
use Rattle.graphql_core.specs.grammar.GrammarFaults.{Reason, Unexpected, Improper}
use Rattle.graphql_core.specs.theory.Tables.{first}
use Rattle.graphql_core.specs.theory.Reading.{sees, choose, Choice, Left, Right, Neither, fails_neither, fails_one}
use Rattle.graphql_core.specs.theory.Reading.{fails_value}
use Rattle.graphql_standard.specs.theory.Stack.{HasNoChecks, TakesAll, takes_one, FailsIn, fails_here, fails_further}
use Rattle.graphql_standard.specs.theory.Stack.{Alike}
use Rattle.graphql_standard.specs.theory.Stack.{Steps, StepsOn, steps_nothing, steps_token, steps_then}
use Rattle.graphql_standard.specs.theory.Stack.{steps_left, steps_right, steps_stop, steps_more, steps_symbol}
use Rattle.graphql_standard.specs.theory.Effects.{Effect, Taken, Passed, Stopped, Unknown, effect, flat, input}
use Rattle.graphql_standard.proofs.Stack.{before, after, fails-before, fails-after, all-before, all-after}
use Rattle.graphql_standard.proofs.Stack.{all-fails-before, all-fails-after}

pub Alike-same : (g : Grammar) (es : List Expr) (ts : List Token) → Alike g es ts es ts
Alike-same g es ts = record { takes = λ vs. (λ p. p, λ p. p); fails = λ why vs. (λ p. p, λ p. p) }

pub Alike-then : (g : Grammar) {es fs hs : List Expr} {ts us ws : List Token} → Alike g es ts fs us → Alike g fs us hs ws
    → Alike g es ts hs ws
Alike-then g a b = record {
  takes = λ vs. (λ p. (b.takes vs).0 ((a.takes vs).0 p), λ p. (a.takes vs).1 ((b.takes vs).1 p));
  fails = λ why vs. (λ p. (b.fails why vs).0 ((a.fails why vs).0 p), λ p. (a.fails why vs).1 ((b.fails why vs).1 p));
}

pub Alike-back : (g : Grammar) {es fs : List Expr} {ts us : List Token} → Alike g es ts fs us → Alike g fs us es ts
Alike-back g a = record {
  takes = λ vs. ((a.takes vs).1, (a.takes vs).0);
  fails = λ why vs. ((a.fails why vs).1, (a.fails why vs).0);
}

module _ (g : Grammar) (ok : HasNoChecks g) where
  pub Alike-step : (es fs : List Expr) (ts us : List Token) → Steps g es ts fs us → Alike g es ts fs us
  Alike-step es fs ts us s = record {
    takes = λ vs. (λ p. after g s p, λ p. before g ok s p);
    fails = λ why vs. (λ p. fails-after g ok s p, λ p. fails-before g ok s p);
  }

  pub Alike-steps : (es fs : List Expr) (ts us : List Token) → StepsOn g es ts fs us → Alike g es ts fs us
  Alike-steps es fs ts us s = record {
    takes = λ vs. (λ p. all-after g s p, λ p. all-before g ok s p);
    fails = λ why vs. (λ p. all-fails-after g ok s p, λ p. all-fails-before g ok s p);
  }

  Alike-cons : (e : Expr) (es fs : List Expr) → ((ts : List Token) → Alike g es ts fs ts) → (ts : List Token)
      → Alike g (e ∷ es) ts (e ∷ fs) ts
  Alike-cons e es fs a ts = record {
    takes = λ vs. (λ p. takes-to es fs (λ us. (a us).takes) p, λ p. takes-to fs es (λ us ws. (((a us).takes ws).1, ((a us).takes ws).0)) p);
    fails = λ why vs. (λ p. fails-to es fs (λ us. (a us).fails) p, λ p. fails-to fs es (λ us w ws. (((a us).fails w ws).1, ((a us).fails w ws).0)) p);
  }
    where
      takes-to : (hs ks : List Expr) → ((us ws : List Token) → TakesAll g hs us ws ↔ TakesAll g ks us ws)
          → {us vs : List Token} → TakesAll g (e ∷ hs) us vs → TakesAll g (e ∷ ks) us vs
      takes-to hs ks h (takes_one q p) = takes_one q ((h _ _).0 p)

      fails-to : (hs ks : List Expr) → ((us : List Token) (w : Reason) (ws : List Token) → FailsIn g hs us w ws ↔ FailsIn g ks us w ws)
          → {us vs : List Token} {w : Reason} → FailsIn g (e ∷ hs) us w vs → FailsIn g (e ∷ ks) us w vs
      fails-to hs ks h (fails_here q) = fails_here q
      fails-to hs ks h (fails_further q p) = fails_further q ((h _ _ _).0 p)

  -- taking sequences and symbols apart changes nothing
  pub flat-alike : (n : ℕ) (es rest : List Expr) (ts : List Token) → Alike g (es ++ rest) ts (flat n g es ++ rest) ts
  flat-alike zero es rest ts = Alike-same g (es ++ rest) ts
  flat-alike (suc n) [] rest ts = Alike-same g rest ts
  flat-alike (suc n) (Empty ∷ es) rest ts = Alike-then g (Alike-step _ _ ts ts steps_nothing) (flat-alike n es rest ts)
  flat-alike (suc n) (One c ∷ es) rest ts = Alike-cons (One c) (es ++ rest) (flat n g es ++ rest) (flat-alike n es rest) ts
  flat-alike (suc n) (Then a b ∷ es) rest ts =
      Alike-then g (Alike-step _ _ ts ts steps_then) (flat-alike n (a ∷ b ∷ es) rest ts)
  flat-alike (suc n) (Either a b ∷ es) rest ts =
      Alike-cons (Either a b) (es ++ rest) (flat n g es ++ rest) (flat-alike n es rest) ts
  flat-alike (suc n) (Many a ∷ es) rest ts = Alike-cons (Many a) (es ++ rest) (flat n g es ++ rest) (flat-alike n es rest) ts
  flat-alike (suc n) (Sym k ∷ es) rest ts =
      Alike-then g (Alike-step _ _ ts ts steps_symbol) (flat-alike n ((row g k).rule ∷ es) rest ts)

  -- what the reader does where the effect on the first expressions is this
  abbrev pub Did : List Expr → List Expr → Option Token → List Token → Effect → Type 0
  Did es rest t ts (Taken fs) = Alike g (es ++ rest) (input t ts) (fs ++ rest) ts
  Did es rest t ts Passed = Alike g (es ++ rest) (input t ts) rest (input t ts)
  Did es rest t ts Stopped = (why : Reason) × FailsIn g (es ++ rest) (input t ts) why (input t ts)
  Did es rest t ts Unknown = Unit {0}

  next : (es fs rest : List Expr) (t : Option Token) (ts : List Token)
      → Steps g (es ++ rest) (input t ts) (fs ++ rest) (input t ts) → (x : Effect) → Did fs rest t ts x → Did es rest t ts x
  next es fs rest t ts s (Taken hs) d = Alike-then g (Alike-step _ _ _ _ s) d
  next es fs rest t ts s Passed d = Alike-then g (Alike-step _ _ _ _ s) d
  next es fs rest t ts s Stopped d = (d.0, fails-before g ok s d.1)
  next es fs rest t ts s Unknown d = tt

  rejected : (c : Class) (es : List Expr) (t : Token) (ts : List Token) (b d : Bool) → matches c t ≡ b → g.good c t ≡ d
      → (b && d) ≡ false → (why : Reason) × FailsIn g (One c ∷ es) (t ∷ ts) why (t ∷ ts)
  rejected c es t ts true true h k n = absurd cc
  rejected c es t ts true false h k n = (Improper c, fails_here (fails_value h k))
  rejected c es t ts false d h k n =
      (Unexpected, fails_here (fails_one (let P : Bool → Type 0 = λ v. (v || false) ≡ false in subst P (sym h) refl)))

  peeked : (t : Option Token) (ts : List Token) → t ≡ peek (input t ts)
  peeked None ts = refl
  peeked (Some t) ts = refl

  choice : (a b : Expr) (t : Option Token) (ts : List Token) (c : Choice) → choose g.rows a b t ≡ c
      → choose g.rows a b (peek (input t ts)) ≡ c
  choice a b t ts c h = subst (λ (u : Option Token). choose g.rows a b u ≡ c) (peeked t ts) h

  seen : (a : Expr) (t : Option Token) (ts : List Token) (b : Bool) → sees (first g.rows a) t ≡ b
      → sees (first g.rows a) (peek (input t ts)) ≡ b
  seen a t ts b h = subst (λ (u : Option Token). sees (first g.rows a) u ≡ b) (peeked t ts) h

  pub did : (n : ℕ) (es rest : List Expr) (t : Option Token) (ts : List Token) → Did es rest t ts (effect n g es t)
  did zero es rest t ts = tt
  did (suc n) [] rest t ts = Alike-same g rest (input t ts)
  did (suc n) (Empty ∷ es) rest t ts =
      next (Empty ∷ es) es rest t ts steps_nothing (effect n g es t) (did n es rest t ts)
  did (suc n) (One c ∷ es) rest None ts = (Unexpected, fails_here (fails_one refl))
  did (suc n) (One c ∷ es) rest (Some t) ts = leaf (accepts g c t) refl
    where
      leaf : (b : Bool) → accepts g c t ≡ b
          → Did (One c ∷ es) rest (Some t) ts (elim b [ true ↦ Taken es | false ↦ Stopped ])
      leaf true h = Alike-step _ _ _ _ (steps_token h)
      leaf false h = rejected c (es ++ rest) t ts (matches c t) (g.good c t) refl refl h
  did (suc n) (Then a b ∷ es) rest t ts =
      next (Then a b ∷ es) (a ∷ b ∷ es) rest t ts steps_then (effect n g (a ∷ b ∷ es) t) (did n (a ∷ b ∷ es) rest t ts)
  did (suc n) (Either a b ∷ es) rest t ts =
      chosen (did n (a ∷ es) rest t ts) (did n (b ∷ es) rest t ts) (choose g.rows a b t) refl
    where
      chosen : Did (a ∷ es) rest t ts (effect n g (a ∷ es) t) → Did (b ∷ es) rest t ts (effect n g (b ∷ es) t)
          → (c : Choice) → choose g.rows a b t ≡ c → Did (Either a b ∷ es) rest t ts
          (elim c [ Left ↦ effect n g (a ∷ es) t | Right ↦ effect n g (b ∷ es) t | Neither ↦ Stopped ])
      chosen p q Left h = next (Either a b ∷ es) (a ∷ es) rest t ts (steps_left (choice a b t ts Left h)) (effect n g (a ∷ es) t) p
      chosen p q Right h = next (Either a b ∷ es) (b ∷ es) rest t ts (steps_right (choice a b t ts Right h)) (effect n g (b ∷ es) t) q
      chosen p q Neither h = (Unexpected, fails_here (fails_neither (choice a b t ts Neither h)))
  did (suc n) (Many a ∷ es) rest t ts =
      again (did n (a ∷ Many a ∷ es) rest t ts) (did n es rest t ts) (sees (first g.rows a) t) refl
    where
      again : Did (a ∷ Many a ∷ es) rest t ts (effect n g (a ∷ Many a ∷ es) t) → Did es rest t ts (effect n g es t)
          → (b : Bool) → sees (first g.rows a) t ≡ b → Did (Many a ∷ es) rest t ts
          (elim b [ true ↦ effect n g (a ∷ Many a ∷ es) t | false ↦ effect n g es t ])
      again p q true h =
          next (Many a ∷ es) (a ∷ Many a ∷ es) rest t ts (steps_more (seen a t ts true h)) (effect n g (a ∷ Many a ∷ es) t) p
      again p q false h = next (Many a ∷ es) es rest t ts (steps_stop (seen a t ts false h)) (effect n g es t) q
  did (suc n) (Sym k ∷ es) rest t ts =
      next (Sym k ∷ es) ((row g k).rule ∷ es) rest t ts steps_symbol (effect n g ((row g k).rule ∷ es) t)
      (did n ((row g k).rule ∷ es) rest t ts)
