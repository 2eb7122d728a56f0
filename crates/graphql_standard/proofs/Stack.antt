-- Steps of the machine change nothing of what the reader does.
use Rattle.std.proofs.Common.{◌≡◌, ◌↔◌, true, false, List, [], ◌∷◌}
use Rattle.std.proofs.lemmas.Bool.{both_ways}
use Rattle.graphql_core.specs.grammar.Tokens.{Token, Class, matches}
use Rattle.graphql_core.specs.grammar.Trees.{Expr, ParseTree, Grammar, accepts}
use Rattle.graphql_core.specs.grammar.GrammarFaults.{Reason}
use Rattle.graphql_core.specs.theory.Classes.{in_any}
use Rattle.graphql_core.specs.theory.Reading.{Choice, Left, Right, Neither, Takes, Fails}
use Rattle.graphql_core.specs.theory.Reading.{takes_nothing, takes_leaf, takes_both, takes_first, takes_second}
use Rattle.graphql_core.specs.theory.Reading.{takes_stop}
use Rattle.graphql_core.specs.theory.Reading.{takes_more, takes_node, fails_one, fails_value, fails_before}
use Rattle.graphql_core.specs.theory.Reading.{fails_after}
use Rattle.graphql_core.specs.theory.Reading.{fails_first, fails_second, fails_neither, fails_turn, fails_later}
use Rattle.graphql_core.specs.theory.Reading.{fails_node}
use Rattle.graphql_core.specs.theory.Reading.{fails_check}
use Rattle.graphql_standard.specs.theory.Stack.{HasNoChecks, TakesAll, takes_none, takes_one, FailsIn, fails_here}
use Rattle.graphql_standard.specs.theory.Stack.{fails_further}
use Rattle.graphql_standard.specs.theory.Stack.{Steps, steps_nothing, steps_token, steps_then, steps_left}
use Rattle.graphql_standard.specs.theory.Stack.{steps_right, steps_stop}
use Rattle.graphql_standard.specs.theory.Stack.{steps_more, steps_symbol, StepsOn, steps_end, steps_next}
use Rattle.std.proofs.lemmas.Bool.{and_parts, or_left}

left_right : {c : Choice} → c ≡ Left → c ≡ Right → ⊥
left_right h k = cc

left_neither : {c : Choice} → c ≡ Left → c ≡ Neither → ⊥
left_neither h k = cc

right_neither : {c : Choice} → c ≡ Right → c ≡ Neither → ⊥
right_neither h k = cc

pub before : (g : Grammar) → HasNoChecks g → {es fs : List Expr} {ts us vs : List Token} → Steps g es ts fs us
    → TakesAll g fs us vs → TakesAll g es ts vs
before g ok steps_nothing p = takes_one takes_nothing p
before g ok (steps_token h) p = takes_one (takes_leaf h) p
before g ok steps_then (takes_one q (takes_one r p)) = takes_one (takes_both q r) p
before g ok (steps_left h) (takes_one q p) = takes_one (takes_first h q) p
before g ok (steps_right h) (takes_one q p) = takes_one (takes_second h q) p
before g ok (steps_stop h) p = takes_one (takes_stop h) p
before g ok (steps_more h) (takes_one q (takes_one r p)) = takes_one (takes_more h q r) p
before g ok (steps_symbol {k = k}) (takes_one {x = x} q p) = takes_one (takes_node q (ok k x)) p

pub after : (g : Grammar) → {es fs : List Expr} {ts us vs : List Token} → Steps g es ts fs us
    → TakesAll g es ts vs → TakesAll g fs us vs
after g steps_nothing (takes_one takes_nothing p) = p
after g (steps_token h) (takes_one (takes_leaf k) p) = p
after g steps_then (takes_one (takes_both q r) p) = takes_one q (takes_one r p)
after g (steps_left h) (takes_one (takes_first k q) p) = takes_one q p
after g (steps_left h) (takes_one (takes_second k q) p) = absurd (left_right h k)
after g (steps_right h) (takes_one (takes_first k q) p) = absurd (left_right k h)
after g (steps_right h) (takes_one (takes_second k q) p) = takes_one q p
after g (steps_stop h) (takes_one (takes_stop k) p) = p
after g (steps_stop h) (takes_one (takes_more k q r) p) = absurd (both_ways _ h k)
after g (steps_more h) (takes_one (takes_stop k) p) = absurd (both_ways _ k h)
after g (steps_more h) (takes_one (takes_more k q r) p) = takes_one q (takes_one r p)
after g steps_symbol (takes_one (takes_node q c) p) = takes_one q p

taken_seen : (g : Grammar) (c : Class) (t : Token) → accepts g c t ≡ true → in_any (c ∷ []) t ≡ true
taken_seen g c t h = or_left (matches c t) false (and_parts (matches c t) (g.good c t) h).0

pub fails-before : (g : Grammar) → HasNoChecks g → {es fs : List Expr} {ts us vs : List Token} {why : Reason}
    → Steps g es ts fs us → FailsIn g fs us why vs → FailsIn g es ts why vs
fails-before g ok steps_nothing p = fails_further takes_nothing p
fails-before g ok (steps_token h) p = fails_further (takes_leaf h) p
fails-before g ok steps_then (fails_here q) = fails_here (fails_before q)
fails-before g ok steps_then (fails_further q (fails_here r)) = fails_here (fails_after q r)
fails-before g ok steps_then (fails_further q (fails_further r p)) = fails_further (takes_both q r) p
fails-before g ok (steps_left h) (fails_here q) = fails_here (fails_first h q)
fails-before g ok (steps_left h) (fails_further q p) = fails_further (takes_first h q) p
fails-before g ok (steps_right h) (fails_here q) = fails_here (fails_second h q)
fails-before g ok (steps_right h) (fails_further q p) = fails_further (takes_second h q) p
fails-before g ok (steps_stop h) p = fails_further (takes_stop h) p
fails-before g ok (steps_more h) (fails_here q) = fails_here (fails_turn h q)
fails-before g ok (steps_more h) (fails_further q (fails_here r)) = fails_here (fails_later h q r)
fails-before g ok (steps_more h) (fails_further q (fails_further r p)) = fails_further (takes_more h q r) p
fails-before g ok steps_symbol (fails_here q) = fails_here (fails_node q)
fails-before g ok (steps_symbol {k = k}) (fails_further {x = x} q p) = fails_further (takes_node q (ok k x)) p

pub fails-after : (g : Grammar) → HasNoChecks g → {es fs : List Expr} {ts us vs : List Token} {why : Reason}
    → Steps g es ts fs us → FailsIn g es ts why vs → FailsIn g fs us why vs
fails-after g ok steps_nothing (fails_here q) = elim q [ ]
fails-after g ok steps_nothing (fails_further takes_nothing p) = p
fails-after g ok (steps_token {c = c} {t = t} h) (fails_here (fails_one k)) =
    absurd (both_ways (in_any (c ∷ []) t) k (taken_seen g c t h))
fails-after g ok (steps_token {c = c} {t = t} h) (fails_here (fails_value m k)) =
    absurd (both_ways (g.good c t) k (and_parts (matches c t) (g.good c t) h).1)
fails-after g ok (steps_token h) (fails_further (takes_leaf k) p) = p
fails-after g ok steps_then (fails_here (fails_before q)) = fails_here q
fails-after g ok steps_then (fails_here (fails_after q r)) = fails_further q (fails_here r)
fails-after g ok steps_then (fails_further (takes_both q r) p) = fails_further q (fails_further r p)
fails-after g ok (steps_left h) (fails_here (fails_first k q)) = fails_here q
fails-after g ok (steps_left h) (fails_here (fails_second k q)) = absurd (left_right h k)
fails-after g ok (steps_left h) (fails_here (fails_neither k)) = absurd (left_neither h k)
fails-after g ok (steps_left h) (fails_further (takes_first k q) p) = fails_further q p
fails-after g ok (steps_left h) (fails_further (takes_second k q) p) = absurd (left_right h k)
fails-after g ok (steps_right h) (fails_here (fails_first k q)) = absurd (left_right k h)
fails-after g ok (steps_right h) (fails_here (fails_second k q)) = fails_here q
fails-after g ok (steps_right h) (fails_here (fails_neither k)) = absurd (right_neither h k)
fails-after g ok (steps_right h) (fails_further (takes_first k q) p) = absurd (left_right k h)
fails-after g ok (steps_right h) (fails_further (takes_second k q) p) = fails_further q p
fails-after g ok (steps_stop h) (fails_here (fails_turn k q)) = absurd (both_ways _ h k)
fails-after g ok (steps_stop h) (fails_here (fails_later k q r)) = absurd (both_ways _ h k)
fails-after g ok (steps_stop h) (fails_further (takes_stop k) p) = p
fails-after g ok (steps_stop h) (fails_further (takes_more k q r) p) = absurd (both_ways _ h k)
fails-after g ok (steps_more h) (fails_here (fails_turn k q)) = fails_here q
fails-after g ok (steps_more h) (fails_here (fails_later k q r)) = fails_further q (fails_here r)
fails-after g ok (steps_more h) (fails_further (takes_stop k) p) = absurd (both_ways _ k h)
fails-after g ok (steps_more h) (fails_further (takes_more k q r) p) = fails_further q (fails_further r p)
fails-after g ok steps_symbol (fails_here (fails_node q)) = fails_here q
fails-after g ok (steps_symbol {k = k}) (fails_here (fails_check {x = x} q c)) = absurd (both_ways _ c (ok k x))
fails-after g ok steps_symbol (fails_further (takes_node q c) p) = fails_further q p

pub all-before : (g : Grammar) → HasNoChecks g → {es fs : List Expr} {ts us vs : List Token} → StepsOn g es ts fs us
    → TakesAll g fs us vs → TakesAll g es ts vs
all-before g ok steps_end p = p
all-before g ok (steps_next s more) p = before g ok s (all-before g ok more p)

pub all-after : (g : Grammar) → {es fs : List Expr} {ts us vs : List Token} → StepsOn g es ts fs us
    → TakesAll g es ts vs → TakesAll g fs us vs
all-after g steps_end p = p
all-after g (steps_next s more) p = all-after g more (after g s p)

pub all-fails-before : (g : Grammar) → HasNoChecks g → {es fs : List Expr} {ts us vs : List Token} {why : Reason}
    → StepsOn g es ts fs us → FailsIn g fs us why vs → FailsIn g es ts why vs
all-fails-before g ok steps_end p = p
all-fails-before g ok (steps_next s more) p = fails-before g ok s (all-fails-before g ok more p)

pub all-fails-after : (g : Grammar) → HasNoChecks g → {es fs : List Expr} {ts us vs : List Token} {why : Reason}
    → StepsOn g es ts fs us → FailsIn g es ts why vs → FailsIn g fs us why vs
all-fails-after g ok steps_end p = p
all-fails-after g ok (steps_next s more) p = all-fails-after g ok more (fails-after g ok s p)

pub only : (g : Grammar) {e : Expr} {ts vs : List Token} → TakesAll g (e ∷ []) ts vs → (x : ParseTree) × Takes g e ts x vs
only g (takes_one {x = x} p takes_none) = (x, p)

pub only-fails : (g : Grammar) {e : Expr} {ts vs : List Token} {why : Reason} → FailsIn g (e ∷ []) ts why vs
    → Fails g e ts why vs
only-fails g (fails_here p) = p
only-fails g (fails_further q p) = elim p [ ]

pub taken : (g : Grammar) → HasNoChecks g → (e : Expr) (es : List Expr) (ts us vs : List Token)
    → StepsOn g (e ∷ []) ts es us → TakesAll g es us vs ↔ ((x : ParseTree) × Takes g e ts x vs)
taken g ok e es ts us vs s =
    (λ p. only g (all-before g ok s p), λ q. all-after g s (takes_one q.1 takes_none))

pub failed : (g : Grammar) → HasNoChecks g → (e : Expr) (es : List Expr) (ts us vs : List Token) (why : Reason)
    → StepsOn g (e ∷ []) ts es us → FailsIn g es us why vs ↔ Fails g e ts why vs
failed g ok e es ts us vs why s =
    (λ p. only-fails g (all-fails-before g ok s p), λ q. all-fails-after g ok s (fails_here q))
