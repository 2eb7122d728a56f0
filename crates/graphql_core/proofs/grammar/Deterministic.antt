-- The reader has one outcome.
use Rattle.std.proofs.Common.{◌≡◌, true, false, ◌&&◌, List, [], ◌∷◌, refl, sym, ap, ap₂, subst}
use Rattle.std.proofs.lemmas.Bool.{and_parts, both_ways, or_left}
use Rattle.graphql_core.specs.{Token, Class, matches, in_any, Expr, Many, ParseTree, Both, First, Second, More, Node, Grammar, Choice, Left, Right, Neither}
use Rattle.graphql_core.specs.{Takes, takes_nothing, takes_leaf, takes_both, takes_first, takes_second, takes_stop, takes_more, takes_node, Reason, Fails}
use Rattle.graphql_core.specs.{fails_one, fails_value, fails_before, fails_after, fails_first, fails_second, fails_neither, fails_turn, fails_later, fails_node}
use Rattle.graphql_core.specs.{fails_check}

pub left_right : {c : Choice} → c ≡ Left → c ≡ Right → ⊥
left_right h k = cc

pub left_neither : {c : Choice} → c ≡ Left → c ≡ Neither → ⊥
left_neither h k = cc

pub right_neither : {c : Choice} → c ≡ Right → c ≡ Neither → ⊥
right_neither h k = cc

pub same-take : (g : Grammar) {e : Expr} {ts : List Token} {x : ParseTree} {us : List Token} {y : ParseTree} {vs : List Token} → Takes g e ts x us
    → Takes g e ts y vs → (x ≡ y) × (us ≡ vs)
same-take g takes_nothing takes_nothing = (refl, refl)
same-take g (takes_leaf h) (takes_leaf k) = (refl, refl)
same-take g (takes_both {b = b} p q) (takes_both {vs = vs} {y = y} r s) =
    let i = same-take g p r in
    let j = same-take g q (subst (λ (l : List Token). Takes g b l y vs) (sym i.1) s) in
    (ap₂ Both i.0 j.0, j.1)
same-take g (takes_first h p) (takes_first k q) = let i = same-take g p q in (ap First i.0, i.1)
same-take g (takes_first h p) (takes_second k q) = absurd (left_right h k)
same-take g (takes_second h p) (takes_first k q) = absurd (left_right k h)
same-take g (takes_second h p) (takes_second k q) = let i = same-take g p q in (ap Second i.0, i.1)
same-take g (takes_stop h) (takes_stop k) = (refl, refl)
same-take g (takes_stop h) (takes_more k p q) = absurd (both_ways _ h k)
same-take g (takes_more k p q) (takes_stop h) = absurd (both_ways _ h k)
same-take g (takes_more {a = a} h p q) (takes_more {vs = vs} {y = y} k r s) =
    let i = same-take g p r in
    let j = same-take g q (subst (λ (l : List Token). Takes g (Many a) l y vs) (sym i.1) s) in
    (ap₂ More i.0 j.0, j.1)
same-take g (takes_node {k = k} p c) (takes_node q d) = let i = same-take g p q in (ap (Node k) i.0, i.1)

taken_seen : (g : Grammar) (c : Class) (t : Token) → (matches c t && g.good c t) ≡ true → in_any (c ∷ []) t ≡ true
taken_seen g c t h = or_left (matches c t) false (and_parts (matches c t) (g.good c t) h).0

pub take-or_fail : (g : Grammar) {e : Expr} {ts : List Token} {x : ParseTree} {us : List Token} {why : Reason} {vs : List Token} → Takes g e ts x us
    → Fails g e ts why vs → ⊥
take-or_fail g takes_nothing f = elim f [ ]
take-or_fail g (takes_leaf {c = c} {t = t} h) (fails_one k) = both_ways (in_any (c ∷ []) t) k (taken_seen g c t h)
take-or_fail g (takes_leaf {c = c} {t = t} h) (fails_value m k) = both_ways (g.good c t) k (and_parts (matches c t) (g.good c t) h).1
take-or_fail g (takes_both p q) (fails_before r) = take-or_fail g p r
take-or_fail g (takes_both {b = b} p q) (fails_after {vs = vs} {why = why} r s) =
    take-or_fail g q (subst (λ (l : List Token). Fails g b l why vs) (sym (same-take g p r).1) s)
take-or_fail g (takes_first h p) (fails_first k q) = take-or_fail g p q
take-or_fail g (takes_first h p) (fails_second k q) = left_right h k
take-or_fail g (takes_first h p) (fails_neither k) = left_neither h k
take-or_fail g (takes_second h p) (fails_first k q) = left_right k h
take-or_fail g (takes_second h p) (fails_second k q) = take-or_fail g p q
take-or_fail g (takes_second h p) (fails_neither k) = right_neither h k
take-or_fail g (takes_stop h) (fails_turn k q) = both_ways _ h k
take-or_fail g (takes_stop h) (fails_later k q r) = both_ways _ h k
take-or_fail g (takes_more h p q) (fails_turn k r) = take-or_fail g p r
take-or_fail g (takes_more {a = a} h p q) (fails_later {vs = vs} {why = why} k r s) =
    take-or_fail g q (subst (λ (l : List Token). Fails g (Many a) l why vs) (sym (same-take g p r).1) s)
take-or_fail g (takes_node p c) (fails_node q) = take-or_fail g p q
take-or_fail g (takes_node {k = k} p c) (fails_check q d) = both_ways _ d (subst (λ (z : ParseTree). g.check k z ≡ true) (same-take g p q).0 c)

matched_seen : (c : Class) (t : Token) → matches c t ≡ true → in_any (c ∷ []) t ≡ true
matched_seen c t h = or_left (matches c t) false h

pub same-fail : (g : Grammar) {e : Expr} {ts : List Token} {why : Reason} {us : List Token} {other : Reason} {vs : List Token} → Fails g e ts why us
    → Fails g e ts other vs → (why ≡ other) × (us ≡ vs)
same-fail g (fails_one h) (fails_one k) = (refl, refl)
same-fail g (fails_one {c = c} h) (fails_value {t = t} m k) = absurd (both_ways (in_any (c ∷ []) t) h (matched_seen c t m))
same-fail g (fails_value {c = c} {t = t} m k) (fails_one h) = absurd (both_ways (in_any (c ∷ []) t) h (matched_seen c t m))
same-fail g (fails_value m h) (fails_value n k) = (refl, refl)
same-fail g (fails_before p) (fails_before q) = same-fail g p q
same-fail g (fails_before p) (fails_after r s) = absurd (take-or_fail g r p)
same-fail g (fails_after r s) (fails_before p) = absurd (take-or_fail g r p)
same-fail g (fails_after {b = b} p q) (fails_after {vs = vs} {why = why} r s) = same-fail g q
    (subst (λ (l : List Token). Fails g b l why vs) (sym (same-take g p r).1) s)
same-fail g (fails_first h p) (fails_first k q) = same-fail g p q
same-fail g (fails_first h p) (fails_second k q) = absurd (left_right h k)
same-fail g (fails_first h p) (fails_neither k) = absurd (left_neither h k)
same-fail g (fails_second h p) (fails_first k q) = absurd (left_right k h)
same-fail g (fails_second h p) (fails_second k q) = same-fail g p q
same-fail g (fails_second h p) (fails_neither k) = absurd (right_neither h k)
same-fail g (fails_neither h) (fails_first k q) = absurd (left_neither k h)
same-fail g (fails_neither h) (fails_second k q) = absurd (right_neither k h)
same-fail g (fails_neither h) (fails_neither k) = (refl, refl)
same-fail g (fails_turn h p) (fails_turn k q) = same-fail g p q
same-fail g (fails_turn h p) (fails_later k r s) = absurd (take-or_fail g r p)
same-fail g (fails_later h r s) (fails_turn k p) = absurd (take-or_fail g r p)
same-fail g (fails_later {a = a} h p q) (fails_later {vs = vs} {why = why} k r s) = same-fail g q
    (subst (λ (l : List Token). Fails g (Many a) l why vs) (sym (same-take g p r).1) s)
same-fail g (fails_node p) (fails_node q) = same-fail g p q
same-fail g (fails_node p) (fails_check q d) = absurd (take-or_fail g q p)
same-fail g (fails_check p c) (fails_node q) = absurd (take-or_fail g p q)
same-fail g (fails_check p c) (fails_check q d) = (refl, (same-take g p q).1)
