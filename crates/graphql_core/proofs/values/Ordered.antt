-- Members in the order of their keys stay the same when they are put one after the other.
use Rattle.std.specs.Ordering.{ordering_reverse}
use Rattle.std.proofs.Common.{◌≡◌, ℕ, List, [], ◌∷◌, Less, Greater, nat_cmp, refl, sym, ap, ◌∙◌}
use Rattle.std.proofs.lemmas.Cmp.{nat_list_cmp_total}
use Rattle.std.specs.Cmp.Lexicographic.{slice_cmp}
use Rattle.std.specs.List.{AllByRecursion}
use Rattle.std.specs.List.Sorted.{IsStrictlySortedBy}
use Rattle.graphql_core.specs.{ValueTree, ValueMembers, keys, AreInKeyOrder, put, no_members, member, put_all}

abbrev pub pairs_in : ValueMembers → List (List ℕ × ValueTree)
pairs_in no_members = []
pairs_in (member k v ms) = (k, v) ∷ pairs_in ms

abbrev joined : ValueMembers → ValueMembers → ValueMembers
joined no_members ms = ms
joined (member k v done) ms = member k v (joined done ms)

joined_none : (ms : ValueMembers) → joined ms no_members ≡ ms
joined_none no_members = refl
joined_none (member k v ms) = ap (member k v) (joined_none ms)

joined_one : (done : ValueMembers) (k : List ℕ) (v : ValueTree) (ms : ValueMembers)
    → joined (joined done (member k v no_members)) ms ≡ joined done (member k v ms)
joined_one no_members k v ms = refl
joined_one (member l w done) k v ms = ap (member l w) (joined_one done k v ms)

-- the key is above all of these
abbrev IsAbove : ValueMembers → List ℕ → Type 0
IsAbove no_members k = Unit {0}
IsAbove (member l w done) k = (slice_cmp nat_cmp k l ≡ Greater) × IsAbove done k

abbrev AreAbove : ValueMembers → ValueMembers → Type 0
AreAbove done ms = AllByRecursion (IsAbove done) (keys ms)

put_last : (done : ValueMembers) (k : List ℕ) (v : ValueTree) → IsAbove done k → put k v done ≡ joined done (member k v no_members)
put_last no_members k v h = refl
put_last (member l w done) k v (above, h) = rw above (ap (member l w) (put_last done k v h))

above_joined : (done : ValueMembers) (k j : List ℕ) (v : ValueTree) → IsAbove done j → slice_cmp nat_cmp k j ≡ Less
    → IsAbove (joined done (member k v no_members)) j
above_joined no_members k j v h l = (nat_list_cmp_total.antisymm j k ∙ ap ordering_reverse l, tt)
above_joined (member i w done) k j v (here, h) l = (here, above_joined done k j v h l)

all_above : (done : ValueMembers) (k : List ℕ) (v : ValueTree) (js : List (List ℕ)) → AllByRecursion (IsAbove done) js
    → AllByRecursion (λ y. slice_cmp nat_cmp k y ≡ Less) js
    → AllByRecursion (IsAbove (joined done (member k v no_members))) js
all_above done k v [] h l = tt
all_above done k v (j ∷ js) (a, h) (b, l) = (above_joined done k j v a b, all_above done k v js h l)

put_after : (ms done : ValueMembers) → AreInKeyOrder ms → AreAbove done ms → put_all (pairs_in ms) done ≡ joined done ms
unfolding IsStrictlySortedBy
put_after no_members done o h = sym (joined_none done)
put_after (member k v ms) done (less, o) (above, h) =
    ap (put_all (pairs_in ms)) (put_last done k v above) ∙ put_after ms _ o (all_above done k v (keys ms) h less) ∙ joined_one done k v ms

above_none : (js : List (List ℕ)) → AllByRecursion (IsAbove no_members) js
above_none [] = tt
above_none (j ∷ js) = (tt, above_none js)

pub put_all_in_order : (ms : ValueMembers) → AreInKeyOrder ms → put_all (pairs_in ms) no_members ≡ ms
put_all_in_order ms o = put_after ms no_members o (above_none (keys ms))
