-- A `BTreeMap`, and the fields of the object that it represents.
use Rattle.std.specs.Map.{keys_of}
use Rattle.std.specs.Ordering.{match_ordering, ordering_reverse}
use Rattle.std.specs.BTreeMap.{insert_entry}
use Rattle.std.proofs.Common.{◌≡◌, ℕ, List, [], ◌∷◌, ◌++◌, Ordering, Less, Equal, Greater, nat_cmp, refl, sym, ap, ◌∙◌}
use Rattle.std.proofs.lemmas.Cmp.{nat_list_cmp_total}
use Rattle.std.specs.Cmp.Lexicographic.{slice_cmp}
use Rattle.std.specs.List.{AllByRecursion}
use Rattle.std.specs.List.Sorted.{IsStrictlySortedBy}
use Rattle.graphql_core.specs.{keys, AreInKeyOrder, put, member, value_view, members_view}
use Rattle.graphql_core.specs.declared.common.tree.Value.{Value}

-- keys that are compared by their bytes
module _ {N V : Type 0} (bytes : V → List ℕ) (cmp : V → V → Ordering) (law : (x y : V) → cmp x y ≡ slice_cmp nat_cmp (bytes x) (bytes y)) where
  view_match : (o : Ordering) (a b c : List (V × Value N V))
      → members_view bytes (match_ordering o a b c) ≡ match_ordering o (members_view bytes a) (members_view bytes b) (members_view bytes c)
  view_match Less a b c = refl
  view_match Equal a b c = refl
  view_match Greater a b c = refl

  -- `BTreeMap::insert` does what `put` does
  pub view_insert : (es : List (V × Value N V)) (k : V) (v : Value N V)
      → members_view bytes (insert_entry cmp es k v) ≡ put (bytes k) (value_view bytes v) (members_view bytes es)
  view_insert [] k v = refl
  view_insert (e ∷ es) k v = view_match (cmp k e.0) _ _ _ ∙ rw (law k e.0, view_insert es k v)

  below_middle : (first : V × Value N V) (es : List (V × Value N V)) (e : V × Value N V) (more : List (V × Value N V))
      → AllByRecursion (λ y. cmp first.0 y ≡ Less) (keys_of (es ++ e ∷ more)) → cmp first.0 e.0 ≡ Less
  below_middle first [] e more h = h.0
  below_middle first (x ∷ es) e more h = below_middle first es e more h.1

  -- a key that is above those before it comes last
  pub put_last : (done : List (V × Value N V)) (e : V × Value N V) (more : List (V × Value N V)) → IsStrictlySortedBy cmp (keys_of (done ++ e ∷ more))
      → put (bytes e.0) (value_view bytes e.1) (members_view bytes done) ≡ members_view bytes (done ++ e ∷ [])
  unfolding IsStrictlySortedBy
  put_last [] e more h = refl
  put_last (first ∷ done) e more h =
      let above : slice_cmp nat_cmp (bytes e.0) (bytes first.0) ≡ Greater =
      nat_list_cmp_total.antisymm (bytes e.0) (bytes first.0) ∙ ap ordering_reverse (sym (law first.0 e.0) ∙ below_middle first done e more h.0) in
      rw above (ap (member (bytes first.0) (value_view bytes first.1)) (put_last done e more h.1))

  above_all : (k : V) (es : List (V × Value N V)) → AllByRecursion (λ y. cmp k y ≡ Less) (keys_of es)
      → AllByRecursion (λ y. slice_cmp nat_cmp (bytes k) y ≡ Less) (keys (members_view bytes es))
  above_all k [] h = tt
  above_all k (e ∷ es) h = (sym (law k e.0) ∙ h.0, above_all k es h.1)

  -- the fields of a map are in the order of their keys
  pub in_key_order : (es : List (V × Value N V)) → IsStrictlySortedBy cmp (keys_of es) → AreInKeyOrder (members_view bytes es)
  unfolding IsStrictlySortedBy
  in_key_order [] h = tt
  in_key_order (e ∷ es) h = (above_all e.0 es h.0, in_key_order es h.1)
