-- Walks made of their parts.
use Rattle.std.proofs.Common.{◌≡◌, refl, true, false, Result, Ok, Err, subst, sym, ap, ◌∙◌, ℕ, ◌+◌, ◌<◌, List, [], ◌∷◌, length, get_or, drop, arith, map, option_map, Option, Some, None}
use Rattle.std.proofs.lemmas.Simd.{map-map}
use Rattle.graphql_core.proofs.{item_here}
use Rattle.graphql_query.specs.Tree.{selections_view, selection_set_view}
use Rattle.graphql_query.specs.declared.tree.Selection.{Selection}
use Rattle.graphql_query.specs.declared.tree.SelectionSet.{SelectionSet, out-SelectionSet}
use Rattle.graphql_query.specs.Tree as tree
use Rattle.graphql_core.specs.{place_of}
use Rattle.graphql_query.proofs.layouts.LayoutTexts.{items_of, selection_set_parts}
use Rattle.graphql_walk.specs.Query.{inside_set, selection_set_branch, selected_branches, selections_branches}
use Rattle.std.specs.Result.{IsErrAnd}
use Rattle.graphql_walk.specs.Nodes.{NodeTree, Branch, branch, Branches, none, more, only, Event, ◌then◌, branches_of, optional}
use Rattle.graphql_walk.specs.{Walks, WalksEach, Entering, Leaving, Ending}
use Rattle.graphql_walk.specs.declared.visitor.Flow.{Flow}
use Rattle.graphql_walk.specs.declared.visitor.Halt.{Halt}

-- what `?` returns
pub returned : {E : Type 0} (r : Ending (Unit {0}) E) (h : Halt E) → IsErrAnd r (λ y. y ≡ h) → r ≡ Err h
returned (Ok u) h p = absurd p
returned (Err e) h p = ap Err p

pub no_halt : {A E : Type 0} {x : A} {h : Halt E} → ◌≡◌ {A = Ending A E} (Ok x) (Err h) → ⊥
no_halt p = cc

-- the nodes of the elements from i on: that of the element at i, and those of the elements after it
pub first_left : {A : Type 0} (f : List A → Branches) (xs : List A) (i : ℕ) (x : A) (b : Branch) → i < length xs → x ≡ get_or xs i x
    → f (x ∷ drop (i + 1) xs) ≡ more b (f (drop (i + 1) xs)) → f (drop i xs) ≡ more b (f (drop (i + 1) xs))
first_left f xs i x b h is e = ap f (item_here xs i x h is) ∙ e

module _ {S E : Type 0} (visited : S → Event → Result Flow E → S → Type 0) where
  -- each end of a walk over the nodes that are left ends the walk over all
  abbrev pub Ends : Branches → S → Branches → S → Type 0
  Ends left m all s = (r : Ending (Unit {0}) E) (t : S) → WalksEach visited left m r t → WalksEach visited all s r t

  -- nodes walked, and then others
  pub and_then : (bs cs : Branches) (s m t : S) (r : Ending (Unit {0}) E) → WalksEach visited bs s (Ok tt) m → WalksEach visited cs m r t
      → WalksEach visited (bs then cs) s r t
  and_then none cs s m t r p q = subst (λ x. WalksEach visited cs x r t) p.1 q
  and_then (more b bs) cs s m t r (Ok u, k, p, rest) q = (Ok u, k, p, and_then bs cs k m t r rest q)
  and_then (more b bs) cs s m t r (Err h, k, p, rest) q = absurd (no_halt rest.0)

  -- a walk that ends among the first nodes
  pub and_halted : (bs cs : Branches) (s t : S) (h : Halt E) → WalksEach visited bs s (Err h) t → WalksEach visited (bs then cs) s (Err h) t
  and_halted none cs s t h p = absurd (no_halt (sym p.0))
  and_halted (more b bs) cs s t h (Ok u, k, p, rest) = (Ok u, k, p, and_halted bs cs k t h rest)
  and_halted (more b bs) cs s t h (Err i, k, p, rest) = (Err i, k, p, rest)

  pub only_one : (b : Branch) (s t : S) (r : Ending (Unit {0}) E) → Walks visited b s r t → WalksEach visited (only b) s r t
  only_one b s t (Ok tt) p = (Ok tt, t, p, (refl, refl))
  only_one b s t (Err h) p = (Err h, t, p, (refl, refl))

  pub skipped : (n : NodeTree) (bs : Branches) (s t : S) → Entering visited n s (Ok false) t → Walks visited (branch n bs) s (Ok tt) t
  skipped n bs s t e = (Ok false, t, e, (refl, refl))

  pub not_entered : (n : NodeTree) (bs : Branches) (s t : S) (h : Halt E) → Entering visited n s (Err h) t → Walks visited (branch n bs) s (Err h) t
  not_entered n bs s t h e = (Err h, t, e, (refl, refl))

  pub halted : (n : NodeTree) (bs : Branches) (s m t : S) (h : Halt E) → Entering visited n s (Ok true) m → WalksEach visited bs m (Err h) t
      → Walks visited (branch n bs) s (Err h) t
  halted n bs s m t h e w = (Ok true, m, e, (Err h, t, w, (refl, refl)))

  pub left_after : (n : NodeTree) (bs : Branches) (s m k t : S) (r : Ending (Unit {0}) E) → Entering visited n s (Ok true) m
      → WalksEach visited bs m (Ok tt) k → Leaving visited n k r t → Walks visited (branch n bs) s r t
  left_after n bs s m k t r e w l = (Ok true, m, e, (Ok tt, k, w, l))

  -- ---- nodes of models

  module _ {A B : Type 0} (f : B → Branch) (g : A → B) (s t : S) (r : Ending (Unit {0}) E) where
    pub each_as : (xs : List A) → WalksEach visited (branches_of (map (λ x. f (g x)) xs)) s r t → WalksEach visited (branches_of (map f (map g xs))) s r t
    each_as xs w = rw (map-map f g xs) w

    pub optional_as : (o : Option A) → WalksEach visited (optional (option_map (λ x. f (g x)) o)) s r t
        → WalksEach visited (optional (option_map f (option_map g o))) s r t
    optional_as None w = w
    optional_as (Some x) w = w

  -- ---- lists of nodes, one after another

  module _ (all left rest : Branches) (b : Branch) (s m : S) (e : left ≡ more b rest) (ends : Ends left m all s) where
    pub one_more : (k : S) → Walks visited b m (Ok tt) k → Ends rest k all s
    one_more k p r t w = ends r t (subst (λ x. WalksEach visited x m r t) (sym e) (Ok tt, k, p, w))

    pub one_halted : (h : Halt E) (t : S) → Walks visited b m (Err h) t → WalksEach visited all s (Err h) t
    one_halted h t p = ends (Err h) t (subst (λ x. WalksEach visited x m (Err h) t) (sym e) (Err h, t, p, (refl, refl)))

  pub none_left : (all left : Branches) (s m : S) → left ≡ none → Ends left m all s → WalksEach visited all s (Ok tt) m
  none_left all left s m e ends = ends (Ok tt) m (subst (λ x. WalksEach visited x m (Ok tt) m) (sym e) (refl, refl))

-- ---- selection sets

module _ {N T : Type 0} (bytes : T → List ℕ) {S E : Type 0} (visited : S → Event → Result Flow E → S → Type 0) (set : SelectionSet N T) where
  pub inside_set_of : (s t : S) (r : Ending (Unit {0}) E) → WalksEach visited (selections_branches (selections_view bytes (items_of bytes set))) s r t
      → WalksEach visited (inside_set (selection_set_view bytes set)) s r t
  inside_set_of s t r w = rw (selection_set_parts bytes set) w

  -- a field without selections, and one with them
  pub selected_none : (s : S) → items_of bytes set ≡ [] → WalksEach visited (selected_branches (selection_set_view bytes set)) s (Ok tt) s
  selected_none s e = rw (selection_set_parts bytes set, e) (refl, refl)

  selected_at : (xs : List (Selection N T)) (s t : S) (r : Ending (Unit {0}) E) → items_of bytes set ≡ xs → 0 < length xs
      → Walks visited (selection_set_branch (selection_set_view bytes set)) s r t
      → WalksEach visited (selected_branches (selection_set_view bytes set)) s r t
  selected_at [] s t r e h w = absurd (omega arith)
  selected_at (x ∷ xs) s t r e h w =
      let p = out-SelectionSet N T set in
      let b = selection_set_branch (tree.set (place_of p.span.0) (place_of p.span.1) (selections_view bytes (x ∷ xs))) in
      rw (selection_set_parts bytes set, e) (only_one visited b s t r (rw (selection_set_parts bytes set, e) at w))

  pub selected_some : (s t : S) (r : Ending (Unit {0}) E) → 0 < length (items_of bytes set)
      → Walks visited (selection_set_branch (selection_set_view bytes set)) s r t
      → WalksEach visited (selected_branches (selection_set_view bytes set)) s r t
  selected_some s t r h w = selected_at (items_of bytes set) s t r refl h w
