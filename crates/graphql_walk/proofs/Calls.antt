-- The calls of a walk that the visitor does not interrupt.
use Rattle.std.proofs.Common.{◌≡◌, ◌∙◌, ◌++◌, [], ◌∷◌, List, Bool, true, false, Result, Ok, Err, refl, sym, ap, subst}
use Rattle.graphql_walk.specs.{NodeTree, Branch, branch, Branches, none, more, Event, enter, leave, events, events_of}
use Rattle.graphql_walk.specs.{Walks, WalksEach, Entering, Leaving, Ending, AlwaysContinues, Calls, entered, left}
use Rattle.graphql_walk.specs.declared.visitor.Flow.{Flow}
use Rattle.graphql_walk.specs.declared.visitor.Flow.TheVariants.{Continue}
use Rattle.graphql_walk.proofs.Walked.{no_halt}

not_skipped : {E : Type 0} → ◌≡◌ {A = Ending Bool E} (Ok false) (Ok true) → ⊥
not_skipped p = cc

module _ {S E : Type 0} (visited : S → Event → Result Flow E → S → Type 0) where
  pub calls_append : (es ds : List Event) (s m t : S) → Calls visited es s m → Calls visited ds m t → Calls visited (es ++ ds) s t
  calls_append [] ds s m t p q = subst (λ x. Calls visited ds x t) p q
  calls_append (e ∷ es) ds s m t (k, v, p) q = (k, v, calls_append es ds k m t p q)

  module _ (continues : AlwaysContinues visited) where
    entered_on : (n : NodeTree) (s t : S) (r : Ending Bool E) → Entering visited n s r t → (r ≡ Ok true) × visited s (enter n) (Ok Continue) t
    entered_on n s t r (a, v, e) =
        let on = continues s (enter n) a t v in
        (e ∙ ap (λ x. entered x) on, subst (λ x. visited s (enter n) x t) on v)

    left_on : (n : NodeTree) (s t : S) (r : Ending (Unit {0}) E) → Leaving visited n s r t → (r ≡ Ok tt) × visited s (leave n) (Ok Continue) t
    left_on n s t r (a, v, e) =
        let on = continues s (leave n) a t v in
        (e ∙ ap (λ x. left x) on, subst (λ x. visited s (leave n) x t) on v)

    mutual
      pub walk_calls : (b : Branch) (s t : S) (r : Ending (Unit {0}) E) → Walks visited b s r t → (r ≡ Ok tt) × Calls visited (events b) s t
      walk_calls (branch n bs) s t r (Ok true, m, e, (Ok u, k, w, l)) =
          let inside = each_calls bs m k (Ok u) w in
          let end = left_on n k t r l in
          (end.0, (m, (entered_on n s m (Ok true) e).1, calls_append (events_of bs) (leave n ∷ []) m k t inside.1 (t, end.1, refl)))
      walk_calls (branch n bs) s t r (Ok true, m, e, (Err h, k, w, l)) = absurd (no_halt (sym (each_calls bs m k (Err h) w).0))
      walk_calls (branch n bs) s t r (Ok false, m, e, l) = absurd (not_skipped (entered_on n s m (Ok false) e).0)
      walk_calls (branch n bs) s t r (Err h, m, e, l) = absurd (no_halt (sym (entered_on n s m (Err h) e).0))

      pub each_calls : (bs : Branches) (s t : S) (r : Ending (Unit {0}) E) → WalksEach visited bs s r t → (r ≡ Ok tt) × Calls visited (events_of bs) s t
      each_calls none s t r (p, q) = (p, q)
      each_calls (more b bs) s t r (Ok u, m, w, l) =
          let first = walk_calls b s m (Ok u) w in
          let others = each_calls bs m t r l in
          (others.0, calls_append (events b) (events_of bs) s m t first.1 others.1)
      each_calls (more b bs) s t r (Err h, m, w, l) = absurd (no_halt (sym (walk_calls b s m (Err h) w).0))
