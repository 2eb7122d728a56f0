-- Lists of clones.
use Rattle.std.specs.List.{AllZip}
use Rattle.std.proofs.Common.{◌≡◌, ℕ, List, [], ◌∷◌, map, refl}
use Rattle.graphql_core.specs.declared.common.tree.Value.{Value}
use Rattle.graphql_core.specs.{value_view, arguments_view}

-- clones that are each seen as their originals are seen as the same list
pub same_views : {X Y : Type 0} (f : X → Y) (R : X → X → Type 0) → ((x y : X) → R x y → f y ≡ f x) → (xs ys : List X) → AllZip R xs ys → map f ys ≡ map f xs
same_views f R keeps [] [] h = refl
same_views f R keeps (x ∷ xs) (y ∷ ys) h = rw (keeps x y h.0, same_views f R keeps xs ys h.1)
same_views f R keeps [] (y ∷ ys) h = absurd h
same_views f R keeps (x ∷ xs) [] h = absurd h

-- clones of arguments
pub same_arguments : {N V : Type 0} (bytes : V → List ℕ) (is_clone : V → V → Type 0) → ((x y : V) → is_clone x y → bytes y ≡ bytes x)
    → (xs ys : List (V × Value N V)) → AllZip (λ x y. is_clone x.0 y.0 × (value_view bytes y.1 ≡ value_view bytes x.1)) xs ys
    → arguments_view bytes ys ≡ arguments_view bytes xs
same_arguments bytes is_clone keeps = same_views (λ a. (bytes a.0, value_view bytes a.1)) _ (λ x y h. rw (keeps x.0 y.0 h.0, h.1))
