-- The set of what can come next, one terminal after another.
use Rattle.std.proofs.Common.{◌≡◌, ◌↔◌, ◌<◌, ◌≤◌, ℕ, ◌+◌, Bool, true, false, List, [], ◌∷◌, ◌++◌, length, take}
use Rattle.std.proofs.Common.{reverse, refl, sym, subst, arith}
use Rattle.std.proofs.Common.{◌⊎◌, inl, inr, IsTrue, slice_index_or, slice_set, nat_lt}
use Rattle.std.proofs.Math.Nat.{eq-or-lt_of_le}
use Rattle.std.proofs.lemmas.Bool.{ltb-true}
use Rattle.std.proofs.lemmas.List.{get_or-set_other}
use Rattle.std.proofs.lemmas.Grind.{get_or-set_at}
use Rattle.graphql_core.specs.{Token}
use Rattle.graphql_standard.specs.Terminals.{IsTokenOf, terminals}
use Rattle.graphql_standard.specs.Recognizing.{BeginsDocument}
use Rattle.graphql_standard.specs.steps.Groups.{number_of}
use Rattle.graphql_standard.specs.steps.Stacks.{stack_of, IsAt, Comes}
use Rattle.graphql_standard.specs.declared.terminal.Terminal.{Terminal}
use Rattle.graphql_standard.specs.declared.symbol.Symbol.{Symbol}
use Rattle.graphql_standard.proofs.Documents.{stopped, read_one}
use Rattle.graphql_standard.proofs.TerminalLists.{of_each, at_number}

pub one_more : (xs : List Bool) (ss : List Symbol) (i : ℕ) (b : Bool) (d : Terminal) → i < length xs
    → ((k : Terminal) → number_of k < i → Comes (slice_index_or xs (number_of k) false) ss k)
    → Comes b ss (slice_index_or terminals i d) → (k : Terminal) → number_of k < i + 1
    → Comes (slice_index_or (slice_set xs i b) (number_of k) false) ss k
one_more xs ss i b d h inv new k n = of (eq-or-lt_of_le (omega (arith, n)))
  where
    of : (number_of k ≡ i) ⊎ (number_of k < i) → Comes (slice_index_or (slice_set xs i b) (number_of k) false) ss k
    of (inl e) =
        subst (λ (v : Bool). Comes v ss k) (sym (get_or-set_at xs i (number_of k) b false e h))
        (subst (Comes b ss) (subst (λ (j : ℕ). slice_index_or terminals j d ≡ k) e (at_number k d)) new)
    of (inr l) =
        subst (λ (v : Bool). Comes v ss k)
        (sym (get_or-set_other xs i (number_of k) b false (λ e. omega (arith, e, l)))) (inv k l)

below : (k : Terminal) → nat_lt (number_of k) 39 ≡ true
below k = of_each (λ j. nat_lt (number_of j) 39) refl k

-- each terminal is in the set exactly if a document goes on with its tokens
pub is_expected : (ts : List Token) (ss : List Symbol) (k : Terminal) (t : Token) (b : Bool) → IsAt ts ss → IsTokenOf k t
    → Comes b ss k → IsTrue b ↔ BeginsDocument (ts ++ t ∷ [])
is_expected ts ss k t true at is (n, xs, next) =
    (λ h. (read_one ts t ss (take n ss ++ reverse xs) xs k n at next is refl).1, λ d. refl)
is_expected ts ss k t false at is stops = (λ h. absurd cc, λ d. absurd (stopped ts t (stack_of ss) at (stops t is) d))

pub all_done : (xs : List Bool) (ss : List Symbol) (i : ℕ)
    → ((k : Terminal) → number_of k < i → Comes (slice_index_or xs (number_of k) false) ss k) → 39 ≤ i → (k : Terminal)
    → Comes (slice_index_or xs (number_of k) false) ss k
all_done xs ss i inv h k = inv k (omega (arith, h, ltb-true (number_of k) 39 (below k)))
