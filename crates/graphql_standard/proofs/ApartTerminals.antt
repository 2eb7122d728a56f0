-- No token is of two terminals.
use Rattle.std.proofs.Common.{◌≡◌, ℕ, Bool, true, false, eqb, ◌==◌, refl, sym, ap, ◌∙◌, slice_index_or}
use Rattle.std.proofs.lemmas.Bool.{eqb-true}
use Rattle.graphql_core.specs.{Token, all_apart}
use Rattle.graphql_core.proofs.grammar.Classes.{all_apart-sound}
use Rattle.graphql_standard.specs.Terminals.{classes_of, IsTokenOf, terminals}
use Rattle.graphql_standard.specs.steps.Groups.{number_of}
use Rattle.graphql_standard.specs.declared.terminal.Terminal.{Terminal}
use Rattle.graphql_standard.specs.declared.terminal.Terminal.TheVariants as terminal
use Rattle.graphql_standard.proofs.TerminalLists.{all_terminals, of_each, at_number}

abbrev are_apart : Terminal → Terminal → Bool
are_apart j k = elim (number_of j == number_of k) [ true ↦ true | false ↦ all_apart (classes_of j) (classes_of k) ]

all_are_apart : (j k : Terminal) → are_apart j k ≡ true
all_are_apart j k = of_each (are_apart j) (of_each (λ i. all_terminals (are_apart i) terminals) refl j) k

same_number : (j k : Terminal) → number_of j ≡ number_of k → j ≡ k
same_number j k e =
    sym (at_number j terminal.Query)
    ∙ (ap (λ (n : ℕ). slice_index_or terminals n terminal.Query) e ∙ at_number k terminal.Query)

pub one_terminal : (j k : Terminal) (t : Token) → IsTokenOf j t → IsTokenOf k t → j ≡ k
one_terminal j k t h i = of (eqb (number_of j) (number_of k)) refl (all_are_apart j k)
  where
    of : (b : Bool) → eqb (number_of j) (number_of k) ≡ b
        → elim b [ true ↦ true | false ↦ all_apart (classes_of j) (classes_of k) ] ≡ true → j ≡ k
    of true e a = same_number j k (eqb-true (number_of j) (number_of k) e)
    of false e a = absurd (all_apart-sound (classes_of j) (classes_of k) t a h i)
