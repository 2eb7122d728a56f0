-- The list of the terminals has each of them.
use Rattle.std.proofs.Common.{◌≡◌, ℕ, zero, suc, Bool, true, ◌&&◌, List, [], ◌∷◌, Option, Some, None, refl, subst}
use Rattle.std.proofs.Common.{slice_index_or}
use Rattle.std.proofs.lemmas.Bool.{and_parts}
use Rattle.graphql_standard.specs.Terminals.{terminals}
use Rattle.graphql_standard.specs.steps.Groups.{number_of}
use Rattle.graphql_standard.specs.declared.terminal.Terminal.{Terminal}
use Rattle.graphql_standard.specs.declared.terminal.Terminal.TheVariants as terminal

terminal_at : List Terminal → ℕ → Option Terminal
terminal_at [] n = None
terminal_at (k ∷ ks) zero = Some k
terminal_at (k ∷ ks) (suc n) = terminal_at ks n

is_at : (k : Terminal) → terminal_at terminals (number_of k) ≡ Some k
unfolding terminal_at
is_at terminal.Query = refl
is_at terminal.Mutation = refl
is_at terminal.Subscription = refl
is_at terminal.Fragment = refl
is_at terminal.On = refl
is_at terminal.True = refl
is_at terminal.False = refl
is_at terminal.Null = refl
is_at terminal.Schema = refl
is_at terminal.Extend = refl
is_at terminal.Scalar = refl
is_at terminal.«Type» = refl
is_at terminal.Interface = refl
is_at terminal.Union = refl
is_at terminal.Enum = refl
is_at terminal.Input = refl
is_at terminal.Directive = refl
is_at terminal.Implements = refl
is_at terminal.Repeatable = refl
is_at terminal.DirectiveLocation = refl
is_at terminal.OtherName = refl
is_at terminal.IntValue = refl
is_at terminal.FloatValue = refl
is_at terminal.StringValue = refl
is_at terminal.BlockString = refl
is_at terminal.Bang = refl
is_at terminal.Dollar = refl
is_at terminal.Ampersand = refl
is_at terminal.OpenParen = refl
is_at terminal.CloseParen = refl
is_at terminal.Spread = refl
is_at terminal.Colon = refl
is_at terminal.Equals = refl
is_at terminal.At = refl
is_at terminal.OpenBracket = refl
is_at terminal.CloseBracket = refl
is_at terminal.OpenBrace = refl
is_at terminal.Pipe = refl
is_at terminal.CloseBrace = refl

same_some : {A : Type 0} {x y : A} → Some x ≡ Some y → x ≡ y
same_some h = cc

-- the test holds of each terminal of the list
abbrev pub all_terminals : (Terminal → Bool) → List Terminal → Bool
all_terminals p [] = true
all_terminals p (k ∷ ks) = p k && all_terminals p ks

at_index : (p : Terminal → Bool) (ks : List Terminal) (n : ℕ) (k : Terminal) → terminal_at ks n ≡ Some k
    → all_terminals p ks ≡ true → p k ≡ true
unfolding terminal_at
at_index p [] n k h f = absurd cc
at_index p (j ∷ ks) zero k h f =
    subst (λ (i : Terminal). p i ≡ true) (same_some h) (and_parts (p j) (all_terminals p ks) f).0
at_index p (j ∷ ks) (suc n) k h f = at_index p ks n k h (and_parts (p j) (all_terminals p ks) f).1

pub of_each : (p : Terminal → Bool) → all_terminals p terminals ≡ true → (k : Terminal) → p k ≡ true
of_each p h k = at_index p terminals (number_of k) k (is_at k) h

of_index : (ks : List Terminal) (n : ℕ) (k d : Terminal) → terminal_at ks n ≡ Some k → slice_index_or ks n d ≡ k
unfolding terminal_at
of_index [] n k d h = absurd cc
of_index (j ∷ ks) zero k d h = same_some h
of_index (j ∷ ks) (suc n) k d h = of_index ks n k d h

pub at_number : (k d : Terminal) → slice_index_or terminals (number_of k) d ≡ k
at_number k d = of_index terminals (number_of k) k d (is_at k)
