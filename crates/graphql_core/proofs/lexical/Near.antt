-- Tokens that one load shows. They are ASCII in one line.
use Rattle.std.specs.List.{list_all}
use Rattle.std.proofs.Common.{◌≡◌, ℕ, Bool, true, false, not, List, ◌∷◌, Option, Some, None, take, refl, sym, ◌∙◌, IfSome}
use Rattle.std.proofs.lemmas.Bool.{not-true}
use Rattle.graphql_core.specs.declared.tokenizer.token.Kind.{Kind}
use Rattle.graphql_core.specs.declared.tokenizer.piece.Nesting.{Nesting}
use Rattle.graphql_core.specs.declared.tokenizer.piece.Nesting.TheVariants.{Unchanged}
use Rattle.graphql_core.specs.steps.Front.{Takes}
use Rattle.graphql_core.specs.{front, other_token, is_flat, is_quoted, starts_number, number, quoted_front}
use Rattle.graphql_core.proofs.lexical.FrontIsPiece.{number_first}
use Rattle.graphql_core.proofs.lexical.Positions.{token_flat}

pub string_begins : (bs : List ℕ) → front (34 ∷ bs) ≡ quoted_front (34 ∷ bs)
unfolding front other_token
string_begins bs = refl

pub number_begins : (b : ℕ) (bs : List ℕ) → starts_number b ≡ true → front (b ∷ bs) ≡ number (b ∷ bs)
unfolding front
number_begins b bs h = number_first b bs h

-- x is `None`, or the number at the front
abbrev IsNumber : List ℕ → Option (ℕ × Kind) → Type 0
IsNumber bytes x = IfSome x (λ t. number bytes ≡ Takes t.0 t.1 Unchanged)

pub number_is : (bytes : List ℕ) (x : Option (ℕ × Kind)) → front bytes ≡ number bytes → IsNumber bytes x
    → IfSome x (λ t. front bytes ≡ Takes t.0 t.1 Unchanged)
number_is bytes None e h = tt
number_is bytes (Some t) e h = e ∙ h

pub number_flat : (bytes : List ℕ) (x : Option (ℕ × Kind)) → front bytes ≡ number bytes → IsNumber bytes x
    → IfSome x (λ t. is_quoted t.1 ≡ false) → IfSome x (λ t. list_all is_flat (take t.0 bytes) ≡ true)
number_flat bytes None e h k = tt
number_flat bytes (Some t) e h k = token_flat bytes t.0 t.1 Unchanged (e ∙ h) k

-- a token that is no string
pub other_flat : (bytes : List ℕ) (n : ℕ) (k : Kind) (t : Nesting) (q : Bool) → front bytes ≡ Takes n k t → q ≡ is_quoted k → not q ≡ true
    → list_all is_flat (take n bytes) ≡ true
other_flat bytes n k t q e is h = token_flat bytes n k t e (sym is ∙ not-true q h)
