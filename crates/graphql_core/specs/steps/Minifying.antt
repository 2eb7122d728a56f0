-- The tokens that are minified, and the error that stops minifying.
use Rattle.std.specs.Prelude.{◌≡◌, ℕ, Bool, false, ◌==◌, ◌+◌, List, [], ◌∷◌}
use Rattle.graphql_core.specs.grammar.Tokens.{Token}
use Rattle.graphql_core.specs.declared.tokenizer.token.Kind.{Kind}
use Rattle.graphql_core.specs.declared.tokenizer.piece.Nesting.{Nesting}
use Rattle.graphql_core.specs.declared.tokenizer.piece.Nesting.TheVariants.{Unchanged, Opens, Closes}
use Rattle.graphql_core.specs.lexical.{IsLexicalElement, TokenOf, openers_after, closers_after}
use Rattle.graphql_core.specs.sources.{kind_number, Items, LastIsError, ParseFailure, IsOutOfMemoryOr}

-- the depth is 50, so an opening bracket here is too deep
abbrev pub is_past : Nesting → (openers closers : ℕ) → Bool
is_past Unchanged o c = false
is_past Opens o c = o == c + 50
is_past Closes o c = false

-- Each token is a lexical element before some input. At most 50 brackets are open, counting those before the tokens.
abbrev pub AreLexemes : (openers closers : ℕ) → List Token → Type 0
AreLexemes o c [] = Unit {0}
AreLexemes o c (t ∷ ts) =
    (k : Kind) × (n : Nesting) × (rest : List ℕ) × (t.kind ≡ kind_number k) × IsLexicalElement t.spelling (TokenOf k n) rest
    × (is_past n o c ≡ false) × AreLexemes (openers_after n o) (closers_after n c) ts

-- the error is out of memory, or it is the lexical error that ends the items
abbrev pub IsLexicalErrorOf : Items → ParseFailure → Type 0
IsLexicalErrorOf i r = IsOutOfMemoryOr (λ f. i.last ≡ LastIsError f.place f.cause) r
