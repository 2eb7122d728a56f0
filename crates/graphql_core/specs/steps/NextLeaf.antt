-- The next token as a leaf.
use Rattle.std.specs.Prelude.{◌≡◌, ℕ, true, false, if◌then◌else◌, List, ◌∷◌, drop, codes, Result, Ok, Err}
use Rattle.graphql_core.specs.grammar.{same_spelling}
use Rattle.graphql_core.specs.declared.tokenizer.token.Kind.{Kind}
use Rattle.graphql_core.specs.sources.{Items}
use Rattle.graphql_core.specs.steps.Sources.{IsLexeme, lexeme_token}
use Rattle.graphql_core.specs.steps.Matching.{TakesOne}
use Rattle.graphql_core.specs.declared.helpers.read_error.ReadError.{ReadError}
use Rattle.graphql_core.specs.declared.helpers.source.Lexeme.{Lexeme}
use Rattle.graphql_core.specs.values.{enum, ValueTree, boolean, null, any}

-- `t` is the next token, and of kind `k`
pub record IsNext {T : Type 0} (bytes : T → List ℕ) (k : Kind) (i : Items) (t : Lexeme T) : Type 0 where
  pub first : i.tokens ≡ lexeme_token bytes t ∷ drop 1 i.tokens
  pub kind : t.kind ≡ k
  pub lexeme : IsLexeme (lexeme_token bytes t)

-- the result is the next token if it is of this kind, and otherwise an error
abbrev pub Shows : {T : Type 0} → (T → List ℕ) → Kind → Items → Result (Lexeme T) ReadError → Type 0
Shows bytes k i (Ok t) = IsNext bytes k i t
Shows bytes k i (Err s) = TakesOne {A = Unit {0}} (any k) i i (λ v t. Unit {0}) (Err s)

-- the value that a name denotes
abbrev pub word_of : List ℕ → ValueTree
word_of text =
    if same_spelling (codes "true") text then boolean true
    else if same_spelling (codes "false") text then boolean false
    else if same_spelling (codes "null") text then null
    else enum text
