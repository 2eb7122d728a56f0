-- When an element of `graphql_core` is one of September 2025.
use Rattle.std.specs.Prelude.{◌≡◌, ℕ, true, List}
use Rattle.graphql_core.specs.declared.tokenizer.token.Kind.{Kind}
use Rattle.graphql_core.specs.declared.tokenizer.token.Kind.TheVariants.{Punctuator, Name, IntValue, FloatValue}
use Rattle.graphql_core.specs.declared.tokenizer.token.Kind.TheVariants.{StringValue, BlockString}
use Rattle.graphql_core.specs.declared.tokenizer.element.ElementKind.{ElementKind}
use Rattle.graphql_core.specs.declared.tokenizer.element.ElementKind.TheVariants.{Token, Comment, Ignored}
use Rattle.graphql_standard.specs.lexical.Strings.{IsString}
use Rattle.graphql_standard.specs.steps.Numbers.{ends_in_digit}

-- a number does not end in a sign, and a string is one of September 2025
abbrev pub IsStandardToken : Kind → List ℕ → Type 0
IsStandardToken Punctuator spelling = Unit {0}
IsStandardToken Name spelling = Unit {0}
IsStandardToken IntValue spelling = ends_in_digit spelling ≡ true
IsStandardToken FloatValue spelling = ends_in_digit spelling ≡ true
IsStandardToken StringValue spelling = IsString spelling
IsStandardToken BlockString spelling = Unit {0}

abbrev pub IsStandardSpelling : ElementKind → List ℕ → Type 0
IsStandardSpelling (Token k) spelling = IsStandardToken k spelling
IsStandardSpelling Comment spelling = Unit {0}
IsStandardSpelling Ignored spelling = Unit {0}
