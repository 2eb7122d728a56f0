-- Lexical elements of some small inputs, written out.
use Rattle.std.specs.Prelude.{ℕ, List, [], ◌∷◌, ◌++◌, codes}
use Rattle.graphql_core.specs.declared.tokenizer.token.Kind.{Kind}
use Rattle.graphql_core.specs.declared.tokenizer.token.Kind.TheVariants.{IntValue, FloatValue, StringValue, BlockString}
use Rattle.graphql_core.specs.declared.tokenizer.piece.Nesting.TheVariants.{Unchanged}
use Rattle.graphql_core.specs.lexical.Lexical.{TokenOf, IsLexicalElement}
use Rattle.graphql_standard.specs.lexical.Strings.{HasStringValue}
use Rattle.graphql_standard.specs.lexical.Elements.{IsElement, IsEither, BeginsNoneOf}

-- the input begins with this token of September 2025
abbrev pub BeginsToken : Kind → (first rest : List ℕ) → Type 0
BeginsToken kind first rest = IsElement first (TokenOf kind Unchanged) rest

abbrev IsOneToken : Kind → List ℕ → Type 0
IsOneToken kind text = BeginsToken kind text []

-- the input is a token of `graphql_core`, and no element of September 2025 begins it
abbrev IsOnlyInCore : Kind → List ℕ → Type 0
IsOnlyInCore kind text = IsLexicalElement text (TokenOf kind Unchanged) [] × BeginsNoneOf IsElement text

abbrev pub in_quotes : List ℕ → List ℕ
in_quotes body = 34 ∷ (body ++ 34 ∷ [])

-- ---- numbers

abbrev pub Exponents : Type 0
Exponents = IsOneToken FloatValue (codes "1e9") × IsOneToken FloatValue (codes "0e0")

-- a number ends before `-` and before a quote
abbrev pub Neighbours : Type 0
Neighbours = BeginsToken IntValue (codes "1") (codes "-2") × BeginsToken IntValue (codes "1") (in_quotes (codes "c"))

-- no number ends before a digit, a dot or a letter
abbrev pub NoNumbers : Type 0
NoNumbers =
    BeginsNoneOf IsEither (codes "01") × BeginsNoneOf IsEither (codes "1...") × BeginsNoneOf IsEither (codes "1.")
    × BeginsNoneOf IsEither (codes "1a")

abbrev pub BareExponent : Type 0
BareExponent = IsOnlyInCore FloatValue (codes "1e+")

-- ---- strings

-- the bytes of U+1F600
abbrev face : List ℕ
face = 240 ∷ 159 ∷ 152 ∷ 128 ∷ []

abbrev pub Surrogates : Type 0
Surrogates = HasStringValue (codes "\\uD83D\\uDE00") face

abbrev pub InBraces : Type 0
InBraces = HasStringValue (codes "\\u{1F600}") face × HasStringValue (codes "\\u{00000000041}") (codes "A")

abbrev pub LeadingAlone : Type 0
LeadingAlone = IsOnlyInCore StringValue (in_quotes (codes "\\uD83D"))

abbrev pub PastTheLast : Type 0
PastTheLast = IsOnlyInCore StringValue (in_quotes (codes "\\u{110000}"))

abbrev pub UnknownEscape : Type 0
UnknownEscape = IsOnlyInCore StringValue (in_quotes (codes "\\x"))

abbrev pub RawReturn : Type 0
RawReturn = IsOnlyInCore StringValue (in_quotes (13 ∷ []))

abbrev pub EmptyStrings : Type 0
EmptyStrings = IsOneToken StringValue (codes "\"\"") × IsOneToken BlockString (codes "\"\"\"\"\"\"")
