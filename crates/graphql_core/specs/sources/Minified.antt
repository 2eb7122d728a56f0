-- A minified output: the spellings of the tokens, with a space between two tokens that are not punctuators, and
-- between a number and `...`.
use Rattle.std.specs.Prelude.{◌≡◌, ℕ, Bool, true, false, not, ◌&&◌, ◌||◌, ◌==◌, List, [], ◌∷◌, ◌++◌, map}
use Rattle.graphql_core.specs.grammar.{Token, Spelled, matches, nowhere}
use Rattle.graphql_core.specs.declared.tokenizer.token.Kind.TheVariants.{Punctuator, IntValue, FloatValue}
use Rattle.graphql_core.specs.lexical.{Item, HasItems}
use Rattle.graphql_core.specs.sources.Causes.{kind_number}
use Rattle.graphql_core.specs.sources.Source.{IsEnd, split}

-- ---- spaced tokens

abbrev pub is_punctuator : ℕ → Bool
is_punctuator kind = kind == kind_number Punctuator

abbrev pub is_number : ℕ → Bool
is_number kind = kind == kind_number IntValue || kind == kind_number FloatValue

-- `...`
abbrev pub is_spread : Token → Bool
is_spread t = matches (Spelled (kind_number Punctuator) (46 ∷ 46 ∷ 46 ∷ [])) t

-- Whether a space separates a token of this kind from the next token:
-- neither is a punctuator, or a number comes before `...`.
abbrev pub is_spaced : (kind : ℕ) → Token → Bool
is_spaced kind t = (not (is_punctuator kind) && not (is_punctuator t.kind)) || (is_number kind && is_spread t)

abbrev pub space_if : Bool → List ℕ
space_if true = 32 ∷ []
space_if false = []

-- the spellings of the tokens after a token of this kind, with spaces
abbrev pub spaced_after : (kind : ℕ) → List Token → List ℕ
spaced_after kind [] = []
spaced_after kind (t ∷ ts) = space_if (is_spaced kind t) ++ (t.spelling ++ spaced_after t.kind ts)

-- the spellings of the tokens, with the spaces that `is_spaced` names
abbrev pub spaced : List Token → List ℕ
spaced [] = []
spaced (t ∷ ts) = t.spelling ++ spaced_after t.kind ts

-- ---- minified outputs

-- the output is the tokens of the source, spaced; the source has no lexical error
abbrev pub IsMinified : (source text : List ℕ) → Type 0
IsMinified source text =
    (items : List Item) × HasItems source items × IsEnd (split items).last × (text ≡ spaced (split items).tokens)

abbrev pub unplaced : Token → Token
unplaced t = record { kind = t.kind; spelling = t.spelling; place = nowhere }

-- the input has tokens of these kinds and spellings, and then its end
abbrev pub HasTokens : (text : List ℕ) → List Token → Type 0
HasTokens text ts = (items : List Item) × HasItems text items × (map unplaced (split items).tokens ≡ map unplaced ts)
    × IsEnd (split items).last
