-- The items of some small inputs, written out.
use Rattle.std.specs.Prelude.{◌≡◌, ℕ, ◌+◌, true, List, [], ◌∷◌, ◌++◌, length, replicate, codes}
use Rattle.std.specs.List.{list_all}
use Rattle.graphql_core.specs.declared.tokenizer.token.Kind.TheVariants.{Punctuator, Name, IntValue, FloatValue}
use Rattle.graphql_core.specs.declared.tokenizer.token.Kind.TheVariants.{StringValue, BlockString}
use Rattle.graphql_core.specs.declared.tokenizer.token.Kind.{Kind}
use Rattle.graphql_core.specs.lexical.BadTexts.{BadText, bad_character, bare_dot, bad_integer, bad_float}
use Rattle.graphql_core.specs.lexical.BadTexts.{unterminated_string, unterminated_block_string, too_deep}
use Rattle.graphql_core.specs.lexical.Items.{Item, item_at, Content, TokenContent, EndOfInput, LexicalError, is_token}
use Rattle.graphql_core.specs.lexical.Items.{HasItems}

-- an item on this line, in this column, after this many bytes, opening and closing brackets
abbrev at : Content → ℕ → ℕ → ℕ → ℕ → ℕ → Item
at c line column offset openers closers = item_at c
    (record {
      position = record { line = line; column = column };
      offset = offset;
      openers = openers;
      closers = closers;
    })

abbrev open_brace : Content
open_brace = TokenContent Punctuator (codes "{")

abbrev close_brace : Content
close_brace = TokenContent Punctuator (codes "}")

abbrev name_a : Content
name_a = TokenContent Name (codes "a")

-- the items of the input are `n` tokens, and then this last item
abbrev EndsAfter : List ℕ → ℕ → Item → Type 0
EndsAfter text n last = (tokens : List Item) × (length tokens ≡ n) × (list_all (λ i. is_token i.content) tokens ≡ true)
    × HasItems text (tokens ++ last ∷ [])

abbrev pub EmptyInput : Type 0
EmptyInput = HasItems [] (at EndOfInput 1 1 0 0 0 ∷ [])

-- three spaces, a tab, a comma, and a comment up to the end, which takes no column
abbrev pub IgnoredAlone : Type 0
IgnoredAlone = HasItems (codes "   " ++ 9 ∷ codes ",#x") (at EndOfInput 1 13 7 0 0 ∷ [])

-- CR LF after a comment is one line end
abbrev pub CommentReturnFeed : Type 0
CommentReturnFeed = HasItems (codes "# c" ++ 13 ∷ 10 ∷ codes "{ a }")
    (at open_brace 2 1 5 0 0 ∷ at name_a 2 3 7 1 0 ∷ at close_brace 2 5 9 1 0 ∷ at EndOfInput 2 6 10 1 1 ∷ [])

-- CR alone after a comment is one line end
abbrev pub CommentReturn : Type 0
CommentReturn = HasItems (codes "# c" ++ 13 ∷ codes "{ a }")
    (at open_brace 2 1 4 0 0 ∷ at name_a 2 3 6 1 0 ∷ at close_brace 2 5 8 1 0 ∷ at EndOfInput 2 6 9 1 1 ∷ [])

-- U+FEFF takes three bytes and no column
abbrev pub ByteOrderMark : Type 0
ByteOrderMark = HasItems (239 ∷ 187 ∷ 191 ∷ codes "{ a }")
    (at open_brace 1 1 3 0 0 ∷ at name_a 1 3 5 1 0 ∷ at close_brace 1 5 7 1 0 ∷ at EndOfInput 1 6 8 1 1 ∷ [])

-- CR outside of comments takes no column and ends no line
abbrev pub ReturnAlone : Type 0
ReturnAlone = HasItems (codes "{" ++ 13 ∷ codes "a }")
    (at open_brace 1 1 0 0 0 ∷ at name_a 1 2 2 1 0 ∷ at close_brace 1 4 4 1 0 ∷ at EndOfInput 1 5 5 1 1 ∷ [])

abbrev pub BadCharacter : Type 0
BadCharacter = HasItems (codes "a;") (at name_a 1 1 0 0 0 ∷ at (LexicalError (bad_character 59)) 1 2 1 0 0 ∷ [])

-- the last of 51 opening brackets is too deep
abbrev pub TooDeepAtLast : Type 0
TooDeepAtLast = EndsAfter (replicate 51 123) 50 (at (LexicalError too_deep) 1 51 50 50 0)

-- after an unmatched closing bracket, 51 opening brackets are allowed
abbrev pub ClosedFirst : Type 0
ClosedFirst = EndsAfter (125 ∷ replicate 51 123) 52 (at EndOfInput 1 53 52 51 1)

-- ---- numbers

-- the input is one token of this kind
abbrev IsOneToken : Kind → List ℕ → Type 0
IsOneToken k text =
    HasItems text (at (TokenContent k text) 1 1 0 0 0 ∷ at EndOfInput 1 (length text + 1) (length text) 0 0 ∷ [])

-- the input begins with a lexical error
abbrev BeginsBad : BadText → List ℕ → Type 0
BeginsBad c text = HasItems text (at (LexicalError c) 1 1 0 0 0 ∷ [])

abbrev pub Integers : Type 0
Integers = IsOneToken IntValue (codes "0") × IsOneToken IntValue (codes "-0") × IsOneToken IntValue (codes "-10")

abbrev pub BadIntegers : Type 0
BadIntegers = BeginsBad (bad_integer (codes "-")) (codes "-") × BeginsBad (bad_integer (codes "01")) (codes "01")

-- After the sign of an exponent, digits are optional. Without a sign, the first digit is 1 to 8.
abbrev pub Floats : Type 0
Floats =
    IsOneToken FloatValue (codes "1E8") × IsOneToken FloatValue (codes "-0.0e+0") × IsOneToken FloatValue (codes "1e+")

abbrev pub BadFloats : Type 0
BadFloats = BeginsBad (bad_float (codes "1.")) (codes "1.") × BeginsBad (bad_float (codes "1e9")) (codes "1e9")

-- a dot and a quote do not end a number
abbrev pub LongRuns : Type 0
LongRuns =
    BeginsBad (bad_float (codes "1...b")) (codes "1...b")
    × BeginsBad (bad_float (49 ∷ 34 ∷ 101 ∷ 34 ∷ [])) (49 ∷ 34 ∷ 101 ∷ 34 ∷ [])
    × BeginsBad (bad_integer (49 ∷ 34 ∷ 120 ∷ 34 ∷ [])) (49 ∷ 34 ∷ 120 ∷ 34 ∷ [])

abbrev pub BareDot : Type 0
BareDot = BeginsBad bare_dot (codes ".5")

-- ---- characters and bytes

-- U+00A0 after a name
abbrev pub NoBreakSpace : Type 0
NoBreakSpace =
    HasItems (97 ∷ 194 ∷ 160 ∷ 98 ∷ []) (at name_a 1 1 0 0 0 ∷ at (LexicalError (bad_character 160)) 1 2 1 0 0 ∷ [])

abbrev name_b : Content
name_b = TokenContent Name (codes "b")

-- a string with the two bytes of one character, and a name
abbrev pub CharacterInString : Type 0
CharacterInString =
    HasItems (34 ∷ 195 ∷ 169 ∷ 34 ∷ codes " b") (at (TokenContent StringValue (34 ∷ 195 ∷ 169 ∷ 34 ∷ [])) 1 1 0 0 0
    ∷ at name_b 1 5 5 0 0 ∷ at EndOfInput 1 6 6 0 0 ∷ [])

-- ---- strings

abbrev quotes : List ℕ
quotes = 34 ∷ 34 ∷ 34 ∷ []

abbrev pub UnterminatedString : Type 0
UnterminatedString = BeginsBad unterminated_string (34 ∷ codes "x")

-- two backslashes before three quotes are a backslash and an escape
abbrev pub UnterminatedBlock : Type 0
UnterminatedBlock = BeginsBad unterminated_block_string (quotes ++ 97 ∷ 92 ∷ 92 ∷ quotes)

abbrev pub QuoteInBlock : Type 0
QuoteInBlock = IsOneToken BlockString (quotes ++ 34 ∷ 97 ∷ quotes)

-- the first three quotes end a block string
abbrev pub QuoteAfterBlock : Type 0
QuoteAfterBlock =
    HasItems (quotes ++ 97 ∷ (quotes ++ 34 ∷ [])) (at (TokenContent BlockString (quotes ++ 97 ∷ quotes)) 1 1 0 0 0
    ∷ at (LexicalError unterminated_string) 1 8 7 0 0 ∷ [])

-- a block string of two lines, and a name
abbrev pub LinesInBlock : Type 0
LinesInBlock =
    HasItems (quotes ++ 120 ∷ 10 ∷ 195 ∷ 169 ∷ (quotes ++ codes " b"))
    (at (TokenContent BlockString (quotes ++ 120 ∷ 10 ∷ 195 ∷ 169 ∷ quotes)) 1 1 0 0 0 ∷ at name_b 2 6 11 0 0
    ∷ at EndOfInput 2 7 12 0 0 ∷ [])

-- ---- punctuators

abbrev punctuator : ℕ → Content
punctuator b = TokenContent Punctuator (b ∷ [])

-- all brackets count for the depth
abbrev pub Punctuators : Type 0
Punctuators =
    HasItems (codes "([&|...])")
    (at (punctuator 40) 1 1 0 0 0 ∷ at (punctuator 91) 1 2 1 1 0 ∷ at (punctuator 38) 1 3 2 2 0
    ∷ at (punctuator 124) 1 4 3 2 0 ∷ at (TokenContent Punctuator (codes "...")) 1 5 4 2 0
    ∷ at (punctuator 93) 1 8 7 2 0 ∷ at (punctuator 41) 1 9 8 2 1 ∷ at EndOfInput 1 10 9 2 2 ∷ [])
