-- The lexical grammar (GraphQL, October 2021, section 2.1): an input is a sequence of lexical elements.
-- Each is as long as possible, except strings and block strings, which end at the first quotes that close them.
use Rattle.std.specs.Prelude.{◌≡◌, ◌≢◌, ℕ, true, false, Bool, not, ◌&&◌, ◌||◌, ◌==◌, if◌then◌else◌, nat_le, List, []}
use Rattle.std.specs.Prelude.{◌∷◌, ◌++◌, slice_index, codes}
use Rattle.std.specs.List.{list_all}
use Rattle.std.specs.Char.{is_ascii_alphabetic, is_ascii_alphanumeric, is_ascii_digit}
use Rattle.graphql_core.specs.declared.tokenizer.token.Kind.{Kind}
use Rattle.graphql_core.specs.declared.tokenizer.token.Kind.TheVariants.{Punctuator, Name, IntValue, FloatValue}
use Rattle.graphql_core.specs.declared.tokenizer.token.Kind.TheVariants.{StringValue, BlockString}
use Rattle.graphql_core.specs.declared.tokenizer.piece.Move.{Move}
use Rattle.graphql_core.specs.declared.tokenizer.piece.Move.TheVariants.{Stay, Over, Down}
use Rattle.graphql_core.specs.declared.tokenizer.piece.Nesting.{Nesting}
use Rattle.graphql_core.specs.declared.tokenizer.piece.Nesting.TheVariants.{Unchanged, Opens, Closes}

-- NameStart (section 2.1.9): a letter or `_`
abbrev pub is_name_start : ℕ → Bool
is_name_start b = is_ascii_alphabetic b || b == 95

-- NameContinue (section 2.1.9): a letter, a digit or `_`
abbrev pub is_name_continue : ℕ → Bool
is_name_continue b = is_ascii_alphanumeric b || b == 95

-- CommentChar (section 2.1.4): neither LF nor CR
abbrev pub is_in_line : ℕ → Bool
is_in_line b = not (b == 10) && not (b == 13)

-- a Name (section 2.1.9)
abbrev pub IsName : List ℕ → Type 0
IsName [] = ⊥
IsName (b ∷ bs) = (is_name_start b ≡ true) × (list_all is_name_continue bs ≡ true)

-- ---- punctuators (section 2.1.8)

-- the brackets: `(`, `[`, `{` and `)`, `]`, `}`
abbrev pub is_opener : ℕ → Bool
is_opener b = b == 40 || b == 91 || b == 123

abbrev pub is_closer : ℕ → Bool
is_closer b = b == 41 || b == 93 || b == 125

-- a punctuator of one character: a bracket, or `!`, `$`, `&`, `:`, `=`, `@` or a vertical bar
abbrev pub is_punctuator_byte : ℕ → Bool
is_punctuator_byte b =
    is_opener b || is_closer b || b == 33 || b == 36 || b == 38 || b == 58 || b == 61 || b == 64 || b == 124

abbrev pub nesting_of : ℕ → Nesting
nesting_of b = if is_opener b then Opens else if is_closer b then Closes else Unchanged

-- ---- numbers (sections 2.9.1 and 2.9.2, in this project's profile)

-- A run ends before the next white space, line end, comma, `#`, or punctuator of one character.
abbrev pub is_delimiter : ℕ → Bool
is_delimiter b = b == 32 || b == 10 || b == 13 || b == 9 || b == 44 || b == 35 || is_punctuator_byte b

abbrev pub is_in_run : ℕ → Bool
is_in_run b = not (is_delimiter b)

abbrev pub EndsRun : List ℕ → Type 0
EndsRun [] = Unit {0}
EndsRun (b ∷ bs) = is_delimiter b ≡ true

abbrev pub is_in : ℕ → ℕ → ℕ → Bool
is_in low high b = nat_le low b && nat_le b high

-- one digit, or a digit 1 to 9 and any digits
abbrev pub is_natural : List ℕ → Bool
is_natural [] = false
is_natural (b ∷ []) = is_ascii_digit b
is_natural (b ∷ c ∷ cs) = is_in 49 57 b && list_all is_ascii_digit (c ∷ cs)

-- IntegerPart: an optional `-` and a natural number
abbrev pub is_integer : List ℕ → Bool
is_integer [] = false
is_integer (b ∷ bs) = if b == 45 then is_natural bs else is_natural (b ∷ bs)

-- FractionalPart: a dot and at least one digit
abbrev pub is_fraction : List ℕ → Bool
is_fraction (b ∷ c ∷ cs) = b == 46 && list_all is_ascii_digit (c ∷ cs)
is_fraction _ = false

-- ExponentPart: `e` or `E`, and then a sign and any digits, even none, or a digit 1 to 8 and any digits
abbrev pub is_exponent : List ℕ → Bool
is_exponent (b ∷ c ∷ cs) =
    (b == 101 || b == 69) && ((c == 43 || c == 45 || is_in 49 56 c) && list_all is_ascii_digit cs)
is_exponent _ = false

-- an integer with a fraction, an exponent, or both
pub data IsFloat : List ℕ → Type 0 where
  with_fraction : (integer fraction : List ℕ) → is_integer integer ≡ true → is_fraction fraction ≡ true
      → IsFloat (integer ++ fraction)
  with_exponent : (integer exponent : List ℕ) → is_integer integer ≡ true → is_exponent exponent ≡ true
      → IsFloat (integer ++ exponent)
  with_both : (integer fraction exponent : List ℕ) → is_integer integer ≡ true → is_fraction fraction ≡ true
      → is_exponent exponent ≡ true → IsFloat (integer ++ (fraction ++ exponent))

-- ---- strings (section 2.9.4)

-- The bytes between the quotes of a string: any byte except a quote, a backslash and LF,
-- or a backslash and one more byte, which is not LF.
pub data IsStringBody : List ℕ → Type 0 where
  body_ends : IsStringBody []
  body_character : {b : ℕ} {more : List ℕ} → b ≢ 34 → b ≢ 92 → b ≢ 10 → IsStringBody more → IsStringBody (b ∷ more)
  body_escape : {b : ℕ} {more : List ℕ} → b ≢ 10 → IsStringBody more → IsStringBody (92 ∷ b ∷ more)

-- the bytes begin with three quotes, or with an escape of three quotes
abbrev pub begins_quotes : List ℕ → Bool
begins_quotes (a ∷ b ∷ c ∷ more) = a == 34 && (b == 34 && c == 34)
begins_quotes _ = false

abbrev pub begins_escape : List ℕ → Bool
begins_escape [] = false
begins_escape (b ∷ more) = b == 92 && begins_quotes more

-- The bytes after the opening quotes of a block string, with its closing quotes. From left to right, an escape of three
-- quotes is one unit, three quotes end the block string, and any other byte is a unit.
pub data ClosesBlock : List ℕ → Type 0 where
  closing : ClosesBlock (34 ∷ 34 ∷ 34 ∷ [])
  escape : {more : List ℕ} → ClosesBlock more → ClosesBlock (92 ∷ 34 ∷ 34 ∷ 34 ∷ more)
  unit : {b : ℕ} {more : List ℕ} → begins_quotes (b ∷ more) ≡ false → begins_escape (b ∷ more) ≡ false
      → ClosesBlock more → ClosesBlock (b ∷ more)

-- ---- lexical elements

-- the columns that ignored text takes
abbrev pub steps_over : Move → ℕ
steps_over Stay = 0
steps_over (Over n) = n
steps_over Down = 0

-- the kinds of tokens, as they are named in messages
abbrev pub kind_name : Kind → List ℕ
kind_name Punctuator = codes "Punctuator"
kind_name Name = codes "Name"
kind_name IntValue = codes "IntValue"
kind_name FloatValue = codes "FloatValue"
kind_name StringValue = codes "StringValue"
kind_name BlockString = codes "BlockString"

pub data Meaning : Type 0 where
  Ignored : Move → Meaning
  TokenOf : Kind → Nesting → Meaning

-- `IsLexicalElement bytes m rest`: the bytes are a lexical element of this meaning, if `rest` follows.
-- Ignored text is U+FEFF, white space, line ends, comments and commas (sections 2.1.1 to 2.1.5, 2.1.7).
pub data IsLexicalElement : List ℕ → Meaning → List ℕ → Type 0 where
  ignored_tab : {rest : List ℕ} → IsLexicalElement (9 ∷ []) (Ignored (Over 8)) rest
  ignored_line_feed : {rest : List ℕ} → IsLexicalElement (10 ∷ []) (Ignored Down) rest
  ignored_carriage_return : {rest : List ℕ} → IsLexicalElement (13 ∷ []) (Ignored Stay) rest
  ignored_space : {rest : List ℕ} → IsLexicalElement (32 ∷ []) (Ignored (Over 1)) rest
  ignored_comma : {rest : List ℕ} → IsLexicalElement (44 ∷ []) (Ignored (Over 1)) rest
  ignored_byte_order_mark : {rest : List ℕ} → IsLexicalElement (239 ∷ 187 ∷ 191 ∷ []) (Ignored Stay) rest
  -- a comment runs to the end of the input, or through its line end: LF, CR LF, or CR without LF after it
  comment_at_end : (line : List ℕ) → list_all is_in_line line ≡ true → IsLexicalElement (35 ∷ line) (Ignored Stay) []
  comment_feed : (line : List ℕ) {rest : List ℕ} → list_all is_in_line line ≡ true
      → IsLexicalElement (35 ∷ (line ++ 10 ∷ [])) (Ignored Down) rest
  comment_return_feed : (line : List ℕ) {rest : List ℕ} → list_all is_in_line line ≡ true
      → IsLexicalElement (35 ∷ (line ++ 13 ∷ 10 ∷ [])) (Ignored Down) rest
  comment_return : (line : List ℕ) {rest : List ℕ} → list_all is_in_line line ≡ true → slice_index rest 0 ≢ 10
      → IsLexicalElement (35 ∷ (line ++ 13 ∷ [])) (Ignored Down) rest
  -- a name is as long as possible
  name_token : {b : ℕ} {bs rest : List ℕ} → is_name_start b ≡ true → list_all is_name_continue bs ≡ true
      → is_name_continue (slice_index rest 0) ≡ false → IsLexicalElement (b ∷ bs) (TokenOf Name Unchanged) rest
  punctuator_token : {b : ℕ} {rest : List ℕ} → is_punctuator_byte b ≡ true
      → IsLexicalElement (b ∷ []) (TokenOf Punctuator (nesting_of b)) rest
  spread_token : {rest : List ℕ} → IsLexicalElement (46 ∷ 46 ∷ 46 ∷ []) (TokenOf Punctuator Unchanged) rest
  -- a number takes its whole run
  integer_token : {run rest : List ℕ} → is_integer run ≡ true → EndsRun rest
      → IsLexicalElement run (TokenOf IntValue Unchanged) rest
  float_token : {run rest : List ℕ} → IsFloat run → EndsRun rest → IsLexicalElement run (TokenOf FloatValue Unchanged) rest
  -- a string; an empty string only if no other quote follows
  string_token : (body : List ℕ) {rest : List ℕ} → IsStringBody body → (body ≡ [] → slice_index rest 0 ≢ 34)
      → IsLexicalElement (34 ∷ (body ++ 34 ∷ [])) (TokenOf StringValue Unchanged) rest
  block_string_token : {body rest : List ℕ} → ClosesBlock body
      → IsLexicalElement (34 ∷ 34 ∷ 34 ∷ body) (TokenOf BlockString Unchanged) rest

-- no lexical element begins this input
abbrev pub BeginsNone : List ℕ → Type 0
BeginsNone text = (bytes : List ℕ) (m : Meaning) (rest : List ℕ) → IsLexicalElement bytes m rest → text ≢ bytes ++ rest

pub record Piece : Type 0 where
  pub bytes : List ℕ
  pub meaning : Meaning

-- the input is these lexical elements, and then `stop`, which no lexical element begins
abbrev pub IsTokenizedInto : List ℕ → List Piece → List ℕ → Type 0
IsTokenizedInto text [] stop = (text ≡ stop) × BeginsNone stop
IsTokenizedInto text (p ∷ ps) stop =
    (rest : List ℕ) × (text ≡ p.bytes ++ rest) × IsLexicalElement p.bytes p.meaning rest × IsTokenizedInto rest ps stop
