-- Lexical errors, with strings as their bytes.
use Rattle.std.specs.Prelude.{ℕ, List}
use Rattle.graphql_core.specs.declared.tokenizer.token.Bad.{Bad}
use Rattle.graphql_core.specs.declared.tokenizer.token.Bad.TheVariants as bad

pub data BadText : Type 0 where
  bad_character : (character : ℕ) → BadText
  bare_dot : BadText
  bad_integer : (run : List ℕ) → BadText
  bad_float : (run : List ℕ) → BadText
  unterminated_string : BadText
  unterminated_block_string : BadText
  too_deep : BadText

abbrev pub bad_text : Bad → BadText
bad_text (bad.Character c) = bad_character c
bad_text bad.BareDot = bare_dot
bad_text (bad.Integer run) = bad_integer run.now
bad_text (bad.Float run) = bad_float run.now
bad_text bad.UnterminatedString = unterminated_string
bad_text bad.UnterminatedBlockString = unterminated_block_string
bad_text bad.TooDeep = too_deep
