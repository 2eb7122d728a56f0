-- Causes of errors, with strings as their bytes.
use Rattle.std.specs.Prelude.{ℕ, Bool, true, false, List, string_bytes}
use Rattle.graphql_core.specs.declared.tokenizer.token.Kind.{Kind}
use Rattle.graphql_core.specs.declared.tokenizer.token.Kind.TheVariants.{Punctuator, Name, IntValue, FloatValue}
use Rattle.graphql_core.specs.declared.tokenizer.token.Kind.TheVariants.{StringValue, BlockString}
use Rattle.graphql_core.specs.lexical.{BadText, bad_character, bare_dot, bad_integer, bad_float, unterminated_string}
use Rattle.graphql_core.specs.lexical.{unterminated_block_string, too_deep}
use Rattle.graphql_core.specs.declared.common.cause.BadToken.{BadToken}
use Rattle.graphql_core.specs.declared.common.cause.Cause.{Cause}
use Rattle.graphql_core.specs.declared.common.cause.BadToken.TheVariants as token
use Rattle.graphql_core.specs.declared.common.cause.Cause.TheVariants as cause

-- the kinds of tokens, as numbers in grammars
abbrev pub kind_number : Kind → ℕ
kind_number Punctuator = 0
kind_number Name = 1
kind_number IntValue = 2
kind_number FloatValue = 3
kind_number StringValue = 4
kind_number BlockString = 5

pub data CauseText : Type 0 where
  no_token : (why : BadText) → CauseText
  unexpected_token : (kind : ℕ) (spelling : List ℕ) → CauseText
  unexpected_end : CauseText
  int_out_of_range : CauseText
  malformed_float : CauseText
  bad_escape : CauseText
  unknown_location : CauseText
  duplicate_operation : (name : List ℕ) → CauseText
  unknown_operation : (name : List ℕ) → CauseText
  empty_extension : CauseText
  text_too_long : CauseText
  out_of_memory : CauseText

abbrev pub token_text : BadToken → BadText
token_text (token.Character c) = bad_character c
token_text token.BareDot = bare_dot
token_text (token.Integer run) = bad_integer (string_bytes run)
token_text (token.Float run) = bad_float (string_bytes run)
token_text token.UnterminatedString = unterminated_string
token_text token.UnterminatedBlockString = unterminated_block_string

abbrev pub cause_text : Cause → CauseText
cause_text (cause.BadToken b) = no_token (token_text b)
cause_text (cause.UnexpectedToken kind text) = unexpected_token (kind_number kind) (string_bytes text)
cause_text cause.UnexpectedEnd = unexpected_end
cause_text cause.TooDeep = no_token too_deep
cause_text cause.IntOutOfRange = int_out_of_range
cause_text cause.MalformedFloat = malformed_float
cause_text cause.BadEscape = bad_escape
cause_text cause.UnknownLocation = unknown_location
cause_text (cause.DuplicateOperation name) = duplicate_operation (string_bytes name)
cause_text (cause.UnknownOperation name) = unknown_operation (string_bytes name)
cause_text cause.EmptyExtension = empty_extension
cause_text cause.TextTooLong = text_too_long
cause_text cause.OutOfMemory = out_of_memory

-- a token or end of input that is not allowed there
abbrev pub is_unexpected : CauseText → Bool
is_unexpected (unexpected_token kind spelling) = true
is_unexpected unexpected_end = true
is_unexpected other = false
