-- The result of a call, and what the call leaves in the caller's buffer.
use Rattle.std.specs.Prelude.{◌≡◌, ◌<◌, ◌≤◌, ◌++◌, ℕ, nat_le, List, length, drop, string_bytes, Option, Some, None}
use Rattle.std.specs.Prelude.{if◌then◌else◌}
use Rattle.std.specs.Str.{IsUtf8}
use Rattle.graphql_core.specs.{too_deep, Place, CauseText, no_token, unexpected_token, int_out_of_range}
use Rattle.graphql_core.specs.{malformed_float, bad_escape, unknown_location, duplicate_operation, unknown_operation}
use Rattle.graphql_core.specs.{empty_extension, unexpected_end, text_too_long, out_of_memory, ParseFailure}
use Rattle.graphql_core.specs.declared.format.error.FormatError.{FormatError}
use Rattle.graphql_core.specs.declared.format.error.FormatError.TheVariants.{TooWide, OutOfMemory}
use Rattle.graphql_c.specs.declared.call_result.CallResult.{CallResult}
use Rattle.graphql_c.specs.declared.failure.Failure.{Failure}

-- ---- numbers of a result

-- the statuses of errors; 0 is the status of a call that succeeded
abbrev pub status_of : CauseText → ℕ
status_of (no_token too_deep) = 4
status_of (no_token other) = 1
status_of (unexpected_token kind spelling) = 2
status_of unexpected_end = 3
status_of int_out_of_range = 5
status_of malformed_float = 6
status_of bad_escape = 7
status_of unknown_location = 8
status_of (duplicate_operation name) = 9
status_of (unknown_operation name) = 10
status_of empty_extension = 11
status_of text_too_long = 12
status_of out_of_memory = 13

abbrev pub status_too_wide : ℕ
status_too_wide = 14

abbrev pub status_not_utf8 : ℕ
status_not_utf8 = 15

abbrev pub status_too_short : ℕ
status_too_short = 16

-- the numbers of a position, which are 0 if there is none
abbrev pub line_of : Option Place → ℕ
line_of (Some p) = p.line
line_of None = 0

abbrev pub column_of : Option Place → ℕ
column_of (Some p) = p.column
column_of None = 0

-- the status of a failure to format
abbrev pub layout_status : FormatError → ℕ
layout_status TooWide = status_too_wide
layout_status OutOfMemory = status_of out_of_memory

-- what a result has of an error: its status, and its position and its offset, which are 0 if it has none
pub record Numbers : Type 0 where
  pub status : ℕ
  pub line : ℕ
  pub column : ℕ
  pub offset : ℕ

abbrev pub numbers_at : (status : ℕ) → Option Place → Numbers
numbers_at status place = record { status = status; line = line_of place; column = column_of place; offset = 0 }

-- the numbers of an error of a parser
abbrev pub parse_numbers : ParseFailure → Numbers
parse_numbers e = numbers_at (status_of e.cause) e.place

-- the numbers of an error without a position
abbrev pub alone : (status : ℕ) → Numbers
alone status = record { status = status; line = 0; column = 0; offset = 0 }

abbrev pub numbers_of : Failure → Numbers
numbers_of f = record { status = f.status; line = f.line; column = f.column; offset = f.offset }

abbrev pub HasNumbers : Numbers → Failure → Type 0
HasNumbers n f = numbers_of f ≡ n

-- ---- buffers

-- the buffer with these bytes at its beginning; a buffer that is too short is unchanged
abbrev pub put : List ℕ → List ℕ → List ℕ
put text buffer = if nat_le (length text) (length buffer) then text ++ drop (length text) buffer else buffer

-- ---- results of calls

-- Why a call failed: an error of an input that is UTF-8, with its numbers, or a status alone.
pub data Explains {E : Type 0} (numbers : E → Numbers) (Rejects : E → Type 0) (IsTooWide : Type 0) (text : List ℕ) : Numbers
    → Type 0 where
  rejected : (e : E) → IsUtf8 text → Rejects e → Explains numbers Rejects IsTooWide text (numbers e)
  too_wide : IsTooWide → Explains numbers Rejects IsTooWide text (alone status_too_wide)
  not_utf8 : (IsUtf8 text → ⊥) → Explains numbers Rejects IsTooWide text (alone status_not_utf8)
  -- an allocation failed
  ran_out : Explains numbers Rejects IsTooWide text (alone (status_of out_of_memory))

-- the failure is explained by errors with these numbers
abbrev pub FailsBy : {E : Type 0} → (E → Numbers) → (E → Type 0) → Type 0 → List ℕ → Failure → Type 0
FailsBy numbers Rejects IsTooWide text f = Explains numbers Rejects IsTooWide text (numbers_of f)

-- the failure is explained by errors of a parser
abbrev pub Fails : (ParseFailure → Type 0) → Type 0 → List ℕ → Failure → Type 0
Fails Rejects IsTooWide text f = FailsBy parse_numbers Rejects IsTooWide text f

-- the result for an output of this length
abbrev pub for_output : (status length : ℕ) → CallResult
for_output status n =
    record { status = status; output_length = n; message_length = 0; offset = 0; line = 0; column = 0 }

-- the result for an offset
abbrev pub for_offset : ℕ → CallResult
for_offset n = record { status = 0; output_length = 0; message_length = 0; offset = n; line = 0; column = 0 }

-- the result for an error with a message of this length
abbrev pub for_error : Numbers → (length : ℕ) → CallResult
for_error n length = record {
  status = n.status;
  output_length = 0;
  message_length = length;
  offset = n.offset;
  line = n.line;
  column = n.column;
}

-- the result has the numbers of the failure, and its message is written into the buffer if it fits
abbrev pub IsResultOf : Failure → (old new : List ℕ) → CallResult → Type 0
IsResultOf f old new r =
    (r ≡ for_error (numbers_of f) (length (string_bytes f.message))) × (new ≡ put (string_bytes f.message) old)

-- The call made this output: it is in the buffer, or the buffer is too short and is unchanged.
pub data Writes (Makes : List ℕ → Type 0) (old new : List ℕ) (r : CallResult) : Type 0 where
  written : (output : List ℕ) → Makes output → length output ≤ length old → new ≡ put output old
      → r ≡ for_output 0 (length output) → Writes Makes old new r
  too_short : (output : List ℕ) → Makes output → length old < length output → new ≡ old
      → r ≡ for_output status_too_short (length output) → Writes Makes old new r

-- the call found an offset, and wrote nothing
abbrev pub Finds : (ℕ → Type 0) → (old new : List ℕ) → CallResult → Type 0
Finds IsAt old new r = (n : ℕ) × IsAt n × (new ≡ old) × (r ≡ for_offset n)

-- The call succeeded, or its result has the numbers of the error. Then some message is written into the buffer if it
-- fits; which one is not specified.
pub data ReturnsBy {E : Type 0} (numbers : E → Numbers) (Done : List ℕ → List ℕ → CallResult → Type 0) (Rejects : E → Type 0)
    (IsTooWide : Type 0) (text old new : List ℕ) (r : CallResult) : Type 0 where
  done : Done old new r → ReturnsBy numbers Done Rejects IsTooWide text old new r
  failed : (message : List ℕ) (n : Numbers) → Explains numbers Rejects IsTooWide text n
      → r ≡ for_error n (length message) → new ≡ put message old
      → ReturnsBy numbers Done Rejects IsTooWide text old new r

-- the same for the errors of a parser
abbrev pub Returns : (List ℕ → List ℕ → CallResult → Type 0) → (ParseFailure → Type 0) → Type 0
    → (text old new : List ℕ) → CallResult → Type 0
Returns Done Rejects IsTooWide text old new r = ReturnsBy parse_numbers Done Rejects IsTooWide text old new r
