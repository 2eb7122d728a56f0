-- The exit status, and how messages end.
use Rattle.std.specs.Prelude.{ℕ, Bool, false, Option, Some, None, is_some, Result, Ok, Err}
use Rattle.gql.specs.declared.error.RunError.{RunError}
use Rattle.gql.specs.declared.error.RunError.TheVariants.{Read, NotUtf8, Query, Schema, Minify, Format, Write}
use Rattle.gql.specs.declared.error.RunError.TheVariants.{OutOfMemory}

abbrev pub error_status : RunError → ℕ
error_status Read = 2
error_status NotUtf8 = 2
error_status (Query e) = 1
error_status (Schema e) = 1
error_status (Minify e) = 1
error_status (Format e) = 1
error_status Write = 2
error_status OutOfMemory = 2

-- 0 if all output was written, and 2 for invalid arguments, which run nothing
abbrev pub status_of : Option (Result (Unit {0}) RunError) → ℕ
status_of (Some (Ok u)) = 0
status_of (Some (Err e)) = error_status e
status_of None = 2

-- whether the message of an error ends with a line feed: only that of a parse error with a position does
abbrev pub ends_its_line : RunError → Bool
ends_its_line (Query e) = is_some e.place
ends_its_line (Schema e) = is_some e.place
ends_its_line Read = false
ends_its_line NotUtf8 = false
ends_its_line (Minify e) = false
ends_its_line (Format e) = false
ends_its_line Write = false
ends_its_line OutOfMemory = false
