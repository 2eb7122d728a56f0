use denote.Text.{Utf8}
use denote.Shadow.{shadow}
use Rattle.std.specs.List.{slice_range}
use Rattle.std.proofs.Common.{◌++◌, ◌-◌, List, ℕ, length, string_bytes}
use Rattle.graphql_core.specs.{HasValue}
use Rattle.graphql_core.proofs.common.strings.quoted.unquote_string.Given as goal

-- a value of the rest, after what is written, is a value of the whole; the rest has a value if the whole has one
abbrev pub invariant-escapes : goal.invariant-escapes
invariant-escapes l = record {
  text : shadow (Utf8 l.rest);
  forth : (w : List ℕ) → HasValue l.rest w → HasValue (slice_range l.text 1 (length l.text - 1)) (string_bytes l.value ++ w);
  back : (v : List ℕ) → HasValue (slice_range l.text 1 (length l.text - 1)) v → (w : List ℕ) × HasValue l.rest w;
}

abbrev pub decreases-escapes : goal.decreases-escapes
decreases-escapes l = length l.rest
