use denote.Text.{Utf8}
use denote.Shadow.{shadow}
use Rattle.std.proofs.Common.{◌≡◌, ◌++◌, length, string_bytes}
use Rattle.graphql_core.specs.{unescaped}
use Rattle.graphql_core.proofs.common.strings.block.push_unescaped.Given as goal

abbrev pub invariant-escapes : goal.invariant-escapes
invariant-escapes l = record {
  text : shadow (Utf8 l.rest);
  written : string_bytes l.value ++ unescaped l.rest ≡ string_bytes l.initial.value ++ unescaped l.line;
}

abbrev pub decreases-escapes : goal.decreases-escapes
decreases-escapes l = length l.rest
