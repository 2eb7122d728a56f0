use denote.Text.{Utf8}
use denote.Shadow.{shadow}
use Rattle.std.proofs.Common.{◌≡◌, ◌-◌, [], ◌∷◌, take, drop, string_bytes}
use Rattle.std.specs.List.{join_by}
use Rattle.std.specs.Str.Lines.{lines}
use Rattle.graphql_core.proofs.{piece, kept}
use Rattle.graphql_core.proofs.common.strings.block.content_value.Given as goal

abbrev pub invariant-lines : goal.invariant-lines
invariant-lines l = record {
  text : shadow (Utf8 l.rest);
  left : drop l.index (lines l.content) ≡ lines l.rest;
  written : string_bytes l.value ≡ join_by (piece l.width) (10 ∷ []) (take (l.index - l.first) (kept l.first l.through (lines l.content)));
}
