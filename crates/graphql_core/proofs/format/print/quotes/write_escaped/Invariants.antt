use denote.Shadow.{shadow}
use denote.Text.{Utf8}
use Rattle.std.proofs.Common.{◌≡◌, ℕ, List, ◌∷◌, ◌++◌, length}
use Rattle.std.specs.List.{flat_map}
use Rattle.graphql_core.specs.{quoted_byte}
use Rattle.graphql_core.proofs.format.print.quotes.write_escaped.Given as goal

-- what is written and what is left together give the whole
abbrev pub invariant-runs : goal.invariant-runs
invariant-runs g l = record {
  written : (now : List ℕ) × g.S.Sink.took l.fn.out now l.out × (now ++ flat_map quoted_byte l.rest ≡ 34 ∷ flat_map quoted_byte l.text);
  utf8 : shadow (Utf8 l.rest);
}

abbrev pub decreases-runs : goal.decreases-runs
decreases-runs g l = length l.rest
