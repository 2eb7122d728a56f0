use Rattle.std.proofs.Common.{length, map, string_bytes}
use Rattle.std.specs.Prelude.{◌↔◌}
use Rattle.graphql_core.specs.{StyleOptions}
use Rattle.gql.specs.{Says, SaysStyle}
use Rattle.gql.proofs.command.style_of.Given as goal

abbrev pub invariant-options : goal.invariant-options
invariant-options l = (style : StyleOptions) → Says l.indent l.multiline (map string_bytes l.rest) style ↔ SaysStyle (map string_bytes l.options) style

abbrev pub decreases-options : goal.decreases-options
decreases-options l = length l.rest
