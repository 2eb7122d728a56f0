use Rattle.std.proofs.Common.{arith}
use Rattle.std.proofs.lemmas.Grind.{common_steps}
use Rattle.graphql_core.proofs.format.print.pretty.levels_in_each.Goals as goal

pub offset_bounds-parts-part-index : goal.offset_bounds-parts-part-index
offset_bounds-parts-part-index g c = omega arith

pub parts-preserved : goal.parts-preserved
parts-preserved g c = grind (arith, common_steps)

pub returns : goal.returns
returns g c = grind (arith, common_steps)
