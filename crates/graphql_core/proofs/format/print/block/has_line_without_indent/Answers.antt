use Rattle.std.proofs.Common.{rules, tests, arith, not, ◌&&◌}
use Rattle.std.proofs.lemmas.Iterator.Search.{any_from_yields_List}
use Rattle.graphql_core.specs.{is_blank_line}
use Rattle.std.proofs.lemmas.Iterator.Splits.{YieldsList-from_str_split}
use Rattle.graphql_core.specs.layouts.ValueLayout as spec
use Rattle.graphql_core.proofs.format.print.block.has_line_without_indent.Goals as goal

pub returns : goal.returns
returns c = any_from_yields_List (λ l. not (is_blank_line l) && not (spec.begins_white l)) _ _ c.any.result c.any.ensures.ran
    (YieldsList-from_str_split 10 c.args.text.now (omega arith) c.split.ensures.text c.split.ensures.has_more c.split.ensures.pattern)
    (λ x b q k. search (rules, tests))
