use Rattle.std.proofs.Common.{sym, ◌∙◌}
use Rattle.std.proofs.lemmas.Bool.{not-true, not-false}
use Rattle.graphql_query.specs.{in_sets}
use Rattle.graphql_query.proofs.{no_items, some_items, nothing_levels, some_levels, field_depth, fragment_depth, spread_depth}
use Rattle.graphql_query.proofs.print.width.nested_in.Goals as goal

pub returns-in-Field-clause-some : goal.returns-in-Field-clause-some
returns-in-Field-clause-some g c some =
    let bytes = g.N.Names.bytes in
    let f = c.in-Field.field in
    let items = some_items bytes f.selection_set (sym c.is_empty.ensures ∙ not-true _ some) in
    rw c.in-Field.is (field_depth bytes f ∙ some_levels bytes f.selection_set in_sets items)

pub returns-in-Field-clause-none : goal.returns-in-Field-clause-none
returns-in-Field-clause-none g c none =
    let bytes = g.N.Names.bytes in
    let f = c.in-Field.field in
    let items = no_items bytes f.selection_set (sym c.is_empty.ensures ∙ not-false _ none) in
    rw c.in-Field.is (field_depth bytes f ∙ nothing_levels bytes f.selection_set in_sets items)

pub returns-in-InlineFragment-clause-some : goal.returns-in-InlineFragment-clause-some
returns-in-InlineFragment-clause-some g c some = rw c.in-InlineFragment.is (fragment_depth g.N.Names.bytes c.in-InlineFragment.fragment)

pub returns-in-FragmentSpread-clause-none : goal.returns-in-FragmentSpread-clause-none
returns-in-FragmentSpread-clause-none g c none = rw c.in-FragmentSpread.is (spread_depth g.N.Names.bytes c.in-FragmentSpread.field-0)
