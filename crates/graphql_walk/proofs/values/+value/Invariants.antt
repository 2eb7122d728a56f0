use Rattle.std.proofs.Common.{drop}
use Rattle.graphql_core.specs.values.ValueViews.{items_view, members_view}
use Rattle.graphql_walk.specs.{items_branches, fields_branches}
use Rattle.graphql_walk.proofs.Walked.{Ends}
use Rattle.graphql_walk.proofs.values.+value.Given as goal

abbrev pub invariant-walk_items-items : goal.invariant-walk_items-items
invariant-walk_items-items g l =
    Ends g.V.Visitor.visited (items_branches (items_view g.N.Names.bytes (drop l.item-index l.items))) l.visitor
    (items_branches (items_view g.N.Names.bytes l.items)) l.fn.visitor

abbrev pub invariant-walk_members-members : goal.invariant-walk_members-members
invariant-walk_members-members g l =
    Ends g.V.Visitor.visited (fields_branches (members_view g.N.Names.bytes l.name-iterator)) l.visitor
    (fields_branches (members_view g.N.Names.bytes l.members.entries)) l.fn.visitor
