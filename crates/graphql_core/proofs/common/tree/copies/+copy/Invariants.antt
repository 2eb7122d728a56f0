use Rattle.std.proofs.Common.{◌≡◌, List, ◌++◌, take, map}
use Rattle.graphql_core.specs.{value_view, members_view}
use Rattle.graphql_core.specs.declared.common.tree.Value.{Value}
use Rattle.graphql_core.proofs.common.tree.copies.+copy.Given as goal

abbrev pub invariant-copy_items-items : goal.invariant-copy_items-items
invariant-copy_items-items g l =
    map (value_view g.M.Names.bytes) l.copies.items ≡ map (value_view g.N.Names.bytes) (take l.item-index l.item-items)

abbrev pub invariant-copy_members-members : goal.invariant-copy_members-members
invariant-copy_members-members g l =
    (done : List (g.row.N-Value.Denot × Value g.row.N.Denot g.row.N-Value.Denot)) × (l.members.entries ≡ done ++ l.key-iterator)
    × (members_view g.M.Names.bytes l.copies.entries ≡ members_view g.N.Names.bytes done)
