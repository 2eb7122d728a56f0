use Rattle.std.proofs.Common.{◌≡◌}
use Rattle.graphql_core.specs.{arguments_view}
use Rattle.graphql_core.proofs.{same_arguments}
use Rattle.graphql_core.proofs.common.tree.copies.DirectiveClone.clone.Goals as goal

pub returns : goal.returns
returns g c =
    let bytes = g.N.Names.bytes in
    let d = c.args.self.now in
    let keeps = g.met.N.Names.clone_keeps in
    let named : bytes c.in_ok-name.name ≡ bytes d.name = keeps _ _ c.in_ok-name.ensures.cases in
    let same : arguments_view {N = g.row.N.Denot} bytes c.in_ok-arguments.arguments.items ≡ arguments_view bytes d.arguments.items = same_arguments bytes _
    keeps _ _ c.in_ok-arguments.ensures.cases.0 in
    record { cases = rw (named, same) }
