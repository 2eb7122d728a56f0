use Rattle.std.proofs.Common.{arith, refl}
use Rattle.graphql_query.specs.Tree.{document_view}
use Rattle.graphql_walk.specs.{document_branch}
use Rattle.graphql_walk.proofs.{counted_walk, document_fields}
use Rattle.graphql_walk.proofs.count.count_fields.Goals as goal

pub returns : goal.returns
returns g c =
    let d = document_view g.N.Names.bytes c.args.document.now in
    let counted = counted_walk (document_branch d) _ _ _ c.visit_query-ended.ensures refl in
    omega (arith, counted, document_fields d)
