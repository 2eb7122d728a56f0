use Rattle.std.proofs.Common.{arith, refl}
use Rattle.graphql_core.specs.{default_style}
use Rattle.graphql_core.proofs.{displays_narrow}
use Rattle.graphql_schema.specs.{document_layout, document_view, levels}
use Rattle.graphql_schema.proofs.{levels_bounded, narrow_by_default}
use Rattle.graphql_schema.proofs.print.display.DocumentDisplay.fmt.Goals as goal

pub write-requires : goal.write-requires
write-requires g c =
    let most = levels_bounded default_style refl (document_view g.N.Names.bytes c.args.self.now) in
    rw c.default-style.ensures (omega (arith, most))

pub returns : goal.returns
returns g c =
    let document = document_view g.N.Names.bytes c.args.self.now in
    displays_narrow g.W.Write.write_str_gives _ _ c.write.result c.default-style.result document_layout levels document c.default-style.ensures
    c.write.ensures.text (narrow_by_default c.write.result document)
