use Rattle.std.proofs.Common.{◌∙◌, ◌+◌, arith, sym}
use Rattle.std.proofs.Math.Nat.{mul-le-mul_right}
use Rattle.graphql_core.specs.{most}
use Rattle.std.proofs.lemmas.Bool.{false≢true}
use Rattle.graphql_query.specs.{levels, document_view, definition_depth, in_sets}
use Rattle.graphql_query.proofs.{document_within}
use Rattle.graphql_query.proofs.print.width.is_narrow_by_sets.Goals as goal

pub returns : goal.returns
returns g c stated wide =
    let style = c.args.style.now in
    let d = document_view g.N.Names.bytes c.args.document.now in
    let sets = most (definition_depth in_sets) d in
    let one_line = sym c.has_multiline_arguments.ensures ∙ c.if-has_multiline_arguments.false in
    let more = mul-le-mul_right {m = levels style d} {n = sets + 1} style.indent (document_within style one_line d) in
    let seen = c.is_too_wide.ensures (sets + 1) (omega (arith, c.sets_in_document.ensures, c.saturating_add.ensures)) in
    false≢true (rw (seen.1 (omega (arith, wide, more))) at stated)
