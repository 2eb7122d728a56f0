use Rattle.std.specs.Str.{IsCharBoundary}
use Rattle.std.proofs.Common.{ap, length, length-append, subst, arith, ◌-◌, ◌≡◌}
use Rattle.std.proofs.lemmas.Str.{IsCharBoundary-at_seam}
use Rattle.graphql_standard.proofs.definitions.is_definition.Goals as goal

pub split_at-requires : goal.split_at-requires
split_at-requires c =
    let source = c.args.source.now in
    let rest = c.args.end.now in
    let (front, is) = c.requires.ends in
    let same : length front ≡ length source - length rest = omega (arith, ap length is, length-append front rest) in
    subst (IsCharBoundary source) same (IsCharBoundary-at_seam source front rest is c.utf8.end)
