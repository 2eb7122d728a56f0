use Rattle.std.proofs.Common.{refl, sym, ap, ◌∙◌, [], map}
use Rattle.graphql_core.specs.{Sym, shared, directives_symbol, directive_symbol, directive_of, directive_view}
use Rattle.graphql_core.proofs.{begun, fills, pushed, pushes_none, whole}
use Rattle.graphql_core.proofs.common.read.directives.directives.Goals as goal

pub returns-then-not-comes_next : goal.returns-then-not-comes_next
returns-then-not-comes_next g c =
    let view = directive_view g.S.Names.Names.bytes in
    let none = pushes_none shared (Sym directive_symbol) directive_of view _ [] in
    let (x, turns, are) = pushed none (sym c.comes_next.ensures ∙ c.if-not-comes_next.true) in
    whole (begun directives_symbol (λ x. refl)) turns
    (ap (map view) c.new.ensures.items ∙ none.adds ∙ sym are)

pub returns : goal.returns
returns g c =
    let (x, turns, adds) = c.in_ok-read_many.ensures in
    whole (begun directives_symbol (λ x. refl)) turns
    (fills (directive_view g.S.Names.Names.bytes) _ _ _ c.in_ok-directives.ensures.items adds)
