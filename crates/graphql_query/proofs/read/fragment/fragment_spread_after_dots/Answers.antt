use Rattle.std.proofs.Common.{refl, ap₂, ◌∙◌}
use Rattle.graphql_core.specs.{Sym, Both, directives_symbol}
use Rattle.graphql_core.proofs.{adds_reserved, here, after, fails_last, taken_both}
use Rattle.graphql_query.specs.{spread, selection_view}
use Rattle.graphql_query.proofs.{stops_lifted, lifted, fragment_spread_selected}
use Rattle.graphql_query.proofs.read.fragment.fragment_spread_after_dots.Goals as goal

pub returns-in_err-directives : goal.returns-in_err-directives
returns-in_err-directives g c =
    fails_last _ _ _ _ (after here c.in_ok-fragment_name.ensures) (stops_lifted (Sym directives_symbol) refl _ _ _ c.in_err-directives.ensures)
    c.from_residual-in_err-directives.ensures.1

pub returns : goal.returns
returns g c =
    let bytes = g.S.Names.Names.bytes in
    let (x, named, view) = c.in_ok-fragment_name.ensures in
    let (y, listed, views) = lifted refl c.in_ok-directives.ensures in
    let named_there = ap₂ (λ p n. (p, n)) c.position-position.ensures refl ∙ view in (
      Both x y,
      taken_both named listed,
      adds_reserved (selection_view bytes) _ _ _ _ _ c.in_ok-reserve.ensures.items c.push_reserved.ensures.items
          (fragment_spread_selected bytes _ ∙ ap₂ (λ p ds. spread p.0 p.1 ds) named_there views),
    )
