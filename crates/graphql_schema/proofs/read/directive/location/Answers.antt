use Rattle.std.proofs.Common.{is_some, sym, ap, ◌∙◌}
use Rattle.graphql_core.specs.{Leaf, Node}
use Rattle.graphql_schema.specs.{location_of, location_symbol}
use Rattle.graphql_schema.proofs.{named, unnamed, location_missing, location_rejected, location_taken}
use Rattle.graphql_schema.proofs.read.directive.location.Goals as goal

pub returns-in_err-token : goal.returns-in_err-token
returns-in_err-token g c =
    location_missing g.S.TokenSource.bytes _ _ _ c.in_err-token.field-0.0 c.in_err-token.ensures c.from_residual.ensures.1

pub returns-in_default : goal.returns-in_default
returns-in_default g c =
    let none = ap location_of (sym c.as_str.ensures) ∙ unnamed _ _ _ c.in_default.ensures.value in
    location_rejected g.S.TokenSource.bytes (g.S.TokenSource.items c.args.source.now) c.in_ok-token.token c.in_ok-token.ensures (ap is_some none)

pub returns : goal.returns
returns g c =
    let some = ap location_of (sym c.as_str.ensures) ∙ named _ _ _ c.in-Ok.ensures.value in (
      Node location_symbol (Leaf _),
      location_taken g.S.TokenSource.bytes _ c.in_ok-token.token c.in_ok-token.ensures _ (ap is_some some) c.advance.ensures,
      sym some,
    )
