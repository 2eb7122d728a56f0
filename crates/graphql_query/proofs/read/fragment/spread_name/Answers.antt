use Rattle.std.proofs.Common.{◌≡◌, refl, sym, ap₂, ◌∙◌}
use Rattle.graphql_core.specs.{Node, written, fails_one, fails_node, place_next}
use Rattle.graphql_core.proofs.{placed, gives_led}
use Rattle.graphql_query.specs.{reading, changes, spread_class, spread_name_symbol, spread_name_of}
use Rattle.graphql_query.proofs.{begun, gives_one, narrowed}
use Rattle.graphql_query.proofs.read.fragment.spread_name.Goals as goal

pub returns-then-not-sees_spread_name : goal.returns-then-not-sees_spread_name
returns-then-not-sees_spread_name g c = (fails_node (fails_one (sym c.sees_spread_name.ensures ∙ c.if-not-sees_spread_name.true)), refl)

pub returns : goal.returns
returns g c =
    let items = g.S.TokenSource.items in
    let old = items c.args.source.now in
    let new = items c.expect_name.new.source in
    gives_led _ (λ v x. (place_next old, g.S.Names.Names.bytes v) ≡ spread_name_of (written changes (Node spread_name_symbol x))) _ _
    (begun spread_name_symbol) (λ v x h is. is)
    (gives_one reading spread_class old new _ _ c.expect_name.result (λ t. refl) (λ v t h p. ap₂ (λ a b. (a, b)) (placed _ old new t h) (sym p))
    (narrowed old new _ c.expect_name.result (sym c.sees_spread_name.ensures ∙ c.if-not-sees_spread_name.false) c.expect_name.ensures))
