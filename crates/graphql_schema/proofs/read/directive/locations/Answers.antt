use Rattle.std.proofs.Common.{refl, sym, ◌∙◌, codes, Some, None, arith}
use Rattle.graphql_core.specs.{Then, Sym, punctuator, separated_of}
use Rattle.graphql_core.proofs.{adds_one, begun, after, fails_last, pushes_none, turn_fails, turn_appends, whole, fewer, no_more}
use Rattle.graphql_schema.specs.{location_symbol, locations_symbol, location_at, as_written}
use Rattle.graphql_schema.proofs.{reading, all_present, joined_taken, readable}
use Rattle.graphql_schema.proofs.read.directive.locations.Goals as goal

pub more-init : goal.more-init
more-init g c = record {
  comes = pushes_none reading (Then (punctuator (codes "|")) (Sym location_symbol)) (as_written (separated_of location_at None)) Some _ _;
  within = omega arith;
}

pub more-preserved : goal.more-preserved
more-preserved g c =
    let now = g.S.TokenSource.items c.more.source in record {
      comes = turn_appends reading _ (as_written (separated_of location_at None)) Some _ now _ _ _ _ c.more.invariant.comes
          (sym c.sees_punctuator.ensures ∙ c.more-test.true) c.in_ok-separated_location.ensures;
      within = omega (arith, c.more.invariant.within, no_more c.in_ok-separated_location.ensures);
    }

pub more-smaller : goal.more-smaller
more-smaller g c = fewer readable.ll1 refl c.in_ok-separated_location.ensures

pub returns-in_err-separated_location : goal.returns-in_err-separated_location
returns-in_err-separated_location g c =
    let first = after (after (begun locations_symbol (λ x. refl)) c.in_ok-optional_punctuator.ensures) c.in_ok-location.ensures in
    let turn = turn_fails _ _ c.more.invariant.comes (sym c.sees_punctuator.ensures ∙ c.more-test.true) c.in_err-separated_location.ensures in
    fails_last _ _ _ _ first turn c.from_residual-in_err-separated_location.ensures.1

pub returns : goal.returns
returns g c =
    let (x, takes, is) = c.in_ok-location.ensures in
    let (xs, joined, are) = joined_taken (codes "|") (Sym location_symbol) location_at None Some _ c.new-locations.ensures.items
    c.in_ok-optional_punctuator.ensures (x, takes, adds_one Some _ _ _ _ c.in_ok-push.ensures.items is) c.more.invariant.comes
    (sym c.sees_punctuator.ensures ∙ c.more-test.false) in
    whole (begun locations_symbol (λ x. refl)) joined (c.shrink_list.ensures ∙ all_present _ _ are)
