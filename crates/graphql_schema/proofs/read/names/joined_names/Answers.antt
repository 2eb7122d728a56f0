use Rattle.std.proofs.Common.{refl, sym, ◌∙◌, [], arith}
use Rattle.graphql_core.specs.{Leaf, spelling_of, spelling_at, separated_of}
use Rattle.graphql_core.proofs.{adds_one, here, took, past, after, fails_last, lacks, pushes_none, turn_fails, turn_appends, fewer, no_more}
use Rattle.graphql_schema.specs.{as_written}
use Rattle.graphql_schema.proofs.{reading, separated, joined_taken, readable}
use Rattle.graphql_core.specs.values.Grammar as shared
use Rattle.graphql_schema.proofs.read.names.joined_names.Goals as goal

pub returns-in_err-expect_name : goal.returns-in_err-expect_name
returns-in_err-expect_name g c =
    lacks _ _ _ _ _ (after here c.in_ok-optional_punctuator.ensures) c.in_err-expect_name.ensures c.from_residual-in_err-expect_name.ensures.1

pub more-init : goal.more-init
more-init g c = record {
  comes = pushes_none reading (separated (spelling_of c.args.separator)) (as_written (separated_of spelling_at [])) g.S.Names.Names.bytes _ _;
  within = omega arith;
}

pub more-preserved : goal.more-preserved
more-preserved g c =
    let now = g.S.TokenSource.items c.more.source in record {
      comes = turn_appends reading _ (as_written (separated_of spelling_at [])) g.S.Names.Names.bytes _ now _ _ _ _ c.more.invariant.comes
          (sym c.sees_punctuator.ensures ∙ c.more-test.true) c.in_ok-separated_name.ensures;
      within = omega (arith, c.more.invariant.within, no_more c.in_ok-separated_name.ensures);
    }

pub more-smaller : goal.more-smaller
more-smaller g c = fewer readable.ll1 refl c.in_ok-separated_name.ensures

pub returns-in_err-separated_name : goal.returns-in_err-separated_name
returns-in_err-separated_name g c =
    let first = past (after here c.in_ok-optional_punctuator.ensures) (took c.in_ok-expect_name.ensures.1 refl) in
    let turn = turn_fails _ _ c.more.invariant.comes (sym c.sees_punctuator.ensures ∙ c.more-test.true) c.in_err-separated_name.ensures in
    fails_last _ _ _ _ first turn c.from_residual-in_err-separated_name.ensures.1

pub returns : goal.returns
returns g c =
    let bytes = g.S.Names.Names.bytes in
    let (t, named, spelled) = c.in_ok-expect_name.ensures in
    rw c.shrink_list.ensures (joined_taken (spelling_of c.args.separator) shared.name spelling_at [] bytes _ c.new-names.ensures.items
    c.in_ok-optional_punctuator.ensures (Leaf t, took named refl, adds_one bytes _ _ _ t.spelling c.in_ok-push.ensures.items (sym spelled))
    c.more.invariant.comes (sym c.sees_punctuator.ensures ∙ c.more-test.false))
