use Rattle.std.proofs.Common.{refl, sym, ◌∙◌}
use Rattle.graphql_core.specs.{ParseTree, written, each_of}
use Rattle.graphql_core.proofs.{adds_reserved, fills, here, after, fails_last, turn_fails, pushes_none, turn_appends, some_taken, fewer}
use Rattle.graphql_query.specs.{definition_view, reading, changes, definition_of, tables}
use Rattle.graphql_query.proofs.{read_definition, begins_definition, readable}
use Rattle.graphql_query.proofs.read.definition.definitions.Goals as goal

pub more-init : goal.more-init
more-init g c = record { pushes = pushes_none reading _ read_definition (definition_view g.S.Names.Names.bytes) _ _ }

pub more-preserved : goal.more-preserved
more-preserved g c =
    let now = g.S.TokenSource.items c.more.source in
    let view = definition_view g.S.Names.Names.bytes in
    let (x, takes, is) = c.in_ok-next.ensures in
    record {
      pushes = turn_appends reading _ read_definition view _ now _ _ _ _ c.more.invariant.pushes
          (begins_definition now ∙ sym c.sees_definition.ensures ∙ c.more-test.true)
          (x, takes, adds_reserved view _ _ _ _ _ c.in_ok-reserve-2.ensures.items c.push_reserved-in-more.ensures.items is);
    }

pub more-smaller : goal.more-smaller
unfolding tables
more-smaller g c = fewer readable.ll1 refl c.in_ok-next.ensures

pub returns-in_err-next : goal.returns-in_err-next
returns-in_err-next g c =
    let seen = begins_definition (g.S.TokenSource.items c.more.source) ∙ sym c.sees_definition.ensures ∙ c.more-test.true in
    fails_last _ _ _ _ (after here c.in_ok-first.ensures) (turn_fails _ _ c.more.invariant.pushes seen c.in_err-next.ensures)
    c.from_residual-in_err-next.ensures.1

pub returns : goal.returns
returns g c =
    let view = definition_view g.S.Names.Names.bytes in
    let (x, takes, is) = c.in_ok-first.ensures in
    let unseen = begins_definition (g.S.TokenSource.items c.more.source) ∙ sym c.sees_definition.ensures ∙ c.more-test.false in
    let all = λ (y : ParseTree). each_of definition_of (written changes y) in
    let (xs, taken, adds) = some_taken read_definition all all _ refl (λ x y. refl) (λ x y. refl)
    (x, takes, adds_reserved view _ _ _ _ _ c.in_ok-reserve.ensures.items c.push_reserved.ensures.items is) c.more.invariant.pushes unseen in
    (xs, taken, fills view _ _ _ c.new-definitions.ensures.items adds)
