use Rattle.std.proofs.Common.{[], ◌∷◌, ◌++◌, sym, ap, ◌∙◌, refl, Err}
use Rattle.graphql_core.specs.{Stop, fits_stop, each_of}
use Rattle.graphql_core.proofs.{adds_reserved, fills, halts_before, halts_led, turn_done, turn_halts, here, past, pushes_none, some_taken, stops_led, fewer}
use Rattle.graphql_core.specs.declared.helpers.read_error.ReadError.TheVariants.{Memory}
use Rattle.graphql_schema.specs.{schemas, item_of, definition_view, rejections, as_written, tables}
use Rattle.graphql_schema.proofs.{reading, item_begins, readable}
use Rattle.graphql_schema.proofs.read.definition.definitions.Goals as goal

pub returns-in_err-first : goal.returns-in_err-first
returns-in_err-first g c =
    halts_before schemas rejections Stop _ _ _ _ _ _ fits_stop c.in_err-first.ensures c.from_residual.ensures.1

pub more-init : goal.more-init
more-init g c = record { pushes = pushes_none reading _ (as_written item_of) (definition_view g.S.Names.Names.bytes) _ _ }

pub more-preserved : goal.more-preserved
more-preserved g c =
    let now = g.S.TokenSource.items c.more.source in
    record {
      pushes = turn_done schemas rejections _ item_of (definition_view g.S.Names.Names.bytes) _ now _ _ _ _ _ c.more.invariant.pushes
          (item_begins now ∙ sym c.sees_definition.ensures ∙ c.more-test.true) c.in_ok-next.ensures
          (c.push_reserved-in-more.ensures.items ∙ ap (λ l. l ++ c.in_ok-next.next ∷ []) c.in_ok-reserve-2.ensures.items);
    }

pub more-smaller : goal.more-smaller
unfolding tables
more-smaller g c = fewer readable.ll1 refl c.in_ok-next.ensures.gives

pub returns-in_err-next : goal.returns-in_err-next
returns-in_err-next g c =
    let now = g.S.TokenSource.items c.more.source in
    let (x, taken, is) = c.in_ok-first.ensures.gives in
    let halt = c.in_err-next.field-0.0 in
    let turn = turn_halts schemas rejections _ item_of (definition_view g.S.Names.Names.bytes) _ now _ _ _ (λ (v : Unit {0}) y. ⊥) (Err halt) halt
    c.more.invariant.pushes (item_begins now ∙ sym c.sees_definition.ensures ∙ c.more-test.true) c.in_err-next.ensures refl in
    halts_led schemas rejections _ _ _ _ _ _ _ (past here taken) turn c.from_residual-in_err-next.ensures.1

pub returns-in_err-reserve-2 : goal.returns-in_err-reserve-2
returns-in_err-reserve-2 g c =
    let same = c.in_ok-next.ensures.gives.1.1 ∙ c.more.invariant.pushes.turns.kept in
    stops_led schemas rejections _ _ _ _ Memory (past here c.in_ok-first.ensures.gives.1) same c.from_residual-in_err-reserve-2.ensures.1

pub returns : goal.returns
returns g c =
    let now = g.S.TokenSource.items c.more.source in
    let view = definition_view g.S.Names.Names.bytes in
    let (x, taken, is) = c.in_ok-first.ensures.gives in
    let all = as_written (each_of item_of) in
    let (xs, all, adds) =
    some_taken (as_written item_of) all all _ refl (λ x y. refl) (λ x y. refl)
    (x, taken, adds_reserved view _ _ _ _ _ c.in_ok-reserve.ensures.items c.push_reserved.ensures.items is)
    c.more.invariant.pushes (item_begins now ∙ sym c.sees_definition.ensures ∙ c.more-test.false) in
    record { gives = (xs, all, fills view _ _ _ c.new-definitions.ensures.items adds); says = tt }
