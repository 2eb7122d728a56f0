use Rattle.std.proofs.Common.{◌≡◌, [], ◌∷◌, ◌++◌, length, map, refl, sym, ap, ◌∙◌, arith, rules}
use Rattle.graphql_core.specs.{Sym, Both, optional, peek, written, place_of, arguments_symbol, directives_symbol}
use Rattle.graphql_core.proofs.{Stops-before, Stops-after, gives_error_by, adds_reserved, fewer, no_more, pushed, adds_more, here, took, past, after}
use Rattle.graphql_core.proofs.{fails, fails_last, lacks, begins_at, leads_in, into, gives_led, lacks_last, some_given, none_given, pushes_none, turn_appends}
use Rattle.graphql_core.proofs.{turn_fails, taken_both, whole}
use Rattle.graphql_core.proofs.readers.TakenOff.{stays}
use Rattle.graphql_core.specs.declared.helpers.read_error.ReadError.TheVariants.{Memory}
use Rattle.graphql_query.specs.{more, trees_of, selection_view, set, reading, changes, selection_set_symbol}
use Rattle.graphql_query.specs.{inline_fragment_rest, selections_of, queries, first_names}
use Rattle.graphql_query.proofs.{readable, begun, lifted, stops_lifted, selection_set_begins, field_side, dots_side, fragment_spread_side, inline_fragment_side}
use Rattle.graphql_query.proofs.{names_taken, stops_in_names, begins_selection, some_rest, some_selection, field_means, inline_fragment_means, dots_mean}
use Rattle.graphql_query.proofs.{selection_at, selections_mean, field_made, inline_fragment_made, selection_set_made, selection_set_taken, field_selected}
use Rattle.graphql_query.proofs.{inline_fragment_selected}
use Rattle.graphql_query.proofs.read.selection.+reading.Goals as goal

-- ---- field

pub field-returns-in_err-alias : goal.field-returns-in_err-alias
field-returns-in_err-alias g t c =
    gives_error_by _ _ _ _ _ _ _ _ (stops_in_names _ _ _ c.in_err-alias.ensures) c.from_residual.ensures.1

pub field-returns-in_err-arguments : goal.field-returns-in_err-arguments
field-returns-in_err-arguments g t c =
    fails _ _ _ _ (names_taken c.in_ok-alias.ensures.1)
    (stops_lifted (optional (Sym arguments_symbol)) refl _ _ _ c.in_err-arguments.ensures) c.from_residual-in_err-arguments.ensures.1

pub field-returns-in_err-directives : goal.field-returns-in_err-directives
field-returns-in_err-directives g t c =
    fails _ _ _ _ (after (names_taken c.in_ok-alias.ensures.1) (lifted refl c.in_ok-arguments.ensures))
    (stops_lifted (Sym directives_symbol) refl _ _ _ c.in_err-directives.ensures) c.from_residual-in_err-directives.ensures.1

pub field-returns-in_err-selection_set : goal.field-returns-in_err-selection_set
field-returns-in_err-selection_set g t c =
    let given = after (names_taken c.in_ok-alias.ensures.1) (lifted refl c.in_ok-arguments.ensures) in
    fails_last _ _ _ _ (after given (lifted refl c.in_ok-directives.ensures)) c.in_err-selection_set.ensures.reads
    c.from_residual-in_err-selection_set.ensures.1

pub field-returns : goal.field-returns
field-returns g t c =
    let bytes = g.S.Names.Names.bytes in
    let old = g.S.TokenSource.items c.args.source.now in
    let mid = g.S.TokenSource.items c.alias_and_name.new.source in
    let (x, named, names) = c.in_ok-alias.ensures in
    let at = begins_at queries readable first_names old mid x refl named.0 ∙ sym c.position-position.ensures in
    let (y, given, arguments) = lifted refl c.in_ok-arguments.ensures in
    let (z, listed, directives) = lifted refl c.in_ok-directives.ensures in
    let (s, selects, chosen) = c.in_ok-selection_set.ensures.reads in
    whole (past (past (names_taken named) given) listed) selects
    (adds_more (selection_view bytes) _ _ _ [] _ c.in_ok-selection_set.ensures.restored
    (adds_reserved (selection_view bytes) _ _ _ _ _ c.in_ok-reserve.ensures.items c.push_reserved.ensures.items
    (field_selected bytes _ ∙ field_made bytes _ _ _ _ _ _ ∙ field_means x y z s named.0 _ _ _ _ _ at names arguments directives chosen)))

pub field-optional_selection_set-requires : goal.field-optional_selection_set-requires
field-optional_selection_set-requires g t c =
    λ κs x. (omega (arith, fewer readable.ll1 refl c.in_ok-alias.ensures, no_more c.in_ok-arguments.ensures, no_more c.in_ok-directives.ensures), search rules)

pub field-returns-in_err-reserve : goal.field-returns-in_err-reserve
field-returns-in_err-reserve g t c =
    let given = after (names_taken c.in_ok-alias.ensures.1) (lifted refl c.in_ok-arguments.ensures) in
    fails_last _ _ _ Memory (after given (lifted refl c.in_ok-directives.ensures)) c.in_ok-selection_set.ensures.reads.1.1
    c.from_residual-in_err-reserve.ensures.1

-- ---- selections of a field

pub optional_selection_set-returns-then-not-sees_punctuator-clause-reads : goal.optional_selection_set-returns-then-not-sees_punctuator-clause-reads
optional_selection_set-returns-then-not-sees_punctuator-clause-reads g t c =
    let bytes = g.S.Names.Names.bytes in
    let here = place_of c.args.position in
    none_given selection_set_begins (sym c.sees_punctuator.ensures ∙ c.if-not-sees_punctuator.true)
    (selection_set_made bytes _ _ _ ∙ ap (λ l. set here here (trees_of (map (selection_view bytes) l))) c.new.ensures.items)

pub optional_selection_set-returns-clause-reads : goal.optional_selection_set-returns-clause-reads
optional_selection_set-returns-clause-reads g t c =
    some_given _ _ _ _ _ selection_set_begins (sym c.sees_punctuator.ensures ∙ c.if-not-sees_punctuator.false) (λ v x is. is) c.selection_set.ensures.reads

-- ---- inline fragment

pub inline_fragment_after_dots-returns-in_err-directives : goal.inline_fragment_after_dots-returns-in_err-directives
inline_fragment_after_dots-returns-in_err-directives g t c =
    fails _ _ _ _ (after here c.in_ok-type_condition.ensures) (stops_lifted (Sym directives_symbol) refl _ _ _ c.in_err-directives.ensures)
    c.from_residual-in_err-directives.ensures.1

pub inline_fragment_after_dots-returns-in_err-selection_set : goal.inline_fragment_after_dots-returns-in_err-selection_set
inline_fragment_after_dots-returns-in_err-selection_set g t c =
    let directed = after (after here c.in_ok-type_condition.ensures) (lifted refl c.in_ok-directives.ensures) in
    fails_last _ _ _ _ directed c.in_err-selection_set.ensures.reads c.from_residual-in_err-selection_set.ensures.1

pub inline_fragment_after_dots-selection_set-requires : goal.inline_fragment_after_dots-selection_set-requires
inline_fragment_after_dots-selection_set-requires g t c =
    λ κs x. (omega (arith, no_more c.in_ok-type_condition.ensures, no_more c.in_ok-directives.ensures), search rules)

pub inline_fragment_after_dots-returns-in_err-reserve : goal.inline_fragment_after_dots-returns-in_err-reserve
inline_fragment_after_dots-returns-in_err-reserve g t c =
    let directed = after (after here c.in_ok-type_condition.ensures) (lifted refl c.in_ok-directives.ensures) in
    fails_last _ _ _ Memory directed c.in_ok-selection_set.ensures.reads.1.1 c.from_residual-in_err-reserve.ensures.1

pub inline_fragment_after_dots-returns : goal.inline_fragment_after_dots-returns
inline_fragment_after_dots-returns g t c =
    let bytes = g.S.Names.Names.bytes in
    let old = g.S.TokenSource.items c.args.source.now in
    let new = g.S.TokenSource.items c.selection_set.new.source in
    let (x, named, condition) = c.in_ok-type_condition.ensures in
    let (y, listed, directives) = lifted refl c.in_ok-directives.ensures in
    let (s, selects, chosen) = c.in_ok-selection_set.ensures.reads in
    let taken = taken_both named (taken_both listed selects) in
    let place = c.position-position.ensures ∙ sym (begins_at queries readable inline_fragment_rest old new (Both x (Both y s)) some_rest taken.0) in (
      Both x (Both y s),
      taken,
      adds_more (selection_view bytes) _ _ _ [] _ c.in_ok-selection_set.ensures.restored
          (adds_reserved (selection_view bytes) _ _ _ _ _ c.in_ok-reserve.ensures.items c.push_reserved.ensures.items
          (inline_fragment_selected bytes _ ∙ inline_fragment_made bytes _ _ _ _ ∙ inline_fragment_means _ _ _ _ _ _ _ _ place condition directives chosen)),
    )

-- ---- spread or inline fragment

pub fragment_selection-returns-in_err-expect_punctuator : goal.fragment_selection-returns-in_err-expect_punctuator
fragment_selection-returns-in_err-expect_punctuator g t c =
    lacks _ _ _ _ _ here c.in_err-expect_punctuator.ensures c.from_residual.ensures.1

pub fragment_selection-returns-then-sees_spread_name : goal.fragment_selection-returns-then-sees_spread_name
fragment_selection-returns-then-sees_spread_name g t c =
    let side = fragment_spread_side _ (sym c.sees_spread_name.ensures ∙ c.if-sees_spread_name.true) in
    gives_led _ _ _ _ (into (past here (took c.in_ok-expect_punctuator.ensures.1 refl)) side) (λ v x h is. is) c.fragment_spread_after_dots.ensures

pub fragment_selection-returns : goal.fragment_selection-returns
fragment_selection-returns g t c =
    let side = inline_fragment_side _ (sym c.sees_spread_name.ensures ∙ c.if-sees_spread_name.false) in
    gives_led _ _ _ _ (into (past here (took c.in_ok-expect_punctuator.ensures.1 refl)) side) (λ v x h is. is) c.inline_fragment_after_dots.ensures

-- ---- selection

pub selection-returns-then-sees_punctuator : goal.selection-returns-then-sees_punctuator
selection-returns-then-sees_punctuator g t c =
    let side = dots_side _ (sym c.sees_punctuator.ensures ∙ c.if-sees_punctuator.true) in
    let before = map (selection_view g.S.Names.Names.bytes) c.args.selections.now.items in
    gives_led _ _ _ _ (leads_in side) (λ v x h is. is ∙ ap (λ t. before ++ t ∷ []) (dots_mean h)) c.fragment_selection.ensures

pub selection-returns : goal.selection-returns
selection-returns g t c =
    gives_led _ _ _ _ (leads_in (field_side _ (sym c.sees_punctuator.ensures ∙ c.if-sees_punctuator.false))) (λ v x h is. is) c.field.ensures

-- ---- selections in braces, after others

pub selections_in_braces-returns-in_err-start : goal.selections_in_braces-returns-in_err-start
selections_in_braces-returns-in_err-start g t c = lacks _ _ _ _ _ (begun selection_set_symbol) c.in_err-start.ensures c.from_residual.ensures.1

pub selections_in_braces-returns-in_err-selection : goal.selections_in_braces-returns-in_err-selection
selections_in_braces-returns-in_err-selection g t c =
    let opened = past (begun selection_set_symbol) (took c.in_ok-start.ensures.1 refl) in
    fails _ _ _ _ opened (Stops-before reading _ _ _ _ _ c.in_err-selection.ensures) c.from_residual-in_err-selection.ensures.1

pub selections_in_braces-more-init : goal.selections_in_braces-more-init
selections_in_braces-more-init g t c =
    record { pushes = pushes_none reading _ selection_at (selection_view g.S.Names.Names.bytes) _ _; within = omega arith }

pub selections_in_braces-more-preserved : goal.selections_in_braces-more-preserved
selections_in_braces-more-preserved g t c =
    let now = g.S.TokenSource.items c.more.source in
    record {
      pushes = turn_appends reading _ selection_at (selection_view g.S.Names.Names.bytes) _ now _ _ _ _ c.more.invariant.pushes
          (begins_selection (peek now.tokens) ∙ sym c.sees_selection.ensures ∙ c.more-test.true) c.in_ok-selection-2.ensures;
      within = omega (arith, c.more.invariant.within, no_more c.in_ok-selection-2.ensures);
    }

pub selections_in_braces-more-smaller : goal.selections_in_braces-more-smaller
selections_in_braces-more-smaller g t c = fewer readable.ll1 some_selection c.in_ok-selection-2.ensures

pub selections_in_braces-selection-requires-in-more : goal.selections_in_braces-selection-requires-in-more
selections_in_braces-selection-requires-in-more g t c =
    λ κs x. (omega (arith, c.more.invariant.within, no_more c.in_ok-selection.ensures, ap length c.in_ok-start.ensures.1.tokens), search rules)

pub selections_in_braces-returns-in_err-selection-2 : goal.selections_in_braces-returns-in_err-selection-2
selections_in_braces-returns-in_err-selection-2 g t c =
    let opened = past (begun selection_set_symbol) (took c.in_ok-start.ensures.1 refl) in
    let seen = begins_selection (peek (g.S.TokenSource.items c.more.source).tokens) ∙ sym c.sees_selection.ensures ∙ c.more-test.true in
    let turn = turn_fails _ _ c.more.invariant.pushes seen c.in_err-selection-2.ensures in
    fails _ _ _ _ opened (Stops-after reading _ _ _ _ _ _ _ c.in_ok-selection.ensures.1 turn) c.from_residual-in_err-selection-2.ensures.1

pub selections_in_braces-returns-in_err-end : goal.selections_in_braces-returns-in_err-end
selections_in_braces-returns-in_err-end g t c =
    let opened = past (begun selection_set_symbol) (took c.in_ok-start.ensures.1 refl) in
    let p = c.more.invariant.pushes in
    let unseen = begins_selection (peek (g.S.TokenSource.items c.more.source).tokens) ∙ sym c.sees_selection.ensures ∙ c.more-test.false in
    lacks_last _ _ _ _ _ (past opened (taken_both c.in_ok-selection.ensures.1 (pushed p unseen).1)) c.in_err-end.ensures c.from_residual-in_err-end.ensures.1

pub selections_in_braces-returns : goal.selections_in_braces-returns
selections_in_braces-returns g t c =
    let view_one = selection_view g.S.Names.Names.bytes in
    let (o, opens, at) = c.in_ok-start.ensures in
    let (e, ends, until) = c.in_ok-end.ensures in
    let p = c.more.invariant.pushes in
    let (x, takes, view) = c.in_ok-selection.ensures in
    let unseen = begins_selection (peek (g.S.TokenSource.items c.more.source).tokens) ∙ sym c.sees_selection.ensures ∙ c.more-test.false in
    let r = pushed p unseen in
    let all : trees_of (selection_at x ∷ p.means) ≡ more (selection_at x) (selections_of (written changes r.0)) =
    ap (more (selection_at x)) (sym (selections_mean r.1.0 ∙ ap trees_of r.2)) in
    whole (past (past (begun selection_set_symbol) (took opens refl)) (taken_both takes r.1)) (took ends refl)
    (selection_at x ∷ p.means, adds_more view_one _ _ _ _ p.means view p.adds, rw (at, until, all) refl)

-- ---- selections in braces, alone

pub selection_set-returns-clause-reads : goal.selection_set-returns-clause-reads
selection_set-returns-clause-reads g t c =
    let (x, takes, added) = c.in_ok-span.ensures in
    let count : c.len-start.result ≡ length c.args.selections.now.items = omega (arith, c.len-start.ensures, c.args.selections.now.ok.0) in
    (x, takes, selection_set_taken g.S.Names.Names.bytes _ _ _ count _ _ _ c.in_ok-items.ensures.taken added)

pub selection_set-returns-clause-restored : goal.selection_set-returns-clause-restored
selection_set-returns-clause-restored g t c =
    let (x, takes, (xs, added, is)) = c.in_ok-span.ensures in
    let count : c.len-start.result ≡ length c.args.selections.now.items = omega (arith, c.len-start.ensures, c.args.selections.now.ok.0) in
    stays (selection_view g.S.Names.Names.bytes) _ _ xs added _ count _ c.in_ok-items.ensures.left
