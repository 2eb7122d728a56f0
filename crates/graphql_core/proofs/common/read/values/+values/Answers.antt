use Rattle.std.proofs.Common.{refl, sym, ap, ap₂, ◌∙◌, [], ◌∷◌, ◌++◌, arith, codes}
use Rattle.graphql_core.specs.{object, put, list, Leaf, shared, punctuator_class, put_all, pair_symbol_of, tree_of}
use Rattle.graphql_core.specs.{pair_of, value_view, listed_values, members_view}
use Rattle.graphql_core.proofs.{Stops-turn, Turns-start, Turns-more, Turns-stop, variable_side, list_side, object_side, plain_side, pair_side, plain_means}
use Rattle.graphql_core.proofs.{list_means, object_means, pair_means, unseen_value, ends_list, begins_pair, put_more, trees_means, pairs_means, view_insert}
use Rattle.graphql_core.proofs.{stops_until, takes_seen, adds_one, fills, leads_in, here, took, past, whole, fails, fails_last, lacks, lacks_last, pushes_none}
use Rattle.graphql_core.proofs.{turn_appends, gives_led, list_made, no_more, object_made, pushed, fewer, shared_ll1, some_value, some_pair}
use Rattle.graphql_core.proofs.common.read.values.+values.Goals as goal

-- ---- value_by_constness

pub value_by_constness-returns-then-sees_variable : goal.value_by_constness-returns-then-sees_variable
value_by_constness-returns-then-sees_variable g t c =
    let (side, same) = variable_side c.args.constness (g.S.TokenSource.items c.args.source.now) (sym c.sees_variable.ensures ∙ c.if-sees_variable.true) in
    gives_led _ _ _ _ (leads_in side) (λ v x h is. is ∙ sym (same x)) c.variable.ensures

pub value_by_constness-returns-then-sees_punctuator : goal.value_by_constness-returns-then-sees_punctuator
value_by_constness-returns-then-sees_punctuator g t c =
    let side = list_side c.args.constness _ (sym c.sees_punctuator.ensures ∙ c.if-sees_punctuator.true) in
    gives_led _ _ _ _ (leads_in side) (λ v x h is. is) c.list.ensures

pub value_by_constness-returns-then-sees_punctuator-2 : goal.value_by_constness-returns-then-sees_punctuator-2
value_by_constness-returns-then-sees_punctuator-2 g t c =
    let side = object_side c.args.constness _ (sym c.sees_punctuator-2.ensures ∙ c.if-sees_punctuator-2.true) in
    gives_led _ _ _ _ (leads_in side) (λ v x h is. is) c.object.ensures

pub value_by_constness-returns : goal.value_by_constness-returns
value_by_constness-returns g t c =
    let old = g.S.TokenSource.items c.args.source.now in
    let side =
    plain_side c.args.constness old (sym c.sees_variable.ensures ∙ c.if-sees_variable.false) (sym c.sees_punctuator.ensures ∙ c.if-sees_punctuator.false)
    (sym c.sees_punctuator-2.ensures ∙ c.if-sees_punctuator-2.false) in
    gives_led _ _ _ _ (leads_in side) (λ v x h is. is ∙ sym (plain_means c.args.constness x)) c.plain_value.ensures

-- ---- list

pub list-returns-in_err-expect_punctuator : goal.list-returns-in_err-expect_punctuator
list-returns-in_err-expect_punctuator g t c = lacks _ _ _ _ _ here c.in_err-expect_punctuator.ensures c.from_residual.ensures.1

pub list-more-init : goal.list-more-init
list-more-init g t c =
    record { pushes = pushes_none shared _ (tree_of c.args.constness) (value_view g.S.Names.Names.bytes) _ _; within = omega arith }

pub list-more-preserved : goal.list-more-preserved
list-more-preserved g t c =
    let now = g.S.TokenSource.items c.more.source in
    let view = value_view g.S.Names.Names.bytes in
    let (x, taken, is) = c.in_ok-value_by_constness.ensures in
    record {
      pushes = turn_appends shared _ (tree_of c.args.constness) view _ now _ _ _ _ c.more.invariant.pushes
          (takes_seen shared _ _ _ x (unseen_value c.args.constness _) taken.0) (x, taken, adds_one view _ _ _ _ c.in_ok-push.ensures.items is);
      within = omega (arith, c.more.invariant.within, no_more c.in_ok-value_by_constness.ensures);
    }

pub list-more-smaller : goal.list-more-smaller
list-more-smaller g t c = fewer shared_ll1 (some_value c.args.constness) c.in_ok-value_by_constness.ensures

pub list-returns-in_err-value_by_constness : goal.list-returns-in_err-value_by_constness
list-returns-in_err-value_by_constness g t c =
    let p = c.more.invariant.pushes in
    fails_last _ _ _ _ (past here (took c.in_ok-expect_punctuator.ensures.1 refl))
    (stops_until shared _ (punctuator_class (codes "]")) (tree_of c.args.constness) _ _ _ p.means _ (unseen_value c.args.constness _) p.turns
    (sym c.sees_punctuator.ensures ∙ c.more-test.true) c.in_err-value_by_constness.ensures)
    c.from_residual-in_err-value_by_constness.ensures.1

pub list-returns : goal.list-returns
list-returns g t c =
    let s = c.args.constness in
    let bytes = g.S.Names.Names.bytes in
    let (o, opens, at) = c.in_ok-expect_punctuator.ensures in
    let (e, ends, until) = c.in_ok-expect_punctuator-2.ensures in
    let p = c.more.invariant.pushes in
    let r = pushed p (ends_list s _ (sym c.sees_punctuator.ensures ∙ c.more-test.false)) in
    whole (past (past here (took opens refl)) r.1) (took ends refl)
    (list_made _ _ bytes _
    ∙ ap list (ap listed_values (fills (value_view bytes) _ _ p.means c.new-items.ensures.items p.adds ∙ sym r.2) ∙ sym (trees_means s r.1.0))
    ∙ sym (list_means s (Leaf o) r.0 (Leaf e)))

-- ---- object

pub object-returns-in_err-expect_punctuator : goal.object-returns-in_err-expect_punctuator
object-returns-in_err-expect_punctuator g t c = lacks _ _ _ _ _ here c.in_err-expect_punctuator.ensures c.from_residual.ensures.1

pub object-more-init : goal.object-more-init
object-more-init g t c = record { turns = ([], Turns-start shared _ (pair_of c.args.constness) _, refl); within = omega arith }

pub object-more-preserved : goal.object-more-preserved
object-more-preserved g t c =
    let f = pair_of c.args.constness in
    let (pairs, turns, views) = c.more.invariant.turns in
    let (x, takes, view) = c.in_ok-member.ensures in
    record {
      turns = (
        pairs ++ f x ∷ [],
        Turns-more shared _ f _ _ _ pairs x turns (begins_pair c.args.constness _ ∙ sym c.sees_name.ensures ∙ c.more-test.true) takes,
        view ∙ ap (put (f x).0 (f x).1) views ∙ sym (put_more pairs (f x) _),
      );
      within = omega (arith, c.more.invariant.within, no_more c.in_ok-member.ensures);
    }

pub object-more-smaller : goal.object-more-smaller
object-more-smaller g t c = fewer shared_ll1 (some_pair c.args.constness) c.in_ok-member.ensures

pub object-returns-in_err-member : goal.object-returns-in_err-member
object-returns-in_err-member g t c =
    let (pairs, turns, views) = c.more.invariant.turns in
    fails _ _ _ _ (past here (took c.in_ok-expect_punctuator.ensures.1 refl))
    (Stops-turn shared _ (pair_of c.args.constness) _ _ _ pairs _ turns
    (begins_pair c.args.constness _ ∙ sym c.sees_name.ensures ∙ c.more-test.true) c.in_err-member.ensures)
    c.from_residual-in_err-member.ensures.1

pub object-returns-in_err-expect_punctuator-2 : goal.object-returns-in_err-expect_punctuator-2
object-returns-in_err-expect_punctuator-2 g t c =
    let (pairs, turns, views) = c.more.invariant.turns in
    let r =
    Turns-stop shared _ (pair_of c.args.constness) _ _ pairs turns (begins_pair c.args.constness _ ∙ sym c.sees_name.ensures ∙ c.more-test.false) in
    lacks_last _ _ _ _ _ (past (past here (took c.in_ok-expect_punctuator.ensures.1 refl)) r.1) c.in_err-expect_punctuator-2.ensures
    c.from_residual-in_err-expect_punctuator-2.ensures.1

pub object-returns : goal.object-returns
object-returns g t c =
    let s = c.args.constness in
    let bytes = g.S.Names.Names.bytes in
    let (o, opens, at) = c.in_ok-expect_punctuator.ensures in
    let (e, ends, until) = c.in_ok-expect_punctuator-2.ensures in
    let (pairs, turns, views) = c.more.invariant.turns in
    let r = Turns-stop shared _ (pair_of s) _ _ pairs turns (begins_pair s _ ∙ sym c.sees_name.ensures ∙ c.more-test.false) in
    let fields = views ∙ ap₂ put_all (sym (pairs_means s r.1.0 ∙ r.2)) (ap (members_view bytes) c.new-fields.ensures.empty) in
    whole (past (past here (took opens refl)) r.1) (took ends refl) (object_made _ _ bytes _ ∙ ap object fields ∙ sym (object_means s (Leaf o) r.0 (Leaf e)))

-- ---- member

pub member-returns-in_err-name : goal.member-returns-in_err-name
member-returns-in_err-name g t c = lacks _ _ _ _ _ (leads_in (pair_side c.args.constness _)) c.in_err-name.ensures c.from_residual.ensures.1

pub member-returns-in_err-expect_punctuator : goal.member-returns-in_err-expect_punctuator
member-returns-in_err-expect_punctuator g t c =
    let named = past (leads_in (pair_side c.args.constness _)) (took c.in_ok-name.ensures.1 refl) in
    lacks _ _ _ _ _ named c.in_err-expect_punctuator.ensures c.from_residual-in_err-expect_punctuator.ensures.1

pub member-returns-in_err-value : goal.member-returns-in_err-value
member-returns-in_err-value g t c =
    let named = past (leads_in (pair_side c.args.constness _)) (took c.in_ok-name.ensures.1 refl) in
    fails_last _ _ _ _ (past named (took c.in_ok-expect_punctuator.ensures.1 refl)) c.in_err-value.ensures c.from_residual-in_err-value.ensures.1

pub member-returns : goal.member-returns
member-returns g t c =
    let s = c.args.constness in
    let bytes = g.S.Names.Names.bytes in
    let (n, named, spelled) = c.in_ok-name.ensures in
    let (m, marks, until) = c.in_ok-expect_punctuator.ensures in
    let (x, takes, view) = c.in_ok-value.ensures in
    let inserted = ap (members_view bytes) c.in_ok-insert.ensures.entries ∙ view_insert bytes g.S.Names.Value.Ord.cmp g.met.S.Names.Names.cmp_by_bytes _ _ _ in
    let pair = ap₂ (λ a b. (a, b)) (sym spelled) view ∙ sym (pair_means s (pair_symbol_of s) (Leaf n) (Leaf m) x) in
    whole (past (past (leads_in (pair_side s _)) (took named refl)) (took marks refl)) takes
    (inserted ∙ ap (λ p. put p.0 p.1 (members_view bytes c.args.fields.now.entries)) pair)
