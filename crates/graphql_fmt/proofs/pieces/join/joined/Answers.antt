use Rattle.std.proofs.Common.{subst, arith}
use Rattle.std.proofs.lemmas.List.{drop_all, drop_more}
use Rattle.graphql_fmt.specs.steps.Pieces.{ArePieces}
use Rattle.graphql_fmt.proofs.Joining.{joins_first, joins_on, joins_end, none_joined}
use Rattle.graphql_fmt.proofs.pieces.join.joined.Goals as goal

pub returns-in_default : goal.returns-in_default
returns-in_default c = none_joined _ _ c.in_default.ensures.cases c.new-out.ensures.bytes

pub pieces-init : goal.pieces-init
pieces-init c =
    let parts = c.in-Some.ensures.cases.0 in
    let (s, e, written) = c.in_ok-push_spelling.ensures in
    record {
      joins = joins_first _ c.in-Some.first.now _ _ _ s parts c.new-out.ensures.bytes e written;
      left = (subst ArePieces parts c.requires).1;
    }

pub pieces-preserved : goal.pieces-preserved
pieces-preserved c =
    let l = c.pieces in
    let others = c.in-Some.others.now in
    let (s, e, written) = c.in_ok-push_spelling-2.ensures in
    record {
      joins = joins_on _ _ _ _ s c.apart-gap.result _ others l.piece-index _ (omega arith) l.invariant.joins c.apart-gap.ensures
          c.in_ok-push_gap.ensures e written;
      left = (subst ArePieces (drop_more others l.piece-index c.in-Some.first.now (omega arith)) l.invariant.left).1;
    }

pub returns : goal.returns
returns c =
    let others = c.in-Some.others.now in
    joins_end _ _ _ _ _ c.pieces.invariant.joins (drop_all c.pieces.piece-index others c.pieces-test.false) c.in_ok-push_str.ensures.bytes
