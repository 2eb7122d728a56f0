use Rattle.std.proofs.Common.{inl}
use Rattle.std.proofs.lemmas.Option.{MatchOption-at_some, MatchOption-at_none}
use Rattle.gqlfmt.proofs.Accepting.{accepted, rejected, all_fit, at_some}
use Rattle.gqlfmt.proofs.action.decide.Goals as goal

pub returns-in-Some : goal.returns-in-Some
returns-in-Some c =
    let (short, none, keeps) = MatchOption-at_some _ _ c.in-Some.formatted c.in-Some.is c.in_ok-formatted.ensures.kept in
    let tidy = at_some _ _ c.in-Some.formatted c.in-Some.is c.in_ok-formatted.ensures.tidy in
    all_fit c.action_for.result _ _ _ c.action_for.ensures (short, inl none) (keeps, tidy)

pub returns-in-Ok : goal.returns-in-Ok
returns-in-Ok c =
    let taken = accepted c.args.source.now c.in-Ok.formatted c.in-Ok.ensures.accepts in
    all_fit c.action_for-in-Ok.result _ _ _ c.action_for-in-Ok.ensures taken (c.in-Ok.ensures.kept, c.in-Ok.ensures.tidy)

pub returns-in_ok-message-in-Err : goal.returns-in_ok-message-in-Err
returns-in_ok-message-in-Err c =
    let some = MatchOption-at_none _ _ c.in_default.is c.in_ok-formatted.ensures.kept in
    rejected c.args.source.now c.in-Err.error c.in_ok-message-in-Err.ensures some c.in-Err.ensures.accepts
