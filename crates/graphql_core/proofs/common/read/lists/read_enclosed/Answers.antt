use Rattle.std.proofs.Common.{sym, ap, ◌∙◌, [], ◌∷◌, ◌++◌, map}
use Rattle.graphql_core.proofs.{Stops-before, Stops-after, opened, list_begun, adds_more, took, past, taken_both, whole, fails, lacks, lacks_last}
use Rattle.graphql_core.proofs.common.read.lists.read_enclosed.Goals as goal

pub returns-in_err-expect_punctuator-clause-reads : goal.returns-in_err-expect_punctuator-clause-reads
returns-in_err-expect_punctuator-clause-reads g c k m s = lacks _ _ _ _ _ (list_begun s) c.in_err-expect_punctuator.ensures c.from_residual.ensures.1

pub returns-in_err-read-clause-reads : goal.returns-in_err-read-clause-reads
returns-in_err-read-clause-reads g c k m s =
    fails _ _ _ _ (opened s c.in_ok-expect_punctuator.ensures.1) (Stops-before g.E.Elements.grammar _ _ _ _ _ c.in_err-read.ensures.reads)
    c.from_residual-in_err-read.ensures.1

pub returns-in_err-read_many-clause-reads : goal.returns-in_err-read_many-clause-reads
returns-in_err-read_many-clause-reads g c k m s =
    fails _ _ _ _ (opened s c.in_ok-expect_punctuator.ensures.1)
    (Stops-after g.E.Elements.grammar _ _ _ _ _ _ _ c.in_ok-read.ensures.reads.1 c.in_err-read_many.ensures) c.from_residual-in_err-read_many.ensures.1

pub returns-in_err-expect_punctuator-2-clause-reads : goal.returns-in_err-expect_punctuator-2-clause-reads
returns-in_err-expect_punctuator-2-clause-reads g c k m s =
    let listed = past (opened s c.in_ok-expect_punctuator.ensures.1) (taken_both c.in_ok-read.ensures.reads.1 c.in_ok-read_many.ensures.1) in
    lacks_last _ _ _ _ _ listed c.in_err-expect_punctuator-2.ensures c.from_residual-in_err-expect_punctuator-2.ensures.1

pub returns-clause-reads : goal.returns-clause-reads
returns-clause-reads g c k m s =
    let e = g.E.Elements in
    let (x, takes, one) = c.in_ok-read.ensures.reads in
    let (xs, turns, more) = c.in_ok-read_many.ensures in
    let (u, closes, at) = c.in_ok-expect_punctuator-2.ensures in
    whole (past (opened s c.in_ok-expect_punctuator.ensures.1) (taken_both takes turns)) (took closes (s.closes u))
    (adds_more e.view _ _ _ (e.means x ∷ []) _ one more ∙ ap (λ l. map e.view c.args.items.now.items ++ l) (sym (s.means _ u x xs turns.0)))
