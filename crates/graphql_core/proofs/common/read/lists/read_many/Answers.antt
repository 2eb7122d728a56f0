use Rattle.std.proofs.Common.{sym, ap, ◌∙◌, ◌++◌, map}
use Rattle.graphql_core.proofs.{pushed, pushes_none, turn_appends, turn_fails, here, fails_last}
use Rattle.graphql_core.proofs.common.read.lists.read_many.Goals as goal

pub more-init : goal.more-init
more-init g c = let e = g.E.Elements in record { pushes = pushes_none e.grammar _ e.means e.view _ _ }

pub more-preserved : goal.more-preserved
more-preserved g c =
    let e = g.E.Elements in
    let now = g.S.TokenSource.items c.more.source in
    record {
      pushes = turn_appends e.grammar _ e.means e.view _ now _ _ _ _ c.more.invariant.pushes (sym c.comes_next.ensures ∙ c.more-test.true)
          c.in_ok-read.ensures.reads;
    }

pub returns-in_err-read : goal.returns-in_err-read
returns-in_err-read g c =
    let turn = turn_fails _ _ c.more.invariant.pushes (sym c.comes_next.ensures ∙ c.more-test.true) c.in_err-read.ensures.reads in
    fails_last _ _ _ _ here turn c.from_residual.ensures.1

pub returns : goal.returns
returns g c =
    let p = c.more.invariant.pushes in
    let (x, takes, are) = pushed p (sym c.comes_next.ensures ∙ c.more-test.false) in
    (x, takes, p.adds ∙ ap (λ l. map g.E.Elements.view c.args.items.now.items ++ l) (sym are))
