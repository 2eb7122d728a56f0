use Rattle.std.proofs.Common.{arith, refl}
use Rattle.std.proofs.lemmas.List.{at_drop_all}
use Rattle.graphql_core.specs.{arguments_view}
use Rattle.graphql_walk.specs.{arguments_branches}
use Rattle.graphql_walk.proofs.{returned, first_left, one_more, one_halted, none_left}
use Rattle.graphql_walk.proofs.values.walk_arguments.Goals as goal

pub arguments-preserved : goal.arguments-preserved
arguments-preserved g c =
    let l = c.arguments in
    let e = first_left (λ xs. arguments_branches (arguments_view g.N.Names.bytes xs)) c.args.arguments.now l.argument-index c.argument-item.result _ (omega arith) c.argument-item.is refl in
    one_more g.V.Visitor.visited _ _ _ _ _ _ e l.invariant _ c.in_ok-walk_pair.ensures

pub returns-in_err-walk_pair : goal.returns-in_err-walk_pair
returns-in_err-walk_pair g c =
    let l = c.arguments in
    let e = first_left (λ xs. arguments_branches (arguments_view g.N.Names.bytes xs)) c.args.arguments.now l.argument-index c.argument-item.result _ (omega arith) c.argument-item.is refl in
    rw (returned _ _ c.from_residual.ensures.1) (one_halted g.V.Visitor.visited _ _ _ _ _ _ e l.invariant _ _ c.in_err-walk_pair.ensures)

pub returns : goal.returns
returns g c =
    let l = c.arguments in
    none_left g.V.Visitor.visited _ _ _ _ (at_drop_all (λ xs. arguments_branches (arguments_view g.N.Names.bytes xs)) c.args.arguments.now l.argument-index (omega arith)) l.invariant
