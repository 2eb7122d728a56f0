use Rattle.graphql_standard.proofs.Stacks.{comes}
use Rattle.graphql_standard.proofs.recognizer.can_come.Goals as goal

pub returns : goal.returns
returns c = comes c.args.stack.now c.args.terminal c.next_step.result c.is_some.result c.is_some.ensures c.next_step.ensures
