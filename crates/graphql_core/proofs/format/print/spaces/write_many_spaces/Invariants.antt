use Rattle.graphql_core.specs.{spaces}
use Rattle.graphql_core.proofs.format.print.spaces.write_many_spaces.Given as goal

abbrev pub invariant-spaces : goal.invariant-spaces
invariant-spaces g l = g.S.Sink.took l.initial.out (spaces l._index) l.out
