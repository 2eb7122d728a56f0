use Rattle.std.proofs.Common.{◌==◌, true, get_or, refl, arith, eqb-true}
use Rattle.graphql_core.specs.declared.tokenizer.class.TheConstants.{COLUMNS}
use Rattle.graphql_core.specs.{columns_of}
use Rattle.graphql_core.proofs.{agree_below, agree_at, columns_most}
use Rattle.graphql_core.proofs.tokenizer.class.columns_of.Goals as goal

pub returns-clause-is : goal.returns-clause-is
unfolding agree_below
returns-clause-is c = eqb-true _ _ (agree_at (λ k. get_or COLUMNS k 0 == columns_of k) (λ k. true) 256 refl c.args.byte (omega arith))

pub returns-clause-most : goal.returns-clause-most
unfolding agree_below
returns-clause-most c =
    rw (eqb-true _ _ (agree_at (λ k. get_or COLUMNS k 0 == columns_of k) (λ k. true) 256 refl c.args.byte (omega arith))) (columns_most c.args.byte)
