use Rattle.std.proofs.Common.{◌≡◌, ◌<◌, ℕ, zero, suc, true, refl, arith}
use Rattle.graphql_core.specs.{Sym, has_samples, shared, tables, shared_symbols, unquoted}
use Rattle.graphql_core.proofs.grammar.Exact as theory
use Rattle.graphql_core.proofs.common.read.laws.shared_is_readable.Goals as goal

pub returns-clause-tables : goal.returns-clause-tables
unfolding tables
returns-clause-tables c = refl

pub returns-clause-productive : goal.returns-clause-productive
unfolding tables unquoted
returns-clause-productive c = refl

samples_of : (k : ℕ) → k < shared_symbols → has_samples shared (Sym k) ≡ true
unfolding tables unquoted
samples_of zero h = refl
samples_of (suc zero) h = refl
samples_of (suc (suc zero)) h = refl
samples_of (suc (suc (suc zero))) h = refl
samples_of (suc (suc (suc (suc zero)))) h = refl
samples_of (suc (suc (suc (suc (suc zero))))) h = refl
samples_of (suc (suc (suc (suc (suc (suc zero)))))) h = refl
samples_of (suc (suc (suc (suc (suc (suc (suc zero))))))) h = refl
samples_of (suc (suc (suc (suc (suc (suc (suc (suc zero)))))))) h = refl
samples_of (suc (suc (suc (suc (suc (suc (suc (suc (suc zero))))))))) h = refl
samples_of (suc (suc (suc (suc (suc (suc (suc (suc (suc (suc zero)))))))))) h = refl
samples_of (suc (suc (suc (suc (suc (suc (suc (suc (suc (suc (suc k))))))))))) h = absurd (omega (arith, h))

pub returns-clause-exact : goal.returns-clause-exact
returns-clause-exact c k h = theory.grammar_exact shared (returns-clause-tables c) (returns-clause-productive c) (Sym k) refl (samples_of k h)
