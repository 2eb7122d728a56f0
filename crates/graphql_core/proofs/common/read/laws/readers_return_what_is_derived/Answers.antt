use Rattle.std.proofs.Common.{◌≡◌, true, refl}
use Rattle.graphql_core.specs.{reason_of, shared, tables, shared_symbols, unquoted, is_tight, is_productive, RejectsTokens}
use Rattle.graphql_core.proofs.{sampled_below, shared_ll1, symbol_derived}
use Rattle.graphql_core.proofs.common.read.laws.readers_return_what_is_derived.Goals as goal

tight : is_tight shared.rows ≡ true
unfolding tables
tight = refl

productive : is_productive shared ≡ true
unfolding tables unquoted
productive = refl

-- no node is rejected
rejects_tokens : RejectsTokens shared
rejects_tokens k x fits rejected empty = absurd cc

-- each symbol has a sample
sampled : sampled_below shared shared_symbols ≡ true
unfolding tables unquoted
sampled = refl

pub returns : goal.returns
returns g c k old new view means r below gives =
    symbol_derived shared shared_ll1 tight productive rejects_tokens shared_symbols sampled k below old new reason_of (λ v x. view v ≡ means x) r gives
