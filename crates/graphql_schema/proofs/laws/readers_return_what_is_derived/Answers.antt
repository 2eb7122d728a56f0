use Rattle.std.proofs.Common.{◌≡◌, true, length, refl}
use Rattle.graphql_core.specs.{reason_of, halt_reason, tables as shared_tables, unquoted, reading}
use Rattle.graphql_core.proofs.ByGrammar.{sampled_below, symbol_derived_for}
use Rattle.graphql_schema.specs.{schemas, rejections, factored_rows, tables}
use Rattle.graphql_schema.proofs.{readable}
use Rattle.graphql_schema.proofs.laws.readers_return_what_is_derived.Goals as goal

-- each symbol has a sample
sampled : sampled_below (reading schemas) (length factored_rows) ≡ true
unfolding tables shared_tables unquoted
sampled = refl

pub returns : goal.returns
returns g c = record {
  plain = λ k old new view means r below reads.
      symbol_derived_for schemas readable (length factored_rows) sampled k below old new reason_of (λ v x. view v ≡ means x) r reads;
  nodes = λ k old new view means r below reads.
      symbol_derived_for schemas readable (length factored_rows) sampled k below old new (halt_reason rejections) (λ v x. view v ≡ means x) r reads.gives;
}
