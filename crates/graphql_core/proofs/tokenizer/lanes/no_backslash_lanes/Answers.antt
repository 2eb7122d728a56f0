use Rattle.std.proofs.Common.{ℕ, refl, arith}
use Rattle.std.proofs.lemmas.Simd.{zip2_splat}
use Rattle.graphql_core.specs.{is_no_backslash}
use Rattle.graphql_core.proofs.{lanes_run}
use Rattle.graphql_core.proofs.tokenizer.lanes.no_backslash_lanes.Goals as goal

pub returns : goal.returns
returns c =
    lanes_run is_no_backslash c.args.bytes.now 16 _ _ c.requires (omega arith) c.type_inv.bytes c.first_set.ensures _
    (λ long. zip2_splat {Y = ℕ} _ _ 16 92 long) refl
