use Rattle.std.proofs.Common.{ℕ, bit_or, refl, arith}
use Rattle.std.proofs.lemmas.Simd.{zip2_of_maps, zip2_splat}
use Rattle.graphql_core.specs.{is_in_string}
use Rattle.graphql_core.proofs.{lanes_run}
use Rattle.graphql_core.proofs.tokenizer.lanes.in_string_lanes.Goals as goal

pub returns : goal.returns
returns c =
    lanes_run is_in_string c.args.bytes.now 16 _ _ c.requires (omega arith) c.type_inv.bytes c.first_set.ensures _
    (λ long. zip2_of_maps bit_or _ _ _
    (zip2_of_maps bit_or _ _ _ (zip2_splat {Y = ℕ} _ _ 16 34 long) (zip2_splat {Y = ℕ} _ _ 16 92 long))
    (zip2_splat {Y = ℕ} _ _ 16 10 long)) refl
