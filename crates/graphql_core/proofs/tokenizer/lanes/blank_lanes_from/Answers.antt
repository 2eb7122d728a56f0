use Rattle.std.proofs.Common.{ℕ, bit_and, refl, arith}
use Rattle.std.proofs.lemmas.Simd.{zip2_of_maps, zip2_splat}
use Rattle.graphql_core.specs.{is_space_or_comma}
use Rattle.graphql_core.proofs.{lanes_run_from}
use Rattle.graphql_core.proofs.tokenizer.lanes.blank_lanes_from.Goals as goal

pub returns : goal.returns
returns c =
    lanes_run_from is_space_or_comma c.args.bytes.now 16 c.args.start _ _ (omega arith) (omega arith) (omega arith)
    c.type_inv.bytes c.first_set_from.ensures _
    (λ long. zip2_of_maps bit_and _ _ _ (zip2_splat {Y = ℕ} _ _ 16 32 long) (zip2_splat {Y = ℕ} _ _ 16 44 long)) refl
