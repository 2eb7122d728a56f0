use Rattle.std.proofs.Common.{ℕ, leb, cond, bit_and, refl, arith}
use Rattle.std.proofs.lemmas.Simd.{zip2_of_maps, zip2_splat, splat_is_map}
use Rattle.graphql_core.specs.{is_name_continue}
use Rattle.graphql_core.proofs.{lanes_run}
use Rattle.graphql_core.proofs.tokenizer.lanes.name_lanes.Goals as goal

pub returns : goal.returns
returns c =
    lanes_run is_name_continue c.args.bytes.now 16 _ _ c.requires (omega arith) c.type_inv.bytes c.first_set.ensures _
    (λ long. zip2_of_maps bit_and _ _ _
    (zip2_of_maps bit_and _ _ _
    (zip2_of_maps (λ a b. cond (leb a b) 255 0) _ _ _ (splat_is_map _ 16 26 long)
    (zip2_of_maps _ _ _ _ (zip2_splat {Y = ℕ} _ _ 16 32 long) (splat_is_map _ 16 97 long)))
    (zip2_of_maps (λ a b. cond (leb a b) 255 0) _ _ _ (splat_is_map _ 16 10 long) (zip2_splat {Y = ℕ} _ _ 16 48 long)))
    (zip2_splat {Y = ℕ} _ _ 16 95 long)) refl
