use Rattle.std.proofs.Common.{ℕ, ltb, cond, refl, arith}
use Rattle.graphql_core.specs.{continues_character}
use Rattle.graphql_core.proofs.{lanes_count}
use Rattle.std.proofs.lemmas.Simd.{zip2_of_maps, zip2_splat, splat_is_map}
use Rattle.graphql_core.proofs.tokenizer.lanes.continuing_lanes.Goals as goal

pub returns : goal.returns
returns c =
    lanes_count continues_character c.args.bytes.now 16 _ _ c.requires (omega arith) c.type_inv.bytes refl _
    (λ long. zip2_of_maps (λ a b. cond (ltb a b) 255 0) _ _ _ (zip2_splat {Y = ℕ} _ _ 16 128 long) (splat_is_map _ 16 64 long)) refl
