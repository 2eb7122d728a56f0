use Rattle.std.proofs.Common.{sym, refl, ◌∙◌}
use Rattle.graphql_core.specs.{One, any}
use Rattle.graphql_core.specs.declared.tokenizer.token.Kind.TheVariants.{StringValue, BlockString}
use Rattle.graphql_core.proofs.{unseen_one, side_left, side_second, begun, into, gives_led, gives_lifted}
use Rattle.graphql_schema.specs.{schemas, description_symbol}
use Rattle.graphql_schema.proofs.{readable, read_alike, reading}
use Rattle.graphql_schema.proofs.read.description.description.Goals as goal

pub returns-then-sees_block_string : goal.returns-then-sees_block_string
returns-then-sees_block_string g c =
    let side = side_second reading (One (any StringValue)) (One (any BlockString)) (any BlockString) (g.S.TokenSource.items c.args.source.now).tokens refl refl
    (sym c.sees_block_string.ensures ∙ c.if-sees_block_string.true) in
    gives_led _ _ _ _ (into (begun description_symbol (λ x. refl)) side) (λ v x h is. is)
    (gives_lifted schemas readable (One (any BlockString)) (read_alike (One (any BlockString)) refl) refl _ _ _ _ c.block_string_value.ensures)

pub returns : goal.returns
returns g c =
    let ts = (g.S.TokenSource.items c.args.source.now).tokens in
    let side = side_left reading (One (any StringValue)) (One (any BlockString)) ts refl refl (unseen_one reading (any StringValue) ts)
    (sym c.sees_block_string.ensures ∙ c.if-sees_block_string.false) in
    gives_led _ _ _ _ (into (begun description_symbol (λ x. refl)) side) (λ v x h is. is)
    (gives_lifted schemas readable (One (any StringValue)) (read_alike (One (any StringValue)) refl) refl _ _ _ _ c.string_value.ensures)
