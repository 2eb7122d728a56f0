use Rattle.std.proofs.Common.{ap, ◌∙◌}
use Rattle.graphql_core.specs.declared.tokenizer.element.ElementKind.TheVariants as element
use Rattle.graphql_fmt.proofs.Elements.{nothing_left, whole_block}
use Rattle.graphql_fmt.proofs.pieces.raw.is_block_string.Goals as goal

pub returns-in-Token-BlockString : goal.returns-in-Token-BlockString
returns-in-Token-BlockString c is =
    let token = c.in-Token-BlockString in
    let block = rw token.is at token.field-0-is in
    whole_block c.args.text.now _ _ _ c.in-Some.ensures.first (token.is ∙ ap element.Token block) (nothing_left _ _ c.is_empty.ensures is)
