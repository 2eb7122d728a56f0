use Rattle.std.proofs.Common.{refl}
use Rattle.std.proofs.Output.{has_written_styled_append, has_written_styled_of_eq}
use Rattle.graphql_core.proofs.tokenizer.token.TokenDisplay.fmt.Goals as goal

-- src/tokenizer/token.rt:56:5
pub returns-clause-styled : goal.returns-clause-styled
returns-clause-styled g c flush ok =
    let value = c.in_ok-write_str.ensures.styled flush refl in
    let bracket = has_written_styled_append _ _ _ _ _ _ value (c.in_ok-write_str-2.ensures.styled value.flush refl) in
    let kind = has_written_styled_of_eq _ _ _ _ _ c.name.ensures (c.in_ok-write_str-3.ensures.styled bracket.flush refl) in
    let named = has_written_styled_append _ _ _ _ _ _ bracket kind in
    has_written_styled_append _ _ _ _ _ _ named (c.write_str-4.ensures.styled named.flush ok)
