use Rattle.std.proofs.Common.{sym, ◌∙◌}
use Rattle.graphql_core.proofs.{float_is, float_found, float_is_literal, literal_is_float, literal_ends_in_digit}
use Rattle.std.proofs.lemmas.Bool.{false≢true}
use Rattle.graphql_core.proofs.common.number.is_float_literal.Goals as goal

pub returns-then-is_float : goal.returns-then-is_float
returns-then-is_float c =
    let float = float_is c.args.bytes.now (sym c.is_float.ensures ∙ c.if-is_float.true) in (
      λ digit. float_is_literal float (sym c.ends_in_digit.ensures ∙ digit),
      λ literal. c.ends_in_digit.ensures ∙ literal_ends_in_digit c.args.bytes.now literal,
    )

pub returns-else-is_float : goal.returns-else-is_float
returns-else-is_float c = (
  λ h. absurd (false≢true (sym c.if-is_float.false ∙ h)),
  λ literal. c.is_float.ensures ∙ float_found (literal_is_float c.args.bytes.now literal),
)
