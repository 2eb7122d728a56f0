use Rattle.std.proofs.Common.{◌∙◌, ap, sym}
use Rattle.graphql_core.specs.{without_flat}
use Rattle.graphql_core.proofs.lexical.Elements.{begins_none, ignored_element, token_element}
use Rattle.graphql_core.proofs.tokenizer.element.first_element.Goals as goal

pub returns-in-Some-clause-first : goal.returns-in-Some-clause-first
returns-in-Some-clause-first c =
    ignored_element _ _ _ _ _ c.split_at.ensures.front c.split_at.ensures.back (sym c.ignored_of.ensures.is ∙ c.in-Some.is) c.ignored_kind-kind.ensures

pub returns-in_err-taken-clause-first : goal.returns-in_err-taken-clause-first
returns-in_err-taken-clause-first c =
    rw c.from_residual.ensures (begins_none _ (sym c.ignored_of.ensures.is ∙ c.in_default.is) (sym c.token_at.ensures.is ∙ ap without_flat c.in_err-taken.was))

pub returns-clause-first : goal.returns-clause-first
returns-clause-first c =
    token_element _ _ _ _ c.split_at-2.ensures.front c.split_at-2.ensures.back (sym c.token_at.ensures.is ∙ ap without_flat c.in_ok-taken.was)
