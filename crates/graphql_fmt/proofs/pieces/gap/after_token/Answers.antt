use Rattle.std.proofs.Common.{sym, ◌∙◌}
use Rattle.graphql_core.specs.{start}
use Rattle.graphql_fmt.proofs.pieces.gap.after_token.Goals as goal

pub returns-in_default : goal.returns-in_default
returns-in_default c =
    let none = sym (c.is_spaced.ensures start.position) ∙ c.if-is_spaced.false in
    rw (c.in-Nothing-Token.is-0, c.in-Nothing-Token.is-1) none
