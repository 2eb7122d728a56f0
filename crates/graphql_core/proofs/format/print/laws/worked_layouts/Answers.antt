use Rattle.std.proofs.Common.{refl}
use Rattle.std.specs.Str.{chars}
use Rattle.graphql_core.proofs.format.print.laws.worked_layouts.Goals as goal

pub returns-clause-past_the_plane : goal.returns-clause-past_the_plane
unfolding chars
returns-clause-past_the_plane c = refl

pub returns-clause-inner_indent : goal.returns-clause-inner_indent
unfolding chars
returns-clause-inner_indent c = refl

pub returns-clause-four_quotes : goal.returns-clause-four_quotes
unfolding chars
returns-clause-four_quotes c = refl
