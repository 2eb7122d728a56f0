use Rattle.std.proofs.Common.{string_bytes}
use Rattle.std.proofs.lemmas.Result.{MatchResult-from_both}
use Rattle.graphql_parser.proofs.Mapped.{mapped}
use Rattle.gql.proofs.{with_bound}
use Rattle.graphql_core.proofs.{not_long}
use Rattle.gql.specs.{EndsEngine}
use Rattle.gql.specs.declared.command.Command.TheVariants.{Minify}
use Rattle.gql.specs.declared.error.RunError.TheVariants as error
use Rattle.gql.proofs.engine.minified.Goals as goal

pub returns : goal.returns
returns c =
    mapped _ _ error.Minify _ (EndsEngine Minify c.args.style.now (string_bytes c.args.text)) c.map_err.ensures.cases
    (MatchResult-from_both c.minify_query.result _ _
    (with_bound _ _ c.minify_query.result (not_long _ c.minify_query.result c.minify_query.ensures.too_long) c.minify_query.ensures.minified)
    c.minify_query.ensures.first_error)
