use Rattle.gql.specs.declared.command.Command.TheVariants.{Query}
use Rattle.gql.proofs.{formatted}
use Rattle.graphql_core.proofs.{none_parsed}
use Rattle.gql.proofs.engine.format_query.Goals as goal

pub returns-in-Ok : goal.returns-in-Ok
returns-in-Ok c =
    formatted Query _ _ _ _ _ (λ some. some) (λ wide. wide) c.in-Ok.ensures.parses c.format.ensures.text
    c.format.ensures.too_wide c.map_err-output.ensures.cases

pub returns-in-Err : goal.returns-in-Err
returns-in-Err c = none_parsed c.in-Err.ensures.parses
