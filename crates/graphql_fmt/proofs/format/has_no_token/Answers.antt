use Rattle.graphql_fmt.proofs.NoTokens.{some_token}
use Rattle.graphql_fmt.proofs.format.has_no_token.Goals as goal

pub returns-in_default : goal.returns-in_default
returns-in_default c =
    some_token c.args.source.now c.new.result c.next_token.new.self c.next_token.result c.new.ensures.items c.next_token.ensures (cc)

pub returns-in_default-2 : goal.returns-in_default-2
returns-in_default-2 c =
    some_token c.args.source.now c.new.result c.next_token.new.self c.next_token.result c.new.ensures.items c.next_token.ensures (cc)
