use Rattle.std.proofs.Common.{IsTrue, rules}
use Rattle.std.proofs.lemmas.Option.{MatchOption-at_none}
use Rattle.graphql_fmt.proofs.Formatting.{parsed_kept}
use Rattle.graphql_fmt.proofs.format.parsed_pieces.Goals as goal

pub unreachable-requires : goal.unreachable-requires
unreachable-requires c =
    let yes : IsTrue c.in_ok-is_parsed.field-0 = search rules in
    let (short, doc) = c.in_ok-is_parsed.ensures.0 yes in
    let (ks, has) = parsed_kept c.args.source.now doc in
    MatchOption-at_none _ _ c.in-None.is c.in_ok-pieces.ensures.kept ks has
