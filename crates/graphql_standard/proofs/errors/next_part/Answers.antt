use Rattle.graphql_standard.proofs.AllErrors.{end_part}
use Rattle.graphql_standard.proofs.NextDefinitions.{found, reaches_end}
use Rattle.graphql_standard.proofs.errors.next_part.Goals as goal

pub before-requires : goal.before-requires
before-requires c =
    let next = found c.args.source.now c.args.part.now.text.now c.in-Some.place.offset _ _ c.in_ok-text.ensures c.in-Some-2.is in
    reaches_end _ _ next.found.reached

pub returns-in-Some-2-clause-part : goal.returns-in-Some-2-clause-part
returns-in-Some-2-clause-part c =
    let next = found c.args.source.now c.args.part.now.text.now c.in-Some.place.offset _ _ c.in_ok-text.ensures c.in-Some-2.is in
    record {
      short = c.requires.short;
      starts = end_part c.args.source.now c.args.part.now c.in-Some-2.text.now _ _ c.requires next.found.at.begins
          c.before-in-Some-2.ensures c.in_source-start.ensures;
    }
