use Rattle.std.specs.List.{count_by}
use Rattle.std.proofs.Common.{ap, arith}
use Rattle.graphql_core.specs.{continues_character}
use Rattle.graphql_core.proofs.{continuing_bytes}
use Rattle.graphql_core.proofs.tokenizer.characters.character_count.Goals as goal

pub returns-clause-is : goal.returns-clause-is
returns-clause-is c =
    let same = ap (count_by continues_character) c.as_bytes.ensures.value in
    omega (arith, same, c.continuing_count.ensures, continuing_bytes c.args.text.now c.utf8.text)
