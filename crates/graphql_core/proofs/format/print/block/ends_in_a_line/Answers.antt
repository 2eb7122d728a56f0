use Rattle.std.proofs.Common.{◌∙◌, ◌-◌, ap, length}
use Rattle.std.specs.List.{slice_get}
use Rattle.graphql_core.proofs.{last_full}
use Rattle.graphql_core.proofs.format.print.block.ends_in_a_line.Goals as goal

pub returns-in-Some : goal.returns-in-Some
returns-in-Some c =
    let last = c.in-Some.ensures.value ∙ ap (λ l. slice_get l (length l - 1)) c.as_bytes.ensures.value in
    last_full c.args.text.now c.in-Some.byte.now last
