use Rattle.std.proofs.Common.{List, ℕ, ◌++◌, ap, sym, ◌∙◌}
use Rattle.graphql_standard.proofs.NextDefinitions.{starts_after}
use Rattle.graphql_standard.proofs.definitions.starts_line.Goals as goal

pub returns-then-not-is_blank : goal.returns-then-not-is_blank
returns-then-not-is_blank c =
    let (blanks, whole, all) = c.bytes.invariant in
    let parts = whole ∙ ap (λ (l : List ℕ). l ++ blanks) c.in-Some.ensures.cases.0 in
    let line = starts_after c.args.front.now c.in-Some.before.now blanks c.in-Some.last.now parts
    (sym c.is_blank.ensures ∙ c.if-not-is_blank.true) all in
    rw c.is_line_end.ensures line
