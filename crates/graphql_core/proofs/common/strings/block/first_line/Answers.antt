use Rattle.std.proofs.Common.{◌∷◌, ◌∙◌, ap, sym, refl, arith}
use Rattle.std.proofs.lemmas.Str.Pattern.{strip_suffix_char}
use Rattle.std.specs.Str.Lines.{lines}
use Rattle.graphql_core.proofs.{stripped, line_and_rest, line_alone}
use Rattle.graphql_core.proofs.common.strings.block.first_line.Goals as goal

pub returns-in-Some-clause-lines : goal.returns-in-Some-clause-lines
returns-in-Some-clause-lines c =
    let line = c.split_line.result.0.now in
    let rest = c.in-Some.rest.now in
    let h = rw c.in-Some.is at c.split_line.ensures.lines in
    let suffix = strip_suffix_char 13 line c.strip_suffix.result c.strip_suffix.ensures.cases (omega arith) in
    let same = ap (λ b. b.now) c.unwrap_or.ensures ∙ stripped line c.strip_suffix.result c.split_line.result.0 refl suffix in
    line_and_rest c.args.text.now line rest h ∙ ap (λ l. l ∷ lines rest) (sym same)

pub returns-in-None-clause-lines : goal.returns-in-None-clause-lines
returns-in-None-clause-lines c =
    line_alone c.args.text.now c.split_line.result.0.now c.requires (rw c.in-None.is at c.split_line.ensures.lines)
