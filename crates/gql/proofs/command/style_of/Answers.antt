use Rattle.std.proofs.Common.{rules, ◌≡◌, ◌∙◌, ◌∷◌, None, map, string_bytes, sym, ap}
use Rattle.std.proofs.lemmas.List.{nil_from_length}
use Rattle.gql.specs.{is_indent, is_multiline, number_of}
use Rattle.gql.proofs.{left_after_multiline, left_after_indent, all_left}
use Rattle.gql.proofs.command.style_of.Goals as goal

pub options-preserved-then-not-multiline : goal.options-preserved-then-not-multiline
options-preserved-then-not-multiline c =
    left_after_multiline (ap (map string_bytes) c.in-Some.ensures.cases.0)
    (sym (c.is_multiline.ensures ∙ ap is_multiline c.as_str.ensures.value) ∙ c.if-is_multiline.true) c.if-not-multiline.true c.options.invariant

pub options-preserved : goal.options-preserved
options-preserved c =
    let others = c.in-Some.ensures.cases.0 ∙ ap (λ os. c.in-Some.option.now ∷ os) c.in_ok-number.ensures.cases.0 in
    let none : c.options.indent ≡ None = search rules in
    let spaces = sym (c.is_indent.ensures ∙ ap is_indent c.as_str-else-is_multiline.ensures.value) ∙ c.if-is_indent.true in
    left_after_indent (ap (map string_bytes) others) spaces none
    (sym (c.number_of.ensures ∙ ap number_of c.as_str-then-is_none.ensures.value) ∙ c.in_ok-number_of.was) c.options.invariant

pub returns : goal.returns
returns c = all_left (ap (map string_bytes) (nil_from_length _ c.in_default.ensures.cases)) c.style_said.ensures c.options.invariant
