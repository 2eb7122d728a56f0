use Rattle.std.proofs.Common.{◌≡◌, ◌++◌, ℕ, sym, ap, ◌∙◌, arith}
use Rattle.std.specs.Char.{encode_utf8}
use Rattle.graphql_core.specs.{escaped_quote, escaped_backslash, escaped_slash, escaped_backspace, escaped_form_feed}
use Rattle.graphql_core.specs.{escaped_line_feed, escaped_carriage_return, escaped_tab}
use Rattle.graphql_core.proofs.{letter_escape, no_escape_other, named_result, unnamed_result}
use Rattle.graphql_core.proofs.common.strings.quoted.escape.Goals.{in-34, in-92, in-47, in-b, in-f, in-n, in-r, in-t}
use Rattle.graphql_core.proofs.common.strings.quoted.escape.Goals as goal

pub returns-in-u-clause-escapes : goal.returns-in-u-clause-escapes
returns-in-u-clause-escapes c =
    let text : c.args.text.now ≡ encode_utf8 117 ++ c.as_str.result.now = sym c.chars-characters.ensures.rest ∙ c.in_ok-next.ensures.steps.0
    ∙ ap (λ k. encode_utf8 k ++ c.next.new.self.rest.now) c.in-u.is ∙ ap (λ k. encode_utf8 117 ++ k) (sym c.as_str.ensures) in
    named_result c.args.text.now c.as_str.result.now c.named_character.result text c.named_character.ensures.names

pub returns-in-u-clause-none : goal.returns-in-u-clause-none
returns-in-u-clause-none c =
    let text : c.args.text.now ≡ encode_utf8 117 ++ c.as_str.result.now = sym c.chars-characters.ensures.rest ∙ c.in_ok-next.ensures.steps.0
    ∙ ap (λ k. encode_utf8 k ++ c.next.new.self.rest.now) c.in-u.is ∙ ap (λ k. encode_utf8 117 ++ k) (sym c.as_str.ensures) in
    unnamed_result c.args.text.now c.as_str.result.now c.named_character.result text c.named_character.ensures.none

pub returns-in_default-clause-none : goal.returns-in_default-clause-none
returns-in_default-clause-none c =
    let text = sym c.chars-characters.ensures.rest ∙ c.in_ok-next.ensures.steps.0 in
    no_escape_other c.args.text.now c.next.new.self.rest.now c.in_ok-next.field-0 text (λ h. omega arith) (λ h. omega arith) (λ h. omega arith)
    (λ h. omega arith) (λ h. omega arith) (λ h. omega arith) (λ h. omega arith) (λ h. omega arith) (λ h. omega arith)

pub returns-clause-escapes : goal.returns-clause-escapes
returns-clause-escapes c =
    let text = sym c.chars-characters.ensures.rest ∙ c.in_ok-next.ensures.steps.0 in
    let letter = λ (k : ℕ) (h : c.in_ok-next.field-0 ≡ k). text ∙ ap (λ b. encode_utf8 b ++ c.next.new.self.rest.now) h
    ∙ ap (λ r. encode_utf8 k ++ r) (sym c.as_str-2.ensures) in
    elim c.match-branch-2.branch [
      | in-34 w ↦ rw w.character-is (letter_escape _ _ 34 34 (omega arith) (omega arith) escaped_quote (letter 34 w.in-34.is))
      | in-92 w ↦ rw w.character-is (letter_escape _ _ 92 92 (omega arith) (omega arith) escaped_backslash (letter 92 w.in-92.is))
      | in-47 w ↦ rw w.character-is (letter_escape _ _ 47 47 (omega arith) (omega arith) escaped_slash (letter 47 w.in-47.is))
      | in-b w ↦ rw w.character-is (letter_escape _ _ 98 8 (omega arith) (omega arith) escaped_backspace (letter 98 w.in-b.is))
      | in-f w ↦ rw w.character-is (letter_escape _ _ 102 12 (omega arith) (omega arith) escaped_form_feed (letter 102 w.in-f.is))
      | in-n w ↦ rw w.character-is (letter_escape _ _ 110 10 (omega arith) (omega arith) escaped_line_feed (letter 110 w.in-n.is))
      | in-r w ↦ rw w.character-is (letter_escape _ _ 114 13 (omega arith) (omega arith) escaped_carriage_return (letter 114 w.in-r.is))
      | in-t w ↦ rw w.character-is (letter_escape _ _ 116 9 (omega arith) (omega arith) escaped_tab (letter 116 w.in-t.is))
    ]
