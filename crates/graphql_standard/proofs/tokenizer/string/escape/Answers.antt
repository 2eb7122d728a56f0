use Rattle.std.specs.Char.{encode_utf8}
use Rattle.std.specs.Option.{IfSome, IfNone}
use Rattle.std.proofs.Common.{◌≡◌, ◌++◌, ◌∷◌, [], List, ℕ, ◌<◌, sym, ap, subst, ◌∙◌, arith}
use Rattle.graphql_core.specs.strings.Strings.{Denotes, escaped_quote, escaped_backslash, escaped_slash, escaped_backspace, escaped_form_feed}
use Rattle.graphql_core.specs.strings.Strings.{escaped_line_feed, escaped_carriage_return, escaped_tab}
use Rattle.graphql_core.proofs.strings.Escapes.{letter_escape}
use Rattle.graphql_standard.specs.steps.Escapes.{BeginsEscape, BeginsNoEscape}
use Rattle.graphql_standard.proofs.lexical.Escapes.{no_escape_other, plain_begins, u_front}
use Rattle.graphql_standard.proofs.tokenizer.string.escape.Goals.{in-34, in-92, in-47, in-b, in-f, in-n, in-r, in-t}
use Rattle.graphql_standard.proofs.tokenizer.string.escape.Goals as goal

pub returns-in-u-clause-escapes : goal.returns-in-u-clause-escapes
returns-in-u-clause-escapes c =
    let text : c.args.text.now ≡ encode_utf8 117 ++ c.as_str.result.now = sym c.chars-characters.ensures.rest ∙ c.in_ok-next.ensures.steps.0
    ∙ ap (λ k. encode_utf8 k ++ c.next.new.self.rest.now) c.in-u.is ∙ ap (λ k. encode_utf8 117 ++ k) (sym c.as_str.ensures) in
    subst (λ (t : List ℕ). IfSome c.unicode_escape.result (λ r. BeginsEscape t r.0 r.1.now)) (sym (u_front c.args.text.now c.as_str.result.now text))
    c.unicode_escape.ensures.escapes

pub returns-in-u-clause-none : goal.returns-in-u-clause-none
returns-in-u-clause-none c =
    let text : c.args.text.now ≡ encode_utf8 117 ++ c.as_str.result.now = sym c.chars-characters.ensures.rest ∙ c.in_ok-next.ensures.steps.0
    ∙ ap (λ k. encode_utf8 k ++ c.next.new.self.rest.now) c.in-u.is ∙ ap (λ k. encode_utf8 117 ++ k) (sym c.as_str.ensures) in
    subst (λ (t : List ℕ). IfNone c.unicode_escape.result (BeginsNoEscape t)) (sym (u_front c.args.text.now c.as_str.result.now text))
    c.unicode_escape.ensures.none

pub returns-in_default-clause-none : goal.returns-in_default-clause-none
returns-in_default-clause-none c =
    let text = sym c.chars-characters.ensures.rest ∙ c.in_ok-next.ensures.steps.0 in
    no_escape_other c.args.text.now c.next.new.self.rest.now c.in_ok-next.field-0 text (λ h. omega arith) (λ h. omega arith) (λ h. omega arith)
    (λ h. omega arith) (λ h. omega arith) (λ h. omega arith) (λ h. omega arith) (λ h. omega arith) (λ h. omega arith)

pub returns-clause-escapes : goal.returns-clause-escapes
returns-clause-escapes c =
    let text = sym c.chars-characters.ensures.rest ∙ c.in_ok-next.ensures.steps.0 in
    let rest = c.as_str-2.result.now in
    let letter = λ (k v : ℕ) (small : k < 128) (low : v < 128) (s : Denotes (92 ∷ k ∷ []) (v ∷ [])) (h : c.in_ok-next.field-0 ≡ k).
    plain_begins c.args.text.now rest v (letter_escape c.args.text.now rest k v small low s
    (text ∙ ap (λ b. encode_utf8 b ++ c.next.new.self.rest.now) h ∙ ap (λ r. encode_utf8 k ++ r) (sym c.as_str-2.ensures))) in
    elim c.match-branch-2.branch [
      | in-34 w ↦ rw w.character-is (letter 34 34 (omega arith) (omega arith) escaped_quote w.in-34.is)
      | in-92 w ↦ rw w.character-is (letter 92 92 (omega arith) (omega arith) escaped_backslash w.in-92.is)
      | in-47 w ↦ rw w.character-is (letter 47 47 (omega arith) (omega arith) escaped_slash w.in-47.is)
      | in-b w ↦ rw w.character-is (letter 98 8 (omega arith) (omega arith) escaped_backspace w.in-b.is)
      | in-f w ↦ rw w.character-is (letter 102 12 (omega arith) (omega arith) escaped_form_feed w.in-f.is)
      | in-n w ↦ rw w.character-is (letter 110 10 (omega arith) (omega arith) escaped_line_feed w.in-n.is)
      | in-r w ↦ rw w.character-is (letter 114 13 (omega arith) (omega arith) escaped_carriage_return w.in-r.is)
      | in-t w ↦ rw w.character-is (letter 116 9 (omega arith) (omega arith) escaped_tab w.in-t.is)
    ]
