use Rattle.std.proofs.Common.{◌≡◌, ℕ, Bool, List, ◌∷◌, ◌++◌, Ok, refl, sym, ap, ◌∙◌, subst, append_assoc, arith}
use Rattle.graphql_core.specs.declared.tokenizer.token.Token.{Token as LexedToken}
use Rattle.graphql_core.specs.{NextLexeme, NextItemOrLexeme, Item, Token, IsEnd, split, token_of, IsLexicalErrorOf}
use Rattle.graphql_core.specs.{is_spaced, space_if, spaced, spaced_after, kind_number}
use Rattle.graphql_core.specs.declared.position.Pos.{Pos}
use Rattle.graphql_core.proofs.{next_of, spaced_alike, ends_alike, spaced_first}
use Rattle.graphql_core.proofs.helpers.minify.spaced.Goals.{in-Some, in-None+in-Ok-Some}
use Rattle.std.proofs.lemmas.Grind.{common_steps}
use Rattle.graphql_core.proofs.helpers.minify.spaced.Goals as goal

-- a token is written after a space or without one
written : (b : Bool) (before : ℕ) (t : Token) (ts : List Token) (text all : List ℕ) → b ≡ is_spaced before t → all ≡ text ++ (space_if b ++ t.spelling)
    → text ++ spaced_after before (t ∷ ts) ≡ all ++ spaced_after t.kind ts
written b before t ts text all is appended =
    let more = spaced_after t.kind ts in
    ap (λ (c : Bool). text ++ (space_if c ++ (t.spelling ++ more))) (sym is) ∙ ap (λ (l : List ℕ). text ++ l) (sym (append_assoc (space_if b) t.spelling more))
    ∙ sym (append_assoc text (space_if b ++ t.spelling) more) ∙ ap (λ (l : List ℕ). l ++ more) (sym appended)

-- this token is the first of the old items; the new items are the others, ignoring positions
module _ (old new : List Item) (t : LexedToken) (next : NextLexeme old t new) where
  written_on : (before : ℕ) (b : Bool) (text all : List ℕ) → ((p : Pos) → b ≡ is_spaced before (token_of p t.kind t.value.now))
      → all ≡ text ++ (space_if b ++ t.value.now)
      → text ++ spaced_after before (split old).tokens ≡ all ++ spaced_after (kind_number t.kind) (split new).tokens
  written_on before b text all is appended =
      let (w, more, first, same) = next in
      ap (λ (l : List Item). text ++ spaced_after before (split l).tokens) first
      ∙ written b before (token_of w.position t.kind t.value.now) (split more).tokens text all (is w.position) appended
      ∙ ap (λ (l : List ℕ). all ++ l) (spaced_alike (kind_number t.kind) more new (sym same))

  ends_before : IsEnd (split new).last → IsEnd (split old).last
  ends_before end = let (w, more, first, same) = next in subst (λ (l : List Item). IsEnd (split l).last) (sym first) (ends_alike new more same end)

  ends_after : IsEnd (split old).last → IsEnd (split new).last
  ends_after end = let (w, more, first, same) = next in ends_alike more new (sym same) (subst (λ (l : List Item). IsEnd (split l).last) first end)

pub tokens-init : goal.tokens-init
tokens-init c =
    let all = c.new-tokens.result in
    record {
      text = λ items has.
          ap (λ (l : List Item). spaced (split l).tokens) (c.new-tokens.ensures.only items has) ∙ sym (spaced_first (split all).tokens)
          ∙ ap (λ (l : List ℕ). l ++ spaced_after 0 (split all).tokens) (sym c.in_ok-text.ensures);
      ends = λ items has end. subst (λ (l : List Item). IsEnd (split l).last) (sym (c.new-tokens.ensures.only items has)) end;
      ends_left = λ items has end. subst (λ (l : List Item). IsEnd (split l).last) (c.new-tokens.ensures.only items has) end;
    }

pub tokens-preserved : goal.tokens-preserved
tokens-preserved c =
    let new = c.match-fast_lexeme.tokens in
    let tokenized = c.match-fast_lexeme.token in
    let following : NextLexeme c.tokens.tokens tokenized new = elim c.match-fast_lexeme.branch [
      | in-Some w ↦ rw (w.token-is, w.tokens-is) w.in-Some.ensures.item
      | in-None+in-Ok-Some w ↦
          let is = w.in-Ok-Some.is ∙ ap Ok (rw w.in-Ok-Some.is at w.in-Ok-Some.field-0-is) in
          rw (w.token-is, w.tokens-is) (next_of NextItemOrLexeme _ _ _ _ w.in-Ok-Some.token
          (w.in-None.ensures.stays refl) w.slow_lexeme-after.ensures is)
    ] in
    record {
      text = λ items has.
          c.tokens.invariant.text items has
          ∙ written_on c.tokens.tokens new tokenized following (kind_number c.tokens.before) c.is_spaced.result c.tokens.text _ c.is_spaced.ensures
          c.in_ok-push_spaced.ensures;
      ends = λ items has end. c.tokens.invariant.ends items has (ends_before c.tokens.tokens new tokenized following end);
      ends_left = λ items has end. ends_after c.tokens.tokens new tokenized following (c.tokens.invariant.ends_left items has end);
    }

pub returns-in-Err-clause-first_error : goal.returns-in-Err-clause-first_error
returns-in-Err-clause-first_error c items has =
    subst (λ (l : List Item). IsLexicalErrorOf (split l) c.fault_of_tokens.result) (sym (c.new.ensures.only items has)) c.fault_of_tokens.ensures

pub new-tokens-requires : goal.new-tokens-requires
new-tokens-requires c = omega arith

pub new-requires : goal.new-requires
new-requires c = omega arith

pub tokens-smaller : goal.tokens-smaller
tokens-smaller c = grind (arith, common_steps)
