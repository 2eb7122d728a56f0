-- What a language must show once, and what the theory of grammars then states about it.
use Rattle.std.proofs.Common.{◌≡◌, true, false, List, [], ◌∷◌, ◌++◌, length, replicate, refl, arith}
use Rattle.graphql_core.specs.{sees, Unexpected, Fails, lax, IsExact, AreFactored, IsExactFor, Change, unchanged, IsWhole, IsWholeFor, ReturnsFirstError}
use Rattle.graphql_core.specs.{RejectsTokens, nullable, first, decides, has_samples, Grammar, Expr, Sym, Row, peek, CauseText, Token, reading, Language}
use Rattle.graphql_core.specs.{HasNoValue, out_of_range, malformed, escaped_badly, IsReadable}
use Rattle.graphql_core.proofs.rules.{IsFactored-unchanged, exact_for, whole_for}
use Rattle.graphql_core.proofs.first_errors.{least_for, rejects_tokens_for}
use Rattle.graphql_core.proofs.grammar.Exact as theory
use Rattle.graphql_core.proofs.grammar.WholeTexts as whole_theory
use Rattle.graphql_core.proofs.grammar.Unseen as theory_of_unseen

-- ---- tokens without a value

pub one_cause : (t : Token) (c d : CauseText) → HasNoValue t c → HasNoValue t d → c ≡ d
one_cause t c d (out_of_range e r) (out_of_range f s) = refl
one_cause t c d (out_of_range e r) (malformed f s) = absurd (omega (arith, e, f))
one_cause t c d (out_of_range e r) (escaped_badly f s) = absurd (omega (arith, e, f))
one_cause t c d (malformed e r) (out_of_range f s) = absurd (omega (arith, e, f))
one_cause t c d (malformed e r) (malformed f s) = refl
one_cause t c d (malformed e r) (escaped_badly f s) = absurd (omega (arith, e, f))
one_cause t c d (escaped_badly e r) (out_of_range f s) = absurd (omega (arith, e, f))
one_cause t c d (escaped_badly e r) (malformed f s) = absurd (omega (arith, e, f))
one_cause t c d (escaped_badly e r) (escaped_badly f s) = refl

-- Rows that both lists of rules share. Those of core come first in each.
pub shared_rows : (g : Grammar) (rs : List Row) (cs : List Change) (shared ws qs : List Row) (others : List Change) → AreFactored g rs cs ws qs others
    → AreFactored g rs cs (shared ++ ws) (shared ++ qs) (replicate (length shared) unchanged ++ others)
shared_rows g rs cs [] ws qs others h = h
shared_rows g rs cs (r ∷ shared) ws qs others h = (IsFactored-unchanged g rs cs r.rule, shared_rows g rs cs shared ws qs others h)

-- ---- what the theory states

module _ {D : Type 0} (l : Language D) (r : IsReadable l) where
  pub exact : IsExactFor l.grammar l.factored_rows l.changes (Sym l.document)
  exact = exact_for l.grammar l.factored_rows l.changes r.each r.each_unchecked r.each_lax r.ll1 r.productive (Sym l.document) r.decides r.samples

  -- the same, whatever values the leaves have
  pub exact_lax : IsExactFor (lax l.grammar) l.factored_rows l.changes (Sym l.document)
  exact_lax =
      exact_for (lax l.grammar) l.factored_rows l.changes r.each_lax r.each_lax r.each_lax r.ll1 r.productive_lax (Sym l.document) r.decides r.samples_lax

  pub whole_texts : IsWholeFor l.grammar l.factored_rows l.changes (Sym l.document)
  whole_texts = whole_for l.grammar l.factored_rows l.changes r.each r.each_unchecked r.each_lax r.ll1 r.productive (Sym l.document) r.decides r.samples

  pub least : ReturnsFirstError l.grammar (reading l) (Sym l.document)
  least =
      least_for l.grammar l.factored_rows l.changes r.each r.each_lax r.ll1 r.tight r.productive r.rejects_tokens (Sym l.document) r.decides r.samples

  -- the rules that are read, as a separate grammar
  pub exact_reading : IsExact (reading l) (Sym l.document)
  exact_reading = theory.grammar_exact (reading l) r.ll1 r.productive (Sym l.document) r.decides r.samples

  pub whole_reading : IsWhole (reading l) (Sym l.document)
  whole_reading = whole_theory.grammar_whole (reading l) (Sym l.document) exact_reading

  -- no node without tokens is rejected where it is read
  pub rejects_read : RejectsTokens (reading l)
  rejects_read k x fits bad empty = rejects_tokens_for l.grammar l.factored_rows l.changes r.each r.each_lax r.rejects_tokens k x fits bad empty

  -- if the next item begins no list of an expression, the expression fails there
  pub unseen : (e : Expr) → decides l.factored_rows e ≡ true → has_samples (reading l) e ≡ true → nullable l.factored_rows e ≡ false → (ts : List Token)
      → sees (first l.factored_rows e) (peek ts) ≡ false → Fails (reading l) e ts Unexpected ts
  unseen = theory_of_unseen.grammar_unseen (reading l) r.ll1 r.productive rejects_read
