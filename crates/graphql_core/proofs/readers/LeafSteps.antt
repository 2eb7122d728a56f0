-- The next token as a leaf with a value, or without one.
use Rattle.std.proofs.Common.{◌≡◌, ℕ, true, false, List, Result, Ok, Err, Some, refl, sym, ap, subst}
use Rattle.std.proofs.lemmas.Bool.{eq-eqb, and_from}
use Rattle.graphql_core.specs.{fails_value, Consumes, Improper, StopsFor, Fails, matches, One, ParseTree, Leaf, kind_number, Items}
use Rattle.graphql_core.specs.{after, lexeme_token, shared, any, Gives, IsNext, Shows, has_value}
use Rattle.graphql_core.proofs.readers.Matches.{takes_token}
use Rattle.graphql_core.specs.declared.helpers.source.Lexeme.{Lexeme}
use Rattle.std.specs.Result.{IsErrAnd}
use Rattle.graphql_core.specs.declared.helpers.read_error.ReadError.{ReadError}
use Rattle.graphql_core.specs.declared.tokenizer.token.Kind.{Kind}
use Rattle.graphql_core.proofs.readers.Reading.{takes_one, stops_one}
use Rattle.graphql_core.proofs.strings.{IsSpelledAs, lexeme_spelled}

-- the next item is no token of the kind
pub not_shown : {A T : Type 0} (bytes : T → List ℕ) (k : Kind) (i : Items) (P : A → ParseTree → Type 0) (r : Result A ReadError) (e : ReadError)
    → Shows bytes k i (Err e) → IsErrAnd r (λ d. d ≡ e) → Gives shared (One (any k)) i i P r
not_shown bytes k i P (Ok v) e s h = absurd h
not_shown bytes k i P (Err d) e s h = rw h (stops_one shared (any k) i i e s)

module _ {T : Type 0} (bytes : T → List ℕ) (k : Kind) (i : Items) (t : Lexeme T) (n : IsNext bytes k i t) where
  next_kind : kind_number t.kind ≡ kind_number k
  next_kind = ap kind_number n.kind

  pub next_matches : matches (any k) (lexeme_token bytes t) ≡ true
  next_matches = and_from _ true (eq-eqb _ _ (sym next_kind)) refl

  -- its spelling is one of its kind
  pub next_spelled : IsSpelledAs k (bytes t.text)
  next_spelled = lexeme_spelled k (lexeme_token bytes t) next_kind n.lexeme

  pub next_taken : (new : Items) → has_value (kind_number k) (bytes t.text) ≡ true → new ≡ after i
      → Consumes shared (One (any k)) i (Leaf (lexeme_token bytes t)) new
  next_taken new good e = takes_one shared (any k) i new (lexeme_token bytes t) good (takes_token (any k) i new (lexeme_token bytes t) n.first e next_matches)

  -- the token has no value
  pub next_rejected : has_value (kind_number k) (bytes t.text) ≡ false → StopsFor shared (One (any k)) i i (Some (Improper (any k)))
  next_rejected bad = (subst (λ ts. Fails shared (One (any k)) ts (Improper (any k)) ts) (sym n.first) (fails_value next_matches bad), refl)
