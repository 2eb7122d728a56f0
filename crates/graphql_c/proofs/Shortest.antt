-- A minified output is at most twice as long as its input, so a buffer of this length is never too short.
use Rattle.std.proofs.Common.{◌≡◌, ◌≢◌, ◌*◌, ◌<◌, ◌≤◌, ℕ, Bool, true, false, List, [], ◌∷◌, ◌++◌, length, ap, arith, length-append, sym, ◌∙◌}
use Rattle.graphql_core.specs.{items_of, Token, Meaning, Ignored, TokenOf, Piece, IsTokenizedInto, IsLexicalElement, Where, Item, past_ignored, past_token, is_too_deep}
use Rattle.graphql_core.specs.{token_then, piece_then, split, LexicalError, item_at, TokenContent, token_of, kind_number, IsMinified, start, CauseText}
use Rattle.graphql_core.specs.{no_token, too_deep, unexpected_token, unexpected_end, int_out_of_range, malformed_float, bad_escape, unknown_location}
use Rattle.graphql_core.specs.{duplicate_operation, unknown_operation, empty_extension, text_too_long, out_of_memory, ParseFailure}
use Rattle.graphql_core.specs.sources.Minified.{is_spaced, space_if, spaced_after, spaced}
use Rattle.graphql_core.specs.declared.tokenizer.token.Kind.{Kind}
use Rattle.graphql_core.specs.declared.tokenizer.piece.Nesting.{Nesting}
use Rattle.graphql_core.proofs.sources.TokenPlaces.{part}
use Rattle.graphql_c.specs.declared.call_result.CallResult.{CallResult}
use Rattle.graphql_c.specs.{status_of, status_too_short, Numbers, parse_numbers, Explains, rejected, too_wide, not_utf8, ran_out, Writes, written, too_short, Returns, done, failed}
use Rattle.graphql_c.specs.{IsMinifiedInput}

-- ---- the length of a minified output

space_length : (b : Bool) → length (space_if b) ≤ 1
space_length true = omega arith
space_length false = omega arith

-- the tokens from here on, with spaces, after a token of any kind
abbrev IsShort : Where → List Piece → (stop text : List ℕ) → Type 0
IsShort w ps stop text = (before : ℕ) → length (spaced_after before (split (items_of w ps stop)).tokens) ≤ 2 * length text

module _ (qs : List Piece) (stop rest bytes text : List ℕ) (w : Where) (e : text ≡ bytes ++ rest) where
  word_short : (deep : Bool) (k : Kind) (t : Nesting) (before : ℕ) → IsLexicalElement bytes (TokenOf k t) rest
      → IsShort (past_token t bytes w) qs stop rest
      → length (spaced_after before (split (token_then deep (item_at (LexicalError too_deep) w) (item_at (TokenContent k bytes) w)
      (items_of (past_token t bytes w) qs stop))).tokens) ≤ 2 * length text
  word_short true k t before st more = omega arith
  word_short false k t before st more =
      let some : 0 < length bytes = (part (TokenOf k t) bytes rest st).0 in
      let space = space_if (is_spaced before (token_of w.position k bytes)) in
      let others = spaced_after (kind_number k) (split (items_of (past_token t bytes w) qs stop)).tokens in
      omega (
        arith,
        some,
        more (kind_number k),
        space_length (is_spaced before (token_of w.position k bytes)),
        ap length e,
        length-append bytes rest,
        length-append space (bytes ++ others),
        length-append bytes others,
      )

  piece_short : (m : Meaning) → IsLexicalElement bytes m rest → ((v : Where) → IsShort v qs stop rest)
      → (before : ℕ) → length (spaced_after before (split (piece_then m (λ v. items_of v qs stop) w bytes)).tokens) ≤ 2 * length text
  piece_short (Ignored m) st more before =
      omega (arith, more (past_ignored m (length bytes) w) before, ap length e, length-append bytes rest)
  piece_short (TokenOf k t) st more before = word_short (is_too_deep t w) k t before st (more (past_token t bytes w))

short : (ps : List Piece) (text stop : List ℕ) (w : Where) → IsTokenizedInto text ps stop → IsShort w ps stop text
unfolding items_of
short [] text [] w tokenized before = omega arith
short [] text (b ∷ bs) w tokenized before = omega arith
short (q ∷ qs) text stop w (rest, e, st, tokenized) before =
    piece_short qs stop rest q.bytes text w e q.meaning st (λ v. short qs rest stop v tokenized) before

spaced_short : (before : ℕ) (ts : List Token) → length (spaced ts) ≤ length (spaced_after before ts)
spaced_short before [] = omega arith
spaced_short before (t ∷ ts) = omega (arith, length-append (space_if (is_spaced before t)) (t.spelling ++ spaced_after t.kind ts))

pub minified_length : (source text : List ℕ) → IsMinified source text → length text ≤ 2 * length source
minified_length source text (items, (ps, stop, tokenized, e), end, is) =
    let whole = short ps source stop start tokenized 0 in
    let same = ap (λ (l : List Item). length (spaced_after 0 (split l).tokens)) e in
    omega (arith, whole, same, spaced_short 0 (split items).tokens, ap length is)

-- ---- a buffer that is long enough

-- no error has the status of a buffer that is too short
cause_status : (c : CauseText) → status_of c ≢ status_too_short
cause_status (no_token too_deep) e = omega (arith, e)
cause_status (no_token other) e = omega (arith, e)
cause_status (unexpected_token kind spelling) e = omega (arith, e)
cause_status unexpected_end e = omega (arith, e)
cause_status int_out_of_range e = omega (arith, e)
cause_status malformed_float e = omega (arith, e)
cause_status bad_escape e = omega (arith, e)
cause_status unknown_location e = omega (arith, e)
cause_status (duplicate_operation name) e = omega (arith, e)
cause_status (unknown_operation name) e = omega (arith, e)
cause_status empty_extension e = omega (arith, e)
cause_status text_too_long e = omega (arith, e)
cause_status out_of_memory e = omega (arith, e)

error_status : {R : ParseFailure → Type 0} {W : Type 0} {text : List ℕ} {n : Numbers} → Explains parse_numbers R W text n → n.status ≢ status_too_short
error_status (rejected e utf8 h) same = cause_status e.cause same
error_status (too_wide h) same = omega (arith, same)
error_status (not_utf8 h) same = omega (arith, same)
error_status ran_out same = omega (arith, same)

pub never_short : {R : ParseFailure → Type 0} {W : Type 0} {text old new : List ℕ} {r : CallResult} → Returns (Writes (IsMinifiedInput text)) R W text old new r
    → 2 * length text ≤ length old → r.status ≢ status_too_short
never_short (done (written output is fits put says)) enough same = omega (arith, same, ap (λ (r : CallResult). r.status) says)
never_short (done (too_short output is short unchanged says)) enough same = omega (arith, short, enough, minified_length _ output is.1)
never_short (failed message n why is put) enough same = error_status why (sym (ap (λ (r : CallResult). r.status) is) ∙ same)
