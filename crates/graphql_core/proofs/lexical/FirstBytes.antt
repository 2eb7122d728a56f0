-- The first byte of a token decides which punctuator it is, and whether it is a name.
use Rattle.std.proofs.Common.{◌≡◌, ℕ, true, false, Bool, ◌&&◌, ◌||◌, ◌==◌, List, [], ◌∷◌, All, refl, sym, ap, ap₂, ◌∙◌, arith}
use Rattle.std.proofs.lemmas.Bool.Decides.{nat_tests}
use Rattle.std.proofs.lemmas.List.Elements.{All-head}
use Rattle.graphql_core.specs.{name_token, punctuator_token, is_name_start, is_punctuator_byte, TokenOf, IsLexicalElement, spread_token, integer_token, float_token}
use Rattle.graphql_core.specs.{string_token, block_string_token, starts_number, Token, AnyOf, same_spelling, matches, peek, sees, kind_number, spelling_of}
use Rattle.graphql_core.specs.{class_of, first_byte, front_byte, IsLexeme}
use Rattle.graphql_core.proofs.lexical.Runs.{differs}
use Rattle.graphql_core.proofs.lexical.Numbers.{NumberRun, integer_run, float_run}
use Rattle.graphql_core.specs.declared.tokenizer.token.Kind.{Kind}
use Rattle.graphql_core.specs.declared.tokenizer.token.Kind.TheVariants.{Name, StringValue, BlockString}
use Rattle.graphql_core.specs.declared.tokenizer.piece.Nesting.{Nesting}
use Rattle.graphql_core.specs.declared.helpers.punctuator.Punctuator.{Punctuator}
use Rattle.graphql_core.specs.declared.helpers.punctuator.Punctuator.TheVariants.{Bang, Dollar, Ampersand, OpenParen, CloseParen, Spread, Colon, Equals, At}
use Rattle.graphql_core.specs.declared.helpers.punctuator.Punctuator.TheVariants.{OpenBracket, CloseBracket, OpenBrace, Pipe, CloseBrace}
use Rattle.graphql_core.specs.declared.tokenizer.token.Kind.TheVariants as kinds
use Rattle.graphql_core.proofs.lexical.FrontIsPiece.{punctuator_no_name, number_no_name}

pub byte_back : (x y : ℕ) → (x == y) ≡ (y == x)
byte_back x y = grind (arith)

punctuator_no_number : (b : ℕ) → is_punctuator_byte b ≡ true → starts_number b ≡ false
punctuator_no_number b h = grind (arith, nat_tests)

-- a token of this kind and spelling is a punctuator with this spelling
abbrev IsMarked : Kind → List ℕ → List ℕ → Bool
IsMarked k s bytes = (kind_number kinds.Punctuator == kind_number k) && same_spelling s bytes

in_run : (xs : List ℕ) (b : ℕ) → NumberRun xs → starts_number b ≡ false → (first_byte xs == b) ≡ false
in_run xs b r other = ap (λ ys. first_byte ys == b) r.is ∙ differs starts_number r.first b r.starts other

-- a punctuator of one character
one_seen : (b : ℕ) → is_punctuator_byte b ≡ true → {k : Kind} {s : Nesting} {bytes rest : List ℕ} → IsLexicalElement bytes (TokenOf k s) rest
    → (first_byte bytes == b) ≡ IsMarked k (b ∷ []) bytes
one_seen b is (name_token {b = f} h all stop) = differs is_name_start f b h (punctuator_no_name b is)
one_seen b is (punctuator_token {b = f} h) = grind (arith)
one_seen b is spread_token = let e = differs is_punctuator_byte b 46 is refl in rw (byte_back 46 b, e) refl
one_seen b is (integer_token {run = run} h e) = in_run run b (integer_run run h) (punctuator_no_number b is)
one_seen b is (float_token {run = run} f e) = in_run run b (float_run f) (punctuator_no_number b is)
one_seen b is (string_token body h n) = let e = differs is_punctuator_byte b 34 is refl in rw (byte_back 34 b, e) refl
one_seen b is (block_string_token h) = let e = differs is_punctuator_byte b 34 is refl in rw (byte_back 34 b, e) refl

-- three dots
dots_seen : {k : Kind} {s : Nesting} {bytes rest : List ℕ} → IsLexicalElement bytes (TokenOf k s) rest → (first_byte bytes == 46) ≡ IsMarked k (spelling_of Spread) bytes
dots_seen (name_token {b = f} h all stop) = differs is_name_start f 46 h refl
dots_seen (punctuator_token {b = f} h) = let e = differs is_punctuator_byte f 46 h refl in rw (byte_back 46 f, e) refl
dots_seen spread_token = refl
dots_seen (integer_token {run = run} h e) = in_run run 46 (integer_run run h) refl
dots_seen (float_token {run = run} f e) = in_run run 46 (float_run f) refl
dots_seen (string_token body h n) = refl
dots_seen (block_string_token h) = refl

punctuator_seen : (m : Punctuator) {k : Kind} {s : Nesting} {bytes rest : List ℕ} → IsLexicalElement bytes (TokenOf k s) rest
    → (first_byte bytes == first_byte (spelling_of m)) ≡ IsMarked k (spelling_of m) bytes
punctuator_seen Bang st = one_seen 33 refl st
punctuator_seen Dollar st = one_seen 36 refl st
punctuator_seen Ampersand st = one_seen 38 refl st
punctuator_seen OpenParen st = one_seen 40 refl st
punctuator_seen CloseParen st = one_seen 41 refl st
punctuator_seen Spread st = dots_seen st
punctuator_seen Colon st = one_seen 58 refl st
punctuator_seen Equals st = one_seen 61 refl st
punctuator_seen At st = one_seen 64 refl st
punctuator_seen OpenBracket st = one_seen 91 refl st
punctuator_seen CloseBracket st = one_seen 93 refl st
punctuator_seen OpenBrace st = one_seen 123 refl st
punctuator_seen Pipe st = one_seen 124 refl st
punctuator_seen CloseBrace st = one_seen 125 refl st

name_seen : {k : Kind} {s : Nesting} {bytes rest : List ℕ} → IsLexicalElement bytes (TokenOf k s) rest
    → is_name_start (first_byte bytes) ≡ (kind_number Name == kind_number k) && true
name_seen (name_token h all stop) = h
name_seen (punctuator_token {b = f} h) = punctuator_no_name f h
name_seen spread_token = refl
name_seen (integer_token {run = run} h e) = let r = integer_run run h in ap (λ ys. is_name_start (first_byte ys)) r.is ∙ number_no_name r.first r.starts
name_seen (float_token {run = run} f e) = let r = float_run f in ap (λ ys. is_name_start (first_byte ys)) r.is ∙ number_no_name r.first r.starts
name_seen (string_token body h n) = refl
name_seen (block_string_token h) = refl

-- strings and block strings begin with a quote
string_seen : {k : Kind} {s : Nesting} {bytes rest : List ℕ} → IsLexicalElement bytes (TokenOf k s) rest
    → (first_byte bytes == 34) ≡ ((kind_number StringValue == kind_number k) && true) || ((kind_number BlockString == kind_number k) && true)
string_seen (name_token {b = f} h all stop) = differs is_name_start f 34 h refl
string_seen (punctuator_token {b = f} h) = differs is_punctuator_byte f 34 h refl
string_seen spread_token = refl
string_seen (integer_token {run = run} h e) = in_run run 34 (integer_run run h) refl
string_seen (float_token {run = run} f e) = in_run run 34 (float_run f) refl
string_seen (string_token body h n) = refl
string_seen (block_string_token h) = refl

-- ---- the first of a list of tokens

or_false : (b : Bool) → b ≡ b || false
or_false true = refl
or_false false = refl

no_punctuator : (m : Punctuator) → (0 == first_byte (spelling_of m)) ≡ false
no_punctuator Bang = refl
no_punctuator Dollar = refl
no_punctuator Ampersand = refl
no_punctuator OpenParen = refl
no_punctuator CloseParen = refl
no_punctuator Spread = refl
no_punctuator Colon = refl
no_punctuator Equals = refl
no_punctuator At = refl
no_punctuator OpenBracket = refl
no_punctuator CloseBracket = refl
no_punctuator OpenBrace = refl
no_punctuator Pipe = refl
no_punctuator CloseBrace = refl

pub sees_punctuator : (m : Punctuator) (ts : List Token) → All IsLexeme ts → (front_byte ts == first_byte (spelling_of m)) ≡ sees (class_of m ∷ []) (peek ts)
sees_punctuator m [] all = no_punctuator m
sees_punctuator m (t ∷ ts) all =
    let (k, s, rest, kind, is_element) = All-head IsLexeme t ts all in
    punctuator_seen m is_element ∙ ap (λ n. (kind_number kinds.Punctuator == n) && same_spelling (spelling_of m) t.spelling) (sym kind)
    ∙ or_false (matches (class_of m) t)

pub sees_name : (ts : List Token) → All IsLexeme ts → is_name_start (front_byte ts) ≡ sees (AnyOf (kind_number Name) ∷ []) (peek ts)
sees_name [] all = refl
sees_name (t ∷ ts) all =
    let (k, s, rest, kind, is_element) = All-head IsLexeme t ts all in
    name_seen is_element ∙ ap (λ n. (kind_number Name == n) && true) (sym kind) ∙ or_false (matches (AnyOf (kind_number Name)) t)

pub sees_string : (ts : List Token) → All IsLexeme ts → (front_byte ts == 34)
    ≡ (sees (AnyOf (kind_number StringValue) ∷ []) (peek ts) || sees (AnyOf (kind_number BlockString) ∷ []) (peek ts))
sees_string [] all = refl
sees_string (t ∷ ts) all =
    let (k, s, rest, kind, is_element) = All-head IsLexeme t ts all in
    string_seen is_element ∙ ap (λ n. ((kind_number StringValue == n) && true) || ((kind_number BlockString == n) && true)) (sym kind)
    ∙ ap₂ (λ x y. x || y) (or_false (matches (AnyOf (kind_number StringValue)) t)) (or_false (matches (AnyOf (kind_number BlockString)) t))
