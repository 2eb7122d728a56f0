-- The position after a token.
use Rattle.std.specs.List.{list_all, prefix_len}
use Rattle.std.specs.Str.{chars, IsAscii, IsCharBoundary}
use Rattle.std.specs.Char.{encode_utf8}
use Rattle.std.proofs.Common.{◌≡◌, ℕ, ◌+◌, ◌≤◌, true, false, ◌==◌, List, [], ◌∷◌, ◌++◌, zero, suc, length, take, drop, IsUtf8, refl, sym, ap, ◌∙◌}
use Rattle.std.proofs.Common.{◌≢◌, subst, inl, inr, arith, eqb-true}
use Rattle.std.proofs.lemmas.Bool.{and_parts, cases_Bool}
use Rattle.std.proofs.lemmas.Bool.Decides.{nat_tests}
use Rattle.std.proofs.lemmas.List.{take_at, take-append-drop, drop_all}
use Rattle.std.proofs.lemmas.Str.{chars-IsAscii, chars-append, chars_past_char, encodes-chars, length-le-encodes, IsUtf8-take, encode_ascii, chars-nil}
use Rattle.graphql_core.specs.declared.position.Pos.{Pos}
use Rattle.graphql_core.specs.declared.tokenizer.token.Kind.{Kind}
use Rattle.graphql_core.specs.declared.tokenizer.piece.Nesting.{Nesting}
use Rattle.graphql_core.specs.steps.Front.{FrontElement, AtEnd, Skips, Takes, Stops}
use Rattle.graphql_core.specs.{front, is_flat, is_no_line_feed, IsFlat, past, past_character, past_characters, is_name_start, is_name_continue}
use Rattle.graphql_core.specs.{is_punctuator_byte, Meaning, Ignored, TokenOf, IsLexicalElement, ignored_tab, ignored_line_feed, ignored_carriage_return, ignored_space}
use Rattle.graphql_core.specs.{ignored_comma, ignored_byte_order_mark, comment_at_end, comment_feed, comment_return_feed, comment_return, name_token}
use Rattle.graphql_core.specs.{punctuator_token, spread_token, integer_token, float_token, string_token, block_string_token}
use Rattle.graphql_core.proofs.lexical.Runs.{all_weaken}
use Rattle.graphql_core.proofs.lexical.Characters.{characters_no_feed}
use Rattle.graphql_core.proofs.lexical.Numbers.{integer_run, float_run}
use Rattle.graphql_core.proofs.lexical.FrontIsPiece.{ahead_of, element_at_front}
use Rattle.graphql_core.proofs.lexical.OneTokenization.{Sees, front_sees}
use Rattle.graphql_core.proofs.lexical.Spaces.{flat_below}

-- ---- flat tokens

flat_ascii : (bytes : List ℕ) → list_all is_flat bytes ≡ true → IsAscii bytes
flat_ascii [] all i = omega arith
flat_ascii (b ∷ bs) all zero = flat_below b (and_parts (is_flat b) (list_all is_flat bs) all).0
flat_ascii (b ∷ bs) all (suc i) = flat_ascii bs (and_parts (is_flat b) (list_all is_flat bs) all).1 i

flat_step : (b : ℕ) (p : Pos) → is_flat b ≡ true → past_character b p ≡ record { line = p.line; column = p.column + 1 }
flat_step b p h = let none : (b == 10) ≡ false = grind (arith, nat_tests) in rw none refl

column_of : (line i j : ℕ) → i ≡ j → (let p : Pos = record { line = line; column = i } in p) ≡ record { line = line; column = j }
column_of line i j e = λ x. record { line = line; column = e x }

flat_characters : (bs : List ℕ) (p : Pos) → list_all is_flat bs ≡ true → past_characters bs p ≡ record { line = p.line; column = p.column + length bs }
flat_characters [] p all = column_of p.line p.column (p.column + 0) (omega arith)
flat_characters (b ∷ bs) p all =
    let (here, more) = and_parts (is_flat b) (list_all is_flat bs) all in
    ap (past_characters bs) (flat_step b p here) ∙ flat_characters bs (record { line = p.line; column = p.column + 1 }) more
    ∙ column_of p.line _ _ (omega arith)

pub past_flat : (bytes : List ℕ) (p : Pos) → list_all is_flat bytes ≡ true → past bytes p ≡ record { line = p.line; column = p.column + length bytes }
past_flat bytes p all = ap (λ cs. past_characters cs p) (chars-IsAscii bytes (flat_ascii bytes all)) ∙ flat_characters bytes p all

-- ---- parts of a token without a line feed

line_step : (c : ℕ) (p : Pos) → is_no_line_feed c ≡ true → past_character c p ≡ record { line = p.line; column = p.column + 1 }
line_step c p h = let none : (c == 10) ≡ false = grind (arith, nat_tests) in rw none refl

line_characters : (cs : List ℕ) (p : Pos) → list_all is_no_line_feed cs ≡ true
    → past_characters cs p ≡ record { line = p.line; column = p.column + length cs }
line_characters [] p all = column_of p.line p.column (p.column + 0) (omega arith)
line_characters (c ∷ cs) p all =
    let (here, more) = and_parts (is_no_line_feed c) (list_all is_no_line_feed cs) all in
    ap (past_characters cs) (line_step c p here) ∙ line_characters cs (record { line = p.line; column = p.column + 1 }) more
    ∙ column_of p.line _ _ (omega arith)

pub past_line : (bytes : List ℕ) (p : Pos) → IsUtf8 bytes → list_all is_no_line_feed bytes ≡ true
    → past bytes p ≡ record { line = p.line; column = p.column + length (chars bytes) }
past_line bytes p utf8 all = line_characters (chars bytes) p (characters_no_feed bytes utf8 all)

past_more : (cs ds : List ℕ) (p : Pos) → past_characters (cs ++ ds) p ≡ past_characters ds (past_characters cs p)
past_more [] ds p = refl
past_more (c ∷ cs) ds p = past_more cs ds (past_character c p)

-- the position after an input whose front is whole characters
past_front : (text : List ℕ) (n : ℕ) (p : Pos) → IsUtf8 text → IsCharBoundary text n → past text p ≡ past (drop n text) (past (take n text) p)
past_front text n p utf8 tokenized =
    ap (λ l. past l p) (sym (take-append-drop n text))
    ∙ ap (λ cs. past_characters cs p) (chars-append (take n text) (drop n text) (IsUtf8-take text n utf8 tokenized))
    ∙ past_more (chars (take n text)) (chars (drop n text)) p

-- past the first part of an input
pub past_part : (text : List ℕ) (n : ℕ) (at place : Pos) {part after : List ℕ} → part ≡ take n text → after ≡ drop n text → IsUtf8 text
    → IsCharBoundary text n → place ≡ past part at → past text at ≡ past after place
past_part text n at place first rest utf8 tokenized is = rw (rest, is, first) (past_front text n at utf8 tokenized)

-- the position after an input that begins with a character
pub past_first : (text rest : List ℕ) (c : ℕ) (p : Pos) → IsUtf8 text → text ≡ encode_utf8 c ++ rest → past text p ≡ past rest (past_character c p)
past_first text rest c p utf8 is = ap (λ cs. past_characters cs p) (chars_past_char text rest c utf8 is)

-- ---- which tokens are flat

start_flat : (b : ℕ) → is_name_start b ≡ true → is_flat b ≡ true
start_flat b h = grind (arith, nat_tests)

continue_flat : (b : ℕ) → is_name_continue b ≡ true → is_flat b ≡ true
continue_flat b h = grind (arith, nat_tests)

punctuator_flat : (b : ℕ) → is_punctuator_byte b ≡ true → is_flat b ≡ true
punctuator_flat b h = grind (arith, nat_tests)

abbrev FlatAs : Meaning → List ℕ → Type 0
FlatAs (Ignored m) bytes = Unit {0}
FlatAs (TokenOf k t) bytes = IsFlat k bytes

element_flat : {bytes : List ℕ} {m : Meaning} {rest : List ℕ} → IsLexicalElement bytes m rest → FlatAs m bytes
element_flat ignored_tab = tt
element_flat ignored_line_feed = tt
element_flat ignored_carriage_return = tt
element_flat ignored_space = tt
element_flat ignored_comma = tt
element_flat ignored_byte_order_mark = tt
element_flat (comment_at_end line all) = tt
element_flat (comment_feed line all) = tt
element_flat (comment_return_feed line all) = tt
element_flat (comment_return line all stop) = tt
element_flat (name_token {b} {bs} first more stop) = λ e. rw (start_flat b first, all_weaken is_name_continue is_flat continue_flat bs more) refl
element_flat (punctuator_token {b} h) = λ e. rw (punctuator_flat b h) refl
element_flat spread_token = λ e. refl
element_flat (integer_token {run} h ends) = λ e. (integer_run run h).flat
element_flat (float_token h ends) = λ e. (float_run h).flat
element_flat (string_token body valid some) = λ e. absurd cc
element_flat (block_string_token closes) = λ e. absurd cc

same_word : (m : Meaning) (n i : ℕ) (k : Kind) (t : Nesting) (bytes : List ℕ) → ahead_of m n ≡ Takes i k t → FlatAs m bytes → IsFlat k bytes × (n ≡ i)
same_word (Ignored m) n i k t bytes e h = absurd cc
same_word (TokenOf l u) n i k t bytes e h = (let same : l ≡ k = cc in subst (λ x. IsFlat x bytes) same h, cc)

flat_by : (text : List ℕ) (n : ℕ) (k : Kind) (t : Nesting) (x : FrontElement) → front text ≡ x → x ≡ Takes n k t → Sees text x → IsFlat k (take n text)
flat_by text n k t AtEnd e f s = absurd cc
flat_by text n k t Stops e f s = absurd cc
flat_by text n k t (Skips i m) e f s = absurd cc
flat_by text n k t (Takes i l u) e f (bytes, m, rest, is, st) =
    let (flat, len) = same_word m (length bytes) n k t bytes (sym (element_at_front st) ∙ ap front (sym is) ∙ e ∙ f) (element_flat st) in
    subst (IsFlat k) (sym (ap (take n) is ∙ take_at bytes rest n len)) flat

-- a token at the front that is no string is flat
pub token_flat : (text : List ℕ) (n : ℕ) (k : Kind) (t : Nesting) → front text ≡ Takes n k t → IsFlat k (take n text)
token_flat text n k t e = flat_by text n k t (front text) refl e (front_sees text)

-- ---- character by character

pub characters_fit : (bytes : List ℕ) → IsUtf8 bytes → length (chars bytes) ≤ length bytes
characters_fit bytes utf8 = omega (arith, length-le-encodes (chars bytes), ap length (encodes-chars bytes utf8))

-- a character moves the position by at most one line and one column
pub character_bounds : (c : ℕ) (p : Pos) → ((past_character c p).line ≤ p.line + 1) × ((past_character c p).column ≤ p.column + 1)
character_bounds c p =
    elim (cases_Bool (c == 10)) [
      | inl feed ↦ rw feed (omega arith, omega arith)
      | inr other ↦ rw other (omega arith, omega arith)
    ]

-- ---- line by line

-- the position after an input that begins with a line feed
pub past_feed : (text rest : List ℕ) (p : Pos) → IsUtf8 text → text ≡ 10 ∷ rest → past text p ≡ past rest (record { line = p.line + 1; column = 1 })
past_feed text rest p utf8 is = past_first text rest 10 p utf8 (is ∙ ap (λ l. l ++ rest) (sym (encode_ascii 10 (omega arith))))

pub past_nothing : (bytes : List ℕ) (p : Pos) → length bytes ≡ 0 → past bytes p ≡ p
past_nothing [] p e = ap (λ cs. past_characters cs p) chars-nil
past_nothing (b ∷ bs) p e = absurd (omega arith)

-- a line that no line feed follows ends the input
pub line_ends : (text : List ℕ) (n : ℕ) → n ≡ prefix_len is_no_line_feed text → ((rest : List ℕ) → drop n text ≢ 10 ∷ rest) → length (drop n text) ≡ 0
line_ends [] n e none = ap length (drop_all n [] (omega arith))
line_ends (b ∷ bs) zero e none = elim (cases_Bool (b == 10)) [
  | inl feed ↦ absurd (none bs (ap (λ c. c ∷ bs) (eqb-true b 10 feed)))
  | inr other ↦ absurd (omega (arith, rw other at e))
]
line_ends (b ∷ bs) (suc n) e none = elim (cases_Bool (b == 10)) [
  | inl feed ↦ absurd (omega (arith, rw feed at e))
  | inr other ↦ line_ends bs n (omega (arith, rw other at e)) none
]
