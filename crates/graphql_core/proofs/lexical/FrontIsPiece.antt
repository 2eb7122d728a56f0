-- The front of an input is its first lexical element, so an input has one division into lexical elements.
use Rattle.std.specs.List.{prefix_len, list_all}
use Rattle.std.proofs.Common.{◌≡◌, ℕ, ◌+◌, true, false, List, [], ◌∷◌, ◌++◌, length, get_or, le_refl, refl, ap, ◌∙◌, arith, length-append, append_assoc}
use Rattle.std.proofs.lemmas.Bool.Decides.{nat_tests}
use Rattle.std.proofs.lemmas.List.{drop_at, drop_all, append-nil}
use Rattle.graphql_core.specs.declared.tokenizer.token.Kind.TheVariants.{Punctuator, Name, StringValue, BlockString}
use Rattle.graphql_core.specs.declared.tokenizer.piece.Move.{Move}
use Rattle.graphql_core.specs.declared.tokenizer.piece.Move.TheVariants.{Stay, Down}
use Rattle.graphql_core.specs.steps.Front.{FrontElement, AtEnd, Skips, Takes}
use Rattle.graphql_core.specs.declared.tokenizer.piece.Nesting.TheVariants.{Unchanged}
use Rattle.graphql_core.specs.{front, front_of, other_token, comment, line_end, starts_number, number, is_name_start, is_name_continue, is_in_line}
use Rattle.graphql_core.specs.{is_punctuator_byte, nesting_of, Meaning, Ignored, TokenOf, IsLexicalElement, BeginsNone, ignored_tab, ignored_line_feed}
use Rattle.graphql_core.specs.{ignored_space, ignored_comma, ignored_byte_order_mark, comment_at_end, comment_feed, comment_return_feed, comment_return}
use Rattle.graphql_core.specs.{ignored_carriage_return}
use Rattle.graphql_core.specs.{name_token, punctuator_token, spread_token, integer_token, float_token, string_token, block_string_token}
use Rattle.graphql_core.proofs.lexical.Runs.{run, run_all, not_equal, differs}
use Rattle.graphql_core.proofs.lexical.Numbers.{NumberRun, integer_run, float_run, integer_front, float_front}
use Rattle.graphql_core.proofs.lexical.Strings.{string_front, block_front}

-- what the front is, if a lexical element with this `Meaning` has n bytes
abbrev pub ahead_of : Meaning → ℕ → FrontElement
ahead_of (Ignored m) n = Skips n m
ahead_of (TokenOf k t) n = Takes n k t

name_first : (b : ℕ) (bs : List ℕ) → is_name_start b ≡ true → front_of b bs ≡ Takes (prefix_len is_name_continue bs + 1) Name Unchanged
name_first b bs h =
    let d = λ (k : ℕ) (other : is_name_start k ≡ false). differs is_name_start b k h other in
    rw (d 9 refl, d 10 refl, d 13 refl, d 32 refl, d 44 refl, h) refl

pub punctuator_no_name : (b : ℕ) → is_punctuator_byte b ≡ true → is_name_start b ≡ false
punctuator_no_name b h = grind (arith, nat_tests)

punctuator_first : (b : ℕ) (bs : List ℕ) → is_punctuator_byte b ≡ true → front_of b bs ≡ Takes 1 Punctuator (nesting_of b)
unfolding other_token
punctuator_first b bs h =
    let d = λ (k : ℕ) (other : is_punctuator_byte k ≡ false). differs is_punctuator_byte b k h other in
    rw (d 9 refl, d 10 refl, d 13 refl, d 32 refl, d 44 refl, punctuator_no_name b h, d 35 refl, d 239 refl, h) refl

pub number_no_name : (b : ℕ) → starts_number b ≡ true → is_name_start b ≡ false
number_no_name b h = grind (arith, nat_tests)

number_no_punctuator : (b : ℕ) → starts_number b ≡ true → is_punctuator_byte b ≡ false
number_no_punctuator b h = grind (arith, nat_tests)

pub number_first : (b : ℕ) (bs : List ℕ) → starts_number b ≡ true → front_of b bs ≡ number (b ∷ bs)
unfolding other_token
number_first b bs h =
    let d = λ (k : ℕ) (other : starts_number k ≡ false). differs starts_number b k h other in
    rw (d 9 refl, d 10 refl, d 13 refl, d 32 refl, d 44 refl, number_no_name b h, d 35 refl, d 239 refl, number_no_punctuator b h, d 34 refl, d 46 refl, h) refl

-- an input that begins with a number's run
run_first : (xs rest : List ℕ) → NumberRun xs → front (xs ++ rest) ≡ number (xs ++ rest)
unfolding front
run_first xs rest r = rw r.is (number_first r.first (r.more ++ rest) r.starts)

in_line : (line rest : List ℕ) → list_all is_in_line line ≡ true → is_in_line (get_or rest 0 0) ≡ false → comment (line ++ rest) ≡ line_end (length line) rest
unfolding comment
in_line line rest all stop = rw (run is_in_line line rest all stop, drop_at line rest (length line) refl) refl

-- a comment whose line ends with these bytes
ended : (line end rest : List ℕ) → list_all is_in_line line ≡ true → is_in_line (get_or (end ++ rest) 0 0) ≡ false
    → comment (line ++ end ++ rest) ≡ line_end (length line) (end ++ rest)
ended line end rest all stop = ap comment (append_assoc line end rest) ∙ in_line line (end ++ rest) all stop

at_end : (line : List ℕ) → list_all is_in_line line ≡ true → comment (line ++ []) ≡ Skips (length line + 1) Stay
unfolding comment
at_end line all = rw (append-nil line, run_all is_in_line line all, drop_all (length line) line (le_refl (length line))) refl

skips_same : (i j : ℕ) (m : Move) → i ≡ j → Skips i m ≡ Skips j m
skips_same i j m e = ap (λ n. Skips n m) e

pub element_at_front : {bytes : List ℕ} {m : Meaning} {rest : List ℕ} → IsLexicalElement bytes m rest → front (bytes ++ rest) ≡ ahead_of m (length bytes)
unfolding front other_token
element_at_front ignored_tab = refl
element_at_front ignored_line_feed = refl
element_at_front ignored_carriage_return = refl
element_at_front ignored_space = refl
element_at_front ignored_comma = refl
element_at_front ignored_byte_order_mark = refl
element_at_front (comment_at_end line all) = at_end line all ∙ skips_same _ _ Stay (omega arith)
element_at_front (comment_feed line {rest} all) = ended line (10 ∷ []) rest all refl
    ∙ skips_same (length line + 2) _ Down (omega (arith, length-append line (10 ∷ [])))
element_at_front (comment_return_feed line {rest} all) = ended line (13 ∷ 10 ∷ []) rest all refl
    ∙ skips_same (length line + 3) _ Down (omega (arith, length-append line (13 ∷ 10 ∷ [])))
element_at_front (comment_return line {rest} all stop) =
    ended line (13 ∷ []) rest all refl ∙ rw (not_equal _ _ stop) (skips_same (length line + 2) _ Down (omega (arith, length-append line (13 ∷ []))))
element_at_front (name_token {b} {bs} {rest} first more stop) = name_first b (bs ++ rest) first
    ∙ rw (run is_name_continue bs rest more stop) (ap (λ n. Takes n Name Unchanged) (omega arith))
element_at_front (punctuator_token {b} {rest} h) = punctuator_first b rest h
element_at_front spread_token = refl
element_at_front (integer_token {run} {rest} h ends) = run_first run rest (integer_run run h) ∙ integer_front run rest h ends
element_at_front (float_token {run} {rest} h ends) = run_first run rest (float_run h) ∙ float_front run rest h ends
element_at_front (string_token body {rest} valid some) =
    ap (λ l. front (34 ∷ l)) (append_assoc body (34 ∷ []) rest) ∙ string_front valid rest some
    ∙ ap (λ n. Takes n StringValue Unchanged) (omega (arith, length-append body (34 ∷ [])))
element_at_front (block_string_token {body} {rest} closes) = block_front closes rest ∙ ap (λ n. Takes n BlockString Unchanged) (omega arith)

-- no lexical element begins at the end of the input
pub begins_none_at_end : BeginsNone []
unfolding front
begins_none_at_end bytes (Ignored m) rest st e = let h : AtEnd ≡ ahead_of (Ignored m) (length bytes) = ap front e ∙ element_at_front st in absurd cc
begins_none_at_end bytes (TokenOf k t) rest st e = let h : AtEnd ≡ ahead_of (TokenOf k t) (length bytes) = ap front e ∙ element_at_front st in absurd cc
