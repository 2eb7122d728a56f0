-- Elements before another rest, and divisions of an input into elements.
use Rattle.std.proofs.Common.{◌≡◌, ◌≢◌, slice_index, ℕ, List, [], ◌∷◌, ◌++◌, refl, sym, ap, ◌∙◌, subst, inl, inr}
use Rattle.graphql_core.specs.declared.tokenizer.token.Kind.{Kind}
use Rattle.graphql_core.specs.declared.tokenizer.token.Kind.TheVariants.{StringValue}
use Rattle.graphql_core.specs.declared.tokenizer.piece.Nesting.{Nesting}
use Rattle.graphql_core.specs.lexical.Lexical.{Meaning, TokenOf, IsLexicalElement, EndsRun, integer_token, float_token, string_token, Piece}
use Rattle.graphql_core.specs.steps.Following.{MayFollow}
use Rattle.graphql_core.proofs.{token_before}
use Rattle.graphql_standard.specs.lexical.Numbers.{IsNumber, EndsNumber, int_value, float_value}
use Rattle.graphql_standard.specs.lexical.Elements.{LexicalGrammar, BeginsNoneOf, IsDividedInto, IsElement, shared_element, number_element, string_element, IsEither}
use Rattle.graphql_standard.proofs.lexical.CoreNumbers.{ends_number}
use Rattle.graphql_standard.proofs.lexical.Elements.{Same, same_element, same_bodies, none_begins, no_number_begins}
use Rattle.graphql_standard.specs.steps.Numbers.{integer_len, number_front}
use Rattle.graphql_core.proofs.lexical.FrontIsPiece.{begins_none_at_end}

-- ---- another rest

number_before : {k : Kind} {number : List ℕ} (more : List ℕ) → IsNumber k number → MayFollow k more → EndsNumber more
number_before more (int_value h) f = ends_number more f
number_before more (float_value h) f = ends_number more f

-- a token of September 2025 stays one, if what follows can follow a token of its kind
pub element_before : {bytes : List ℕ} {k : Kind} {n : Nesting} {rest : List ℕ} → IsElement bytes (TokenOf k n) rest → (more : List ℕ) → MayFollow k more
    → IsElement bytes (TokenOf k n) more
element_before (shared_element h st) more f = shared_element h (token_before st more f)
element_before (number_element n ends) more f = number_element n (number_before more n f)
element_before (string_element h some) more f = string_element h (λ _. f)

pub either_before : {bytes : List ℕ} {k : Kind} {n : Nesting} {rest : List ℕ} → IsEither bytes (TokenOf k n) rest → (more : List ℕ) → MayFollow k more
    → IsEither bytes (TokenOf k n) more
either_before (inl h) more f = inl (element_before h more f)
either_before (inr st) more f = inr (token_before st more f)

-- what follows a token of `graphql_core`, as far as the token needs it
run_ends : {bytes rest : List ℕ} {n : Nesting} {k : Kind} {number : List ℕ} → IsNumber k number → IsLexicalElement bytes (TokenOf k n) rest → EndsRun rest
run_ends (int_value h) (integer_token is ends) = ends
run_ends (float_value h) (float_token is ends) = ends

-- an empty string is not followed by a quote
no_quote : {bytes rest : List ℕ} {n : Nesting} → IsLexicalElement bytes (TokenOf StringValue n) rest → (body : List ℕ) → bytes ≡ 34 ∷ (body ++ 34 ∷ []) → body ≡ []
    → slice_index rest 0 ≢ 34
no_quote (string_token inner valid some) body e none = some (same_bodies inner body e ∙ none)

-- a token of both grammars before one rest is a token of September 2025 before another where it is one of `graphql_core`
pub element_back : {bytes : List ℕ} {m : Meaning} {rest : List ℕ} → IsElement bytes m rest → (more : List ℕ) → IsLexicalElement bytes m more → IsElement bytes m more
element_back (shared_element h st) more su = shared_element h su
element_back (number_element n ends) more su = number_element n (ends_number more (run_ends n su))
element_back (string_element {body} h some) more su = string_element h (λ e. no_quote su body refl e)

-- a token that only `graphql_core` reads stays one
pub other_before : {bytes : List ℕ} {k : Kind} {n : Nesting} {rest : List ℕ} → IsLexicalElement bytes (TokenOf k n) rest → BeginsNoneOf IsElement (bytes ++ rest)
    → (more : List ℕ) → MayFollow k more → BeginsNoneOf IsElement (bytes ++ more)
other_before {bytes} {k} {n} {rest} st none more f b m r h e =
    let same = same_element (bytes ++ more) refl e (inr (token_before st more f)) (inl h) in
    let there = subst (λ (x : List ℕ). IsElement x m r) (sym same.bytes) h in
    let as_token = subst (λ (x : Meaning). IsElement bytes x r) (sym same.meaning) there in
    none bytes (TokenOf k n) rest (element_back as_token rest st) refl

-- ---- divisions

-- no element begins at the end of the input
pub none_at_end : BeginsNoneOf IsEither []
unfolding number_front integer_len
none_at_end = none_begins [] begins_none_at_end (no_number_begins [] refl)

piece : List ℕ → Meaning → Piece
piece b m = record { bytes = b; meaning = m }

pub piece_same : (p q : Piece) → p.bytes ≡ q.bytes → p.meaning ≡ q.meaning → p ≡ q
unfolding piece
piece_same p q e f = ap (λ b. piece b p.meaning) e ∙ ap (λ m. piece q.bytes m) f

-- an input has at most one division, if at most one element begins an input
pub one_division : (E : LexicalGrammar) → ((text a b r s : List ℕ) (m k : Meaning) → text ≡ a ++ r → text ≡ b ++ s → E a m r → E b k s → Same a b r s m k)
    → (text : List ℕ) (ps qs : List Piece) (s t : List ℕ) → IsDividedInto E text ps s → IsDividedInto E text qs t → (ps ≡ qs) × (s ≡ t)
one_division E one text [] [] s t (e, none) (f, others) = (refl, sym e ∙ f)
one_division E one text [] (q ∷ qs) s t (e, none) (rest, f, el, more) = absurd (none q.bytes q.meaning rest el (sym e ∙ f))
one_division E one text (p ∷ ps) [] s t (rest, f, el, more) (e, none) = absurd (none p.bytes p.meaning rest el (sym e ∙ f))
one_division E one text (p ∷ ps) (q ∷ qs) s t (r, e, el, more) (u, f, fl, others) =
    let same = one text p.bytes q.bytes r u p.meaning q.meaning e f el fl in
    let (pieces, stops) = one_division E one u ps qs s t (subst (λ (l : List ℕ). IsDividedInto E l ps s) same.rest more) others in
    (rw (piece_same p q same.bytes same.meaning, pieces) refl, stops)

pub one_standard_division : (text : List ℕ) (ps qs : List Piece) (s t : List ℕ) → IsDividedInto IsElement text ps s → IsDividedInto IsElement text qs t
    → (ps ≡ qs) × (s ≡ t)
one_standard_division = one_division IsElement (λ text a b r s m k e f h g. same_element text e f (inl h) (inl g))

pub one_either_division : (text : List ℕ) (ps qs : List Piece) (s t : List ℕ) → IsDividedInto IsEither text ps s → IsDividedInto IsEither text qs t
    → (ps ≡ qs) × (s ≡ t)
one_either_division = one_division IsEither (λ text a b r s m k e f h g. same_element text e f h g)

-- a whole input of elements of September 2025 has the same division into elements of either grammar
pub either_division : (text : List ℕ) (ps : List Piece) (s : List ℕ) → IsDividedInto IsElement text ps s → s ≡ [] → IsDividedInto IsEither text ps []
either_division text [] s (e, none) end = (e ∙ end, none_at_end)
either_division text (p ∷ ps) s (rest, e, el, more) end = (rest, e, inl el, either_division rest ps s more end)
