-- The front of an input as its first lexical element.
use Rattle.std.proofs.Common.{◌≡◌, ℕ, List, ◌++◌, Some, None, length, take, drop, refl, sym, ap, ◌∙◌, subst}
use Rattle.std.proofs.lemmas.List.{take_at, drop_at}
use Rattle.graphql_core.specs.declared.tokenizer.element.ElementKind.{ElementKind}
use Rattle.graphql_core.specs.declared.tokenizer.element.ElementKind.TheVariants as element
use Rattle.graphql_core.specs.declared.tokenizer.piece.Move.{Move}
use Rattle.graphql_core.specs.declared.tokenizer.piece.Nesting.{Nesting}
use Rattle.graphql_core.specs.declared.tokenizer.piece.Skipped.{Skipped}
use Rattle.graphql_core.specs.declared.tokenizer.piece.Taken.{Taken}
use Rattle.graphql_core.specs.steps.Front.{FrontElement, Skips, Takes}
use Rattle.graphql_core.specs.declared.tokenizer.token.Kind.{Kind}
use Rattle.graphql_core.specs.{front, ignored_front, taken, Meaning, Ignored, TokenOf, IsLexicalElement, BeginsNone}
use Rattle.graphql_core.specs.lexical.Elements.{ignored_kind, element_kind, BeginsWithElement}
use Rattle.graphql_core.proofs.lexical.FrontIsPiece.{ahead_of, element_at_front}
use Rattle.graphql_core.proofs.lexical.OneTokenization.{Sees, front_sees}
use Rattle.graphql_core.proofs.lexical.Spaces.{skips_first}
use Rattle.graphql_core.proofs.lexical.Tokens.{taken_front}

-- the first `n` bytes are a lexical element of this meaning
abbrev IsFirstElement : List ℕ → ℕ → Meaning → Type 0
IsFirstElement text n m = IsLexicalElement (take n text) m (drop n text) × (text ≡ take n text ++ drop n text)

at_length : (text bytes rest : List ℕ) (m : Meaning) (n : ℕ) → text ≡ bytes ++ rest → IsLexicalElement bytes m rest → length bytes ≡ n → IsFirstElement text n m
at_length text bytes rest m n e st l =
    let first : take n text ≡ bytes = ap (take n) e ∙ take_at bytes rest n l in
    let last : drop n text ≡ rest = ap (drop n) e ∙ drop_at bytes rest n l in
    (rw (first, last) st, rw (first, last) e)

same_skip : (n i : ℕ) (m : Move) (k : Meaning) → Skips n m ≡ ahead_of k i → (k ≡ Ignored m) × (i ≡ n)
same_skip n i m (Ignored o) e = (cc, cc)
same_skip n i m (TokenOf k t) e = absurd cc

same_take : (n i : ℕ) (k : Kind) (t : Nesting) (m : Meaning) → Takes n k t ≡ ahead_of m i → (m ≡ TokenOf k t) × (i ≡ n)
same_take n i k t (Ignored o) e = absurd cc
same_take n i k t (TokenOf j u) e = (cc, cc)

skipped : (text : List ℕ) (n : ℕ) (m : Move) → front text ≡ Skips n m → IsFirstElement text n (Ignored m)
skipped text n m e =
    let (bytes, k, rest, is, st) = subst (Sees text) e (front_sees text) in
    let (same, l) = same_skip n (length bytes) m k (sym e ∙ ap front is ∙ element_at_front st) in
    at_length text bytes rest (Ignored m) n is (subst (λ (o : Meaning). IsLexicalElement bytes o rest) same st) l

took : (text : List ℕ) (n : ℕ) (k : Kind) (t : Nesting) → front text ≡ Takes n k t → IsFirstElement text n (TokenOf k t)
took text n k t e =
    let (bytes, m, rest, is, st) = subst (Sees text) e (front_sees text) in
    let (same, l) = same_take n (length bytes) k t m (sym e ∙ ap front is ∙ element_at_front st) in
    at_length text bytes rest (TokenOf k t) n is (subst (λ (o : Meaning). IsLexicalElement bytes o rest) same st) l

not_ahead : (m : Meaning) (n : ℕ) → ignored_front (ahead_of m n) ≡ None → taken (ahead_of m n) ≡ None → ⊥
not_ahead (Ignored m) n h k = absurd cc
not_ahead (TokenOf j t) n h k = absurd cc

-- no lexical element begins an input whose front is neither ignored text nor a token
pub begins_none : (text : List ℕ) → ignored_front (front text) ≡ None → taken (front text) ≡ None → BeginsNone text
begins_none text h k bytes m rest st e =
    let same : front text ≡ ahead_of m (length bytes) = ap front e ∙ element_at_front st in
    not_ahead m (length bytes) (subst (λ (x : FrontElement). ignored_front x ≡ None) same h) (subst (λ (x : FrontElement). taken x ≡ None) same k)

as_element : (text first rest : List ℕ) (n : ℕ) (m : Meaning) (kind : ElementKind) → first ≡ take n text → rest ≡ drop n text → IsFirstElement text n m
    → element_kind first m ≡ kind → BeginsWithElement text kind first rest
as_element text first rest n m kind e f (st, is) k = (m, rw (e, f) is, rw (e, f) st, k)

pub ignored_element : (text first rest : List ℕ) (s : Skipped) (kind : ElementKind) → first ≡ take s.len text → rest ≡ drop s.len text
    → ignored_front (front text) ≡ Some s → kind ≡ ignored_kind first → BeginsWithElement text kind first rest
ignored_element text first rest s kind e f h k =
    as_element text first rest s.len (Ignored s.by) kind e f (skipped text s.len s.by (skips_first (front text) s h)) (sym k)

pub token_element : (text first rest : List ℕ) (t : Taken) → first ≡ take t.len text → rest ≡ drop t.len text → taken (front text) ≡ Some t
    → BeginsWithElement text (element.Token t.kind) first rest
token_element text first rest t e f h =
    as_element text first rest t.len (TokenOf t.kind t.nesting) (element.Token t.kind) e f
    (took text t.len t.kind t.nesting (taken_front (front text) t h)) refl
