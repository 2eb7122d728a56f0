-- A source that has a first error is no document within the limit.
use Rattle.std.proofs.Common.{◌≡◌, ◌≤◌, ◌<◌, ◌+◌, ◌⊎◌, ℕ, true, false, ◌==◌, List, [], ◌∷◌, ◌++◌, length, codes, Result, Ok, Err, Option, Some, None}
use Rattle.std.proofs.Common.{refl, sym, ap, ◌∙◌, subst, inl, inr, arith, append_assoc, append-nil}
use Rattle.std.specs.Option.{is_some}
use Rattle.std.proofs.lemmas.Bool.{and_parts, or_cases}
use Rattle.graphql_core.specs.{Token, Piece, Meaning, Ignored, TokenOf, Sym, sample, same_spelling, is_listed, kind_number, max_length}
use Rattle.graphql_core.specs.grammar.Trees.{Derives}
use Rattle.graphql_core.specs.lexical.Elements.{element_kind}
use Rattle.graphql_core.specs.declared.tokenizer.token.Kind.{Kind}
use Rattle.graphql_core.specs.declared.tokenizer.token.Kind.TheVariants.{Punctuator}
use Rattle.graphql_core.specs.declared.tokenizer.element.ElementKind.{ElementKind}
use Rattle.graphql_core.specs.declared.tokenizer.element.ElementKind.TheVariants as element
use Rattle.graphql_core.proofs.grammar.Classes.{same_spelling-true}
use Rattle.graphql_standard.specs.Grammar.{standard}
use Rattle.graphql_standard.specs.Symbols as symbol
use Rattle.graphql_standard.specs.lexical.Elements.{IsElement, IsDividedInto, BeginsWithOneOf}
use Rattle.graphql_standard.specs.Recognizing.{IsDocument, BeginsDocument}
use Rattle.graphql_standard.specs.Checking.{token_and, tokens_of, HasTokens, opening_brackets, closing_brackets, is_opening, is_closing}
use Rattle.graphql_standard.specs.Checking.{openers, closers, IsWithin, BeginsWithAll, IsWrongAfter, IsRightTo}
use Rattle.graphql_standard.specs.Checking.{IsCheckError, ChecksStandard, ChecksNext, HasChecked, HasCheckedTokens}
use Rattle.graphql_standard.specs.declared.tokenizer.element.Element.{Element}
use Rattle.graphql_standard.specs.Terminals.{IsSpellingOf}
use Rattle.graphql_standard.specs.Places.{IsPlaceBefore}
use Rattle.graphql_standard.specs.declared.place.Place.{Place}
use Rattle.graphql_standard.specs.steps.Checking.{HasSameRest, ReadsToken}
use Rattle.graphql_standard.specs.declared.error.Found.{Found}
use Rattle.graphql_standard.specs.declared.error.Found.TheVariants as found
use Rattle.graphql_standard.specs.declared.error.CheckError.{CheckError}
use Rattle.graphql_standard.specs.declared.error.CheckError.TheVariants as error
use Rattle.graphql_standard.specs.declared.checker.Checker.{Checker}
use Rattle.graphql_standard.specs.steps.Brackets.{one_if}
use Rattle.graphql_standard.proofs.Documents.{exact}
use Rattle.graphql_standard.proofs.lexical.Elements.{same_element}
use Rattle.graphql_standard.proofs.lexical.Following.{none_at_end, piece_same}
use Rattle.graphql_standard.proofs.Checking.{tokens_more, count_more}
use Rattle.graphql_standard.proofs.Tokens.{token_meaning, element_spelled}

-- ---- elements

and_piece : (p q : Piece) (ps qs : List Piece) → p ≡ q → ps ≡ qs → p ∷ ps ≡ q ∷ qs
and_piece p q ps qs e f = rw (e, f) refl

-- the elements that are read are the first of the division of a source
same_start : (source : List ℕ) (ps qs : List Piece) (rest : List ℕ) → BeginsWithAll source ps rest → IsDividedInto IsElement source qs []
    → (more : List Piece) × (qs ≡ ps ++ more) × IsDividedInto IsElement rest more []
same_start source [] qs rest e d = (qs, refl, subst (λ (l : List ℕ). IsDividedInto IsElement l qs []) e d)
same_start source (p ∷ ps) [] rest (after, is, el, more) (e, none) = absurd (none p.bytes p.meaning after el (sym e ∙ is))
same_start source (p ∷ ps) (q ∷ qs) rest (after, is, el, more) (behind, f, fl, others) =
    let same = same_element source is f (inl el) (inl fl) in
    let (left, eq, d) = same_start after ps qs rest more (subst (λ (l : List ℕ). IsDividedInto IsElement l qs []) (sym same.rest) others) in
    (left, and_piece q p qs (ps ++ left) (sym (piece_same p q same.bytes same.meaning)) eq, d)

pub divided : (source : List ℕ) (ps : List Piece) → BeginsWithAll source ps [] → IsDividedInto IsElement source ps []
divided source [] e = (e, λ b m r el is. none_at_end b m r (inl el) is)
divided source (p ∷ ps) (after, e, el, more) = (after, e, el, divided after ps more)

-- the next token of a division
next_token : (rest : List ℕ) (more : List Piece) (kind : Kind) (bytes after : List ℕ) → BeginsWithOneOf IsElement rest (element.Token kind) bytes after
    → IsDividedInto IsElement rest more [] → (us : List Token) × (tokens_of more ≡ sample kind bytes ∷ us)
next_token rest [] kind bytes after (m, is, el, kd) (e, none) = absurd (none bytes m after el (sym e ∙ is))
next_token rest (p ∷ more) kind bytes after (m, is, el, kd) (behind, f, fl, others) =
    let same = same_element rest is f (inl el) (inl fl) in
    let (n, token) = token_meaning bytes m kind kd in
    (tokens_of more, rw (sym same.meaning, sym same.bytes, token) refl)

-- ---- first errors

begins_with : (ts us : List Token) (t : Token) → IsDocument (ts ++ t ∷ us) → BeginsDocument (ts ++ t ∷ [])
begins_with ts us t (x, d) =
    (x, us, subst (λ (l : List Token). Derives standard (Sym symbol.document) l x) (sym (append_assoc ts (t ∷ []) us)) d)

not_wrong : (ts : List Token) (rest : List ℕ) (more : List Piece) (f : Found) (n : ℕ) → IsWrongAfter ts rest f n
    → IsDividedInto IsElement rest more [] → IsDocument (ts ++ tokens_of more) → ⊥
not_wrong ts rest more (found.Token k) n (kind, bytes, after, begins, token, ends, len) d doc =
    let (us, is) = next_token rest more kind bytes after begins d in
    ends (begins_with ts us (sample kind bytes) (subst (λ (l : List Token). IsDocument (ts ++ l)) is doc))
not_wrong ts rest [] found.EndOfInput n (e, ends, len) d doc = ends (subst IsDocument (append-nil ts) doc)
not_wrong ts rest (p ∷ more) found.EndOfInput n (e, ends, len) (behind, f, fl, others) doc = none_at_end p.bytes p.meaning behind (inl fl) (sym e ∙ f)
not_wrong ts rest [] found.LexicalError n (some, none, len) (e, last) doc = some e
not_wrong ts rest (p ∷ more) found.LexicalError n (some, none, len) (behind, f, fl, others) doc = none p.bytes p.meaning behind fl f

brackets_apart : (s : List ℕ) → is_listed s opening_brackets ≡ true → is_listed s closing_brackets ≡ false
brackets_apart s h = first (or_cases (same_spelling s (codes "(")) _ h)
  where
    apart : (x : List ℕ) → is_listed x closing_brackets ≡ false → same_spelling s x ≡ true → is_listed s closing_brackets ≡ false
    apart x other e = subst (λ (l : List ℕ). is_listed l closing_brackets ≡ false) (sym (same_spelling-true s x e)) other

    third : (same_spelling s (codes "{") ≡ true) ⊎ (false ≡ true) → is_listed s closing_brackets ≡ false
    third (inl e) = apart (codes "{") refl e
    third (inr e) = absurd cc

    second : (same_spelling s (codes "[") ≡ true) ⊎ (is_listed s (codes "{" ∷ []) ≡ true) → is_listed s closing_brackets ≡ false
    second (inl e) = apart (codes "[") refl e
    second (inr k) = third (or_cases (same_spelling s (codes "{")) false k)

    first : (same_spelling s (codes "(") ≡ true) ⊎ (is_listed s (codes "[" ∷ codes "{" ∷ []) ≡ true) → is_listed s closing_brackets ≡ false
    first (inl e) = apart (codes "(") refl e
    first (inr k) = second (or_cases (same_spelling s (codes "[")) _ k)

no_closing : (t : Token) → is_opening t ≡ true → is_closing t ≡ false
no_closing t h =
    let (kind, listed) = and_parts (t.kind == kind_number Punctuator) (is_listed t.spelling opening_brackets) h in
    rw (kind, brackets_apart t.spelling listed) refl

not_deep : (limit : ℕ) (ts us : List Token) (t : Token) → is_opening t ≡ true → openers ts ≡ closers ts + limit → IsWithin limit (ts ++ t ∷ us) → ⊥
not_deep limit ts us t opens full w =
    let within = w (ts ++ t ∷ []) us (sym (append_assoc ts (t ∷ []) us)) in
    omega (arith, within, full, count_more is_opening ts t, count_more is_closing ts t, ap one_if opens, ap one_if (no_closing t opens))

-- a document within the limit has no error
pub only_out_of_memory : (limit : ℕ) (source : List ℕ) (e : CheckError) (ts : List Token) → IsCheckError limit source e → length source ≤ max_length
    → HasTokens source ts → IsDocument ts → IsWithin limit ts → e ≡ error.OutOfMemory
only_out_of_memory limit source (error.Syntax x) ts (ps, rest, right, wrong, expected) short (qs, d, is) doc w =
    let (more, all, left) = same_start source ps qs rest right.parts d in
    let whole = is ∙ (ap tokens_of all ∙ tokens_more ps more) in
    absurd (not_wrong (tokens_of ps) rest more x.found x.len wrong left (subst IsDocument whole doc))
only_out_of_memory limit source (error.TooDeep p) ts (ps, rest, right, kind, bytes, after, begins, first, opens, full) short (qs, d, is) doc w =
    let (more, all, left) = same_start source ps qs rest right.parts d in
    let (us, next) = next_token rest more kind bytes after begins left in
    let whole = is ∙ (ap tokens_of all ∙ (tokens_more ps more ∙ ap (λ (l : List Token). tokens_of ps ++ l) next)) in
    absurd (not_deep limit (tokens_of ps) us (sample kind bytes) opens full (subst (IsWithin limit) whole w))
only_out_of_memory limit source error.TooLong ts long short has doc w = absurd (omega (arith, long, short))
only_out_of_memory limit source error.OutOfMemory ts e short has doc w = refl

-- ---- the next element

-- the element is no token
pub ignored_read : (limit : ℕ) (ts : List Token) (c : Checker) (bytes : List ℕ) (m : Meaning) (kind : ElementKind) → element_kind bytes m ≡ kind
    → ((k : Kind) → kind ≡ element.Token k → ⊥) → HasCheckedTokens limit ts c → HasCheckedTokens limit (ts ++ token_and m bytes []) c
ignored_read limit ts c bytes (Ignored x) kind is other h = subst (λ (l : List Token). HasCheckedTokens limit l c) (sym (append-nil ts)) h
ignored_read limit ts c bytes (TokenOf k n) kind is other h = absurd (other k (sym is))

-- what `read` ensures
abbrev pub ReadsAs : Kind → List ℕ → (old new : Checker) → Result (Unit {0}) CheckError → Type 0
ReadsAs k bytes old new r =
    (l : ℕ) (ts : List Token) → HasCheckedTokens l ts old → IsSpellingOf k bytes → ReadsToken l ts (sample k bytes) r new

-- the element is a token
pub token_read : (limit : ℕ) (ts : List Token) (k : Kind) (bytes after : List ℕ) (m : Meaning) (old new : Checker) (r : Result (Unit {0}) CheckError)
    → element_kind bytes m ≡ element.Token k → IsElement bytes m after → HasCheckedTokens limit ts old → r ≡ Ok tt → ReadsAs k bytes old new r
    → HasCheckedTokens limit (ts ++ token_and m bytes []) new
token_read limit ts k bytes after m old new r kind el h is reads =
    let (n, token) = token_meaning bytes m k kind in
    let done = subst (λ (x : Result (Unit {0}) CheckError). ReadsToken limit ts (sample k bytes) x new) is (reads limit ts h (element_spelled m k kind el)) in
    subst (λ (x : Meaning). HasCheckedTokens limit (ts ++ token_and x bytes []) new) (sym token) done

right_to : (limit : ℕ) (source : List ℕ) (ps : List Piece) (old new : Checker) (p : Place) → HasChecked limit source ps old → HasSameRest old new
    → IsPlaceBefore new.source.now new.rest.now p → IsRightTo limit source source p ps old.rest.now
right_to limit source ps old new p h (whole, rest) (front, is, place) = record {
  parts = h.parts;
  place_is = (front, sym (whole ∙ h.source_is) ∙ is ∙ ap (λ (l : List ℕ). front ++ l) rest, place);
  begins = h.tokens.begins;
  within = h.tokens.within;
}

-- the token has an error
pub token_error : (limit : ℕ) (source : List ℕ) (ps : List Piece) (k : Kind) (bytes after : List ℕ) (old new : Checker) (r : Result (Unit {0}) CheckError)
    (e : CheckError) → HasChecked limit source ps old → BeginsWithOneOf IsElement old.rest.now (element.Token k) bytes after → HasSameRest old new
    → r ≡ Err e → ReadsAs k bytes old new r → IsCheckError limit source e
token_error limit source ps k bytes after old new r e h begins same is reads =
    let (m, whole, el, kind) = begins in
    by e (subst (λ (x : Result (Unit {0}) CheckError). ReadsToken limit (tokens_of ps) (sample k bytes) x new) is
    (reads limit (tokens_of ps) h.tokens (element_spelled m k kind el)))
  where
    by : (x : CheckError) → ReadsToken limit (tokens_of ps) (sample k bytes) (Err x) new → IsCheckError limit source x
    by (error.Syntax x) (place, expected, len, (j, same_found, token), ends) =
        let wrong : IsWrongAfter (tokens_of ps) old.rest.now (found.Token j) x.len = (k, bytes, after, begins, token, ends, len) in (
          ps,
          old.rest.now,
          right_to limit source ps old new x.place h same place,
          subst (λ (f : Found). IsWrongAfter (tokens_of ps) old.rest.now f x.len) (sym same_found) wrong,
          expected,
        )
    by (error.TooDeep p) (place, first, opens, full) =
        (ps, old.rest.now, right_to limit source ps old new p h same place, k, bytes, after, begins, first, opens, full)
    by error.TooLong none = absurd none
    by error.OutOfMemory none = tt

-- ---- the results of `check`

pub accepts : {A : Type 0} (limit : ℕ) (source : List ℕ) (ps : List Piece) (c : Checker) (x : A) → BeginsWithAll source ps [] → IsDocument (tokens_of ps)
    → HasChecked limit source ps c → ChecksStandard limit source (Ok x)
accepts limit source ps c x parts doc h = record {
  sound = (tokens_of ps, (ps, divided source ps parts, refl), doc, h.tokens.within);
  complete = λ ts short has d w. tt;
  unambiguous = λ ts x y has d e. exact.unambiguous ts x y d e;
  first_error = tt;
  too_long = λ long. absurd (omega (arith, long, h.short));
}

pub rejects : {A : Type 0} (limit : ℕ) (source : List ℕ) (e : CheckError) → IsCheckError limit source e → (max_length < length source → e ≡ error.TooLong)
    → ChecksStandard {A = A} limit source (Err e)
rejects {A} limit source e h long = record {
  sound = tt;
  complete = λ ts short has d w. only_out_of_memory limit source e ts h short has d w;
  unambiguous = λ ts x y has d f. exact.unambiguous ts x y d f;
  first_error = h;
  too_long = λ past. ap Err (long past);
}

-- after a call that returns no error, the checker has read some elements
pub next_checked : (limit : ℕ) (source : List ℕ) (ps : List Piece) (o : Option Element) (c : Checker) → ChecksNext limit source ps (Ok o) c
    → (qs : List Piece) × HasChecked limit source qs c
next_checked limit source ps None c (parts, doc, h) = (ps, h)
next_checked limit source ps (Some e) c (m, kind, rest, h) = (ps ++ record { bytes = e.text.now; meaning = m } ∷ [], h)

pub next_none : (limit : ℕ) (source : List ℕ) (ps : List Piece) (o : Option Element) (c : Checker) → ChecksNext limit source ps (Ok o) c
    → false ≡ is_some o → ChecksStandard {A = Unit {0}} limit source (Ok tt)
next_none limit source ps None c (parts, doc, h) e = accepts limit source ps c tt parts doc h
next_none limit source ps (Some x) c next e = absurd cc
