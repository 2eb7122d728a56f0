-- The errors of the parts of a source.
use Rattle.std.proofs.Common.{◌≡◌, ◌≢◌, ◌≤◌, ◌<◌, ◌+◌, ℕ, List, [], ◌∷◌, ◌++◌, length, slice_index, refl, sym, ap, ◌∙◌, subst}
use Rattle.std.proofs.Common.{inl, inr, arith, append_assoc, append-nil, length-append, Option, Some, None, MatchOption, IfSome}
use Rattle.graphql_core.specs.{Piece, Ignored, max_length}
use Rattle.graphql_core.specs.declared.tokenizer.piece.Move.TheVariants.{Down}
use Rattle.graphql_core.specs.declared.tokenizer.token.Kind.TheVariants.{Name}
use Rattle.graphql_core.specs.lexical.Lexical.{ignored_line_feed}
use Rattle.graphql_standard.specs.lexical.Elements.{shared_element}
use Rattle.graphql_standard.specs.Places.{IsPlaceAfter}
use Rattle.graphql_standard.specs.Checking.{IsRightTo, IsErrorOfPart, place_of}
use Rattle.graphql_standard.specs.AllErrors.{BeginsDefinition, HasErrors, no_error, last_error, more_errors}
use Rattle.graphql_standard.specs.AllErrors.{IsRight, IsPartError, IsLastError, GoesOn}
use Rattle.graphql_standard.specs.steps.Parts.{ArePlaces, AreApart, IsPart}
use Rattle.graphql_standard.specs.declared.place.Place.{Place}
use Rattle.graphql_standard.specs.declared.error.SyntaxError.{SyntaxError}
use Rattle.graphql_standard.specs.declared.error.CheckError.{CheckError}
use Rattle.graphql_standard.specs.declared.error.CheckError.TheVariants as error
use Rattle.graphql_standard.specs.declared.errors.Part.{Part}
use Rattle.graphql_standard.proofs.lexical.Elements.{same_element}
use Rattle.graphql_standard.proofs.Tokens.{token_meaning}

-- ---- texts that do not begin with LF

no_feed : (text : List ℕ) → BeginsDefinition text → slice_index text 0 ≢ 10
no_feed [] h e = absurd cc
no_feed (b ∷ bs) (word, after, k, bytes, (m, is, el, kind), first, doc) e =
    let feed : b ∷ bs ≡ (10 ∷ []) ++ bs = ap (λ (c : ℕ). c ∷ bs) e in
    let same = same_element (b ∷ bs) is feed (inl el) (inl (shared_element {bytes = 10 ∷ []} {m = Ignored Down} {rest = bs} refl ignored_line_feed)) in
    let (n, token) = token_meaning word m Name kind in
    let wrong = sym token ∙ same.meaning in absurd cc

apart : (front part text rest : List ℕ) → part ≡ text ++ rest → AreApart front part → AreApart front text
apart front part text rest e (inl none) = inl none
apart front part [] rest e (inr h) = inr (λ z. absurd cc)
apart front part (x ∷ xs) rest e (inr h) = inr (λ z. h (ap (λ (l : List ℕ). slice_index l 0) e ∙ z))

-- ---- a place of a part, in the source

-- what `in_source` ensures
abbrev pub IsInSource : (start p q : Place) → Type 0
IsInSource start p q =
    (front text : List ℕ) → ArePlaces front text start p → AreApart front text → IsPlaceAfter (front ++ text) q

-- the place before this rest of a part
pub within : (source front part text rest : List ℕ) (start p : Place) → length source ≤ max_length → source ≡ front ++ part
    → part ≡ text ++ rest → IsPlaceAfter front start → IsPlaceAfter text p → ArePlaces front text start p
within source front part text rest start p short whole is first second = record {
  front_is = first;
  text_is = second;
  short = omega (arith, short, ap length whole, length-append front part, ap length is, length-append text rest);
}

pub right_in_source : (limit : ℕ) (source : List ℕ) (p : Part) (f e : Place) (ps : List Piece) (rest : List ℕ) → IsPart source p
    → IsRightTo limit p.text.now p.text.now f ps rest → IsInSource p.start f e → IsRightTo limit source p.text.now e ps rest
right_in_source limit source p f e ps rest h right places =
    of h.starts right.place_is
  where
    of : ((front : List ℕ) × (source ≡ front ++ p.text.now) × IsPlaceAfter front p.start × AreApart front p.text.now)
        → ((text : List ℕ) × (p.text.now ≡ text ++ rest) × IsPlaceAfter text f) → IsRightTo limit source p.text.now e ps rest
    of (front, whole, first, others) (text, is, second) = record {
      parts = right.parts;
      place_is = (
        front ++ text,
        whole ∙ ap (λ (l : List ℕ). front ++ l) is ∙ sym (append_assoc front text rest),
        places front text (within source front p.text.now text rest p.start f h.short whole is first second)
            (apart front p.text.now text rest is others),
      );
      begins = right.begins;
      within = right.within;
    }

-- ---- the error of a part, in the source

syntax_error : (e : SyntaxError) → error.Syntax e ≡ error.OutOfMemory → ⊥
syntax_error e h = cc

deep_error : (p : Place) → error.TooDeep p ≡ error.OutOfMemory → ⊥
deep_error p h = cc

long_error : error.TooLong ≡ error.OutOfMemory → ⊥
long_error h = cc

pub syntax_in_source : (limit : ℕ) (source : List ℕ) (p : Part) (k : CheckError) (e : SyntaxError) (q : Place) → k ≡ error.Syntax e
    → IsErrorOfPart limit p.text.now p.text.now k → IsPart source p → IsInSource p.start e.place q
    → IsPartError limit source p.text.now
    (error.Syntax (record { place = q; len = e.len; found = e.found; expected = e.expected }))
syntax_in_source limit source p k e q is h part places =
    let (ps, rest, right, wrong, expected) = subst (IsErrorOfPart limit p.text.now p.text.now) is h in
    (syntax_error _, (ps, rest, right_in_source limit source p e.place q ps rest part right places, wrong, expected))

pub deep_in_source : (limit : ℕ) (source : List ℕ) (p : Part) (k : CheckError) (e q : Place) → k ≡ error.TooDeep e
    → IsErrorOfPart limit p.text.now p.text.now k → IsPart source p → IsInSource p.start e q
    → IsPartError limit source p.text.now (error.TooDeep q)
deep_in_source limit source p k e q is h part places =
    let (ps, rest, right, kind, bytes, after, begins, first, opens, full) = subst (IsErrorOfPart limit p.text.now p.text.now) is h in
    let moved = right_in_source limit source p e q ps rest part right places in
    (deep_error q, (ps, rest, moved, kind, bytes, after, begins, first, opens, full))

no_place : (p : Place) → place_of error.TooLong ≡ Some p → ⊥
no_place p h = cc

pub too_long : (limit : ℕ) (source : List ℕ) (errors : List CheckError) → errors ≡ error.TooLong ∷ [] → max_length < length source
    → HasErrors limit source source errors
too_long limit source errors is long =
    subst (HasErrors limit source source) (sym is) (last_error (long_error, long) (λ p e. absurd (no_place p e)))

-- the end of a part is a part
pub end_part : (source : List ℕ) (p : Part) (end : List ℕ) (between e : Place) → IsPart source p → BeginsDefinition end
    → ((text : List ℕ) × (p.text.now ≡ text ++ end) × IsPlaceAfter text between) → IsInSource p.start between e
    → (front : List ℕ) × (source ≡ front ++ end) × IsPlaceAfter front e × AreApart front end
end_part source p end between e h begins (text, is, second) places = of h.starts
  where
    of : ((front : List ℕ) × (source ≡ front ++ p.text.now) × IsPlaceAfter front p.start × AreApart front p.text.now)
        → (front : List ℕ) × (source ≡ front ++ end) × IsPlaceAfter front e × AreApart front end
    of (front, whole, first, others) = (
      front ++ text,
      whole ∙ ap (λ (l : List ℕ). front ++ l) is ∙ sym (append_assoc front text end),
      places front text (within source front p.text.now text end p.start between h.short whole is first second)
          (apart front p.text.now text end is others),
      inr (no_feed end begins),
    )

-- ---- all errors

-- the errors so far, before those of the part that is left
abbrev pub HasSoFar : (limit : ℕ) (source : List ℕ) (errors : List CheckError) → Option Part → Type 0
HasSoFar limit source errors next =
    MatchOption next (HasErrors limit source source errors)
    (λ p. IsPart source p × ((es : List CheckError) → HasErrors limit source p.text.now es → HasErrors limit source source (errors ++ es)))

pub no_more : (limit : ℕ) (source : List ℕ) (errors : List CheckError) (p : Part) → HasSoFar limit source errors (Some p)
    → IsRight limit p.text.now → HasSoFar limit source errors None
no_more limit source errors p (part, so_far) right =
    subst (HasErrors limit source source) (append-nil errors) (so_far [] (no_error right))

pub one_more : (limit : ℕ) (source : List ℕ) (errors : List CheckError) (p : Part) (e : CheckError) (next : Option Part)
    → HasSoFar limit source errors (Some p) → IsPartError limit source p.text.now e
    → MatchOption next (IsLastError source p.text.now e) (λ later. GoesOn source p.text.now e later.text.now)
    → IfSome next (λ later. IsPart source later) → HasSoFar limit source (errors ++ e ∷ []) next
one_more limit source errors p e None (part, so_far) is last later = so_far (e ∷ []) (last_error is last)
one_more limit source errors p e (Some q) (part, so_far) is goes later = (
  later,
  λ es h.
      subst (HasErrors limit source source) (sym (append_assoc errors (e ∷ []) es)) (so_far (e ∷ es) (more_errors is goes h)),
)
