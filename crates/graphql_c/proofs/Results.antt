-- What a result says of outputs and failures.
use Rattle.std.proofs.Common.{◌≡◌, ◌≤◌, ◌⊎◌, ◌↔◌, ◌∙◌, ℕ, List, length, Option, Result, Ok, Err, MatchResult, IfOk, IsErrAnd, String, string_bytes}
use Rattle.std.proofs.Common.{IsUtf8, inl, inr, refl, sym, ap, subst}
use Rattle.std.specs.Global.{Global}
use Rattle.graphql_core.specs.{Place, CauseText, IsDocumentOf, ParsesDocument, ParseFailure, Language, IsWrittenOf, HasNarrow, HasNone, IsWide, max_length}
use Rattle.graphql_core.specs.{cause_text, no_memory, out_of_memory}
use Rattle.graphql_core.specs.declared.common.cause.Cause.{Cause}
use Rattle.graphql_core.specs.declared.common.cause.Cause.TheVariants as cause
use Rattle.graphql_core.specs.declared.format.error.FormatError.{FormatError}
use Rattle.graphql_core.specs.declared.format.error.FormatError.TheVariants.{TooWide, OutOfMemory}
use Rattle.graphql_c.specs.declared.call_result.CallResult.{CallResult}
use Rattle.graphql_c.specs.declared.failure.Failure.{Failure}
use Rattle.graphql_c.specs.{status_of, layout_status, Numbers, numbers_at, parse_numbers, alone, numbers_of, HasNumbers, Explains, rejected, too_wide, not_utf8, ran_out}
use Rattle.graphql_c.specs.{Fails, FailsBy, IsResultOf, Writes, written, too_short, Finds, done, failed, ReturnsBy, IsAllowed, for_offset}
use Rattle.graphql_core.proofs.{none_parsed, not_long, not_wide}

-- ---- failures

module _ {E : Type 0} {numbers : E → Numbers} {R S : E → Type 0} {V W : Type 0} {text : List ℕ} (failure_is : (e : E) → R e → S e) (width : V → W) where
  -- a failure that is explained is also explained by weaker reasons
  explained : {n : Numbers} → Explains numbers R V text n → Explains numbers S W text n
  explained (rejected e utf8 h) = rejected e utf8 (failure_is e h)
  explained (too_wide h) = too_wide (width h)
  explained (not_utf8 h) = not_utf8 h
  explained ran_out = ran_out

-- the failure that `?` returns
pub same_failure : {T : Type 0} (r : Result T Failure) (P : T → Type 0) (Q : Failure → Type 0) (f : Failure) → Q f → IsErrAnd r (λ y. y ≡ f)
    → MatchResult r P Q
same_failure (Ok v) P Q f h up = absurd up
same_failure (Err y) P Q f h up = subst Q (sym up) h

pub halts : {T E : Type 0} {numbers : E → Numbers} {R : E → Type 0} {text : List ℕ} (r : Result T Failure) (P : T → Type 0) (S : E → Type 0) (W : Type 0) (f : Failure)
    → ((e : E) → R e → S e) → Explains numbers R ⊥ text (numbers_of f) → IsErrAnd r (λ y. y ≡ f) → MatchResult r P (FailsBy numbers S W text)
halts {numbers = numbers} {text = text} r P S W f failure_is h up =
    same_failure r P (FailsBy numbers S W text) f (explained failure_is (λ never. absurd never) h) up

module _ {E : Type 0} {numbers : E → Numbers} {R : E → Type 0} {W : Type 0} {text : List ℕ} where
  -- equal numbers are explained alike
  pub explains_as : {m n : Numbers} → m ≡ n → Explains numbers R W text n → Explains numbers R W text m
  explains_as p h = subst (Explains numbers R W text) (sym p) h

  -- an input that is not UTF-8 has no other errors
  pub explains_bytes : {n : Numbers} → Explains parse_numbers (λ e. ⊥) ⊥ text n → Explains numbers R W text n
  explains_bytes (rejected e utf8 h) = absurd h
  explains_bytes (too_wide h) = absurd h
  explains_bytes (not_utf8 h) = not_utf8 h
  explains_bytes ran_out = ran_out

-- an error with its cause and its position
pub rejected_at : {R : ParseFailure → Type 0} {W : Type 0} {text : List ℕ} {n : Numbers} {c : CauseText} {p : Option Place} (e : ParseFailure) → IsUtf8 text → R e
    → c ≡ e.cause → p ≡ e.place → n ≡ numbers_at (status_of c) p → Explains parse_numbers R W text n
rejected_at {p = p} e utf8 h cause place is =
    explains_as (is ∙ ap (λ c. numbers_at (status_of c) p) cause ∙ ap (λ p. numbers_at (status_of e.cause) p) place) (rejected e utf8 h)

-- an error that is out of memory has its status, and no position
pub out_of_memory_numbers : {n : Numbers} {c : CauseText} {p : Option Place} (e : ParseFailure) → e ≡ no_memory → c ≡ e.cause → p ≡ e.place
    → n ≡ numbers_at (status_of c) p → n ≡ alone (status_of out_of_memory)
out_of_memory_numbers {p = p} e none cause place is =
    is ∙ ap (λ c. numbers_at (status_of c) p) (cause ∙ ap (λ (x : ParseFailure). x.cause) none)
    ∙ ap (λ p. numbers_at (status_of out_of_memory) p) (place ∙ ap (λ (x : ParseFailure). x.place) none)

-- only `OutOfMemory` is out of memory
pub cause_is_out_of_memory : (c : Cause) → cause_text c ≡ out_of_memory → c ≡ cause.OutOfMemory
cause_is_out_of_memory (cause.BadToken b) e = absurd cc
cause_is_out_of_memory (cause.UnexpectedToken kind text) e = absurd cc
cause_is_out_of_memory cause.UnexpectedEnd e = absurd cc
cause_is_out_of_memory cause.TooDeep e = absurd cc
cause_is_out_of_memory cause.IntOutOfRange e = absurd cc
cause_is_out_of_memory cause.MalformedFloat e = absurd cc
cause_is_out_of_memory cause.BadEscape e = absurd cc
cause_is_out_of_memory cause.UnknownLocation e = absurd cc
cause_is_out_of_memory (cause.DuplicateOperation name) e = absurd cc
cause_is_out_of_memory (cause.UnknownOperation name) e = absurd cc
cause_is_out_of_memory cause.EmptyExtension e = absurd cc
cause_is_out_of_memory cause.TextTooLong e = absurd cc
cause_is_out_of_memory cause.OutOfMemory e = refl

-- an input that parses to no document
pub no_document : {D V W : Type 0} {l : Language D} {view : V → D} {text bytes : List ℕ} {e : ParseFailure} {n : Numbers} {c : CauseText} {p : Option Place}
    → ParsesDocument l view text (Err e) → (text ≡ bytes) × IsUtf8 bytes → c ≡ e.cause → p ≡ e.place → n ≡ numbers_at (status_of c) p
    → Explains parse_numbers (HasNone (IsDocumentOf l) l bytes) W bytes n
no_document {l = l} {e = e} parses (same, utf8) cause place is =
    rejected_at e utf8 (subst (λ t. HasNone (IsDocumentOf l) l t e) same (none_parsed parses)) cause place is

-- an input that parses to a document
pub some_document : {D V : Type 0} {l : Language D} {view : V → D} {text bytes : List ℕ} {v : V} → ParsesDocument l view text (Ok v)
    → (text ≡ bytes) × IsUtf8 bytes → IsAllowed bytes × IsDocumentOf l bytes (view v)
some_document {l = l} {view = view} {text = text} {v = v} parses (same, utf8) = (
  (utf8, subst (λ t. length t ≤ max_length) same (not_long text (Ok v) parses.too_long)),
  subst (λ t. IsDocumentOf l t (view v)) same parses.sound,
)

-- the formatted document, or the failure to format it
pub formatted : {D : Type 0} (l : Language D) (text : List ℕ) (d : D) (layout_of : D → List ℕ) (IsTooWide : D → Type 0)
    (made : Result (String Global) FormatError) (r : Result (String Global) Failure) → IsAllowed text × IsDocumentOf l text d
    → IfOk made (λ s. string_bytes s ≡ layout_of d) → (made ≡ Err TooWide) ↔ IsTooWide d
    → MatchResult made (λ s. r ≡ Ok s) (λ e. IsErrAnd r (HasNumbers (alone (layout_status e))))
    → MatchResult r (λ s. IsAllowed text × IsWrittenOf (HasNarrow (IsDocumentOf l) IsTooWide) layout_of text (string_bytes s))
    (Fails (HasNone (IsDocumentOf l) l text) (IsAllowed text × IsWide (IsDocumentOf l) IsTooWide text) text)
formatted l text d layout_of IsTooWide (Ok s) r (allowed, has) is wide same = rw same (allowed, (d, (has, not_wide (Ok s) wide.1), is))
formatted l text d layout_of IsTooWide (Err e) (Ok s) has is wide numbers = absurd numbers
formatted l text d layout_of IsTooWide (Err TooWide) (Err f) (allowed, has) is wide numbers = explains_as numbers (too_wide (allowed, (d, has, wide.0 refl)))
formatted l text d layout_of IsTooWide (Err OutOfMemory) (Err f) has is wide numbers = explains_as numbers ran_out

-- the JSON of the document, or the failure to write it
pub written_as_json : {D A : Type 0} (l : Language D) (text : List ℕ) (d : D) (write : D → List ℕ) (made : Result (String Global) A)
    (r : Result (String Global) Failure) → IsAllowed text × IsDocumentOf l text d → IfOk made (λ s. string_bytes s ≡ write d)
    → MatchResult made (λ s. r ≡ Ok s) (λ e. IsErrAnd r (HasNumbers (alone (status_of out_of_memory))))
    → MatchResult r (λ s. IsAllowed text × IsWrittenOf (IsDocumentOf l) write text (string_bytes s)) (Fails (HasNone (IsDocumentOf l) l text) ⊥ text)
written_as_json l text d write (Ok s) r (allowed, has) is same = rw same (allowed, (d, has, is))
written_as_json l text d write (Err e) (Ok s) has is numbers = absurd numbers
written_as_json l text d write (Err e) (Err f) has is numbers = explains_as numbers ran_out

-- ---- outputs

module _ {old new : List ℕ} {r : CallResult} where
  writes : {Makes : List ℕ → Type 0} {output : List ℕ} → Makes output → Writes (λ t. t ≡ output) old new r → Writes Makes old new r
  writes {Makes = Makes} h (written t is fits put says) = written t (subst Makes (sym is) h) fits put says
  writes {Makes = Makes} h (too_short t is short same says) = too_short t (subst Makes (sym is) h) short same says

  finds : {IsAt : ℕ → Type 0} {n : ℕ} → IsAt n → Finds (λ k. k ≡ n) old new r → Finds IsAt old new r
  finds {IsAt = IsAt} h (n, is, same, says) = (n, subst IsAt (sym is) h, same, says)

-- ---- results of calls

module _ {E : Type 0} {numbers : E → Numbers} {R : E → Type 0} {W : Type 0} {text old new : List ℕ} where
  failed_so : {Done : List ℕ → List ℕ → CallResult → Type 0} (f : Failure) (r : CallResult) → FailsBy numbers R W text f → IsResultOf f old new r
      → ReturnsBy numbers Done R W text old new r
  failed_so f r why (is, message) = failed (string_bytes f.message) (numbers_of f) why is message

  module _ {r : CallResult} where
    -- the result for an output, or for a failure
    pub returned : {Makes : List ℕ → Type 0} (made : Result (String Global) Failure)
        → MatchResult made (λ s. Makes (string_bytes s)) (FailsBy numbers R W text)
        → MatchResult made (λ s. Writes (λ t. t ≡ string_bytes s) old new r) (λ f. IsResultOf f old new r)
        → ReturnsBy numbers (Writes Makes) R W text old new r
    returned (Ok s) is result = done (writes is result)
    returned (Err f) why result = failed_so f r why result

    -- the same for an offset
    pub located : {IsAt : ℕ → Type 0} (at : Result ℕ Failure) → MatchResult at IsAt (FailsBy numbers R W text)
        → MatchResult at (λ n. Finds (λ k. k ≡ n) old new r) (λ f. IsResultOf f old new r) → ReturnsBy numbers (Finds IsAt) R W text old new r
    located (Ok n) is result = done (finds is result)
    located (Err f) why result = failed_so f r why result

-- an offset, or out of memory
pub found_or_out : (old new : List ℕ) {r : CallResult} {n : ℕ} (at : Result ℕ Failure)
    → MatchResult at (λ k. k ≡ n) (HasNumbers (alone (status_of out_of_memory)))
    → MatchResult at (λ k. Finds (λ m. m ≡ k) old new r) (λ f. IsResultOf f old new r) → (r ≡ for_offset n) ⊎ (r.status ≡ status_of out_of_memory)
found_or_out old new (Ok k) is (m, same, kept, says) = inl (says ∙ ap for_offset (same ∙ is))
found_or_out old new (Err f) has (is, message) = inr (ap (λ (c : CallResult). c.status) is ∙ ap (λ (n : Numbers). n.status) has)
