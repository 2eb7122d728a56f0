-- What the engine returns when it formats a parsed document.
use Rattle.std.proofs.Common.{◌≡◌, ◌≤◌, ◌↔◌, ℕ, List, length, Result, Ok, Err, MatchResult, IfOk, IfErr, String, string_bytes, refl}
use Rattle.std.specs.Result.{IsErrAnd}
use Rattle.std.specs.Global.{Global}
use Rattle.graphql_core.specs.{StyleOptions, IsDocumentOf, ParsesDocument, Language, IsWrittenOf, IsWide, HasNarrow, max_length}
use Rattle.graphql_core.proofs.{not_long, not_wide}
use Rattle.graphql_core.specs.declared.format.error.FormatError.{FormatError}
use Rattle.graphql_core.specs.declared.format.error.FormatError.TheVariants.{TooWide, OutOfMemory}
use Rattle.gql.specs.declared.command.Command.{Command}
use Rattle.gql.specs.declared.error.RunError.{RunError}
use Rattle.gql.specs.declared.error.RunError.TheVariants.{Format}
use Rattle.gql.specs.{HasNoLayout, HasDocument, HasOne, EndsEngine}

-- a value comes only for a text of at most `max_length` bytes
pub with_bound : {A E : Type 0} (text : List ℕ) (P : A → Type 0) (r : Result A E) → IfOk r (λ x. length text ≤ max_length) → IfOk r P
    → IfOk r (λ x. (length text ≤ max_length) × P x)
with_bound text P (Ok x) short h = (short, h)
with_bound text P (Err y) short h = tt

-- formatting fails only if the document is too wide or an allocation failed
pub not_formatted : {A : Type 0} (command : Command) (style : StyleOptions) (text : List ℕ) (made : Result A FormatError) → length text ≤ max_length
    → HasDocument command text → (made ≡ Err TooWide → HasNoLayout command style text) → IfErr made (λ e. EndsEngine command style text (Format e))
not_formatted command style text (Ok x) short some wide = tt
not_formatted command style text (Err TooWide) short some wide = (short, wide refl)
not_formatted command style text (Err OutOfMemory) short some wide = (short, some)

-- the formatted document, or the error that it is too wide or that an allocation failed
pub formatted : {D V : Type 0} {l : Language D} {view : V → D} {text : List ℕ} {v : V} (command : Command) (style : StyleOptions) (layout_of : D → List ℕ)
    (IsTooWide : D → Type 0) (made : Result (String Global) FormatError) (r : Result (String Global) RunError)
    → (HasOne (IsDocumentOf l) text → HasDocument command text) → (IsWide (IsDocumentOf l) IsTooWide text → HasNoLayout command style text)
    → ParsesDocument l view text (Ok v) → IfOk made (λ s. string_bytes s ≡ layout_of (view v)) → (made ≡ Err TooWide) ↔ IsTooWide (view v)
    → MatchResult made (λ s. r ≡ Ok s) (λ e. IsErrAnd r (λ y. y ≡ Format e))
    → MatchResult r (λ s. (length text ≤ max_length) × IsWrittenOf (HasNarrow (IsDocumentOf l) IsTooWide) layout_of text (string_bytes s))
    (EndsEngine command style text)
formatted {text = text} {v = v} command style layout_of IsTooWide (Ok s) r some wide parses is too_wide same =
    rw same (not_long text (Ok v) parses.too_long, (_, (parses.sound, not_wide (Ok s) too_wide.1), is))
formatted command style layout_of IsTooWide (Err e) (Ok s) some wide parses is too_wide failed = absurd failed
formatted {text = text} {v = v} command style layout_of IsTooWide (Err e) (Err y) some wide parses is too_wide same =
    rw same (not_formatted command style text (Err e) (not_long text (Ok v) parses.too_long) (some (_, parses.sound))
    (λ why. wide (_, parses.sound, too_wide.0 why)))
