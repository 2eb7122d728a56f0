-- What a checker finds at a token and at the end.
use Rattle.std.specs.Prelude.{◌≡◌, ◌+◌, ℕ, true, List, [], ◌∷◌, ◌++◌, length, Result, Ok, Err}
use Rattle.graphql_core.specs.{Token}
use Rattle.graphql_standard.specs.Recognizing.{BeginsDocument}
use Rattle.graphql_standard.specs.Terminals.{IsTokenOf}
use Rattle.graphql_standard.specs.Places.{EndsWith, IsPlaceBefore}
use Rattle.graphql_standard.specs.Checking.{is_opening, openers, closers, HasCheckedTokens, IsExpectedAfter}
use Rattle.graphql_standard.specs.declared.terminal.Terminal.{Terminal}
use Rattle.graphql_standard.specs.declared.error.Found.TheVariants as found
use Rattle.graphql_standard.specs.declared.error.CheckError.{CheckError}
use Rattle.graphql_standard.specs.declared.error.CheckError.TheVariants as error
use Rattle.graphql_standard.specs.declared.checker.Checker.{Checker}

-- the rest ends the source
abbrev pub HasFront : Checker → Type 0
HasFront c = EndsWith c.source.now c.rest.now

-- the source and its rest are the same
abbrev pub HasSameRest : (old new : Checker) → Type 0
HasSameRest old new = (new.source.now ≡ old.source.now) × (new.rest.now ≡ old.rest.now)

-- after these tokens the next token is read, or this is its error
abbrev pub ReadsToken : (limit : ℕ) → List Token → Token → Result (Unit {0}) CheckError → Checker → Type 0
ReadsToken limit ts t (Ok _) c = HasCheckedTokens limit (ts ++ t ∷ []) c
ReadsToken limit ts t (Err (error.Syntax e)) c =
    IsPlaceBefore c.source.now c.rest.now e.place × IsExpectedAfter ts e.expected × (e.len ≡ length t.spelling)
    × ((k : Terminal) × (e.found ≡ found.Token k) × IsTokenOf k t) × (BeginsDocument (ts ++ t ∷ []) → ⊥)
ReadsToken limit ts t (Err (error.TooDeep p)) c =
    IsPlaceBefore c.source.now c.rest.now p × BeginsDocument (ts ++ t ∷ []) × (is_opening t ≡ true) × (openers ts ≡ closers ts + limit)
ReadsToken limit ts t (Err error.TooLong) c = ⊥
ReadsToken limit ts t (Err error.OutOfMemory) c = Unit {0}
