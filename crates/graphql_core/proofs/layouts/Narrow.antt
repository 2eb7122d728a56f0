-- What `Display` writes after the check of the width: it fits, and it is the output in the default style.
use Rattle.std.specs.declared.fmt.Error.{Error}
use Rattle.std.specs.declared.fmt.Formatter.{Formatter}
use Rattle.std.specs.Fmt.{HasWrittenStyled, IsDefaultSpec, IsFlush, WritesOnOk, WritesStyledOnOk}
use Rattle.std.proofs.Common.{List, ◌≡◌, ◌-◌, ◌*◌, ◌^◌, ◌<◌, ◌↔◌, ℕ, Result, Ok, Err, OnOk, false, true, min, subst, sym, arith}
use Rattle.std.proofs.lemmas.Bool.{false≢true}
use Rattle.graphql_core.specs.{Displays, StyleOptions, Part, default_style, text_of, IsTooWide, IsNarrow}
use Rattle.graphql_core.proofs.layouts.Appending.{on_ok}

-- what a check states that accepts this number of levels
abbrev pub LetThrough : StyleOptions → ℕ → Type 0
LetThrough style levels = (n : ℕ) → levels ≡ min n (2 ^ 64 - 1) → (false ≡ true) ↔ IsTooWide style n

-- the levels take no more than `u32::MAX` spaces
pub fits : (style : StyleOptions) (levels n : ℕ) → levels ≡ min n (2 ^ 64 - 1) → LetThrough style levels → n * style.indent < 2 ^ 32
fits style levels n counted through =
    let narrow : IsTooWide style n → ⊥ = λ wide. absurd (false≢true ((through n counted).1 wide)) in
    omega (arith, narrow)

-- the output is not too wide in the default style
pub narrow : {A E : Type 0} (r : Result A E) (levels n : ℕ) → levels ≡ min n (2 ^ 64 - 1) → LetThrough default_style levels → OnOk r (IsNarrow n)
narrow r levels n counted through = on_ok r (λ wide. absurd (false≢true ((through n counted).1 wide)))

module _ {W : Type 0} (took : W → List ℕ → W → Type 0) (f g : Formatter W) where
  -- what was written on success was written under any options
  pub written : (r : Result (Unit {0}) Error) (text : List ℕ) → OnOk r (IsFlush f → HasWrittenStyled took f text g) → WritesStyledOnOk took f r text g
  written (Ok x) text wrote flush ok = wrote flush
  written (Err e) text wrote flush ok = absurd (false≢true ok)

  -- in a style equal to the default style, the output was written in the default style
  pub in_default_style : (r : Result (Unit {0}) Error) (style : StyleOptions) (text : StyleOptions → List ℕ) → style ≡ default_style
      → OnOk r (IsFlush f → HasWrittenStyled took f (text style) g) → OnOk r (IsFlush f → HasWrittenStyled took f (text default_style) g)
  in_default_style r style text same = subst (λ s. OnOk r (IsFlush f → HasWrittenStyled took f (text s) g)) same

  -- so it was without options
  pub written_plain : (r : Result (Unit {0}) Error) (text : List ℕ) → OnOk r (IsFlush f → HasWrittenStyled took f text g) → WritesOnOk took f r text g
  written_plain r text wrote plain ok =
      let wrote = written r text wrote plain.flush ok in
      record { wrote = wrote.wrote; plain = record { bare = subst IsDefaultSpec (sym wrote.spec) plain.bare; flush = wrote.flush } }

  module _ {T : Type 0} (r : Result (Unit {0}) Error) (style : StyleOptions) (lines : StyleOptions → T → List Part)
      (opens : StyleOptions → T → ℕ) (tree : T) where
    -- what was written in a style equal to the default style is displayed, if it is not too wide
    pub displays_narrow : style ≡ default_style → OnOk r (IsFlush f → HasWrittenStyled took f (text_of (lines style tree)) g)
        → OnOk r (IsNarrow (opens default_style tree)) → Displays took f r lines opens tree g
    displays_narrow same wrote narrow =
        let wrote = in_default_style r style (λ (s : StyleOptions). text_of (lines s tree)) same wrote in
        record {
          writes = written_plain r (text_of (lines default_style tree)) wrote;
          styled = written r (text_of (lines default_style tree)) wrote;
          narrow = narrow;
        }

    -- so it is after the check of its levels
    pub displays : (levels : ℕ) → style ≡ default_style → levels ≡ min (opens style tree) (2 ^ 64 - 1) → LetThrough style levels
        → OnOk r (IsFlush f → HasWrittenStyled took f (text_of (lines style tree)) g) → Displays took f r lines opens tree g
    displays levels same counted through wrote =
        let counted = subst (λ (s : StyleOptions). levels ≡ min (opens s tree) (2 ^ 64 - 1)) same counted in
        let through = subst (λ (s : StyleOptions). LetThrough s levels) same through in
        displays_narrow same wrote (narrow r levels (opens default_style tree) counted through)
