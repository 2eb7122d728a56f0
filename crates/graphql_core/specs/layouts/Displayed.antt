-- What `Display` of a tree writes: its layout in the default style, if that is not too wide.
use Rattle.std.specs.Prelude.{ℕ, List, Some, Result, OnOk}
use Rattle.std.specs.declared.fmt.Error.{Error}
use Rattle.std.specs.declared.fmt.Formatter.{Formatter}
use Rattle.std.specs.Fmt.{DisplaysOnOk, DisplaysStyledOnOk}
use Rattle.graphql_core.specs.layouts.Style.{StyleOptions, default_style}
use Rattle.graphql_core.specs.layouts.TextParts.{Part, text_of}
use Rattle.graphql_core.specs.layouts.ValueLayout.{IsNarrow}

-- if r is `Ok`, then g is f after writing the text, which opens this many levels
pub record HasDisplayed {W : Type 0} (took : W → List ℕ → W → Type 0) (f : Formatter W) (r : Result (Unit {0}) Error)
    (text : List ℕ) (levels : ℕ) (g : Formatter W) : Type 0 where
  -- by `{}`
  pub writes : DisplaysOnOk took f r (Some text) g
  -- under any options
  pub styled : DisplaysStyledOnOk took f r (Some text) g
  -- the levels are not too wide in the default style
  pub narrow : OnOk r (IsNarrow levels)

-- the same of a tree's layout in the default style
abbrev pub Displays : {W T : Type 0} → (W → List ℕ → W → Type 0) → Formatter W → Result (Unit {0}) Error
    → (StyleOptions → T → List Part) → (StyleOptions → T → ℕ) → T → Formatter W → Type 0
Displays took f r lines levels tree g =
    HasDisplayed took f r (text_of (lines default_style tree)) (levels default_style tree) g
