-- The options of a format style.
use Rattle.std.specs.Prelude.{ℕ, Bool, false, List, replicate}

pub record StyleOptions : Type 0 where
  -- spaces per level
  pub indent : ℕ
  -- arguments, lists and objects take one line per part
  pub multiline : Bool

abbrev pub default_style : StyleOptions
default_style = record { indent = 2; multiline = false }

abbrev pub with_indent : StyleOptions → ℕ → StyleOptions
with_indent style n = record { indent = n; multiline = style.multiline }

abbrev pub with_multiline : StyleOptions → Bool → StyleOptions
with_multiline style b = record { indent = style.indent; multiline = b }

abbrev pub spaces : ℕ → List ℕ
spaces n = replicate n 32
