-- The arguments of the program.
use Rattle.std.specs.Prelude.{◌≡◌, ℕ, ◌^◌, Bool, true, false, ◌&&◌, nat_lt, nat_le, nat_eq, List, [], ◌∷◌, length}
use Rattle.std.specs.Prelude.{Option, Some, None, if◌then◌else◌, codes}
use Rattle.std.specs.Cmp.Lexicographic.{pointwise}
use Rattle.std.specs.List.{list_all}
use Rattle.std.specs.Char.{is_ascii_digit}
use Rattle.std.specs.Str.Parse.{digits_value}
use Rattle.graphql_core.specs.{StyleOptions, default_style, with_indent, with_multiline}
use Rattle.gql.specs.declared.command.Command.{Command}
use Rattle.gql.specs.declared.command.Command.TheVariants.{Query, Schema, Minify, First}

-- one to ten digits, at most 4294967295
abbrev pub is_number : List ℕ → Bool
is_number w =
    nat_le (length w) 10 && (list_all is_ascii_digit w && (nat_lt 0 (length w) && nat_lt (digits_value 10 w) (2 ^ 32)))

abbrev pub number_of : List ℕ → Option ℕ
number_of w = if is_number w then Some (digits_value 10 w) else None

abbrev pub is_indent : List ℕ → Bool
is_indent w = pointwise nat_eq w (codes "--indent")

abbrev pub is_multiline : List ℕ → Bool
is_multiline w = pointwise nat_eq w (codes "--multiline")

-- the style with these settings, and the default indentation if there is none
abbrev pub style_said : Option ℕ → Bool → StyleOptions
style_said None multiline = with_multiline default_style multiline
style_said (Some n) multiline = with_multiline (with_indent default_style n) multiline

-- options, and the style with them and those already read: each option at most once, in any order
pub data Says : Option ℕ → Bool → List (List ℕ) → StyleOptions → Type 0 where
  all_said : {indent : Option ℕ} {multiline : Bool} → Says indent multiline [] (style_said indent multiline)
  says_multiline : {indent : Option ℕ} {w : List ℕ} {ws : List (List ℕ)} {style : StyleOptions} → is_multiline w ≡ true
      → Says indent true ws style → Says indent false (w ∷ ws) style
  says_indent : {multiline : Bool} {w n : List ℕ} {ws : List (List ℕ)} {style : StyleOptions} → is_indent w ≡ true
      → is_number n ≡ true → Says (Some (digits_value 10 n)) multiline ws style → Says None multiline (w ∷ n ∷ ws) style

-- options alone, and the style with them
abbrev pub SaysStyle : List (List ℕ) → StyleOptions → Type 0
SaysStyle = Says None false

-- the command of this name, if it takes options
abbrev pub styled_command : List ℕ → Option Command
styled_command w =
    if pointwise nat_eq w (codes "query") then Some Query
    else if pointwise nat_eq w (codes "schema") then Some Schema
    else if pointwise nat_eq w (codes "first") then Some First
    else None

-- the arguments as bytes, and their command and style; `minify` takes no options
pub data Means : List (List ℕ) → Command × StyleOptions → Type 0 where
  means_styled : {w : List ℕ} {ws : List (List ℕ)} {command : Command} {style : StyleOptions}
      → styled_command w ≡ Some command → SaysStyle ws style → Means (w ∷ ws) (command, style)
  means_minify : {w : List ℕ} → pointwise nat_eq w (codes "minify") ≡ true → Means (w ∷ []) (Minify, default_style)
