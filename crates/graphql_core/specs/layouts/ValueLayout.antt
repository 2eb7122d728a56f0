-- The layouts of values, types, arguments and directives, in lines that begin with `margin` spaces.
use Rattle.std.specs.Prelude.{ℕ, ◌+◌, ◌-◌, ◌*◌, ◌^◌, ◌≤◌, Bool, true, false, not, ◌&&◌, ◌||◌, ◌==◌, nat_lt, nat_le}
use Rattle.std.specs.Prelude.{if◌then◌else◌, List, [], ◌∷◌, ◌++◌, Option, codes, map, Some, None}
use Rattle.std.specs.Fmt.{signed_decimal}
use Rattle.std.specs.List.{slice_split, list_all, list_any, flat_map}
use Rattle.std.specs.Option.{option_map_or}
use Rattle.std.specs.Str.{chars}
use Rattle.graphql_core.specs.declared.tokenizer.token.Kind.TheVariants.{IntValue, FloatValue, StringValue, BlockString}
use Rattle.graphql_core.specs.lexical.{begins_quotes}
use Rattle.graphql_core.specs.strings.{is_white, is_blank_line}
use Rattle.graphql_core.specs.layouts.Style.{StyleOptions, default_style, spaces}
use Rattle.graphql_core.specs.layouts.TextParts.{Part, token, name_part, punctuator_part, gap, new_line}
use Rattle.graphql_core.specs.values.{float, string, item, enum, object, int, ValueTree, variable, boolean, null, list}
use Rattle.graphql_core.specs.values.{ValueItems, no_items, ValueMembers, no_members, member, TypeTree, named, list_of}
use Rattle.graphql_core.specs.values.{non_null, DirectiveTree, Weights, value_depth}
use Rattle.graphql_core.specs.values.{arguments_depth, directives_depth, default_depth}
use Rattle.graphql_core.specs.layouts.Lines.{each_after}

-- ---- strings in quotes

-- an uppercase hexadecimal digit
abbrev pub hexadecimal_digit : ℕ → ℕ
hexadecimal_digit n = if nat_lt n 10 then 48 + n else 55 + n

-- `\u` and four digits, for a character below U+0020
abbrev pub unicode_escape : ℕ → List ℕ
unicode_escape b =
    92 ∷ 117 ∷ 48 ∷ 48 ∷ (if nat_lt b 16 then 48 else 49) ∷ hexadecimal_digit (if nat_lt b 16 then b else b - 16) ∷ []

abbrev pub quoted_byte : ℕ → List ℕ
quoted_byte b =
    if b == 13 then codes "\\r"
    else if b == 10 then codes "\\n"
    else if b == 9 then codes "\\t"
    else if b == 34 then 92 ∷ 34 ∷ []
    else if b == 92 then 92 ∷ 92 ∷ []
    else if nat_lt b 32 then unicode_escape b
    else b ∷ []

abbrev pub quoted : List ℕ → List ℕ
quoted text = 34 ∷ (flat_map quoted_byte text ++ 34 ∷ [])

-- ---- strings in block form

-- the lines of a string, split at each LF
abbrev pub lines_of : List ℕ → List (List ℕ)
lines_of text = slice_split (λ b. b == 10) text

-- LF, CR, TAB, or U+0020 to U+FFFF
abbrev pub is_block_character : ℕ → Bool
is_block_character c = c == 10 || (c == 13 || (c == 9 || (nat_le 32 c && nat_le c 65535)))

abbrev pub first_line : List (List ℕ) → List ℕ
first_line [] = []
first_line (l ∷ ls) = l

abbrev pub last_line : List (List ℕ) → List ℕ
last_line [] = []
last_line (l ∷ []) = l
last_line (l ∷ m ∷ ms) = last_line (m ∷ ms)

abbrev pub is_empty : List ℕ → Bool
is_empty [] = true
is_empty (b ∷ bs) = false

abbrev pub ends_in_return : List ℕ → Bool
ends_in_return [] = false
ends_in_return (b ∷ []) = b == 13
ends_in_return (b ∷ c ∷ cs) = ends_in_return (c ∷ cs)

abbrev pub begins_white : List ℕ → Bool
begins_white [] = false
begins_white (b ∷ bs) = is_white b

-- The first and the last line are not blank, each blank line is empty, no line ends in CR, and some line has no indent.
-- Such a string is the value of a block string that has these lines, indented, between its quotes.
abbrev pub has_block_lines : List ℕ → Bool
has_block_lines text =
    not (is_blank_line (first_line (lines_of text)))
    && (not (is_blank_line (last_line (lines_of text)))
    && (list_all (λ l. not (is_blank_line l) || is_empty l) (lines_of text)
    && (list_all (λ l. not (ends_in_return l)) (lines_of text)
    && list_any (λ l. not (is_blank_line l) && not (begins_white l)) (lines_of text))))

-- the string is written in block form
abbrev pub has_block_form : List ℕ → Bool
has_block_form text = list_any (λ b. b == 10) text && (list_all is_block_character (chars text) && has_block_lines text)

-- the string with a backslash before each three quotes, from the left
abbrev pub escaped_quotes : List ℕ → List ℕ
escaped_quotes (a ∷ b ∷ c ∷ more) = if begins_quotes (a ∷ b ∷ c ∷ []) then 92 ∷ 34 ∷ 34 ∷ 34 ∷ escaped_quotes more
    else a ∷ escaped_quotes (b ∷ c ∷ more)
escaped_quotes text = text

-- a line with its margin, or LF alone if the line is empty
abbrev pub block_line : ℕ → List ℕ → List ℕ
block_line margin [] = 10 ∷ []
block_line margin (b ∷ bs) = spaces margin ++ (escaped_quotes (b ∷ bs) ++ 10 ∷ [])

-- a string in triple quotes, with its lines at the margin `inside` and the closing quotes at `margin`
abbrev pub in_block_form : ℕ → ℕ → List ℕ → List ℕ
in_block_form inside margin text =
    codes "\"\"\"\n" ++ (flat_map (block_line inside) (lines_of text) ++ (spaces margin ++ codes "\"\"\""))

abbrev pub string_layout : StyleOptions → ℕ → List ℕ → List Part
string_layout style margin text =
    if has_block_form text then token BlockString (in_block_form (margin + style.indent) margin text) ∷ []
    else token StringValue (quoted text) ∷ []

-- ---- parts between an opener and a closer

-- the margin of the parts
abbrev pub inside : StyleOptions → ℕ → ℕ
inside style margin = if style.multiline then margin + style.indent else margin

-- what comes before a part at `margin`: before the first part (`false`) or a later one (`true`)
abbrev pub before_part : StyleOptions → ℕ → Bool → List Part
before_part style margin false = if style.multiline then new_line margin else []
before_part style margin true = if style.multiline then gap (codes ",") ++ new_line margin else gap (codes ", ")

-- parts at `margin`; `later` says that other parts come before them
abbrev pub parts : StyleOptions → ℕ → Bool → List (List Part) → List Part
parts style margin later [] = []
parts style margin later (p ∷ ps) = before_part style margin later ++ (p ++ parts style margin true ps)

-- what comes after the last part, if the closer is at `margin`
abbrev pub after_parts : StyleOptions → ℕ → List Part
after_parts style margin = if style.multiline then new_line margin else []

abbrev pub enclosed : StyleOptions → ℕ → List ℕ → List ℕ → List (List Part) → List Part
enclosed style margin opener closer ps = punctuator_part opener
    ++ (parts style (inside style margin) false ps ++ (after_parts style margin ++ punctuator_part closer))

-- ---- values

abbrev pub boolean_name : Bool → List ℕ
boolean_name true = codes "true"
boolean_name false = codes "false"

-- a name, a colon, a space and a value
abbrev pub pair_layout : List ℕ → List Part → List Part
pair_layout n value = name_part n ++ (punctuator_part (codes ":") ++ (gap (codes " ") ++ value))

abbrev mutual
  pub value_layout : StyleOptions → ℕ → ValueTree → List Part
  value_layout style margin (variable n) = punctuator_part (codes "$") ++ name_part n
  value_layout style margin (int i) = token IntValue (signed_decimal i) ∷ []
  value_layout style margin (float literal) = token FloatValue literal ∷ []
  value_layout style margin (string text) = string_layout style margin text
  value_layout style margin (boolean b) = name_part (boolean_name b)
  value_layout style margin null = name_part (codes "null")
  value_layout style margin (enum n) = name_part n
  value_layout style margin (list vs) =
      enclosed style margin (codes "[") (codes "]") (items_layout style (inside style margin) vs)
  value_layout style margin (object ms) =
      enclosed style margin (codes "{") (codes "}") (members_layout style (inside style margin) ms)

  pub items_layout : StyleOptions → ℕ → ValueItems → List (List Part)
  items_layout style margin no_items = []
  items_layout style margin (item v vs) = value_layout style margin v ∷ items_layout style margin vs

  pub members_layout : StyleOptions → ℕ → ValueMembers → List (List Part)
  members_layout style margin no_members = []
  members_layout style margin (member n v ms) =
      pair_layout n (value_layout style margin v) ∷ members_layout style margin ms

-- ---- types

abbrev pub type_layout : TypeTree → List Part
type_layout (named n) = name_part n
type_layout (list_of t) = punctuator_part (codes "[") ++ (type_layout t ++ punctuator_part (codes "]"))
type_layout (non_null t) = type_layout t ++ punctuator_part (codes "!")

-- ---- arguments and directives

abbrev pub each_argument : StyleOptions → ℕ → List (List ℕ × ValueTree) → List (List Part)
each_argument style margin arguments = map (λ a. pair_layout a.0 (value_layout style margin a.1)) arguments

abbrev pub arguments_layout : StyleOptions → ℕ → List (List ℕ × ValueTree) → List Part
arguments_layout style margin [] = []
arguments_layout style margin (a ∷ more) =
    enclosed style margin (codes "(") (codes ")") (each_argument style (inside style margin) (a ∷ more))

abbrev pub directive_layout : StyleOptions → ℕ → DirectiveTree → List Part
directive_layout style margin d =
    punctuator_part (codes "@") ++ (name_part d.name ++ arguments_layout style margin d.arguments)

-- the directives, with a space before each
abbrev pub directives_layout : StyleOptions → ℕ → List DirectiveTree → List Part
directives_layout style margin = each_after (codes " ") (directive_layout style margin)

abbrev pub default_layout : StyleOptions → ℕ → Option ValueTree → List Part
default_layout style margin None = []
default_layout style margin (Some v) =
    gap (codes " ") ++ (punctuator_part (codes "=") ++ (gap (codes " ") ++ value_layout style margin v))

-- ---- levels that are open at once

-- lists, objects and arguments open a level if each part takes a line
abbrev pub opened : StyleOptions → ℕ → ℕ
opened style n = if style.multiline then n + 1 else n

-- a string in block form opens one level
abbrev pub string_levels : List ℕ → ℕ
string_levels text = if has_block_form text then 1 else 0

abbrev pub description_levels : Option (List ℕ) → ℕ
description_levels d = option_map_or string_levels d 0

-- types open no level, and parentheses on one line open no level
abbrev pub in_levels : StyleOptions → Weights
in_levels style = record {
  of_string = string_levels;
  of_description = description_levels;
  of_type = λ t. 0;
  around_values = opened style;
  around_definitions = λ any n. n;
}

abbrev pub value_levels : StyleOptions → ValueTree → ℕ
value_levels style = value_depth (in_levels style)

abbrev pub arguments_levels : StyleOptions → List (List ℕ × ValueTree) → ℕ
arguments_levels style = arguments_depth (in_levels style)

abbrev pub directives_levels : StyleOptions → List DirectiveTree → ℕ
directives_levels style = directives_depth (in_levels style)

abbrev pub default_levels : StyleOptions → Option ValueTree → ℕ
default_levels style = default_depth (in_levels style)

-- the spaces of this many levels exceed `u32::MAX`, even if no line is at the last level
abbrev pub IsTooWide : StyleOptions → ℕ → Type 0
IsTooWide style levels = 2 ^ 32 ≤ levels * style.indent

-- this many levels are not too wide in the default style
abbrev pub IsNarrow : ℕ → Type 0
IsNarrow levels = IsTooWide default_style levels → ⊥
