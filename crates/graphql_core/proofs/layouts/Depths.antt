-- The brackets of values, types, arguments and directives are those that their layouts open at once.
use Rattle.std.proofs.Common.{◌≡◌, ℕ, ◌+◌, max, Bool, true, false, List, [], ◌∷◌, ◌++◌, Option, Some, None, codes, refl, arith}
use Rattle.graphql_core.specs.{ignored, Part, bracket_of, float, string, item, enum, object, no_items, int, ValueTree, ValueItems, ValueMembers, TypeTree}
use Rattle.graphql_core.specs.{named, list_of, non_null, DirectiveTree, variable, boolean, null, list, no_members, member, StyleOptions, has_block_form}
use Rattle.graphql_core.specs.{before_part}
use Rattle.graphql_core.specs.{after_parts, parts, enclosed, inside, pair_layout, string_layout, value_layout, items_layout, members_layout, type_layout}
use Rattle.graphql_core.specs.{each_argument, arguments_layout, directive_layout, directives_layout, default_layout, in_braces, each_after, separated}
use Rattle.graphql_core.specs.{in_parentheses, value_brackets, items_brackets, members_brackets, type_brackets, argument_brackets, arguments_brackets}
use Rattle.graphql_core.specs.{directive_brackets, directives_brackets, most, most_enclosed}
use Rattle.graphql_core.specs.declared.tokenizer.piece.Nesting.TheVariants.{Opens, Closes}
use Rattle.graphql_core.proofs.layouts.TextDepths.{Rises, rises_as, none_rise, gap_rises, level_rises, both_rise}
use Rattle.graphql_core.proofs.layouts.TextDepths.{gap_sinks, closer_sinks, both_sink, opener_rises, either_rises}
use Rattle.std.specs.List.{flat_map}
use Rattle.std.specs.Option.{option_map_or}
use Rattle.graphql_core.specs.declared.tokenizer.token.Kind.TheVariants.{Punctuator}

-- ---- parts between brackets

-- each of these lists of parts, and the deepest of them
pub data AllRise : ℕ → List (List Part) → Type 0 where
  none_at_all : AllRise 0 []
  one_more : {m n : ℕ} {p : List Part} {ps : List (List Part)} → Rises m p → AllRise n ps → AllRise (max m n) (p ∷ ps)

before_rises : (style : StyleOptions) (margin : ℕ) (later : Bool) → Rises 0 (before_part style margin later)
before_rises style margin false = either_rises style.multiline (gap_rises _ none_rise) none_rise
before_rises style margin true = either_rises style.multiline (gap_rises _ (gap_rises _ none_rise)) (gap_rises _ none_rise)

after_rises : (style : StyleOptions) (margin : ℕ) → Rises 0 (after_parts style margin)
after_rises style margin = either_rises style.multiline (gap_rises _ none_rise) none_rise

parts_rise : {n : ℕ} {ps : List (List Part)} (style : StyleOptions) (margin : ℕ) (later : Bool) → AllRise n ps → Rises n (parts style margin later ps)
parts_rise style margin later none_at_all = none_rise
parts_rise style margin later (one_more {m} {n} h all) =
    rises_as {m = max 0 (max m n)} {n = max m n} (omega arith) (both_rise (before_rises style margin later) (both_rise h (parts_rise style margin true all)))

pub enclosed_rises : {n : ℕ} {ps : List (List Part)} (style : StyleOptions) (margin : ℕ) (opener closer : List ℕ) → bracket_of Punctuator opener ≡ Opens
    → bracket_of Punctuator closer ≡ Closes
    → AllRise n ps → Rises (n + 1) (enclosed style margin opener closer ps)
enclosed_rises {n} style margin opener closer o c all =
    rises_as {m = max n (max 0 0) + 1} {n = n + 1} (omega arith)
    (opener_rises o (both_sink (parts_rise style (inside style margin) false all) (both_sink (after_rises style margin) (closer_sinks c none_rise))))

-- ---- values

pair_rises : {n : ℕ} {value : List Part} (name : List ℕ) → Rises n value → Rises n (pair_layout name value)
pair_rises name h = level_rises refl (level_rises refl (gap_rises _ h))

pub string_rises : (style : StyleOptions) (margin : ℕ) (text : List ℕ) → Rises 0 (string_layout style margin text)
string_rises style margin text = either_rises (has_block_form text) (level_rises refl none_rise) (level_rises refl none_rise)

mutual
  pub value_rises : (style : StyleOptions) (margin : ℕ) (v : ValueTree) → Rises (value_brackets v) (value_layout style margin v)
  value_rises style margin (variable n) = level_rises refl (level_rises refl none_rise)
  value_rises style margin (int i) = level_rises refl none_rise
  value_rises style margin (float literal) = level_rises refl none_rise
  value_rises style margin (string text) = string_rises style margin text
  value_rises style margin (boolean b) = level_rises refl none_rise
  value_rises style margin null = level_rises refl none_rise
  value_rises style margin (enum n) = level_rises refl none_rise
  value_rises style margin (list vs) = enclosed_rises style margin (codes "[") (codes "]") refl refl (items_rise style (inside style margin) vs)
  value_rises style margin (object ms) = enclosed_rises style margin (codes "{") (codes "}") refl refl (members_rise style (inside style margin) ms)

  items_rise : (style : StyleOptions) (margin : ℕ) (vs : ValueItems) → AllRise (items_brackets vs) (items_layout style margin vs)
  items_rise style margin no_items = none_at_all
  items_rise style margin (item v vs) = one_more (value_rises style margin v) (items_rise style margin vs)

  members_rise : (style : StyleOptions) (margin : ℕ) (ms : ValueMembers) → AllRise (members_brackets ms) (members_layout style margin ms)
  members_rise style margin no_members = none_at_all
  members_rise style margin (member n v ms) = one_more (pair_rises n (value_rises style margin v)) (members_rise style margin ms)

-- ---- types

pub type_rises : (t : TypeTree) → Rises (type_brackets t) (type_layout t)
type_rises (named n) = level_rises refl none_rise
type_rises (list_of t) =
    rises_as {m = max (type_brackets t) 0 + 1} {n = type_brackets t + 1} (omega arith)
    (opener_rises refl (both_sink (type_rises t) (closer_sinks refl none_rise)))
type_rises (non_null t) = rises_as {m = max (type_brackets t) 0} {n = type_brackets t} (omega arith) (both_rise (type_rises t) (level_rises refl none_rise))

-- ---- lists

module _ {A : Type 0} (lines : A → List Part) (brackets : A → ℕ) (rise : (x : A) → Rises (brackets x) (lines x)) where
  pub lines_rise : (xs : List A) → Rises (most brackets xs) (flat_map lines xs)
  lines_rise [] = none_rise
  lines_rise (x ∷ xs) = both_rise (rise x) (lines_rise xs)

  each_after_rise : (text : List ℕ) (xs : List A) → Rises (most brackets xs) (each_after text lines xs)
  each_after_rise text [] = none_rise
  each_after_rise text (x ∷ xs) = gap_rises _ (both_rise (rise x) (each_after_rise text xs))

  pub separated_rise : (xs : List A) → Rises (most brackets xs) (separated lines xs)
  separated_rise [] = none_rise
  separated_rise (x ∷ xs) = both_rise (rise x) (each_after_rise (codes "\n") xs)

  pub in_parentheses_rise : (xs : List A) → Rises (most_enclosed brackets xs) (in_parentheses lines xs)
  in_parentheses_rise [] = none_rise
  in_parentheses_rise (x ∷ xs) =
      let m = brackets x in
      let n = most brackets xs in
      rises_as {m = max m (max n 0) + 1} {n = max m n + 1} (omega arith)
      (opener_rises refl (both_sink (rise x) (both_sink (each_after_rise (codes ", ") xs) (closer_sinks refl none_rise))))

-- ---- arguments and directives

each_rises : (style : StyleOptions) (margin : ℕ) (arguments : List (List ℕ × ValueTree))
    → AllRise (most argument_brackets arguments) (each_argument style margin arguments)
each_rises style margin [] = none_at_all
each_rises style margin (a ∷ more) = one_more (pair_rises a.0 (value_rises style margin a.1)) (each_rises style margin more)

pub arguments_rise : (style : StyleOptions) (margin : ℕ) (arguments : List (List ℕ × ValueTree))
    → Rises (arguments_brackets arguments) (arguments_layout style margin arguments)
arguments_rise style margin [] = none_rise
arguments_rise style margin (a ∷ more) = enclosed_rises style margin (codes "(") (codes ")") refl refl (each_rises style (inside style margin) (a ∷ more))

pub directive_rises : (style : StyleOptions) (margin : ℕ) (d : DirectiveTree) → Rises (directive_brackets d) (directive_layout style margin d)
directive_rises style margin d = level_rises refl (level_rises refl (arguments_rise style margin d.arguments))

pub directives_rise : (style : StyleOptions) (margin : ℕ) (ds : List DirectiveTree) → Rises (directives_brackets ds) (directives_layout style margin ds)
directives_rise style margin = each_after_rise (directive_layout style margin) directive_brackets (directive_rises style margin) (codes " ")

-- ---- lines and defaults

pub braces_rise : {n : ℕ} {lines : List Part} (margin : ℕ) → Rises n lines → Rises (n + 1) (in_braces margin lines)
braces_rise {n} margin h =
    rises_as {m = max n 0 + 1} {n = n + 1} (omega arith)
    (opener_rises refl (gap_sinks _ (both_sink h (gap_sinks _ (closer_sinks refl (gap_rises _ none_rise))))))

pub line_end_rises : {n : ℕ} {ps : List Part} (text : List ℕ) → Rises n ps → Rises n (ps ++ ignored text ∷ [])
line_end_rises {n} text h = rises_as {m = max n 0} {n = n} (omega arith) (both_rise h (gap_rises text none_rise))

pub default_rises : (style : StyleOptions) (margin : ℕ) (v : Option ValueTree) → Rises (option_map_or value_brackets v 0) (default_layout style margin v)
default_rises style margin None = none_rise
default_rises style margin (Some v) = gap_rises _ (level_rises refl (gap_rises _ (value_rises style margin v)))
