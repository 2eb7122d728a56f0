-- The outputs of some small values, types and directives, written out.
use Rattle.std.specs.Prelude.{◌≡◌, ℕ, true, List, [], ◌∷◌, ◌++◌, codes}
use Rattle.graphql_core.specs.layouts.Style.{StyleOptions, default_style, with_multiline}
use Rattle.graphql_core.specs.layouts.TextParts.{text_of}
use Rattle.graphql_core.specs.values.{string, object, ValueTree, boolean, null, list, no_items, no_members, member}
use Rattle.graphql_core.specs.values.{named, list_of, non_null, no_place}
use Rattle.graphql_core.specs.layouts.ValueLayout.{value_layout, type_layout, directive_layout}

-- the output of a value in the default style
abbrev shown : ValueTree → List ℕ
shown v = text_of (value_layout default_style 0 v)

abbrev quote : List ℕ
quote = 34 ∷ []

-- ---- strings

-- no block form, because each line begins with a space
abbrev pub Indented : Type 0
Indented = shown (string (codes " a" ++ 10 ∷ codes " b")) ≡ quote ++ codes " a\\n b" ++ quote

abbrev pub LineEnd : Type 0
LineEnd = shown (string (codes "a" ++ 10 ∷ [])) ≡ quote ++ codes "a\\n" ++ quote

abbrev pub ReturnAndLineEnd : Type 0
ReturnAndLineEnd = shown (string (codes "a" ++ 13 ∷ 10 ∷ codes "b")) ≡ quote ++ codes "a\\r\\nb" ++ quote

-- a line of only spaces
abbrev pub BlankLine : Type 0
BlankLine = shown (string (codes "a" ++ 10 ∷ 32 ∷ 10 ∷ codes "b")) ≡ quote ++ codes "a\\n \\nb" ++ quote

-- U+1F600
abbrev pub PastThePlane : Type 0
PastThePlane =
    shown (string (240 ∷ 159 ∷ 152 ∷ 128 ∷ 10 ∷ codes "a")) ≡ quote ++ 240 ∷ 159 ∷ 152 ∷ 128 ∷ codes "\\na" ++ quote

abbrev pub FourQuotes : Type 0
FourQuotes = shown (string (codes "a\"\"\"\"" ++ 10 ∷ codes "b"))
    ≡ codes "\"\"\"" ++ 10 ∷ codes "  a\\\"\"\"\"" ++ 10 ∷ codes "  b" ++ 10 ∷ codes "\"\"\""

abbrev pub InnerIndent : Type 0
InnerIndent = shown (string (codes "a" ++ 10 ∷ 10 ∷ codes "  b"))
    ≡ codes "\"\"\"" ++ 10 ∷ codes "  a" ++ 10 ∷ 10 ∷ codes "    b" ++ 10 ∷ codes "\"\"\""

-- control characters, as `\u` and four uppercase hexadecimal digits
abbrev pub Controls : Type 0
Controls = shown (string (8 ∷ 11 ∷ 27 ∷ 31 ∷ 127 ∷ [])) ≡ quote ++ codes "\\u0008\\u000B\\u001B\\u001F" ++ 127 ∷ quote

-- ---- objects and lists

abbrev pairs : ValueTree
pairs = object (member (codes "a") (boolean true) (member (codes "b") null no_members))

abbrev pub Object : Type 0
Object = shown pairs ≡ codes "{a: true, b: null}"

abbrev in_lines : StyleOptions
in_lines = with_multiline default_style true

abbrev pub ObjectInLines : Type 0
ObjectInLines = text_of (value_layout in_lines 4 pairs)
    ≡ codes "{" ++ 10 ∷ codes "      a: true," ++ 10 ∷ codes "      b: null" ++ 10 ∷ codes "    }"

abbrev pub EmptyListInLines : Type 0
EmptyListInLines = text_of (value_layout in_lines 4 (list no_items)) ≡ codes "[" ++ 10 ∷ codes "    ]"

-- ---- types and directives

abbrev pub Declared : Type 0
Declared = text_of (type_layout (non_null (list_of (non_null (named (codes "A")))))) ≡ codes "[A!]!"

abbrev pub Directive : Type 0
Directive = text_of (directive_layout default_style 0
    (record { position = no_place; name = codes "a"; arguments = (codes "b", null) ∷ [] })) ≡ codes "@a(b: null)"
