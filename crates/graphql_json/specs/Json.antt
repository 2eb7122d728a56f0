-- JSON values, and their texts without white space (RFC 8259).
use Rattle.std.specs.Prelude.{ℕ, Bool, true, false, List, [], ◌++◌, codes}
use Rattle.graphql_core.specs.{decimal, quoted}
use Rattle.graphql_core.specs.layouts.ValueLayout.{boolean_name}

mutual
  -- a value; names and strings are their bytes, in UTF-8
  pub data Json : Type 0 where
    null : Json
    boolean : Bool → Json
    number : ℕ → Json
    string : List ℕ → Json
    array : Elements → Json
    object : Members → Json

  pub data Elements : Type 0 where
    no_elements : Elements
    element : (value : Json) (others : Elements) → Elements

  -- the members of an object, in order
  pub data Members : Type 0 where
    no_members : Members
    member : (name : List ℕ) (value : Json) (others : Members) → Members

-- what comes before an element or a member; the flag says whether it is not the first one
abbrev pub separator : Bool → List ℕ
separator false = []
separator true = codes ","

-- The escapes of a string are those of GraphQL: `\"`, `\\`, `\t`, `\n` and `\r`, and `\u00XX` for each other character
-- below U+0020. All other characters are written as they are.
unfoldable mutual
  pub json_text : Json → List ℕ
  json_text null = codes "null"
  json_text (boolean b) = boolean_name b
  json_text (number n) = decimal n
  json_text (string s) = quoted s
  json_text (array vs) = codes "[" ++ (elements_text false vs ++ codes "]")
  json_text (object ms) = codes "{" ++ (members_text false ms ++ codes "}")

  -- the flag says whether others come before these
  pub elements_text : Bool → Elements → List ℕ
  elements_text later no_elements = []
  elements_text later (element v vs) = separator later ++ (json_text v ++ elements_text true vs)

  pub members_text : Bool → Members → List ℕ
  members_text later no_members = []
  members_text later (member n v ms) =
      separator later ++ (quoted n ++ (codes ":" ++ (json_text v ++ members_text true ms)))
