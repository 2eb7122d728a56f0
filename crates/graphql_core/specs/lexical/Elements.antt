-- The lexical element at the start of an input, as calls return it (October 2021, section 2.1): a token (section 2.1.6)
-- or ignored text (section 2.1.7). `IsLexicalElement` defines both.
-- A comment here includes its line end, which is an ignored token of its own in the specification.
-- Outside a comment, the CR and the LF of CR LF are two elements.
use Rattle.std.specs.Prelude.{◌≡◌, ℕ, ◌==◌, if◌then◌else◌, List, ◌++◌, slice_index}
use Rattle.graphql_core.specs.declared.tokenizer.element.ElementKind.{ElementKind}
use Rattle.graphql_core.specs.declared.tokenizer.element.ElementKind.TheVariants as element
use Rattle.graphql_core.specs.lexical.Lexical.{Meaning, Ignored, TokenOf, IsLexicalElement}

-- A comment (section 2.1.4) begins with `#`. No white space, line end, comma or byte order mark does.
abbrev pub ignored_kind : List ℕ → ElementKind
ignored_kind bytes = if slice_index bytes 0 == 35 then element.Comment else element.Ignored

-- the kind of a lexical element with these bytes
abbrev pub element_kind : List ℕ → Meaning → ElementKind
element_kind bytes (Ignored m) = ignored_kind bytes
element_kind bytes (TokenOf k n) = element.Token k

-- the input is a lexical element of this kind, and then the rest
abbrev pub BeginsWithElement : (text : List ℕ) → ElementKind → (bytes rest : List ℕ) → Type 0
BeginsWithElement text kind bytes rest =
    (m : Meaning) × (text ≡ bytes ++ rest) × IsLexicalElement bytes m rest × (element_kind bytes m ≡ kind)
