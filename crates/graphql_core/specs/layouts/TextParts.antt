-- An output: its tokens, and the ignored text between them.
use Rattle.std.specs.Prelude.{ℕ, List, [], ◌∷◌, ◌++◌}
use Rattle.graphql_core.specs.declared.tokenizer.token.Kind.{Kind}
use Rattle.graphql_core.specs.declared.tokenizer.token.Kind.TheVariants.{Punctuator, Name}
use Rattle.graphql_core.specs.layouts.Style.{spaces}

pub data Part : Type 0 where
  token : (kind : Kind) (spelling : List ℕ) → Part
  ignored : (text : List ℕ) → Part

abbrev pub part_text : Part → List ℕ
part_text (token k spelling) = spelling
part_text (ignored text) = text

abbrev pub text_of : List Part → List ℕ
text_of [] = []
text_of (p ∷ ps) = part_text p ++ text_of ps

-- ---- single parts

abbrev pub name_part : List ℕ → List Part
name_part n = token Name n ∷ []

abbrev pub punctuator_part : List ℕ → List Part
punctuator_part s = token Punctuator s ∷ []

abbrev pub gap : List ℕ → List Part
gap text = ignored text ∷ []

-- a line end, and the margin of the next line
abbrev pub new_line : ℕ → List Part
new_line margin = gap (10 ∷ spaces margin)
