-- How many brackets are open at once in an output.
use Rattle.std.specs.Prelude.{ℕ, suc, ◌-◌, max, List, [], ◌∷◌}
use Rattle.graphql_core.specs.declared.tokenizer.token.Kind.{Kind}
use Rattle.graphql_core.specs.declared.tokenizer.token.Kind.TheVariants.{Punctuator}
use Rattle.graphql_core.specs.declared.tokenizer.piece.Nesting.{Nesting}
use Rattle.graphql_core.specs.declared.tokenizer.piece.Nesting.TheVariants.{Unchanged, Opens, Closes}
use Rattle.graphql_core.specs.lexical.{nesting_of}
use Rattle.graphql_core.specs.layouts.TextParts.{Part, token, ignored}

-- how a token changes the depth: only a punctuator of one character can be a bracket
abbrev pub bracket_of : Kind → List ℕ → Nesting
bracket_of Punctuator (b ∷ []) = nesting_of b
bracket_of _ _ = Unchanged

-- the number of open brackets after a token
abbrev pub open_after : Nesting → ℕ → ℕ
open_after Unchanged d = d
open_after Opens d = suc d
open_after Closes d = d - 1

-- the greatest number of brackets that are open at once, if `d` are open before the parts
abbrev pub deepest_from : ℕ → List Part → ℕ
deepest_from d [] = d
deepest_from d (ignored text ∷ ps) = deepest_from d ps
deepest_from d (token k s ∷ ps) = max d (deepest_from (open_after (bracket_of k s) d) ps)

abbrev pub deepest : List Part → ℕ
deepest ps = deepest_from 0 ps
