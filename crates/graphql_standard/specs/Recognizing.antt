-- What the calls of a recognizer promise. A token is its kind and its spelling; its place is ignored.
use Rattle.std.specs.Prelude.{Bool, true, false, List, [], ◌∷◌, ◌++◌, Result, Ok, Err, slice_index_or}
use Rattle.std.specs.declared.alloc.AllocError.{AllocError}
use Rattle.graphql_core.specs.{Token, Sym, ParseTree}
use Rattle.graphql_core.specs.grammar.Trees.{Derives, Begins}
use Rattle.graphql_standard.specs.Grammar.{standard}
use Rattle.graphql_standard.specs.Symbols as symbol
use Rattle.graphql_standard.specs.steps.Stacks.{IsAt}
use Rattle.graphql_standard.specs.steps.Groups.{number_of}
use Rattle.graphql_standard.specs.declared.terminal.Terminal.{Terminal}
use Rattle.graphql_standard.specs.declared.recognizer.Recognizer.{Recognizer}
use Rattle.graphql_standard.specs.declared.expected.ExpectedSet.{ExpectedSet}

-- the tokens are a document: the grammar derives them
abbrev pub IsDocument : List Token → Type 0
IsDocument ts = (x : ParseTree) × Derives standard (Sym symbol.document) ts x

-- some document begins with the tokens
abbrev pub BeginsDocument : List Token → Type 0
BeginsDocument ts = Begins standard (Sym symbol.document) ts

-- The recognizer has read these tokens. A new recognizer has read none, and `advance` reads one more. What follows for
-- documents is in the clauses of the calls.
abbrev pub HasRead : List Token → Recognizer → Type 0
HasRead ts r = IsAt ts r.stack.items

-- The token is read after these, and some document begins with all of them; or no document does, and the recognizer
-- has read the same tokens as before. The same holds if memory is not found.
abbrev pub Advances : Result Bool AllocError → List Token → Token → Recognizer → Type 0
Advances (Ok true) ts t r = HasRead (ts ++ t ∷ []) r × BeginsDocument (ts ++ t ∷ [])
Advances (Ok false) ts t r = HasRead ts r × (BeginsDocument (ts ++ t ∷ []) → ⊥)
Advances (Err e) ts t r = HasRead ts r

-- the terminal is in the set
abbrev pub contains : ExpectedSet → Terminal → Bool
contains s k = slice_index_or s.terminals (number_of k) false

-- the end of the input is in the set
abbrev pub contains_end : ExpectedSet → Bool
contains_end s = s.has_end
