-- The parse trees of a source in the grammar of September 2025.
use Rattle.std.specs.Prelude.{◌≡◌, ℕ, List, [], map}
use Rattle.graphql_core.specs.{Token, Sym, ParseTree, leaves, nowhere, valued}
use Rattle.graphql_core.specs.grammar.Trees.{Nothing, Leaf, Both, First, Second, Stop, More, Node, Derives}
use Rattle.graphql_standard.specs.Grammar.{standard}
use Rattle.graphql_standard.specs.Symbols as symbol
use Rattle.graphql_standard.specs.Checking.{HasTokens}

-- the grammar derives the tokens of the source by this parse tree
abbrev pub HasTree : List ℕ → ParseTree → Type 0
HasTree source x = (ts : List Token) × HasTokens source ts × Derives standard (Sym symbol.document) ts x

-- the parse tree with one token in place of each
abbrev pub form_of : ParseTree → ParseTree
form_of Nothing = Nothing
form_of (Leaf t) = Leaf (record { kind = 0; spelling = []; place = nowhere })
form_of (Both x y) = Both (form_of x) (form_of y)
form_of (First x) = First (form_of x)
form_of (Second y) = Second (form_of y)
form_of Stop = Stop
form_of (More x y) = More (form_of x) (form_of y)
form_of (Node k x) = Node k (form_of x)

-- the parse trees are equal, if block strings are compared by value
abbrev pub IsSameTree : ParseTree → ParseTree → Type 0
IsSameTree x y = (form_of y ≡ form_of x) × (map valued (leaves y) ≡ map valued (leaves x))

-- the text has each parse tree of the source
abbrev pub HasSameTrees : (source text : List ℕ) → Type 0
HasSameTrees source text = (x : ParseTree) → HasTree source x → (y : ParseTree) × HasTree text y × IsSameTree x y
