-- Nodes of the AST of graphql-js: objects that begin with their kind.
use Rattle.std.specs.Prelude.{ℕ, List, [], ◌∷◌, ◌++◌, Option, Some, None, codes}
use Rattle.graphql_core.specs.{Place}
use Rattle.graphql_json.specs.Json.{Json, Elements, no_elements, element, Members, no_members, member}
use Rattle.graphql_json.specs.Json as json

-- a name and a value
abbrev pub Member : Type 0
Member = List ℕ × Json

abbrev pub members_of : List Member → Members
members_of [] = no_members
members_of (m ∷ ms) = member m.0 m.1 (members_of ms)

abbrev pub elements_of : List Json → Elements
elements_of [] = no_elements
elements_of (v ∷ vs) = element v (elements_of vs)

-- one member
unfoldable pub one : List ℕ → Json → List Member
one name v = (name, v) ∷ []

-- a member that is left out if there is no value
abbrev pub optional : List ℕ → Option Json → List Member
optional name None = []
optional name (Some v) = one name v

-- a node of a kind, with these members after the kind
unfoldable pub node : List ℕ → List Member → Json
node kind ms = json.object (members_of (one (codes "kind") (json.string kind) ++ ms))

-- a member that is a list of nodes
abbrev pub each : List ℕ → List Json → List Member
each name vs = one name (json.array (elements_of vs))

-- a line and a column
unfoldable pub place_json : Place → Json
place_json p =
    json.object (members_of (one (codes "line") (json.number p.line) ++ one (codes "column") (json.number p.column)))

-- the position of a node
unfoldable pub located : Place → List Member
located p = one (codes "position") (place_json p)

-- the same with the position of its last token
unfoldable pub spanned : Place → Place → List Member
spanned p q = located p ++ one (codes "endPosition") (place_json q)

-- a document with these definitions
abbrev pub document_node : List Json → Json
document_node definitions = node (codes "Document") (each (codes "definitions") definitions)
