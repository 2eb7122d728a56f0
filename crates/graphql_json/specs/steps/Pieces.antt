-- What the writers append in one step.
use Rattle.std.specs.Prelude.{◌≡◌, ℕ, true, List, ◌++◌, codes}
use Rattle.graphql_core.specs.{quoted}
use Rattle.graphql_json.specs.Json.{members_text}
use Rattle.graphql_json.specs.Nodes.{Member, members_of}

-- the second output is the first one with this text at its end
pub record Appends (old text new : List ℕ) : Type 0 where
  pub grown : new ≡ old ++ text

-- the name of a member that is not the first one
unfoldable pub label : List ℕ → List ℕ
label name = codes "," ++ (quoted name ++ codes ":")

-- members that are not the first ones
unfoldable pub later : List Member → List ℕ
later ms = members_text true (members_of ms)

-- a node up to its kind
unfoldable pub opening : List ℕ → List ℕ
opening kind = codes "{\"kind\":" ++ quoted kind
