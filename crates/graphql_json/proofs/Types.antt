-- The node of a type or of an extension of a type, from its beginning and the members after its name.
use Rattle.std.proofs.Common.{◌≡◌, ◌++◌, ℕ, List, Option, codes}
use Rattle.graphql_core.specs.{Place}
use Rattle.graphql_json.specs.Json.{json_text}
use Rattle.graphql_json.specs.{Member, one, node, located, name_json, later, opening}
use Rattle.graphql_json.specs.Schema.{described}
use Rattle.graphql_json.proofs.Texts.{described_end}

pub type_end : (k : List ℕ) (p : Place) (d : Option (List ℕ)) (n : List ℕ) (ms : List Member)
    → (opening k ++ later (located p ++ (described d ++ one (codes "name") (name_json n)))) ++ (later ms ++ codes "}")
    ≡ json_text (node k (located p ++ (described d ++ (one (codes "name") (name_json n) ++ ms))))
type_end k p d n ms = described_end k (located p) (described d) (one (codes "name") (name_json n)) ms
