-- The keywords of definitions that can have a description.
use Rattle.std.specs.Prelude.{◌≡◌, ℕ, Bool, true, false, ◌||◌, List, [], ◌∷◌, Option, Some, None, codes}
use Rattle.graphql_core.specs.{in_any, Token, Class, matches, peek, sees, sees_class, keyword, Items}
use Rattle.graphql_schema.specs.declared.read.keyword.TypeKind.{TypeKind}
use Rattle.graphql_schema.specs.declared.read.keyword.TypeKind.TheVariants.{Scalar, Object, Interface, Union, Enum}
use Rattle.graphql_schema.specs.declared.read.keyword.TypeKind.TheVariants.{InputObject}
use Rattle.graphql_schema.specs.declared.read.keyword.Keyword.{Keyword}
use Rattle.graphql_schema.specs.declared.read.keyword.Keyword.TheVariants.{Schema, OfType, Directive}
use Rattle.graphql_schema.specs.steps.Readers.{sees_description}

abbrev pub kind_word : TypeKind → List ℕ
kind_word Scalar = codes "scalar"
kind_word Object = codes "type"
kind_word Interface = codes "interface"
kind_word Union = codes "union"
kind_word Enum = codes "enum"
kind_word InputObject = codes "input"

abbrev pub has_interfaces : TypeKind → Bool
has_interfaces Object = true
has_interfaces Interface = true
has_interfaces _ = false

abbrev pub class_of : Keyword → Class
class_of Schema = keyword (codes "schema")
class_of (OfType k) = keyword (kind_word k)
class_of Directive = keyword (codes "directive")

-- all of these keywords
abbrev pub keywords : List Class
keywords =
    keyword (codes "schema") ∷ keyword (codes "scalar") ∷ keyword (codes "type") ∷ keyword (codes "interface")
    ∷ keyword (codes "union") ∷ keyword (codes "enum") ∷ keyword (codes "input") ∷ keyword (codes "directive") ∷ []

-- the token is this keyword, or none of them
abbrev pub HasKeyword : Token → Option Keyword → Type 0
HasKeyword t (Some k) = matches (class_of k) t ≡ true
HasKeyword t None = in_any keywords t ≡ false

-- this keyword is next, or none of them is
abbrev pub HasNextKeyword : Items → Option Keyword → Type 0
HasNextKeyword i (Some k) = sees_class (class_of k) i ≡ true
HasNextKeyword i None = sees keywords (peek i.tokens) ≡ false

-- the next token can begin a definition
abbrev pub sees_definition : Items → Bool
sees_definition i = sees_description i || (sees keywords (peek i.tokens) || sees_class (keyword (codes "extend")) i)
