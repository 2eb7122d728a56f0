use Rattle.std.proofs.Common.{◌≡◌, Bool, true, false, ◌==◌, [], ◌∷◌, Option, Some, None, refl, ap, ◌∙◌, if◌then◌else◌, option_map}
use Rattle.graphql_core.specs.{Token, Class, AnyOf, Spelled, Except, ParseTree, Nothing, Leaf, Both, First, Second, Stop}
use Rattle.graphql_core.specs.{More, Node, CauseText, is_unexpected, empty_extension, FaultText}
use Rattle.graphql_core.proofs.{none_goes_on, valueless_not}
use Rattle.graphql_schema.specs.{SchemaTree, schema_symbol, schema_extension_symbol, schemas, said_at, keyword_place_of, schema_of, schema_extension_of}
use Rattle.graphql_schema.specs.{RootFault, unknown, duplicate, root_fault_of, extension_fault_of, root_cause, extension_of}
use Rattle.graphql_schema.proofs.{readable}
use Rattle.graphql_schema.proofs.laws.none_goes_on_with_an_unexpected_item.Goals as goal

leaves_not : (c : Class) (t : Token) (k : CauseText) → schemas.lacks c t k → is_unexpected k ≡ false
leaves_not (Except kind []) t k h = ap is_unexpected h.1
leaves_not (Except kind (s ∷ ss)) t k h = valueless_not t k h
leaves_not (AnyOf kind) t k h = valueless_not t k h
leaves_not (Spelled kind spelling) t k h = valueless_not t k h

root_not : (r : RootFault) → is_unexpected (root_cause r) ≡ false
root_not (unknown n) = refl
root_not (duplicate n) = refl

-- the error of a wrong operation is no unexpected token
braces_not : (o : Option RootFault) (s : SchemaTree) (f : FaultText) → option_map (said_at s) o ≡ Some f → is_unexpected f.cause ≡ false
braces_not None s f h = absurd cc
braces_not (Some r) s f h = let same : f ≡ said_at s r = cc in ap (λ (x : FaultText). is_unexpected x.cause) same ∙ root_not r

-- nor is a choice of two such errors
either_not : (b : Bool) (o p : Option FaultText) (f : FaultText) → (o ≡ Some f → is_unexpected f.cause ≡ false) → (p ≡ Some f → is_unexpected f.cause ≡ false)
    → (if b then o else p) ≡ Some f → is_unexpected f.cause ≡ false
either_not true o p f one other h = one h
either_not false o p f one other h = other h

empty_not : (g f : FaultText) → is_unexpected g.cause ≡ false → Some g ≡ Some f → is_unexpected f.cause ≡ false
empty_not g f other h = let same : f ≡ g = cc in ap (λ (x : FaultText). is_unexpected x.cause) same ∙ other

nodes_not : (node : ParseTree) (f : FaultText) → schemas.rejects node f → is_unexpected f.cause ≡ false
nodes_not (Node k x) f h =
    either_not (k == schema_symbol) (option_map (said_at (schema_of (Node k x))) (root_fault_of x)) _ f (braces_not _ (schema_of (Node k x)) f)
    (either_not (k == schema_extension_symbol) (option_map (said_at (schema_extension_of (Node k x))) (extension_fault_of x))
    (Some (record { cause = empty_extension; place = keyword_place_of (extension_of (Node k x)) })) f
    (braces_not _ (schema_extension_of (Node k x)) f) (empty_not _ f refl)) h
nodes_not Nothing f h = absurd cc
nodes_not (Leaf t) f h = absurd cc
nodes_not (Both x y) f h = absurd cc
nodes_not (First x) f h = absurd cc
nodes_not (Second y) f h = absurd cc
nodes_not Stop f h = absurd cc
nodes_not (More x y) f h = absurd cc

pub returns : goal.returns
returns c = none_goes_on schemas readable leaves_not nodes_not
