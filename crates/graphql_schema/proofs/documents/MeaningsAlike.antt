-- The document, ignoring positions, and the checks of nodes depend only on the kinds and values of tokens.
-- The cause of an error does not depend on positions.
use Rattle.std.proofs.Common.{◌≡◌, ◌==◌, ℕ, Bool, true, false, not, if◌then◌else◌, List, [], ◌∷◌, map, Option, Some, None, is_some, option_map, codes, refl}
use Rattle.std.proofs.Common.{sym, ap, ◌∙◌}
use Rattle.graphql_core.specs.{Token, Class, Spelled, AnyOf, Except, ParseTree, Node, accepts, CauseText, empty_extension, unplaced, FaultText, string_of}
use Rattle.graphql_core.specs.{block_string_of, no_place, erase_all, spelling_at, directives_of, optional_of, optional_list_of, enclosed_of}
use Rattle.graphql_core.proofs.{SameTrees, same_both, same_first, same_second, same_block, same_node, left_tree, right_tree, SameLeaf, IsSame, ByValues}
use Rattle.graphql_core.proofs.{DependsOnValues, RejectsAlike, accepted_same, valueless_alike, there_same, optional_same, optional_list_same, each_same}
use Rattle.graphql_core.proofs.{each_alike, enclosed_same, enclosed_alike, joined_same, spelling_same, type_same, optional_default_same, directives_same}
use Rattle.graphql_schema.specs.{schema_by, description_of, input_value_of, field_of, enum_value_of, interfaces_of, members_of, schema_of, schema_extension_of}
use Rattle.graphql_schema.specs.{scalar_of, object_of, interface_of, union_of, enum_of, input_of, body_of, location_at, present, locations_of, keyword_place_of}
use Rattle.graphql_schema.specs.{directive_definition_of, extension_of, described_of, item_of, document_of, Root, root_at, roots_of, roots_in, type_in}
use Rattle.graphql_schema.specs.{RootFault, root_cause, root_fault, root_fault_of, extension_fault_of, location_of, PartsTree, object, interface, union, enum}
use Rattle.graphql_schema.specs.{input, BodyTree, SchemaTree, extends, schema, type_definition, extension, schema_extension, directive, erase_input_value}
use Rattle.graphql_schema.specs.{erase_field, erase_enum_value, erase_schema, erase_body, erase_directive, erase_definition, erase, Lacks, said_at}
use Rattle.graphql_schema.specs.{said_of, schemas}
use Rattle.graphql_schema.proofs.readers.{extends_alike}
use Rattle.graphql_schema.specs.Grammar as grammar

-- ---- parts of definitions

description_same : IsSame description_of
description_same (same_node k (same_first t)) = ap string_of (spelling_same t)
description_same (same_node k (same_second t)) = ap block_string_of (spelling_same t)
description_same (same_node k (same_block t u e)) = e
description_same _ = refl

described_same : IsSame (optional_of description_of)
described_same = optional_same description_of description_same

input_value_same : ByValues erase_input_value input_value_of
input_value_same (same_node k (same_both d (same_both n (same_both c (same_both t (same_both v ds)))))) =
    λ i. record {
      position = no_place;
      description = described_same d i;
      name = spelling_same n i;
      value_type = type_same t i;
      default_value = optional_default_same v i;
      directives = directives_same ds i;
    }
input_value_same _ = refl

input_values_same : ByValues (map erase_input_value) (optional_list_of (enclosed_of input_value_of))
input_values_same = optional_list_same (map erase_input_value) (enclosed_of input_value_of) (enclosed_alike erase_input_value input_value_of input_value_same)

field_same : ByValues erase_field field_of
field_same (same_node k (same_both d (same_both n (same_both arguments (same_both c (same_both t ds)))))) =
    λ i. record {
      position = no_place;
      description = described_same d i;
      name = spelling_same n i;
      arguments = input_values_same arguments i;
      field_type = type_same t i;
      directives = directives_same ds i;
    }
field_same _ = refl

fields_same : ByValues (map erase_field) (optional_list_of (enclosed_of field_of))
fields_same = optional_list_same (map erase_field) (enclosed_of field_of) (enclosed_alike erase_field field_of field_same)

enum_value_same : ByValues erase_enum_value enum_value_of
enum_value_same (same_node k (same_both d (same_both n ds))) =
    λ i. record { position = no_place; description = described_same d i; name = spelling_same n i; directives = directives_same ds i }
enum_value_same _ = refl

enum_values_same : ByValues (map erase_enum_value) (optional_list_of (enclosed_of enum_value_of))
enum_values_same = optional_list_same (map erase_enum_value) (enclosed_of enum_value_of) (enclosed_alike erase_enum_value enum_value_of enum_value_same)

interfaces_same : IsSame interfaces_of
interfaces_same (same_node k (same_both w ns)) = joined_same spelling_at [] spelling_same ns
interfaces_same _ = refl

optional_interfaces_same : IsSame (optional_list_of interfaces_of)
optional_interfaces_same = optional_list_same (λ l. l) interfaces_of interfaces_same

members_same : IsSame members_of
members_same (same_node k (same_both e ns)) = joined_same spelling_at [] spelling_same ns
members_same _ = refl

optional_members_same : IsSame (optional_list_of members_of)
optional_members_same = optional_list_same (λ l. l) members_of members_same

-- ---- schemas

root_same : IsSame root_at
root_same (same_node k (same_both n (same_both c t))) = λ i. record { name = spelling_same n i; type_name = spelling_same t i }
root_same _ = refl

roots_same : IsSame roots_of
roots_same = each_same root_at root_same

roots_in_same : IsSame roots_in
roots_in_same = optional_list_same (λ rs. rs) (enclosed_of root_at) (enclosed_same root_at root_same)

schema_by_same : (w ds : SameTrees) {rs qs : List Root} → rs ≡ qs
    → erase_schema (schema_by (right_tree w) (right_tree ds) rs) ≡ erase_schema (schema_by (left_tree w) (left_tree ds) qs)
schema_by_same w ds same =
    λ i. record {
      position = no_place;
      directives = directives_same ds i;
      query = type_in (same i) (codes "query");
      mutation = type_in (same i) (codes "mutation");
      subscription = type_in (same i) (codes "subscription");
    }

schema_same : ByValues erase_schema schema_of
schema_same (same_node k (same_both w (same_both ds (same_both o (same_both roots c))))) = schema_by_same w ds (roots_same roots)
schema_same _ = refl

schema_extension_same : ByValues erase_schema schema_extension_of
schema_extension_same (same_node k (same_both w (same_both ds rs))) = schema_by_same w ds (roots_in_same rs)
schema_extension_same _ = refl

root_fault_same : IsSame root_fault_of
root_fault_same (same_both w (same_both ds (same_both o (same_both roots c)))) = ap (root_fault []) (roots_same roots)
root_fault_same _ = refl

extension_fault_same : IsSame extension_fault_of
extension_fault_same (same_both w (same_both ds rs)) = ap (root_fault []) (roots_in_same rs)
extension_fault_same _ = refl

-- ---- types

-- a type with these parts, without positions
abbrev body_with : (n ds : ParseTree) → PartsTree → BodyTree
body_with n ds parts = record { position = no_place; name = spelling_at n; directives = erase_all (directives_of ds); parts = parts }

with_same : (n ds : SameTrees) {p q : PartsTree} → p ≡ q → body_with (right_tree n) (right_tree ds) p ≡ body_with (left_tree n) (left_tree ds) q
with_same n ds same = λ i. record { position = no_place; name = spelling_same n i; directives = directives_same ds i; parts = same i }

scalar_same : ByValues erase_body scalar_of
scalar_same (same_node k (same_both w (same_both n ds))) = with_same n ds refl
scalar_same _ = refl

object_same : ByValues erase_body object_of
object_same (same_node k (same_both w (same_both n (same_both is (same_both ds fs))))) =
    with_same n ds (λ i. object (optional_interfaces_same is i) (fields_same fs i))
object_same _ = refl

interface_same : ByValues erase_body interface_of
interface_same (same_node k (same_both w (same_both n (same_both is (same_both ds fs))))) =
    with_same n ds (λ i. interface (optional_interfaces_same is i) (fields_same fs i))
interface_same _ = refl

union_same : ByValues erase_body union_of
union_same (same_node k (same_both w (same_both n (same_both ds ms)))) = with_same n ds (λ i. union (optional_members_same ms i))
union_same _ = refl

enum_same : ByValues erase_body enum_of
enum_same (same_node k (same_both w (same_both n (same_both ds vs)))) = with_same n ds (λ i. enum (enum_values_same vs i))
enum_same _ = refl

input_same : ByValues erase_body input_of
input_same (same_node k (same_both w (same_both n (same_both ds fs)))) = with_same n ds (λ i. input (input_values_same fs i))
input_same _ = refl

body_same : ByValues erase_body body_of
body_same (same_node k (same_first b)) = scalar_same b
body_same (same_node k (same_second (same_first b))) = object_same b
body_same (same_node k (same_second (same_second (same_first b)))) = interface_same b
body_same (same_node k (same_second (same_second (same_second (same_first b))))) = union_same b
body_same (same_node k (same_second (same_second (same_second (same_second (same_first b)))))) = enum_same b
body_same (same_node k (same_second (same_second (same_second (same_second (same_second b)))))) = input_same b
body_same _ = refl

-- ---- directives

location_same : IsSame location_at
location_same (same_node k n) = ap location_of (spelling_same n)
location_same _ = refl

locations_same : IsSame locations_of
locations_same (same_node k ls) = ap present (joined_same location_at None location_same ls)
locations_same _ = refl

directive_definition_same : (d s : SameTrees) → erase_directive (directive_definition_of (optional_of description_of (right_tree d)) (right_tree s))
    ≡ erase_directive (directive_definition_of (optional_of description_of (left_tree d)) (left_tree s))
directive_definition_same d (same_node k (same_both w (same_both a (same_both n (same_both arguments (same_both r (same_both o ls))))))) =
    λ i. record {
      position = no_place;
      description = described_same d i;
      name = spelling_same n i;
      arguments = input_values_same arguments i;
      repeatable = there_same r i;
      locations = locations_same ls i;
    }
directive_definition_same d _ = refl

-- ---- documents

extension_same : ByValues erase_definition extension_of
extension_same (same_node k (same_first (same_both w b))) = ap extension (body_same b)
extension_same (same_node k (same_second (same_both w s))) = ap schema_extension (schema_extension_same s)
extension_same (same_node k (same_both w b)) = ap extension (body_same b)
extension_same _ = refl

described_definition_same : ByValues erase_definition described_of
described_definition_same (same_node k (same_first (same_both d b))) = λ i. type_definition (described_same d i) (body_same b i)
described_definition_same (same_node k (same_second (same_both d b))) = ap directive (directive_definition_same d b)
described_definition_same _ = refl

item_same : ByValues erase_definition item_of
item_same (same_node k (same_first (same_both d s))) = λ i. schema (described_same d i) (schema_same s i)
item_same (same_node k (same_first s)) = ap (schema None) (schema_same s)
item_same (same_node k (same_second (same_first e))) = extension_same e
item_same (same_node k (same_second (same_second d))) = described_definition_same d
item_same _ = refl

document_same : ByValues erase document_of
document_same (same_node k x) = each_alike erase_definition item_of item_same x
document_same _ = refl

-- ---- the language

accepts_same : (c : Class) (t u : Token) → SameLeaf c t u → accepts grammar.schema_grammar c u ≡ accepts grammar.schema_grammar c t
accepts_same (Spelled k s) t u e = accepted_same (Spelled k s) t u e
accepts_same (AnyOf k) t u e = accepted_same (AnyOf k) t u e
accepts_same (Except k []) t u e = ap (accepts grammar.schema_grammar (Except k [])) e
accepts_same (Except k (s ∷ ss)) t u e = accepted_same (Except k (s ∷ ss)) t u e

extends_same : (k : ℕ) (s : SameTrees) → extends (extension_of (Node k (right_tree s))) ≡ extends (extension_of (Node k (left_tree s)))
extends_same k s =
    sym (extends_alike (extension_of (Node k (right_tree s)))) ∙ ap extends (extension_same (same_node k s))
    ∙ extends_alike (extension_of (Node k (left_tree s)))

checks_same : (k : ℕ) (s : SameTrees) → grammar.passes k (right_tree s) ≡ grammar.passes k (left_tree s)
checks_same k s =
    λ i. if k == grammar.schema_symbol then not (is_some (root_fault_same s i))
    else if k == grammar.extension_symbol then extends_same k s i
    else if k == grammar.schema_extension_symbol then not (is_some (extension_fault_same s i))
    else true

pub by_values : DependsOnValues schemas
by_values = record { accepts = accepts_same; checks = checks_same; means = document_same; blocks = refl }

-- ---- errors

lacks_alike : (leaf : Class) (t u : Token) (c : CauseText) → unplaced u ≡ unplaced t → Lacks leaf t c → Lacks leaf u c
lacks_alike (Except k []) t u c one (none, cause) = (ap (λ (v : Token). location_of v.spelling) one ∙ none, cause)
lacks_alike (Except k (s ∷ ss)) t u c one h = valueless_alike t u c one h
lacks_alike (AnyOf k) t u c one h = valueless_alike t u c one h
lacks_alike (Spelled k s) t u c one h = valueless_alike t u c one h

-- the cause for which a node is rejected
abbrev cause_of : ℕ → ParseTree → Option CauseText
cause_of k x =
    if k == grammar.schema_symbol then option_map root_cause (root_fault_of x)
    else if k == grammar.schema_extension_symbol then option_map root_cause (extension_fault_of x)
    else Some empty_extension

abbrev cause : FaultText → CauseText
cause f = f.cause

cause_at : (s : SchemaTree) (o : Option RootFault) → option_map cause (option_map (said_at s) o) ≡ option_map root_cause o
cause_at s None = refl
cause_at s (Some r) = refl

cause_by : (b c : Bool) (o p : Option RootFault) (s e : SchemaTree) (f : FaultText)
    → option_map cause (if b then option_map (said_at s) o else if c then option_map (said_at e) p else Some f)
    ≡ (if b then option_map root_cause o else if c then option_map root_cause p else Some f.cause)
cause_by true c o p s e f = cause_at s o
cause_by false true o p s e f = cause_at e p
cause_by false false o p s e f = refl

said_cause : (k : ℕ) (x : ParseTree) → option_map cause (said_of (Node k x)) ≡ cause_of k x
said_cause k x =
    cause_by (k == grammar.schema_symbol) (k == grammar.schema_extension_symbol) (root_fault_of x) (extension_fault_of x)
    (schema_of (Node k x)) (schema_extension_of (Node k x)) (record { cause = empty_extension; place = keyword_place_of (extension_of (Node k x)) })

cause_same : (k : ℕ) (s : SameTrees) → cause_of k (right_tree s) ≡ cause_of k (left_tree s)
cause_same k s =
    λ i. if k == grammar.schema_symbol then option_map root_cause (root_fault_same s i)
    else if k == grammar.schema_extension_symbol then option_map root_cause (extension_fault_same s i)
    else Some empty_extension

of_cause : (o : Option FaultText) (c : CauseText) → option_map cause o ≡ Some c → (g : FaultText) × (o ≡ Some g) × (g.cause ≡ c)
of_cause None c h = absurd cc
of_cause (Some g) c h = (g, refl, cc)

rejects_node : (k : ℕ) (s : SameTrees) (f : FaultText) → said_of (Node k (left_tree s)) ≡ Some f
    → (g : FaultText) × (said_of (Node k (right_tree s)) ≡ Some g) × (g.cause ≡ f.cause)
rejects_node k s f said =
    let alike = said_cause k (right_tree s) ∙ cause_same k s ∙ sym (said_cause k (left_tree s)) in
    of_cause (said_of (Node k (right_tree s))) f.cause (alike ∙ ap (option_map cause) said)

pub rejects_alike : RejectsAlike schemas
rejects_alike = record { lacks = lacks_alike; rejects = rejects_node }
