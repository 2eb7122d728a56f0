-- What the grammar derives from an input is printable.
use Rattle.std.proofs.Common.{◌≡◌, ◌≤◌, ℕ, max, Bool, true, false, cond, List, [], ◌∷◌, Option, Some, None, is_some, codes, refl, arith}
use Rattle.graphql_core.proofs.{Nests, Anything, HasCapacity, capacity_nothing, capacity_leaf, capacity_both, capacity_first, capacity_second, capacity_stop, capacity_more, capacity_node}
use Rattle.graphql_core.proofs.{capacity_back, all_turns, leaf_name, directives_printable, type_printable, some_printable, enclosed_printable, each_of_both}
use Rattle.graphql_core.proofs.{optional_default_printable, Within}
use Rattle.std.specs.List.{AllByRecursion}
use Rattle.std.specs.Option.{IfSome}
use Rattle.graphql_core.specs.{matches, Expr, Then, Many, Sym, ParseTree, optional, is_below, IsName, shared, punctuator, location_class, shared_symbols}
use Rattle.graphql_core.specs.{spelling_at, most_enclosed, has_any, IsDocument, each_of, enclosed_of, optional_list_of, separated_of, joined_of, some_of}
use Rattle.graphql_core.specs.{same_spelling, Items, name}
use Rattle.std.proofs.lemmas.Bool.{and_parts}
use Rattle.graphql_schema.specs.{Root, root_at, roots_of, type_in, is_good, document_symbol, item_symbol, root_type_symbol, extension_symbol, described_symbol}
use Rattle.graphql_schema.specs.{type_body_symbol, scalar_symbol, object_symbol, interface_symbol, implements_symbol, fields_symbol, field_symbol}
use Rattle.graphql_schema.specs.{argument_definitions_symbol, input_value_symbol, union_symbol, members_symbol, enum_symbol, enum_values_symbol}
use Rattle.graphql_schema.specs.{enum_value_symbol, input_symbol, input_fields_symbol, locations_symbol, location_symbol, joined_by, schema_grammar}
use Rattle.graphql_schema.specs.{InputValueTree, BodyTree, DefinitionTree, DocumentTree, present, input_value_of, field_of, enum_value_of, interfaces_of}
use Rattle.graphql_schema.specs.{members_of, scalar_of, object_of, interface_of, union_of, enum_of, input_of, body_of, location_at, locations_of, extension_of}
use Rattle.graphql_schema.specs.{described_of, item_of, document_of, schemas, IsDocumentOf, IsPrintableInputValue, IsPrintableField, IsPrintableEnumValue}
use Rattle.graphql_schema.specs.{IsPrintableBody, IsPrintableDefinition, IsWholeDefinition, input_value_brackets, field_brackets, enum_value_brackets}
use Rattle.graphql_schema.specs.{body_brackets, definition_brackets, IsPrintable}
use Rattle.graphql_schema.proofs.readers.Readable.{shares, tested_alike, written_goes_on}
use Rattle.graphql_core.proofs.values.Printable as values

-- ---- shared symbols

capacity_shared : {n : ℕ} {e : Expr} {x : ParseTree} → HasCapacity schema_grammar n e x → shares e ≡ true → is_below shared_symbols e ≡ true → HasCapacity shared n e x
capacity_shared {e = e} f s b = capacity_back shared_symbols shared schema_grammar written_goes_on f b (tested_alike e s)

-- ---- names separated by a punctuator

after_punctuator : {n : ℕ} (s : List ℕ) (x : ParseTree) → HasCapacity schema_grammar n (Then (punctuator s) name) x → IsName (separated_of spelling_at [] x)
after_punctuator s _ (capacity_both m called) = leaf_name refl called

names_printable : {n : ℕ} {x : ParseTree} (s : List ℕ) → HasCapacity schema_grammar n (joined_by s name) x → AllByRecursion IsName (joined_of spelling_at [] x)
names_printable s (capacity_both m (capacity_both called more)) =
    (leaf_name refl called, all_turns IsName (separated_of spelling_at []) (each_of (separated_of spelling_at [])) refl (λ x y. refl) (after_punctuator s) more)

interfaces_printable : {n : ℕ} {x : ParseTree} → HasCapacity schema_grammar n (optional (Sym implements_symbol)) x
    → AllByRecursion IsName (optional_list_of interfaces_of x)
interfaces_printable (capacity_first (capacity_node (capacity_both w ns) c)) = names_printable _ ns
interfaces_printable (capacity_second capacity_nothing) = tt

members_printable : {n : ℕ} {x : ParseTree} → HasCapacity schema_grammar n (optional (Sym members_symbol)) x → AllByRecursion IsName (optional_list_of members_of x)
members_printable (capacity_first (capacity_node (capacity_both e ns) c)) = names_printable _ ns
members_printable (capacity_second capacity_nothing) = tt

-- ---- parts of definitions

input_value_printable : (n : ℕ) (x : ParseTree) → HasCapacity schema_grammar n (Sym input_value_symbol) x
    → Within IsPrintableInputValue input_value_brackets n (input_value_of x)
input_value_printable n _ (capacity_node (capacity_both d (capacity_both called (capacity_both colon (capacity_both t (capacity_both v ds))))) c) =
    let (is, b) = type_printable (capacity_shared t refl refl) in
    let (default, e) = optional_default_printable (capacity_shared v refl refl) in
    let (are, f) = directives_printable (capacity_shared ds refl refl) in
    ((leaf_name refl called, is, default, are), omega arith)

abbrev ArePrintableInputValues : ℕ → List InputValueTree → Type 0
ArePrintableInputValues = Within (AllByRecursion IsPrintableInputValue) (most_enclosed input_value_brackets)

arguments_printable : {n : ℕ} {x : ParseTree} → HasCapacity schema_grammar n (optional (Sym argument_definitions_symbol)) x
    → ArePrintableInputValues n (optional_list_of (enclosed_of input_value_of) x)
arguments_printable =
    enclosed_printable input_value_symbol input_value_of IsPrintableInputValue input_value_brackets input_value_printable refl refl (λ m. refl)

input_fields_printable : {n : ℕ} {x : ParseTree} → HasCapacity schema_grammar n (optional (Sym input_fields_symbol)) x
    → ArePrintableInputValues n (optional_list_of (enclosed_of input_value_of) x)
input_fields_printable =
    enclosed_printable input_value_symbol input_value_of IsPrintableInputValue input_value_brackets input_value_printable refl refl (λ m. refl)

field_printable : (n : ℕ) (x : ParseTree) → HasCapacity schema_grammar n (Sym field_symbol) x → Within IsPrintableField field_brackets n (field_of x)
field_printable n _ (capacity_node (capacity_both d (capacity_both called (capacity_both arguments (capacity_both colon (capacity_both t ds))))) c) =
    let (values, b) = arguments_printable arguments in
    let (is, e) = type_printable (capacity_shared t refl refl) in
    let (are, f) = directives_printable (capacity_shared ds refl refl) in
    ((leaf_name refl called, values, is, are), omega arith)

fields_printable : {n : ℕ} {x : ParseTree} → HasCapacity schema_grammar n (optional (Sym fields_symbol)) x
    → Within (AllByRecursion IsPrintableField) (most_enclosed field_brackets) n (optional_list_of (enclosed_of field_of) x)
fields_printable = enclosed_printable field_symbol field_of IsPrintableField field_brackets field_printable refl refl (λ m. refl)

enum_value_printable : (n : ℕ) (x : ParseTree) → HasCapacity schema_grammar n (Sym enum_value_symbol) x
    → Within IsPrintableEnumValue enum_value_brackets n (enum_value_of x)
enum_value_printable n _ (capacity_node (capacity_both d (capacity_both called ds)) c) =
    let (are, b) = directives_printable (capacity_shared ds refl refl) in
    ((leaf_name refl called, are), omega arith)

enum_values_printable : {n : ℕ} {x : ParseTree} → HasCapacity schema_grammar n (optional (Sym enum_values_symbol)) x
    → Within (AllByRecursion IsPrintableEnumValue) (most_enclosed enum_value_brackets) n (optional_list_of (enclosed_of enum_value_of) x)
enum_values_printable = enclosed_printable enum_value_symbol enum_value_of IsPrintableEnumValue enum_value_brackets enum_value_printable refl refl (λ m. refl)

-- ---- types

abbrev IsBody : ℕ → BodyTree → Type 0
IsBody = Within IsPrintableBody body_brackets

scalar_printable : {n : ℕ} {x : ParseTree} → HasCapacity schema_grammar n (Sym scalar_symbol) x → IsBody n (scalar_of x)
scalar_printable (capacity_node (capacity_both w (capacity_both called ds)) c) =
    let (are, b) = directives_printable (capacity_shared ds refl refl) in
    ((leaf_name refl called, are, tt), omega arith)

object_printable : {n : ℕ} {x : ParseTree} → HasCapacity schema_grammar n (Sym object_symbol) x → IsBody n (object_of x)
object_printable (capacity_node (capacity_both w (capacity_both called (capacity_both is (capacity_both ds fs)))) c) =
    let (are, b) = directives_printable (capacity_shared ds refl refl) in
    let (fields, d) = fields_printable fs in
    ((leaf_name refl called, are, (interfaces_printable is, fields)), omega arith)

interface_printable : {n : ℕ} {x : ParseTree} → HasCapacity schema_grammar n (Sym interface_symbol) x → IsBody n (interface_of x)
interface_printable (capacity_node (capacity_both w (capacity_both called (capacity_both is (capacity_both ds fs)))) c) =
    let (are, b) = directives_printable (capacity_shared ds refl refl) in
    let (fields, d) = fields_printable fs in
    ((leaf_name refl called, are, (interfaces_printable is, fields)), omega arith)

union_printable : {n : ℕ} {x : ParseTree} → HasCapacity schema_grammar n (Sym union_symbol) x → IsBody n (union_of x)
union_printable (capacity_node (capacity_both w (capacity_both called (capacity_both ds ms))) c) =
    let (are, b) = directives_printable (capacity_shared ds refl refl) in
    ((leaf_name refl called, are, members_printable ms), omega arith)

enum_printable : {n : ℕ} {x : ParseTree} → HasCapacity schema_grammar n (Sym enum_symbol) x → IsBody n (enum_of x)
enum_printable (capacity_node (capacity_both w (capacity_both called (capacity_both ds vs))) c) =
    let (are, b) = directives_printable (capacity_shared ds refl refl) in
    let (values, d) = enum_values_printable vs in
    ((leaf_name refl called, are, values), omega arith)

input_printable : {n : ℕ} {x : ParseTree} → HasCapacity schema_grammar n (Sym input_symbol) x → IsBody n (input_of x)
input_printable (capacity_node (capacity_both w (capacity_both called (capacity_both ds fs))) c) =
    let (are, b) = directives_printable (capacity_shared ds refl refl) in
    let (fields, d) = input_fields_printable fs in
    ((leaf_name refl called, are, fields), omega arith)

body_printable : {n : ℕ} {x : ParseTree} → HasCapacity schema_grammar n (Sym type_body_symbol) x → IsBody n (body_of x)
body_printable (capacity_node (capacity_first f) c) = scalar_printable f
body_printable (capacity_node (capacity_second (capacity_first f)) c) = object_printable f
body_printable (capacity_node (capacity_second (capacity_second (capacity_first f))) c) = interface_printable f
body_printable (capacity_node (capacity_second (capacity_second (capacity_second (capacity_first f)))) c) = union_printable f
body_printable (capacity_node (capacity_second (capacity_second (capacity_second (capacity_second (capacity_first f))))) c) = enum_printable f
body_printable (capacity_node (capacity_second (capacity_second (capacity_second (capacity_second (capacity_second f))))) c) = input_printable f

-- ---- schemas

found_name : (b : Bool) (n : List ℕ) (o : Option (List ℕ)) → IsName n → IfSome o IsName → IfSome (cond b (Some n) o) IsName
found_name true n o h k = h
found_name false n o h k = k

type_named : (rs : List Root) (word : List ℕ) → AllByRecursion (λ r. IsName r.type_name) rs → IfSome (type_in rs word) IsName
type_named [] word are = tt
type_named (r ∷ rs) word (is, are) = found_name (same_spelling word r.name) r.type_name (type_in rs word) is (type_named rs word are)

-- the type of each operation is a name
abbrev AreNamed : List Root → Type 0
AreNamed rs = IfSome (type_in rs (codes "query")) IsName × IfSome (type_in rs (codes "mutation")) IsName × IfSome (type_in rs (codes "subscription")) IsName

roots_printable : (rs : List Root) → AllByRecursion (λ r. IsName r.type_name) rs → AreNamed rs
roots_printable rs are = (type_named rs (codes "query") are, type_named rs (codes "mutation") are, type_named rs (codes "subscription") are)

root_named : {n : ℕ} {x : ParseTree} → HasCapacity schema_grammar n (Sym root_type_symbol) x → IsName (root_at x).type_name
root_named (capacity_node (capacity_both called (capacity_both colon t)) c) = leaf_name refl t

roots_named : {n : ℕ} {x : ParseTree} → HasCapacity schema_grammar n (Many (Sym root_type_symbol)) x → AllByRecursion (λ r. IsName r.type_name) (roots_of x)
roots_named capacity_stop = tt
roots_named (capacity_more r rs) = (root_named r, roots_named rs)

types_named : {n : ℕ} {x : ParseTree} → HasCapacity schema_grammar n (Many (Sym root_type_symbol)) x → AreNamed (roots_of x)
types_named {x = x} roots = roots_printable (roots_of x) (roots_named roots)

some_types_named : {n : ℕ} {x : ParseTree} → HasCapacity schema_grammar n (some_of (Sym root_type_symbol)) x → AreNamed (roots_of x)
some_types_named (capacity_both {x = x} {y = xs} r rs) = roots_printable (root_at x ∷ roots_of xs) (root_named r, roots_named rs)

-- ---- directives

-- if the first option has a value, the list has an element
has_first : {A : Type 0} (o : Option A) (os : List (Option A)) → is_some o ≡ true → has_any (present (o ∷ os)) ≡ true
has_first (Some l) os h = refl
has_first None os h = absurd cc

location_there : {n : ℕ} {x : ParseTree} → HasCapacity schema_grammar n (Sym location_symbol) x → is_some (location_at x) ≡ true
location_there (capacity_node (capacity_leaf {t = t} a l d) c) = (and_parts (matches location_class t) (is_good location_class t) a).1

locations_there : {n : ℕ} {x : ParseTree} → HasCapacity schema_grammar n (Sym locations_symbol) x → has_any (locations_of x) ≡ true
locations_there (capacity_node (capacity_both m (capacity_both first more)) c) = has_first _ _ (location_there first)

-- ---- definitions

abbrev IsDefinition : ℕ → DefinitionTree → Type 0
IsDefinition n d = IsPrintableDefinition d × IsWholeDefinition d × (definition_brackets d ≤ n)

described_printable : {n : ℕ} {x : ParseTree} → HasCapacity schema_grammar n (Sym described_symbol) x → IsDefinition n (described_of x)
described_printable (capacity_node (capacity_first (capacity_both d f)) c) = let (is, b) = body_printable f in (is, tt, omega arith)
described_printable (capacity_node (capacity_second (capacity_both d (capacity_node
    (capacity_both w (capacity_both at (capacity_both called (capacity_both arguments (capacity_both r (capacity_both o ls)))))) e))) c) =
    let (values, b) = arguments_printable arguments in
    ((leaf_name refl called, values), locations_there ls, omega arith)

-- an extension opens a level if it names an operation
braces_within : (m n : ℕ) (b : Bool) → m ≤ n → 1 ≤ n → max m (cond b 1 0) ≤ n
braces_within m n true h o = omega arith
braces_within m n false h o = omega arith

extension_printable : {n : ℕ} {x : ParseTree} → HasCapacity schema_grammar n (Sym extension_symbol) x → IsDefinition n (extension_of x)
extension_printable (capacity_node (capacity_first (capacity_both w f)) adds) = let (is, b) = body_printable f in (is, adds, b)
extension_printable (capacity_node (capacity_second (capacity_both w (capacity_node (capacity_both s (capacity_both ds (capacity_first (capacity_node (capacity_both (capacity_leaf a l d)
    (capacity_both (capacity_both r rs) e)) f)))) c))) adds) =
    let (are, b) = directives_printable (capacity_shared ds refl refl) in
    let (query, mutation, subscription) = some_types_named (capacity_both r rs) in
    ((are, query, mutation, subscription), adds, braces_within _ _ _ b d)
extension_printable (capacity_node (capacity_second (capacity_both w (capacity_node (capacity_both s (capacity_both ds (capacity_second capacity_nothing))) c))) adds) =
    let (are, b) = directives_printable (capacity_shared ds refl refl) in
    ((are, tt, tt, tt), adds, omega arith)

item_printable : {n : ℕ} {x : ParseTree} → HasCapacity schema_grammar n (Sym item_symbol) x → IsDefinition n (item_of x)
item_printable (capacity_node (capacity_first (capacity_both o (capacity_node (capacity_both w (capacity_both ds (capacity_both (capacity_leaf a l d) (capacity_both roots e)))) f))) c) =
    let (are, b) = directives_printable (capacity_shared ds refl refl) in
    let (query, mutation, subscription) = types_named roots in
    ((are, query, mutation, subscription), tt, omega arith)
item_printable (capacity_node (capacity_second (capacity_first f)) c) = extension_printable f
item_printable (capacity_node (capacity_second (capacity_second f)) c) = described_printable f

item_within : (n : ℕ) (x : ParseTree) → HasCapacity schema_grammar n (Sym item_symbol) x
    → Within (λ d. IsPrintableDefinition d × IsWholeDefinition d) definition_brackets n (item_of x)
item_within n x f = let (is, whole, b) = item_printable f in ((is, whole), b)

-- ---- documents

document_printable : (x : ParseTree) → HasCapacity schema_grammar 50 (Sym document_symbol) x → IsPrintable (document_of x)
document_printable _ (capacity_node (capacity_both {x = x} {y = xs} f fs) c) =
    let (are, b) = some_printable item_symbol item_of (λ d. IsPrintableDefinition d × IsWholeDefinition d) definition_brackets item_within (capacity_both f fs) in
    let (names, whole) = each_of_both IsPrintableDefinition IsWholeDefinition (item_of x ∷ each_of item_of xs) are in
    record { definition = refl; names = names; definitions = whole; depth = b }

pub items_printable : (i : Items) (d : DocumentTree) → Nests i.tokens 50 Anything → IsDocument schemas i d → IsPrintable d
items_printable = values.tokens_printable schemas refl IsPrintable document_printable

pub printable : (text : List ℕ) (d : DocumentTree) → IsDocumentOf text d → IsPrintable d
printable = values.text_printable schemas refl IsPrintable document_printable
