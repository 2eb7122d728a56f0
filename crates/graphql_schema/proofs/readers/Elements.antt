-- Fields, arguments and values of enums: their parts, and lists of them in brackets.
use Rattle.std.proofs.Common.{◌≡◌, ℕ, List, Option, codes, refl}
use Rattle.graphql_core.specs.{Place, Sym, ValueTree, TypeTree, DirectiveTree, IsList, each_of, enclosed_of, punctuator_class}
use Rattle.graphql_core.proofs.{is_list}
use Rattle.graphql_schema.specs.{enum_value_of, field_of, input_value_of, tables, enum_values_symbol, enum_value_symbol, fields_symbol, field_symbol}
use Rattle.graphql_schema.specs.{input_value_symbol, argument_definitions_symbol, input_fields_symbol, InputValueTree, EnumValueTree, FieldTree, as_written}
use Rattle.graphql_schema.proofs.readers.Lifted.{reading}

-- ---- trees with equal parts are equal

abbrev enum_value : Place → Option (List ℕ) → List ℕ → List DirectiveTree → EnumValueTree
enum_value p d n ds = record { position = p; description = d; name = n; directives = ds }

pub same_enum_value : {p q : Place} {d e : Option (List ℕ)} {n m : List ℕ} {ds es : List DirectiveTree} → p ≡ q → d ≡ e → m ≡ n → ds ≡ es
    → enum_value p d n ds ≡ enum_value q e m es
same_enum_value a b c d = rw (a, b, c, d) refl

abbrev field : Place → Option (List ℕ) → List ℕ → List InputValueTree → TypeTree → List DirectiveTree → FieldTree
field p d n vs t ds = record { position = p; description = d; name = n; arguments = vs; field_type = t; directives = ds }

pub same_field : {p q : Place} {d e : Option (List ℕ)} {n m : List ℕ} {vs ws : List InputValueTree} {t u : TypeTree} {ds es : List DirectiveTree}
    → p ≡ q → d ≡ e → m ≡ n → vs ≡ ws → t ≡ u → ds ≡ es → field p d n vs t ds ≡ field q e m ws u es
same_field a b c d e f = rw (a, b, c, d, e, f) refl

abbrev input_value : Place → Option (List ℕ) → List ℕ → TypeTree → Option ValueTree → List DirectiveTree → InputValueTree
input_value p d n t v ds = record { position = p; description = d; name = n; value_type = t; default_value = v; directives = ds }

pub same_input_value : {p q : Place} {d e : Option (List ℕ)} {n m : List ℕ} {t u : TypeTree} {v w : Option ValueTree} {ds es : List DirectiveTree} → p ≡ q
    → d ≡ e → m ≡ n → t ≡ u → v ≡ w → ds ≡ es → input_value p d n t v ds ≡ input_value q e m u w es
same_input_value a b c d e f = rw (a, b, c, d, e, f) refl

-- ---- lists of them in brackets

pub enum_values_list : IsList reading (punctuator_class (codes "{")) (punctuator_class (codes "}")) (Sym enum_value_symbol) (as_written enum_value_of)
    enum_values_symbol (as_written (enclosed_of enum_value_of))
unfolding tables
enum_values_list = is_list (as_written (each_of enum_value_of)) refl (λ x. refl) (λ t. refl) (λ t. refl) refl refl refl (λ x y. refl) (λ t u x xs. refl)

pub fields_list : IsList reading (punctuator_class (codes "{")) (punctuator_class (codes "}")) (Sym field_symbol) (as_written field_of)
    fields_symbol (as_written (enclosed_of field_of))
unfolding tables
fields_list = is_list (as_written (each_of field_of)) refl (λ x. refl) (λ t. refl) (λ t. refl) refl refl refl (λ x y. refl) (λ t u x xs. refl)

pub argument_definitions_list : IsList reading (punctuator_class (codes "(")) (punctuator_class (codes ")")) (Sym input_value_symbol)
    (as_written input_value_of) argument_definitions_symbol (as_written (enclosed_of input_value_of))
unfolding tables
argument_definitions_list =
    is_list (as_written (each_of input_value_of)) refl (λ x. refl) (λ t. refl) (λ t. refl) refl refl refl (λ x y. refl) (λ t u x xs. refl)

pub input_fields_list : IsList reading (punctuator_class (codes "{")) (punctuator_class (codes "}")) (Sym input_value_symbol) (as_written input_value_of)
    input_fields_symbol (as_written (enclosed_of input_value_of))
unfolding tables
input_fields_list = is_list (as_written (each_of input_value_of)) refl (λ x. refl) (λ t. refl) (λ t. refl) refl refl refl (λ x y. refl) (λ t u x xs. refl)
