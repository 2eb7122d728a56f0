-- Trees with equal parts are equal.
use Rattle.std.proofs.Common.{◌≡◌, ℕ, List, Option, refl}
use Rattle.graphql_core.specs.{Place, ValueTree, TypeTree, DirectiveTree}
use Rattle.graphql_query.specs.{SelectionSetTree, VariableDefinitionTree, OperationBodyTree, FragmentDefinitionTree}

abbrev variable : Place → List ℕ → TypeTree → Option ValueTree → List DirectiveTree → VariableDefinitionTree
variable p n t v ds = record { position = p; name = n; var_type = t; default_value = v; directives = ds }

pub same_variable_definition : {p q : Place} {n m : List ℕ} {t u : TypeTree} {v w : Option ValueTree} {ds es : List DirectiveTree} → q ≡ p → m ≡ n
    → t ≡ u → v ≡ w → ds ≡ es → variable p n t v ds ≡ variable q m u w es
same_variable_definition a b c d e = rw (a, b, c, d, e) refl

abbrev common : Option (List ℕ) → List VariableDefinitionTree → List DirectiveTree → SelectionSetTree → OperationBodyTree
common n vs ds s = record { name = n; variables = vs; directives = ds; selected = s }

pub same_operation_body : {n m : Option (List ℕ)} {vs ws : List VariableDefinitionTree} {ds es : List DirectiveTree} {s t : SelectionSetTree} → n ≡ m
    → vs ≡ ws → ds ≡ es → s ≡ t → common n vs ds s ≡ common m ws es t
same_operation_body a b c d = rw (a, b, c, d) refl

abbrev fragment : Place → List ℕ → List ℕ → List DirectiveTree → SelectionSetTree → FragmentDefinitionTree
fragment p n c ds s = record { position = p; name = n; condition = c; directives = ds; selected = s }

pub same_fragment_definition : {p q : Place} {n m c d : List ℕ} {ds es : List DirectiveTree} {s t : SelectionSetTree} → q ≡ p → m ≡ n → c ≡ d → ds ≡ es
    → s ≡ t → fragment p n c ds s ≡ fragment q m d es t
same_fragment_definition a b c d e = rw (a, b, c, d, e) refl
