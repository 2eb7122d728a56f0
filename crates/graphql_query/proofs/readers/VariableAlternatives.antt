-- Variables of operations, one after the other.
use Rattle.std.proofs.Common.{codes, refl}
use Rattle.graphql_core.specs.{Sym, written, tables as shared_tables, IsList, enclosed_of, each_of, punctuator_class}
use Rattle.graphql_core.proofs.{is_list}
use Rattle.graphql_query.specs.{reading, changes, tables, variable_definitions_symbol, variable_definition_symbol}
use Rattle.graphql_query.specs.{variable_definition_of, read_variable_definition}

pub variable_definitions_list : IsList reading (punctuator_class (codes "(")) (punctuator_class (codes ")")) (Sym variable_definition_symbol)
    read_variable_definition variable_definitions_symbol (λ x. enclosed_of variable_definition_of (written changes x))
unfolding tables shared_tables
variable_definitions_list = is_list (λ x. each_of variable_definition_of (written changes x)) refl (λ x. refl) (λ t. refl) (λ t. refl) refl refl refl
    (λ x y. refl) (λ t u x xs. refl)
