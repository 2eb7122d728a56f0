use Rattle.std.proofs.Common.{refl}
use Rattle.graphql_core.specs.{quoted_front, string_end, block_end, front, comment, items_in, items, tables as core_tables, unquoted, other_token}
use Rattle.std.specs.Str.{chars}
use Rattle.graphql_core.proofs.{rejected}
use Rattle.graphql_schema.specs.{tables, schemas}
use Rattle.graphql_schema.proofs.{readable}
use Rattle.graphql_schema.proofs.text_laws.worked_errors.Goals as goal

pub returns : goal.returns
unfolding items items_in front comment other_token string_end block_end quoted_front chars tables core_tables unquoted
returns c = record {
  unknown_root = rejected schemas readable _ _ _ tt refl;
  duplicate_root = rejected schemas readable _ _ _ tt refl;
  open_schema = rejected schemas readable _ _ _ tt refl;
  later_fault = rejected schemas readable _ _ _ tt refl;
  bare_extension = rejected schemas readable _ _ _ tt refl;
  bare_schema_extension = rejected schemas readable _ _ _ tt refl;
  schema_twice = rejected schemas readable _ _ _ tt refl;
  no_operations = rejected schemas readable _ _ _ tt refl;
  duplicate_extension = rejected schemas readable _ _ _ tt refl;
  unknown_described = rejected schemas readable _ _ _ tt refl;
  interface_alone = rejected schemas readable _ _ _ tt refl;
  open_extension = rejected schemas readable _ _ _ tt refl;
  no_punctuator = rejected schemas readable _ _ _ tt refl;
  described_extension = rejected schemas readable _ _ _ tt refl;
  no_fields = rejected schemas readable _ _ _ tt refl;
  variable_default = rejected schemas readable _ _ _ tt refl;
  no_location = rejected schemas readable _ _ _ tt refl;
  other_location = rejected schemas readable _ _ _ tt refl;
  nothing = rejected schemas readable _ _ _ tt refl;
}
