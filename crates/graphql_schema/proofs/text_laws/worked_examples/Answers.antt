use Rattle.std.proofs.Common.{refl}
use Rattle.graphql_core.specs.{quoted_front, string_end, block_end, front, comment, items_in, items, tables as core_tables, unquoted, other_token}
use Rattle.std.specs.Str.{chars}
use Rattle.graphql_core.proofs.{computed}
use Rattle.graphql_schema.specs.{tables, schemas}
use Rattle.graphql_schema.proofs.text_laws.worked_examples.Goals as goal

pub returns : goal.returns
unfolding items items_in front comment other_token string_end block_end quoted_front chars tables core_tables unquoted
returns c = record {
  positions = computed schemas _ refl refl tt;
  leading_bar = computed schemas _ refl refl tt;
  empty_schema = computed schemas _ refl refl tt;
  described_schema = computed schemas _ refl refl tt;
  schema_extension = computed schemas _ refl refl tt;
  any_name = computed schemas _ refl refl tt;
  variable_argument = computed schemas _ refl refl tt;
  extension = computed schemas _ refl refl tt;
}
