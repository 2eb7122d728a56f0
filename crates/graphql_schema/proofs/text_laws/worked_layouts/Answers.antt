use Rattle.std.specs.Fmt.{digits}
use Rattle.std.proofs.Common.{refl, arith}
use Rattle.graphql_core.specs.{number, common_indent, string_end, block_end, front, comment, items_in, items}
use Rattle.graphql_core.specs.{tables as core_tables, unquoted, quoted_front, other_token}
use Rattle.std.specs.Str.{chars}
use Rattle.graphql_core.proofs.{computed}
use Rattle.graphql_schema.specs.{tables, schemas}
use Rattle.graphql_schema.proofs.text_laws.worked_layouts.Goals as goal

pub returns : goal.returns
unfolding items items_in front comment other_token string_end block_end quoted_front number digits common_indent chars tables core_tables unquoted
returns c = record {
  positions_layout = (_, computed schemas _ refl refl tt, refl);
  directive_layout = (_, computed schemas _ refl refl tt, refl);
  directive_in_lines = (_, computed schemas _ refl refl tt, refl);
  enum_layout = (_, computed schemas _ refl refl tt, refl);
  union_layout = (_, computed schemas _ refl refl tt, refl);
  schema_layout = (_, computed schemas _ refl refl tt, refl);
  empty_schema_layout = (_, computed schemas _ refl refl tt, refl);
  described_schema_layout = (_, computed schemas _ refl refl tt, refl);
  schema_extension_layout = (_, computed schemas _ refl refl tt, refl);
  directives_alone = (_, computed schemas _ refl refl tt, refl);
  empty_schema_extension_layout = refl;
  empty_schema_extension_is_unprintable = λ p. cc p.definitions.0;
  empty_schema_fits = λ h. omega (arith, h);
  input_layout = (_, computed schemas _ refl refl tt, refl);
  extension_layout = (_, computed schemas _ refl refl tt, refl);
  block_description = refl;
}
