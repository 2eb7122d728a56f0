use Rattle.std.proofs.Common.{refl}
use Rattle.std.specs.Str.{chars}
use Rattle.graphql_core.specs.{front, comment, items_in, items, tables as core_tables, other_token}
use Rattle.graphql_core.proofs.{computed}
use Rattle.graphql_query.specs.{tables, queries}
use Rattle.graphql_query.proofs.text_laws.worked_examples.Goals as goal

pub returns : goal.returns
unfolding items items_in front comment other_token chars tables core_tables
returns c = record {
  nested = computed queries _ refl refl tt;
  two_definitions = computed queries _ refl refl tt;
  comment_return_feed = computed queries _ refl refl tt;
  comment_return = computed queries _ refl refl tt;
  byte_order_mark = computed queries _ refl refl tt;
  named = computed queries _ refl refl tt;
  nested_layout = refl;
  two_definitions_layout = refl;
  named_layout = refl;
}
