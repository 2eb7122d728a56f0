-- The grammar of queries is parsed exactly, and extends that of values, types and directives.
use Rattle.std.proofs.Common.{◌+◌, Bool, true, List, [], length, drop, refl}
use Rattle.graphql_core.proofs.{each_is_factored, IsFactored-second, IsFactored-symbols, IsFactored-prefix, unchanged_then}
use Rattle.graphql_core.proofs.{tests_alike, with_more, alone_before, one_cause}
use Rattle.graphql_core.specs.{Grammar, Token, Class, Expr, Row, row_at, EachIsFactored, RejectsTokens, Extends}
use Rattle.graphql_core.specs.{TestsAlike, shared, tables as shared_tables, shared_symbols, unquoted, name, IsReadable}
use Rattle.graphql_query.specs.{queries, query, factored_rows, changes, reading, tables, samples, selection_symbol, field_symbol, fragment_spread_symbol}
use Rattle.graphql_query.specs.{inline_fragment_symbol, alias_symbol, fragment_spread_rest, inline_fragment_rest, field_rest}

-- the written grammar with another test of leaves
abbrev tested : (Class → Token → Bool) → Grammar
tested good = record { rows = query.rows; good = good; check = λ k x. true; samples = samples }

each : (good : Class → Token → Bool) → EachIsFactored (tested good) factored_rows changes
each good = each_is_factored g factored_rows changes (
    unchanged_then g factored_rows changes selection_symbol g.rows factored_rows (drop selection_symbol changes) refl (
      IsFactored-second g factored_rows changes _ _ _ _
          (IsFactored-symbols g factored_rows changes fragment_spread_symbol inline_fragment_symbol _ fragment_spread_rest inline_fragment_rest
          refl refl refl refl (λ x. refl) (λ x. refl) (λ x. refl) (λ x. refl)),
      (
        IsFactored-prefix g factored_rows changes alias_symbol name _ field_rest refl refl (λ x. refl) (λ x. refl),
        unchanged_then g factored_rows changes (length after) (drop (field_symbol + 1) g.rows) after [] refl tt,
      ),
    )
    )
  where
    g : Grammar
    g = tested good

    after : List Row
    after = drop (field_symbol + 1) factored_rows

-- no node is rejected
none_rejected : RejectsTokens query
none_rejected k x fits rejected empty = absurd cc

-- leaves are tested as in the shared grammar, by the written and by the factored rules
pub tested_alike : (e : Expr) → TestsAlike shared query e
tested_alike e = tests_alike shared query (λ c t. refl) e

pub read_alike : (e : Expr) → TestsAlike shared reading e
read_alike e = tests_alike shared reading (λ c t. refl) e

pub written_goes_on : Extends shared_symbols shared query
written_goes_on = with_more shared _ shared.good (λ k x. true) samples refl (λ k h. tested_alike (row_at shared.rows k).rule) (λ k x h. refl)

goes_on : Extends shared_symbols shared reading
goes_on = with_more shared _ shared.good (λ k x. true) samples refl (λ k h. read_alike (row_at shared.rows k).rule) (λ k x h. refl)

pub readable : IsReadable queries
unfolding tables shared_tables unquoted
readable = record {
  ll1 = refl;
  tight = refl;
  productive = refl;
  productive_lax = refl;
  decides = refl;
  samples = refl;
  samples_lax = refl;
  each = each query.good;
  each_unchecked = each query.good;
  each_lax = each (λ c t. true);
  goes_on = goes_on;
  alone = alone_before shared _ refl;
  good = λ k t. refl;
  lacks = λ k t c h. h;
  location = λ t h. absurd cc;
  one_cause = λ leaf t c d h w. one_cause t c d h w;
  rejects_tokens = none_rejected;
  passes = λ x. refl;
  one_said = λ node f g h w. absurd h;
}
