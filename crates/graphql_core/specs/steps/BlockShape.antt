-- What the value of a block string depends on besides its lines, after the first lines.
use Rattle.std.specs.Prelude.{◌≡◌, ℕ, ◌-◌, not, min, map, take, drop, List, Option, Some, None}
use Rattle.std.specs.List.{filter, reduce, prefix_len, suffix_len}
use Rattle.graphql_core.specs.strings.BlockStrings.{is_blank_line, indent}
use Rattle.graphql_core.specs.declared.common.strings.block.BlockShape.{BlockShape}

-- the least of the indents of some lines, if there are any, and of one more
abbrev pub least_indent : Option ℕ → ℕ → ℕ
least_indent None n = n
least_indent (Some m) n = min m n

-- the shape of the first `k` of the lines
pub record IsShape (s : BlockShape) (k : ℕ) (ls : List (List ℕ)) : Type 0 where
  pub least : s.indent ≡ reduce min (map indent (filter (λ l. not (is_blank_line l)) (drop 1 (take k ls))))
  pub first : s.first ≡ prefix_len is_blank_line (take k ls)
  pub through : s.through ≡ k - suffix_len is_blank_line (take k ls)
