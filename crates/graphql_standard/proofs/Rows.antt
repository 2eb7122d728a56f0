use Rattle.std.proofs.Common.{◌≡◌, true, sym, subst}
use Rattle.graphql_standard.specs.declared.symbol.Symbol.{Symbol}
use Rattle.graphql_standard.specs.declared.symbol.Row.{Row}
use Rattle.graphql_standard.specs.steps.Fitting.{fits_row, FitsRow}

pub row_at : {s : Symbol} (t : Symbol) (r : Row) → s ≡ t → fits_row t r ≡ true → FitsRow s r
unfolding FitsRow
row_at t r h k = subst (λ (u : Symbol). fits_row u r ≡ true) (sym h) k
