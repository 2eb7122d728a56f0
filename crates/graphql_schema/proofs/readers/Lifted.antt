-- Readers of values, types and directives within schemas.
use Rattle.std.proofs.Common.{◌≡◌, true, Option}
use Rattle.graphql_core.specs.{Grammar, Items, Expr, ParseTree, Reason, TakesSome, StopsFor, is_below, written, shared, shared_symbols}
use Rattle.graphql_schema.specs.{changes, schemas}
use Rattle.graphql_schema.proofs.readers.Readable.{readable, read_alike, shares}
use Rattle.graphql_core.specs.documents.Languages as language
use Rattle.graphql_core.proofs.documents.Lifted as every

abbrev pub reading : Grammar
reading = language.reading schemas

-- for an expression of the shared symbols that names no location
pub lifted : {e : Expr} {old new : Items} {P : ParseTree → Type 0} → shares e ≡ true → is_below shared_symbols e ≡ true → TakesSome shared e old new P
    → TakesSome reading e old new (λ x. P (written changes x))
lifted {e} {old} {new} {P} s b h = every.some_lifted schemas readable e (read_alike e s) b old new P h

pub stops_lifted : (e : Expr) → shares e ≡ true → is_below shared_symbols e ≡ true → (old new : Items) (o : Option Reason) → StopsFor shared e old new o
    → StopsFor reading e old new o
stops_lifted e s = every.stops_lifted schemas readable e (read_alike e s)
