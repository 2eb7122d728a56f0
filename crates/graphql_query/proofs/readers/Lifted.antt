-- Readers of values, types and directives within queries, and the rule of a symbol.
use Rattle.std.proofs.Common.{◌≡◌, ℕ, true, Option, refl}
use Rattle.graphql_core.specs.{Items, Expr, Sym, ParseTree, Node, row, Reason, TakesSome, StopsFor, is_below, written, shared, shared_symbols}
use Rattle.graphql_query.specs.{queries, changes, reading}
use Rattle.graphql_query.proofs.readers.Readable.{readable, read_alike}
use Rattle.graphql_core.proofs.readers.Steps as steps
use Rattle.graphql_core.proofs.documents.Lifted as every

-- no node is rejected
pub begun : {old : Items} (k : ℕ) → steps.Leads reading (Sym k) (row reading k).rule (Node k) old old
begun k = steps.begun k (λ x. refl)

pub lifted : {e : Expr} {old new : Items} {P : ParseTree → Type 0} → is_below shared_symbols e ≡ true → TakesSome shared e old new P
    → TakesSome reading e old new (λ x. P (written changes x))
lifted {e} {old} {new} {P} below h = every.some_lifted queries readable e (read_alike e) below old new P h

pub stops_lifted : (e : Expr) → is_below shared_symbols e ≡ true → (old new : Items) (o : Option Reason) → StopsFor shared e old new o
    → StopsFor reading e old new o
stops_lifted e = every.stops_lifted queries readable e (read_alike e)
