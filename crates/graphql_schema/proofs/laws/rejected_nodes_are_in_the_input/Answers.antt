use Rattle.std.proofs.Common.{ℕ, List, refl, subst}
use Rattle.graphql_core.specs.{Item, HasItems, split, FaultText, ParseFailure, IsErrorOf, past_bound}
use Rattle.graphql_core.specs.sources.ParseFailures.{IsOutOfMemoryOr}
use Rattle.graphql_core.specs.documents.Faults.{IsFaultAt, ran_out, faulty}
use Rattle.graphql_core.proofs.{items_unique}
use Rattle.graphql_schema.specs.{schemas, RefersTo}
use Rattle.graphql_schema.proofs.{fault_refers}
use Rattle.graphql_schema.proofs.laws.rejected_nodes_are_in_the_input.Goals as goal

first : (text : List ℕ) (items : List Item) (r : ParseFailure) → HasItems text items → IsErrorOf schemas text r
    → IsOutOfMemoryOr (λ (f : FaultText). (n : ℕ) × RefersTo (split items).tokens n f) r
first text items _ has ran_out = refl
first text items _ has (past_bound long) = (0, tt)
first text items _ has (faulty f short (others, has', (n, why, least, said))) =
    let here : IsFaultAt schemas (split items) f n =
    subst (λ (is : List Item). IsFaultAt schemas (split is) f n) (items_unique text others items has' has) (why, least.0, said) in
    (n, fault_refers items f n here)

pub returns : goal.returns
returns c = record { each = fault_refers; first = first }
