-- What a reader returned, and where it left its source. The definitions serve every grammar.
use Rattle.std.specs.Prelude.{◌≡◌, List, ◌++◌, map, Result, Ok, Err, Option, Some, None}
use Rattle.graphql_core.specs.theory.{Takes, Fails}
use Rattle.graphql_core.specs.grammar.{Expr, ParseTree, Grammar, Reason, Unexpected, Improper}
use Rattle.graphql_core.specs.declared.tokenizer.token.Kind.TheVariants.{IntValue, FloatValue, StringValue}
use Rattle.graphql_core.specs.sources.{Items}
use Rattle.graphql_core.specs.steps.Sources.{kept}
use Rattle.graphql_core.specs.declared.helpers.read_error.ReadError.{ReadError}
use Rattle.graphql_core.specs.declared.helpers.read_error.ReadError.TheVariants.{Memory, Item, Integer, Float, Escape}
use Rattle.graphql_core.specs.declared.helpers.read_error.ReadError.TheVariants.{Location}
use Rattle.graphql_core.specs.values.{any, location_class}

-- the theory's reason for which a reader stopped; `None` for out of memory
abbrev pub reason_of : ReadError → Option Reason
reason_of Memory = None
reason_of Item = Some Unexpected
reason_of Integer = Some (Improper (any IntValue))
reason_of Float = Some (Improper (any FloatValue))
reason_of Escape = Some (Improper (any StringValue))
reason_of Location = Some (Improper location_class)

-- The reader takes this parse tree. The end of the input, or the lexical error in its place, is as before.
abbrev pub Consumes : Grammar → Expr → Items → ParseTree → Items → Type 0
Consumes g e old x new = Takes g e old.tokens x new.tokens × (kept new ≡ kept old)

-- it takes a parse tree of which `P` holds
abbrev pub TakesSome : Grammar → Expr → Items → Items → (ParseTree → Type 0) → Type 0
TakesSome g e old new P = (x : ParseTree) × Consumes g e old x new × P x

-- the reader stops for this reason; `None` stands for out of memory, which says nothing of the tokens
abbrev pub StopsFor : Grammar → Expr → Items → Items → Option Reason → Type 0
StopsFor g e old new None = kept new ≡ kept old
StopsFor g e old new (Some why) = Fails g e old.tokens why new.tokens × (kept new ≡ kept old)

-- The reader takes a parse tree of which `P` holds with the returned value.
-- Or the reader stops for the reason of the error.
abbrev pub GivesBy : {A E : Type 0} → (E → Option Reason) → Grammar → Expr → Items → Items
    → (A → ParseTree → Type 0) → Result A E → Type 0
GivesBy reason g e old new P (Ok v) = TakesSome g e old new (P v)
GivesBy reason g e old new P (Err s) = StopsFor g e old new (reason s)

-- the same for a reader whose errors are `ReadError`s
abbrev pub Gives : {A : Type 0} → Grammar → Expr → Items → Items → (A → ParseTree → Type 0)
    → Result A ReadError → Type 0
Gives g e old new P r = GivesBy reason_of g e old new P r

-- the new list is the old list and then `xs`, seen through `f`
abbrev pub Adds : {A B : Type 0} → (A → B) → List A → List A → List B → Type 0
Adds f old new xs = map f new ≡ map f old ++ xs
