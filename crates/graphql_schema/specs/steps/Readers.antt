-- What readers of schemas return.
use Rattle.std.specs.Prelude.{Bool, ◌||◌, Result}
use Rattle.graphql_core.specs.{Expr, ParseTree, written, sees_class, any, reading, Gives, Items}
use Rattle.graphql_core.specs.declared.helpers.read_error.ReadError.{ReadError}
use Rattle.graphql_core.specs.declared.tokenizer.token.Kind.TheVariants.{Name, StringValue, BlockString}
use Rattle.graphql_schema.specs.steps.FactoredRules.{changes}
use Rattle.graphql_schema.specs.Language.{schemas}

-- the reader follows the factored rules, and its result is what the written parse tree denotes
abbrev pub Reads : {A : Type 0} → Expr → Items → Items → (A → ParseTree → Type 0) → Result A ReadError → Type 0
Reads e old new P r = Gives (reading schemas) e old new (λ v x. P v (written changes x)) r

-- what the written parse tree denotes
abbrev pub as_written : {A : Type 0} → (ParseTree → A) → ParseTree → A
as_written f x = f (written changes x)

-- the next token is a description
abbrev pub sees_description : Items → Bool
sees_description i = sees_class (any StringValue) i || sees_class (any BlockString) i

-- the next token is a name or a description
abbrev pub sees_described_name : Items → Bool
sees_described_name i = sees_description i || sees_class (any Name) i
