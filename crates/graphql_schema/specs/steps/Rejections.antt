-- What readers that reject nodes of schemas return.
use Rattle.std.specs.Prelude.{ℕ, Result}
use Rattle.graphql_core.specs.{Expr, ParseTree, cause_text, empty_extension, FaultText, place_of, Rejections, Items}
use Rattle.graphql_core.specs.declared.common.read.node_error.NodeError.{NodeError}
use Rattle.graphql_schema.specs.Grammar.{schema_symbol, extension_symbol, schema_extension_symbol}
use Rattle.graphql_schema.specs.Language.{schemas}
use Rattle.graphql_schema.specs.declared.read.invalid_node.InvalidNode.{InvalidNode}
use Rattle.graphql_schema.specs.declared.read.invalid_node.InvalidNode.TheVariants.{Schema, SchemaExtension, Extension}
use Rattle.graphql_core.specs.steps.Rejecting as rejecting

-- the symbol of a rejected node, and its error
abbrev pub rejected_symbol : InvalidNode → ℕ
rejected_symbol (Schema c p) = schema_symbol
rejected_symbol (SchemaExtension c p) = schema_extension_symbol
rejected_symbol (Extension p) = extension_symbol

abbrev pub fault_said : InvalidNode → FaultText
fault_said (Schema c p) = record { cause = cause_text c; place = place_of p }
fault_said (SchemaExtension c p) = record { cause = cause_text c; place = place_of p }
fault_said (Extension p) = record { cause = empty_extension; place = place_of p }

abbrev pub rejections : Rejections InvalidNode
rejections = record { symbol = rejected_symbol; fault = fault_said }

-- The reader follows the factored rules, and its result is what the written parse tree denotes. Or it stops, or it
-- rejects a node with the error of that node.
abbrev pub ReadsNode : {A : Type 0} → Expr → Items → Items → (A → ParseTree → Type 0)
    → Result A (NodeError InvalidNode) → Type 0
ReadsNode = rejecting.Reads schemas rejections
