-- The results of readers for a language that rejects nodes.
use Rattle.std.specs.Prelude.{ℕ, List, Result, IfErr, Option, Some}
use Rattle.graphql_core.specs.grammar.{IsRejected, Token, Expr, ParseTree, Node}
use Rattle.graphql_core.specs.theory.{written}
use Rattle.graphql_core.specs.sources.{Items, FaultText}
use Rattle.graphql_core.specs.declared.common.read.node_error.NodeError.{NodeError}
use Rattle.graphql_core.specs.declared.common.read.node_error.NodeError.TheVariants.{Stopped, RejectedNode}
use Rattle.graphql_core.specs.steps.ReaderResults.{GivesBy, reason_of}
use Rattle.graphql_core.specs.documents.Languages.{Language, reading}
use Rattle.graphql_core.specs.grammar.GrammarFaults as faults

-- what an error holds of a rejected node: its symbol, and the error that is reported
pub record Rejections (R : Type 0) : Type 0 where
  pub symbol : R → ℕ
  pub fault : R → FaultText

abbrev pub halt_reason : {R : Type 0} → Rejections R → NodeError R → Option faults.Reason
halt_reason w (Stopped s) = reason_of s
halt_reason w (RejectedNode n) = Some (faults.RejectedNode (w.symbol n))

module _ {D R : Type 0} (l : Language D) (w : Rejections R) where
  -- what an error means: a node inside the expression, which ends where the reader stops, is rejected by the language
  abbrev pub SaysNode : Expr → Items → Items → NodeError R → Type 0
  SaysNode e old new (Stopped s) = Unit {0}
  SaysNode e old new (RejectedNode n) =
      (before : List Token) × (x : ParseTree) × IsRejected (reading l) e old.tokens (w.symbol n) x before new.tokens
      × l.rejects (written l.changes (Node (w.symbol n) x)) (w.fault n)

  -- The reader follows the factored rules. `P` relates a returned value to the parse tree by the written rules.
  -- An error reports why the reader stopped.
  pub record Reads {A : Type 0} (e : Expr) (old new : Items) (P : A → ParseTree → Type 0)
      (r : Result A (NodeError R)) : Type 0 where
    pub gives : GivesBy (halt_reason w) (reading l) e old new (λ v x. P v (written l.changes x)) r
    pub says : IfErr r (SaysNode e old new)
