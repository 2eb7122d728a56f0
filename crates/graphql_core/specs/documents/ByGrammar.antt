-- What a reader of an expression promises, in terms of the written grammar alone: without tables, lookahead or order.
use Rattle.std.specs.Prelude.{◌≡◌, List, ◌++◌, length, Result, Ok, Err, Option, Some, None}
use Rattle.graphql_core.specs.grammar.{Token, Expr, ParseTree, Grammar, Derives, lax, Reason, StopsBefore, IsLeast}
use Rattle.graphql_core.specs.grammar.{index_of}
use Rattle.graphql_core.specs.sources.{Items}
use Rattle.graphql_core.specs.documents.Faults.{numbered}

-- The reader went from the items `old` to the items `new`.
module _ (g : Grammar) (e : Expr) (old new : Items) where
  -- The reader took exactly these tokens, and the expression derives them by this parse tree. No list that the
  -- expression derives begins with these tokens and the next one, even in the plain grammar (`lax`).
  abbrev pub TakesExactly : List Token → ParseTree → Type 0
  TakesExactly taken x =
      (old.tokens ≡ taken ++ new.tokens) × Derives g e taken x × StopsBefore (lax g) e taken new.tokens

  -- The reader stopped for this reason after these tokens. That is the first error of all items, if they are to be one
  -- list that the expression derives: the error at the lowest token index.
  abbrev pub StopsAtFirst : Reason → List Token → Type 0
  StopsAtFirst why taken =
      (old.tokens ≡ taken ++ new.tokens) × IsLeast g e (numbered old) why (index_of why (length taken))

  -- the same for an error, which has no reason if it is out of memory
  abbrev pub HaltsAtFirst : Option Reason → Type 0
  HaltsAtFirst None = Unit {0}
  HaltsAtFirst (Some why) = (taken : List Token) × StopsAtFirst why taken

  -- The returned value is what a parse tree of the taken tokens denotes, as `P` says. Or the error is the first error.
  abbrev pub ReturnsDerived : {A E : Type 0} → (E → Option Reason) → (A → ParseTree → Type 0) → Result A E → Type 0
  ReturnsDerived reason P (Ok v) = (taken : List Token) × (x : ParseTree) × TakesExactly taken x × P v x
  ReturnsDerived reason P (Err s) = HaltsAtFirst (reason s)
