-- Steps of the readers of a language that rejects nodes.
use Rattle.std.proofs.Common.{◌≡◌, ℕ, true, false, List, [], ◌∷◌, ◌++◌, Result, Ok, Err, IsErrAnd, refl, sym, ap, ◌∙◌, append_assoc}
use Rattle.graphql_core.specs.{leads_turn, leads_before, Leads, fails_check, sees, takes_node, lax, Token, Class, Expr, One, Then, Many, Sym, ParseTree, Node}
use Rattle.graphql_core.specs.{row, leaves, peek, Fits, first, written, StopsFor, Items, Consumes, reason_of, reading, Language, Rejections, halt_reason, Reads}
use Rattle.graphql_core.specs.{SaysNode, IsReadable}
use Rattle.graphql_core.proofs.first_errors.{node_here}
use Rattle.graphql_core.proofs.readers.{Stops-node, Stops-before, TakesNone, stops_one, gives_error_by, rest_stops}
use Rattle.graphql_core.proofs.readers.{whole, StopsBy, Pushes, pushes_more, turn_fails}
use Rattle.graphql_core.specs.declared.helpers.read_error.ReadError.{ReadError}
use Rattle.graphql_core.specs.declared.common.read.node_error.NodeError.{NodeError}
use Rattle.graphql_core.specs.declared.common.read.node_error.NodeError.TheVariants.{Stopped, RejectedNode}
use Rattle.graphql_core.proofs.documents.Readable.{rejects_read}
use Rattle.graphql_core.proofs.documents.Whole.{exit}
use Rattle.graphql_core.proofs.readers.Steps as steps

module _ {D R : Type 0} (l : Language D) (w : Rejections R) where
  -- an error of a node in f is an error of that node in e, if e leads to f
  says_inside : (e f : Expr) (start mid new : Items) (h : NodeError R) (front : List Token) → start.tokens ≡ front ++ mid.tokens
      → ((ts : List Token) (d : Expr) → Leads (lax (reading l)) f ts d → Leads (lax (reading l)) e (front ++ ts) d)
      → SaysNode l w f mid new h → SaysNode l w e start new h
  says_inside e f start mid new (Stopped s) front parts leads said = tt
  says_inside e f start mid new (RejectedNode n) front parts leads (before, x, (p, ne, led, fits, bad, stops), said) = (
    front ++ before,
    x,
    (parts ∙ ap (λ (ts : List Token). front ++ ts) p ∙ sym (append_assoc front before (leaves x ++ new.tokens)), ne, leads _ _ led, fits, bad, stops),
    said,
  )

  -- ---- if the whole leads to a part, the result of the part is the result of the whole

  pub reads_led : {A : Type 0} {e f : Expr} {inside : ParseTree → ParseTree} (old mid new : Items) (P Q : A → ParseTree → Type 0) (r : Result A (NodeError R))
      → steps.Leads (reading l) e f inside old mid
      → ((v : A) (x : ParseTree) → P v (written l.changes x) → Q v (written l.changes (inside x))) → Reads l w f mid new P r → Reads l w e old new Q r
  reads_led {inside = inside} old mid new P Q (Ok v) led means h =
      let (x, taken, is) = h.gives in
      record { gives = whole led taken (means v x is); says = tt }
  reads_led {e = e} {f = f} old mid new P Q (Err d) led means h = record {
    gives = rest_stops led new (halt_reason w d) h.gives;
    says = says_inside e f old mid new d led.front led.parts led.derives h.says;
  }

  -- an error of the part is returned by the whole
  pub halts_led : {A B : Type 0} {e f : Expr} {inside : ParseTree → ParseTree} (old mid new : Items) (P : A → ParseTree → Type 0) (Q : B → ParseTree → Type 0)
      (r : Result B (NodeError R)) (d : NodeError R) → steps.Leads (reading l) e f inside old mid → Reads l w f mid new P (Err d)
      → IsErrAnd r (λ x. x ≡ d) → Reads l w e old new Q r
  halts_led {e = e} {f = f} old mid new P Q r d led h up = record {
    gives = gives_error_by (halt_reason w) (reading l) e old new _ r d (rest_stops led new (halt_reason w d) h.gives) up;
    says = exit r d _ up (says_inside e f old mid new d led.front led.parts led.derives h.says);
  }

  -- so is an error of a first part, if some list matches what comes after it
  pub halts_before : {A B : Type 0} {a b : Expr} (y : ParseTree) (old new : Items) (P : A → ParseTree → Type 0) (Q : B → ParseTree → Type 0)
      (r : Result B (NodeError R)) (d : NodeError R)
      → Fits (lax (reading l)) b y → Reads l w a old new P (Err d) → IsErrAnd r (λ x. x ≡ d) → Reads l w (Then a b) old new Q r
  halts_before {a = a} {b = b} y old new P Q r d fits h up = record {
    gives = gives_error_by (halt_reason w) (reading l) (Then a b) old new _ r d
        (Stops-before (reading l) a b old new (halt_reason w d) h.gives) up;
    says = exit r d _ up (says_inside (Then a b) a old old new d [] refl (λ ts e led. leads_before led fits) h.says);
  }

  -- so is an error of a part that rejects no node
  pub stops_led : {A : Type 0} {e f : Expr} {inside : ParseTree → ParseTree}
      {mid : Items} (old new : Items) (P : A → ParseTree → Type 0) (r : Result A (NodeError R)) (d : ReadError)
      → steps.Leads (reading l) e f inside old mid → StopsFor (reading l) f mid new (reason_of d)
      → IsErrAnd r (λ x. x ≡ Stopped d) → Reads l w e old new P r
  stops_led {e = e} old new P r d led stops up = record {
    gives = gives_error_by (halt_reason w) (reading l) e old new _ r (Stopped d) (rest_stops led new (reason_of d) stops) up;
    says = exit r (Stopped d) _ up tt;
  }

  -- ---- a node

  module _ (k : ℕ) (old new : Items) where
    -- its rule stops
    pub node_stops : {A : Type 0} (P : A → ParseTree → Type 0) (r : Result A (NodeError R)) (d : ReadError)
        → StopsFor (reading l) (row (reading l) k).rule old new (reason_of d) → IsErrAnd r (λ e. e ≡ Stopped d) → Reads l w (Sym k) old new P r
    node_stops P r d stops up = record {
      gives = gives_error_by (halt_reason w) (reading l) (Sym k) old new _ r (Stopped d)
          (Stops-node (reading l) k old new (reason_of d) stops) up;
      says = exit r (Stopped d) _ up tt;
    }

    -- a token is missing in it
    pub node_lacks : {A : Type 0} {c : Class} (mid : Items) (P : A → ParseTree → Type 0) (r : Result A (NodeError R)) (d : ReadError)
        → StopsBy (reading l) (row (reading l) k).rule (One c) old mid → TakesNone c mid new d → IsErrAnd r (λ e. e ≡ Stopped d)
        → Reads l w (Sym k) old new P r
    node_lacks {c = c} mid P r d by none up = node_stops P r d (by new (reason_of d) (stops_one (reading l) c mid new d none)) up

    -- it passes
    pub node_passes : {A : Type 0} (P : A → ParseTree → Type 0) (v : A) (x : ParseTree) → Consumes (reading l) (row (reading l) k).rule old x new
        → (reading l).check k x ≡ true → P v (written l.changes (Node k x)) → Reads l w (Sym k) old new P (Ok v)
    node_passes P v x (takes, same) good means = record { gives = (Node k x, (takes_node takes good, same), means); says = tt }

  -- or it is rejected
  pub node_rejected : IsReadable l → {A : Type 0} (old new : Items) (P : A → ParseTree → Type 0) (n : R) (x : ParseTree)
      → Consumes (reading l) (row (reading l) (w.symbol n)).rule old x new
      → (reading l).check (w.symbol n) x ≡ false → l.rejects (written l.changes (Node (w.symbol n) x)) (w.fault n)
      → Reads l w (Sym (w.symbol n)) old new P (Err (RejectedNode n))
  node_rejected r old new P n x (takes, same) bad said =
      record { gives = (fails_check takes bad, same); says = ([], x, node_here (reading l) r.ll1 (rejects_read l r) (w.symbol n) x _ _ takes bad, said) }

  -- ---- elements in a row, pushed by a loop: f is what a turn denotes, and view what an element is seen as

  module _ {V A : Type 0} (a : Expr) (f : ParseTree → A) (view : V → A) (start now next : Items) (old found : List V) where
    abbrev ReadsTurn : Result V (NodeError R) → Type 0
    ReadsTurn = Reads l w a now next (λ v x. view v ≡ f x)

    abbrev Come : Items → List V → List V → Type 0
    Come = Pushes (reading l) a (λ x. f (written l.changes x)) view start

    pub turn_done : (new : List V) (v : V) → Come now old found → sees (first (reading l).rows a) (peek now.tokens) ≡ true → ReadsTurn (Ok v)
        → new ≡ found ++ v ∷ [] → Come next old new
    turn_done new v p seen h push = pushes_more (reading l) a _ view start now next old found new v p seen h.gives push

    pub turn_halts : {B : Type 0} (P : B → ParseTree → Type 0) (r : Result B (NodeError R)) (d : NodeError R) → Come now old found
        → sees (first (reading l).rows a) (peek now.tokens) ≡ true → ReadsTurn (Err d) → IsErrAnd r (λ e. e ≡ d) → Reads l w (Many a) start next P r
    turn_halts P r d p seen h up = record {
      gives = gives_error_by (halt_reason w) (reading l) (Many a) start next _ r d
          (turn_fails next (halt_reason w d) p seen h.gives) up;
      says = exit r d _ up (says_inside (Many a) a start now next d p.front p.parts (λ ts e led. p.leads ts e (leads_turn led)) h.says);
    }
