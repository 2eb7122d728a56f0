-- What a stack says of documents: what can come next, and whether the input can end.
use Rattle.std.proofs.Common.{◌≡◌, ◌↔◌, ℕ, ◌-◌, Bool, true, false, List, [], ◌∷◌, ◌++◌, length, take, reverse, IsTrue}
use Rattle.std.proofs.Common.{refl, sym, ap, subst, ◌∙◌}
use Rattle.std.proofs.Common.{arith, length-append, append-nil, append_assoc, inl, inr}
use Rattle.std.proofs.Math.Seq.{take-append_seam}
use Rattle.graphql_core.specs.{Token, Expr, Sym, ParseTree, Grammar, leaves, Reason, Takes, Fails}
use Rattle.graphql_core.specs.{fails_one, fails_value, fails_before, fails_after, fails_check, fails_node}
use Rattle.graphql_core.specs.grammar.Trees.{Derives, Begins}
use Rattle.graphql_core.specs.grammar.Texts.{Text, InputEnds}
use Rattle.graphql_core.specs.theory.Reading.{Outcome, Done, Fault, ReadsTo}
use Rattle.graphql_core.specs.theory.Reading.{fails_first, fails_second, fails_neither, fails_turn, fails_later}
use Rattle.graphql_core.specs.theory.Theorems.{IsExact}
use Rattle.graphql_core.specs.theory.WholeTexts.{IsWhole, Tree, Rejected, HasResult}
use Rattle.graphql_core.proofs.grammar.FirstFault.{fits-lax}
use Rattle.graphql_core.proofs.grammar.Exact.{grammar_exact}
use Rattle.graphql_core.proofs.grammar.WholeTexts.{grammar_whole}
use Rattle.graphql_core.proofs.grammar.Sound.{takes-leaves}
use Rattle.graphql_standard.specs.theory.Stack.{TakesAll, takes_none, takes_one, FailsIn, fails_here, fails_further}
use Rattle.graphql_standard.specs.theory.Stack.{Alike}
use Rattle.graphql_standard.specs.Grammar.{standard}
use Rattle.graphql_standard.specs.Symbols as symbol
use Rattle.graphql_standard.specs.Recognizing.{IsDocument, BeginsDocument}
use Rattle.graphql_standard.specs.steps.Stacks.{stack_of, Stops, IsNext, EndsAs, AtEnd, LeadsTo, IsAt}
use Rattle.graphql_standard.specs.Terminals.{IsTokenOf}
use Rattle.graphql_standard.specs.declared.terminal.Terminal.{Terminal}
use Rattle.graphql_standard.specs.declared.symbol.Symbol.{Symbol}
use Rattle.graphql_standard.proofs.Stack.{only, only-fails}
use Rattle.graphql_standard.proofs.Effects.{Alike-same, Alike-then}

last_nil : (xs us : List Token) → [] ≡ xs ++ us → us ≡ []
last_nil [] us h = sym h
last_nil (x ∷ xs) us h = absurd cc

takes_nil : (g : Grammar) (e : Expr) (x : ParseTree) (us : List Token) → Takes g e [] x us → us ≡ []
takes_nil g e x us h = last_nil (leaves x) us (takes-leaves g h)

taken_nil : (g : Grammar) {e : Expr} {ts us : List Token} {x : ParseTree} → Takes g e ts x us → ts ≡ [] → us ≡ []
taken_nil g {us = us} {x = x} h n = last_nil (leaves x) us (sym n ∙ takes-leaves g h)

failed_nil : (g : Grammar) {e : Expr} {ts us : List Token} {why : Reason} → Fails g e ts why us → ts ≡ [] → us ≡ []
failed_nil g (fails_one h) n = n
failed_nil g (fails_value h k) n = n
failed_nil g (fails_before p) n = failed_nil g p n
failed_nil g (fails_after q p) n = failed_nil g p (taken_nil g q n)
failed_nil g (fails_first h p) n = failed_nil g p n
failed_nil g (fails_second h p) n = failed_nil g p n
failed_nil g (fails_neither h) n = n
failed_nil g (fails_turn h p) n = failed_nil g p n
failed_nil g (fails_later h q p) n = failed_nil g p (taken_nil g q n)
failed_nil g (fails_node p) n = failed_nil g p n
failed_nil g (fails_check q h) n = taken_nil g q n

fails_nil : (g : Grammar) {e : Expr} {why : Reason} {us : List Token} → Fails g e [] why us → us ≡ []
fails_nil g p = failed_nil g p refl

stack_nil : (es : List Expr) (us : List Token) → TakesAll standard es [] us → us ≡ []
stack_nil [] us takes_none = refl
stack_nil (e ∷ es) us (takes_one {us = vs} {x = x} q p) =
    stack_nil es us (subst (λ (l : List Token). TakesAll standard es l us) (takes_nil standard e x vs q) p)

stack_fails_nil : (es : List Expr) (why : Reason) (us : List Token) → FailsIn standard es [] why us → us ≡ []
stack_fails_nil [] why us h = elim h [ ]
stack_fails_nil (e ∷ es) why us (fails_here p) = fails_nil standard p
stack_fails_nil (e ∷ es) why us (fails_further {us = vs} {x = x} q p) =
    stack_fails_nil es why us (subst (λ (l : List Token). FailsIn standard es l why us) (takes_nil standard e x vs q) p)

pub exact : IsExact standard (Sym symbol.document)
exact = grammar_exact standard refl refl (Sym symbol.document) refl refl

-- some document begins with the tokens
pub begins : (ts : List Token) (es : List Expr) → Alike standard (Sym symbol.document ∷ []) (ts ++ []) es []
    → Begins standard (Sym symbol.document) ts
begins ts es at = of (exact.has_outcome (ts ++ []))
  where
    of : (o : Outcome) × ReadsTo standard (Sym symbol.document) (ts ++ []) o → Begins standard (Sym symbol.document) ts
    of (Done x us, r) =
        let n : us ≡ [] = stack_nil es us ((at.takes us).0 (takes_one r takes_none)) in
        let s = exact.sound (ts ++ []) us x r in
        (x, [], (s.0.0, s.1 ∙ (ap (λ (l : List Token). leaves x ++ l) n ∙ append-nil (leaves x))))
    of (Fault why us, r) =
        let n : us ≡ [] = stack_fails_nil es why us ((at.fails why us).0 (fails_here r)) in
        let f = (exact.earliest (ts ++ []) us why r).fault in
        let e : f.front ≡ ts =
        sym (append-nil f.front) ∙ (ap (λ (l : List Token). f.front ++ l) (sym n) ∙ (sym f.parts ∙ append-nil ts)) in
        subst (Begins standard (Sym symbol.document)) e f.begins

-- no symbol is read yet
pub at_start : LeadsTo [] (Sym symbol.document ∷ [])
at_start us = Alike-same standard (Sym symbol.document ∷ []) us

-- one more token is read
pub at_next : (front : List Token) (t : Token) (old new : List Expr) → LeadsTo front old
    → ((ts : List Token) → Alike standard old (t ∷ ts) new ts) → LeadsTo (front ++ t ∷ []) new
at_next front t old new at f = λ us.
    subst (λ (l : List Token). Alike standard (Sym symbol.document ∷ []) l new us)
    (sym (append_assoc front (t ∷ []) us)) (Alike-then standard (at (t ∷ us)) (f us))

pub read_begins : (front : List Token) (es : List Expr) → LeadsTo front es → BeginsDocument front
read_begins front es at = begins front es (at [])

same_front : (a b : List Token) (u : Token) (us : List Token) → a ++ u ∷ us ≡ b ++ u ∷ us → a ≡ b
same_front a b u us h =
    let n : length a ≡ length b = omega (arith, ap length h, length-append a (u ∷ us), length-append b (u ∷ us)) in
    sym (take-append_seam a (u ∷ us)) ∙ (ap (λ (l : List Token). take (length a) l) h
    ∙ (ap (λ (m : ℕ). take m (b ++ u ∷ us)) n ∙ take-append_seam b (u ∷ us)))

-- no document goes on with a token at which reading stops
pub stopped : (front : List Token) (t : Token) (es : List Expr) → LeadsTo front es
    → ((ts : List Token) → Stops es (t ∷ ts)) → BeginsDocument (front ++ t ∷ []) → ⊥
stopped front t es at f (x, more, d) = by (f more)
  where
    whole : (front ++ t ∷ []) ++ more ≡ front ++ t ∷ more
    whole = append_assoc front (t ∷ []) more

    derived : Derives standard (Sym symbol.document) (front ++ t ∷ more) x
    derived = subst (λ (l : List Token). Derives standard (Sym symbol.document) l x) whole d

    by : Stops es (t ∷ more) → ⊥
    by (inl (why, p)) =
        let g = only-fails standard (((at (t ∷ more)).fails why (t ∷ more)).1 p) in
        let h = (exact.earliest (front ++ t ∷ more) (t ∷ more) why g).fault in
        let e : h.front ≡ front = sym (same_front front h.front (t) more h.parts) in
        h.ends x (t ∷ more) (subst (λ (l : List Token). Derives standard (Sym symbol.document) (l ++ t ∷ more) x) (sym e) derived) refl
    by (inr p) =
        let g = only standard (((at (t ∷ more)).takes (t ∷ more)).1 p) in
        let s = exact.sound (front ++ t ∷ more) (t ∷ more) g.0 g.1 in
        let e : leaves g.0 ≡ front = sym (same_front front (leaves g.0) (t) more s.1) in
        let l = exact.longest (front ++ t ∷ more) (t ∷ more) g.0 g.1 x (t ∷ more) (
          fits-lax standard (subst (λ (l : List Token). Derives standard (Sym symbol.document) (l ++ t ∷ more) x) (sym e) derived).0,
          (subst (λ (l : List Token). Derives standard (Sym symbol.document) (l ++ t ∷ more) x) (sym e) derived).1,
        ) refl in
        absurd (not_nil l.1)
      where
        not_nil : t ∷ more ≡ [] → ⊥
        not_nil h = cc

whole : IsWhole standard (Sym symbol.document)
whole = grammar_whole standard (Sym symbol.document) exact

text : List Token → Text
text ts = record { tokens = ts; ending = InputEnds }

-- the tokens are a document
pub ended : (ts : List Token) (es : List Expr) → LeadsTo ts es → EndsAs true es → IsDocument ts
unfolding text
ended ts es at p =
    let g = only standard (((at []).takes []).1 p) in
    let d = (whole.tree (text ts) g.0).0
    (Done g.0 [], subst (λ (l : List Token). Takes standard (Sym symbol.document) l g.0 []) (append-nil ts) g.1, refl) in
    (g.0, d.0)

differ : (x : ParseTree) (why : Reason) (n : ℕ) → Tree x ≡ Rejected why n → ⊥
differ x why n h = cc

-- the tokens are no document
pub unended : (ts : List Token) (es : List Expr) → LeadsTo ts es → EndsAs false es → IsDocument ts → ⊥
unfolding text
unended ts es at (why, f) (x, d) =
    let g = only-fails standard (((at []).fails why []).1 f) in
    let wrong : HasResult standard (Sym symbol.document) (text ts) (Rejected why (length ts - 0)) =
    (Fault why [], subst (λ (l : List Token). Fails standard (Sym symbol.document) l why []) (append-nil ts) g, refl) in
    let right : HasResult standard (Sym symbol.document) (text ts) (Tree x) = (whole.tree (text ts) x).1 (d, refl) in
    differ x why (length ts - 0) (whole.one (text ts) (Tree x) (Rejected why (length ts - 0)) right wrong)

pub complete : (ts : List Token) (ss : List Symbol) (b : Bool) → IsAt ts ss → AtEnd b ss → IsTrue b ↔ IsDocument ts
complete ts ss true at p = (λ h. ended ts (stack_of ss) at p, λ d. refl)
complete ts ss false at p = (λ h. absurd cc, λ d. absurd (unended ts (stack_of ss) at p d))

pub read_one : (ts : List Token) (t : Token) (old new xs : List Symbol) (k : Terminal) (n : ℕ) → IsAt ts old
    → IsNext old k n xs → IsTokenOf k t → new ≡ take n old ++ reverse xs
    → IsAt (ts ++ t ∷ []) new × BeginsDocument (ts ++ t ∷ [])
read_one ts t old new xs k n at next is e =
    let more : IsAt (ts ++ t ∷ []) new =
    at_next ts t (stack_of old) (stack_of new) at (subst (λ (ss : List Symbol). (us : List Token) → Alike standard (stack_of old) (t ∷ us) (stack_of ss) us)
    (sym e) (next.1 t is)) in
    (more, read_begins (ts ++ t ∷ []) (stack_of new) more)
