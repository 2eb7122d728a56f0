-- Stacks of symbols, from the bottom to the top, and what a step of the program does to one.
use Rattle.std.proofs.Common.{◌≡◌, ℕ, List, [], ◌∷◌, ◌++◌, length, take, reverse, refl, sym, ap, subst, ◌∙◌, arith}
use Rattle.std.proofs.Common.{append_assoc, length-append}
use Rattle.std.proofs.Math.Seq.{take-append_seam}
use Rattle.std.proofs.lemmas.List.{reverse-append}
use Rattle.graphql_core.specs.{Token, Expr, Reason}
use Rattle.graphql_standard.specs.theory.Stack.{TakesAll, takes_none, FailsIn, Alike}
use Rattle.graphql_standard.specs.Grammar.{standard}
use Rattle.graphql_standard.specs.steps.Meanings.{means, means_all}
use Rattle.graphql_standard.specs.steps.Stacks.{above, stack_of, IsNext, StopsAt, Comes}
use Rattle.std.specs.Borrow.{Bor}
use Rattle.std.proofs.Common.{Bool, Option, Some, None, is_some, MatchOption}
use Rattle.graphql_standard.specs.Terminals.{IsTokenOf}
use Rattle.graphql_standard.specs.declared.terminal.Terminal.{Terminal}
use Rattle.graphql_standard.specs.declared.symbol.Symbol.{Symbol}
use Rattle.graphql_standard.proofs.Effects.{Alike-then}

pub above-append : (xs ys : List Symbol) (rest : List Expr) → above (xs ++ ys) rest ≡ above ys (above xs rest)
above-append [] ys rest = refl
above-append (x ∷ xs) ys rest = above-append xs ys (means x ∷ rest)

-- a symbol on top
pub above-top : (ss : List Symbol) (s : Symbol) → stack_of (ss ++ s ∷ []) ≡ means s ∷ stack_of ss
above-top ss s = above-append ss (s ∷ []) []

-- symbols pushed so that the first is on top
above-reverse : (xs : List Symbol) (rest : List Expr) → above (reverse xs) rest ≡ means_all xs ++ rest
above-reverse [] rest = refl
above-reverse (x ∷ xs) rest =
    ap (λ (l : List Symbol). above l rest) (reverse-append (x ∷ []) xs)
    ∙ (above-append (reverse xs) (x ∷ []) rest ∙ ap (λ (l : List Expr). means x ∷ l) (above-reverse xs rest))

pushed : (ss xs : List Symbol) → stack_of (ss ++ reverse xs) ≡ means_all xs ++ stack_of ss
pushed ss xs = above-append ss (reverse xs) [] ∙ above-reverse xs (stack_of ss)

popped : (b news : List Symbol) (s : Symbol) → b ≡ news ++ s ∷ [] → stack_of b ≡ means s ∷ stack_of news
popped b news s h = ap stack_of h ∙ above-top news s

no_items : (ss : List Symbol) → length ss ≡ 0 → ss ≡ []
no_items [] h = refl
no_items (s ∷ ss) h = absurd (omega (arith, h))

-- the symbol on top is absent
pub passes : (a b news : List Symbol) (s : Symbol) (us : List Token) → Alike standard (stack_of a) us (stack_of b) us
    → b ≡ news ++ s ∷ [] → ((rest : List Expr) → Alike standard (means s ∷ rest) us rest us)
    → Alike standard (stack_of a) us (stack_of news) us
passes a b news s us inv h f =
    Alike-then standard inv
    (subst (λ (es : List Expr). Alike standard es us (stack_of news) us) (sym (popped b news s h)) (f (stack_of news)))

-- the symbol on top fails
pub fails : (a b news : List Symbol) (s : Symbol) (us : List Token) → Alike standard (stack_of a) us (stack_of b) us
    → b ≡ news ++ s ∷ [] → ((rest : List Expr) → (why : Reason) × FailsIn standard (means s ∷ rest) us why us)
    → (why : Reason) × FailsIn standard (stack_of a) us why us
fails a b news s us inv h f =
    let d = f (stack_of news) in (
      d.0,
      (inv.fails d.0 us).1
          (subst (λ (es : List Expr). FailsIn standard es us d.0 us) (sym (popped b news s h)) d.1),
    )

-- the symbol on top takes the token
pub takes : (a b news new xs : List Symbol) (s : Symbol) (t : Token) (ts : List Token)
    → Alike standard (stack_of a) (t ∷ ts) (stack_of b) (t ∷ ts) → b ≡ news ++ s ∷ []
    → ((rest : List Expr) → Alike standard (means s ∷ rest) (t ∷ ts) (means_all xs ++ rest) ts)
    → new ≡ news ++ reverse xs → Alike standard (stack_of a) (t ∷ ts) (stack_of new) ts
takes a b news new xs s t ts inv h f n =
    Alike-then standard inv
    (subst (λ (es : List Expr). Alike standard es (t ∷ ts) (stack_of new) ts) (sym (popped b news s h))
    (subst (λ (es : List Expr). Alike standard (means s ∷ stack_of news) (t ∷ ts) es ts)
    (sym (ap stack_of n ∙ pushed news xs)) (f (stack_of news))))

-- no symbol is left
pub nothing_left : (a b : List Symbol) (us : List Token) → Alike standard (stack_of a) us (stack_of b) us → length b ≡ 0
    → TakesAll standard (stack_of a) us us
nothing_left a b us inv h =
    (inv.takes us).1
    (subst (λ (ss : List Symbol). TakesAll standard (stack_of ss) us us) (sym (no_items b h)) takes_none)

-- the stack below the symbol on top
pub one_below : (stack rest below over : List Symbol) (s : Symbol) → stack ≡ rest ++ over → rest ≡ below ++ s ∷ []
    → stack ≡ below ++ s ∷ over
one_below stack rest below over s h k =
    h ∙ (ap (λ (l : List Symbol). l ++ over) k ∙ append_assoc below (s ∷ []) over)

-- the symbol on top of `rest` takes the tokens of the terminal
pub is_next : (stack rest below over xs : List Symbol) (s : Symbol) (k : Terminal) → stack ≡ rest ++ over
    → ((t : Token) → IsTokenOf k t → (ts : List Token) → Alike standard (stack_of stack) (t ∷ ts) (stack_of rest) (t ∷ ts))
    → rest ≡ below ++ s ∷ []
    → ((t : Token) → IsTokenOf k t → (es : List Expr) (ts : List Token)
    → Alike standard (means s ∷ es) (t ∷ ts) (means_all xs ++ es) ts) → IsNext stack k (length below) xs
is_next stack rest below over xs s k split inv h f =
    let e : stack ≡ below ++ s ∷ over = one_below stack rest below over s split h in
    let n : take (length below) stack ≡ below =
    ap (take (length below)) e ∙ take-append_seam below (s ∷ over) in (
      omega (arith, ap length e, length-append below (s ∷ over)),
      λ t is ts. takes stack rest below (take (length below) stack ++ reverse xs) xs s t ts (inv t is ts) h
          (λ es. f t is es ts) (ap (λ (l : List Symbol). l ++ reverse xs) n),
    )

pub comes : (ss : List Symbol) (k : Terminal) (o : Option (ℕ × Bor (List Symbol))) (b : Bool) → b ≡ is_some o
    → MatchOption o (StopsAt ss k) (λ p. IsNext ss k p.0 p.1.now) → Comes b ss k
comes ss k None b e h = subst (λ (v : Bool). Comes v ss k) (sym e) h
comes ss k (Some p) b e h = subst (λ (v : Bool). Comes v ss k) (sym e) (p.0, p.1.now, h)
