-- Documents that are computed token by token.
use Rattle.std.proofs.Common.{◌≡◌, Bool, true, false, List, [], ◌∷◌, ◌++◌, Option, Some, None, refl, sym, subst}
use Rattle.std.proofs.Common.{append-nil, append_assoc, inl, inr}
use Rattle.graphql_core.specs.{Token, Expr, Sym}
use Rattle.graphql_standard.specs.theory.Stack.{Alike, TakesAll, takes_none, FailsIn}
use Rattle.graphql_standard.specs.theory.Effects.{Effect, Taken, Passed, Stopped, Unknown, effect}
use Rattle.graphql_standard.specs.Grammar.{standard}
use Rattle.graphql_standard.specs.Symbols as symbol
use Rattle.graphql_standard.specs.Recognizing.{IsDocument, BeginsDocument}
use Rattle.graphql_standard.specs.steps.Stacks.{Stops, EndsAs, LeadsTo}
use Rattle.graphql_standard.proofs.Effects.{Did, did}
use Rattle.graphql_standard.proofs.Following.{no_checks}
use Rattle.graphql_standard.proofs.Documents.{at_start, at_next, read_begins, stopped, ended, unended}

-- the expressions after the tokens
abbrev pub run : List Expr → List Token → Option (List Expr)
run es [] = Some es
run es (t ∷ ts) =
    elim (effect 60 standard es (Some t)) [ Taken fs ↦ run fs ts | Passed ↦ None | Stopped ↦ None | Unknown ↦ None ]

next : (front : List Token) (es fs : List Expr) (t : Token) (ts : List Token) (e : Effect)
    → ((gs : List Expr) → LeadsTo (front ++ t ∷ []) gs → run gs ts ≡ Some fs → LeadsTo ((front ++ t ∷ []) ++ ts) fs)
    → LeadsTo front es → ((us : List Token) → Did standard no_checks es [] (Some t) us e)
    → elim e [ Taken gs ↦ run gs ts | Passed ↦ None | Stopped ↦ None | Unknown ↦ None ] ≡ Some fs
    → LeadsTo (front ++ t ∷ ts) fs
next front es fs t ts (Taken gs) later at d h =
    subst (λ (l : List Token). LeadsTo l fs) (append_assoc front (t ∷ []) ts)
    (later gs (at_next front t es gs at (λ us. alone us (d us))) h)
  where
    alone : (us : List Token) → Alike standard (es ++ []) (t ∷ us) (gs ++ []) us → Alike standard es (t ∷ us) gs us
    alone us a =
        subst (λ (l : List Expr). Alike standard es (t ∷ us) l us) (append-nil gs)
        (subst (λ (l : List Expr). Alike standard l (t ∷ us) (gs ++ []) us) (append-nil es) a)
next front es fs t ts Passed later at d h = absurd cc
next front es fs t ts Stopped later at d h = absurd cc
next front es fs t ts Unknown later at d h = absurd cc

runs : (front : List Token) (es fs : List Expr) (ts : List Token) → LeadsTo front es → run es ts ≡ Some fs
    → LeadsTo (front ++ ts) fs
runs front es fs [] at h =
    subst (λ (l : List Token). LeadsTo l fs) (sym (append-nil front)) (subst (LeadsTo front) (same h) at)
  where
    same : Some es ≡ Some fs → es ≡ fs
    same k = cc
runs front es fs (t ∷ ts) at h =
    next front es fs t ts (effect 60 standard es (Some t)) (λ gs a k. runs (front ++ t ∷ []) gs fs ts a k) at
    (λ us. did standard no_checks 60 es [] (Some t) us) h

leads : (ts : List Token) (fs : List Expr) → run (Sym symbol.document ∷ []) ts ≡ Some fs → LeadsTo ts fs
leads ts fs h = runs [] (Sym symbol.document ∷ []) fs ts at_start h

-- the expressions can be absent at the end, or not
abbrev ends_so : Effect → Bool → Bool
ends_so Passed b = b
ends_so Stopped true = false
ends_so Stopped false = true
ends_so _ b = false

abbrev pub ends_after : Option (List Expr) → Bool → Bool
ends_after None b = false
ends_after (Some es) b = ends_so (effect 60 standard es None) b

end_of : (es : List Expr) (e : Effect) (b : Bool) → Did standard no_checks es [] None [] e → ends_so e b ≡ true → EndsAs b es
end_of es Passed true d h =
    subst (λ (l : List Expr). TakesAll standard l [] []) (append-nil es) ((d.takes []).1 takes_none)
end_of es Passed false d h = absurd cc
end_of es Stopped true d h = absurd cc
end_of es Stopped false d h =
    (d.0, subst (λ (l : List Expr). FailsIn standard l [] d.0 []) (append-nil es) d.1)
end_of es (Taken fs) b d h = absurd cc
end_of es Unknown b d h = absurd cc

abbrev stops_so : Effect → Bool
stops_so (Taken es) = false
stops_so Passed = true
stops_so Stopped = true
stops_so Unknown = false

abbrev pub stops_after : Option (List Expr) → Token → Bool
stops_after None t = false
stops_after (Some es) t = stops_so (effect 60 standard es (Some t))

stop_of : (es : List Expr) (e : Effect) (t : Token) (us : List Token) → Did standard no_checks es [] (Some t) us e
    → stops_so e ≡ true → Stops es (t ∷ us)
stop_of es Passed t us d h =
    inr (subst (λ (l : List Expr). TakesAll standard l (t ∷ us) (t ∷ us)) (append-nil es) ((d.takes (t ∷ us)).1 takes_none))
stop_of es Stopped t us d h =
    inl (d.0, subst (λ (l : List Expr). FailsIn standard l (t ∷ us) d.0 (t ∷ us)) (append-nil es) d.1)
stop_of es (Taken fs) t us d h = absurd cc
stop_of es Unknown t us d h = absurd cc

-- ---- what is computed of a list of tokens

pub accepted : (ts : List Token) → ends_after (run (Sym symbol.document ∷ []) ts) true ≡ true → IsDocument ts
accepted ts h = of (run (Sym symbol.document ∷ []) ts) refl h
  where
    of : (o : Option (List Expr)) → run (Sym symbol.document ∷ []) ts ≡ o → ends_after o true ≡ true → IsDocument ts
    of None e k = absurd cc
    of (Some es) e k =
        ended ts es (leads ts es e) (end_of es (effect 60 standard es None) true (did standard no_checks 60 es [] None []) k)

pub unfinished : (ts : List Token) → ends_after (run (Sym symbol.document ∷ []) ts) false ≡ true
    → BeginsDocument ts × (IsDocument ts → ⊥)
unfinished ts h = of (run (Sym symbol.document ∷ []) ts) refl h
  where
    of : (o : Option (List Expr)) → run (Sym symbol.document ∷ []) ts ≡ o → ends_after o false ≡ true
        → BeginsDocument ts × (IsDocument ts → ⊥)
    of None e k = absurd cc
    of (Some es) e k = (
      read_begins ts es (leads ts es e),
      unended ts es (leads ts es e)
          (end_of es (effect 60 standard es None) false (did standard no_checks 60 es [] None []) k),
    )

pub rejected : (front : List Token) (t : Token) → stops_after (run (Sym symbol.document ∷ []) front) t ≡ true
    → BeginsDocument front × (BeginsDocument (front ++ t ∷ []) → ⊥)
rejected front t h = of (run (Sym symbol.document ∷ []) front) refl h
  where
    of : (o : Option (List Expr)) → run (Sym symbol.document ∷ []) front ≡ o → stops_after o t ≡ true
        → BeginsDocument front × (BeginsDocument (front ++ t ∷ []) → ⊥)
    of None e k = absurd cc
    of (Some es) e k = (
      read_begins front es (leads front es e),
      stopped front t es (leads front es e)
          (λ us. stop_of es (effect 60 standard es (Some t)) t us (did standard no_checks 60 es [] (Some t) us) k),
    )
