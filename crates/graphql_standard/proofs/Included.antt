-- Whether what a list of expressions derives is derived by one of several such lists: a test, which is correct.
use Rattle.std.proofs.Common.{◌≡◌, ℕ, zero, suc, Bool, true, false, List, [], ◌∷◌, ◌++◌, refl, sym, ap, subst, ◌∙◌}
use Rattle.std.proofs.Common.{append_assoc, ◌⊎◌, inl, inr}
use Rattle.graphql_core.specs.{Token, Expr, Empty, One, Then, Either, Many, Sym, ParseTree, Grammar, row, leaves}
use Rattle.graphql_core.specs.{Fits}
use Rattle.graphql_core.specs.{fits_nothing, fits_both, fits_first, fits_second, fits_stop, fits_more, fits_node}
use Rattle.graphql_standard.specs.theory.Stack.{HasNoChecks}
use Rattle.graphql_standard.specs.steps.Fitting.{same_expr}
use Rattle.graphql_standard.proofs.SameExpressions.{same_expr-true}

-- the expressions derive the tokens, one after another
pub data DerivesAll (g : Grammar) : List Expr → List Token → Type 0 where
  derives_none : DerivesAll g [] []
  derives_one : {e : Expr} {es : List Expr} {ts us : List Token} {x : ParseTree} → Fits g e x → ts ≡ leaves x ++ us
      → DerivesAll g es us → DerivesAll g (e ∷ es) ts

-- one of the lists derives them
abbrev pub AnyDerives : Grammar → List (List Expr) → List Token → Type 0
AnyDerives g [] ts = ⊥
AnyDerives g (fs ∷ fss) ts = DerivesAll g fs ts ⊎ AnyDerives g fss ts

-- ---- the test

abbrev keep : Bool → List Expr → List (List Expr) → List (List Expr)
keep b fs more = elim b [ true ↦ fs ∷ [] | false ↦ more ]

-- any number of them, and again any number of them, are any number of them
abbrev keep_many : Bool → Expr → List Expr → List (List Expr) → List (List Expr)
keep_many b a fs more = elim b [ true ↦ fs ∷ (Many a ∷ fs) ∷ [] | false ↦ more ]

-- what is left of a list that begins with this expression, if it is expanded in at most `n` steps
abbrev pub meets : Grammar → ℕ → Expr → List Expr → List (List Expr)
meets g zero e fs = []
meets g (suc n) e [] = []
meets g (suc n) e (Empty ∷ fs) = meets g n e fs
meets g (suc n) e (One c ∷ fs) = keep (same_expr e (One c)) fs []
meets g (suc n) e (Then a b ∷ fs) = meets g n e (a ∷ b ∷ fs)
meets g (suc n) e (Either a b ∷ fs) =
    keep (same_expr e (Either a b)) fs (meets g n e (a ∷ fs) ++ meets g n e (b ∷ fs))
meets g (suc n) e (Many a ∷ fs) =
    keep_many (same_expr e (Many a)) a fs (meets g n e (a ∷ Many a ∷ fs) ++ meets g n e fs)
meets g (suc n) e (Sym k ∷ fs) = keep (same_expr e (Sym k)) fs (meets g n e ((row g k).rule ∷ fs))

abbrev pub all_meet : Grammar → ℕ → Expr → List (List Expr) → List (List Expr)
all_meet g n e [] = []
all_meet g n e (fs ∷ fss) = meets g n e fs ++ all_meet g n e fss

-- the expressions derive the empty list
abbrev pub empties : Grammar → ℕ → List Expr → Bool
empties g zero fs = false
empties g (suc n) [] = true
empties g (suc n) (Empty ∷ fs) = empties g n fs
empties g (suc n) (One c ∷ fs) = false
empties g (suc n) (Then a b ∷ fs) = empties g n (a ∷ b ∷ fs)
empties g (suc n) (Either a b ∷ fs) = elim (empties g n (a ∷ fs)) [ true ↦ true | false ↦ empties g n (b ∷ fs) ]
empties g (suc n) (Many a ∷ fs) = empties g n fs
empties g (suc n) (Sym k ∷ fs) = empties g n ((row g k).rule ∷ fs)

abbrev pub any_empties : Grammar → List (List Expr) → Bool
any_empties g [] = false
any_empties g (fs ∷ fss) = elim (empties g 20 fs) [ true ↦ true | false ↦ any_empties g fss ]

-- an expression meets the same expression in other lists, or is expanded
abbrev pub included : Grammar → ℕ → List Expr → List (List Expr) → Bool
included g zero es fss = false
included g (suc n) [] fss = any_empties g fss
included g (suc n) (e ∷ es) [] = false
included g (suc n) (Empty ∷ es) (fs ∷ fss) = included g n es (fs ∷ fss)
included g (suc n) (One c ∷ es) (fs ∷ fss) = included g n es (all_meet g 20 (One c) (fs ∷ fss))
included g (suc n) (Then a b ∷ es) (fs ∷ fss) = included g n (a ∷ b ∷ es) (fs ∷ fss)
included g (suc n) (Either a b ∷ es) (fs ∷ fss) =
    elim (included g n es (all_meet g 20 (Either a b) (fs ∷ fss))) [
      | true ↦ true
      | false ↦
          elim (included g n (a ∷ es) (fs ∷ fss)) [ true ↦ included g n (b ∷ es) (fs ∷ fss) | false ↦ false ]
    ]
included g (suc n) (Many a ∷ es) (fs ∷ fss) =
    elim (included g n es (all_meet g 20 (Many a) (fs ∷ fss))) [
      | true ↦ true
      | false ↦
          elim (included g n es (fs ∷ fss)) [ true ↦ included g n (a ∷ Many a ∷ es) (fs ∷ fss) | false ↦ false ]
    ]
included g (suc n) (Sym k ∷ es) (fs ∷ fss) =
    elim (included g n es (all_meet g 20 (Sym k) (fs ∷ fss))) [
      | true ↦ true
      | false ↦
          included g n ((row g k).rule ∷ es) (fs ∷ fss)
    ]

-- ---- expressions are expanded

unfold_empty : (g : Grammar) (es : List Expr) (ts : List Token) → DerivesAll g (Empty ∷ es) ts → DerivesAll g es ts
unfold_empty g es ts (derives_one fits_nothing h d) = subst (DerivesAll g es) (sym h) d

pub unfold_then : (g : Grammar) (a b : Expr) (es : List Expr) (ts : List Token) → DerivesAll g (Then a b ∷ es) ts
    → DerivesAll g (a ∷ b ∷ es) ts
unfold_then g a b es ts (derives_one {us = us} (fits_both {x = x} {y = y} p q) h d) =
    derives_one p (h ∙ append_assoc (leaves x) (leaves y) us) (derives_one q refl d)

pub unfold_either : (g : Grammar) (a b : Expr) (es : List Expr) (ts : List Token) → DerivesAll g (Either a b ∷ es) ts
    → DerivesAll g (a ∷ es) ts ⊎ DerivesAll g (b ∷ es) ts
unfold_either g a b es ts (derives_one (fits_first p) h d) = inl (derives_one p h d)
unfold_either g a b es ts (derives_one (fits_second p) h d) = inr (derives_one p h d)

unfold_many : (g : Grammar) (a : Expr) (es : List Expr) (ts : List Token) → DerivesAll g (Many a ∷ es) ts
    → DerivesAll g es ts ⊎ DerivesAll g (a ∷ Many a ∷ es) ts
unfold_many g a es ts (derives_one fits_stop h d) = inl (subst (DerivesAll g es) (sym h) d)
unfold_many g a es ts (derives_one {us = us} (fits_more {x = x} {y = y} p q) h d) =
    inr (derives_one p (h ∙ append_assoc (leaves x) (leaves y) us) (derives_one q refl d))

pub unfold_symbol : (g : Grammar) (k : ℕ) (es : List Expr) (ts : List Token) → DerivesAll g (Sym k ∷ es) ts
    → DerivesAll g ((row g k).rule ∷ es) ts
unfold_symbol g k es ts (derives_one (fits_node p c) h d) = derives_one p h d

-- ---- and put together again

fold_empty : (g : Grammar) (es : List Expr) (ts : List Token) → DerivesAll g es ts → DerivesAll g (Empty ∷ es) ts
fold_empty g es ts d = derives_one fits_nothing refl d

pub fold_then : (g : Grammar) (a b : Expr) (es : List Expr) (ts : List Token) → DerivesAll g (a ∷ b ∷ es) ts
    → DerivesAll g (Then a b ∷ es) ts
fold_then g a b es ts (derives_one {x = x} p h (derives_one {us = us} {x = y} q k d)) =
    derives_one (fits_both p q)
    (h ∙ (ap (λ (l : List Token). leaves x ++ l) k ∙ sym (append_assoc (leaves x) (leaves y) us))) d

pub fold_left : (g : Grammar) (a b : Expr) (es : List Expr) (ts : List Token) → DerivesAll g (a ∷ es) ts
    → DerivesAll g (Either a b ∷ es) ts
fold_left g a b es ts (derives_one p h d) = derives_one (fits_first p) h d

pub fold_right : (g : Grammar) (a b : Expr) (es : List Expr) (ts : List Token) → DerivesAll g (b ∷ es) ts
    → DerivesAll g (Either a b ∷ es) ts
fold_right g a b es ts (derives_one p h d) = derives_one (fits_second p) h d

fold_stop : (g : Grammar) (a : Expr) (es : List Expr) (ts : List Token) → DerivesAll g es ts → DerivesAll g (Many a ∷ es) ts
fold_stop g a es ts d = derives_one fits_stop refl d

fold_more : (g : Grammar) (a : Expr) (es : List Expr) (ts : List Token) → DerivesAll g (a ∷ Many a ∷ es) ts
    → DerivesAll g (Many a ∷ es) ts
fold_more g a es ts (derives_one {x = x} p h (derives_one {us = us} {x = y} q k d)) =
    derives_one (fits_more p q)
    (h ∙ (ap (λ (l : List Token). leaves x ++ l) k ∙ sym (append_assoc (leaves x) (leaves y) us))) d

pub fold_symbol : (g : Grammar) → HasNoChecks g → (k : ℕ) (es : List Expr) (ts : List Token)
    → DerivesAll g ((row g k).rule ∷ es) ts → DerivesAll g (Sym k ∷ es) ts
fold_symbol g ok k es ts (derives_one {x = x} p h d) = derives_one (fits_node p (ok k x)) h d

-- ---- the test is correct

pub pick : {A B C : Type 0} → (A → C) → (B → C) → A ⊎ B → C
pick f g (inl a) = f a
pick f g (inr b) = g b

abbrev headed : Expr → List (List Expr) → List (List Expr)
headed e [] = []
headed e (gs ∷ gss) = (e ∷ gs) ∷ headed e gss

split_any : (g : Grammar) (e : Expr) (xs ys : List (List Expr)) (ts : List Token) → AnyDerives g (headed e (xs ++ ys)) ts
    → AnyDerives g (headed e xs) ts ⊎ AnyDerives g (headed e ys) ts
split_any g e [] ys ts d = inr d
split_any g e (x ∷ xs) ys ts (inl d) = inl (inl d)
split_any g e (x ∷ xs) ys ts (inr d) = of (split_any g e xs ys ts d)
  where
    of : AnyDerives g (headed e xs) ts ⊎ AnyDerives g (headed e ys) ts
        → AnyDerives g (headed e (x ∷ xs)) ts ⊎ AnyDerives g (headed e ys) ts
    of (inl p) = inl (inr p)
    of (inr p) = inr p

kept : (g : Grammar) (e f : Expr) (fs : List Expr) (more : List (List Expr)) (ts : List Token) (b : Bool) → same_expr e f ≡ b
    → (AnyDerives g (headed e more) ts → DerivesAll g (f ∷ fs) ts) → AnyDerives g (headed e (keep b fs more)) ts
    → DerivesAll g (f ∷ fs) ts
kept g e f fs more ts true h later (inl d) = subst (λ (i : Expr). DerivesAll g (i ∷ fs) ts) (same_expr-true e f h) d
kept g e f fs more ts true h later (inr d) = absurd d
kept g e f fs more ts false h later d = later d

many_twice : (g : Grammar) (a : Expr) {x : ParseTree} (es : List Expr) (ts us : List Token) → Fits g (Many a) x
    → ts ≡ leaves x ++ us → DerivesAll g (Many a ∷ es) us → DerivesAll g (Many a ∷ es) ts
many_twice g a es ts us fits_stop h d = subst (DerivesAll g (Many a ∷ es)) (sym h) d
many_twice g a es ts us (fits_more {x = x} {y = y} p q) h d =
    fold_more g a es ts
    (derives_one p (h ∙ append_assoc (leaves x) (leaves y) us) (many_twice g a es (leaves y ++ us) us q refl d))

kept_many : (g : Grammar) (e a : Expr) (fs : List Expr) (more : List (List Expr)) (ts : List Token) (b : Bool)
    → same_expr e (Many a) ≡ b → (AnyDerives g (headed e more) ts → DerivesAll g (Many a ∷ fs) ts)
    → AnyDerives g (headed e (keep_many b a fs more)) ts → DerivesAll g (Many a ∷ fs) ts
kept_many g e a fs more ts true h later (inl d) =
    subst (λ (i : Expr). DerivesAll g (i ∷ fs) ts) (same_expr-true e (Many a) h) d
kept_many g e a fs more ts true h later (inr (inl d)) =
    of (subst (λ (i : Expr). DerivesAll g (i ∷ Many a ∷ fs) ts) (same_expr-true e (Many a) h) d)
  where
    of : DerivesAll g (Many a ∷ Many a ∷ fs) ts → DerivesAll g (Many a ∷ fs) ts
    of (derives_one {us = us} p k q) = many_twice g a fs ts us p k q
kept_many g e a fs more ts true h later (inr (inr d)) = absurd d
kept_many g e a fs more ts false h later d = later d

none : (g : Grammar) (fs : List Expr) (ts : List Token) → ⊥ → DerivesAll g fs ts
none g fs ts h = absurd h

both : (g : Grammar) (e : Expr) (xs ys : List (List Expr)) (fs : List Expr) (ts : List Token)
    → (AnyDerives g (headed e xs) ts → DerivesAll g fs ts) → (AnyDerives g (headed e ys) ts → DerivesAll g fs ts)
    → AnyDerives g (headed e (xs ++ ys)) ts → DerivesAll g fs ts
both g e xs ys fs ts p q d = of (split_any g e xs ys ts d)
  where
    of : AnyDerives g (headed e xs) ts ⊎ AnyDerives g (headed e ys) ts → DerivesAll g fs ts
    of (inl r) = p r
    of (inr r) = q r

module _ (g : Grammar) (ok : HasNoChecks g) where
  meets-sound : (n : ℕ) (e : Expr) (fs : List Expr) (ts : List Token) → AnyDerives g (headed e (meets g n e fs)) ts
      → DerivesAll g fs ts
  meets-sound zero e fs ts d = absurd d
  meets-sound (suc n) e [] ts d = absurd d
  meets-sound (suc n) e (Empty ∷ fs) ts d = fold_empty g fs ts (meets-sound n e fs ts d)
  meets-sound (suc n) e (One c ∷ fs) ts d =
      kept g e (One c) fs [] ts (same_expr e (One c)) refl (none g (One c ∷ fs) ts) d
  meets-sound (suc n) e (Then a b ∷ fs) ts d = fold_then g a b fs ts (meets-sound n e (a ∷ b ∷ fs) ts d)
  meets-sound (suc n) e (Either a b ∷ fs) ts d =
      kept g e (Either a b) fs (meets g n e (a ∷ fs) ++ meets g n e (b ∷ fs)) ts (same_expr e (Either a b)) refl
      (both g e (meets g n e (a ∷ fs)) (meets g n e (b ∷ fs)) (Either a b ∷ fs) ts
      (λ p. fold_left g a b fs ts (meets-sound n e (a ∷ fs) ts p)) (λ p. fold_right g a b fs ts (meets-sound n e (b ∷ fs) ts p))) d
  meets-sound (suc n) e (Many a ∷ fs) ts d =
      kept_many g e a fs (meets g n e (a ∷ Many a ∷ fs) ++ meets g n e fs) ts (same_expr e (Many a)) refl
      (both g e (meets g n e (a ∷ Many a ∷ fs)) (meets g n e fs) (Many a ∷ fs) ts
      (λ p. fold_more g a fs ts (meets-sound n e (a ∷ Many a ∷ fs) ts p)) (λ p. fold_stop g a fs ts (meets-sound n e fs ts p))) d
  meets-sound (suc n) e (Sym k ∷ fs) ts d =
      kept g e (Sym k) fs (meets g n e ((row g k).rule ∷ fs)) ts (same_expr e (Sym k)) refl
      (λ p. fold_symbol g ok k fs ts (meets-sound n e ((row g k).rule ∷ fs) ts p)) d

  all_meet-sound : (n : ℕ) (e : Expr) (fss : List (List Expr)) (ts : List Token)
      → AnyDerives g (headed e (all_meet g n e fss)) ts → AnyDerives g fss ts
  all_meet-sound n e [] ts d = d
  all_meet-sound n e (fs ∷ fss) ts d =
      of (λ p. all_meet-sound n e fss ts p) (split_any g e (meets g n e fs) (all_meet g n e fss) ts d)
    where
      of : (AnyDerives g (headed e (all_meet g n e fss)) ts → AnyDerives g fss ts)
          → AnyDerives g (headed e (meets g n e fs)) ts ⊎ AnyDerives g (headed e (all_meet g n e fss)) ts
          → AnyDerives g (fs ∷ fss) ts
      of later (inl p) = inl (meets-sound n e fs ts p)
      of later (inr p) = inr (later p)

  prepend : (e : Expr) (x : ParseTree) (gss : List (List Expr)) (ts us : List Token) → Fits g e x → ts ≡ leaves x ++ us
      → AnyDerives g gss us → AnyDerives g (headed e gss) ts
  prepend e x [] ts us p h d = d
  prepend e x (gs ∷ gss) ts us p h (inl d) = inl (derives_one p h d)
  prepend e x (gs ∷ gss) ts us p h (inr d) = inr (prepend e x gss ts us p h d)

  matched : (e : Expr) (es : List Expr) (fss : List (List Expr)) (ts : List Token)
      → ((us : List Token) → DerivesAll g es us → AnyDerives g (all_meet g 20 e fss) us) → DerivesAll g (e ∷ es) ts
      → AnyDerives g fss ts
  matched e es fss ts later (derives_one {us = us} {x = x} p h d) =
      all_meet-sound 20 e fss ts (prepend e x (all_meet g 20 e fss) ts us p h (later us d))

  first_or : (b c : Bool) → elim b [ true ↦ true | false ↦ c ] ≡ true → (b ≡ true) ⊎ (c ≡ true)
  first_or true c h = inl refl
  first_or false c h = inr h

  first_and : (b c : Bool) → elim b [ true ↦ c | false ↦ false ] ≡ true → (b ≡ true) × (c ≡ true)
  first_and true c h = (refl, h)
  first_and false c h = absurd cc

  empties-sound : (n : ℕ) (fs : List Expr) (ts : List Token) → empties g n fs ≡ true → DerivesAll g [] ts → DerivesAll g fs ts
  empties-sound zero fs ts h d = absurd cc
  empties-sound (suc n) [] ts h d = d
  empties-sound (suc n) (Empty ∷ fs) ts h d = fold_empty g fs ts (empties-sound n fs ts h d)
  empties-sound (suc n) (One c ∷ fs) ts h d = absurd cc
  empties-sound (suc n) (Then a b ∷ fs) ts h d = fold_then g a b fs ts (empties-sound n (a ∷ b ∷ fs) ts h d)
  empties-sound (suc n) (Either a b ∷ fs) ts h d =
      pick (λ k. fold_left g a b fs ts (empties-sound n (a ∷ fs) ts k d))
      (λ k. fold_right g a b fs ts (empties-sound n (b ∷ fs) ts k d)) (first_or (empties g n (a ∷ fs)) _ h)
  empties-sound (suc n) (Many a ∷ fs) ts h d = fold_stop g a fs ts (empties-sound n fs ts h d)
  empties-sound (suc n) (Sym k ∷ fs) ts h d = fold_symbol g ok k fs ts (empties-sound n ((row g k).rule ∷ fs) ts h d)

  ended : (fss : List (List Expr)) (ts : List Token) → any_empties g fss ≡ true → DerivesAll g [] ts → AnyDerives g fss ts
  ended [] ts h d = absurd cc
  ended (fs ∷ fss) ts h d =
      pick (λ k. inl (empties-sound 20 fs ts k d)) (λ k. inr (ended fss ts k d)) (first_or (empties g 20 fs) _ h)

  pub included-sound : (n : ℕ) (es : List Expr) (fss : List (List Expr)) (ts : List Token) → included g n es fss ≡ true
      → DerivesAll g es ts → AnyDerives g fss ts
  included-sound zero es fss ts h d = absurd cc
  included-sound (suc n) [] fss ts h d = ended fss ts h d
  included-sound (suc n) (e ∷ es) [] ts h d = absurd cc
  included-sound (suc n) (Empty ∷ es) (fs ∷ fss) ts h d = included-sound n es (fs ∷ fss) ts h (unfold_empty g es ts d)
  included-sound (suc n) (One c ∷ es) (fs ∷ fss) ts h d =
      matched (One c) es (fs ∷ fss) ts (λ us p. included-sound n es (all_meet g 20 (One c) (fs ∷ fss)) us h p) d
  included-sound (suc n) (Then a b ∷ es) (fs ∷ fss) ts h d =
      included-sound n (a ∷ b ∷ es) (fs ∷ fss) ts h (unfold_then g a b es ts d)
  included-sound (suc n) (Either a b ∷ es) (fs ∷ fss) ts h d =
      of (λ k us p. included-sound n es (all_meet g 20 (Either a b) (fs ∷ fss)) us k p)
      (λ k p. included-sound n (a ∷ es) (fs ∷ fss) ts k p) (λ k p. included-sound n (b ∷ es) (fs ∷ fss) ts k p)
      (first_or _ _ h)
    where
      of : (included g n es (all_meet g 20 (Either a b) (fs ∷ fss)) ≡ true → (us : List Token) → DerivesAll g es us
          → AnyDerives g (all_meet g 20 (Either a b) (fs ∷ fss)) us)
          → (included g n (a ∷ es) (fs ∷ fss) ≡ true → DerivesAll g (a ∷ es) ts → AnyDerives g (fs ∷ fss) ts)
          → (included g n (b ∷ es) (fs ∷ fss) ≡ true → DerivesAll g (b ∷ es) ts → AnyDerives g (fs ∷ fss) ts)
          → (included g n es (all_meet g 20 (Either a b) (fs ∷ fss)) ≡ true)
          ⊎ (elim (included g n (a ∷ es) (fs ∷ fss)) [ true ↦ included g n (b ∷ es) (fs ∷ fss) | false ↦ false ] ≡ true)
          → AnyDerives g (fs ∷ fss) ts
      of m l r (inl k) = matched (Either a b) es (fs ∷ fss) ts (m k) d
      of m l r (inr k) =
          let p = first_and (included g n (a ∷ es) (fs ∷ fss)) (included g n (b ∷ es) (fs ∷ fss)) k in
          pick (l p.0) (r p.1) (unfold_either g a b es ts d)
  included-sound (suc n) (Many a ∷ es) (fs ∷ fss) ts h d =
      of (λ k us p. included-sound n es (all_meet g 20 (Many a) (fs ∷ fss)) us k p)
      (λ k p. included-sound n es (fs ∷ fss) ts k p) (λ k p. included-sound n (a ∷ Many a ∷ es) (fs ∷ fss) ts k p)
      (first_or _ _ h)
    where
      of : (included g n es (all_meet g 20 (Many a) (fs ∷ fss)) ≡ true → (us : List Token) → DerivesAll g es us
          → AnyDerives g (all_meet g 20 (Many a) (fs ∷ fss)) us)
          → (included g n es (fs ∷ fss) ≡ true → DerivesAll g es ts → AnyDerives g (fs ∷ fss) ts)
          → (included g n (a ∷ Many a ∷ es) (fs ∷ fss) ≡ true → DerivesAll g (a ∷ Many a ∷ es) ts → AnyDerives g (fs ∷ fss) ts)
          → (included g n es (all_meet g 20 (Many a) (fs ∷ fss)) ≡ true)
          ⊎ (elim (included g n es (fs ∷ fss)) [ true ↦ included g n (a ∷ Many a ∷ es) (fs ∷ fss) | false ↦ false ] ≡ true)
          → AnyDerives g (fs ∷ fss) ts
      of m l r (inl k) = matched (Many a) es (fs ∷ fss) ts (m k) d
      of m l r (inr k) =
          let p = first_and (included g n es (fs ∷ fss)) (included g n (a ∷ Many a ∷ es) (fs ∷ fss)) k in
          pick (l p.0) (r p.1) (unfold_many g a es ts d)
  included-sound (suc n) (Sym k ∷ es) (fs ∷ fss) ts h d =
      of (λ i us p. included-sound n es (all_meet g 20 (Sym k) (fs ∷ fss)) us i p)
      (λ i. included-sound n ((row g k).rule ∷ es) (fs ∷ fss) ts i (unfold_symbol g k es ts d)) (first_or _ _ h)
    where
      of : (included g n es (all_meet g 20 (Sym k) (fs ∷ fss)) ≡ true → (us : List Token) → DerivesAll g es us
          → AnyDerives g (all_meet g 20 (Sym k) (fs ∷ fss)) us)
          → (included g n ((row g k).rule ∷ es) (fs ∷ fss) ≡ true → AnyDerives g (fs ∷ fss) ts)
          → (included g n es (all_meet g 20 (Sym k) (fs ∷ fss)) ≡ true)
          ⊎ (included g n ((row g k).rule ∷ es) (fs ∷ fss) ≡ true) → AnyDerives g (fs ∷ fss) ts
      of m r (inl i) = matched (Sym k) es (fs ∷ fss) ts (m i) d
      of m r (inr i) = r i
