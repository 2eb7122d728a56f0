-- The grammar that the recognizer reads by derives the documents that the specification writes.
use Rattle.std.proofs.Common.{◌≡◌, ◌≤◌, ℕ, zero, suc, Bool, true, false, not, ◌&&◌, List, [], ◌∷◌, ◌++◌, length, refl}
use Rattle.std.proofs.Common.{sym, ap, subst, ◌∙◌, append-nil, arith, length-append}
use Rattle.std.proofs.Common.{◌⊎◌, inl, inr, Some}
use Rattle.std.proofs.lemmas.Bool.{and_parts, both_ways, false_from_ne_true}
use Rattle.graphql_core.specs.{Token, Expr, Empty, Sym, ParseTree, leaves, peek, Fits, fits_first, fits_second}
use Rattle.graphql_core.specs.{fits_nothing, optional, first, sees, all_within, in_any}
use Rattle.graphql_core.specs.grammar.Trees.{Derives}
use Rattle.graphql_core.specs.theory.Tables.{nullable, is_ll1}
use Rattle.graphql_core.proofs.grammar.Classes.{all_within-sound, all_apart-sound}
use Rattle.graphql_core.proofs.grammar.Complete.{fits-nullable, fits-first}
use Rattle.graphql_standard.specs.Grammar.{standard}
use Rattle.graphql_standard.specs.Symbols as symbol
use Rattle.graphql_standard.specs.Recognizing.{IsDocument}
use Rattle.graphql_standard.specs.Document.{Alternative, definitions, IsOneOf, brace, AreDefinitions, no_definition}
use Rattle.graphql_standard.specs.Document.{more_definitions, IsDocumentBy}
use Rattle.graphql_standard.proofs.Following.{no_checks}
use Rattle.graphql_standard.proofs.Included.{DerivesAll, derives_none, derives_one, AnyDerives, included}
use Rattle.graphql_standard.proofs.Included.{included-sound, unfold_either, unfold_symbol, fold_symbol, pick}

-- the definitions after an alternative
abbrev rest_of : Bool → Expr
rest_of b = elim b [ true ↦ optional (Sym symbol.other_definitions) | false ↦ optional (Sym symbol.definitions) ]

abbrev stack_for : Alternative → List Expr
stack_for a = a.rule ∷ rest_of a.has_lookahead ∷ []

abbrev only : Expr → List (List Expr)
only e = (e ∷ []) ∷ []

-- an alternative derives no empty list, and with the definitions after it, it derives what `definitions` derives, and
-- unless it begins with a brace, what `other_definitions` derives
abbrev begins_brace : Expr → Bool
begins_brace e = all_within (first standard.rows e) brace

abbrev is_fit : Alternative → Bool
is_fit a =
    not (nullable standard.rows a.rule)
    && (included standard 60 (stack_for a) (only (Sym symbol.definitions))
    && elim (begins_brace a.rule)
    [ true ↦ true | false ↦ included standard 60 (stack_for a) (only (Sym symbol.other_definitions)) ])

abbrev are_fit : List Alternative → Bool
are_fit [] = true
are_fit (a ∷ alts) = is_fit a && are_fit alts

fit : (alts : List Alternative) (a : Alternative) → IsOneOf a alts → are_fit alts ≡ true → is_fit a ≡ true
fit [] a h f = absurd h
fit (b ∷ bs) a (inl e) f = subst (λ (i : Alternative). is_fit i ≡ true) (sym e) (and_parts (is_fit b) (are_fit bs) f).0
fit (b ∷ bs) a (inr h) f = fit bs a h (and_parts (is_fit b) (are_fit bs) f).1

ll1 : is_ll1 standard.rows ≡ true
ll1 = refl

not_false : (b : Bool) → not b ≡ true → b ≡ false
not_false true h = absurd cc
not_false false h = refl

not_nil : (ts : List Token) → (ts ≡ [] → ⊥) → (t : Token) × (us : List Token) × (ts ≡ t ∷ us)
not_nil [] h = absurd (h refl)
not_nil (t ∷ us) h = (t, us, refl)

fits_some : (e : Expr) (x : ParseTree) → not (nullable standard.rows e) ≡ true → Fits standard e x → leaves x ≡ [] → ⊥
fits_some e x n p h =
    both_ways (nullable standard.rows e) (not_false (nullable standard.rows e) n) (fits-nullable standard ll1 p h)

-- ---- from the specification's form

none_left : (b : Bool) → DerivesAll standard (rest_of b ∷ []) []
none_left true = derives_one (fits_second fits_nothing) refl derives_none
none_left false = derives_one (fits_second fits_nothing) refl derives_none

-- what the tokens after a definition are, whether it may be followed by a brace or not
abbrev Continues : List Token → Type 0
Continues us =
    DerivesAll standard (rest_of false ∷ []) us × (sees brace (peek us) ≡ false → DerivesAll standard (rest_of true ∷ []) us)

one_of : (e : Expr) (ts : List Token) → AnyDerives standard (only e) ts → DerivesAll standard (e ∷ []) ts
one_of e ts (inl d) = d
one_of e ts (inr d) = absurd d

as_optional : (e : Expr) (ts : List Token) → DerivesAll standard (e ∷ []) ts → DerivesAll standard (optional e ∷ []) ts
as_optional e ts (derives_one p h d) = derives_one (fits_first p) h d

-- a list that begins with a brace is seen
brace_seen : (e : Expr) (x : ParseTree) (us : List Token) → not (nullable standard.rows e) ≡ true → begins_brace e ≡ true
    → Fits standard e x → sees brace (peek (leaves x ++ us)) ≡ true
brace_seen e x us n w p = of (not_nil (leaves x) (fits_some e x n p))
  where
    of : (t : Token) × (vs : List Token) × (leaves x ≡ t ∷ vs) → sees brace (peek (leaves x ++ us)) ≡ true
    of (t, vs, h) =
        subst (λ (l : List Token). sees brace (peek (l ++ us)) ≡ true) (sym h)
        (all_within-sound (first standard.rows e) brace t w (fits-first standard ll1 p t (ap peek h)))

one_more : (a : Alternative) (x : ParseTree) (ts us : List Token) → is_fit a ≡ true → Derives standard a.rule ts x
    → (a.has_lookahead ≡ true → sees brace (peek us) ≡ false) → Continues us → Continues (ts ++ us)
one_more a x ts us f (p, h) may c = (
  as_optional (Sym symbol.definitions) (ts ++ us)
      (one_of (Sym symbol.definitions) (ts ++ us)
      (included-sound standard no_checks 60 (stack_for a) (only (Sym symbol.definitions)) (ts ++ us) parts.1.0 whole)),
  λ seen. as_optional (Sym symbol.other_definitions) (ts ++ us) (other (begins_brace a.rule) refl parts.1.1 seen),
)
  where
    parts : (not (nullable standard.rows a.rule) ≡ true) × ((included standard 60 (stack_for a) (only (Sym symbol.definitions)) ≡ true)
        × (elim (begins_brace a.rule) [
          | true ↦ true
          | false ↦ included standard 60 (stack_for a) (only (Sym symbol.other_definitions))
        ] ≡ true))
    parts =
        let q = and_parts (not (nullable standard.rows a.rule))
        (included standard 60 (stack_for a) (only (Sym symbol.definitions)) && elim (begins_brace a.rule)
        [ true ↦ true | false ↦ included standard 60 (stack_for a) (only (Sym symbol.other_definitions)) ]) f in (
          q.0,
          and_parts (included standard 60 (stack_for a) (only (Sym symbol.definitions))) (elim (begins_brace a.rule)
              [ true ↦ true | false ↦ included standard 60 (stack_for a) (only (Sym symbol.other_definitions)) ]) q.1,
        )

    later : (b : Bool) → a.has_lookahead ≡ b → DerivesAll standard (rest_of b ∷ []) us
    later true e = c.1 (may e)
    later false e = c.0

    whole : DerivesAll standard (stack_for a) (ts ++ us)
    whole = derives_one p (ap (λ (l : List Token). l ++ us) h) (later a.has_lookahead refl)

    other : (b : Bool) → begins_brace a.rule ≡ b
        → elim b [ true ↦ true | false ↦ included standard 60 (stack_for a) (only (Sym symbol.other_definitions)) ] ≡ true
        → sees brace (peek (ts ++ us)) ≡ false → DerivesAll standard (Sym symbol.other_definitions ∷ []) (ts ++ us)
    other true e k seen =
        absurd (both_ways (sees brace (peek (ts ++ us))) seen
        (subst (λ (l : List Token). sees brace (peek (l ++ us)) ≡ true) (sym h) (brace_seen a.rule x us parts.0 e p)))
    other false e k seen =
        one_of (Sym symbol.other_definitions) (ts ++ us)
        (included-sound standard no_checks 60 (stack_for a) (only (Sym symbol.other_definitions)) (ts ++ us) k whole)

continues : (ts : List Token) → AreDefinitions standard ts → Continues ts
continues ts no_definition = (none_left false, λ h. none_left true)
continues ts (more_definitions {ts = front} {us = us} (a, x, is, d, may) ds) =
    one_more a x front us (fit definitions a is refl) d may (continues us ds)

alone : (e : Expr) (ts : List Token) → DerivesAll standard (e ∷ []) ts → (x : ParseTree) × Derives standard e ts x
alone e ts (derives_one {x = x} p h derives_none) = (x, (p, h ∙ append-nil (leaves x)))

pub derived : (ts : List Token) → IsDocumentBy standard ts → IsDocument ts
derived ts (front, rest, h, (a, x, is, d, may), ds) =
    alone (Sym symbol.document) ts (fold_symbol standard no_checks symbol.document [] ts
    (subst (DerivesAll standard (Sym symbol.definitions ∷ [])) (sym h)
    (one_of (Sym symbol.definitions) (front ++ rest)
    (included-sound standard no_checks 60 (stack_for a) (only (Sym symbol.definitions)) (front ++ rest) (parts_of a (fit definitions a is refl)) whole))))
  where
    parts_of : (b : Alternative) → is_fit b ≡ true → included standard 60 (stack_for b) (only (Sym symbol.definitions)) ≡ true
    parts_of b f =
        (and_parts (included standard 60 (stack_for b) (only (Sym symbol.definitions))) (elim (begins_brace b.rule)
        [ true ↦ true | false ↦ included standard 60 (stack_for b) (only (Sym symbol.other_definitions)) ])
        (and_parts (not (nullable standard.rows b.rule))
        (included standard 60 (stack_for b) (only (Sym symbol.definitions)) && elim (begins_brace b.rule)
        [ true ↦ true | false ↦ included standard 60 (stack_for b) (only (Sym symbol.other_definitions)) ]) f).1).0

    later : (b : Bool) → a.has_lookahead ≡ b → DerivesAll standard (rest_of b ∷ []) rest
    later true e = (continues rest ds).1 (may e)
    later false e = (continues rest ds).0

    whole : DerivesAll standard (stack_for a) (front ++ rest)
    whole = derives_one d.0 (ap (λ (l : List Token). l ++ rest) d.1) (later a.has_lookahead refl)

-- ---- to the specification's form

abbrev stacks_for : List Alternative → List (List Expr)
stacks_for [] = []
stacks_for (a ∷ alts) = stack_for a ∷ stacks_for alts

-- an alternative derives the first tokens, and the definitions after it the others
pub record Found (alts : List Alternative) (ts : List Token) : Type 0 where
  pub alternative : Alternative
  pub front : List Token
  pub rest : List Token
  pub tree : ParseTree
  pub is : IsOneOf alternative alts
  pub parts : ts ≡ front ++ rest
  pub derives : Derives standard alternative.rule front tree
  pub after : DerivesAll standard (rest_of alternative.has_lookahead ∷ []) rest

found : (alts : List Alternative) (ts : List Token) → AnyDerives standard (stacks_for alts) ts → Found alts ts
found [] ts d = absurd d
found (a ∷ alts) ts (inl (derives_one {us = us} {x = x} p h d)) = record {
  alternative = a;
  front = leaves x;
  rest = us;
  tree = x;
  is = inl refl;
  parts = h;
  derives = (p, refl);
  after = d;
}
found (a ∷ alts) ts (inr d) =
    let f = found alts ts d in
    record {
      alternative = f.alternative;
      front = f.front;
      rest = f.rest;
      tree = f.tree;
      is = inr f.is;
      parts = f.parts;
      derives = f.derives;
      after = f.after;
    }

-- after other definitions than a selection set comes no brace
no_brace : (us : List Token) → DerivesAll standard (rest_of true ∷ []) us → sees brace (peek us) ≡ false
no_brace us d = of us (unfold_either standard (Sym symbol.other_definitions) Empty [] us d)
  where
    of : (vs : List Token) → DerivesAll standard (Sym symbol.other_definitions ∷ []) vs ⊎ DerivesAll standard (Empty ∷ []) vs
        → sees brace (peek vs) ≡ false
    of [] q = refl
    of (v ∷ vs) (inl (derives_one {x = x} p h derives_none)) =
        let e : peek (leaves x) ≡ Some v = ap peek (sym (h ∙ append-nil (leaves x))) in
        false_from_ne_true (in_any brace v)
        (λ k. all_apart-sound (first standard.rows (Sym symbol.other_definitions)) brace v refl (fits-first standard ll1 p v e) k)
    of (v ∷ vs) (inr (derives_one fits_nothing h derives_none)) = absurd (no_cons h)
      where
        no_cons : v ∷ vs ≡ [] → ⊥
        no_cons k = cc

as_definitions : (us : List Token) → DerivesAll standard (Sym symbol.other_definitions ∷ []) us
    → DerivesAll standard (Sym symbol.definitions ∷ []) us
as_definitions us d =
    one_of (Sym symbol.definitions) us
    (included-sound standard no_checks 60 (Sym symbol.other_definitions ∷ []) (only (Sym symbol.definitions)) us refl d)

-- what comes after an alternative: nothing, or definitions
after_all : (b : Bool) (us : List Token) → DerivesAll standard (rest_of b ∷ []) us
    → (us ≡ []) ⊎ DerivesAll standard (Sym symbol.definitions ∷ []) us
after_all true us d = of (unfold_either standard (Sym symbol.other_definitions) Empty [] us d)
  where
    of : DerivesAll standard (Sym symbol.other_definitions ∷ []) us ⊎ DerivesAll standard (Empty ∷ []) us
        → (us ≡ []) ⊎ DerivesAll standard (Sym symbol.definitions ∷ []) us
    of (inl p) = inr (as_definitions us p)
    of (inr (derives_one fits_nothing h derives_none)) = inl h
after_all false us d = of (unfold_either standard (Sym symbol.definitions) Empty [] us d)
  where
    of : DerivesAll standard (Sym symbol.definitions ∷ []) us ⊎ DerivesAll standard (Empty ∷ []) us
        → (us ≡ []) ⊎ DerivesAll standard (Sym symbol.definitions ∷ []) us
    of (inl p) = inr p
    of (inr (derives_one fits_nothing h derives_none)) = inl h

shorter : (ts front rest : List Token) (n : ℕ) → ts ≡ front ++ rest → (front ≡ [] → ⊥) → length ts ≤ suc n → length rest ≤ n
shorter ts [] rest n h f l = absurd (f refl)
shorter ts (t ∷ front) rest n h f l =
    let e = ap length h ∙ length-append (t ∷ front) rest in omega (arith, e, l)

zero_long : (ts front rest : List Token) → ts ≡ front ++ rest → (front ≡ [] → ⊥) → length ts ≤ zero → ⊥
zero_long ts [] rest h f l = f refl
zero_long ts (t ∷ front) rest h f l =
    let e = ap length h ∙ length-append (t ∷ front) rest in omega (arith, e, l)

searched : (ts : List Token) → DerivesAll standard (Sym symbol.definitions ∷ []) ts → Found definitions ts
searched ts d =
    found definitions ts
    (included-sound standard no_checks 60 (Sym symbol.definitions ∷ []) (stacks_for definitions) ts refl d)

has_front : (ts : List Token) (f : Found definitions ts) → f.front ≡ [] → ⊥
has_front ts f h =
    fits_some f.alternative.rule f.tree
    (and_parts (not (nullable standard.rows f.alternative.rule)) _ (fit definitions f.alternative f.is refl)).0 f.derives.0
    (sym f.derives.1 ∙ h)

as_many : (us : List Token) → IsDocumentBy standard us → AreDefinitions standard us
as_many us (front, rest, h, d, ds) = subst (AreDefinitions standard) (sym h) (more_definitions d ds)

with_rest : (ts : List Token) (f : Found definitions ts) → AreDefinitions standard f.rest → IsDocumentBy standard ts
with_rest ts f ds = (
  f.front,
  f.rest,
  f.parts,
  (
    f.alternative,
    f.tree,
    f.is,
    f.derives,
    λ e. no_brace f.rest (subst (λ (b : Bool). DerivesAll standard (rest_of b ∷ []) f.rest) e f.after),
  ),
  ds,
)

read_all : (n : ℕ) (ts : List Token) → length ts ≤ n → DerivesAll standard (Sym symbol.definitions ∷ []) ts
    → IsDocumentBy standard ts
read_all zero ts l d =
    let f = searched ts d in absurd (zero_long ts f.front f.rest f.parts (has_front ts f) l)
read_all (suc n) ts l d =
    let f = searched ts d in
    with_rest ts f
    (pick (λ e. subst (AreDefinitions standard) (sym e) no_definition)
    (λ q. as_many f.rest (read_all n f.rest (shorter ts f.front f.rest n f.parts (has_front ts f) l) q))
    (after_all f.alternative.has_lookahead f.rest f.after))

pub written : (ts : List Token) → IsDocument ts → IsDocumentBy standard ts
written ts (x, (p, h)) =
    read_all (length ts) ts (omega arith)
    (unfold_symbol standard symbol.document [] ts (derives_one p (h ∙ sym (append-nil (leaves x))) derives_none))
