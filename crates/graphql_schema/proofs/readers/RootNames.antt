-- The operations of a schema, or of an extension of it.
use Rattle.std.specs.Option.{option_or}
use Rattle.std.proofs.Common.{append-nil, append_assoc, ◌≡◌, ℕ, Bool, true, false, not, if◌then◌else◌, cond, List, [], ◌∷◌, ◌++◌, Option, Some, None}
use Rattle.std.proofs.Common.{option_map, is_some, codes, nat_eq, inl, inr, refl, sym, ap, subst, ◌∙◌}
use Rattle.graphql_core.proofs.{same_spelling-true, same_text_spelling, BegunBy}
use Rattle.std.specs.Cmp.Lexicographic.{pointwise}
use Rattle.graphql_core.specs.declared.common.cause.Cause.{Cause}
use Rattle.graphql_core.specs.{Place, same_spelling, is_listed, ParseTree, written, CauseText, cause_text}
use Rattle.graphql_core.specs.{unknown_operation, FaultText, tables as shared_tables, punctuator_class}
use Rattle.std.proofs.lemmas.Bool.{cases_Bool, false≢true}
use Rattle.graphql_schema.specs.{fault_after, Root, root_at, type_in, RootFault, unknown, duplicate, root_names}
use Rattle.graphql_schema.specs.{root_fault, root_cause, tables, changes, roots_symbol, HasRoots, Fills}
use Rattle.graphql_schema.specs.declared.read.schema.Roots.{Roots}
use Rattle.graphql_schema.proofs.readers.Lifted.{reading}

-- ---- the first error, with another operation at the end

none_some : {A : Type 0} {B : Type 0} (x : A) → None ≡ Some x → B
none_some x h = absurd cc

or_none : {A : Type 0} (o : Option A) → option_or o None ≡ o
or_none None = refl
or_none (Some x) = refl

or_grouped : {A : Type 0} (o p q : Option A) → option_or o (option_or p q) ≡ option_or (option_or o p) q
or_grouped None p q = refl
or_grouped (Some x) p q = refl

fault_last : (before rs : List Root) (r : Root) → root_fault before (rs ++ r ∷ []) ≡ option_or (root_fault before rs) (fault_after (before ++ rs) r)
fault_last before [] r = or_none (fault_after before r) ∙ ap (λ (l : List Root). fault_after l r) (sym (append-nil before))
fault_last before (q ∷ qs) r =
    ap (option_or (fault_after before q)) (fault_last (before ++ q ∷ []) qs r)
    ∙ or_grouped (fault_after before q) (root_fault (before ++ q ∷ []) qs) (fault_after ((before ++ q ∷ []) ++ qs) r)
    ∙ ap (λ (l : List Root). option_or (root_fault before (q ∷ qs)) (fault_after l r)) (append_assoc before (q ∷ []) qs)

-- the error of an operation, by whether it is one of the three, and whether it appeared before
abbrev pub name_fault : Bool → Bool → List ℕ → Option RootFault
name_fault known twice n = if not known then Some (unknown n) else if twice then Some (duplicate n) else None

-- ---- lists of operations, with another at the end

cond_last : {A : Type 0} (b : Bool) (x : A) (o p q : Option A) → p ≡ option_or o q → cond b (Some x) p ≡ option_or (cond b (Some x) o) q
cond_last true x o p q h = refl
cond_last false x o p q h = h

type_last : (rs : List Root) (r : Root) (w : List ℕ)
    → type_in (rs ++ r ∷ []) w ≡ option_or (type_in rs w) (cond (same_spelling w r.name) (Some r.type_name) None)
type_last [] r w = refl
type_last (q ∷ rs) r w = cond_last (same_spelling w q.name) q.type_name (type_in rs w) _ _ (type_last rs r w)

stays : (rs : List Root) (r : Root) (w : List ℕ) → same_spelling w r.name ≡ false → type_in (rs ++ r ∷ []) w ≡ type_in rs w
stays rs r w other =
    type_last rs r w ∙ ap (λ b. option_or (type_in rs w) (cond b (Some r.type_name) None)) other ∙ or_none (type_in rs w)

-- ---- what was read so far

-- equal strings, and different strings
is_text : (xs ys : List ℕ) → pointwise nat_eq xs ys ≡ true → xs ≡ ys
is_text xs ys h = sym (same_spelling-true ys xs (sym (same_text_spelling xs ys) ∙ h))

other_text : (n w : List ℕ) → pointwise nat_eq w w ≡ true → pointwise nat_eq n w ≡ false → same_spelling n w ≡ false
other_text n w self other = elim (cases_Bool (same_spelling n w)) [
  | inl same ↦ absurd (false≢true (sym other ∙ ap (λ m. pointwise nat_eq m w) (same_spelling-true n w same) ∙ self))
  | inr e ↦ e
]

pub not_root : (n : List ℕ) → pointwise nat_eq n (codes "query") ≡ false → pointwise nat_eq n (codes "mutation") ≡ false
    → pointwise nat_eq n (codes "subscription") ≡ false → is_listed n root_names ≡ false
not_root n q m s = rw (other_text n (codes "query") refl q, other_text n (codes "mutation") refl m, other_text n (codes "subscription") refl s) refl

-- a cause is that of an error; without a cause there is no error
some_fault : (u : Option Cause) (o : Option RootFault) → is_some u ≡ true
    → option_map cause_text u ≡ option_map root_cause o → (f : RootFault) × (o ≡ Some f)
some_fault None o h e = absurd cc
some_fault (Some c) None h e = absurd cc
some_fault (Some c) (Some f) h e = (f, refl)

no_error : (u : Option Cause) (o : Option RootFault) → is_some u ≡ false → option_map cause_text u ≡ option_map root_cause o → o ≡ None
no_error None None h e = refl
no_error None (Some f) h e = absurd cc
no_error (Some c) o h e = absurd cc

-- with another operation, the cause is that of the first error, and the operation has its type
abbrev pub IsAdded : {T : Type 0} → (T → List ℕ) → List ℕ → Option Cause → Option T → List Root → Type 0
IsAdded bytes w is new rs = (option_map cause_text is ≡ option_map root_cause (root_fault [] rs)) × (option_map bytes new ≡ type_in rs w)

module _ {N T : Type 0} (bytes : T → List ℕ) where
  -- no operation is wrong
  faultless : (v : Roots N T) (rs : List Root) → is_some v.cause ≡ false → HasRoots bytes v rs → root_fault [] rs ≡ None
  faultless v rs h k = no_error v.cause (root_fault [] rs) h k.cause

  -- then the first error with one more operation is that of this operation
  one_more : (v : Roots N T) (rs : List Root) (r : Root) → is_some v.cause ≡ false → HasRoots bytes v rs → root_fault [] (rs ++ r ∷ []) ≡ fault_after rs r
  one_more v rs r h k = fault_last [] rs r ∙ ap (λ (o : Option RootFault). option_or o (fault_after rs r)) (faultless v rs h k)

  -- the first error stays
  pub roots_kept : (v : Roots N T) (rs : List Root) (r : Root) → is_some v.cause ≡ true → HasRoots bytes v rs → HasRoots bytes v (rs ++ r ∷ [])
  roots_kept v rs r h k =
      let (f, is) = some_fault v.cause (root_fault [] rs) h k.cause in
      let more : root_fault [] (rs ++ r ∷ []) ≡ Some f =
      fault_last [] rs r ∙ ap (λ (o : Option RootFault). option_or o (fault_after rs r)) is in
      record {
        cause = k.cause ∙ ap (option_map root_cause) (is ∙ sym more);
        query = λ n. none_some f (sym n ∙ more);
        mutation = λ n. none_some f (sym n ∙ more);
        subscription = λ n. none_some f (sym n ∙ more);
      }

  -- the name is none of the three
  pub roots_unknown : (v w : Roots N T) (rs : List Root) (r : Root) → is_some v.cause ≡ false → is_listed r.name root_names ≡ false → HasRoots bytes v rs
      → option_map cause_text w.cause ≡ Some (unknown_operation r.name) → HasRoots bytes w (rs ++ r ∷ [])
  roots_unknown v w rs r h other k is =
      let more : root_fault [] (rs ++ r ∷ []) ≡ Some (unknown r.name) =
      one_more v rs r h k ∙ ap (λ (b : Bool). name_fault b (is_some (type_in rs r.name)) r.name) other in
      record {
        cause = is ∙ ap (option_map root_cause) (sym more);
        query = λ n. none_some (unknown r.name) (sym n ∙ more);
        mutation = λ n. none_some (unknown r.name) (sym n ∙ more);
        subscription = λ n. none_some (unknown r.name) (sym n ∙ more);
      }

  -- the name is this one, and its slot becomes filled, or was filled before
  filled : (w : List ℕ) (v : Roots N T) (is : Option Cause) (old new : Option T) (t : T) (rs : List Root) → same_spelling w w ≡ true
      → is_listed w root_names ≡ true → is_some v.cause ≡ false → HasRoots bytes v rs → option_map bytes old ≡ type_in rs w → Fills w t old new v.cause is
      → IsAdded bytes w is new (rs ++ record { name = w; type_name = bytes t } ∷ [])
  filled w v is old new t rs self known h k types fills = go old types fills
    where
      more : root_fault [] (rs ++ record { name = w; type_name = bytes t } ∷ []) ≡ name_fault true (is_some (type_in rs w)) w
      more =
          one_more v rs (record { name = w; type_name = bytes t }) h k ∙ ap (λ (b : Bool). name_fault b (is_some (type_in rs w)) w) known

      last : type_in (rs ++ record { name = w; type_name = bytes t } ∷ []) w ≡ option_or (type_in rs w) (Some (bytes t))
      last = type_last rs (record { name = w; type_name = bytes t }) w ∙ ap (λ (b : Bool). option_or (type_in rs w) (cond b (Some (bytes t)) None)) self

      go : (o : Option T) → option_map bytes o ≡ type_in rs w → Fills w t o new v.cause is
          → IsAdded bytes w is new (rs ++ record { name = w; type_name = bytes t } ∷ [])
      go None types (filled, same) = (
        ap (option_map cause_text) same ∙ k.cause
            ∙ ap (option_map root_cause) (faultless v rs h k ∙ sym (more ∙ ap (λ (o : Option (List ℕ)). name_fault true (is_some o) w) (sym types))),
        ap (option_map bytes) filled ∙ sym (last ∙ ap (λ (o : Option (List ℕ)). option_or o (Some (bytes t))) (sym types)),
      )
      go (Some x) types (stays, cause) = (
        cause ∙ ap (option_map root_cause) (sym (more ∙ ap (λ (o : Option (List ℕ)). name_fault true (is_some o) w) (sym types))),
        ap (option_map bytes) stays ∙ sym (last ∙ ap (λ (o : Option (List ℕ)). option_or o (Some (bytes t))) (sym types)),
      )

  -- the same for an equal name; the other operations stay
  pub filled_same : (n w : List ℕ) (v : Roots N T) (is : Option Cause) (old new : Option T) (t : T) (rs : List Root)
      → pointwise nat_eq n w ≡ true → same_spelling w w ≡ true → is_listed w root_names ≡ true → is_some v.cause ≡ false → HasRoots bytes v rs
      → (root_fault [] rs ≡ None → option_map bytes old ≡ type_in rs w) → Fills n t old new v.cause is
      → IsAdded bytes w is new (rs ++ record { name = n; type_name = bytes t } ∷ [])
      × ((u : List ℕ) (s : Option T) → same_spelling u w ≡ false → (root_fault [] rs ≡ None → option_map bytes s ≡ type_in rs u)
      → option_map bytes s ≡ type_in (rs ++ record { name = n; type_name = bytes t } ∷ []) u)
  filled_same n w v is old new t rs same self known h k types fills =
      let good = faultless v rs h k in
      let equal = is_text n w same in (
        subst (λ (m : List ℕ). Fills m t old new v.cause is → IsAdded bytes w is new (rs ++ record { name = m; type_name = bytes t } ∷ []))
            (sym equal) (filled w v is old new t rs self known h k (types good)) fills,
        λ u s other stay. stay good ∙ sym (stays rs (record { name = n; type_name = bytes t }) u (ap (same_spelling u) equal ∙ other)),
      )

-- ---- the contents of the braces

-- what one turn denotes
abbrev pub turn_of : ParseTree → Root
turn_of x = root_at (written changes x)

-- the operations in braces
pub roots_begin : BegunBy reading roots_symbol (punctuator_class (codes "{") ∷ [])
unfolding tables shared_tables
roots_begin = record { something = refl; first = refl }

-- ---- the whole schema, or the extension

-- an error with this cause at this position
abbrev fault_at_place : CauseText → Place → FaultText
fault_at_place c p = record { cause = c; place = p }

-- if an operation is wrong, its error is reported
pub fault_stated : (w : Option Cause) (u : Cause) (o : Option RootFault) (p q : Place) → w ≡ Some u → p ≡ q
    → option_map cause_text w ≡ option_map root_cause o
    → (not (is_some o) ≡ false)
    × (option_map (λ (f : RootFault). fault_at_place (root_cause f) p) o ≡ Some (fault_at_place (cause_text u) q))
fault_stated w u None p q is at e = none_some _ (sym e ∙ ap (option_map cause_text) is)
fault_stated w u (Some f) p q is at e = (
  refl,
  ap (option_map (λ (c : CauseText). fault_at_place c p)) (sym e ∙ ap (option_map cause_text) is) ∙ ap (λ r. Some (fault_at_place (cause_text u) r)) at,
)

-- if no operation is wrong, no error is reported
pub none_stated : (w : Option Cause) (o : Option RootFault) → w ≡ None → option_map cause_text w ≡ option_map root_cause o
    → (not (is_some o) ≡ true) × (o ≡ None)
none_stated w None is e = (refl, refl)
none_stated w (Some f) is e = none_some _ (sym (ap (option_map cause_text) is) ∙ e)
