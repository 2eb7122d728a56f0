-- Every document of version 0.4.1 is the same document in this version, without the parts added since.
use Rattle.std.proofs.Common.{◌≡◌, ◌==◌, ℕ, true, List, [], ◌∷◌, ◌++◌, Option, Some, None, replicate, refl, sym, ap₂, subst, arith, inl, inr}
use Rattle.graphql_core.specs.{Same, InSides, Before, AsFirst, growth_at, either_way, Many, Sym, ParseTree, Nothing, Second, Fits, fits_leaf, fits_both}
use Rattle.graphql_core.specs.{fits_first, fits_second, fits_stop, fits_more, fits_node, row, Growth, grown, shared_symbols, each_of}
use Rattle.std.proofs.lemmas.Bool.{cases_Bool}
use Rattle.std.proofs.lemmas.Bool.Decides.{nat_tests}
use Rattle.graphql_core.proofs.{IsGrown}
use Rattle.graphql_schema.specs.{document_symbol, item_symbol, schema_symbol, extension_symbol, schema_extension_symbol, passes, item_of, document_of, schemas}
use Rattle.graphql_schema.specs.{schema_0_4_1, schemas_0_4_1, HasNoNewPart, HasNoNewParts}

-- a schema gets no description before it, and `extend` is followed by a type
abbrev pub new_parts : List (Option Growth)
new_parts =
    replicate shared_symbols None ++ Some Same ∷ Some (InSides (Before (Second Nothing) Same) Same) ∷ None ∷ None ∷ Some (AsFirst Same) ∷ []

-- ---- the same document

item_grown : {x : ParseTree} → Fits schema_0_4_1 (Sym item_symbol) x → item_of (grown new_parts x) ≡ item_of x
item_grown (fits_node (fits_first (fits_node s e)) c) = refl
item_grown (fits_node (fits_second (fits_first (fits_node (fits_both (fits_leaf w) (fits_node b e)) d))) c) = refl
item_grown (fits_node (fits_second (fits_second (fits_node (fits_first (fits_both d b)) e))) c) = refl
item_grown (fits_node (fits_second (fits_second (fits_node (fits_second (fits_both d b)) e))) c) = refl

items_grown : {x : ParseTree} → Fits schema_0_4_1 (Many (Sym item_symbol)) x → each_of item_of (grown new_parts x) ≡ each_of item_of x
items_grown fits_stop = refl
items_grown (fits_more f fs) = ap₂ (λ d ds. d ∷ ds) (item_grown f) (items_grown fs)

document_grown : {x : ParseTree} → Fits schema_0_4_1 (Sym document_symbol) x → document_of (grown new_parts x) ≡ document_of x
document_grown (fits_node (fits_both f fs) c) = ap₂ (λ d ds. d ∷ ds) (item_grown f) (items_grown fs)

-- ---- accepted nodes

extension_passes : (x : ParseTree) → Fits schema_0_4_1 (row schema_0_4_1 extension_symbol).rule x → passes extension_symbol x ≡ true
    → passes extension_symbol (either_way (growth_at new_parts extension_symbol) x (grown new_parts x)) ≡ true
extension_passes _ (fits_both (fits_leaf w) (fits_node b e)) h = h

-- of the nodes that are checked, only those of extensions change
passes_on : (k : ℕ) (x : ParseTree) → Fits schema_0_4_1 (row schema_0_4_1 k).rule x → passes k x ≡ true
    → passes k (either_way (growth_at new_parts k) x (grown new_parts x)) ≡ true
passes_on k x f h = elim (cases_Bool (k == schema_symbol)) [
  | inl e ↦
      let is : k ≡ schema_symbol = grind (arith, nat_tests) in
      subst (λ (j : ℕ). passes j (either_way (growth_at new_parts j) x (grown new_parts x)) ≡ true) (sym is)
      (subst (λ (j : ℕ). passes j x ≡ true) is h)
  | inr e ↦ elim (cases_Bool (k == extension_symbol)) [
    | inl e' ↦
        let is : k ≡ extension_symbol = grind (arith, nat_tests) in
        subst (λ (j : ℕ). passes j (either_way (growth_at new_parts j) x (grown new_parts x)) ≡ true) (sym is)
        (extension_passes x (subst (λ (j : ℕ). Fits schema_0_4_1 (row schema_0_4_1 j).rule x) is f) (subst (λ (j : ℕ). passes j x ≡ true) is h))
    | inr e' ↦ elim (cases_Bool (k == schema_extension_symbol)) [
      | inl e'' ↦
          let is : k ≡ schema_extension_symbol = grind (arith, nat_tests) in
          subst (λ (j : ℕ). passes j (either_way (growth_at new_parts j) x (grown new_parts x)) ≡ true) (sym is)
          (subst (λ (j : ℕ). passes j x ≡ true) is h)
      | inr e'' ↦ rw (e, e', e'') refl
    ]
  ]
]

pub schemas_grow : IsGrown new_parts schemas_0_4_1 schemas
schemas_grow = record {
  grows = record { rules = refl; good = λ c t h. h; check = passes_on };
  document = refl;
  below = refl;
  means = λ x f. document_grown f;
}

-- ---- no new part

item_has_none : {x : ParseTree} → Fits schema_0_4_1 (Sym item_symbol) x → HasNoNewPart (item_of x)
item_has_none (fits_node (fits_first (fits_node s e)) c) = refl
item_has_none (fits_node (fits_second (fits_first (fits_node (fits_both (fits_leaf w) (fits_node b e)) d))) c) = tt
item_has_none (fits_node (fits_second (fits_second (fits_node (fits_first (fits_both d b)) e))) c) = tt
item_has_none (fits_node (fits_second (fits_second (fits_node (fits_second (fits_both d b)) e))) c) = tt

items_have_none : {x : ParseTree} → Fits schema_0_4_1 (Many (Sym item_symbol)) x → HasNoNewParts (each_of item_of x)
items_have_none fits_stop = tt
items_have_none (fits_more f fs) = (item_has_none f, items_have_none fs)

pub document_has_none : {x : ParseTree} → Fits schema_0_4_1 (Sym document_symbol) x → HasNoNewParts (document_of x)
document_has_none (fits_node (fits_both f fs) c) = (item_has_none f, items_have_none fs)
