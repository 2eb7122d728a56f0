-- The grammar of schemas is parsed exactly, and extends that of values, types and directives.
use Rattle.std.proofs.Common.{codes, ◌≡◌, ◌<◌, ◌-◌, ◌==◌, ◌&&◌, ℕ, zero, suc, Bool, true, false, List, [], ◌∷◌, length, drop, Option, Some, inl, inr, refl, sym}
use Rattle.std.proofs.Common.{subst, ◌∙◌, arith}
use Rattle.std.proofs.lemmas.Bool.{both_ways, cases_Bool, and_parts}
use Rattle.graphql_core.proofs.{each_is_factored, IsFactored-head, unchanged_then, with_more, alone_before}
use Rattle.graphql_core.proofs.{IsFactored-sides, none_there, shared_rows, one_cause}
use Rattle.graphql_core.specs.{Grammar, Token, Class, Spelled, AnyOf, Except, Expr, Empty, One, Then, Either, Many, Sym, ParseTree, Row, row, row_at, optional}
use Rattle.graphql_core.specs.{leaves, Fits, fits_both, fits_leaf, fits_first, fits_second, with_tables, EachIsFactored, change_at, written, RejectsTokens}
use Rattle.graphql_core.specs.{Extends, TestsAlike, CauseText, FaultText, shared, tables as core_tables, shared_symbols, word, unquoted, is_good as leaves_good}
use Rattle.graphql_core.specs.{reading, IsReadable}
use Rattle.std.proofs.lemmas.Bool.Decides.{nat_tests}
use Rattle.graphql_schema.specs.{location_of, is_good, rules, factored_rules, factored_rows, tables, changes, passes, document_symbol, item_symbol}
use Rattle.graphql_schema.specs.{extension_symbol, described_symbol, description_symbol, type_body_symbol, directive_definition_symbol, schema_extension_symbol}
use Rattle.graphql_schema.specs.{schema_grammar, schemas, Lacks, said_of, schema_symbol}

-- ---- the factored rules have the trees of the written ones, for any test of leaves and nodes

-- the rules from this symbol on
abbrev from : ℕ → List Row → List Row
from k rs = drop (k - shared_symbols) rs

-- if every node with an optional description is accepted
each : (good : Class → Token → Bool) (check : ℕ → ParseTree → Bool) → ((x : ParseTree) → check described_symbol x ≡ true)
    → EachIsFactored (record { rows = schema_grammar.rows; good = good; check = check; samples = schema_grammar.samples }) factored_rows changes
each good check pass =
    let g : Grammar = record { rows = schema_grammar.rows; good = good; check = check; samples = schema_grammar.samples } in
    let ws : List Row = with_tables rules [] in
    let qs : List Row = with_tables factored_rules tables in
    let described : Expr = optional (Sym description_symbol) in
    each_is_factored g factored_rows changes (shared_rows g factored_rows changes shared.rows ws qs (drop shared_symbols changes)
    (unchanged_then g factored_rows changes (item_symbol - document_symbol) ws qs (drop item_symbol changes) refl (
      IsFactored-sides g factored_rows changes described_symbol described (Sym schema_symbol) (Sym extension_symbol) (Sym type_body_symbol)
          (Sym directive_definition_symbol) refl refl (λ x. refl) pass,
      unchanged_then g factored_rows changes (extension_symbol - schema_symbol) (from schema_symbol ws) (from schema_symbol qs)
          (drop extension_symbol changes) refl (
            IsFactored-head g factored_rows changes (word (codes "extend")) (Sym type_body_symbol) (Sym schema_extension_symbol),
            (
              IsFactored-head g factored_rows changes described (Sym type_body_symbol) (Sym directive_definition_symbol),
              unchanged_then g factored_rows changes (length (from description_symbol ws)) (from description_symbol ws) (from description_symbol qs) [] refl tt,
            ),
          ),
    )))

-- ---- the grammar extends that of values, types and directives

-- the expression names no location
abbrev pub shares : Expr → Bool
shares Empty = true
shares (One (Except k [])) = false
shares (One c) = true
shares (Then a b) = shares a && shares b
shares (Either a b) = shares a && shares b
shares (Many a) = shares a
shares (Sym k) = true

abbrev all_share : List Row → Bool
all_share [] = true
all_share (r ∷ rs) = shares r.rule && all_share rs

shares_at : (rs : List Row) (k : ℕ) → all_share rs ≡ true → k < length rs → shares (row_at rs k).rule ≡ true
shares_at [] k s h = absurd (omega arith)
shares_at (r ∷ rs) zero s h = (and_parts (shares r.rule) (all_share rs) s).0
shares_at (r ∷ rs) (suc k) s h = shares_at rs k (and_parts (shares r.rule) (all_share rs) s).1 (omega arith)

class_alike : (c : Class) (t : Token) → shares (One c) ≡ true → is_good c t ≡ leaves_good c t
class_alike (Spelled k s) t h = refl
class_alike (AnyOf k) t h = refl
class_alike (Except k (s ∷ ss)) t h = refl
class_alike (Except k []) t h = absurd cc

-- a grammar with these tests of leaves tests the shared leaves as the shared grammar does
module _ (h : Grammar) (same : (c : Class) (t : Token) → h.good c t ≡ is_good c t) where
  alike_for : (e : Expr) → shares e ≡ true → TestsAlike shared h e
  alike_for Empty s = tt
  alike_for (One c) s = λ t. same c t ∙ class_alike c t s
  alike_for (Then a b) s = let both = and_parts (shares a) (shares b) s in (alike_for a both.0, alike_for b both.1)
  alike_for (Either a b) s = let both = and_parts (shares a) (shares b) s in (alike_for a both.0, alike_for b both.1)
  alike_for (Many a) s = alike_for a s
  alike_for (Sym k) s = tt

pub read_alike : (e : Expr) → shares e ≡ true → TestsAlike shared (reading schemas) e
read_alike = alike_for (reading schemas) (λ c t. refl)

-- the same for the written grammar
pub tested_alike : (e : Expr) → shares e ≡ true → TestsAlike shared schema_grammar e
tested_alike = alike_for schema_grammar (λ c t. refl)

passes_below : (k : ℕ) (x : ParseTree) → k < shared_symbols → passes k x ≡ true
passes_below k x h =
    let none : (k == schema_symbol) ≡ false = grind (arith, nat_tests) in
    let neither : (k == extension_symbol) ≡ false = grind (arith, nat_tests) in
    let nor : (k == schema_extension_symbol) ≡ false = grind (arith, nat_tests) in
    rw (none, neither, nor) refl

goes_on : Extends shared_symbols shared (reading schemas)
goes_on = with_more shared _ is_good (reading schemas).check schema_grammar.samples refl
    (λ k h. read_alike (row_at shared.rows k).rule (shares_at shared.rows k refl h))
    (λ k x h. passes_below k ((change_at changes k).to_written (written changes x)) h)

pub written_goes_on : Extends shared_symbols shared schema_grammar
written_goes_on = with_more shared _ is_good passes schema_grammar.samples refl
    (λ k h. tested_alike (row_at shared.rows k).rule (shares_at shared.rows k refl h)) passes_below

-- ---- rejected nodes

-- the tree of an expression that begins with a token has a token
has_token : (c : Class) (e : Expr) (x : ParseTree) → Fits schema_grammar (Then (One c) e) x → leaves x ≡ [] → ⊥
has_token c e _ (fits_both (fits_leaf a) h) empty = absurd cc

either_has_token : (c : Class) (a b : Expr) (x : ParseTree) → Fits schema_grammar (Either (Then (One c) a) (Then (One c) b)) x → leaves x ≡ [] → ⊥
either_has_token c a b _ (fits_first h) empty = has_token c a _ h empty
either_has_token c a b _ (fits_second h) empty = has_token c b _ h empty

rejects_tokens : RejectsTokens schema_grammar
rejects_tokens k x fits rejected empty = elim (cases_Bool (k == schema_symbol)) [
  | inl e ↦
      let is : k ≡ schema_symbol = grind (arith, nat_tests) in
      has_token _ _ x (subst (λ (j : ℕ). Fits schema_grammar (row schema_grammar j).rule x) is fits) empty
  | inr e ↦ elim (cases_Bool (k == extension_symbol)) [
    | inl e' ↦
        let is : k ≡ extension_symbol = grind (arith, nat_tests) in
        either_has_token _ _ _ x (subst (λ (j : ℕ). Fits schema_grammar (row schema_grammar j).rule x) is fits) empty
    | inr e' ↦ elim (cases_Bool (k == schema_extension_symbol)) [
      | inl e'' ↦
          let is : k ≡ schema_extension_symbol = grind (arith, nat_tests) in
          has_token _ _ x (subst (λ (j : ℕ). Fits schema_grammar (row schema_grammar j).rule x) is fits) empty
      | inr e'' ↦
          let passed : passes k x ≡ true = rw (e, e', e'') refl in
          absurd (both_ways (passes k x) rejected passed)
    ]
  ]
]

-- a leaf is rejected for only one cause
one_lack : (leaf : Class) (t : Token) (c d : CauseText) → Lacks leaf t c → Lacks leaf t d → c ≡ d
one_lack (Spelled k s) t c d h w = one_cause t c d h w
one_lack (AnyOf k) t c d h w = one_cause t c d h w
one_lack (Except k (s ∷ ss)) t c d h w = one_cause t c d h w
one_lack (Except k []) t c d h w = h.1 ∙ sym w.1

same_fault : (o : Option FaultText) (f g : FaultText) → o ≡ Some f → o ≡ Some g → f ≡ g
same_fault o f g p q = cc

pub readable : IsReadable schemas
unfolding tables core_tables unquoted
readable = record {
  ll1 = refl;
  tight = refl;
  productive = refl;
  productive_lax = refl;
  decides = refl;
  samples = refl;
  samples_lax = refl;
  each = each _ _ (λ x. refl);
  each_unchecked = each _ _ (λ x. refl);
  each_lax = each _ _ (λ x. refl);
  goes_on = goes_on;
  alone = alone_before shared _ refl;
  good = λ k t. refl;
  lacks = λ k t c h. h;
  location = λ t h. (none_there (location_of t.spelling) h, refl);
  one_cause = one_lack;
  rejects_tokens = rejects_tokens;
  passes = λ x. refl;
  one_said = λ node f g h w. same_fault (said_of node) f g h w;
}
