-- The layouts of values parse back, as values and as constants.
use Rattle.std.proofs.Common.{◌≡◌, ℕ, ◌+◌, ◌≤◌, Bool, true, false, if◌then◌else◌, zero, suc, List, [], ◌∷◌, ◌++◌, codes, refl, ap, ap₂, ◌∙◌, arith}
use Rattle.graphql_core.specs.{name_part, punctuator_part, Part, token, gap, new_line, float, string, item, enum, object, no_items, int, ValueTree, ValueItems}
use Rattle.graphql_core.specs.{ValueMembers, variable, boolean, null, list, no_members, member, Class, Expr, One, Many, Sym, ParseTree, Leaf, First}
use Rattle.graphql_core.specs.{Second, Stop, More, Node, IsName, StyleOptions, spaces, symbol_of, pair_symbol_of, list_rule, object_rule, pair_rule, tree_of}
use Rattle.graphql_core.specs.{trees_of, pair_of, pairs_by, as_list, as_object, value_layout, items_layout, members_layout, pair_layout, before_part, parts}
use Rattle.graphql_core.specs.{after_parts, inside, boolean_name, has_block_form, in_block_form, quoted, shared, plain_symbol, spelling_at, plain_of, put_all}
use Rattle.graphql_core.specs.{block_string_of, IsPrintableValue, ArePrintableItems, ArePrintableMembers, IsConstant, AreConstant, HoldConstants}
use Rattle.graphql_core.specs.{value_brackets, items_brackets, members_brackets, IsWellFormed, AreWellFormed, HoldWellFormed}
use Rattle.graphql_core.proofs.layouts.{is_blank, block_word, block_means}
use Rattle.graphql_core.proofs.round_trip.ParsingBack.{Any, as_word_back, anywhere_back, gap_back, word_back, punctuator_back, open_back, close_back, both_back}
use Rattle.graphql_core.proofs.round_trip.ParsingBack.{first_back, second_back, node_back, stop_back, more_back, three_back, Back}
use Rattle.std.specs.List.{list_all}
use Rattle.graphql_core.specs.declared.tokenizer.token.Kind.TheVariants.{StringValue, BlockString}
use Rattle.graphql_core.specs.declared.common.read.values.Constness.{Constness}
use Rattle.graphql_core.specs.declared.common.read.values.Constness.TheVariants.{Value, Constant}
use Rattle.graphql_core.proofs.round_trip.LeavesBack.{name_word, enum_takes, int_word, int_takes, int_decimal, float_word, float_takes, quoted_word}
use Rattle.graphql_core.proofs.round_trip.LeavesBack.{quoted_takes, quoted_means}
use Rattle.graphql_core.proofs.values.{pairs_in, put_all_in_order}
use Rattle.graphql_core.proofs.readers.ValueAlternatives.{list_means, object_means, pair_means}

-- ---- white space of parts

pub spaces_blank : (n : ℕ) → list_all is_blank (spaces n) ≡ true
spaces_blank zero = refl
spaces_blank (suc n) = spaces_blank n

-- what can follow anything can follow no word
pub calm : {e : Expr} (p : Bool) {q : Bool} {d f : ℕ} {ps : List Part} {R : ParseTree → Type 0} → Back shared e p d ps q f R → Back shared e false d ps q f R
calm true h = anywhere_back h
calm false h = h

-- an end after anything is an end after a word
pub to_word : {e : Expr} {p : Bool} (q : Bool) {d f : ℕ} {ps : List Part} {R : ParseTree → Type 0} → Back shared e p d ps q f R → Back shared e p d ps true f R
to_word true h = h
to_word false h = as_word_back h

pub choose_line : {e : Expr} {p q : Bool} {d f : ℕ} {ps : List Part} {R : ParseTree → Type 0} (b : Bool) (n : ℕ) → Back shared e p d ps q f R
    → Back shared e p d ((if b then new_line n else []) ++ ps) q f R
choose_line {p = p} true n h = gap_back (spaces_blank n) (calm p h)
choose_line false n h = h

choose_comma : {e : Expr} {q : Bool} {d f : ℕ} {ps : List Part} {R : ParseTree → Type 0} (b : Bool) (n : ℕ) → Back shared e false d ps q f R
    → Back shared e true d ((if b then gap (codes ",") ++ new_line n else gap (codes ", ")) ++ ps) q f R
choose_comma true n h = gap_back refl (gap_back (spaces_blank n) h)
choose_comma false n h = gap_back refl h

-- white space before a part, for the first part and for a later one
pub before_back : {e : Expr} {q : Bool} {d f : ℕ} {ps : List Part} {R : ParseTree → Type 0} (style : StyleOptions) (margin : ℕ) (later : Bool)
    → Back shared e false d ps q f R
    → Back shared e later d (before_part style margin later ++ ps) q f R
before_back style margin false h = choose_line style.multiline margin h
before_back style margin true h = choose_comma style.multiline margin h

-- the closer after all parts
pub closer_back : {c : Class} {d : ℕ} (style : StyleOptions) (margin : ℕ) (s : List ℕ) → Back shared (One c) true (d + 1) (punctuator_part s) false d Any
    → Back shared (One c) true (d + 1) (after_parts style margin ++ punctuator_part s) false d Any
closer_back style margin s h = choose_line style.multiline margin h

-- ---- the alternatives of the rule

plain_in : (s : Constness) (v : ValueTree) {p q : Bool} {d f : ℕ} {ps : List Part} → Back shared (Sym plain_symbol) p d ps q f (λ x. plain_of x ≡ v)
    → Back shared (Sym (symbol_of s)) p d ps q f (λ x. tree_of s x ≡ v)
plain_in Value v h = node_back (λ x. refl) (second_back (first_back h))
plain_in Constant v h = node_back (λ x. refl) (first_back h)

list_in : (s : Constness) (v : ValueTree) {p q : Bool} {d f : ℕ} {ps : List Part} → Back shared (list_rule s) p d ps q f (λ x. tree_of s (as_list s x) ≡ v)
    → Back shared (Sym (symbol_of s)) p d ps q f (λ x. tree_of s x ≡ v)
list_in Value v h = node_back (λ x. refl) (second_back (second_back (first_back h)))
list_in Constant v h = node_back (λ x. refl) (second_back (first_back h))

object_in : (s : Constness) (v : ValueTree) {p q : Bool} {d f : ℕ} {ps : List Part}
    → Back shared (object_rule s) p d ps q f (λ x. tree_of s (as_object s x) ≡ v)
    → Back shared (Sym (symbol_of s)) p d ps q f (λ x. tree_of s x ≡ v)
object_in Value v h = node_back (λ x. refl) (second_back (second_back (second_back h)))
object_in Constant v h = node_back (λ x. refl) (second_back (second_back h))

pair_in : (s : Constness) (a : List ℕ × ValueTree) {p q : Bool} {d f : ℕ} {ps : List Part}
    → Back shared (pair_rule s) p d ps q f (λ x. pair_of s (Node (pair_symbol_of s) x) ≡ a)
    → Back shared (Sym (pair_symbol_of s)) p d ps q f (λ x. pair_of s x ≡ a)
pair_in Value a h = node_back (λ x. refl) h
pair_in Constant a h = node_back (λ x. refl) h

no_items_means : (s : Constness) → trees_of s Stop ≡ no_items
no_items_means Value = refl
no_items_means Constant = refl

items_means : (s : Constness) (x y : ParseTree) → trees_of s (More x y) ≡ item (tree_of s x) (trees_of s y)
items_means Value x y = refl
items_means Constant x y = refl

no_pairs_means : (s : Constness) → pairs_by s Stop ≡ []
no_pairs_means Value = refl
no_pairs_means Constant = refl

pairs_means : (s : Constness) (x y : ParseTree) → pairs_by s (More x y) ≡ pair_of s x ∷ pairs_by s y
pairs_means Value x y = refl
pairs_means Constant x y = refl

-- a name, a colon and a value
pub pair_back : (s : Constness) (style : StyleOptions) (margin : ℕ) (n : List ℕ) (v : ValueTree) (d : ℕ) → IsName n
    → Back shared (Sym (symbol_of s)) false d (value_layout style margin v) true d (λ x. tree_of s x ≡ v)
    → Back shared (Sym (pair_symbol_of s)) false d (pair_layout n (value_layout style margin v)) true d (λ x. pair_of s x ≡ (n, v))
pair_back s style margin n v d is value =
    pair_in s (n, v) (three_back {P = λ x. spelling_at x ≡ n}
    (word_back (name_word n is) (λ p. refl) (λ t e. e))
    (punctuator_back (codes ":") (refl, refl) (λ p. refl))
    (gap_back refl value)
    (λ x c y hx hc hy. pair_means s (pair_symbol_of s) x c y ∙ ap₂ (λ a b. (a, b)) hx hy))

-- ---- what is plain

-- a constant has no variables
abbrev pub Suits : Constness → ValueTree → Type 0
Suits Value v = Unit {0}
Suits Constant v = IsConstant v

abbrev SuitItems : Constness → ValueItems → Type 0
SuitItems Value vs = Unit {0}
SuitItems Constant vs = AreConstant vs

abbrev SuitMembers : Constness → ValueMembers → Type 0
SuitMembers Value ms = Unit {0}
SuitMembers Constant ms = HoldConstants ms

suits_items : (s : Constness) (vs : ValueItems) → Suits s (list vs) → SuitItems s vs
suits_items Value vs h = tt
suits_items Constant vs h = h

suits_members : (s : Constness) (ms : ValueMembers) → Suits s (object ms) → SuitMembers s ms
suits_members Value ms h = tt
suits_members Constant ms h = h

suits_item : (s : Constness) (v : ValueTree) (vs : ValueItems) → SuitItems s (item v vs) → Suits s v × SuitItems s vs
suits_item Value v vs h = (tt, tt)
suits_item Constant v vs h = h

suits_member : (s : Constness) (n : List ℕ) (v : ValueTree) (ms : ValueMembers) → SuitMembers s (member n v ms) → Suits s v × SuitMembers s ms
suits_member Value n v ms h = (tt, tt)
suits_member Constant n v ms h = h

boolean_back : (b : Bool) (d : ℕ) → Back shared (Sym plain_symbol) false d (name_part (boolean_name b)) true d (λ x. plain_of x ≡ boolean b)
boolean_back true d = node_back (λ x. refl) (first_back (word_back (name_word (codes "true") (refl, refl)) (λ p. refl) (λ t e. refl)))
boolean_back false d = node_back (λ x. refl) (second_back (first_back (word_back (name_word (codes "false") (refl, refl)) (λ p. refl) (λ t e. refl))))

module _ (style : StyleOptions) where
  form_back : (margin : ℕ) (text : List ℕ) (d : ℕ) (b : Bool) → has_block_form text ≡ b
      → Back shared (Sym plain_symbol) false d (if b then token BlockString (in_block_form (margin + style.indent) margin text)
      ∷ [] else token StringValue (quoted text) ∷ []) true d (λ x. plain_of x ≡ string text)
  form_back margin text d true h =
      node_back (λ x. refl) (second_back (second_back (second_back (second_back (second_back
      (second_back (second_back (word_back (block_word (margin + style.indent) margin text) (λ p. refl)
      (λ t e. ap (λ s. string (block_string_of s)) e ∙ ap string (block_means (margin + style.indent) margin text h))))))))))
  form_back margin text d false h =
      node_back (λ x. refl) (second_back (second_back (second_back (second_back (second_back
      (second_back (first_back (word_back (quoted_word text) (quoted_takes text)
      (λ t e. ap (λ s. plain_of (Node plain_symbol
      (Second (Second (Second (Second (Second (Second (First (Leaf (record { kind = t.kind; spelling = s; place = t.place }))))))))))) e
      ∙ ap string (quoted_means text))))))))))

  mutual
    pub value_back : (s : Constness) (margin : ℕ) (v : ValueTree) (d : ℕ) → IsPrintableValue v → IsWellFormed v → Suits s v → d + value_brackets v ≤ 50
        → Back shared (Sym (symbol_of s)) false d (value_layout style margin v) true d (λ x. tree_of s x ≡ v)
    value_back Constant margin (variable n) d is well_formed suits deep = absurd suits
    value_back Value margin (variable n) d is well_formed suits deep =
        node_back (λ x. refl) (first_back (both_back {Q = λ x. spelling_at x ≡ n} (punctuator_back (codes "$") (refl, refl) (λ p. refl))
        (word_back (name_word n is) (λ p. refl) (λ t e. e)) (λ o x ho hx. ap variable hx)))
    value_back s margin (int i) d is well_formed suits deep =
        plain_in s (int i) (node_back (λ x. refl)
        (second_back (second_back (second_back (second_back (first_back (word_back (int_word i well_formed) (int_takes i well_formed)
        (λ t e. ap (λ r. plain_of (Node plain_symbol
        (Second (Second (Second (Second (First (Leaf (record { kind = t.kind; spelling = r; place = t.place }))))))))) e
        ∙ ap int (int_decimal i well_formed)))))))))
    value_back s margin (float literal) d is well_formed suits deep =
        plain_in s (float literal) (node_back (λ x. refl)
        (second_back (second_back (second_back (second_back (second_back (first_back (word_back (float_word literal well_formed) (float_takes literal well_formed)
        (λ t e. ap float e)))))))))
    value_back s margin (string text) d is well_formed suits deep = plain_in s (string text) (form_back margin text d (has_block_form text) refl)
    value_back s margin (boolean b) d is well_formed suits deep = plain_in s (boolean b) (boolean_back b d)
    value_back s margin null d is well_formed suits deep =
        plain_in s null (node_back (λ x. refl) (second_back (second_back (first_back (word_back (name_word (codes "null") (refl, refl)) (λ p. refl)
        (λ t e. refl))))))
    value_back s margin (enum n) d is well_formed suits deep =
        plain_in s (enum n) (node_back (λ x. refl)
        (second_back (second_back (second_back (first_back (node_back (λ x. refl) (word_back (name_word n is.0) (enum_takes n is) (λ t e. ap enum e))))))))
    value_back s margin (list vs) d is well_formed suits deep =
        list_in s (list vs) (as_word_back (three_back
        (open_back (codes "[") (refl, refl) (omega arith) (λ p. refl))
        (items_back s (inside style margin) false vs (d + 1) is well_formed (suits_items s vs suits) (omega arith))
        (closer_back style margin (codes "]") (close_back (codes "]") (refl, refl) (λ p. refl)))
        (λ o x c ho hx hc. list_means s o x c ∙ ap list hx)))
    value_back s margin (object ms) d is (ordered, well_formed) suits deep =
        object_in s (object ms) (as_word_back (three_back
        (open_back (codes "{") (refl, refl) (omega arith) (λ p. refl))
        (members_back s (inside style margin) false ms (d + 1) is well_formed (suits_members s ms suits) (omega arith))
        (closer_back style margin (codes "}") (close_back (codes "}") (refl, refl) (λ p. refl)))
        (λ o x c ho hx hc. object_means s o x c ∙ ap (λ ps. object (put_all ps no_members)) hx ∙ ap object (put_all_in_order ms ordered))))

    items_back : (s : Constness) (margin : ℕ) (later : Bool) (vs : ValueItems) (d : ℕ) → ArePrintableItems vs → AreWellFormed vs → SuitItems s vs
        → d + items_brackets vs ≤ 50
        → Back shared (Many (Sym (symbol_of s))) later d (parts style margin later (items_layout style margin vs)) true d (λ x. trees_of s x ≡ vs)
    items_back s margin later no_items d is well_formed suits deep = to_word later (stop_back (no_items_means s))
    items_back s margin later (item v vs) d (is, are) (law, laws) suits deep =
        let (here, others) = suits_item s v vs suits in
        before_back style margin later (more_back (value_back s margin v d is law here (omega arith))
        (items_back s margin true vs d are laws others (omega arith))
        (λ x y hx hy. items_means s x y ∙ ap₂ item hx hy))

    members_back : (s : Constness) (margin : ℕ) (later : Bool) (ms : ValueMembers) (d : ℕ) → ArePrintableMembers ms → HoldWellFormed ms → SuitMembers s ms
        → d + members_brackets ms ≤ 50
        → Back shared (Many (Sym (pair_symbol_of s))) later d (parts style margin later (members_layout style margin ms)) true d
        (λ x. pairs_by s x ≡ pairs_in ms)
    members_back s margin later no_members d is well_formed suits deep = to_word later (stop_back (no_pairs_means s))
    members_back s margin later (member n v ms) d (is, prints, are) (law, laws) suits deep =
        let (here, others) = suits_member s n v ms suits in
        before_back style margin later (more_back (pair_back s style margin n v d is (value_back s margin v d prints law here (omega arith)))
        (members_back s margin true ms d are laws others (omega arith))
        (λ x y hx hy. pairs_means s x y ∙ ap₂ (λ a b. a ∷ b) hx hy))
