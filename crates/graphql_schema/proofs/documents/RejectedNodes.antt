-- The error of a rejected node refers to tokens of that node.
use Rattle.std.specs.Option.{option_or}
use Rattle.std.proofs.Common.{◌≡◌, ℕ, Bool, true, false, not, ◌==◌, cond, List, [], ◌∷◌, ◌++◌, length, Option, Some, None}
use Rattle.std.proofs.Common.{is_some, ◌⊎◌, option_map, codes, inl, inr, refl, sym, ap, subst, ◌∙◌, append_assoc, append-nil, arith}
use Rattle.std.proofs.lemmas.Bool.{cases_Bool, both_ways, and_parts}
use Rattle.std.proofs.lemmas.Bool.Decides.{nat_tests}
use Rattle.graphql_core.proofs.{same_spelling-true}
use Rattle.graphql_core.specs.{Grammar, Token, Place, Class, Spelled, AnyOf, Except, Many, Sym, ParseTree, Node, row, accepts, matches, Fits, fits_nothing}
use Rattle.graphql_core.specs.{fits_leaf, fits_both, fits_first, fits_second, fits_stop, fits_more, fits_node, leaves, same_spelling, is_listed, some_of}
use Rattle.graphql_core.specs.{each_of, CauseText, empty_extension, FaultText, split, Item, TokenContent, item_at, Where, HasNoValue, Reason, Unexpected}
use Rattle.graphql_core.specs.{Improper, RejectedNode, kind_number, keyword}
use Rattle.graphql_core.specs.sources.Source.{fault_by}
use Rattle.graphql_core.specs.documents.Faults.{out_of_range, malformed, escaped_badly, Says, IsFaultAt, from_item}
use Rattle.graphql_core.specs.lexical.Items.{Content}
use Rattle.graphql_core.specs.declared.tokenizer.token.Kind.TheVariants.{Punctuator, Name}
use Rattle.graphql_schema.specs.{Root, root_at, roots_of, type_in, root_names, RootFault, unknown, duplicate, fault_after, root_fault, root_cause}
use Rattle.graphql_schema.specs.{schema_symbol, root_type_symbol, extension_symbol, schema_extension_symbol, type_body_symbol, schemas, scalar_symbol}
use Rattle.graphql_schema.specs.{object_symbol, interface_symbol, union_symbol, enum_symbol, input_symbol, scalar_of, object_of, interface_of, union_of}
use Rattle.graphql_schema.specs.{enum_of, input_of, schema_grammar, passes, schema_rule, schema_extension_rule, extension_rule, body_of, schema_extension_of}
use Rattle.graphql_schema.specs.{said_of, Lacks, IsNameSpelled, HasName, IsWrongSchema, IsEmptyExtension, RefersBy, RefersTo}
use Rattle.graphql_schema.proofs.readers.RootNames.{name_fault}
use Rattle.graphql_core.specs.lexical.Items as items_of

-- ---- tokens

kind_is : (c : Class) (t : Token) (g : Grammar) → accepts g c t ≡ true → matches c t ≡ true
kind_is c t g h = (and_parts (matches c t) (g.good c t) h).0

-- a leaf of a class with one spelling
spelled : (k : ℕ) (s : List ℕ) (t : Token) → accepts schema_grammar (Spelled k s) t ≡ true → (t.kind ≡ k) × (t.spelling ≡ s)
spelled k s t h =
    let (kind, spelling) = and_parts (k == t.kind) (same_spelling s t.spelling) (kind_is (Spelled k s) t schema_grammar h) in
    (grind (arith, nat_tests, kind), sym (same_spelling-true s t.spelling spelling))

is_keyword : (s : List ℕ) (t : Token) → accepts schema_grammar (keyword s) t ≡ true → IsNameSpelled s t
is_keyword s t h = spelled (kind_number Name) s t h

-- a leaf of the class of all tokens of a kind
of_kind : (k : ℕ) (t : Token) → accepts schema_grammar (AnyOf k) t ≡ true → t.kind ≡ k
of_kind k t h =
    let kind = (and_parts (k == t.kind) true (kind_is (AnyOf k) t schema_grammar h)).0 in
    grind (arith, nat_tests, kind)

-- ---- operations

abbrev name_of : RootFault → List ℕ
name_of (unknown n) = n
name_of (duplicate n) = n

-- a name among tokens is also among these and others
has_before : (n : List ℕ) (front ts : List Token) → HasName n ts → HasName n (front ++ ts)
has_before n front ts (before, after, t, is, named) =
    (front ++ before, after, t, ap (λ (l : List Token). front ++ l) is ∙ sym (append_assoc front before (t ∷ after)), named)

has_after : (n : List ℕ) (ts back : List Token) → HasName n ts → HasName n (ts ++ back)
has_after n ts back (before, after, t, is, named) =
    (before, after ++ back, t, ap (λ (l : List Token). l ++ back) is ∙ append_assoc before (t ∷ after) back, named)

-- the tokens have the name of each operation
abbrev Named : List Root → List Token → Type 0
Named rs ts = (w : List ℕ) → is_some (type_in rs w) ≡ true → HasName w ts

-- so do the tokens with those of one more operation
some_last : (b : Bool) (x : List ℕ) (o : Option (List ℕ)) → is_some (cond b (Some x) o) ≡ true → b ≡ false → is_some o ≡ true
some_last true x o h e = absurd cc
some_last false x o h e = h

in_both : (rs : List Root) (r : Root) (w : List ℕ) → is_some (type_in (rs ++ r ∷ []) w) ≡ true → same_spelling w r.name ≡ false
    → is_some (type_in rs w) ≡ true
in_both [] r w h other = some_last (same_spelling w r.name) r.type_name None h other
in_both (q ∷ rs) r w h other = by (same_spelling w q.name) (type_in (rs ++ r ∷ []) w) (type_in rs w) h (λ k. in_both rs r w k other)
  where
    by : (b : Bool) (o p : Option (List ℕ)) → is_some (cond b (Some q.type_name) o) ≡ true → (is_some o ≡ true → is_some p ≡ true)
        → is_some (cond b (Some q.type_name) p) ≡ true
    by true o p h k = refl
    by false o p h k = k h

named_more : (rs : List Root) (r : Root) (ts us : List Token) → Named rs ts → HasName r.name us → Named (rs ++ r ∷ []) (ts ++ us)
named_more rs r ts us before last w h = elim (cases_Bool (same_spelling w r.name)) [
  | inl same ↦ has_before w ts us (subst (λ (n : List ℕ). HasName n us) (sym (same_spelling-true w r.name same)) last)
  | inr other ↦ has_after w ts us (before w (in_both rs r w h other))
]

-- why an operation is wrong, after others that the tokens name
abbrev Why : RootFault → List Token → Type 0
Why (unknown n) ts = is_listed n root_names ≡ false
Why (duplicate n) ts = HasName n ts

name_fault_is : (known twice : Bool) (n : List ℕ) (f : RootFault) (ts : List Token) → is_listed n root_names ≡ known → (twice ≡ true → HasName n ts)
    → name_fault known twice n ≡ Some f → (name_of f ≡ n) × Why f ts
name_fault_is false twice n f ts is has h =
    let e : unknown n ≡ f = cc in
    subst (λ (g : RootFault). (name_of g ≡ n) × Why g ts) e (refl, is)
name_fault_is true true n f ts is has h =
    let e : duplicate n ≡ f = cc in
    subst (λ (g : RootFault). (name_of g ≡ n) × Why g ts) e (refl, has refl)
name_fault_is true false n f ts is has h = absurd cc

fault_here : (bs : List Root) (ts : List Token) (r : Root) (f : RootFault) → Named bs ts → fault_after bs r ≡ Some f
    → (name_of f ≡ r.name) × Why f ts
fault_here bs ts r f named h = name_fault_is (is_listed r.name root_names) (is_some (type_in bs r.name)) r.name f ts refl (named r.name) h

-- Where the first wrong operation is named in the tokens, after others.
abbrev Wrong : RootFault → List Token → List Token → Type 0
Wrong f front ts =
    (before after : List Token) × (t : Token) × (ts ≡ before ++ t ∷ after) × IsNameSpelled (name_of f) t × Why f (front ++ before)

or_some : {A : Type 0} (o p : Option A) (x : A) → option_or o p ≡ Some x → (o ≡ Some x) ⊎ (p ≡ Some x)
or_some None p x h = inr h
or_some (Some y) p x h = inl h

root_named : (x : ParseTree) → Fits schema_grammar (Sym root_type_symbol) x → HasName (root_at x).name (leaves x)
root_named _ (fits_node (fits_both (fits_leaf {t = n} a) (fits_both (fits_leaf {t = c} b) (fits_leaf {t = t} e))) k) =
    ([], c ∷ t ∷ [], n, refl, (of_kind (kind_number Name) n a, refl))

one_wrong : (x : ParseTree) (bs : List Root) (front : List Token) (f : RootFault) → Fits schema_grammar (Sym root_type_symbol) x → Named bs front
    → fault_after bs (root_at x) ≡ Some f → Wrong f front (leaves x)
one_wrong _ bs front f (fits_node (fits_both (fits_leaf {t = n} a) (fits_both (fits_leaf {t = c} b) (fits_leaf {t = t} e))) k) named h =
    let (name, why) = fault_here bs front (record { name = n.spelling; type_name = t.spelling }) f named h in
    ([], c ∷ t ∷ [], n, refl, (of_kind (kind_number Name) n a, sym name), subst (Why f) (sym (append-nil front)) why)

-- the first wrong operation of those that the tree has
abbrev FindsWrong : ParseTree → Type 0
FindsWrong x = (bs : List Root) (front : List Token) (f : RootFault) → Named bs front → root_fault bs (each_of root_at x) ≡ Some f
    → Wrong f front (leaves x)

turn_wrong : (x xs : ParseTree) → Fits schema_grammar (Sym root_type_symbol) x → FindsWrong xs → (bs : List Root) (front : List Token) (f : RootFault)
    → Named bs front → root_fault bs (root_at x ∷ each_of root_at xs) ≡ Some f → Wrong f front (leaves x ++ leaves xs)
turn_wrong x xs fits rest bs front f named h =
    elim (or_some (fault_after bs (root_at x)) (root_fault (bs ++ root_at x ∷ []) (each_of root_at xs)) f h) [
      | inl here ↦
          let (before, after, t, is, name, why) = one_wrong x bs front f fits named here in
          (before, after ++ leaves xs, t, ap (λ (l : List Token). l ++ leaves xs) is ∙ append_assoc before (t ∷ after) (leaves xs), name, why)
      | inr later ↦
          let (before, after, t, is, name, why) =
          rest (bs ++ root_at x ∷ []) (front ++ leaves x) f (named_more bs (root_at x) front (leaves x) named (root_named x fits)) later in (
            leaves x ++ before,
            after,
            t,
            ap (λ (l : List Token). leaves x ++ l) is ∙ sym (append_assoc (leaves x) before (t ∷ after)),
            name,
            subst (Why f) (append_assoc front (leaves x) before) why,
          )
    ]

many_wrong : {x : ParseTree} → Fits schema_grammar (Many (Sym root_type_symbol)) x → FindsWrong x
many_wrong fits_stop bs front f named h = absurd cc
many_wrong (fits_more {x = x} {y = y} one more) bs front f named h = turn_wrong x y one (many_wrong more) bs front f named h

some_wrong : {x : ParseTree} → Fits schema_grammar (some_of (Sym root_type_symbol)) x → FindsWrong x
some_wrong (fits_both {x = x} {y = y} one more) bs front f named h = turn_wrong x y one (many_wrong more) bs front f named h

-- ---- nodes

regrouped : (before ds pre post us : List Token) (w o op c : Token)
    → before ++ ((w ∷ (ds ++ (o ∷ ((pre ++ op ∷ post) ++ c ∷ [])))) ++ us) ≡ before ++ w ∷ (ds ++ o ∷ pre) ++ op ∷ post ++ c ∷ us
regrouped before ds pre post us w o op c = simp append_assoc refl

why_more : (f : RootFault) (front ts : List Token) → Why f ts → Why f (front ++ ts)
why_more (unknown n) front ts w = w
why_more (duplicate n) front ts w = has_before n front ts w

refers : (ts : List Token) (n : ℕ) (p : Place) (f : RootFault) (node : IsWrongSchema ts n p (name_of f)) → Why f node.between
    → RefersBy ts n p (root_cause f)
refers ts n p (unknown m) node w = (node, w)
refers ts n p (duplicate m) node w = (node, w)

-- a keyword, directives, and wrong operations in braces
module _ (before us ds : List Token) (w o c : Token) (roots : ParseTree) where
  abbrev node_tokens : List Token
  node_tokens = w ∷ (ds ++ (o ∷ (leaves roots ++ c ∷ [])))

  braces_wrong : (ts : List Token) (n : ℕ) (f : RootFault) → ts ≡ before ++ (node_tokens ++ us) → n ≡ length (before ++ node_tokens)
      → IsNameSpelled (codes "schema") w → (c.kind ≡ kind_number Punctuator) × (c.spelling ≡ codes "}") → FindsWrong roots
      → root_fault [] (each_of root_at roots) ≡ Some f → RefersBy ts n w.place (root_cause f)
  braces_wrong ts n f parts at schema brace finds h =
      refers ts n w.place f node (why_more f ds (o ∷ found.0) (why_more f (o ∷ []) found.0 found.5))
    where
      found : Wrong f [] (leaves roots)
      found = finds [] [] f (λ v none. absurd cc) h

      grouped : (more : List Token) → before ++ (node_tokens ++ more) ≡ before ++ w ∷ (ds ++ o ∷ found.0) ++ found.2 ∷ found.1 ++ c ∷ more
      grouped more =
          ap (λ (l : List Token). before ++ ((w ∷ (ds ++ (o ∷ (l ++ c ∷ [])))) ++ more)) found.3
          ∙ regrouped before ds found.0 found.1 more w o found.2 c

      node : IsWrongSchema ts n w.place (name_of f)
      node = record {
        before = before;
        between = ds ++ o ∷ found.0;
        more = found.1;
        after = us;
        schema = w;
        operation = found.2;
        brace = c;
        tokens = parts ∙ grouped us;
        is_schema = schema;
        position = refl;
        is_operation = found.4;
        is_brace = brace;
        index = at ∙ ap (λ (l : List Token). length (before ++ l)) (sym (append-nil node_tokens)) ∙ ap length (grouped []);
      }

-- an error of an operation is said at the keyword
said_wrong : (ts : List Token) (n : ℕ) (p : Place) (o : Option RootFault) (f : FaultText)
    → option_map (λ (r : RootFault). record { cause = root_cause r; place = p }) o ≡ Some f
    → ((r : RootFault) → o ≡ Some r → RefersBy ts n p (root_cause r)) → RefersTo ts n f
said_wrong ts n p None f h wrong = absurd cc
said_wrong ts n p (Some r) f h wrong =
    let e : record { cause = root_cause r; place = p } ≡ f = cc in
    subst (RefersTo ts n) e (wrong r refl)

-- ---- keywords

-- the tree begins with a name at this place
abbrev Starts : ParseTree → Place → Type 0
Starts x p = (w : Token) × (more : List Token) × (leaves x ≡ w ∷ more) × (w.kind ≡ kind_number Name) × (p ≡ w.place)

scalar_starts : (x : ParseTree) → Fits schema_grammar (Sym scalar_symbol) x → Starts x (scalar_of x).position
scalar_starts _ (fits_node (fits_both (fits_leaf {t = w} a) (fits_both m ds)) k) = (w, _, refl, (is_keyword (codes "scalar") w a).0, refl)

object_starts : (x : ParseTree) → Fits schema_grammar (Sym object_symbol) x → Starts x (object_of x).position
object_starts _ (fits_node (fits_both (fits_leaf {t = w} a) (fits_both m (fits_both is (fits_both ds fs)))) k) =
    (w, _, refl, (is_keyword (codes "type") w a).0, refl)

interface_starts : (x : ParseTree) → Fits schema_grammar (Sym interface_symbol) x → Starts x (interface_of x).position
interface_starts _ (fits_node (fits_both (fits_leaf {t = w} a) (fits_both m (fits_both is (fits_both ds fs)))) k) =
    (w, _, refl, (is_keyword (codes "interface") w a).0, refl)

union_starts : (x : ParseTree) → Fits schema_grammar (Sym union_symbol) x → Starts x (union_of x).position
union_starts _ (fits_node (fits_both (fits_leaf {t = w} a) (fits_both m (fits_both ds ms))) k) = (w, _, refl, (is_keyword (codes "union") w a).0, refl)

enum_starts : (x : ParseTree) → Fits schema_grammar (Sym enum_symbol) x → Starts x (enum_of x).position
enum_starts _ (fits_node (fits_both (fits_leaf {t = w} a) (fits_both m (fits_both ds vs))) k) = (w, _, refl, (is_keyword (codes "enum") w a).0, refl)

input_starts : (x : ParseTree) → Fits schema_grammar (Sym input_symbol) x → Starts x (input_of x).position
input_starts _ (fits_node (fits_both (fits_leaf {t = w} a) (fits_both m (fits_both ds fs))) k) = (w, _, refl, (is_keyword (codes "input") w a).0, refl)

schema_extension_starts : (x : ParseTree) → Fits schema_grammar (Sym schema_extension_symbol) x → Starts x (schema_extension_of x).position
schema_extension_starts _ (fits_node (fits_both (fits_leaf {t = w} a) (fits_both ds rs)) k) = (w, _, refl, (is_keyword (codes "schema") w a).0, refl)

body_starts : (x : ParseTree) → Fits schema_grammar (Sym type_body_symbol) x → Starts x (body_of x).position
body_starts _ (fits_node (fits_first {x = x} f) k) = scalar_starts x f
body_starts _ (fits_node (fits_second (fits_first {x = x} f)) k) = object_starts x f
body_starts _ (fits_node (fits_second (fits_second (fits_first {x = x} f))) k) = interface_starts x f
body_starts _ (fits_node (fits_second (fits_second (fits_second (fits_first {x = x} f)))) k) = union_starts x f
body_starts _ (fits_node (fits_second (fits_second (fits_second (fits_second (fits_first {x = x} f))))) k) = enum_starts x f
body_starts _ (fits_node (fits_second (fits_second (fits_second (fits_second (fits_second {y = x} f))))) k) = input_starts x f

-- ---- schemas, and extensions of them

-- a node between these tokens
module _ (before us ts : List Token) (n : ℕ) (f : FaultText) where
  abbrev Between : ParseTree → Type 0
  Between x = (ts ≡ before ++ (leaves x ++ us)) × (n ≡ length (before ++ leaves x))

  schema_refers : (x : ParseTree) → Fits schema_grammar schema_rule x → Between x → said_of (Node schema_symbol x) ≡ Some f → RefersTo ts n f
  schema_refers _ (fits_both (fits_leaf {t = w} a) (fits_both {x = ds} directives (fits_both (fits_leaf {t = o} b)
      (fits_both {x = roots} fits (fits_leaf {t = c} e))))) (parts, at) h =
      said_wrong ts n w.place (root_fault [] (roots_of roots)) f h
      (λ r is. braces_wrong before us (leaves ds) w o c roots ts n r parts at (is_keyword (codes "schema") w a)
      (spelled (kind_number Punctuator) (codes "}") c e) (many_wrong fits) is)

  schema_extension_refers : (x : ParseTree) → Fits schema_grammar schema_extension_rule x → Between x → said_of (Node schema_extension_symbol x) ≡ Some f
      → RefersTo ts n f
  schema_extension_refers _ (fits_both (fits_leaf {t = w} a) (fits_both {x = ds} directives
      (fits_first (fits_node (fits_both (fits_leaf {t = o} b) (fits_both {x = roots} fits (fits_leaf {t = c} e))) k)))) (parts, at) h =
      said_wrong ts n w.place (root_fault [] (each_of root_at roots)) f h
      (λ r is. braces_wrong before us (leaves ds) w o c roots ts n r parts at (is_keyword (codes "schema") w a)
      (spelled (kind_number Punctuator) (codes "}") c e) (some_wrong fits) is)
  schema_extension_refers _ (fits_both (fits_leaf {t = w} a) (fits_both {x = ds} directives (fits_second fits_nothing))) (parts, at) h = absurd cc

  -- ---- extensions that add nothing

  -- `extend`, and what begins with a keyword
  empty_refers : (e : Token) (x : ParseTree) (p : Place) → IsNameSpelled (codes "extend") e → Starts x p → ts ≡ before ++ ((e ∷ leaves x) ++ us)
      → n ≡ length (before ++ e ∷ leaves x) → IsEmptyExtension ts n p
  empty_refers e x p extend (w, more, is, named, at) parts index = record {
    before = before;
    more = more;
    after = us;
    extend = e;
    keyword = w;
    tokens = parts ∙ ap (λ (l : List Token). before ++ ((e ∷ l) ++ us)) is ∙ sym (append_assoc before (e ∷ w ∷ more) us);
    is_extend = extend;
    is_name = named;
    position = at;
    index = index ∙ ap (λ (l : List Token). length (before ++ e ∷ l)) is;
  }

  extension_refers : (x : ParseTree) → Fits schema_grammar extension_rule x → Between x → said_of (Node extension_symbol x) ≡ Some f → RefersTo ts n f
  extension_refers _ (fits_first (fits_both (fits_leaf {t = e} a) (fits_node {x = y} body k))) (parts, at) h =
      let is : record { cause = empty_extension; place = (body_of (Node type_body_symbol y)).position } ≡ f = cc in
      subst (RefersTo ts n) is (empty_refers e (Node type_body_symbol y) _ (is_keyword (codes "extend") e a) (body_starts _ (fits_node body k)) parts at)
  extension_refers _ (fits_second (fits_both (fits_leaf {t = e} a) (fits_node {x = y} body k))) (parts, at) h =
      let is : record { cause = empty_extension; place = (schema_extension_of (Node schema_extension_symbol y)).position } ≡ f = cc in
      subst (RefersTo ts n) is
      (empty_refers e (Node schema_extension_symbol y) _ (is_keyword (codes "extend") e a) (schema_extension_starts _ (fits_node body k)) parts at)

  -- only these nodes are rejected
  node_refers : (k : ℕ) (x : ParseTree) → Fits schema_grammar (row schema_grammar k).rule x → passes k x ≡ false → Between x → said_of (Node k x) ≡ Some f
      → RefersTo ts n f
  node_refers k x fits rejected between h = elim (cases_Bool (k == schema_symbol)) [
    | inl e ↦
        let is : k ≡ schema_symbol = grind (arith, nat_tests) in
        schema_refers x (subst (λ (j : ℕ). Fits schema_grammar (row schema_grammar j).rule x) is fits) between
        (subst (λ (j : ℕ). said_of (Node j x) ≡ Some f) is h)
    | inr e ↦ elim (cases_Bool (k == extension_symbol)) [
      | inl e' ↦
          let is : k ≡ extension_symbol = grind (arith, nat_tests) in
          extension_refers x (subst (λ (j : ℕ). Fits schema_grammar (row schema_grammar j).rule x) is fits) between
          (subst (λ (j : ℕ). said_of (Node j x) ≡ Some f) is h)
      | inr e' ↦ elim (cases_Bool (k == schema_extension_symbol)) [
        | inl e'' ↦
            let is : k ≡ schema_extension_symbol = grind (arith, nat_tests) in
            schema_extension_refers x (subst (λ (j : ℕ). Fits schema_grammar (row schema_grammar j).rule x) is fits) between
            (subst (λ (j : ℕ). said_of (Node j x) ≡ Some f) is h)
        | inr e'' ↦
            let passed : passes k x ≡ true = rw (e, e', e'') refl in
            absurd (both_ways (passes k x) rejected passed)
      ]
    ]
  ]

-- ---- no other error has these causes

valueless_refers : (ts : List Token) (n : ℕ) (p : Place) (t : Token) (k : CauseText) → HasNoValue t k → RefersBy ts n p k
valueless_refers ts n p t k (out_of_range e r) = tt
valueless_refers ts n p t k (malformed e r) = tt
valueless_refers ts n p t k (escaped_badly e r) = tt

leaf_refers : (ts : List Token) (n : ℕ) (p : Place) (c : Class) (t : Token) (k : CauseText) → Lacks c t k → RefersBy ts n p k
leaf_refers ts n p (Except j []) t k h = subst (RefersBy ts n p) (sym h.1) tt
leaf_refers ts n p (Except j (s ∷ ss)) t k h = valueless_refers ts n p t k h
leaf_refers ts n p (AnyOf j) t k h = valueless_refers ts n p t k h
leaf_refers ts n p (Spelled j s) t k h = valueless_refers ts n p t k h

-- the end of an input, or a lexical error
last_by : (ts : List Token) (n : ℕ) (c : Content) (w : Where) (is : List Item) → RefersTo ts n (fault_by [] (split is).last)
    → RefersTo ts n (fault_by [] (split (item_at c w ∷ is)).last)
last_by ts n (TokenContent k bytes) w is h = h
last_by ts n items_of.EndOfInput w is h = tt
last_by ts n (items_of.LexicalError b) w is h = tt

last_refers : (ts : List Token) (n : ℕ) (items : List Item) → RefersTo ts n (fault_by [] (split items).last)
last_refers ts n [] = tt
last_refers ts n (i ∷ is) = last_by ts n i.content i.place is (last_refers ts n is)

item_refers : (ts us : List Token) (n : ℕ) (items : List Item) → RefersTo ts n (fault_by us (split items).last)
item_refers ts [] n items = last_refers ts n items
item_refers ts (u ∷ us) n items = tt

says_refers : (why : Reason) (items : List Item) (f : FaultText) (n : ℕ) → Says schemas why (split items) n f → RefersTo (split items).tokens n f
says_refers Unexpected items f n said =
    subst (RefersTo (split items).tokens n) (sym said) (item_refers (split items).tokens (from_item n (split items).tokens) n items)
says_refers (Improper c) items f n (t, rest, is, lacks, at) = leaf_refers (split items).tokens n f.place c t f.cause lacks
says_refers (RejectedNode k) items f n (before, us, x, (parts, some, leads, fits, bad, stops), at, said) =
    node_refers before us (split items).tokens n f k x fits bad (parts, at) said

pub fault_refers : (items : List Item) (f : FaultText) (n : ℕ) → IsFaultAt schemas (split items) f n → RefersTo (split items).tokens n f
fault_refers items f n (why, fault, said) = says_refers why items f n said
