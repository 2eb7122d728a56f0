-- The layouts of schema documents parse back to them, ignoring positions.
use Rattle.std.proofs.Common.{◌≡◌, ℕ, ◌≤◌, Bool, true, false, not, ◌||◌, cond, List, [], ◌∷◌, ◌++◌, Option, Some, None, is_some, codes, map, refl, sym, ap}
use Rattle.std.proofs.Common.{ap₂, subst, ◌∙◌, arith, append-nil}
use Rattle.graphql_core.specs.{name_part, Many, Sym, ParseTree, Both, Node, optional, some_of, row, IsName, StyleOptions, Part, gap, word, directives_of}
use Rattle.graphql_core.specs.{most_enclosed, no_place, erase_all, AreWellFormedDirectives, directives_brackets, directives_layout, has_any, is_there, OutputsParseBack}
use Rattle.graphql_core.proofs.{same_parts, checked_back, seven_back, Any, means, margin_back, gap_back, then_gap, word_back, punctuator_back, nothing_back}
use Rattle.graphql_core.proofs.{both_back, first_back, second_back, node_back, stop_back, more_back, three_back, name_word, spaces_blank, both_of_each}
use Rattle.graphql_core.proofs.{some_back, document_back, Back}
use Rattle.std.specs.List.{AllByRecursion}
use Rattle.std.specs.Option.{IfSome}
use Rattle.graphql_schema.specs.{schema_by, schema_of, schema_extension_of, location_at, present, locations_of, directive_definition_of, extension_of, item_of}
use Rattle.graphql_schema.specs.{Root, root_at, roots_of, roots_in, type_in, RootFault, root_fault, root_fault_of, extension_fault_of, item_symbol, erase_body}
use Rattle.graphql_schema.specs.{schema_symbol, root_type_symbol, extension_symbol, directive_definition_symbol, locations_symbol, location_symbol}
use Rattle.graphql_schema.specs.{schema_extension_symbol, roots_symbol, schema_grammar, schemas, ParsesBackTo, IsWellFormedInputValue, IsWellFormedBody}
use Rattle.graphql_schema.specs.{IsWellFormedDefinition, IsWellFormedDocument, joined_names, root_layout, roots_layout, schema_layout, repeatable_layout}
use Rattle.graphql_schema.specs.{directive_definition_layout, definition_layout, layout, word_of, location_of, is_location, IsPrintable, IsPrintableSchema}
use Rattle.graphql_schema.specs.{IsPrintableBody, IsPrintableDefinition, IsWholeDefinition, IsPrintableInputValue, input_value_brackets, body_brackets}
use Rattle.graphql_schema.specs.{definition_brackets, InputValueTree, SchemaTree, BodyTree, DirectiveDefinitionTree, DefinitionTree, schema, type_definition}
use Rattle.graphql_schema.specs.{extension, schema_extension, directive, DocumentTree, adds_something, has_operation, adds_to_schema, extends, erase_schema}
use Rattle.graphql_schema.specs.{erase_directive, erase_definition}
use Rattle.graphql_schema.specs.declared.location.DirectiveLocation.{DirectiveLocation}
use Rattle.graphql_schema.proofs.readers.{extends_alike, location_named, location_name, readable}
use Rattle.graphql_schema.proofs.layouts.PartsBack.{named_back, joined_back, braces_back, directives_in, description_back, argument_definitions_back, body_back}
use Rattle.graphql_schema.proofs.layouts.NoPositions.{layout_alike}
use Rattle.graphql_core.proofs.documents.RoundTrip as round

-- ---- schemas

-- the operations that a schema names: one before others, if it has a type
abbrev root : List ℕ → Option (List ℕ) → List Root → List Root
root w None rs = rs
root w (Some n) rs = record { name = w; type_name = n } ∷ rs

abbrev roots : Option (List ℕ) → Option (List ℕ) → Option (List ℕ) → List Root
roots q m s = root (codes "query") q (root (codes "mutation") m (root (codes "subscription") s []))

-- each operation has its type, and no operation is wrong
abbrev HasTypes : (q m s : Option (List ℕ)) → List Root → Type 0
HasTypes q m s rs = (type_in rs (codes "query") ≡ q) × (type_in rs (codes "mutation") ≡ m) × (type_in rs (codes "subscription") ≡ s)
    × (root_fault [] rs ≡ None)

each_has_types : (q m s : Option (List ℕ)) → HasTypes q m s (roots q m s)
each_has_types None None None = (refl, refl, refl, refl)
each_has_types None None (Some s) = (refl, refl, refl, refl)
each_has_types None (Some m) None = (refl, refl, refl, refl)
each_has_types None (Some m) (Some s) = (refl, refl, refl, refl)
each_has_types (Some q) None None = (refl, refl, refl, refl)
each_has_types (Some q) None (Some s) = (refl, refl, refl, refl)
each_has_types (Some q) (Some m) None = (refl, refl, refl, refl)
each_has_types (Some q) (Some m) (Some s) = (refl, refl, refl, refl)

has_types : (q m s : Option (List ℕ)) {rs : List Root} → rs ≡ roots q m s → HasTypes q m s rs
has_types q m s is = subst (HasTypes q m s) (sym is) (each_has_types q m s)

-- a schema or an extension with these operations is accepted, and parses back
by_roots : (s : SchemaTree) (w x : ParseTree) {rs : List Root} → erase_all (directives_of x) ≡ erase_all s.directives
    → rs ≡ roots s.query s.mutation s.subscription → (root_fault [] rs ≡ None) × (erase_schema (schema_by w x rs) ≡ erase_schema s)
by_roots s w x same is =
    let has = has_types s.query s.mutation s.subscription is in
    (has.3, λ i. record { position = no_place; directives = same i; query = has.0 i; mutation = has.1 i; subscription = has.2 i })

-- the parse tree denotes this operation
abbrev IsRoot : List ℕ → List ℕ → ParseTree → Type 0
IsRoot w n x = root_at x ≡ record { name = w; type_name = n }

line_back : (margin : ℕ) (w n : List ℕ) (d : ℕ) → IsName w → IsName n
    → Back schema_grammar (Sym root_type_symbol) false d (root_layout margin w (Some n)) false d (IsRoot w n)
line_back margin w n d is named =
    margin_back (spaces_blank margin) (node_back {R = IsRoot w n} (λ x. refl) (three_back
    (named_back w d is)
    (punctuator_back (codes ":") (refl, refl) (λ p. refl))
    (gap_back refl (then_gap 10 [] refl (named_back n d named)))
    (λ a c t ha hc ht. λ i. record { name = ha i; type_name = ht i })))

-- the line of an operation, if there is one, before the lines of others
root_back : (margin : ℕ) (w : List ℕ) (n : Option (List ℕ)) (ps : List Part) (rs : List Root) (d : ℕ) → IsName w → IfSome n IsName
    → Back schema_grammar (Many (Sym root_type_symbol)) false d ps false d (λ x. roots_of x ≡ rs)
    → Back schema_grammar (Many (Sym root_type_symbol)) false d (root_layout margin w n ++ ps) false d (λ x. roots_of x ≡ root w n rs)
root_back margin w None ps rs d is named more = more
root_back margin w (Some n) ps rs d is named more = more_back (line_back margin w n d is named) more (λ x y hx hy. ap₂ (λ r qs. r ∷ qs) hx hy)

module _ (margin : ℕ) where
  -- the lines of the last operations, and of all
  last_back : (s : Option (List ℕ)) (d : ℕ) → IfSome s IsName
      → Back schema_grammar (Many (Sym root_type_symbol)) false d (root_layout margin (codes "subscription") s) false d
      (λ x. roots_of x ≡ roots None None s)
  last_back s d b =
      let last : List Part = root_layout margin (codes "subscription") s in
      same_parts (last ++ []) last (sym (append-nil last)) (root_back margin (codes "subscription") s [] [] d (refl, refl) b (stop_back refl))

  later_back : (m s : Option (List ℕ)) (d : ℕ) → IfSome m IsName → IfSome s IsName
      → Back schema_grammar (Many (Sym root_type_symbol)) false d (root_layout margin (codes "mutation") m
      ++ root_layout margin (codes "subscription") s) false d (λ x. roots_of x ≡ roots None m s)
  later_back m s d also b = root_back margin (codes "mutation") m _ _ d (refl, refl) also (last_back s d b)

  roots_back : (q m s : Option (List ℕ)) (d : ℕ) → IfSome q IsName → IfSome m IsName → IfSome s IsName
      → Back schema_grammar (Many (Sym root_type_symbol)) false d (root_layout margin (codes "query") q
      ++ (root_layout margin (codes "mutation") m ++ root_layout margin (codes "subscription") s)) false d (λ x. roots_of x ≡ roots q m s)
  roots_back q m s d is also b = root_back margin (codes "query") q _ _ d (refl, refl) is (later_back m s d also b)

-- the parts of an accepted node that denotes this schema
abbrev IsSchema : SchemaTree → ParseTree → Type 0
IsSchema s x = (root_fault_of x ≡ None) × (erase_schema (schema_of (Node schema_symbol x)) ≡ erase_schema s)

schema_back : (style : StyleOptions) (s : SchemaTree) → IsPrintableSchema s → AreWellFormedDirectives s.directives → directives_brackets s.directives ≤ 50
    → Back schema_grammar (Sym schema_symbol) false 0 (schema_layout style s) false 0 (λ x. erase_schema (schema_of x) ≡ erase_schema s)
schema_back style s (ds, q, m, b) law deep =
    checked_back {P = IsSchema s} (λ x p. ap (λ (f : Option RootFault). not (is_some f)) p.0) (λ x p. p.1)
    (three_back {P = Any} {R = λ z. (w x : ParseTree) → erase_all (directives_of x) ≡ erase_all s.directives → IsSchema s (Both w (Both x z))}
    (word_back (name_word (codes "schema") (refl, refl)) (λ p. refl) (λ t e. tt))
    (directives_in style 0 s.directives 0 ds law (omega arith))
    (gap_back refl (braces_back 0 (omega arith) (roots_back style.indent s.query s.mutation s.subscription 1 q m b) (λ o y c hy w x hx. by_roots s w x hx hy)))
    (λ w x z hw hx hz. hz w x hx))

-- ---- extensions of schemas

module _ (style : StyleOptions) where
  -- the line of an operation before the lines of others
  some_before : (w n : List ℕ) (ps : List Part) (rs : List Root) (d : ℕ) → IsName w → IsName n
      → Back schema_grammar (Many (Sym root_type_symbol)) false d ps false d (λ x. roots_of x ≡ rs)
      → Back schema_grammar (some_of (Sym root_type_symbol)) false d (root_layout style.indent w (Some n) ++ ps) false d
      (λ x. roots_of x ≡ root w (Some n) rs)
  some_before w n ps rs d is named more =
      both_back (line_back style.indent w n d is named) more (λ x y hx hy. ap₂ (λ r qs. r ∷ qs) hx hy)

  filled_back : (q m s : Option (List ℕ)) → Back schema_grammar (some_of (Sym root_type_symbol)) false 1 (root_layout style.indent (codes "query") q
      ++ (root_layout style.indent (codes "mutation") m ++ root_layout style.indent (codes "subscription") s)) false 1
      (λ x. roots_of x ≡ roots q m s)
      → Back schema_grammar (optional (Sym roots_symbol)) true 0 (roots_layout style q m s) false 0 (λ x. roots_in x ≡ roots q m s)
  filled_back q m s inside = gap_back refl (first_back (node_back (λ x. refl) (braces_back 0 (omega arith) inside (λ o x c h. h))))

  operations_back : (q m s : Option (List ℕ)) → IfSome q IsName → IfSome m IsName → IfSome s IsName
      → Back schema_grammar (optional (Sym roots_symbol)) true 0
      (cond (is_some q || (is_some m || is_some s)) (roots_layout style q m s) (gap (codes "\n"))) false 0 (λ x. roots_in x ≡ roots q m s)
  operations_back None None None is also b = gap_back refl (second_back (nothing_back refl))
  operations_back (Some q) m s is also b =
      filled_back (Some q) m s (some_before (codes "query") q _ _ 1 (refl, refl) is (later_back style.indent m s 1 also b))
  operations_back None (Some m) s is also b =
      filled_back None (Some m) s (some_before (codes "mutation") m _ _ 1 (refl, refl) also (last_back style.indent s 1 b))
  operations_back None None (Some s) is also b =
      let last : List Part = root_layout style.indent (codes "subscription") (Some s) in
      filled_back None None (Some s) (same_parts (last ++ []) last (sym (append-nil last))
      (some_before (codes "subscription") s [] [] 1 (refl, refl) b (stop_back refl)))

-- the parts of an accepted node that denotes this extension of the schema
abbrev IsSchemaExtension : SchemaTree → ParseTree → Type 0
IsSchemaExtension s x = (extension_fault_of x ≡ None) × (erase_schema (schema_extension_of (Node schema_extension_symbol x)) ≡ erase_schema s)

-- what follows `extend`
after_extend_back : (style : StyleOptions) (s : SchemaTree) → IsPrintableSchema s → AreWellFormedDirectives s.directives → directives_brackets s.directives ≤ 50
    → Back schema_grammar (Sym schema_extension_symbol) false 0 (name_part (codes "schema") ++ (directives_layout style 0 s.directives
    ++ cond (has_operation s) (roots_layout style s.query s.mutation s.subscription) (gap (codes "\n")))) false 0
    (λ x. erase_schema (schema_extension_of x) ≡ erase_schema s)
after_extend_back style s (ds, q, m, b) law deep =
    checked_back {P = IsSchemaExtension s} (λ x p. ap (λ (f : Option RootFault). not (is_some f)) p.0) (λ x p. p.1)
    (three_back {P = Any}
    (word_back (name_word (codes "schema") (refl, refl)) (λ p. refl) (λ t e. tt))
    (directives_in style 0 s.directives 0 ds law (omega arith))
    (operations_back style s.query s.mutation s.subscription q m b)
    (λ w x z hw hx hz. by_roots s w x hx hz))

-- ---- directives

-- a name that is a directive location
abbrev NamesLocation : List ℕ → Type 0
NamesLocation n = IsName n × (is_location n ≡ true)

all_name : (ls : List DirectiveLocation) → AllByRecursion NamesLocation (map word_of ls)
all_name [] = tt
all_name (l ∷ ls) = ((location_name l, rw (location_named l) refl), all_name ls)

all_present : (ls : List DirectiveLocation) → present (map location_of (map word_of ls)) ≡ ls
all_present [] = refl
all_present (l ∷ ls) = rw (location_named l) (ap (λ ms. l ∷ ms) (all_present ls))

location_back : (n : List ℕ) (d : ℕ) → NamesLocation n
    → Back schema_grammar (Sym location_symbol) false d (name_part n) true d (λ x. location_at x ≡ location_of n)
location_back n d (is, good) = node_back (λ x. refl) (word_back (name_word n is) (λ p. good) (λ t e. ap location_of e))

locations_back : (l : DirectiveLocation) (ls : List DirectiveLocation) (d : ℕ)
    → Back schema_grammar (Sym locations_symbol) false d (joined_names (codes "|") (map word_of (l ∷ ls))) true d (λ x. locations_of x ≡ l ∷ ls)
locations_back l ls d =
    let (first, others) = all_name (l ∷ ls) in
    node_back (λ x. refl) (means (λ x h. ap present h ∙ all_present (l ∷ ls)) (joined_back (codes "|") (refl, refl) (λ p. refl) (Sym location_symbol)
    location_at None location_of NamesLocation location_back (word_of l) (map word_of ls) d first others))

repeatable_back : (b : Bool) (d : ℕ)
    → Back schema_grammar (optional (word (codes "repeatable"))) true d (repeatable_layout b) true d (λ x. is_there x ≡ b)
repeatable_back false d = second_back (nothing_back refl)
repeatable_back true d = first_back (gap_back refl (word_back (name_word (codes "repeatable") (refl, refl)) (λ p. refl) (λ t e. refl)))

-- a directive with these parts, without position
abbrev directive_tree : Option (List ℕ) → List ℕ → List InputValueTree → Bool → List DirectiveLocation → DirectiveDefinitionTree
directive_tree s n vs b ls = record { position = no_place; description = s; name = n; arguments = vs; repeatable = b; locations = ls }

-- what follows the description of a directive
directive_back : (style : StyleOptions) (s : Option (List ℕ)) (n : List ℕ) (vs : List InputValueTree) (b : Bool) (ls : List DirectiveLocation) → IsName n
    → AllByRecursion IsPrintableInputValue vs → has_any ls ≡ true → AllByRecursion IsWellFormedInputValue vs → most_enclosed input_value_brackets vs ≤ 50
    → Back schema_grammar (Sym directive_definition_symbol) false 0 (directive_definition_layout style (directive_tree None n vs b ls)) false 0
    (λ x. (t : Option (List ℕ)) → t ≡ s → erase_directive (directive_definition_of t x) ≡ erase_directive (directive_tree s n vs b ls))
directive_back style s n vs b [] named are some law deep = absurd cc
directive_back style s n vs b (l ∷ ls) named are some law deep =
    node_back (λ x. refl) (seven_back {P = Any} {V = Any}
    (word_back (name_word (codes "directive") (refl, refl)) (λ p. refl) (λ t e. tt))
    (gap_back refl (punctuator_back (codes "@") (refl, refl) (λ p. refl)))
    (named_back n 0 named)
    (argument_definitions_back style 0 vs 0 are law (omega arith))
    (repeatable_back b 0)
    (gap_back refl (word_back (name_word (codes "on") (refl, refl)) (λ p. refl) (λ t e. tt)))
    (gap_back refl (then_gap 10 [] refl (locations_back l ls 0)))
    (λ w a x y r o z hw ha hx hy hr ho hz t ht. λ i. directive_tree (ht i) (hx i) (hy i) (hr i) (hz i)))

-- ---- extensions

-- an extension that adds something parses back
extended_back : (style : StyleOptions) (t : DefinitionTree) → extends t ≡ true
    → Back schema_grammar (row schema_grammar extension_symbol).rule false 0 (definition_layout style t) false 0
    (λ x. erase_definition (extension_of (Node extension_symbol x)) ≡ erase_definition t)
    → Back schema_grammar (Sym extension_symbol) false 0 (definition_layout style t) false 0 (λ x. erase_definition (extension_of x) ≡ erase_definition t)
extended_back style t some inside =
    checked_back {P = λ x. erase_definition (extension_of (Node extension_symbol x)) ≡ erase_definition t}
    (λ x p. sym (extends_alike (extension_of (Node extension_symbol x))) ∙ ap extends p ∙ extends_alike t ∙ some) (λ x p. p) inside

extension_back : (style : StyleOptions) (b : BodyTree) → IsPrintableBody b → adds_something b ≡ true → IsWellFormedBody b → body_brackets b ≤ 50
    → Back schema_grammar (Sym extension_symbol) false 0 (definition_layout style (extension b)) false 0
    (λ x. erase_definition (extension_of x) ≡ extension (erase_body b))
extension_back style b is some law deep =
    extended_back style (extension b) some (first_back
    (both_back {P = Any} (word_back (name_word (codes "extend") (refl, refl)) (λ p. refl) (λ t e. tt))
    (gap_back refl (body_back style b 0 is law (omega arith)))
    (λ w x hw hx. ap extension hx)))

schema_extension_back : (style : StyleOptions) (s : SchemaTree) → IsPrintableSchema s → adds_to_schema s ≡ true → AreWellFormedDirectives s.directives
    → directives_brackets s.directives ≤ 50
    → Back schema_grammar (Sym extension_symbol) false 0 (definition_layout style (schema_extension s)) false 0
    (λ x. erase_definition (extension_of x) ≡ schema_extension (erase_schema s))
schema_extension_back style s is some law deep =
    extended_back style (schema_extension s) some (second_back
    (both_back {P = Any} (word_back (name_word (codes "extend") (refl, refl)) (λ p. refl) (λ t e. tt))
    (gap_back refl (after_extend_back style s is law deep))
    (λ w x hw hx. ap schema_extension hx)))

-- ---- definitions

definition_back : (style : StyleOptions) (t : DefinitionTree) → IsPrintableDefinition t → IsWholeDefinition t → IsWellFormedDefinition t
    → definition_brackets t ≤ 50
    → Back schema_grammar (Sym item_symbol) false 0 (definition_layout style t) false 0 (λ x. erase_definition (item_of x) ≡ erase_definition t)
definition_back style (schema t s) is whole law deep =
    node_back (λ x. refl) (first_back
    (both_back (description_back style 0 t 0) (schema_back style s is law (omega arith)) (λ x y hx hy. ap₂ schema hx hy)))
definition_back style (type_definition t b) is whole law deep =
    node_back (λ x. refl) (second_back (second_back (node_back (λ x. refl) (first_back
    (both_back (description_back style 0 t 0) (body_back style b 0 is law (omega arith)) (λ x y hx hy. ap₂ type_definition hx hy))))))
definition_back style (extension b) is whole law deep =
    node_back (λ x. refl) (second_back (first_back (extension_back style b is whole law deep)))
definition_back style (schema_extension s) is whole law deep =
    node_back (λ x. refl) (second_back (first_back (schema_extension_back style s is whole law (omega arith))))
definition_back style (directive t) is whole law deep =
    node_back (λ x. refl) (second_back (second_back (node_back (λ x. refl) (second_back
    (both_back (description_back style 0 t.description 0) (directive_back style t.description t.name t.arguments t.repeatable
    t.locations is.0 is.1 whole law (omega arith)) (λ x y hx hy. ap directive (hy _ hx)))))))

-- ---- documents

-- the layout of a printable document parses back to it, ignoring positions
pub way_back : (style : StyleOptions) (ts : DocumentTree) → IsPrintable ts → IsWellFormedDocument ts → ParsesBackTo (layout style ts) ts
way_back style [] is law = absurd cc
way_back style (t ∷ ts) is law =
    document_back schemas (t ∷ ts) (node_back (λ x. refl) (some_back 0 item_of erase_definition (definition_layout style) IsPrintableDefinition
    (λ u. IsWholeDefinition u × IsWellFormedDefinition u) definition_brackets (λ u p h b. definition_back style u p h.0 h.1 (omega (arith, b))) 10 [] refl t ts
    is.names (both_of_each IsWholeDefinition IsWellFormedDefinition (t ∷ ts) is.definitions law) (omega (arith, is.depth))))

pub parse_back : OutputsParseBack schemas layout (λ d. IsPrintable d × IsWellFormedDocument d)
parse_back = round.parse_back schemas readable layout layout_alike (λ d. IsPrintable d × IsWellFormedDocument d) (λ style d is. way_back style d is.0 is.1)
