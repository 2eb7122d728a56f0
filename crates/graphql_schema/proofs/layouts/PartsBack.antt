-- The layouts of types and of other parts of schema documents parse back to them, ignoring positions.
use Rattle.std.proofs.Common.{◌≡◌, ℕ, ◌+◌, ◌<◌, ◌≤◌, Bool, true, false, if◌then◌else◌, List, [], ◌∷◌, Option, Some, None, codes, map, refl, sym, ap, ap₂}
use Rattle.std.proofs.Common.{◌∙◌, subst, arith}
use Rattle.std.proofs.lemmas.List.{map-id}
use Rattle.graphql_core.specs.{name_part, Expr, Then, Many, Sym, ParseTree, Both, Node, optional, some_of, row, is_below, IsName, StyleOptions, Part, token}
use Rattle.graphql_core.specs.{DirectiveTree, no_place, erase_all, directives_layout, has_block_form, in_block_form, string_layout, in_braces, shared}
use Rattle.graphql_core.specs.{directives_symbol, shared_symbols, punctuator, string_of, block_string_of, spelling_at, directives_of, IsPrintableDirective}
use Rattle.graphql_core.specs.{directives_brackets, most_enclosed, most, AreWellFormedDirectives, optional_of, optional_list_of, each_of, enclosed_of, separated_of}
use Rattle.graphql_core.specs.{joined_of, quoted, name, punctuator_class}
use Rattle.graphql_core.proofs.{Takes, IsMark, four_back, five_back, six_back, lift_back, Any, means, margin_back, gap_back, then_gap, word_back}
use Rattle.graphql_core.proofs.{punctuator_back, nothing_back, both_back, first_back, second_back, node_back, stop_back, more_back, three_back, name_word}
use Rattle.graphql_core.proofs.{quoted_word, quoted_takes, quoted_means, block_word, block_means, spaces_blank, in_braces_back, in_parentheses_back, type_back}
use Rattle.graphql_core.proofs.{directives_back, optional_default_back, Back}
use Rattle.std.specs.List.{AllByRecursion, flat_map}
use Rattle.graphql_core.specs.declared.tokenizer.token.Kind.TheVariants.{Punctuator, StringValue, BlockString}
use Rattle.graphql_core.specs.declared.tokenizer.piece.Nesting.TheVariants.{Unchanged}
use Rattle.graphql_schema.specs.{InputValueTree, FieldTree, EnumValueTree, PartsTree, scalar, object, interface, union, enum, input, BodyTree}
use Rattle.graphql_schema.specs.{erase_input_value, erase_field, erase_enum_value, erase_parts, erase_body, joined_by, description_symbol, type_body_symbol}
use Rattle.graphql_schema.specs.{implements_symbol, fields_symbol, field_symbol, argument_definitions_symbol, input_value_symbol, members_symbol}
use Rattle.graphql_schema.specs.{enum_value_symbol, schema_grammar, description_of, input_value_of, field_of, enum_value_of, interfaces_of, members_of, body_of}
use Rattle.graphql_schema.specs.{description_layout, inline_layout, later_names, joined_names, interfaces_layout, members_layout, block_layout}
use Rattle.graphql_schema.specs.{input_value_layout, arguments_layout, input_field_layout, field_layout, enum_value_layout, body_layout, IsPrintableInputValue}
use Rattle.graphql_schema.specs.{IsPrintableField, IsPrintableEnumValue, ArePrintableParts, IsPrintableBody, input_value_brackets, field_brackets}
use Rattle.graphql_schema.specs.{enum_value_brackets, parts_brackets, body_brackets, IsWellFormedInputValue, IsWellFormedField, IsWellFormedEnumValue, AreWellFormedParts}
use Rattle.graphql_schema.specs.{IsWellFormedBody}
use Rattle.graphql_schema.proofs.readers.{shares, tested_alike, written_goes_on}

-- what parses back in the shared grammar also parses back in schemas
pub shared_back : {e : Expr} {p q : Bool} {d f : ℕ} {ps : List Part} {R : ParseTree → Type 0} → is_below shared_symbols e ≡ true → shares e ≡ true
    → Back shared e p d ps q f R → Back schema_grammar e p d ps q f R
shared_back {e} below shared b = lift_back written_goes_on below (tested_alike e shared) b

-- ---- names

-- any name
pub named_back : (n : List ℕ) (d : ℕ) → IsName n → Back schema_grammar name false d (name_part n) true d (λ x. spelling_at x ≡ n)
named_back n d is = word_back (name_word n is) (λ p. refl) (λ t e. e)

-- words separated by a punctuator, each of which parses back
module _ {A : Type 0} (s : List ℕ) (is : IsMark Unchanged s) (takes : Takes schema_grammar (punctuator_class s) Punctuator s)
    (one : Expr) (f : ParseTree → A) (none : A)
    (g : List ℕ → A) (P : List ℕ → Type 0) (each : (n : List ℕ) (d : ℕ) → P n → Back schema_grammar one false d (name_part n) true d (λ x. f x ≡ g n)) where
  later_names_back : (ns : List (List ℕ)) (d : ℕ) → AllByRecursion P ns
      → Back schema_grammar (Many (Then (punctuator s) one)) true d (later_names s ns) true d (λ x. each_of (separated_of f none) x ≡ map g ns)
  later_names_back [] d h = stop_back refl
  later_names_back (n ∷ ns) d (here, others) =
      gap_back refl (more_back {P = λ x. separated_of f none x ≡ g n} (both_back (punctuator_back s is takes) (gap_back refl (each n d here)) (λ m x hm hx. hx))
      (later_names_back ns d others) (λ x y hx hy. ap₂ (λ t ts. t ∷ ts) hx hy))

  pub joined_back : (n : List ℕ) (ns : List (List ℕ)) (d : ℕ) → P n → AllByRecursion P ns
      → Back schema_grammar (joined_by s one) false d (joined_names s (n ∷ ns)) true d (λ x. joined_of f none x ≡ map g (n ∷ ns))
  joined_back n ns d here others =
      three_back {P = Any} (second_back (nothing_back tt)) (each n d here) (later_names_back ns d others)
      (λ m x y hm hx hy. ap₂ (λ t ts. t ∷ ts) hx hy)

names_back : (s : List ℕ) → IsMark Unchanged s → Takes schema_grammar (punctuator_class s) Punctuator s → (n : List ℕ) (ns : List (List ℕ)) (d : ℕ) → IsName n
    → AllByRecursion IsName ns
    → Back schema_grammar (joined_by s name) false d (joined_names s (n ∷ ns)) true d (λ x. joined_of spelling_at [] x ≡ n ∷ ns)
names_back s is takes n ns d here others =
    means (λ x h. h ∙ map-id (n ∷ ns)) (joined_back s is takes name spelling_at [] (λ m. m) IsName named_back n ns d here others)

interfaces_back : (ns : List (List ℕ)) (d : ℕ) → AllByRecursion IsName ns
    → Back schema_grammar (optional (Sym implements_symbol)) true d (interfaces_layout ns) true d (λ x. optional_list_of interfaces_of x ≡ ns)
interfaces_back [] d is = second_back (nothing_back refl)
interfaces_back (n ∷ ns) d (is, are) =
    gap_back refl (first_back (node_back (λ x. refl) (both_back {P = Any}
    (word_back (name_word (codes "implements") (refl, refl)) (λ p. refl) (λ t e. tt))
    (gap_back refl (names_back (codes "&") (refl, refl) (λ p. refl) n ns d is are)) (λ x y hx hy. hy))))

members_back : (ns : List (List ℕ)) (d : ℕ) → AllByRecursion IsName ns
    → Back schema_grammar (optional (Sym members_symbol)) true d (members_layout ns) true d (λ x. optional_list_of members_of x ≡ ns)
members_back [] d is = second_back (nothing_back refl)
members_back (n ∷ ns) d (is, are) =
    gap_back refl (first_back (node_back (λ x. refl) (both_back (punctuator_back (codes "=") (refl, refl) (λ p. refl))
    (gap_back refl (names_back (codes "|") (refl, refl) (λ p. refl) n ns d is are)) (λ x y hx hy. hy))))

-- ---- lines in braces

pub braces_back : {e : Expr} {p : Bool} {d : ℕ} {lines : List Part} {P R : ParseTree → Type 0} (margin : ℕ) → d < 50
    → Back schema_grammar e false (d + 1) lines false (d + 1) P → ((x y z : ParseTree) → P y → R (Both x (Both y z)))
    → Back schema_grammar (Then (punctuator (codes "{")) (Then e (punctuator (codes "}")))) p d (in_braces margin lines) false d R
braces_back margin capacity inside all = in_braces_back margin (λ p. refl) (λ p. refl) capacity inside all

-- lines, each of which parses back
module _ {A : Type 0} {one : Expr} (f : ParseTree → A) (erase : A → A) (lines : A → List Part) (P Q : A → Type 0) (brackets : A → ℕ)
    (each : (a : A) (d : ℕ) → P a → Q a → d + brackets a ≤ 50 → Back schema_grammar one false d (lines a) false d (λ x. erase (f x) ≡ erase a)) where
  later_lines_back : (vs : List A) (d : ℕ) → AllByRecursion P vs → AllByRecursion Q vs → d + most brackets vs ≤ 50
      → Back schema_grammar (Many one) false d (flat_map lines vs) false d (λ x. map erase (each_of f x) ≡ map erase vs)
  later_lines_back [] d is law deep = stop_back refl
  later_lines_back (v ∷ vs) d (is, are) (law, laws) deep =
      more_back (each v d is law (omega arith)) (later_lines_back vs d are laws (omega arith)) (λ x y hx hy. ap₂ (λ t ts. t ∷ ts) hx hy)

  -- the lines of a symbol in braces, if there are any
  block_back : {k : ℕ} → (row schema_grammar k).rule ≡ Then (punctuator (codes "{")) (Then (some_of one) (punctuator (codes "}")))
      → ((x : ParseTree) → schema_grammar.check k x ≡ true)
      → (margin : ℕ) (vs : List A) (d : ℕ) → AllByRecursion P vs → AllByRecursion Q vs → d + most_enclosed brackets vs ≤ 50
      → Back schema_grammar (optional (Sym k)) true d (block_layout margin lines vs) false d
      (λ x. map erase (optional_list_of (enclosed_of f) x) ≡ map erase vs)
  block_back rule passes margin [] d is law deep = gap_back refl (second_back (nothing_back refl))
  block_back {k} rule passes margin (v ∷ vs) d (is, are) (law, laws) deep =
      gap_back refl (first_back (node_back passes (subst (λ (e : Expr). Back schema_grammar e false d (in_braces margin (flat_map lines (v ∷ vs))) false d
      (λ x. map erase (enclosed_of f (Node k x)) ≡ map erase (v ∷ vs))) (sym rule)
      (braces_back {P = λ x. map erase (each_of f x) ≡ map erase (v ∷ vs)} margin (omega arith)
      (both_back (each v (d + 1) is law (omega arith)) (later_lines_back vs (d + 1) are laws (omega arith))
      (λ x y hx hy. ap₂ (λ t ts. t ∷ ts) hx hy))
      (λ x y z hy. hy)))))

-- ---- parts with descriptions, values and directives

module _ (style : StyleOptions) where
  pub directives_in : (margin : ℕ) (ds : List DirectiveTree) (d : ℕ) → AllByRecursion IsPrintableDirective ds → AreWellFormedDirectives ds
      → d + directives_brackets ds ≤ 50
      → Back schema_grammar (Sym directives_symbol) true d (directives_layout style margin ds) true d (λ x. erase_all (directives_of x) ≡ erase_all ds)
  directives_in margin ds d is well_formed deep = shared_back refl refl (directives_back style margin ds d is well_formed deep)

  form_back : (margin : ℕ) (text : List ℕ) (d : ℕ) (b : Bool) → has_block_form text ≡ b
      → Back schema_grammar (Sym description_symbol) false d (if b then token BlockString (in_block_form (margin + style.indent) margin text)
      ∷ [] else token StringValue (quoted text) ∷ []) true d (λ x. description_of x ≡ text)
  form_back margin text d true h =
      node_back (λ x. refl) (second_back (word_back (block_word (margin + style.indent) margin text) (λ p. refl)
      (λ t e. ap block_string_of e ∙ block_means (margin + style.indent) margin text h)))
  form_back margin text d false h =
      node_back (λ x. refl) (first_back (word_back (quoted_word text) (quoted_takes text) (λ t e. ap string_of e ∙ quoted_means text)))

  text_back : (margin : ℕ) (text : List ℕ) (d : ℕ)
      → Back schema_grammar (optional (Sym description_symbol)) false d (string_layout style margin text) true d (λ x. optional_of description_of x ≡ Some text)
  text_back margin text d = first_back (means (λ x h. ap Some h) (form_back margin text d (has_block_form text) refl))

  -- a description, above what it describes or on the same line
  pub description_back : (margin : ℕ) (t : Option (List ℕ)) (d : ℕ)
      → Back schema_grammar (optional (Sym description_symbol)) false d (description_layout style margin t) false d (λ x. optional_of description_of x ≡ t)
  description_back margin None d = second_back (nothing_back refl)
  description_back margin (Some text) d = margin_back (spaces_blank margin) (then_gap 10 [] refl (text_back margin text d))

  inline_back : (margin : ℕ) (t : Option (List ℕ)) (d : ℕ)
      → Back schema_grammar (optional (Sym description_symbol)) false d (inline_layout style margin t) false d (λ x. optional_of description_of x ≡ t)
  inline_back margin None d = second_back (nothing_back refl)
  inline_back margin (Some text) d = then_gap 32 [] refl (text_back margin text d)

  -- ---- arguments, fields and values

  input_value_back : (margin : ℕ) (v : InputValueTree) (d : ℕ) → IsPrintableInputValue v → IsWellFormedInputValue v → d + input_value_brackets v ≤ 50
      → Back schema_grammar (Sym input_value_symbol) false d (input_value_layout style margin v) true d
      (λ x. erase_input_value (input_value_of x) ≡ erase_input_value v)
  input_value_back margin v d (is, type, default, dir) (defaultlaw, dirlaw) deep =
      node_back (λ x. refl) (six_back
      (inline_back margin v.description d) (named_back v.name d is) (punctuator_back (codes ":") (refl, refl) (λ p. refl))
      (gap_back refl (shared_back refl refl (type_back v.value_type d type (omega arith))))
      (shared_back refl refl (optional_default_back style margin v.default_value d default defaultlaw (omega arith)))
      (directives_in margin v.directives d dir dirlaw (omega arith))
      (λ x y z w k l hx hy hz hw hk hl. λ i.
      record { position = no_place; description = hx i; name = hy i; value_type = hw i; default_value = hk i; directives = hl i }))

  pub argument_definitions_back : (margin : ℕ) (vs : List InputValueTree) (d : ℕ) → AllByRecursion IsPrintableInputValue vs
      → AllByRecursion IsWellFormedInputValue vs → d + most_enclosed input_value_brackets vs ≤ 50
      → Back schema_grammar (optional (Sym argument_definitions_symbol)) true d (arguments_layout style margin vs) true d
      (λ x. map erase_input_value (optional_list_of (enclosed_of input_value_of) x) ≡ map erase_input_value vs)
  argument_definitions_back margin =
      in_parentheses_back input_value_of erase_input_value (input_value_layout style margin) IsPrintableInputValue IsWellFormedInputValue input_value_brackets
      refl (λ x. refl) (λ p. refl) (λ p. refl) (input_value_back margin)

  input_field_back : (margin : ℕ) (v : InputValueTree) (d : ℕ) → IsPrintableInputValue v → IsWellFormedInputValue v → d + input_value_brackets v ≤ 50
      → Back schema_grammar (Sym input_value_symbol) false d (input_field_layout style margin v) false d
      (λ x. erase_input_value (input_value_of x) ≡ erase_input_value v)
  input_field_back margin v d is law deep = margin_back (spaces_blank margin) (then_gap 10 [] refl (input_value_back margin v d is law deep))

  field_back : (margin : ℕ) (v : FieldTree) (d : ℕ) → IsPrintableField v → IsWellFormedField v → d + field_brackets v ≤ 50
      → Back schema_grammar (Sym field_symbol) false d (field_layout style margin v) false d (λ x. erase_field (field_of x) ≡ erase_field v)
  field_back margin v d (is, args, type, dir) (argslaw, dirlaw) deep =
      node_back (λ x. refl) (six_back
      (description_back margin v.description d) (margin_back (spaces_blank margin) (named_back v.name d is))
      (argument_definitions_back margin v.arguments d args argslaw (omega arith)) (punctuator_back (codes ":") (refl, refl) (λ p. refl))
      (gap_back refl (shared_back refl refl (type_back v.field_type d type (omega arith))))
      (then_gap 10 [] refl (directives_in margin v.directives d dir dirlaw (omega arith)))
      (λ x y z w k l hx hy hz hw hk hl. λ i.
      record { position = no_place; description = hx i; name = hy i; arguments = hz i; field_type = hk i; directives = hl i }))

  enum_value_back : (margin : ℕ) (v : EnumValueTree) (d : ℕ) → IsPrintableEnumValue v → IsWellFormedEnumValue v → d + enum_value_brackets v ≤ 50
      → Back schema_grammar (Sym enum_value_symbol) false d (enum_value_layout style margin v) false d
      (λ x. erase_enum_value (enum_value_of x) ≡ erase_enum_value v)
  enum_value_back margin v d (is, dir) dirlaw deep =
      margin_back (spaces_blank margin) (node_back (λ x. refl) (three_back
      (inline_back margin v.description d) (named_back v.name d is) (then_gap 10 [] refl (directives_in margin v.directives d dir dirlaw (omega arith)))
      (λ x y z hx hy hz. λ i. record { position = no_place; description = hx i; name = hy i; directives = hz i })))

  -- ---- types

  fields_back : (fs : List FieldTree) (d : ℕ) → AllByRecursion IsPrintableField fs → AllByRecursion IsWellFormedField fs → d + most_enclosed field_brackets fs ≤ 50
      → Back schema_grammar (optional (Sym fields_symbol)) true d (block_layout 0 (field_layout style style.indent) fs) false d
      (λ x. map erase_field (optional_list_of (enclosed_of field_of) x) ≡ map erase_field fs)
  fields_back =
      block_back field_of erase_field (field_layout style style.indent) IsPrintableField IsWellFormedField field_brackets (field_back style.indent)
      refl (λ x. refl) 0

  parts_back : (n : List ℕ) (ds : List DirectiveTree) (parts : PartsTree) (d : ℕ) → IsName n → AllByRecursion IsPrintableDirective ds
      → ArePrintableParts parts → AreWellFormedDirectives ds → AreWellFormedParts parts → d + directives_brackets ds ≤ 50 → d + parts_brackets parts ≤ 50
      → Back schema_grammar (Sym type_body_symbol) false d (body_layout style (record { position = no_place; name = n; directives = ds; parts = parts })) false
      d (λ x. erase_body (body_of x) ≡ record { position = no_place; name = n; directives = erase_all ds; parts = erase_parts parts })
  parts_back n ds scalar d is dir are dirlaw law deep inside =
      node_back (λ x. refl) (first_back (node_back (λ x. refl) (three_back {P = Any}
      (word_back (name_word (codes "scalar") (refl, refl)) (λ p. refl) (λ t e. tt)) (gap_back refl (named_back n d is))
      (then_gap 10 [] refl (directives_in 0 ds d dir dirlaw deep))
      (λ x y z hx hy hz. λ i. record { position = no_place; name = hy i; directives = hz i; parts = scalar }))))
  parts_back n ds (object ns fs) d is dir are dirlaw law deep inside =
      node_back (λ x. refl) (second_back (first_back (node_back (λ x. refl) (five_back {P = Any}
      (word_back (name_word (codes "type") (refl, refl)) (λ p. refl) (λ t e. tt)) (gap_back refl (named_back n d is))
      (interfaces_back ns d are.0) (directives_in 0 ds d dir dirlaw deep) (fields_back fs d are.1 law inside)
      (λ x y z w k hx hy hz hw hk. λ i. record { position = no_place; name = hy i; directives = hw i; parts = object (hz i) (hk i) })))))
  parts_back n ds (interface ns fs) d is dir are dirlaw law deep inside =
      node_back (λ x. refl) (second_back (second_back (first_back (node_back (λ x. refl) (five_back {P = Any}
      (word_back (name_word (codes "interface") (refl, refl)) (λ p. refl) (λ t e. tt)) (gap_back refl (named_back n d is))
      (interfaces_back ns d are.0) (directives_in 0 ds d dir dirlaw deep) (fields_back fs d are.1 law inside)
      (λ x y z w k hx hy hz hw hk. λ i. record { position = no_place; name = hy i; directives = hw i; parts = interface (hz i) (hk i) }))))))
  parts_back n ds (union ts) d is dir are dirlaw law deep inside =
      node_back (λ x. refl) (second_back (second_back (second_back (first_back (node_back (λ x. refl) (four_back {P = Any}
      (word_back (name_word (codes "union") (refl, refl)) (λ p. refl) (λ t e. tt)) (gap_back refl (named_back n d is))
      (directives_in 0 ds d dir dirlaw deep) (then_gap 10 [] refl (members_back ts d are))
      (λ x y z w hx hy hz hw. λ i. record { position = no_place; name = hy i; directives = hz i; parts = union (hw i) })))))))
  parts_back n ds (enum vs) d is dir are dirlaw law deep inside =
      node_back (λ x. refl) (second_back (second_back (second_back (second_back (first_back (node_back (λ x. refl) (four_back {P = Any}
      (word_back (name_word (codes "enum") (refl, refl)) (λ p. refl) (λ t e. tt)) (gap_back refl (named_back n d is))
      (directives_in 0 ds d dir dirlaw deep) (block_back enum_value_of erase_enum_value
      (enum_value_layout style style.indent) IsPrintableEnumValue IsWellFormedEnumValue enum_value_brackets (enum_value_back style.indent)
      refl (λ x. refl) 0 vs d are law inside)
      (λ x y z w hx hy hz hw. λ i. record { position = no_place; name = hy i; directives = hz i; parts = enum (hw i) }))))))))
  parts_back n ds (input fs) d is dir are dirlaw law deep inside =
      node_back (λ x. refl) (second_back (second_back (second_back (second_back (second_back (node_back (λ x. refl) (four_back {P = Any}
      (word_back (name_word (codes "input") (refl, refl)) (λ p. refl) (λ t e. tt)) (gap_back refl (named_back n d is))
      (directives_in 0 ds d dir dirlaw deep) (block_back input_value_of erase_input_value
      (input_field_layout style style.indent) IsPrintableInputValue IsWellFormedInputValue input_value_brackets (input_field_back style.indent)
      refl (λ x. refl) 0 fs d are law inside)
      (λ x y z w hx hy hz hw. λ i. record { position = no_place; name = hy i; directives = hz i; parts = input (hw i) }))))))))

  pub body_back : (b : BodyTree) (d : ℕ) → IsPrintableBody b → IsWellFormedBody b → d + body_brackets b ≤ 50
      → Back schema_grammar (Sym type_body_symbol) false d (body_layout style b) false d (λ x. erase_body (body_of x) ≡ erase_body b)
  body_back b d (is, dir, are) (dirlaw, law) deep = parts_back b.name b.directives b.parts d is dir are dirlaw law (omega arith) (omega arith)
