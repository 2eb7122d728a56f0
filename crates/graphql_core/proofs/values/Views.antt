-- The views of values and types as they are made, and of lists as they are read.
use Rattle.std.specs.BTreeMap.{BTreeMap}
use Rattle.std.proofs.Common.{◌≡◌, ℕ, ◌+◌, ◌<◌, ℤ, Bool, List, ◌∷◌, Box, Vec, String, string_bytes, length, get_or, drop, rules, ap, sym, ◌∙◌}
use Rattle.std.proofs.lemmas.List.{at_drop_more}
use Rattle.graphql_core.specs.{float, string, item, enum, object, int, named, list_of, non_null, variable, boolean, null, list, value_view, items_view}
use Rattle.graphql_core.specs.{members_view, arguments_view, type_view, directive_view, directives_view}
use Rattle.std.specs.Global.{Global}
use Rattle.graphql_core.specs.declared.common.tree.Value.{Value, the_lemmas}
use Rattle.graphql_core.specs.declared.common.tree.Type.{the_lemmas as type_lemmas}
use Rattle.graphql_core.specs.declared.common.tree.Directive.{Directive}
use Rattle.graphql_core.specs.declared.common.tree.Value.TheVariants as leaf
use Rattle.graphql_core.specs.declared.common.tree.Value.TheViews as made
use Rattle.graphql_core.specs.declared.common.tree.Type as declared
use Rattle.graphql_core.specs.declared.common.tree.Type.TheVariants as leaf_type
use Rattle.graphql_core.specs.declared.common.tree.Type.TheViews as made_type

module _ (N V : Type 0) (bytes : V → List ℕ) where
  pub variable_made : (v : V) → value_view {N = N} bytes (leaf.Variable v) ≡ variable (bytes v)
  variable_made v = search (rules, the_lemmas)

  pub int_made : (n : ℤ) → value_view {N = N} bytes (leaf.Int n) ≡ int n
  int_made n = search (rules, the_lemmas)

  pub float_made : (text : List ℕ) → value_view {N = N} bytes (leaf.Float text) ≡ float text
  float_made text = search (rules, the_lemmas)

  pub string_made : (s : String Global) → value_view {N = N} bytes (leaf.String s) ≡ string (string_bytes s)
  string_made s = search (rules, the_lemmas)

  pub boolean_made : (b : Bool) → value_view {N = N} bytes (leaf.Boolean b) ≡ boolean b
  boolean_made b = search (rules, the_lemmas)

  pub null_made : value_view {N = N} bytes leaf.Null ≡ null
  null_made = search (rules, the_lemmas)

  pub enum_made : (v : V) → value_view {N = N} bytes (leaf.Enum v) ≡ enum (bytes v)
  enum_made v = search (rules, the_lemmas)

  pub list_made : (vs : Vec (Value N V) Global) → value_view bytes (made.List vs) ≡ list (items_view bytes vs.items)
  list_made vs = search (rules, the_lemmas)

  pub object_made : (m : BTreeMap V (Value N V)) → value_view bytes (made.Object m) ≡ object (members_view bytes m.entries)
  object_made m = search (rules, the_lemmas)

  pub named_made : (v : V) → type_view {N = N} bytes (leaf_type.NamedType v) ≡ named (bytes v)
  named_made v = search (rules, type_lemmas)

  pub list_type_made : (t : Box (declared.Type N V) Global) → type_view bytes (made_type.ListType t) ≡ list_of (type_view bytes t.value)
  list_type_made t = search (rules, type_lemmas)

  pub non_null_made : (t : Box (declared.Type N V) Global) → type_view bytes (made_type.NonNullType t) ≡ non_null (type_view bytes t.value)
  non_null_made t = search (rules, type_lemmas)

  pub ruleset trees_made =
      (variable_made, int_made, float_made, string_made, boolean_made, null_made, enum_made, list_made, object_made, named_made, list_type_made, non_null_made)

  -- the item at i and those after it
  pub items_here : (vs : List (Value N V)) (i : ℕ) (v : Value N V) → i < length vs → v ≡ get_or vs i v
      → items_view bytes (drop i vs) ≡ item (value_view bytes v) (items_view bytes (drop (i + 1) vs))
  items_here vs i v h is = at_drop_more (items_view bytes) vs i v h ∙ ap (λ w. item (value_view bytes w) (items_view bytes (drop (i + 1) vs))) (sym is)

  -- the argument at i and those after it
  pub argument_here : (all : List (V × Value N V)) (i : ℕ) (a : V × Value N V) → i < length all → a ≡ get_or all i a
      → arguments_view bytes (drop i all) ≡ (bytes a.0, value_view bytes a.1) ∷ arguments_view bytes (drop (i + 1) all)
  argument_here all i a h is = at_drop_more (arguments_view bytes) all i a h
      ∙ ap (λ b. (bytes b.0, value_view bytes b.1) ∷ arguments_view bytes (drop (i + 1) all)) (sym is)

  -- the directive at i and those after it
  pub directive_here : (all : List (Directive N V)) (i : ℕ) (d : Directive N V) → i < length all → d ≡ get_or all i d
      → directives_view bytes (drop i all) ≡ directive_view bytes d ∷ directives_view bytes (drop (i + 1) all)
  directive_here all i d h is = at_drop_more (directives_view bytes) all i d h
      ∙ ap (λ e. directive_view bytes e ∷ directives_view bytes (drop (i + 1) all)) (sym is)
