-- What can begin a definition, and which kind of definition it begins.
use Rattle.std.proofs.Common.{◌≡◌, ◌||◌, ℕ, true, false, List, [], ◌∷◌, ◌++◌, Result, Err, Option, Some, None, IsErrAnd, codes, refl, ap, ◌∙◌}
use Rattle.graphql_core.proofs.{sees-apart, Stops-node, sees-within, FailsUnseen, gives_error_by, side_left, side_right, unseen, halts_led, Leads, here}
use Rattle.graphql_core.proofs.{side_nth, sees_both, begun, took, into, past, exit, rest_stops}
use Rattle.graphql_core.specs.{Token, Class, Expr, Then, Either, Sym, ParseTree, Leaf, First, Second, Node, Both, optional, row, peek, first, written, sees}
use Rattle.graphql_core.specs.{Takes, takes_both, takes_node, Unexpected, leads_node, StopsFor, TakesToken, any, keyword, tables as shared_tables, unquoted}
use Rattle.graphql_core.specs.{Rejections, halt_reason, SaysNode, Items, Reads, Consumes}
use Rattle.graphql_core.specs.declared.tokenizer.token.Kind.TheVariants.{StringValue, BlockString}
use Rattle.graphql_core.specs.declared.common.read.node_error.NodeError.{NodeError}
use Rattle.graphql_core.specs.declared.common.read.node_error.NodeError.TheVariants.{Stopped, RejectedNode}
use Rattle.graphql_schema.specs.{tables, changes, item_symbol, schema_symbol, extension_symbol, schema_extension_symbol, type_body_symbol}
use Rattle.graphql_schema.specs.{directive_definition_symbol, directive_definition_rule, description_symbol, directive_definition_of, DirectiveDefinitionTree}
use Rattle.graphql_schema.specs.{schemas, keywords, kind_word, sees_definition, sees_description, symbol_of}
use Rattle.graphql_schema.proofs.readers.Readable.{readable}
use Rattle.graphql_schema.specs.declared.read.keyword.TypeKind.{TypeKind}
use Rattle.graphql_schema.proofs.readers.Lifted.{reading}
use Rattle.graphql_schema.proofs.readers.Lists.{begins_description}
use Rattle.graphql_schema.proofs.readers.Types.{of_type, others_unseen, place}

-- ---- the next token

abbrev directive_keyword : Class
directive_keyword = keyword (codes "directive")

abbrev extend_keyword : Class
extend_keyword = keyword (codes "extend")

abbrev schema_keyword : Class
schema_keyword = keyword (codes "schema")

item_first : first reading.rows (Sym item_symbol) ≡ (any StringValue ∷ any BlockString ∷ []) ++ (keywords ++ extend_keyword ∷ [])
unfolding tables
item_first = refl

pub item_begins : (i : Items) → sees (first reading.rows (Sym item_symbol)) (peek i.tokens) ≡ sees_definition i
item_begins i =
    ap (λ cs. sees cs (peek i.tokens)) item_first ∙ sees_both (any StringValue ∷ any BlockString ∷ []) (keywords ++ extend_keyword ∷ []) (peek i.tokens)
    ∙ ap (λ b. b || sees (keywords ++ extend_keyword ∷ []) (peek i.tokens)) (begins_description i)
    ∙ ap (λ b. sees_description i || b) (sees_both keywords (extend_keyword ∷ []) (peek i.tokens))

-- ---- which kind of definition

-- what can follow a description, except a schema
abbrev types_and_directives : Expr
types_and_directives = Either (Sym type_body_symbol) (Sym directive_definition_symbol)

abbrev described : Expr
described = Either (Sym schema_symbol) types_and_directives

abbrev with_descriptions : Expr
with_descriptions = Then (optional (Sym description_symbol)) described

fails_type_body : (ts : List Token) → FailsUnseen reading (Sym type_body_symbol) ts
unfolding tables shared_tables unquoted
fails_type_body ts = unseen schemas readable (Sym type_body_symbol) refl refl refl ts

-- without a keyword, nothing begins that can follow a description
pub no_keyword : (i : Items) → sees keywords (peek i.tokens) ≡ false → StopsFor reading described i i (Some Unexpected)
unfolding tables shared_tables unquoted
no_keyword i none = (unseen schemas readable described refl refl refl i.tokens none, refl)

-- what can follow `extend`
abbrev extended : Expr
extended = Either (Sym type_body_symbol) (Sym schema_extension_symbol)

none_begins : (i : Items) → sees (first reading.rows extended) (peek i.tokens) ≡ false → StopsFor reading extended i i (Some Unexpected)
unfolding tables shared_tables unquoted
none_begins i none = (unseen schemas readable extended refl refl refl i.tokens none, refl)

pub none_extended : (i : Items) → sees keywords (peek i.tokens) ≡ false → StopsFor reading extended i i (Some Unexpected)
unfolding tables shared_tables unquoted
none_extended i none = none_begins i (sees-within (first reading.rows extended) keywords (peek i.tokens) refl none)

pub directive_extended : (i : Items) → sees (directive_keyword ∷ []) (peek i.tokens) ≡ true → StopsFor reading extended i i (Some Unexpected)
unfolding tables shared_tables unquoted
directive_extended i seen = none_begins i (sees-apart (first reading.rows extended) (directive_keyword ∷ []) (peek i.tokens) refl seen)

-- if nothing begins that can follow `extend`, the extension stops there
pub not_extended : {old mid : Items} {t : Token} → TakesToken extend_keyword old mid t → StopsFor reading extended mid mid (Some Unexpected)
    → StopsFor reading (row reading extension_symbol).rule old mid (Some Unexpected)
not_extended {old} {mid} {t} taken stops =
    let lead : Leads reading (row reading extension_symbol).rule extended (λ y. Both (Leaf t) y) old mid = past here (took taken refl) in
    rest_stops lead mid (Some Unexpected) stops

pub an_extension : (old : Items) → sees (extend_keyword ∷ []) (peek old.tokens) ≡ true
    → Leads reading (Sym item_symbol) (Sym extension_symbol) (λ x. Node item_symbol (Second x)) old old
unfolding tables shared_tables
an_extension old seen = into (begun item_symbol (λ x. refl)) (side_nth extend_keyword _ 1 refl seen)

pub no_extension : (old : Items) → sees (extend_keyword ∷ []) (peek old.tokens) ≡ false
    → Leads reading (Sym item_symbol) with_descriptions (λ x. Node item_symbol (First x)) old old
unfolding tables shared_tables unquoted
no_extension old other =
    let ts = old.tokens in
    into (begun item_symbol (λ x. refl))
    (side_left reading with_descriptions (Sym extension_symbol) ts refl refl (unseen schemas readable with_descriptions refl refl refl ts) other)

-- after an optional description
module _ {old mid : Items} {d : ParseTree} (other : sees (extend_keyword ∷ []) (peek old.tokens) ≡ false)
    (taken : Consumes reading (optional (Sym description_symbol)) old d mid) where
  -- no extension
  pub a_description : Leads reading (Sym item_symbol) described (λ y. Node item_symbol (First (Both d y))) old mid
  a_description = past (no_extension old other) taken

  pub a_schema : sees (schema_keyword ∷ []) (peek mid.tokens) ≡ true
      → Leads reading (Sym item_symbol) (Sym schema_symbol) (λ y. Node item_symbol (First (Both d (First y)))) old mid
  unfolding tables shared_tables
  a_schema seen = into a_description (side_nth schema_keyword _ 0 refl seen)

  no_schema : sees (schema_keyword ∷ []) (peek mid.tokens) ≡ false
      → Leads reading (Sym item_symbol) types_and_directives (λ y. Node item_symbol (First (Both d (Second y)))) old mid
  unfolding tables shared_tables unquoted
  no_schema none =
      let us = mid.tokens in
      into a_description
      (side_right reading (Sym schema_symbol) types_and_directives us refl refl (unseen schemas readable types_and_directives refl refl refl us) none)

  -- a directive definition
  pub a_directive : sees (directive_keyword ∷ []) (peek mid.tokens) ≡ true
      → Leads reading (Sym item_symbol) (Sym directive_definition_symbol) (λ y. Node item_symbol (First (Both d (Second (Second y))))) old mid
  unfolding tables shared_tables
  a_directive seen =
      into (no_schema (sees-apart (schema_keyword ∷ []) (directive_keyword ∷ []) (peek mid.tokens) refl seen)) (side_nth directive_keyword _ 1 refl seen)

  -- a type
  pub a_type : (k : TypeKind) → sees (keyword (kind_word k) ∷ []) (peek mid.tokens) ≡ true
      → Leads reading (Sym item_symbol) (Sym (symbol_of k))
      (λ y. Node item_symbol (First (Both d (Second (First (Node type_body_symbol (place k y))))))) old mid
  unfolding tables shared_tables
  a_type k seen =
      let us = mid.tokens in
      let (none, neither) = others_unseen k (peek us) seen in
      let side = side_left reading (Sym type_body_symbol) (Sym directive_definition_symbol) us refl refl (fails_type_body us) neither in
      of_type k (into (no_schema none) side) seen

-- ---- after `extend`

pub of_schema : {e : Expr} {inside : ParseTree → ParseTree} {old mid : Items}
    → Leads reading e extended inside old mid → sees (schema_keyword ∷ []) (peek mid.tokens) ≡ true
    → Leads reading e (Sym schema_extension_symbol) (λ y. inside (Second y)) old mid
unfolding tables shared_tables
of_schema lead seen = into lead (side_nth schema_keyword _ 1 refl seen)

pub of_body : (k : TypeKind) {e : Expr} {inside : ParseTree → ParseTree} {old mid : Items}
    → Leads reading e extended inside old mid → sees (keyword (kind_word k) ∷ []) (peek mid.tokens) ≡ true
    → Leads reading e (Sym (symbol_of k)) (λ y. inside (First (Node type_body_symbol (place k y)))) old mid
unfolding tables shared_tables
of_body k {mid = mid} lead seen =
    let us = mid.tokens in
    let (other, neither) = others_unseen k (peek us) seen in
    let side = side_left reading (Sym type_body_symbol) (Sym schema_extension_symbol) us refl refl (fails_type_body us) other in
    of_type k (into lead side) seen

-- a node inside a node is rejected, or reading stops in it
module _ {R : Type 0} (w : Rejections R) where
  node_says : (k : ℕ) (old new : Items) (d : NodeError R) → SaysNode schemas w (row reading k).rule old new d → SaysNode schemas w (Sym k) old new d
  node_says k old new (Stopped s) said = tt
  node_says k old new (RejectedNode n) (before, x, (p, ne, led, fits, bad, stops), said) = (before, x, (p, ne, leads_node led, fits, bad, stops), said)

  pub node_halts : {A B : Type 0} {f : Expr} {inside : ParseTree → ParseTree} (k : ℕ) (old mid new : Items) (P : A → ParseTree → Type 0)
      (Q : B → ParseTree → Type 0) (r : Result B (NodeError R)) (d : NodeError R)
      → Leads reading (row reading k).rule f inside old mid → Reads schemas w f mid new P (Err d)
      → IsErrAnd r (λ e. e ≡ d) → Reads schemas w (Sym k) old new Q r
  node_halts k old mid new P Q r d led h up =
      let rule = halts_led schemas w old mid new P (λ (v : Unit {0}) y. ⊥) (Err d) d led h refl in
      record {
        gives = gives_error_by (halt_reason w) reading (Sym k) old new _ r d (Stops-node reading k old new (halt_reason w d) rule.gives) up;
        says = exit r d _ up (node_says k old new d rule.says);
      }

-- a directive with a description
abbrev pub with_description : Option (List ℕ) → DirectiveDefinitionTree → DirectiveDefinitionTree
with_description o d = record {
  position = d.position;
  description = o;
  name = d.name;
  arguments = d.arguments;
  repeatable = d.repeatable;
  locations = d.locations;
}

inside_directive : {ts us : List Token} {x : ParseTree} (k : ℕ) (o : Option (List ℕ)) → Takes reading directive_definition_rule ts x us
    → with_description o (directive_definition_of None (Node k (written changes x))) ≡ directive_definition_of o (Node k (written changes x))
inside_directive k o (takes_both a (takes_both b (takes_both c (takes_both d (takes_both e (takes_both f g)))))) = refl

pub directive_means : {ts us : List Token} {x : ParseTree} (o : Option (List ℕ)) → Takes reading (Sym directive_definition_symbol) ts x us
    → with_description o (directive_definition_of None (written changes x)) ≡ directive_definition_of o (written changes x)
directive_means o (takes_node taken good) = inside_directive directive_definition_symbol o taken
