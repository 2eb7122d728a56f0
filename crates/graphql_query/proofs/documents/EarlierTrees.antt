-- Every document of version 0.4.1 is the same document in this version, without the parts added since.
use Rattle.std.proofs.Common.{◌≡◌, List, [], ◌∷◌, ◌++◌, Option, Some, None, replicate, refl, ap, ap₂}
use Rattle.graphql_core.specs.{Same, InParts, After, Many, Sym, ParseTree, Leaf, Both, Node, Stop, optional, Fits, fits_leaf, fits_nothing, fits_both}
use Rattle.graphql_core.specs.{fits_first, fits_second, fits_stop, fits_more, fits_node, Growth, grown, directives_symbol, shared_symbols, optional_of}
use Rattle.graphql_core.specs.{optional_list_of, enclosed_of, each_of, spelling_at, name}
use Rattle.std.specs.List.{AllByRecursion}
use Rattle.graphql_core.proofs.{IsGrown}
use Rattle.graphql_query.specs.{OperationKind, query_kind, mutation_kind, subscription_kind, operation, document_symbol, definition_symbol, operation_symbol}
use Rattle.graphql_query.specs.{operation_body_symbol, variable_definitions_symbol, variable_definition_symbol, variable_definition_of, keyword_operation_of}
use Rattle.graphql_query.specs.{operation_of, definition_of, document_of, queries, query_0_4_1, queries_0_4_1, HasNoDirectives, HasNoNewPart, HasNoNewParts}

-- a variable gets an empty list of directives after its default value; no other production gets a new part
abbrev pub new_parts : List (Option Growth)
new_parts =
    replicate shared_symbols None ++ Some Same ∷ Some Same ∷ Some Same ∷ Some Same ∷ Some Same
    ∷ Some (InParts Same (InParts Same (InParts Same (InParts Same (After Same (Node directives_symbol Stop)))))) ∷ []

-- ---- the same document

variable_definition_grown : {x : ParseTree} → Fits query_0_4_1 (Sym variable_definition_symbol) x
    → variable_definition_of (grown new_parts x) ≡ variable_definition_of x
variable_definition_grown (fits_node (fits_both (fits_leaf d) (fits_both (fits_leaf n) (fits_both (fits_leaf m)
    (fits_both (fits_node t e) (fits_first (fits_node v w)))))) c) = refl
variable_definition_grown (fits_node (fits_both (fits_leaf d) (fits_both (fits_leaf n) (fits_both (fits_leaf m)
    (fits_both (fits_node t e) (fits_second fits_nothing))))) c) = refl

each_variable_definition_grown : {x : ParseTree} → Fits query_0_4_1 (Many (Sym variable_definition_symbol)) x
    → each_of variable_definition_of (grown new_parts x) ≡ each_of variable_definition_of x
each_variable_definition_grown fits_stop = refl
each_variable_definition_grown (fits_more f fs) = ap₂ (λ v vs. v ∷ vs) (variable_definition_grown f) (each_variable_definition_grown fs)

variable_definitions_grown : {x : ParseTree} → Fits query_0_4_1 (optional (Sym variable_definitions_symbol)) x
    → optional_list_of (enclosed_of variable_definition_of) (grown new_parts x) ≡ optional_list_of (enclosed_of variable_definition_of) x
variable_definitions_grown (fits_first (fits_node (fits_both (fits_leaf o) (fits_both (fits_both f fs) (fits_leaf e))) c)) =
    ap₂ (λ v vs. v ∷ vs) (variable_definition_grown f) (each_variable_definition_grown fs)
variable_definitions_grown (fits_second fits_nothing) = refl

name_grown : {x : ParseTree} → Fits query_0_4_1 (optional name) x → optional_of spelling_at (grown new_parts x) ≡ optional_of spelling_at x
name_grown (fits_first (fits_leaf n)) = refl
name_grown (fits_second fits_nothing) = refl

keyword_grown : {x : ParseTree} (kind : OperationKind) (w : ParseTree) → Fits query_0_4_1 (Sym operation_body_symbol) x
    → keyword_operation_of kind (Both w (grown new_parts x)) ≡ keyword_operation_of kind (Both w x)
keyword_grown kind w (fits_node (fits_both n (fits_both vs (fits_both {x = ds} (fits_node d e) (fits_node {x = s} f g)))) c) =
    rw (name_grown n, variable_definitions_grown vs) refl

operation_grown : {x : ParseTree} → Fits query_0_4_1 (Sym operation_symbol) x → operation_of (grown new_parts x) ≡ operation_of x
operation_grown (fits_node (fits_first (fits_node s e)) c) = refl
operation_grown (fits_node (fits_second (fits_first (fits_both (fits_leaf {t = w} k) f))) c) = ap operation (keyword_grown query_kind (Leaf w) f)
operation_grown (fits_node (fits_second (fits_second (fits_first (fits_both (fits_leaf {t = w} k) f)))) c) =
    ap operation (keyword_grown mutation_kind (Leaf w) f)
operation_grown (fits_node (fits_second (fits_second (fits_second (fits_both (fits_leaf {t = w} k) f)))) c) =
    ap operation (keyword_grown subscription_kind (Leaf w) f)

pub definition_grown : {x : ParseTree} → Fits query_0_4_1 (Sym definition_symbol) x → definition_of (grown new_parts x) ≡ definition_of x
definition_grown (fits_node (fits_first f) c) = operation_grown f
definition_grown (fits_node (fits_second (fits_node f e)) c) = refl

definitions_grown : {x : ParseTree} → Fits query_0_4_1 (Many (Sym definition_symbol)) x → each_of definition_of (grown new_parts x) ≡ each_of definition_of x
definitions_grown fits_stop = refl
definitions_grown (fits_more f fs) = ap₂ (λ d ds. d ∷ ds) (definition_grown f) (definitions_grown fs)

document_grown : {x : ParseTree} → Fits query_0_4_1 (Sym document_symbol) x → document_of (grown new_parts x) ≡ document_of x
document_grown (fits_node (fits_both f fs) c) = ap₂ (λ d ds. d ∷ ds) (definition_grown f) (definitions_grown fs)

pub queries_grow : IsGrown new_parts queries_0_4_1 queries
queries_grow = record {
  grows = record { rules = refl; good = λ c t h. h; check = λ k x f h. refl };
  document = refl;
  below = refl;
  means = λ x f. document_grown f;
}

-- ---- no new part

no_directives : {x : ParseTree} → Fits query_0_4_1 (Sym variable_definition_symbol) x → HasNoDirectives (variable_definition_of x)
no_directives (fits_node (fits_both d (fits_both n (fits_both m (fits_both t (fits_first v))))) c) = refl
no_directives (fits_node (fits_both d (fits_both n (fits_both m (fits_both t (fits_second v))))) c) = refl

none_has_directives : {x : ParseTree} → Fits query_0_4_1 (Many (Sym variable_definition_symbol)) x
    → AllByRecursion HasNoDirectives (each_of variable_definition_of x)
none_has_directives fits_stop = tt
none_has_directives (fits_more f fs) = (no_directives f, none_has_directives fs)

no_variable_has_directives : {x : ParseTree} → Fits query_0_4_1 (optional (Sym variable_definitions_symbol)) x
    → AllByRecursion HasNoDirectives (optional_list_of (enclosed_of variable_definition_of) x)
no_variable_has_directives (fits_first (fits_node (fits_both o (fits_both (fits_both f fs) e)) c)) = (no_directives f, none_has_directives fs)
no_variable_has_directives (fits_second z) = tt

operation_has_none : {x : ParseTree} → Fits query_0_4_1 (Sym operation_symbol) x → HasNoNewPart (operation_of x)
operation_has_none (fits_node (fits_first s) c) = tt
operation_has_none (fits_node (fits_second (fits_first (fits_both k (fits_node (fits_both n (fits_both vs (fits_both ds s))) e)))) c) =
    no_variable_has_directives vs
operation_has_none (fits_node (fits_second (fits_second (fits_first (fits_both k (fits_node (fits_both n (fits_both vs (fits_both ds s))) e))))) c) =
    no_variable_has_directives vs
operation_has_none (fits_node (fits_second (fits_second (fits_second (fits_both k (fits_node (fits_both n (fits_both vs (fits_both ds s))) e))))) c) =
    no_variable_has_directives vs

pub definition_has_none : {x : ParseTree} → Fits query_0_4_1 (Sym definition_symbol) x → HasNoNewPart (definition_of x)
definition_has_none (fits_node (fits_first f) c) = operation_has_none f
definition_has_none (fits_node (fits_second f) c) = tt

definitions_have_none : {x : ParseTree} → Fits query_0_4_1 (Many (Sym definition_symbol)) x → HasNoNewParts (each_of definition_of x)
definitions_have_none fits_stop = tt
definitions_have_none (fits_more f fs) = (definition_has_none f, definitions_have_none fs)

pub document_has_none : {x : ParseTree} → Fits query_0_4_1 (Sym document_symbol) x → HasNoNewParts (document_of x)
document_has_none (fits_node (fits_both f fs) c) = (definition_has_none f, definitions_have_none fs)
