-- Types by their kinds: the rule of a kind and what it denotes, and the alternative of a kind in a type body.
use Rattle.std.proofs.Common.{◌≡◌, ℕ, true, false, List, [], ◌∷◌, Result, Ok, Err, Option, codes, refl, ◌∙◌}
use Rattle.graphql_core.specs.{all_apart, Token, Place, Expr, Empty, Then, Sym, ParseTree, Both, First, Second, Node, peek, written, sees, Takes, takes_nothing}
use Rattle.graphql_core.specs.{takes_both, takes_node, Reason, Fails, fails_before, fails_after, fails_node, TakesSome, keyword, word, directives_symbol}
use Rattle.graphql_core.specs.{tables as shared_tables, DirectiveTree, reason_of, optional_list_of, Gives, Items}
use Rattle.graphql_core.specs.declared.helpers.read_error.ReadError.{ReadError}
use Rattle.graphql_core.proofs.{sees-apart, sees-parts, IsSide, Leads, into, side_in, side_nth, halts}
use Rattle.graphql_schema.specs.{changes, tables, type_body_symbol, type_body_rule, body_by, no_body, body_of, interfaces_of, PartsTree, BodyTree, kind_word}
use Rattle.graphql_schema.specs.{has_interfaces, symbol_of, means, interfaces_rule, parts_rule, parts_of}
use Rattle.graphql_schema.specs.declared.read.keyword.TypeKind.{TypeKind}
use Rattle.graphql_schema.specs.declared.read.keyword.TypeKind.TheVariants.{Scalar, Object, Interface, Union, Enum, InputObject}
use Rattle.graphql_schema.proofs.readers.Lifted.{reading}
use Rattle.graphql_core.specs.values.Grammar as shared

-- ---- the rule of a kind

-- the rule with an empty part for each part that the kind cannot have
abbrev pub full_rule : TypeKind → Expr
full_rule k = Then (word (kind_word k)) (Then shared.name (Then (interfaces_rule (has_interfaces k)) (Then (Sym directives_symbol) (parts_rule k))))

abbrev pub full_means : TypeKind → ParseTree → BodyTree
full_means k (Both w (Both n (Both is (Both ds x)))) = body_by w n ds (parts_of k (optional_list_of interfaces_of is) x)
full_means k _ = no_body

taken : (k : TypeKind) {ts us : List Token} {x : ParseTree} → Takes reading (full_rule k) ts x us
    → (y : ParseTree) × Takes reading (Sym (symbol_of k)) ts y us × (full_means k (written changes x) ≡ means k (written changes y))
taken Scalar (takes_both w (takes_both n (takes_both takes_nothing (takes_both ds takes_nothing)))) =
    (_, takes_node (takes_both w (takes_both n ds)) refl, refl)
taken Object (takes_both w (takes_both n (takes_both is (takes_both ds x)))) =
    (_, takes_node (takes_both w (takes_both n (takes_both is (takes_both ds x)))) refl, refl)
taken Interface (takes_both w (takes_both n (takes_both is (takes_both ds x)))) =
    (_, takes_node (takes_both w (takes_both n (takes_both is (takes_both ds x)))) refl, refl)
taken Union (takes_both w (takes_both n (takes_both takes_nothing rest))) = (_, takes_node (takes_both w (takes_both n rest)) refl, refl)
taken Enum (takes_both w (takes_both n (takes_both takes_nothing rest))) = (_, takes_node (takes_both w (takes_both n rest)) refl, refl)
taken InputObject (takes_both w (takes_both n (takes_both takes_nothing rest))) = (_, takes_node (takes_both w (takes_both n rest)) refl, refl)

-- a failure after an empty part, and before one
fails_front : {b : Expr} (ts us : List Token) (why : Reason) → Fails reading (Then Empty b) ts why us → Fails reading b ts why us
fails_front ts us why (fails_before h) = elim h [ ]
fails_front ts us why (fails_after takes_nothing h) = h

fails_back : {a : Expr} (ts us : List Token) (why : Reason) → Fails reading (Then a Empty) ts why us → Fails reading a ts why us
fails_back ts us why (fails_before h) = h
fails_back ts us why (fails_after taken h) = elim h [ ]

after_two : {a b f h : Expr} {ts us : List Token} {why : Reason}
    → ((vs ws : List Token) (r : Reason) → Fails reading f vs r ws → Fails reading h vs r ws) → Fails reading (Then a (Then b f)) ts why us
    → Fails reading (Then a (Then b h)) ts why us
after_two t (fails_before h) = fails_before h
after_two t (fails_after w (fails_before h)) = fails_after w (fails_before h)
after_two t (fails_after w (fails_after n h)) = fails_after w (fails_after n (t _ _ _ h))

fails : (k : TypeKind) {ts us : List Token} {why : Reason} → Fails reading (full_rule k) ts why us → Fails reading (Sym (symbol_of k)) ts why us
fails Scalar h = fails_node (after_two (λ vs ws r f. fails_back vs ws r (fails_front vs ws r f)) h)
fails Object h = fails_node h
fails Interface h = fails_node h
fails Union h = fails_node (after_two fails_front h)
fails Enum h = fails_node (after_two fails_front h)
fails InputObject h = fails_node (after_two fails_front h)

pub kind_taken : (k : TypeKind) {old new : Items} {b : BodyTree} → TakesSome reading (full_rule k) old new (λ x. b ≡ full_means k (written changes x))
    → TakesSome reading (Sym (symbol_of k)) old new (λ x. b ≡ means k (written changes x))
kind_taken k (x, (takes, kept), is) = let (y, node, same) = taken k takes in (y, (node, kept), is ∙ same)

-- a reader of the full rule reads the kind
pub of_kind : {A : Type 0} (k : TypeKind) (old new : Items) (view : A → BodyTree) (r : Result A ReadError)
    → Gives reading (full_rule k) old new (λ v x. view v ≡ full_means k (written changes x)) r
    → Gives reading (Sym (symbol_of k)) old new (λ v x. view v ≡ means k (written changes x)) r
of_kind k old new view (Ok v) h = kind_taken k h
of_kind k old new view (Err d) h = halts new (reason_of d) refl (λ why. fails k) h

-- a body from its parts
abbrev of_parts : Place → List ℕ → List DirectiveTree → PartsTree → BodyTree
of_parts p n ds parts = record { position = p; name = n; directives = ds; parts = parts }

pub same_body : {p q : Place} {n m : List ℕ} {ds es : List DirectiveTree} {x y : PartsTree} → q ≡ p → m ≡ n → ds ≡ es → x ≡ y
    → of_parts p n ds x ≡ of_parts q m es y
same_body a b c d = rw (a, b, c, d) refl

-- ---- the alternative of a kind in a type body

abbrev pub place : TypeKind → ParseTree → ParseTree
place Scalar x = First x
place Object x = Second (First x)
place Interface x = Second (Second (First x))
place Union x = Second (Second (Second (First x)))
place Enum x = Second (Second (Second (Second (First x))))
place InputObject x = Second (Second (Second (Second (Second x))))

pub body_means : (k : TypeKind) (x : ParseTree) → means k (written changes x) ≡ body_of (written changes (Node type_body_symbol (place k x)))
body_means Scalar x = refl
body_means Object x = refl
body_means Interface x = refl
body_means Union x = refl
body_means Enum x = refl
body_means InputObject x = refl

chosen : (k : TypeKind) (ts : List Token) → sees (keyword (kind_word k) ∷ []) (peek ts) ≡ true → IsSide reading type_body_rule (Sym (symbol_of k)) (place k) ts
unfolding tables shared_tables
chosen Scalar ts s = side_nth (keyword (codes "scalar")) type_body_rule 0 refl s
chosen Object ts s = side_nth (keyword (codes "type")) type_body_rule 1 refl s
chosen Interface ts s = side_nth (keyword (codes "interface")) type_body_rule 2 refl s
chosen Union ts s = side_nth (keyword (codes "union")) type_body_rule 3 refl s
chosen Enum ts s = side_nth (keyword (codes "enum")) type_body_rule 4 refl s
chosen InputObject ts s = side_nth (keyword (codes "input")) type_body_rule 5 refl s

-- the keyword decides the kind
pub of_type : (k : TypeKind) {e : Expr} {inside : ParseTree → ParseTree} {old mid : Items} → Leads reading e (Sym type_body_symbol) inside old mid
    → sees (keyword (kind_word k) ∷ []) (peek mid.tokens) ≡ true → Leads reading e (Sym (symbol_of k)) (λ x. inside (Node type_body_symbol (place k x))) old mid
of_type k {mid = mid} lead seen = into lead (side_in type_body_symbol (λ x. refl) (chosen k mid.tokens seen))

-- the keyword of a type is none of the others
no_other : (k : TypeKind) → all_apart (keyword (codes "schema") ∷ keyword (codes "directive") ∷ []) (keyword (kind_word k) ∷ []) ≡ true
no_other Scalar = refl
no_other Object = refl
no_other Interface = refl
no_other Union = refl
no_other Enum = refl
no_other InputObject = refl

pub others_unseen : (k : TypeKind) (next : Option Token) → sees (keyword (kind_word k) ∷ []) next ≡ true
    → (sees (keyword (codes "schema") ∷ []) next ≡ false) × (sees (keyword (codes "directive") ∷ []) next ≡ false)
others_unseen k next seen =
    let others = sees-apart (keyword (codes "schema") ∷ keyword (codes "directive") ∷ []) (keyword (kind_word k) ∷ []) next (no_other k) seen in
    sees-parts (keyword (codes "schema") ∷ []) (keyword (codes "directive") ∷ []) next others
