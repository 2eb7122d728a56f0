-- The texts of members, nodes and lists, part by part, and texts appended one after the other.
use Rattle.std.proofs.Common.{◌≡◌, ◌≤◌, ◌++◌, ◌∷◌, [], ◌∙◌, ℕ, List, Bool, true, false, Option, Some, None, Result, OnOk}
use Rattle.std.proofs.Common.{ap, sym, subst, refl, append_assoc, append-nil, codes, drop, length, map, option_map}
use Rattle.std.proofs.lemmas.List.{at_drop_all}
use Rattle.std.proofs.lemmas.Result.{on_ok_weaker}
use Rattle.std.proofs.lemmas.Simd.{map-map}
use Rattle.graphql_core.specs.{quoted}
use Rattle.graphql_json.specs.Json.{Json, Elements, element, json_text, elements_text, members_text, separator}
use Rattle.graphql_json.specs.steps.Pieces.{Appends}
use Rattle.graphql_json.specs.{Member, one, optional, each, node, label, later, opening}
use Rattle.graphql_json.specs.Json as json

-- ---- views

pub option_map-option_map : {A B C : Type 0} (f : B → C) (g : A → B) (o : Option A) → option_map f (option_map g o) ≡ option_map (λ x. f (g x)) o
option_map-option_map f g None = refl
option_map-option_map f g (Some x) = refl

-- ---- members and nodes

pub later-nil : later [] ≡ []
unfolding later members_text
later-nil = refl

regroup : (a b c d e f : List ℕ) → a ++ (b ++ (c ++ (d ++ (e ++ f)))) ≡ (a ++ (b ++ (c ++ (d ++ e)))) ++ f
regroup a b c d e f = simp append_assoc

pub later-append : (a b : List Member) → later (a ++ b) ≡ later a ++ later b
unfolding later members_text
later-append [] b = refl
later-append (m ∷ ms) b =
    ap (λ r. codes "," ++ (quoted m.0 ++ (codes ":" ++ (json_text m.1 ++ r)))) (later-append ms b)
    ∙ regroup (codes ",") (quoted m.0) (codes ":") (json_text m.1) (later ms) (later b)

pub later-one : (name : List ℕ) (v : Json) → later (one name v) ≡ label name ++ json_text v
unfolding later members_text one label
later-one name v = simp (append-nil, append_assoc)

pub text-node : (kind : List ℕ) (ms : List Member) → json_text (node kind ms) ≡ opening kind ++ (later ms ++ codes "}")
unfolding later json_text members_text one node opening
text-node kind ms = simp append_assoc

-- a node that has one member
pub text-node_one : (kind name : List ℕ) (v : Json) → ((opening kind ++ label name) ++ json_text v) ++ codes "}" ≡ json_text (node kind (one name v))
text-node_one kind name v = simp (text-node, later-one, append_assoc)

-- ---- strings and lists

pub text-array : (vs : Elements) → json_text (json.array vs) ≡ (codes "[" ++ elements_text false vs) ++ codes "]"
unfolding json_text
text-array vs = refl

pub no_elements_left : (is_later : Bool) → elements_text is_later json.no_elements ≡ []
unfolding elements_text
no_elements_left is_later = refl

-- ---- what is appended

infixl 40 ◌▹◌
-- one text appended, and then another
pub ◌▹◌ : {s a t b u : List ℕ} → Appends s a t → Appends t b u → Appends s (a ++ b) u
◌▹◌ {s} {a} {t} {b} {u} p q = record { grown = q.grown ∙ ap (λ r. r ++ b) p.grown ∙ append_assoc s a b }

-- the last text appended, by a call that can fail; all of them are `whole`
pub then_last : {E : Type 0} {s a t whole : List ℕ} (r : Result (Unit {0}) E) (b u : List ℕ) → Appends s a t
    → OnOk r (Appends t b u) → a ++ b ≡ whole → OnOk r (Appends s whole u)
then_last {E} {s} {a} {t} r b u p q e =
    on_ok_weaker r (λ (x : Appends t b u). subst (λ w. Appends s w u) e (p ▹ x)) q

-- something appended, and what is left to append
pub begun : (s t a left : List ℕ) → t ≡ s ++ a → t ++ left ≡ s ++ (a ++ left)
begun s t a left p = ap (λ r. r ++ left) p ∙ append_assoc s a left

-- one element of a list appended, after its separator
pub next_element : (is_later : Bool) (v : Json) (vs : Elements) (s m t whole : List ℕ) → m ≡ s ++ separator is_later → t ≡ m ++ json_text v
    → s ++ elements_text is_later (element v vs) ≡ whole → t ++ elements_text true vs ≡ whole
unfolding elements_text
next_element is_later v vs s m t whole p q e = begun m t (json_text v) (elements_text true vs) q
    ∙ begun s m (separator is_later) (json_text v ++ elements_text true vs) p
    ∙ e

-- nothing left to append
pub appended : (s t a left : List ℕ) → t ++ left ≡ s ++ a → left ≡ [] → Appends s a t
appended s t a left e none = record { grown = sym (append-nil t) ∙ ap (λ r. t ++ r) (sym none) ∙ e }

-- a list appended after another text, when no element is left
pub list_appended : {A : Type 0} (f : List A → Elements) (xs : List A) (i : ℕ) (is_later : Bool) (s t before : List ℕ)
    → length xs ≤ i → f [] ≡ json.no_elements
    → t ++ elements_text is_later (f (drop i xs)) ≡ s ++ (before ++ elements_text false (f xs)) → Appends s (before ++ elements_text false (f xs)) t
list_appended f xs i is_later s t before past none e = appended s t (before ++ elements_text false (f xs)) _ e
    (at_drop_all (λ ys. elements_text is_later (f ys)) xs i past ∙ ap (λ es. elements_text is_later es) none ∙ no_elements_left is_later)

-- ---- lists of nodes, by the models of the trees that they are written from

module _ {A B : Type 0} (f : B → Json) (g : A → B) (name : List ℕ) where
  pub as_viewed : (xs : List A) (s t : List ℕ) → Appends s (later (each name (map (λ x. f (g x)) xs))) t → Appends s (later (each name (map f (map g xs)))) t
  as_viewed xs s t p = record { grown = p.grown ∙ ap (λ vs. s ++ later (each name vs)) (sym (map-map f g xs)) }

  -- the same of a member that can be left out
  pub if_viewed : (o : Option A) (s t : List ℕ) → Appends s (later (optional name (option_map (λ x. f (g x)) o))) t
      → Appends s (later (optional name (option_map f (option_map g o)))) t
  if_viewed o s t p = record { grown = p.grown ∙ ap (λ v. s ++ later (optional name v)) (sym (option_map-option_map f g o)) }

  -- the same of a list after other members, at the end of a node
  pub last_viewed : {E : Type 0} (r : Result (Unit {0}) E) (ms : List Member) (xs : List A) (s t : List ℕ)
      → OnOk r (Appends s (later (ms ++ each name (map (λ x. f (g x)) xs)) ++ codes "}") t)
      → OnOk r (Appends s (later (ms ++ each name (map f (map g xs))) ++ codes "}") t)
  last_viewed r ms xs s t q = on_ok_weaker r
      (λ (p : Appends s (later (ms ++ each name (map (λ x. f (g x)) xs)) ++ codes "}") t). record {
        grown = p.grown ∙ ap (λ vs. s ++ (later (ms ++ each name vs) ++ codes "}")) (sym (map-map f g xs));
      }) q

-- ---- nodes, from their members in order

pub node_five : (k : List ℕ) (a b c d e : List Member)
    → (((((opening k ++ later a) ++ later b) ++ later c) ++ later d) ++ later e) ++ codes "}" ≡ json_text (node k (a ++ (b ++ (c ++ (d ++ e)))))
node_five k a b c d e = simp (text-node, later-append, append_assoc)

pub node_six : (k : List ℕ) (a b c d e f : List Member)
    → ((((((opening k ++ later a) ++ later b) ++ later c) ++ later d) ++ later e) ++ later f) ++ codes "}"
    ≡ json_text (node k (a ++ (b ++ (c ++ (d ++ (e ++ f))))))
node_six k a b c d e f = simp (text-node, later-append, append_assoc)

pub node_described : (k : List ℕ) (a b c d e f : List Member)
    → ((((opening k ++ later (a ++ (b ++ c))) ++ later d) ++ later e) ++ later f) ++ codes "}" ≡ json_text (node k (a ++ (b ++ (c ++ (d ++ (e ++ f))))))
node_described k a b c d e f = simp (text-node, later-append, append_assoc)

pub described_end : (k : List ℕ) (a b c d : List Member)
    → (opening k ++ later (a ++ (b ++ c))) ++ (later d ++ codes "}") ≡ json_text (node k (a ++ (b ++ (c ++ d))))
described_end k a b c d = simp (text-node, later-append, append_assoc)

pub placed_end : (k : List ℕ) (a b : List Member) → (opening k ++ later a) ++ (later b ++ codes "}") ≡ json_text (node k (a ++ b))
placed_end k a b = simp (text-node, later-append, append_assoc)

pub members_end : (a b : List Member) → later a ++ (later b ++ codes "}") ≡ later (a ++ b) ++ codes "}"
members_end a b = simp (later-append, append_assoc)
