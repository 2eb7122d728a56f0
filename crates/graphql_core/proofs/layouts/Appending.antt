-- Outputs appended to a sink one after the other, and the output of parts.
use Rattle.std.proofs.Common.{◌≡◌, ◌++◌, ◌∙◌, ap, sym, refl, subst, ℕ, List, [], ◌∷◌, codes, Result, Ok, Err, OnOk, append_assoc, append-nil}
use Rattle.std.proofs.lemmas.Result.{on_ok_weaker}
use Rattle.graphql_core.specs.{part_text, punctuator_part, text_of, Part, TypeTree, list_of, non_null, type_layout}

-- the output of joined lists of parts is the outputs joined
pub text_append : (a b : List Part) → text_of (a ++ b) ≡ text_of a ++ text_of b
text_append [] b = refl
text_append (p ∷ ps) b = ap (λ r. part_text p ++ r) (text_append ps b) ∙ sym (append_assoc (part_text p) (text_of ps) (text_of b))

-- ---- types

pub list_text : (t : TypeTree) → (codes "[" ++ text_of (type_layout t)) ++ codes "]" ≡ text_of (type_layout (list_of t))
list_text t = ap (λ r. codes "[" ++ r) (sym (text_append (type_layout t) (punctuator_part (codes "]"))))

pub non_null_text : (t : TypeTree) → text_of (type_layout t) ++ codes "!" ≡ text_of (type_layout (non_null t))
non_null_text t = sym (text_append (type_layout t) (punctuator_part (codes "!")))

-- ---- sinks

-- what always holds also holds on success
pub on_ok : {A E P : Type 0} (r : Result A E) → P → OnOk r P
on_ok (Ok x) p = p
on_ok (Err e) p = tt

module _ {S : Type 0} (took : S → List ℕ → S → Type 0)
    (more : (s : S) (a : List ℕ) (t : S) (b : List ℕ) (u : S) → took s a t → took t b u → took s (a ++ b) u) where
  -- the same output, given by an equal list
  pub alike : (s t : S) (a b : List ℕ) → a ≡ b → took s a t → took s b t
  alike s t a b e p = subst (λ w. took s w t) e p

  -- one more output, the last
  pub and_last : {E : Type 0} (r : Result (Unit {0}) E) (s m t : S) (a b whole : List ℕ) → took s a m → OnOk r (took m b t) → a ++ b ≡ whole
      → OnOk r (took s whole t)
  and_last r s m t a b whole p q e = on_ok_weaker r (λ (x : took m b t). subst (λ w. took s w t) e (more s a m b t p x)) q

  -- one output alone
  pub and_alone : {E : Type 0} (r : Result (Unit {0}) E) (s t : S) (a whole : List ℕ) → OnOk r (took s a t) → a ≡ whole → OnOk r (took s whole t)
  and_alone r s t a whole q e = on_ok_weaker r (λ (x : took s a t). subst (λ w. took s w t) e x) q

  -- one more part of a list of parts
  pub and_part : (s m t : S) (done part left whole : List ℕ) → took s done m → took m part t → done ++ (part ++ left) ≡ whole → (now : List ℕ)
      × took s now t × (now ++ left ≡ whole)
  and_part s m t done part left whole p q e = (done ++ part, more s done m part t p q, append_assoc done part left ∙ e)

  -- if nothing is left to append
  pub all_done : (s t : S) (done left whole : List ℕ) → took s done t → done ++ left ≡ whole → left ≡ [] → took s whole t
  all_done s t done left whole p e f = subst (λ w. took s w t) (sym (append-nil done) ∙ ap (λ r. done ++ r) (sym f) ∙ e) p
