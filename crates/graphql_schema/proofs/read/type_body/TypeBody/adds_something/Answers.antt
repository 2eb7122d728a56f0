use Rattle.std.proofs.Common.{◌≡◌, ◌==◌, ◌∙◌, ℕ, List, [], ◌∷◌, arith, ap, length, map, not, refl, sym}
use Rattle.std.proofs.lemmas.Bool.{ne_eqb}
use Rattle.graphql_core.specs.{has_any, directive_view}
use Rattle.graphql_schema.proofs.read.type_body.TypeBody.adds_something.Goals.{in-Scalar, in-Object+then-not-is_empty, in-Object+else-not-is_empty}
use Rattle.graphql_schema.proofs.read.type_body.TypeBody.adds_something.Goals.{in-Union, in-Enum, in-InputObject, in-Interface}
use Rattle.graphql_schema.proofs.read.type_body.TypeBody.adds_something.Goals as goal

-- the model of a list of n elements is empty only if n is 0
any_seen : {A B : Type 0} (f : A → B) (xs : List A) (n : ℕ) → n ≡ length xs → has_any (map f xs) ≡ not (n == 0)
any_seen f [] n e = rw e refl
any_seen f (x ∷ xs) n e = rw (ne_eqb n 0 (λ z. omega (arith, e, z))) refl

pub returns-else-not-is_empty-2 : goal.returns-else-not-is_empty-2
returns-else-not-is_empty-2 g c =
    let bytes = g.N.Names.bytes in
    let directives = c.args.self.now.directives in
    rw (any_seen (directive_view bytes) directives.items _ directives.ok.0 ∙ ap not (sym c.is_empty-2.ensures ∙ c.if-not-is_empty-2.false))
    (elim c.match-self.branch [
      | in-Scalar w ↦ rw w.in-Scalar.is w.has_parts-is
      | in-Object+then-not-is_empty w ↦
          let interfaces = w.in-Object.interfaces in
          let some = sym w.is_empty.ensures ∙ w.if-not-is_empty.true in
          rw (w.in-Object.is, any_seen bytes interfaces.items _ interfaces.ok.0 ∙ ap not some) (w.has_parts-is ∙ ap not w.if-not-is_empty.true)
      | in-Object+else-not-is_empty w ↦
          let interfaces = w.in-Object.interfaces in
          let none = sym w.is_empty.ensures ∙ w.if-not-is_empty.false in
          rw (w.in-Object.is, any_seen bytes interfaces.items _ interfaces.ok.0 ∙ ap not none)
          (w.has_parts-is ∙ ap not w.is_empty-else-not-is_empty.ensures ∙ sym (any_seen _ _ _ w.in-Object.fields.ok.0))
      | in-Interface w ↦ rw w.in-Interface.is (w.has_parts-is ∙ ap not w.is_empty-in-Interface.ensures ∙ sym (any_seen _ _ _ w.in-Interface.fields.ok.0))
      | in-Union w ↦ rw w.in-Union.is (w.has_parts-is ∙ ap not w.is_empty-in-Union.ensures ∙ sym (any_seen _ _ _ w.in-Union.types.ok.0))
      | in-Enum w ↦ rw w.in-Enum.is (w.has_parts-is ∙ ap not w.is_empty-in-Enum.ensures ∙ sym (any_seen _ _ _ w.in-Enum.values.ok.0))
      | in-InputObject w ↦
          rw w.in-InputObject.is (w.has_parts-is ∙ ap not w.is_empty-in-InputObject.ensures ∙ sym (any_seen _ _ _ w.in-InputObject.fields.ok.0))
    ])
