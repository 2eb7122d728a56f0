use Rattle.std.proofs.Common.{◌∙◌, List, ℕ, Some, ap, refl, sym, codes}
use Rattle.std.proofs.lemmas.Result.{IfOk-weaker}
use Rattle.graphql_core.specs.{unknown_operation}
use Rattle.graphql_schema.proofs.{not_root, roots_kept, roots_unknown, filled_same}
use Rattle.graphql_schema.proofs.read.schema.add_root.Goals as goal

pub returns-then-is_some : goal.returns-then-is_some
returns-then-is_some g c = λ rs h. roots_kept g.N.Names.bytes _ rs _ (sym c.is_some.ensures ∙ c.if-is_some.true) h

pub returns-then-eq : goal.returns-then-eq
returns-then-eq g c = λ rs h.
    IfOk-weaker c.fill.result _ _
    (λ u fills.
    let ((fault, type), others) =
    filled_same g.N.Names.bytes c.args.operation.now (codes "query") c.args.roots.now c.fill.new.cause c.args.roots.now.query c.fill.new.slot
    c.args.type_name rs (sym c.eq.ensures ∙ c.if-eq.true) refl refl (sym c.is_some.ensures ∙ c.if-is_some.false) h
    h.query fills in
    record {
      cause = fault;
      query = λ n. type;
      mutation = λ n. others (codes "mutation") _ refl h.mutation;
      subscription = λ n. others (codes "subscription") _ refl h.subscription;
    })
    c.fill.ensures

pub returns-then-eq-2 : goal.returns-then-eq-2
returns-then-eq-2 g c = λ rs h.
    IfOk-weaker c.fill-then-eq-2.result _ _
    (λ u fills.
    let ((fault, type), others) =
    filled_same g.N.Names.bytes c.args.operation.now (codes "mutation") c.args.roots.now c.fill-then-eq-2.new.cause c.args.roots.now.mutation
    c.fill-then-eq-2.new.slot c.args.type_name rs (sym c.eq-2.ensures ∙ c.if-eq-2.true) refl refl (sym c.is_some.ensures ∙ c.if-is_some.false) h
    h.mutation fills in
    record {
      cause = fault;
      query = λ n. others (codes "query") _ refl h.query;
      mutation = λ n. type;
      subscription = λ n. others (codes "subscription") _ refl h.subscription;
    })
    c.fill-then-eq-2.ensures

pub returns-then-eq-3 : goal.returns-then-eq-3
returns-then-eq-3 g c = λ rs h.
    IfOk-weaker c.fill-then-eq-3.result _ _
    (λ u fills.
    let ((fault, type), others) =
    filled_same g.N.Names.bytes c.args.operation.now (codes "subscription") c.args.roots.now c.fill-then-eq-3.new.cause c.args.roots.now.subscription
    c.fill-then-eq-3.new.slot c.args.type_name rs (sym c.eq-3.ensures ∙ c.if-eq-3.true) refl refl (sym c.is_some.ensures ∙ c.if-is_some.false) h
    h.subscription fills in
    record {
      cause = fault;
      query = λ n. others (codes "query") _ refl h.query;
      mutation = λ n. others (codes "mutation") _ refl h.mutation;
      subscription = λ n. type;
    })
    c.fill-then-eq-3.ensures

pub returns : goal.returns
returns g c = λ rs h.
    let other =
    not_root c.args.operation.now (sym c.eq.ensures ∙ c.if-eq.false) (sym c.eq-2.ensures ∙ c.if-eq-2.false) (sym c.eq-3.ensures ∙ c.if-eq-3.false) in
    roots_unknown g.N.Names.bytes c.args.roots.now _ rs _ (sym c.is_some.ensures ∙ c.if-is_some.false) other h
    (ap (λ (n : List ℕ). Some (unknown_operation n)) c.in_ok-from_str.ensures.ok)
