use Rattle.std.proofs.Common.{◌∙◌, [], ◌∷◌, ◌++◌, subst, refl, sym}
use Rattle.graphql_core.proofs.{begun, took, past, lacks, lacks_last, whole}
use Rattle.graphql_schema.specs.{Root, root_type_symbol, HasRoots}
use Rattle.graphql_schema.proofs.read.schema.root_type.Goals as goal

pub returns-in_err-operation : goal.returns-in_err-operation
returns-in_err-operation g c = lacks _ _ _ _ _ (begun root_type_symbol (λ x. refl)) c.in_err-operation.ensures c.from_residual.ensures.1

pub returns-in_err-expect_punctuator : goal.returns-in_err-expect_punctuator
returns-in_err-expect_punctuator g c =
    let named = past (begun root_type_symbol (λ x. refl)) (took c.in_ok-operation.ensures.1 refl) in
    lacks _ _ _ _ _ named c.in_err-expect_punctuator.ensures c.from_residual-in_err-expect_punctuator.ensures.1

pub returns-in_err-type_name : goal.returns-in_err-type_name
returns-in_err-type_name g c =
    let named = past (begun root_type_symbol (λ x. refl)) (took c.in_ok-operation.ensures.1 refl) in
    let colon = past named (took c.in_ok-expect_punctuator.ensures.1 refl) in
    lacks_last _ _ _ _ _ colon c.in_err-type_name.ensures c.from_residual-in_err-type_name.ensures.1

pub returns : goal.returns
returns g c =
    let (n, named, spelled) = c.in_ok-operation.ensures in
    let (t, typed, spelled') = c.in_ok-type_name.ensures in
    let colon = past (past (begun root_type_symbol (λ x. refl)) (took named refl)) (took c.in_ok-expect_punctuator.ensures.1 refl) in
    whole colon (took typed refl) (λ rs h. subst (λ (r : Root). HasRoots g.S.Names.Names.bytes c.add_root.new.roots (rs ++ r ∷ []))
    (λ k. record { name = (c.view.ensures ∙ sym spelled) k; type_name = sym spelled' k }) (c.in_ok-add_root.ensures rs h))
