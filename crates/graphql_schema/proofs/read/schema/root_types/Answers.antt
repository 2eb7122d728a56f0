use Rattle.std.proofs.Common.{◌≡◌, ◌∙◌, [], ◌∷◌, ◌++◌, List, arith, refl, sym, subst, append_assoc}
use Rattle.graphql_core.specs.{Token, Sym, peek, first, sees, any, tables as core_tables, each_of}
use Rattle.graphql_core.specs.declared.tokenizer.token.Kind.TheVariants.{Name}
use Rattle.graphql_core.proofs.{Turns-more, Turns-stop, Stops-turn, here, fails_last, each_means, fewer, no_more}
use Rattle.graphql_schema.specs.{Root, root_at, tables, root_type_symbol, HasRoots, as_written}
use Rattle.graphql_schema.proofs.{reading, turn_of, readable}
use Rattle.graphql_schema.proofs.read.schema.root_types.Goals as goal

begins : (ts : List Token) → sees (first reading.rows (Sym root_type_symbol)) (peek ts) ≡ sees (any Name ∷ []) (peek ts)
unfolding tables core_tables
begins ts = refl

pub more-preserved : goal.more-preserved
more-preserved g c =
    let (new, turns, has) = c.more.invariant.roots in
    let (x, takes, more) = c.in_ok-root_type.ensures in
    record {
      roots = (
        new ++ turn_of x ∷ [],
        Turns-more reading _ turn_of _ _ _ new x turns (begins _ ∙ sym c.sees_name.ensures ∙ c.more-test.true) takes,
        λ rs h. subst (HasRoots g.S.Names.Names.bytes c.root_type.new.roots) (append_assoc rs new (turn_of x ∷ [])) (more (rs ++ new) (has rs h)),
      );
      within = omega (arith, no_more c.in_ok-root_type.ensures, c.more.invariant.within);
    }

pub more-smaller : goal.more-smaller
unfolding tables
more-smaller g c = fewer readable.ll1 refl c.in_ok-root_type.ensures

pub returns-in_err-root_type : goal.returns-in_err-root_type
returns-in_err-root_type g c =
    let (new, turns, has) = c.more.invariant.roots in
    let seen = begins _ ∙ sym c.sees_name.ensures ∙ c.more-test.true in
    let turn = Stops-turn reading _ turn_of _ _ _ new _ turns seen c.in_err-root_type.ensures in
    fails_last _ _ _ _ here turn c.from_residual.ensures.1

pub returns : goal.returns
returns g c =
    let (new, turns, has) = c.more.invariant.roots in
    let (x, takes, is) = Turns-stop reading _ turn_of _ _ new turns (begins _ ∙ sym c.sees_name.ensures ∙ c.more-test.false) in
    let same = sym is ∙ sym (each_means (as_written root_at) (as_written (each_of root_at)) refl (λ x y. refl) takes.0) in
    (x, takes, λ rs h. subst (λ (l : List Root). HasRoots g.S.Names.Names.bytes c.more.roots (rs ++ l)) same (has rs h))
