use Rattle.std.proofs.Common.{rules, ◌≡◌, string_bytes, subst}
use Rattle.graphql_c.specs.{Writes}
use Rattle.graphql_c.proofs.call_result.of_output.Goals as goal

pub returns-in-Ok : goal.returns-in-Ok
returns-in-Ok c =
    let same : c.deref.result.now ≡ string_bytes c.in-Ok.output = search rules in
    rw c.in-Ok.is (subst (λ o. Writes (λ text. text ≡ o) c.args.out.now c.written.new.out c.written.result) same c.written.ensures)
