use Rattle.std.proofs.Common.{ℕ, List, ◌≢◌, length, cond, eqb, ◌&&◌, not, ◌≡◌, ◌++◌, take, drop, arith, sym, ap, ◌∙◌, append_assoc, take-append-drop}
use Rattle.std.proofs.lemmas.Bool.Decides.{nat_tests}
use Rattle.std.proofs.KnownBytes.{Appends-trans}
use Rattle.std.proofs.lemmas.Result.{MatchResult-at_ok, IfOk-at_ok}
use Rattle.graphql_parser.proofs.Mapped.{ok_before}
use Rattle.gql.specs.{one_more, faults_after_write}
use Rattle.gql.proofs.engine.write_all.Goals as goal

-- a write that took some bytes is no failure
stays : (old new count len : ℕ) → count ≢ 0 → new ≡ cond (eqb count 0 && not (eqb len 0)) (one_more old) old → new ≡ old
stays old new count len some h = grind (arith, nat_tests)

split : (front : List ℕ) (n : ℕ) (rest : List ℕ) → front ++ rest ≡ (front ++ take n rest) ++ drop n rest
split front n rest = ap (λ l. front ++ l) (sym (take-append-drop n rest)) ∙ sym (append_assoc front (take n rest) (drop n rest))

pub pieces-preserved : goal.pieces-preserved
pieces-preserved g c =
    let before = c.pieces.invariant.written in
    let n = c.in_ok-count.count in
    let some : n ≢ 0 = λ none. omega (arith, none) in
    let write = ok_before _ c.map_err-in-pieces.ensures.cases c.map_err-in-pieces.ensures.variant c.in_ok-count.was in
    let faults = c.write.ensures.faults ∙ ap (λ r. faults_after_write c.pieces.writer.faults r (length c.pieces.rest.now)) write in
    let bound = IfOk-at_ok _ write c.write.ensures.bound in
    let back = c.split_at.ensures.back in
    record {
      each_one = omega (arith, c.split_at.ensures.back_len, bound);
      faults_stay = stays _ _ _ _ some faults ∙ c.pieces.invariant.faults_stay;
      written = (
        before.0 ++ take n c.pieces.rest.now,
        before.1 ∙ rw (c.split_at.ensures.back) (split _ n _),
        Appends-trans _ _ _ before.0 (take n c.pieces.rest.now) before.2 (MatchResult-at_ok _ _ n write c.write.ensures.bytes),
      );
    }
