use Rattle.std.proofs.Common.{arith, ◌≡◌, ◌+◌, take, length, ◌∙◌, ap, length-append, length-take}
use Rattle.std.proofs.lemmas.Result.{MatchResult-at_ok, IfOk-at_ok}
use Rattle.std.proofs.KnownBytes.{Consumes-trans}
use Rattle.graphql_parser.proofs.Mapped.{ok_before}
use Rattle.gql.specs.{faults_after_read}
use Rattle.gql.proofs.engine.read_all.Goals as goal

pub pieces-preserved : goal.pieces-preserved
pieces-preserved g c =
    let before = c.pieces.invariant in
    let grown = c.in_ok-extend_from_slice-in_default.ensures.items in
    let n = c.in_ok-count.count in
    let read = ok_before _ c.map_err.ensures.cases c.map_err.ensures.variant c.in_ok-count.was in
    let faults = c.read.ensures.faults ∙ ap (faults_after_read _) read in
    let bytes = MatchResult-at_ok _ _ n read c.read.ensures.bytes in
    let bound = IfOk-at_ok _ read c.read.ensures.bound in
    let len : length c.extend_from_slice.new.self.items ≡ length c.pieces.bytes.items + length (take n c.read.new.buf) =
    rw grown (length-append c.pieces.bytes.items (take n c.read.new.buf)) in
    record {
      capacity = omega arith;
      faults_stay = faults ∙ before.faults_stay;
      each_one = omega (arith, len, length-take n c.read.new.buf, bound, before.each_one);
      taken = rw grown (Consumes-trans _ _ _ c.pieces.bytes.items (take n c.read.new.buf) before.taken bytes.0);
    }
