use Rattle.std.proofs.Common.{◌-◌, ◌∙◌, IsUtf8, arith, drop, length-drop, subst, sym, take_all}
use Rattle.std.proofs.lemmas.Fmt.{IsAscii-decimal}
use Rattle.std.proofs.lemmas.Str.{IsUtf8-from_ascii}
use Rattle.graphql_core.proofs.format.print.integers.write_digits.Goals as goal

pub from_utf8_unchecked-requires : goal.from_utf8_unchecked-requires
from_utf8_unchecked-requires g c =
    let start = c.put_digits-start.result in
    let digits = c.put_digits-start.new.digits in
    let all = take_all (20 - start) (drop start digits) (omega (arith, length-drop start digits, c.put_digits-start.array_long)) in
    subst IsUtf8 (sym (all ∙ c.put_digits-start.ensures.digits)) (IsUtf8-from_ascii _ (IsAscii-decimal c.args.number c.ranges.number.fits))
