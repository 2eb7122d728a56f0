use Rattle.std.proofs.Common.{arith}
use Rattle.graphql_standard.proofs.PlacesTogether.{places_together, line_within, from_one}
use Rattle.graphql_standard.proofs.place.Place.in_source.Goals as goal
use Rattle.graphql_standard.proofs.place.Place.in_source.Goals.{then-self-eq1, else-self-eq1}

pub overflow_add-result-2 : goal.overflow_add-result-2
overflow_add-result-2 c =
    let (front, text, h) = c.requires in
    omega (arith, h.short, line_within front c.args.start h.front_is, line_within text c.args.self h.text_is)

pub returns : goal.returns
returns c = λ front text h apart.
    let ones = from_one front c.args.start h.front_is in
    places_together front text c.args.start c.args.self _ h.front_is h.text_is apart record {
      offset_is = omega arith;
      line_is = omega (arith, ones.0);
      first_line = λ one. elim c.if-self-eq1.branch [
        | then-self-eq1 w ↦ omega (arith, w.column-is, ones.1)
        | else-self-eq1 w ↦ absurd (w.if-self-eq1.false one)
      ];
      other_line = λ other. elim c.if-self-eq1.branch [
        | then-self-eq1 w ↦ absurd (other w.if-self-eq1.true)
        | else-self-eq1 w ↦ w.column-is
      ];
    }
