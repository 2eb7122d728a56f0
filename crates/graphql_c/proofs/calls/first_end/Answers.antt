use Rattle.std.proofs.Common.{◌≡◌, ◌∙◌, ◌≤◌, ◌++◌, length, drop, append_assoc, length-append, sym, ap, subst, arith}
use Rattle.std.proofs.lemmas.Option.{MatchOption-at_some, none-some}
use Rattle.graphql_c.specs.{EndsAt, not_utf8, ran_out}
use Rattle.graphql_core.specs.{max_length}
use Rattle.graphql_c.proofs.{begins, ends_once, explains_as, halts, same_failure, shown_at, shown_by}
use Rattle.graphql_c.proofs.calls.first_end.Goals as goal

pub returns-in-Some-clause-sound : goal.returns-in-Some-clause-sound
returns-in-Some-clause-sound c =
    let front = c.valid_front.result.now in
    let given = c.split_at.result.0.now in
    let behind = c.split_at.result.1.now in
    let is : c.args.bytes.now ≡ front ++ (drop (length front) given ++ behind) =
    c.split_at.ensures.by_index.0 ∙ ap (λ t. t ++ behind) (begins front given c.valid_front.ensures.front) ∙ append_assoc front _ behind in
    subst (λ t. EndsAt t c.in-Some.end) (sym is)
    (MatchOption-at_some _ _ _ c.in-Some.is c.in_ok-end.ensures.sound (drop (length front) given ++ behind))

pub returns-in_err-end-clause-sound : goal.returns-in_err-end-clause-sound
returns-in_err-end-clause-sound c = halts _ _ _ _ _ (λ e no. no) (explains_as c.in_err-end.ensures.sound ran_out) c.from_residual.ensures.1

pub returns-in_err-end-in-Err-clause-sound : goal.returns-in_err-end-in-Err-clause-sound
returns-in_err-end-in-Err-clause-sound c =
    halts _ _ _ _ _ (λ e no. no) (explains_as c.in_err-end-in-Err.ensures.sound ran_out) c.from_residual-in_err-end-in-Err.ensures.1

pub returns-in-Some-2-clause-sound : goal.returns-in-Some-2-clause-sound
returns-in-Some-2-clause-sound c =
    let is = begins _ c.args.bytes.now c.valid_front-in-Err.ensures.front in
    subst (λ t. EndsAt t c.in-Some-2.end) (sym is) (MatchOption-at_some _ _ _ c.in-Some-2.is c.in_ok-end-in-Err.ensures.sound _)

pub returns-in-None-clause-sound : goal.returns-in-None-clause-sound
returns-in-None-clause-sound c = explains_as c.not_utf8.ensures (not_utf8 c.in-Err.ensures.cases.0)

pub returns-in-Some-clause-shown : goal.returns-in-Some-clause-shown
returns-in-Some-clause-shown c n short shown = ends_once _ _ n (returns-in-Some-clause-sound c) (shown_at _ n shown)

pub returns-in_err-end-clause-shown : goal.returns-in_err-end-clause-shown
returns-in_err-end-clause-shown c n short shown = same_failure _ _ _ _ c.in_err-end.ensures.sound c.from_residual.ensures.1

pub returns-in-Ok-clause-shown : goal.returns-in-Ok-clause-shown
returns-in-Ok-clause-shown c n short shown =
    let same = c.in-Ok.ensures.cases.0 in
    c.end_of.ensures.complete n (subst (λ t. length t ≤ max_length) (sym same) short) (subst (λ t. EndsAt t n) (sym same) (shown_at _ n shown))

pub returns-in_err-end-in-Err-clause-shown : goal.returns-in_err-end-in-Err-clause-shown
returns-in_err-end-in-Err-clause-shown c n short shown =
    same_failure _ _ _ _ c.in_err-end-in-Err.ensures.sound c.from_residual-in_err-end-in-Err.ensures.1

pub returns-in-Some-2-clause-shown : goal.returns-in-Some-2-clause-shown
returns-in-Some-2-clause-shown c n short shown = ends_once _ _ n (returns-in-Some-2-clause-sound c) (shown_at _ n shown)

pub returns-in-None-clause-shown : goal.returns-in-None-clause-shown
returns-in-None-clause-shown c n short shown =
    let front = c.valid_front-in-Err in
    let (at, some) = shown_by c.args.bytes.now front.result.now n front.ensures.front front.ensures.longest shown in
    let behind = drop (length front.result.now) c.args.bytes.now in
    let whole : c.args.bytes.now ≡ front.result.now ++ behind = begins _ c.args.bytes.now front.ensures.front in
    let bound : length front.result.now ≤ max_length = omega (arith, short, ap length whole, length-append front.result.now behind) in
    absurd (none-some n (sym c.in-None.is ∙ c.in_ok-end-in-Err.ensures.complete n bound at some))
