use Rattle.std.proofs.Common.{◌<◌, ◌++◌, [], ◌∷◌, length, sym, ap, ◌∙◌, arith}
use Rattle.planner.proofs.Present.{present_some, present_none}
use Rattle.planner.proofs.work_table.present.Goals as goal
use Rattle.planner.proofs.work_table.present.Goals.{in-Some, in_default}

pub loop-place-preserved : goal.loop-place-preserved
loop-place-preserved c =
    let places = c.args.places.now in
    let i = c.loop-place.place-index in
    let all = c.told-places in
    let within : i < length places = omega (arith, c.loop-place-test.true) in
    let least = c.loop-place.invariant.1 in
    elim c.match-place.branch [
      | in-Some w ↦
          let pushed = w.push.ensures.len in
          let is = ap (λ v. length v.items) w.pairs-is in (
            ap (λ v. v.items) w.pairs-is ∙ w.push.ensures.items ∙ ap (λ xs. xs ++ w.in-Some.pair ∷ []) c.loop-place.invariant.0 ∙ sym (present_some places i within w.in-Some.pair w.in-Some.is),
            omega arith,
          )
      | in_default w ↦
          let is = ap (λ v. length v.items) w.pairs-is in (
            ap (λ v. v.items) w.pairs-is ∙ c.loop-place.invariant.0 ∙ sym (present_none places i within w.in_default.is),
            omega arith,
          )
    ]
