use mathlib.Core.Path.{ap₂, refl, sym, ap, ◌∙◌}
use mathlib.Core.List.{List}
use Rattle.merging.specs.Merging as M
use Rattle.levels.proofs.FrontsLaws.{least, front-told, past-told}
use Rattle.levels.specs.Fronts.{standing_of}
use Rattle.levels.specs.Standing.{Standing}
use Rattle.encoding.specs.BumpBytes.{entry_bytes}
use Rattle.encoding.specs.Buffer.{buffer, write_on}
use Rattle.encoding.specs.Encode.{encode_all}
use Rattle.merging.specs.Merging.{kept_of}
use Rattle.merging.proofs.ChoiceLaws.{left-standing}
use Rattle.merging.specs.Walk.{kept_at}
use Rattle.merging.proofs.TallyLaws.{spots-end, spots-stop, spots_on, write-spot, write_last}
use native.Mathlib.Omega.{arith}
use Rattle.merging.proofs.uniting.put_leaves.Goals as goal

pub loop-init : goal.loop-init
unfolding standing_of
loop-init c = (refl, omega arith, refl)

pub shape_of-out-in_default : goal.shape_of-out-in_default
shape_of-out-in_default c = c.loop.invariant.2

pub returns-in_default : goal.returns-in_default
returns-in_default c =
    let next = least _ _ c.next_offset.ensures c.next_offset-in-loop.ensures c.in_default.ensures refl in
    sym (c.loop.invariant.0 ∙ ap (λ (l : List M.Spot). write_on (buffer c.loop.out c.loop.at) (encode_all entry_bytes (kept_of l))) (spots-stop _ _ _ _ _ _ _ (omega arith) next) ∙ write_last _)

pub loop-preserved : goal.loop-preserved
loop-preserved c =
    let kept = c.choose-choice.ensures ∙ ap₂ (λ (p q : Standing). kept_at p q (standing_of c.args.s.now c.front-v.result) (standing_of c.args.t.now c.front-w.result)) (ap (standing_of c.args.s.now) c.left_spot-l.ensures ∙ left-standing c.args.s.now c.loop.last _ c.loop.first) (ap (standing_of c.args.t.now) c.left_spot-m.ensures ∙ left-standing c.args.t.now c.loop.last _ c.loop.second) in
    let next = least _ _ c.next_offset.ensures c.next_offset-in-loop.ensures c.in-Some.ensures refl in
    let on = spots_on 2048 c.loop.counter _ _ _ _ _ (omega arith) next (front-told _ _ _ _ c.front-v.ensures) (front-told _ _ _ _ c.front-w.ensures) kept (past-told _ _ _ _ c.past-i.ensures) (past-told _ _ _ _ c.past-j.ensures) in (
      c.loop.invariant.0 ∙ ap (λ (l : List M.Spot). write_on (buffer c.loop.out c.loop.at) (encode_all entry_bytes (kept_of l))) on ∙ write-spot _ _ _ _ c.put_kept-at.ensures,
      omega arith,
      c.put_kept-at.auto.out ∙ c.loop.invariant.2,
    )

pub shape_of-out : goal.shape_of-out
shape_of-out c = c.loop.invariant.2

pub returns : goal.returns
returns c = sym (c.loop.invariant.0 ∙ ap (λ (l : List M.Spot). write_on (buffer c.loop.out c.loop.at) (encode_all entry_bytes (kept_of l))) (spots-end _ _ _ _ _ _ _ (omega arith)) ∙ write_last _)
