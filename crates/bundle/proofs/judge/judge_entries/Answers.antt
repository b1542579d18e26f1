use Prim.Native.Nat.{◌/◌, ◌<◌}
use mathlib.Core.Path.{◌≡◌, sym, ap, ◌∙◌}
use native.Mathlib.Omega.{arith}
use lib.ListN.{length}
use Rattle.spv.specs.declared.rejection.Rejection.{Rejection}
use Rattle.bundle.proofs.AheadLaws.{onward-start, onward-one, id-here}
use Rattle.bundle.proofs.AnchoredLaws.{mined_here}
use Rattle.bundle.proofs.BundleHeadLaws.{head_told}
use Rattle.bundle.specs.BundleAnswer.{judgement_of}
use Rattle.bundle.proofs.BundleTurns.{judging_start, judging_reads, judging_refused, judging_passes, judging_end, numbers_with, written-again}
use Rattle.bundle.proofs.judge.judge_entries.Goals as goal
use Rattle.std.specs.Prelude.{Err}

pub loop-i-init : goal.loop-i-init
loop-i-init c = (omega arith, (λ roots bumps ends. judging_start _ _ _ _ _ _ (omega arith) (omega arith)), onward-start _ _ _)

pub returns-in_default : goal.returns-in_default
returns-in_default c =
    λ roots bumps ends.
    absurd (judging_reads _ _ _ _ _ _ (c.loop-i.invariant.1 roots bumps ends) c.requires.n_bound (omega arith) c.requires.at_len (sym c.in_default.ensures))

pub returns-in-Err : goal.returns-in-Err
returns-in-Err c =
    λ roots bumps ends.
    let j = c.loop-i.invariant.1 roots bumps ends in
    let read = sym c.in-Ok.ensures in
    let room : c.loop-i.i < length c.args.ids.now / 32 = omega arith in
    let known = c.hash_at-id.ensures ∙ id-here _ _ _ _ _ c.loop-i.invariant.2 read _ _ c.requires.ids_from (omega arith) room in
    let mined = mined_here _ _ _ _ _ c.loop-i.invariant.2 read roots bumps _ _ _ _ _ ends (omega arith) known c.anchor_number.ensures c.end_at-mined.ensures in (
      ap (λ (x : Rejection). judgement_of (Err x) c.args.ids.now c.loop-i.numbers) c.blame-in-Err.ensures
          ∙ judging_refused _ _ _ _ _ _ j c.requires.n_bound (omega arith) read (head_told _ _ _ _ _ known (c.judge_entry.ensures roots bumps mined) c.in-Err.is),
      written-again _ _ _ _ (ap (λ (x : Rejection). x.carried) c.blame-in-Err.ensures) j.written,
    )

pub loop-i-preserved : goal.loop-i-preserved
loop-i-preserved c =
    let read = sym c.in-Ok.ensures in
    let room : c.loop-i.i < length c.args.ids.now / 32 = omega arith in
    let known = c.hash_at-id.ensures ∙ id-here _ _ _ _ _ c.loop-i.invariant.2 read _ _ c.requires.ids_from (omega arith) room in (
      omega arith,
      (λ roots bumps ends.
          let mined = mined_here _ _ _ _ _ c.loop-i.invariant.2 read roots bumps _ _ _ _ _ ends (omega arith) known c.anchor_number.ensures c.end_at-mined.ensures in
          judging_passes _ _ _ _ _ _ (c.loop-i.invariant.1 roots bumps ends) c.requires.n_bound (omega arith) read
          (head_told _ _ _ _ _ known (c.judge_entry.ensures roots bumps mined) c.in-Ok-judge_entry.is)
          (sym c.hash_at-id.ensures ∙ known)
          (c.numbers_of.ensures ∙ numbers_with _ _ c.outputs_total-total.ensures)
          c.put_numbers.ensures),
      onward-one _ _ _ _ _ c.loop-i.invariant.2 read,
    )

pub returns : goal.returns
returns c =
    λ roots bumps ends.
    let j = c.loop-i.invariant.1 roots bumps ends in
    let all : c.loop-i.i ≡ c.args.n = omega arith in
    let e = judging_end _ _ _ _ _ _ j (omega arith) in
    (rw all at e, rw all at j.written)
