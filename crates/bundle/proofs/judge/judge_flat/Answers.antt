use mathlib.Core.Path.{◌∙◌, sym}
use native.Mathlib.Omega.{arith}
use Rattle.bundle.proofs.AnchoredLaws.{ends_from, joins_from}
use Rattle.bundle.specs.BundleAnswer.{judgement_of}
use Rattle.bundle.proofs.BundleRead.{judge_long, judge_roots, judge_refused, judge_read_lem, read-few, read_low, read-every, answers_at}
use Rattle.bundle.proofs.WorkMadeLaws.{made_low}
use Rattle.bundle.proofs.WorkRead.{work_long, work_roots, work_refused, work_read}
use Rattle.bundle.proofs.judge.judge_flat.Goals as goal

pub returns-then-s-gt-MAX_INPUT : goal.returns-then-s-gt-MAX_INPUT
unfolding judgement_of
returns-then-s-gt-MAX_INPUT c =
    (rw c.refused.ensures.0 (judge_long _ _ _ _ c.if-s-gt-MAX_INPUT.true), c.refused.ensures.1 ∙ work_long _ _ _ _ c.if-s-gt-MAX_INPUT.true)

pub returns-then-roots-ne0 : goal.returns-then-roots-ne0
unfolding judgement_of
returns-then-roots-ne0 c =
    (rw c.refused-then-roots-ne0.ensures.0 (judge_roots _ _ _ _ c.if-s-gt-MAX_INPUT.false c.if-roots-ne0.true), c.refused-then-roots-ne0.ensures.1 ∙ work_roots _ _ _ _ c.if-s-gt-MAX_INPUT.false c.if-roots-ne0.true)

pub write_ids-made-requires : goal.write_ids-made-requires
write_ids-made-requires c = read-few _ _ _ _ (sym c.in-Ok.ensures)

pub climb_bumps-requires : goal.climb_bumps-requires
climb_bumps-requires c =
    let read = sym c.in-Ok.ensures in
    let few = read-few _ _ _ _ read in
    record {
      count_bound = read_low _ _ _ _ read;
      n_bound = few;
    }

pub judge_entries-verdict-requires : goal.judge_entries-verdict-requires
judge_entries-verdict-requires c =
    let read = sym c.in-Ok.ensures in
    record {
      n_bound = read-few _ _ _ _ read;
      ids_from = c.write_ids-made.ensures.0;
      at_len = read-every _ _ _ _ read;
    }

pub work_made-work-requires : goal.work_made-work-requires
work_made-work-requires c =
    let few = read-few _ _ _ _ (sym c.in-Ok.ensures) in
    record {
      ids_bound = made_low _ _ _ _ c.write_ids-made.ensures.2 few;
      n_bound = few;
    }

pub returns-in-Err : goal.returns-in-Err
unfolding judgement_of
returns-in-Err c =
    let read = sym c.in-Err.ensures in
    (rw c.reject_reading.ensures (judge_refused _ _ _ _ c.if-s-gt-MAX_INPUT.false c.if-roots-ne0.false _ read), work_refused _ _ _ _ c.if-s-gt-MAX_INPUT.false c.if-roots-ne0.false _ read)

pub returns-in-Ok : goal.returns-in-Ok
returns-in-Ok c =
    let read = sym c.in-Ok.ensures in
    let few = read-few _ _ _ _ read in
    let ends = ends_from _ _ _ _ _ _ _ _ _ c.write_ids-made.ensures.0 c.write_ids-made.ensures.1 (omega arith) (omega arith) c.climb_bumps.ensures in
    let joins = joins_from _ _ _ _ _ _ _ _ _ c.write_ids-made.ensures.0 c.write_ids-made.ensures.1 (omega arith) (omega arith) c.climb_bumps.ensures in
    let e = c.judge_entries-verdict.ensures _ _ ends in
    let judged = c.settle-verdict.ensures _ _ ∙ judge_read_lem _ _ _ _ c.if-s-gt-MAX_INPUT.false c.if-roots-ne0.false _ _ read _ _ _ _ e.0 e.1 (answers_at _ _ _ _ _ c.reached.ensures c.judge_amounts-amounts.ensures) in
    (judged, c.work_made-work.ensures ∙ work_read _ _ _ _ c.if-s-gt-MAX_INPUT.false c.if-roots-ne0.false _ _ read _ _ _ _ _ judged c.write_ids-made.ensures.1 joins (omega arith) c.write_ids-made.ensures.2)
