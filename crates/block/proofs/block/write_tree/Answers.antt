use native.Mathlib.Omega.{arith}
use mathlib.Core.Path.{refl}
use Rattle.encoding.proofs.VarintEncoding.{varint-length}
use Rattle.std.proofs.lemmas.Result.{err_from_is_err_and}
use Rattle.spv.proofs.ResultLaws.{answered-err}
use Rattle.block.proofs.HeapLaws.{grown}
use Rattle.block.proofs.ClimbsLaws.{told_free}
use Rattle.block.proofs.IdsLaws.{below_at}
use Rattle.block.proofs.LevelLaws.{ready}
use Rattle.block.proofs.CallLaws.{refuses_twin, refuses-room, writes_all, size_is, wrote_all, sized-told, shape_told, fits_in}
use Rattle.block.proofs.OutputLaws.{refused_so, written-whole}
use Rattle.block.proofs.block.write_tree.Goals as goal

pub shape_for-height-requires : goal.shape_for-height-requires
shape_for-height-requires c =
    let n = sized-told _ _ c.requires.0 in
    omega arith

pub build-requires : goal.build-requires
build-requires c =
    let n = sized-told _ _ c.requires.0 in
    let w = shape_told _ _ _ c.shape_for-height.ensures.0 c.shape_for-height.ensures.1 n.0 n.1 in
    (w.1, w.2, w.3, refl)

pub marks_of-marks-requires : goal.marks_of-marks-requires
marks_of-marks-requires c =
    let n = sized-told _ _ c.requires.0 in
    let w = shape_told _ _ _ c.shape_for-height.ensures.0 c.shape_for-height.ensures.1 n.0 n.1 in
    (w.1, w.2, λ i l. let e = below_at _ _ c.requires.2 i l in omega arith)

pub climb_chosen-requires : goal.climb_chosen-requires
climb_chosen-requires c =
    let n = sized-told _ _ c.requires.0 in
    let w = shape_told _ _ _ c.shape_for-height.ensures.0 c.shape_for-height.ensures.1 n.0 n.1 in
    (w.0, w.1, w.2, w.3, refl)

pub returns-in_err-climb_chosen : goal.returns-in_err-climb_chosen
returns-in_err-climb_chosen c =
    let p = err_from_is_err_and c.from_residual.result c.from_residual.ensures.1 in
    let e = answered-err _ _ _ (c.in_err-climb_chosen.ensures _ (grown _ _ _ c.shape_for-height.ensures.0 c.build.ensures) c.marks_of-marks.ensures) in
    rw (p.1, p.2) (refused_so _ (refuses_twin _ _ _ _ c.requires.0 c.requires.1 c.requires.2 c.requires.3 _ e) refl)

pub overflow_add-size : goal.overflow_add-size
overflow_add-size c = omega (arith, varint-length c.args.block)

pub levels_size-requires : goal.levels_size-requires
levels_size-requires c =
    let n = sized-told _ _ c.requires.0 in
    let w = shape_told _ _ _ c.shape_for-height.ensures.0 c.shape_for-height.ensures.1 n.0 n.1 in
    (w.1, w.2, n.1)

pub overflow_add-size-2 : goal.overflow_add-size-2
overflow_add-size-2 c = omega (arith, varint-length c.args.block)

pub returns-then-out-size : goal.returns-then-out-size
returns-then-out-size c =
    let t = told_free _ (c.in_ok-climb_chosen.ensures _ (grown _ _ _ c.shape_for-height.ensures.0 c.build.ensures) c.marks_of-marks.ensures) in
    let r = ready _ _ _ _ _ c.requires.2 c.build.ensures c.marks_of-marks.ensures in
    let z = size_is _ _ _ _ c.shape_for-height.ensures.0 _ _ c.varint_size.ensures (c.levels_size.ensures.1 _ _ _ r) in
    refused_so _ (refuses-room _ _ _ _ c.requires.0 c.requires.1 c.requires.2 c.requires.3 t (omega arith)) c.reject_for.ensures

pub overflow_cast-height : goal.overflow_cast-height
overflow_cast-height c =
    let n = sized-told _ _ c.requires.0 in
    let w = shape_told _ _ _ c.shape_for-height.ensures.0 c.shape_for-height.ensures.1 n.0 n.1 in
    omega (arith, w.1)

pub write_levels-next-requires : goal.write_levels-next-requires
write_levels-next-requires c =
    let n = sized-told _ _ c.requires.0 in
    let w = shape_told _ _ _ c.shape_for-height.ensures.0 c.shape_for-height.ensures.1 n.0 n.1 in
    (w.1, w.2, n.1)

pub returns : goal.returns
returns c =
    let t = told_free _ (c.in_ok-climb_chosen.ensures _ (grown _ _ _ c.shape_for-height.ensures.0 c.build.ensures) c.marks_of-marks.ensures) in
    let r = ready _ _ _ _ _ c.requires.2 c.build.ensures c.marks_of-marks.ensures in
    let z = size_is _ _ _ _ c.shape_for-height.ensures.0 _ _ c.varint_size.ensures (c.levels_size.ensures.1 _ _ _ r) in
    let l = fits_in z c.if-out-size.false in
    let h = wrote_all _ _ _ _ c.shape_for-height.ensures.0 _ c.write_varint-next.ensures c.put-next.ensures (c.write_levels-next.ensures _ r) in
    written-whole _ _ l (writes_all _ _ _ _ c.requires.0 c.requires.1 c.requires.2 c.requires.3 t l) h
