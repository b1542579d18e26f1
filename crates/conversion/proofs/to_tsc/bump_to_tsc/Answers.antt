use mathlib.Core.Path.{◌≡◌, refl}
use lib.ListN.{length}
use native.Mathlib.Omega.{arith}
use borrow.Author.Rules.{rules}
use Rattle.std.proofs.lemmas.Result.{err_from_is_err_and}
use Rattle.spv.specs.Trace.{trace_of}
use Rattle.spv.proofs.ResultLaws.{answered-err}
use Rattle.block.proofs.OutputLaws.{refused_so, written-whole}
use Rattle.block.proofs.CallLaws.{fits_in}
use Rattle.conversion.proofs.ConvertLaws.{varint-low, to_refused, traced_room, traced_short, traced_writes, traced_size}
use Rattle.conversion.proofs.to_tsc.bump_to_tsc.Goals as goal

pub returns-in_err-proved : goal.returns-in_err-proved
returns-in_err-proved c =
    let p = err_from_is_err_and c.from_residual.result c.from_residual.ensures.1 in
    rw (p.1, p.2) (refused_so _ (to_refused _ _ _ (answered-err trace_of _ _ c.in_err-proved.ensures)) refl)

pub overflow_add-needed : goal.overflow_add-needed
overflow_add-needed c = let a = varint-low _ _ c.varint_size.ensures in let b = varint-low _ _ c.varint_size-2.ensures in omega arith

pub overflow_add-needed-2 : goal.overflow_add-needed-2
overflow_add-needed-2 c = let a = varint-low _ _ c.varint_size.ensures in let b = varint-low _ _ c.varint_size-2.ensures in omega arith

pub overflow_add-needed-3 : goal.overflow_add-needed-3
overflow_add-needed-3 c =
    let a = varint-low _ _ c.varint_size.ensures in
    let b = varint-low _ _ c.varint_size-2.ensures in
    let r = traced_room _ _ _ c.in_ok-proved.ensures in
    omega arith

pub returns-then-out-needed : goal.returns-then-out-needed
returns-then-out-needed c =
    let r = traced_room _ _ _ c.in_ok-proved.ensures in
    let n : length c.in_ok-proved.nodes ≡ 2112 = search rules in
    let size = traced_size _ _ _ c.in_ok-proved.ensures (search rules) (search rules) (omega arith) c.varint_size.ensures c.varint_size-2.ensures in
    refused_so _ (traced_short _ _ _ c.in_ok-proved.ensures _ (omega arith)) c.reject_for.ensures

pub write_parts-requires : goal.write_parts-requires
write_parts-requires c =
    let r = traced_room _ _ _ c.in_ok-proved.ensures in
    let n : length c.in_ok-proved.nodes ≡ 2112 = search rules in
    omega arith

pub returns : goal.returns
returns c =
    let r = traced_room _ _ _ c.in_ok-proved.ensures in
    let n : length c.in_ok-proved.nodes ≡ 2112 = search rules in
    let size = traced_size _ _ _ c.in_ok-proved.ensures (search rules) (search rules) (omega arith) c.varint_size.ensures c.varint_size-2.ensures in
    let fits = fits_in size c.if-out-needed.false in
    written-whole _ _ fits (traced_writes _ _ _ c.in_ok-proved.ensures _ fits) c.write_parts.ensures
