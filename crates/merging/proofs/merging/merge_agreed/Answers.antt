use Rattle.spv.proofs.ResultLaws.{answered-err, refused_on}
use Rattle.merging.proofs.MergeLaws.{left-bytes, left-list}
use Rattle.merging.proofs.merging.merge_agreed.Goals as goal

pub put_merged-requires : goal.put_merged-requires
put_merged-requires c = record { root = c.args.root; other = c.args.other; leaves = _; first = c.requires.0; second = c.requires.1; says = c.in_ok-merged.ensures }

pub returns-in_err-merged : goal.returns-in_err-merged
returns-in_err-merged c =
    let e = answered-err _ _ _ c.in_err-merged.ensures in
    record { value = refused_on _ _ _ _ c.from_residual.ensures.1 e; bytes_after = left-bytes _ _ e _; list_after = left-list _ _ e _ }

pub returns : goal.returns
returns c = record { value = c.in_ok-merged.ensures; bytes_after = c.put_merged.ensures.bytes_after; list_after = c.put_merged.ensures.list_after }
