use Rattle.std.proofs.Common.{sym}
use Rattle.merging.proofs.MergeLaws.{never-unread, agreed-read}
use Rattle.merging.proofs.merging.merge_checked.Goals as goal

pub returns-in_err-x : goal.returns-in_err-x
returns-in_err-x c = never-unread _ _ c.requires.0 (sym c.in_err-x.ensures)

pub returns-in_err-y : goal.returns-in_err-y
returns-in_err-y c = never-unread _ _ c.requires.1 (sym c.in_err-y.ensures)

pub merge_agreed-requires : goal.merge_agreed-requires
merge_agreed-requires c = (
  agreed-read _ _ _ c.requires.0 (sym c.in_ok-x.ensures) (λ i. (c.shared_slice_known-1.given i).fits),
  agreed-read _ _ _ c.requires.1 (sym c.in_ok-y.ensures) (λ i. (c.shared_slice_known-2-1.given i).fits),
)
