use mathlib.Core.Path.{sym}
use Rattle.listing.proofs.ListingLaws.{report-refused, report-read}
use Rattle.listing.proofs.list_whole.Goals as goal

pub returns-in-Err : goal.returns-in-Err
returns-in-Err c = report-refused _ _ (sym c.in-Err.ensures) c.write_refusal.ensures

pub returns-in-Ok : goal.returns-in-Ok
returns-in-Ok c = report-read _ _ (sym c.in-Ok.ensures) c.number_line-at.ensures c.number_line-at-in-Ok.ensures c.write_levels-at.ensures c.write.ensures
