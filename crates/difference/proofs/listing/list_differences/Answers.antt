use Rattle.std.proofs.Common.{sym, refl}
use Rattle.spv.proofs.ResultLaws.{refused_on}
use Rattle.difference.proofs.ListingLaws.{first-unread, second-unread, left-refused, as_before, listed_over, listed-entries, listed-words}
use Rattle.difference.proofs.listing.list_differences.Goals as goal

pub returns-in_err-x : goal.returns-in_err-x
returns-in_err-x c =
    let e = first-unread _ _ _ _ (sym c.in_err-x.ensures) in
    record { value = refused_on _ _ _ _ c.from_residual.ensures.1 e; out_after = left-refused _ _ _ _ refl e }

pub returns-in_err-y : goal.returns-in_err-y
returns-in_err-y c =
    let e = second-unread _ _ _ _ (sym c.in_ok-x.ensures) (sym c.in_err-y.ensures) in
    record { value = refused_on _ _ _ _ c.from_residual-in_err-y.ensures.1 e; out_after = left-refused _ _ _ _ refl e }

pub returns-then-out-count : goal.returns-then-out-count
returns-then-out-count c =
    let x = sym c.in_ok-x.ensures in
    let y = sym c.in_ok-y.ensures in
    let e = listed_over _ _ _ _ _ x y _ _ c.tell_all-count.ensures c.if-out-count.true in
    record { value = rw (c.reject_for.ensures, e) refl; out_after = left-refused _ _ _ _ (as_before _ _ _ _ _ x y _ _ c.tell_all-count.ensures) e }

pub returns : goal.returns
returns c =
    let x = sym c.in_ok-x.ensures in
    let y = sym c.in_ok-y.ensures in
    record {
      value = listed-entries _ _ _ _ _ x y _ _ c.tell_all-count.ensures c.if-out-count.false _ _ c.tell_all.ensures;
      out_after = listed-words _ _ _ _ _ x y _ _ c.tell_all-count.ensures c.if-out-count.false _ _ c.tell_all.ensures;
    }
