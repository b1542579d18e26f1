use Rattle.listing.proofs.ListingLaws.{listing-long, listing-whole, wrote_whole}
use Rattle.listing.proofs.list.Goals as goal

pub returns-then-s-gt-LISTED_BYTES : goal.returns-then-s-gt-LISTED_BYTES
returns-then-s-gt-LISTED_BYTES c =
    let h = wrote_whole _ _ c.write_refusal.ensures in
    rw (listing-long _ c.if-s-gt-LISTED_BYTES.true) (record { value = h.0; out_after = h.1 })

pub returns : goal.returns
returns c =
    let h = wrote_whole _ _ c.list_whole.ensures in
    rw (listing-whole _ c.if-s-gt-LISTED_BYTES.false) (record { value = h.0; out_after = h.1 })
