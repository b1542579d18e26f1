use Rattle.listing.specs.Listing.{refused_line}
use Rattle.listing.proofs.lines.write_refusal.Goals as goal

pub returns : goal.returns
unfolding refused_line
returns c = rw (c.from-number.ensures, c.number.ensures) at c.pair_line.ensures
