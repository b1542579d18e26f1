use native.Mathlib.Omega.{arith}
use Rattle.listing.proofs.Room.{listing-written}
use Rattle.bumplist.proofs.list_whole.Goals as goal

pub returns : goal.returns
returns c = (omega (arith, c.list.auto.out), listing-written c.args.out.now _ c.requires c.list.ensures.value c.list.ensures.out_after)
