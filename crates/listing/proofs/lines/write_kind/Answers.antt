use Rattle.encoding.proofs.BufferLaws.{wrote_then}
use Rattle.listing.specs.Listing.{kind_text}
use Rattle.listing.proofs.lines.write_kind.Goals as goal

pub returns-in-Plain : goal.returns-in-Plain
unfolding kind_text
returns-in-Plain c = rw (c.in-Plain.is, ← c.hash_at.ensures) (wrote_then _ _ _ c.write-next.ensures c.write_hash.ensures)

pub returns-in-Copy : goal.returns-in-Copy
unfolding kind_text
returns-in-Copy c = rw c.in-Copy.is c.write.ensures

pub returns-in-Client : goal.returns-in-Client
unfolding kind_text
returns-in-Client c = rw (c.in-Client.is, ← c.hash_at-in-Client.ensures) (wrote_then _ _ _ c.write-next-in-Client.ensures c.write_hash-in-Client.ensures)
