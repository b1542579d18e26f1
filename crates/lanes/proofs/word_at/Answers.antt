use Rattle.hash.specs.Sha256.{word, word4}
use Rattle.lanes.proofs.word_at.Goals as goal

pub returns : goal.returns
unfolding word word4
returns c = c.from_be_bytes.ensures
