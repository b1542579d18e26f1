use Rattle.std.proofs.Common.{ℕ, List}
use Rattle.hash.specs.Sha256.{word}
use Rattle.lanes.specs.Lanes.{word_in}
use Rattle.lanes.proofs.SideBySide.{lane-map}
use Rattle.lanes.proofs.messages.words_in.Goals as goal

pub returns : goal.returns
unfolding word_in
returns c = λ l. rw (c.word_at.ensures, c.word_at-2.ensures, c.word_at-3.ensures, c.word_at-4.ensures) (lane-map (λ (m : List ℕ). word m c.args.at) l c.args.a.now c.args.b.now c.args.c.now c.args.d.now)
