use Rattle.lanes.proofs.SideBySide.{word_in-words}
use Rattle.lanes.proofs.words.Goals as goal

pub returns : goal.returns
returns c j =
    word_in-words j c.args.i c.word_at.result c.word_at-2.result c.word_at-3.result c.word_at-4.result c.args.n
    c.word_at.ensures c.word_at-2.ensures c.word_at-3.ensures c.word_at-4.ensures
