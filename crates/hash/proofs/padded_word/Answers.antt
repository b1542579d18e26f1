-- Each return is a word of the padded message: in the message, among the zeros, or of four bytes.
use Rattle.std.proofs.Common.{◌∙◌, arith}
use Rattle.hash.specs.Sha256.{word, word4}
use Rattle.hash.proofs.Padding.{word-front, word-zero}
use Rattle.hash.proofs.padded_word.Goals as goal

pub returns-then-at-n : goal.returns-then-at-n
unfolding word
returns-then-at-n c = c.word_at.ensures ∙ word-front c.args.s.now c.args.at (omega arith)

pub returns-then-at-end : goal.returns-then-at-end
returns-then-at-end c = word-zero c.args.s.now c.args.at (omega arith) (omega arith)

pub returns : goal.returns
unfolding word word4
returns c = c.from_be_bytes.ensures ∙ rw (c.padded_byte.ensures, c.padded_byte-2.ensures, c.padded_byte-3.ensures, c.padded_byte-4.ensures)
