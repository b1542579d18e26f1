-- A block within the message's blocks, or zeros.
use Rattle.std.proofs.Common.{sym, ◌∙◌, arith}
use Rattle.hash.proofs.Padding.{block_within, block-past, block_none}
use Rattle.hash.proofs.block_of.Goals as goal
use Rattle.hash.proofs.block_of.Goals.{else-n-le-MAX_INPUT-via-then-n-le-MAX_INPUT+else-i-n, else-n-le-MAX_INPUT-via-else-n-le-MAX_INPUT}

pub returns-then-i-n : goal.returns-then-i-n
returns-then-i-n c = c.block.ensures ∙ sym (block_within c.args.s.now c.args.i (omega arith) (omega arith))

pub returns-else-n-le-MAX_INPUT : goal.returns-else-n-le-MAX_INPUT
returns-else-n-le-MAX_INPUT c =
    elim c.else-n-le-MAX_INPUT.branch [
      | else-n-le-MAX_INPUT-via-then-n-le-MAX_INPUT+else-i-n w ↦ sym (block-past c.args.s.now c.args.i (omega arith))
      | else-n-le-MAX_INPUT-via-else-n-le-MAX_INPUT w ↦ sym (block_none c.args.s.now c.args.i (omega arith))
    ]
