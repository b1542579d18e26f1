-- Each return is a part of the padded message: the message, the bit 1, the zeros, the length.
use Rattle.std.proofs.Common.{sym, arith}
use Rattle.hash.proofs.Padding.{pad-front, pad-one, pad-zero, pad-length}
use Rattle.hash.proofs.padded_byte.Goals as goal

pub returns-then-i-n : goal.returns-then-i-n
returns-then-i-n c = sym (pad-front c.args.s.now c.args.i (omega arith))

pub returns-then-i-n-2 : goal.returns-then-i-n-2
returns-then-i-n-2 c = sym (pad-one c.args.s.now c.args.i (omega arith))

pub returns-then-i-end : goal.returns-then-i-end
returns-then-i-end c = sym (pad-zero c.args.s.now c.args.i (omega arith) (omega arith))

pub returns : goal.returns
returns c = rw c.to_be_bytes-bits.ensures (sym (pad-length c.args.s.now c.args.i (omega arith) (omega arith)))
