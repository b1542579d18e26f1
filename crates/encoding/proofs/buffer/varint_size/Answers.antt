use mathlib.Core.Path.{sym, ap}
use native.Mathlib.Omega.{arith}
use lib.ListN.{length}
use Rattle.encoding.specs.Digits.{little}
use Rattle.encoding.proofs.VarintEncoding.{varint-one, varint-two, varint-four, varint-eight}
use Rattle.encoding.proofs.buffer.varint_size.Goals as goal

pub returns-then-n-lt253 : goal.returns-then-n-lt253
returns-then-n-lt253 c = sym (ap length (varint-one _ (omega arith)))

pub returns-then-n-lt65536 : goal.returns-then-n-lt65536
unfolding little
returns-then-n-lt65536 c = sym (ap length (varint-two _ (omega arith) (omega arith)))

pub returns-then-n-lt4294967296 : goal.returns-then-n-lt4294967296
unfolding little
returns-then-n-lt4294967296 c = sym (ap length (varint-four _ (omega arith) (omega arith)))

pub returns : goal.returns
unfolding little
returns c = sym (ap length (varint-eight _ (omega arith)))
