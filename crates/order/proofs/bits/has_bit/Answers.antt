use Rattle.order.proofs.BitsLaws.{bit_shifted}
use Rattle.order.proofs.bits.has_bit.Goals as goal

pub returns : goal.returns
returns c = bit_shifted _ _
