use Rattle.listing.proofs.TextLaws.{decimal-one, decimal_on}
use Rattle.listing.proofs.text.+write_decimal.Goals as goal

pub returns-then-n-lt10 : goal.returns-then-n-lt10
returns-then-n-lt10 t c = decimal-one _ _ c.if-n-lt10.true c.digit.ensures c.put.ensures

pub returns : goal.returns
returns t c = decimal_on _ _ c.if-n-lt10.false c.write_decimal-next.ensures c.digit-2.ensures c.put-2.ensures
