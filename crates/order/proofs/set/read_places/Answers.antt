use mathlib.Core.Path.{refl, sym}
use native.Mathlib.Omega.{arith}
use Rattle.order.proofs.SetTurns.{reading-start, reading-refused, reading_on, reading_extra, reading-end}
use Rattle.order.proofs.set.read_places.Goals as goal

pub loop-i-init : goal.loop-i-init
loop-i-init c = (reading-start _ _ c.requires.places_value)

pub bounds-places-i : goal.bounds-places-i
bounds-places-i c = omega arith

pub loop-i-preserved : goal.loop-i-preserved
loop-i-preserved c = (reading_on _ _ c.loop-i.invariant c.requires.count_bound c.requires.s_len_bound (omega arith) (sym c.in-Ok.ensures) refl)

pub returns-in-Err : goal.returns-in-Err
returns-in-Err c = rw c.fault.ensures (sym (reading-refused _ _ c.loop-i.invariant (omega arith) (sym c.in-Err.ensures)))

pub returns-then-next-s : goal.returns-then-next-s
returns-then-next-s c = rw c.fault-then-next-s.ensures (sym (reading_extra _ _ c.loop-i.invariant (omega arith) c.if-next-s.true))

pub returns : goal.returns
returns c = sym (reading-end _ _ c.loop-i.invariant (omega arith) c.if-next-s.false)
