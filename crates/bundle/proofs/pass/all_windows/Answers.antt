use mathlib.Core.Path.{refl}
use native.Mathlib.Omega.{arith}
use Rattle.bundle.proofs.ReachLaws.{reached-start}
use Rattle.bundle.proofs.pass.all_windows.Goals as goal

pub loop-base-init : goal.loop-base-init
loop-base-init c = (omega arith, refl, λ l e p f t b. reached-start c.args.s.now c.args.ids.now c.args.numbers.now l p _ _ _ e c.requires.le_n c.walk_at-walk.ensures b)

-- the last window
