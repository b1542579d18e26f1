use native.Mathlib.Omega.{arith}
use mathlib.Core.Path.{refl, sym, ◌∙◌}
use native.Mathlib.Nat.{sub-zero}
use lib.ListN.{length, length-set}
use Rattle.format.proofs.LevelLaws.{turn_below}
use Rattle.format.proofs.ParseLaws.{each-ok, each-fault}
use Rattle.path.proofs.PathLaws.{placing-end, placing-stop, placing_on}
use Rattle.path.proofs.path.level_places.Goals as goal

pub loop-i-init : goal.loop-i-init
loop-i-init c = (omega arith, refl, simp sub-zero)

pub offset_bounds-known-level : goal.offset_bounds-known-level
offset_bounds-known-level c = let h = turn_below _ _ _ _ c.level_in_turn-level.ensures (omega arith) in omega arith

pub bounds-known-level : goal.bounds-known-level
bounds-known-level c = let h = turn_below _ _ _ _ c.level_in_turn-level.ensures (omega arith) in omega arith

pub returns-in_default : goal.returns-in_default
returns-in_default c = sym (c.loop-i.invariant.2 ∙ placing-stop _ _ _ _ _ _ _ _ (omega arith) c.level_in_turn-level.ensures (each-fault length _ (sym c.in_default.ensures)))

pub loop-i-preserved : goal.loop-i-preserved
loop-i-preserved c = (omega arith, simp length-set c.loop-i.invariant.1, c.loop-i.invariant.2 ∙ placing_on _ _ _ _ _ _ _ _ _ (omega arith) c.level_in_turn-level.ensures (each-ok length _ (sym c.in-Ok.ensures)).1)

pub returns : goal.returns
returns c = sym (c.loop-i.invariant.2 ∙ placing-end _ _ _ _ _ _ _ (omega arith))
