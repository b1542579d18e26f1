use Prim.Native.Nat.{◌-◌, ◌≤◌}
use mathlib.Core.Path.{◌≡◌}
use mathlib.Core.List.{List}
use lib.ListN.{length}
use Rattle.bundle.specs.Amounts.{Payment}
use Rattle.bundle.specs.Numbers.{output_count}
use Rattle.bundle.specs.Pictured.{Pictured}
use Rattle.bundle.specs.Pass.{Firsts, Reached, Blank}
use Rattle.bundle.proofs.pass.all_windows.Given as goal

abbrev pub invariant-loop-base : goal.invariant-loop-base
invariant-loop-base r = (r.base ≤ r.total) × (length r.sums ≡ length r.initial.sums) × ((l : List Payment) → length l ≡ r.n → Pictured r.s r.ids r.numbers l → Firsts r.firsts l → r.total ≡ output_count l → Blank 256 r.initial.sums → Reached r.s l r.base r.first r.walk r.sums)

abbrev pub decreases-loop-base : goal.decreases-loop-base
decreases-loop-base l = l.total - l.base
