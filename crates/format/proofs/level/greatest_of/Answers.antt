use native.Mathlib.Omega.{arith}
use Prim.Native.Nat.{◌≤◌, ◌-◌, ◌^◌}
use lib.Pow.{pow_pos, pow_mono}
use Rattle.format.proofs.LevelLaws.{halves}
use Rattle.format.proofs.level.greatest_of.Goals as goal

pub overflow_sub-result : goal.overflow_sub-result
overflow_sub-result c = omega (arith, c.power-half.ensures, pow_pos (c.args.n - 1))

pub overflow_add-result : goal.overflow_add-result
overflow_add-result c =
    let h : c.args.n ≤ 64 = c.requires.1 in
    let p : 2 ^ c.args.n ≤ 2 ^ 64 = pow_mono h in
    omega (arith, c.power-half.ensures, halves c.args.n c.requires.0)

pub returns : goal.returns
returns c = omega (arith, c.power-half.ensures, halves c.args.n c.requires.0, pow_pos (c.args.n - 1))
