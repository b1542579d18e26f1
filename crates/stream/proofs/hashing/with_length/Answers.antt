use Rattle.stream.proofs.Blocks.{two-set}
use Rattle.stream.specs.HashState.{with_length}
use lib.ListN.{length}
use mathlib.Core.Path.{◌≡◌}
use Prim.Native.Nat.{◌%◌, ◌*◌, ◌/◌}
use borrow.Author.Rules.{rules}
use Rattle.stream.proofs.hashing.with_length.Goals as goal

pub returns : goal.returns
unfolding with_length
returns c = let h : length c.args.m ≡ 16 = search rules in two-set c.args.m (c.args.n % 4294967296 * 8 / 4294967296) (c.args.n % 4294967296 * 8 % 4294967296) h
