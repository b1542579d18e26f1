use mathlib.Core.List.{List}
use native.Mathlib.Omega.{arith}
use lib.Seq.{length-take-le, paste}
use lib.ListN.{length, replicate}
use Rattle.stream.proofs.Blocks.{absorbs_long, absorbs_short, drop_all}
use Prim.Native.Nat.{◌%◌, ◌*◌, ◌+◌, ◌-◌, ◌/◌, ℕ}
use mathlib.Core.Path.{◌∙◌, ap, refl, sym}
use Rattle.stream.specs.HashState.{blocks_from}
use Rattle.stream.proofs.hashing.absorb.Goals as goal

pub returns-then-part-room : goal.returns-then-part-room
returns-then-part-room c = absorbs_short c.args.h c.args.n c.args.part.now c.if-part-room.true c.laid-tail.ensures

pub slice_bounds-laid-end : goal.slice_bounds-laid-end
slice_bounds-laid-end c = sym (length-take-le _ _ c.if-part-room.false)

pub laid-full-requires : goal.laid-full-requires
laid-full-requires c = let e = length-take-le (64 - c.args.n % 64) c.args.part.now c.if-part-room.false in omega arith

pub returns : goal.returns
returns c =
    absorbs_long c.args.h c.args.n (64 - c.args.n % 64) c.args.part.now refl c.if-part-room.false c.laid-full.ensures c.block.ensures c.unpacked.ensures c.compressed-first.ensures
    (c.whole_blocks-last.ensures ∙ ap (λ (x : List ℕ). blocks_from c.compressed-first.result x (length x / 64)) (drop_all (64 - c.args.n % 64) c.args.part.now)) (c.laid.ensures ∙ ap (λ (x : List ℕ). paste (replicate 64 0) 0 x (length x)) (drop_all (64 - c.args.n % 64 + (length c.args.part.now - (64 - c.args.n % 64)) / 64 * 64) c.args.part.now)) c.packed.ensures
