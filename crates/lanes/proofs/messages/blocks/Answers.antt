-- Blocks that lie within all messages, or blocks of any kind.
use Rattle.std.proofs.Common.{◌≡◌, ℕ, ◌*◌, List, ◌∙◌, arith}
use Rattle.hash.specs.Sha256.{words}
use Rattle.hash.specs.Parts.{block_of}
use Rattle.lanes.proofs.SideBySide.{lane-all, lane-map}
use Rattle.lanes.proofs.Turns.{block_in}
use Rattle.lanes.proofs.messages.blocks.Goals as goal

pub returns-then-i-d : goal.returns-then-i-d
returns-then-i-d c =
    λ l. c.blocks_in.ensures l
    ∙ lane-all (λ (m : List ℕ). words m (64 * c.args.i) 16 ≡ block_of m c.args.i) l (block_in c.args.a.now c.args.i c.requires.0 (omega arith)) (block_in c.args.b.now c.args.i c.requires.1 (omega arith)) (block_in c.args.c.now c.args.i c.requires.2 (omega arith)) (block_in c.args.d.now c.args.i c.requires.3 (omega arith))

pub returns : goal.returns
returns c =
    λ l. c.columns.ensures l
    ∙ rw (c.block_of.ensures, c.block_of-2.ensures, c.block_of-3.ensures, c.block_of-4.ensures) (lane-map (λ (m : List ℕ). block_of m c.args.i) l c.args.a.now c.args.b.now c.args.c.now c.args.d.now)
