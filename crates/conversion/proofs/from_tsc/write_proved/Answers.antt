use mathlib.Core.Path.{refl}
use native.Mathlib.Omega.{arith}
use Rattle.encoding.proofs.VarintEncoding.{varint-length}
use Rattle.block.proofs.LeavesLaws.{wrote_hashed}
use Rattle.block.proofs.CallLaws.{fits_in}
use Rattle.block.proofs.OutputLaws.{refused_so, written-whole}
use Rattle.conversion.proofs.ConvertLaws.{read-target, read-few, read_none, read_short, read_writes, read-size}
use borrow.Author.Rules.{rules}
use Rattle.conversion.proofs.from_tsc.write_proved.Goals as goal

pub node_count_at-requires : goal.node_count_at-requires
node_count_at-requires c = read-target _ _ _ c.requires

pub returns-then-n-eq0 : goal.returns-then-n-eq0
returns-then-n-eq0 c = refused_so _ (read_none _ _ _ c.requires _ _ c.if-n-eq0.true _ c.node_count_at.ensures) c.reject_reading.ensures

pub overflow_add-size : goal.overflow_add-size
overflow_add-size c = let b = varint-length c.args.block in omega arith

pub client_levels_size-requires : goal.client_levels_size-requires
client_levels_size-requires c = let few = read-few _ _ _ c.requires in (omega arith, omega arith)

pub overflow_add-size-2 : goal.overflow_add-size-2
overflow_add-size-2 c = let b = varint-length c.args.block in omega arith

pub returns-then-out-size : goal.returns-then-out-size
returns-then-out-size c =
    let size = read-size _ _ _ c.requires _ 0 c.varint_size.ensures (c.client_levels_size.ensures.0 _ (search rules)) in
    refused_so _ (read_short _ _ _ c.requires _ _ c.if-n-eq0.false (omega arith)) c.reject_for.ensures

pub overflow_cast-n : goal.overflow_cast-n
overflow_cast-n c = let few = read-few _ _ _ c.requires in omega arith

pub returns : goal.returns
returns c =
    let size = read-size _ _ _ c.requires _ 0 c.varint_size.ensures (c.client_levels_size.ensures.0 _ (search rules)) in
    let fits = fits_in size c.if-out-size.false in
    written-whole _ _ fits (read_writes _ _ _ c.requires _ _ c.if-n-eq0.false fits) (wrote_hashed _ _ _ refl c.write_varint-next.ensures c.put-next.ensures c.write_client_levels-next.ensures)
