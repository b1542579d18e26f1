use Rattle.std.proofs.Common.{ap, ◌∙◌, arith}
use Rattle.encoding.specs.Buffer.{put_on}
use Rattle.encoding.proofs.BufferLaws.{wrote_byte}
use Rattle.merging.proofs.TallyLaws.{wrote_hash, hash-bytes, copy-bytes, flags-few}
use Rattle.merging.proofs.uniting.put_kind.Goals as goal

pub overflow_cast-flags_of : goal.overflow_cast-flags_of
overflow_cast-flags_of c = let few = flags-few c.args.kind in omega (arith, few, c.flags_of.ensures)

pub returns-in-Some : goal.returns-in-Some
returns-in-Some c = wrote_hash _ _ _ _ (hash-bytes c.args.s.now c.args.kind c.in-Some.ensures) (c.put-next.ensures ∙ ap (put_on _) c.flags_of.ensures) c.hash_at.ensures c.write.ensures

pub returns-in-None : goal.returns-in-None
returns-in-None c = wrote_byte _ _ (copy-bytes c.args.s.now c.args.kind c.in-None.ensures) (c.put-next.ensures ∙ ap (put_on _) c.flags_of.ensures)
