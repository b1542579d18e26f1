-- The bytes of one word more, and of all words.
use Rattle.std.proofs.Common.{◌≡◌, ◌∙◌, refl, arith, sym, take_all}
use borrow.Rule.Slice.PartMut.{same_len_mid}
use Rattle.hash.specs.Sha256.{big_endian, digest}
use Rattle.hash.proofs.Digests.{bytes_of, bytes_step}
use Rattle.hash.proofs.digest_bytes.Goals as goal

pub loop-t-init : goal.loop-t-init
unfolding bytes_of
loop-t-init c = (omega arith, refl, refl)

pub loop-t-preserved : goal.loop-t-preserved
loop-t-preserved c = (
  omega arith,
  same_len_mid _ _ _ _ c.copy_from_slice.ensures.len ∙ c.loop-t.invariant.1,
  bytes_step _ c.loop-t.bytes c.copy_from_slice.new.self c.loop-t.t (omega arith) (omega arith) (c.copy_from_slice.ensures.after ∙ c.to_be_bytes.ensures) c.loop-t.invariant.2,
)

pub returns : goal.returns
unfolding digest bytes_of big_endian
returns c =
    let e : c.loop-t.t ≡ 8 = omega arith in
    sym (take_all 32 c.loop-t.bytes (omega arith)) ∙ rw e at c.loop-t.invariant.2
