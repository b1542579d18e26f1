use Rattle.std.proofs.Common.{◌≡◌, List, ℕ, length, ap, ◌∙◌, arith}
use Rattle.encoding.proofs.VarintEncoding.{varint-length}
use Rattle.format.specs.declared.leaf.Kind.{Kind}
use Rattle.encoding.specs.BumpBytes.{carried_bytes, carried_of}
use Rattle.merging.specs.Walk.{kind_in, kept_by}
use Rattle.merging.proofs.TallyLaws.{size-chosen, size-clash}
use Rattle.merging.proofs.uniting.kept_size.Goals as goal

pub overflow_add-result : goal.overflow_add-result
overflow_add-result c =
    let l = varint-length c.args.offset in
    omega (arith, c.kind_size.ensures.1, c.varint_size.ensures, l)

pub returns-in-Some : goal.returns-in-Some
returns-in-Some c =
    let l = varint-length c.args.offset in
    let size : (s : List ℕ) → c.kind_size.result ≡ length (carried_bytes (carried_of s (kind_in c.in-Some.kept))) = λ s. c.kind_size.ensures.0 s ∙ ap (λ (k : Kind). length (carried_bytes (carried_of s k))) c.kind.ensures in
    (λ s t. rw c.in-Some.is (size-chosen _ _ c.varint_size.ensures size s t), omega (arith, c.kind_size.ensures.1, c.varint_size.ensures, l))

pub returns-in-None : goal.returns-in-None
returns-in-None c = (λ s t. size-clash _ (kept_by s t c.args.choice) (ap (kept_by s t) c.in-None.is), omega arith)
