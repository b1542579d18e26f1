use Rattle.std.proofs.Common.{sym, ◌∙◌, refl, arith}
use Rattle.encoding.proofs.VarintEncoding.{varint-length}
use Rattle.merging.proofs.MergeLaws.{agreed-low, unlike, too_many, two-hashes, other-root, bytes_over, list_over, both_fit}
use Rattle.merging.proofs.merging.weigh.Goals as goal
use Rattle.merging.proofs.merging.weigh.Goals.{then-tally-2-via-then-tally-2, then-tally-2-via-else-tally-2+then-not-both_reach, then-bytes-size-via-then-bytes-size, then-bytes-size-via-else-bytes-size+then-rows-tally}

pub returns-then-not-alike : goal.returns-then-not-alike
returns-then-not-alike c = rw (c.reject_for.ensures, unlike _ _ c.args.x c.args.y _ _ c.requires.0 c.requires.1 c.args.bytes c.args.rows (sym c.alike.ensures ∙ c.if-not-alike.true)) refl

pub tally_paths-tally-requires : goal.tally_paths-tally-requires
tally_paths-tally-requires c = agreed-low _ _ _ c.requires.0

pub returns-then-tally : goal.returns-then-tally
returns-then-tally c =
    rw (c.reject_for-then-tally.ensures, too_many _ _ c.args.x c.args.y _ _ c.requires.0 c.requires.1 c.args.bytes c.args.rows (sym c.alike.ensures ∙ c.if-not-alike.false) _ c.tally_paths-tally.ensures.0 c.if-tally.true) refl

pub both_reach-requires : goal.both_reach-requires
both_reach-requires c = agreed-low _ _ _ c.requires.0

pub returns-then-tally-2 : goal.returns-then-tally-2
returns-then-tally-2 c =
    elim c.then-tally-2.branch [
      | then-tally-2-via-then-tally-2 w ↦ rw (c.reject_for-then-tally-2.ensures, two-hashes _ _ c.args.x c.args.y _ _ c.requires.0 c.requires.1 c.args.bytes c.args.rows (sym c.alike.ensures ∙ c.if-not-alike.false) _ c.tally_paths-tally.ensures.0 c.if-tally.false w.if-tally-2.true) refl
      | then-tally-2-via-else-tally-2+then-not-both_reach w ↦ rw (c.reject_for-then-tally-2.ensures, other-root _ _ c.args.x c.args.y _ _ c.requires.0 c.requires.1 c.args.bytes c.args.rows (sym c.alike.ensures ∙ c.if-not-alike.false) _ c.tally_paths-tally.ensures.0 c.if-tally.false w.if-tally-2.false (sym w.both_reach.ensures ∙ w.if-not-both_reach.true)) refl
    ]

pub overflow_add-size : goal.overflow_add-size
overflow_add-size c = let l = varint-length c.args.x.block in omega (arith, l, c.varint_size.ensures)

pub overflow_add-size-2 : goal.overflow_add-size-2
overflow_add-size-2 c = let l = varint-length c.args.x.block in omega (arith, l, c.varint_size.ensures, c.tally_paths-tally.ensures.1)

pub returns-then-bytes-size : goal.returns-then-bytes-size
returns-then-bytes-size c =
    let reach = sym c.both_reach.ensures ∙ c.if-not-both_reach.false in
    elim c.then-bytes-size.branch [
      | then-bytes-size-via-then-bytes-size w ↦ rw (c.reject_for-then-bytes-size.ensures, bytes_over _ _ c.args.x c.args.y _ _ c.requires.0 c.requires.1 c.args.bytes c.args.rows (sym c.alike.ensures ∙ c.if-not-alike.false) _ c.tally_paths-tally.ensures.0 c.if-tally.false c.if-tally-2.false reach _ c.varint_size.ensures w.if-bytes-size.true) refl
      | then-bytes-size-via-else-bytes-size+then-rows-tally w ↦ rw (c.reject_for-then-bytes-size.ensures, list_over _ _ c.args.x c.args.y _ _ c.requires.0 c.requires.1 c.args.bytes c.args.rows (sym c.alike.ensures ∙ c.if-not-alike.false) _ c.tally_paths-tally.ensures.0 c.if-tally.false c.if-tally-2.false reach _ c.varint_size.ensures w.if-rows-tally.true) refl
    ]

pub returns : goal.returns
returns c =
    both_fit _ _ c.args.x c.args.y _ _ c.requires.0 c.requires.1 _ _ (sym c.alike.ensures ∙ c.if-not-alike.false) _ c.tally_paths-tally.ensures.0 c.if-tally.false c.if-tally-2.false
    (sym c.both_reach.ensures ∙ c.if-not-both_reach.false) _ c.varint_size.ensures c.if-bytes-size.false c.if-rows-tally.false
