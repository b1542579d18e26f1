-- One round after the other, and one word after the other: each takes the place of the one sixteen before it.
use Rattle.std.proofs.Common.{◌≡◌, length, set, lit<, lit≤, rules}
use Rattle.hash.proofs.Stages.{no_round, one-round, ring_first, overwritten, next_made}
use Rattle.hash.proofs.compress.next_stage.Goals as goal

pub bounds-x-0 : goal.bounds-x-0
bounds-x-0 c = lit< tt

pub bounds-w-14 : goal.bounds-w-14
bounds-w-14 c = lit< tt

pub bounds-w-9 : goal.bounds-w-9
bounds-w-9 c = lit< tt

pub bounds-w-1 : goal.bounds-w-1
bounds-w-1 c = lit< tt

pub bounds-w-0 : goal.bounds-w-0
bounds-w-0 c = lit< tt

pub bounds-w-0-2 : goal.bounds-w-0-2
bounds-w-0-2 c = lit< tt

pub bounds-x-1 : goal.bounds-x-1
bounds-x-1 c = lit< tt

pub bounds-w-15 : goal.bounds-w-15
bounds-w-15 c = lit< tt

pub bounds-w-10 : goal.bounds-w-10
bounds-w-10 c = lit< tt

pub bounds-w-2 : goal.bounds-w-2
bounds-w-2 c = lit< tt

pub bounds-w-1-2 : goal.bounds-w-1-2
bounds-w-1-2 c = lit< tt

pub bounds-w-1-3 : goal.bounds-w-1-3
bounds-w-1-3 c = lit< tt

pub bounds-x-2 : goal.bounds-x-2
bounds-x-2 c = lit< tt

pub bounds-w-0-3 : goal.bounds-w-0-3
bounds-w-0-3 c = lit< tt

pub bounds-w-11 : goal.bounds-w-11
bounds-w-11 c = lit< tt

pub bounds-w-3 : goal.bounds-w-3
bounds-w-3 c = lit< tt

pub bounds-w-2-2 : goal.bounds-w-2-2
bounds-w-2-2 c = lit< tt

pub bounds-w-2-3 : goal.bounds-w-2-3
bounds-w-2-3 c = lit< tt

pub bounds-x-3 : goal.bounds-x-3
bounds-x-3 c = lit< tt

pub bounds-w-1-4 : goal.bounds-w-1-4
bounds-w-1-4 c = lit< tt

pub bounds-w-12 : goal.bounds-w-12
bounds-w-12 c = lit< tt

pub bounds-w-4 : goal.bounds-w-4
bounds-w-4 c = lit< tt

pub bounds-w-3-2 : goal.bounds-w-3-2
bounds-w-3-2 c = lit< tt

pub bounds-w-3-3 : goal.bounds-w-3-3
bounds-w-3-3 c = lit< tt

pub bounds-x-4 : goal.bounds-x-4
bounds-x-4 c = lit< tt

pub bounds-w-2-4 : goal.bounds-w-2-4
bounds-w-2-4 c = lit< tt

pub bounds-w-13 : goal.bounds-w-13
bounds-w-13 c = lit< tt

pub bounds-w-5 : goal.bounds-w-5
bounds-w-5 c = lit< tt

pub bounds-w-4-2 : goal.bounds-w-4-2
bounds-w-4-2 c = lit< tt

pub bounds-w-4-3 : goal.bounds-w-4-3
bounds-w-4-3 c = lit< tt

pub bounds-x-5 : goal.bounds-x-5
bounds-x-5 c = lit< tt

pub bounds-w-3-4 : goal.bounds-w-3-4
bounds-w-3-4 c = lit< tt

pub bounds-w-14-2 : goal.bounds-w-14-2
bounds-w-14-2 c = lit< tt

pub bounds-w-6 : goal.bounds-w-6
bounds-w-6 c = lit< tt

pub bounds-w-5-2 : goal.bounds-w-5-2
bounds-w-5-2 c = lit< tt

pub bounds-w-5-3 : goal.bounds-w-5-3
bounds-w-5-3 c = lit< tt

pub bounds-x-6 : goal.bounds-x-6
bounds-x-6 c = lit< tt

pub bounds-w-4-4 : goal.bounds-w-4-4
bounds-w-4-4 c = lit< tt

pub bounds-w-15-2 : goal.bounds-w-15-2
bounds-w-15-2 c = lit< tt

pub bounds-w-7 : goal.bounds-w-7
bounds-w-7 c = lit< tt

pub bounds-w-6-2 : goal.bounds-w-6-2
bounds-w-6-2 c = lit< tt

pub bounds-w-6-3 : goal.bounds-w-6-3
bounds-w-6-3 c = lit< tt

pub bounds-x-7 : goal.bounds-x-7
bounds-x-7 c = lit< tt

pub bounds-w-5-4 : goal.bounds-w-5-4
bounds-w-5-4 c = lit< tt

pub bounds-w-0-4 : goal.bounds-w-0-4
bounds-w-0-4 c = lit< tt

pub bounds-w-8 : goal.bounds-w-8
bounds-w-8 c = lit< tt

pub bounds-w-7-2 : goal.bounds-w-7-2
bounds-w-7-2 c = lit< tt

pub bounds-w-7-3 : goal.bounds-w-7-3
bounds-w-7-3 c = lit< tt

pub bounds-x-8 : goal.bounds-x-8
bounds-x-8 c = lit< tt

pub bounds-w-6-4 : goal.bounds-w-6-4
bounds-w-6-4 c = lit< tt

pub bounds-w-1-5 : goal.bounds-w-1-5
bounds-w-1-5 c = lit< tt

pub bounds-w-9-2 : goal.bounds-w-9-2
bounds-w-9-2 c = lit< tt

pub bounds-w-8-2 : goal.bounds-w-8-2
bounds-w-8-2 c = lit< tt

pub bounds-w-8-3 : goal.bounds-w-8-3
bounds-w-8-3 c = lit< tt

pub bounds-x-9 : goal.bounds-x-9
bounds-x-9 c = lit< tt

pub bounds-w-7-4 : goal.bounds-w-7-4
bounds-w-7-4 c = lit< tt

pub bounds-w-2-5 : goal.bounds-w-2-5
bounds-w-2-5 c = lit< tt

pub bounds-w-10-2 : goal.bounds-w-10-2
bounds-w-10-2 c = lit< tt

pub bounds-w-9-3 : goal.bounds-w-9-3
bounds-w-9-3 c = lit< tt

pub bounds-w-9-4 : goal.bounds-w-9-4
bounds-w-9-4 c = lit< tt

pub bounds-x-10 : goal.bounds-x-10
bounds-x-10 c = lit< tt

pub bounds-w-8-4 : goal.bounds-w-8-4
bounds-w-8-4 c = lit< tt

pub bounds-w-3-5 : goal.bounds-w-3-5
bounds-w-3-5 c = lit< tt

pub bounds-w-11-2 : goal.bounds-w-11-2
bounds-w-11-2 c = lit< tt

pub bounds-w-10-3 : goal.bounds-w-10-3
bounds-w-10-3 c = lit< tt

pub bounds-w-10-4 : goal.bounds-w-10-4
bounds-w-10-4 c = lit< tt

pub bounds-x-11 : goal.bounds-x-11
bounds-x-11 c = lit< tt

pub bounds-w-9-5 : goal.bounds-w-9-5
bounds-w-9-5 c = lit< tt

pub bounds-w-4-5 : goal.bounds-w-4-5
bounds-w-4-5 c = lit< tt

pub bounds-w-12-2 : goal.bounds-w-12-2
bounds-w-12-2 c = lit< tt

pub bounds-w-11-3 : goal.bounds-w-11-3
bounds-w-11-3 c = lit< tt

pub bounds-w-11-4 : goal.bounds-w-11-4
bounds-w-11-4 c = lit< tt

pub bounds-x-12 : goal.bounds-x-12
bounds-x-12 c = lit< tt

pub bounds-w-10-5 : goal.bounds-w-10-5
bounds-w-10-5 c = lit< tt

pub bounds-w-5-5 : goal.bounds-w-5-5
bounds-w-5-5 c = lit< tt

pub bounds-w-13-2 : goal.bounds-w-13-2
bounds-w-13-2 c = lit< tt

pub bounds-w-12-3 : goal.bounds-w-12-3
bounds-w-12-3 c = lit< tt

pub bounds-w-12-4 : goal.bounds-w-12-4
bounds-w-12-4 c = lit< tt

pub bounds-x-13 : goal.bounds-x-13
bounds-x-13 c = lit< tt

pub bounds-w-11-5 : goal.bounds-w-11-5
bounds-w-11-5 c = lit< tt

pub bounds-w-6-5 : goal.bounds-w-6-5
bounds-w-6-5 c = lit< tt

pub bounds-w-14-3 : goal.bounds-w-14-3
bounds-w-14-3 c = lit< tt

pub bounds-w-13-3 : goal.bounds-w-13-3
bounds-w-13-3 c = lit< tt

pub bounds-w-13-4 : goal.bounds-w-13-4
bounds-w-13-4 c = lit< tt

pub bounds-x-14 : goal.bounds-x-14
bounds-x-14 c = lit< tt

pub bounds-w-12-5 : goal.bounds-w-12-5
bounds-w-12-5 c = lit< tt

pub bounds-w-7-5 : goal.bounds-w-7-5
bounds-w-7-5 c = lit< tt

pub bounds-w-15-3 : goal.bounds-w-15-3
bounds-w-15-3 c = lit< tt

pub bounds-w-14-4 : goal.bounds-w-14-4
bounds-w-14-4 c = lit< tt

pub bounds-w-14-5 : goal.bounds-w-14-5
bounds-w-14-5 c = lit< tt

pub bounds-x-15 : goal.bounds-x-15
bounds-x-15 c = lit< tt

pub bounds-w-13-5 : goal.bounds-w-13-5
bounds-w-13-5 c = lit< tt

pub bounds-w-8-5 : goal.bounds-w-8-5
bounds-w-8-5 c = lit< tt

pub bounds-w-0-5 : goal.bounds-w-0-5
bounds-w-0-5 c = lit< tt

pub bounds-w-15-4 : goal.bounds-w-15-4
bounds-w-15-4 c = lit< tt

pub bounds-w-15-5 : goal.bounds-w-15-5
bounds-w-15-5 c = lit< tt

pub returns : goal.returns
returns c =
    let lm : length c.args.t.w ≡ 16 = search rules in
    let r0 = one-round c.args.t.s c.args.t.x 0 c.args.t.s c.round-r0.result (no_round c.args.t.s c.args.t.x) c.round-r0.ensures in
    let r1 = one-round c.args.t.s c.args.t.x 1 c.round-r0.result c.round-r1.result r0 c.round-r1.ensures in
    let r2 = one-round c.args.t.s c.args.t.x 2 c.round-r1.result c.round-r2.result r1 c.round-r2.ensures in
    let r3 = one-round c.args.t.s c.args.t.x 3 c.round-r2.result c.round-r3.result r2 c.round-r3.ensures in
    let r4 = one-round c.args.t.s c.args.t.x 4 c.round-r3.result c.round-r4.result r3 c.round-r4.ensures in
    let r5 = one-round c.args.t.s c.args.t.x 5 c.round-r4.result c.round-r5.result r4 c.round-r5.ensures in
    let r6 = one-round c.args.t.s c.args.t.x 6 c.round-r5.result c.round-r6.result r5 c.round-r6.ensures in
    let r7 = one-round c.args.t.s c.args.t.x 7 c.round-r6.result c.round-r7.result r6 c.round-r7.ensures in
    let r8 = one-round c.args.t.s c.args.t.x 8 c.round-r7.result c.round-r8.result r7 c.round-r8.ensures in
    let r9 = one-round c.args.t.s c.args.t.x 9 c.round-r8.result c.round-r9.result r8 c.round-r9.ensures in
    let r10 = one-round c.args.t.s c.args.t.x 10 c.round-r9.result c.round-r10.result r9 c.round-r10.ensures in
    let r11 = one-round c.args.t.s c.args.t.x 11 c.round-r10.result c.round-r11.result r10 c.round-r11.ensures in
    let r12 = one-round c.args.t.s c.args.t.x 12 c.round-r11.result c.round-r12.result r11 c.round-r12.ensures in
    let r13 = one-round c.args.t.s c.args.t.x 13 c.round-r12.result c.round-r13.result r12 c.round-r13.ensures in
    let r14 = one-round c.args.t.s c.args.t.x 14 c.round-r13.result c.round-r14.result r13 c.round-r14.ensures in
    let r15 = one-round c.args.t.s c.args.t.x 15 c.round-r14.result c.round-r15.result r14 c.round-r15.ensures in
    let w1 = set c.args.t.w 0 c.next_word.result in
    let g1 = overwritten c.args.t.w c.args.t.w 16 c.next_word.result lm (lit≤ tt) (lit< tt) (ring_first c.args.t.w lm) c.next_word.ensures in
    let w2 = set w1 1 c.next_word-2.result in
    let g2 = overwritten c.args.t.w w1 17 c.next_word-2.result lm (lit≤ tt) (lit< tt) g1 c.next_word-2.ensures in
    let w3 = set w2 2 c.next_word-3.result in
    let g3 = overwritten c.args.t.w w2 18 c.next_word-3.result lm (lit≤ tt) (lit< tt) g2 c.next_word-3.ensures in
    let w4 = set w3 3 c.next_word-4.result in
    let g4 = overwritten c.args.t.w w3 19 c.next_word-4.result lm (lit≤ tt) (lit< tt) g3 c.next_word-4.ensures in
    let w5 = set w4 4 c.next_word-5.result in
    let g5 = overwritten c.args.t.w w4 20 c.next_word-5.result lm (lit≤ tt) (lit< tt) g4 c.next_word-5.ensures in
    let w6 = set w5 5 c.next_word-6.result in
    let g6 = overwritten c.args.t.w w5 21 c.next_word-6.result lm (lit≤ tt) (lit< tt) g5 c.next_word-6.ensures in
    let w7 = set w6 6 c.next_word-7.result in
    let g7 = overwritten c.args.t.w w6 22 c.next_word-7.result lm (lit≤ tt) (lit< tt) g6 c.next_word-7.ensures in
    let w8 = set w7 7 c.next_word-8.result in
    let g8 = overwritten c.args.t.w w7 23 c.next_word-8.result lm (lit≤ tt) (lit< tt) g7 c.next_word-8.ensures in
    let w9 = set w8 8 c.next_word-9.result in
    let g9 = overwritten c.args.t.w w8 24 c.next_word-9.result lm (lit≤ tt) (lit< tt) g8 c.next_word-9.ensures in
    let w10 = set w9 9 c.next_word-10.result in
    let g10 = overwritten c.args.t.w w9 25 c.next_word-10.result lm (lit≤ tt) (lit< tt) g9 c.next_word-10.ensures in
    let w11 = set w10 10 c.next_word-11.result in
    let g11 = overwritten c.args.t.w w10 26 c.next_word-11.result lm (lit≤ tt) (lit< tt) g10 c.next_word-11.ensures in
    let w12 = set w11 11 c.next_word-12.result in
    let g12 = overwritten c.args.t.w w11 27 c.next_word-12.result lm (lit≤ tt) (lit< tt) g11 c.next_word-12.ensures in
    let w13 = set w12 12 c.next_word-13.result in
    let g13 = overwritten c.args.t.w w12 28 c.next_word-13.result lm (lit≤ tt) (lit< tt) g12 c.next_word-13.ensures in
    let w14 = set w13 13 c.next_word-14.result in
    let g14 = overwritten c.args.t.w w13 29 c.next_word-14.result lm (lit≤ tt) (lit< tt) g13 c.next_word-14.ensures in
    let w15 = set w14 14 c.next_word-15.result in
    let g15 = overwritten c.args.t.w w14 30 c.next_word-15.result lm (lit≤ tt) (lit< tt) g14 c.next_word-15.ensures in
    let w16 = set w15 15 c.next_word-16.result in
    let g16 = overwritten c.args.t.w w15 31 c.next_word-16.result lm (lit≤ tt) (lit< tt) g15 c.next_word-16.ensures in
    next_made c.args.t c.stage_of.result c.args.k w16 c.round-r15.result lm r15 g16 c.stage_of.ensures
