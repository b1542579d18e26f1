-- One round after the other.
use Rattle.std.proofs.Common.{lit<}
use Rattle.hash.proofs.Stages.{no_round, one-round}
use Rattle.hash.proofs.compress.last_rounds.Goals as goal

pub bounds-x-0 : goal.bounds-x-0
bounds-x-0 c = lit< tt

pub bounds-x-1 : goal.bounds-x-1
bounds-x-1 c = lit< tt

pub bounds-x-2 : goal.bounds-x-2
bounds-x-2 c = lit< tt

pub bounds-x-3 : goal.bounds-x-3
bounds-x-3 c = lit< tt

pub bounds-x-4 : goal.bounds-x-4
bounds-x-4 c = lit< tt

pub bounds-x-5 : goal.bounds-x-5
bounds-x-5 c = lit< tt

pub bounds-x-6 : goal.bounds-x-6
bounds-x-6 c = lit< tt

pub bounds-x-7 : goal.bounds-x-7
bounds-x-7 c = lit< tt

pub bounds-x-8 : goal.bounds-x-8
bounds-x-8 c = lit< tt

pub bounds-x-9 : goal.bounds-x-9
bounds-x-9 c = lit< tt

pub bounds-x-10 : goal.bounds-x-10
bounds-x-10 c = lit< tt

pub bounds-x-11 : goal.bounds-x-11
bounds-x-11 c = lit< tt

pub bounds-x-12 : goal.bounds-x-12
bounds-x-12 c = lit< tt

pub bounds-x-13 : goal.bounds-x-13
bounds-x-13 c = lit< tt

pub bounds-x-14 : goal.bounds-x-14
bounds-x-14 c = lit< tt

pub bounds-x-15 : goal.bounds-x-15
bounds-x-15 c = lit< tt

pub returns : goal.returns
returns c =
    let e0 = one-round c.args.s c.args.x 0 c.args.s c.round-r0.result (no_round c.args.s c.args.x) c.round-r0.ensures in
    let e1 = one-round c.args.s c.args.x 1 c.round-r0.result c.round-r1.result e0 c.round-r1.ensures in
    let e2 = one-round c.args.s c.args.x 2 c.round-r1.result c.round-r2.result e1 c.round-r2.ensures in
    let e3 = one-round c.args.s c.args.x 3 c.round-r2.result c.round-r3.result e2 c.round-r3.ensures in
    let e4 = one-round c.args.s c.args.x 4 c.round-r3.result c.round-r4.result e3 c.round-r4.ensures in
    let e5 = one-round c.args.s c.args.x 5 c.round-r4.result c.round-r5.result e4 c.round-r5.ensures in
    let e6 = one-round c.args.s c.args.x 6 c.round-r5.result c.round-r6.result e5 c.round-r6.ensures in
    let e7 = one-round c.args.s c.args.x 7 c.round-r6.result c.round-r7.result e6 c.round-r7.ensures in
    let e8 = one-round c.args.s c.args.x 8 c.round-r7.result c.round-r8.result e7 c.round-r8.ensures in
    let e9 = one-round c.args.s c.args.x 9 c.round-r8.result c.round-r9.result e8 c.round-r9.ensures in
    let e10 = one-round c.args.s c.args.x 10 c.round-r9.result c.round-r10.result e9 c.round-r10.ensures in
    let e11 = one-round c.args.s c.args.x 11 c.round-r10.result c.round-r11.result e10 c.round-r11.ensures in
    let e12 = one-round c.args.s c.args.x 12 c.round-r11.result c.round-r12.result e11 c.round-r12.ensures in
    let e13 = one-round c.args.s c.args.x 13 c.round-r12.result c.round-r13.result e12 c.round-r13.ensures in
    let e14 = one-round c.args.s c.args.x 14 c.round-r13.result c.round-r14.result e13 c.round-r14.ensures in
    let e15 = one-round c.args.s c.args.x 15 c.round-r14.result c.round-r15.result e14 c.round-r15.ensures in
    e15
