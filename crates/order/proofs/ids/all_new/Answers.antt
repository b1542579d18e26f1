use Prim.Native.Nat.{ℕ}
use mathlib.Core.Path.{sym, ap, ◌∙◌}
use mathlib.Core.List.{List}
use native.Mathlib.Numerals.{add-one}
use native.Mathlib.Omega.{arith}
use Rattle.spv.specs.Hashes.{hashes, index_of}
use Rattle.spv.proofs.HashesLaws.{hashes-length}
use Rattle.order.specs.Code.{found}
use Rattle.order.proofs.IdsLaws.{keys_fewer, newly_start, newly_on, newly_fails, newly_ends, new_here}
use Rattle.order.proofs.ids.all_new.Goals as goal

pub loop-i-init : goal.loop-i-init
loop-i-init c = (omega arith, newly_start (hashes c.args.n c.args.ids.now))

pub find-requires : goal.find-requires
find-requires c = record { n_bound = omega arith; keys = keys_fewer c.args.ids.now c.keys_of-keys.result c.loop-i.i c.args.n (omega arith) c.keys_of-keys.ensures }

pub returns-then-is_some : goal.returns-then-is_some
returns-then-is_some c =
    let e = hashes-length c.args.n c.args.ids.now in
    sym (newly_fails (hashes c.args.n c.args.ids.now) c.loop-i.i (omega arith) c.loop-i.invariant.1
    (new_here c.args.ids.now c.args.n c.loop-i.i (omega arith) (omega arith) (c.find.ensures ∙ ap (λ (x : List ℕ). found c.loop-i.i (index_of x (hashes c.loop-i.i c.args.ids.now))) c.hash_at.ensures) ∙ sym c.is_some.ensures ∙ c.if-is_some.true))

pub loop-i-preserved : goal.loop-i-preserved
loop-i-preserved c =
    let e = hashes-length c.args.n c.args.ids.now in (
      omega arith,
      rw add-one (newly_on (hashes c.args.n c.args.ids.now) c.loop-i.i (omega arith) c.loop-i.invariant.1
          (new_here c.args.ids.now c.args.n c.loop-i.i (omega arith) (omega arith) (c.find.ensures ∙ ap (λ (x : List ℕ). found c.loop-i.i (index_of x (hashes c.loop-i.i c.args.ids.now))) c.hash_at.ensures) ∙ sym c.is_some.ensures ∙ c.if-is_some.false)),
    )

pub returns : goal.returns
returns c =
    let e = hashes-length c.args.n c.args.ids.now in
    sym (newly_ends (hashes c.args.n c.args.ids.now) c.loop-i.i (omega arith) c.loop-i.invariant.1)
