use mathlib.Core.Path.{sym, ◌∙◌}
use native.Mathlib.Numerals.{add-one}
use native.Mathlib.Omega.{arith}
use Rattle.spv.specs.Hashes.{hashes}
use Rattle.order.proofs.IdsLaws.{passed_start, search_on, search-here, search-end}
use Rattle.order.proofs.ids.find.Goals as goal

pub loop-i-init : goal.loop-i-init
loop-i-init c = (omega arith, c.key_of-key.ensures, passed_start c.args.x (hashes c.args.n c.args.ids.now))

pub bounds-keys-i : goal.bounds-keys-i
bounds-keys-i c = omega arith

pub is_id-requires : goal.is_id-requires
is_id-requires c = record { i_bound = omega arith; own_value = c.requires.keys.1 c.loop-i.i (omega arith); key_value = c.loop-i.invariant.1 }

pub returns-then-is_id : goal.returns-then-is_id
returns-then-is_id c = search-here c.args.x c.args.ids.now c.args.n (omega arith) c.loop-i.i (omega arith) c.loop-i.invariant.2 (sym c.is_id.ensures ∙ c.if-is_id.true)

pub loop-i-preserved : goal.loop-i-preserved
loop-i-preserved c = (omega arith, c.loop-i.invariant.1, rw add-one (search_on c.args.x c.args.ids.now c.args.n (omega arith) c.loop-i.i (omega arith) c.loop-i.invariant.2 (sym c.is_id.ensures ∙ c.if-is_id.false)))

pub returns : goal.returns
returns c = search-end c.args.x c.args.ids.now c.args.n (omega arith) c.loop-i.i (omega arith) c.loop-i.invariant.2
