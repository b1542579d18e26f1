use Rattle.std.proofs.Common.{◌≡◌, refl, ◌∙◌, ap, sym, subst, arith, ℕ, List}
use Rattle.encoding.specs.Buffer.{buffer, write_on}
use Rattle.encoding.specs.BumpBytes.{carried_bytes}
use Rattle.spv.specs.Climb.{Sibling, Step, step}
use Rattle.spv.specs.Trace.{as_carried}
use Rattle.spv.specs.PositionFits.{PositionFits}
use Rattle.spv.proofs.PositionFitsLaws.{low-start, low_half, low-sibling}
use Rattle.spv.specs.Siblings.{path_siblings}
use Rattle.spv.proofs.Turns.{climbing_start, climbing_end, climbing_up, climbing_stop}
use Rattle.spv.proofs.Traces.{trailing_start, trailing_end, trailing_up}
use Rattle.spv.proofs.trace.climb_writing.Goals as goal

step-at : (x y : Sibling) (o : _) (c : List ℕ) (t : Step) → t ≡ step x o c → x ≡ y → step y o c ≡ t
step-at x y o c t e g = sym (e ∙ ap (λ (z : Sibling). step z o c) g)

pub loop-k-init : goal.loop-k-init
loop-k-init c = record { climbing = climbing_start _ _ _ _; fits = low-start _ (omega arith); trailing = trailing_start _ _ _ _ _; room = refl }

pub sibling_at-node-requires : goal.sibling_at-node-requires
sibling_at-node-requires c = λ low. subst (PositionFits c.loop-k.k) (sym c.sibling_position-q.ensures) (low-sibling _ _ low c.loop-k.invariant.fits)

pub loop-k-preserved : goal.loop-k-preserved
loop-k-preserved c =
    let at = c.sibling_at-node.ensures ∙ ap (path_siblings _ _ c.loop-k.k) c.sibling_position-q.ensures in
    let up = step-at _ _ _ _ _ c.in-Ok.ensures at in
    record {
      climbing = climbing_up _ _ _ _ _ _ _ c.loop-k.invariant.climbing (omega arith) _ _ up _ c.parent_of-c.ensures;
      fits = low_half _ _ c.loop-k.invariant.fits;
      trailing = trailing_up _ _ _ _ _ _ _ _ _ c.loop-k.invariant.trailing (omega arith) _ _ up _ c.parent_of-c.ensures _ (c.write_sibling-next.ensures ∙ ap (λ (z : Sibling). write_on (buffer c.loop-k.out c.loop-k.next) (carried_bytes (as_carried z))) at);
      room = c.write_sibling-next.auto.out ∙ c.loop-k.invariant.room;
    }

pub returns-in-Err : goal.returns-in-Err
returns-in-Err c =
    let at = c.sibling_at-node.ensures ∙ ap (path_siblings _ _ c.loop-k.k) c.sibling_position-q.ensures in
    record {
      end = rw c.number.ensures (climbing_stop _ _ _ _ _ _ _ c.loop-k.invariant.climbing (omega arith) _ (step-at _ _ _ _ _ c.in-Err.ensures at) _ c.sibling_position-q.ensures);
      text = tt;
    }

pub returns : goal.returns
returns c = record { end = climbing_end _ _ _ _ _ _ _ c.loop-k.invariant.climbing (omega arith); text = trailing_end _ _ _ _ _ _ _ _ _ c.loop-k.invariant.trailing (omega arith) }
