use Rattle.std.proofs.Common.{◌≡◌, true, ◌+◌, ◌-◌, ◌*◌, sym, refl, ◌∙◌, arith}
use mathlib.Core.Bool.{false≢true}
use Rattle.climbs.specs.LookUp.{looked_up}
use Rattle.spv.specs.Values.{has_value}
use Rattle.climbs.specs.Pass.{known_sibling}
use Rattle.spv.proofs.PositionFitsLaws.{low_right, low_fits}
use Rattle.climbs.proofs.RowLaws.{moved_none}
use Rattle.climbs.proofs.SpentLaws.{spent-none}
use Rattle.climbs.proofs.Visits.{value-joined, setting_on, setting_rows, spot-left, spot_right, passed, reached_bottom, visited_bottom, visited_passed, visited_joined, cost_made, paid_bottom, paid-passed, paid-joined}
use Rattle.climbs.proofs.pass.+visit.Goals as goal
use Rattle.climbs.proofs.pass.+visit.Goals.{then-need-3, else-need-3, then-need-4, else-need-4, then-is_valued, else-is_valued}

pub returns-then-need : goal.returns-then-need
returns-then-need t c = (visited_bottom (looked_up c.args.s.now c.args.places.now c.args.t.now c.args.others.now) c.args.layer c.args.position c.args.want _ c.written_at-here.ensures _ c.needs_join-need.ensures c.args.starts.now c.args.order.now c.args.states.now c.args.hashes.now c.args.lo c.args.hi c.if-layer-eq0.true c.if-need.true _ refl refl, paid_bottom (looked_up c.args.s.now c.args.places.now c.args.t.now c.args.others.now) c.args.layer c.args.position c.args.want _ c.written_at-here.ensures _ c.needs_join-need.ensures c.args.starts.now c.args.states.now c.args.hashes.now c.args.costs.now c.if-layer-eq0.true _ refl)

pub returns-then-layer-eq0 : goal.returns-then-layer-eq0
returns-then-layer-eq0 t c = (visited_passed (looked_up c.args.s.now c.args.places.now c.args.t.now c.args.others.now) c.args.layer c.args.position c.args.want _ c.written_at-here.ensures _ c.needs_join-need.ensures c.args.starts.now c.args.order.now c.args.states.now c.args.hashes.now c.args.lo c.args.hi _ _ (moved_none _ _ _ _ _) (reached_bottom _ _ _ _ _ c.if-layer-eq0.true) c.if-need.false, paid-passed (looked_up c.args.s.now c.args.places.now c.args.t.now c.args.others.now) c.args.layer c.args.position c.args.want _ c.written_at-here.ensures _ c.needs_join-need.ensures c.args.starts.now c.args.states.now c.args.hashes.now c.args.costs.now _ _ _ (spent-none _ _ _ _ _ _) c.if-need.false)

pub behind-requires : goal.behind-requires
behind-requires t c = (c.requires.spot.span, c.requires.spot.within, setting_rows c.args.starts.now c.args.order.now c.args.states.now c.args.hashes.now c.requires.setting)

pub overflow_mul-left : goal.overflow_mul-left
overflow_mul-left t c = omega (arith, low_fits (c.args.layer - 1) (2 * c.args.position + 1) (low_right c.args.layer c.args.position c.if-layer-eq0.false c.requires.spot.layers c.requires.spot.low))

pub behind-want_l-requires : goal.behind-want_l-requires
behind-want_l-requires t c = (c.split-m.ensures.1, c.requires.spot.within, setting_rows c.args.starts.now c.args.order.now c.args.states.now c.args.hashes.now c.requires.setting)

pub visit-l-requires : goal.visit-l-requires
visit-l-requires t c = (omega (arith, c.if-layer-eq0.false), (c.requires.setting, spot-left c.args.starts.now c.args.order.now c.args.layer c.args.position c.args.lo c.args.hi c.args.want c.requires.spot c.if-layer-eq0.false c.split-m.result _ c.split-m.ensures.0 c.split-m.ensures.1 c.split-m.ensures.2))

pub waiting-want_r-requires : goal.waiting-want_r-requires
waiting-want_r-requires t c = (c.split-m.ensures.0, omega (arith, c.requires.spot.within, c.split-m.ensures.1), setting_rows c.args.starts.now c.args.order.now c.visit-l.new.states c.visit-l.new.hashes (setting_on c.args.starts.now c.args.order.now c.args.states.now c.args.hashes.now c.visit-l.new.states c.visit-l.new.hashes c.visit-l.auto.states c.visit-l.auto.hashes c.requires.setting))

pub overflow_add-left : goal.overflow_add-left
overflow_add-left t c = omega (arith, low_fits (c.args.layer - 1) (2 * c.args.position + 1) (low_right c.args.layer c.args.position c.if-layer-eq0.false c.requires.spot.layers c.requires.spot.low))

pub visit-r-requires : goal.visit-r-requires
visit-r-requires t c = (omega (arith, c.if-layer-eq0.false), ((setting_on c.args.starts.now c.args.order.now c.args.states.now c.args.hashes.now c.visit-l.new.states c.visit-l.new.hashes c.visit-l.auto.states c.visit-l.auto.hashes c.requires.setting), (spot_right c.args.starts.now c.args.order.now c.args.layer c.args.position c.args.lo c.args.hi c.args.want c.requires.spot c.if-layer-eq0.false c.split-m.result c.if-is_valued.want_r c.requires.setting.sorted c.split-m.ensures.0 c.split-m.ensures.1 c.split-m.ensures.3)))

pub returns-then-need-5 : goal.returns-then-need-5
returns-then-need-5 t c =
    let wl : c.if-need-3.want_l ≡ true = elim c.if-need-3.branch [ then-need-3 w ↦ cc | else-need-3 w ↦ cc ] in
    let p = passed (looked_up c.args.s.now c.args.places.now c.args.t.now c.args.others.now) c.args.starts.now c.args.order.now c.args.layer c.args.position c.args.lo c.split-m.result c.args.hi c.if-layer-eq0.false _ _ _ _ _ _ _ _ _ _ _ _ c.split-m.ensures.0 c.split-m.ensures.2 (spot_right c.args.starts.now c.args.order.now c.args.layer c.args.position c.args.lo c.args.hi c.args.want c.requires.spot c.if-layer-eq0.false c.split-m.result c.if-is_valued.want_r c.requires.setting.sorted c.split-m.ensures.0 c.split-m.ensures.1 c.split-m.ensures.3).under c.visit-l.ensures.0 c.visit-r.ensures.0 (λ e. elim c.if-need-3.branch [ then-need-3 w ↦ absurd (false≢true (sym e ∙ w.want_l-is ∙ w.if-need-3.true)) | else-need-3 w ↦ w.behind-want_l.ensures (sym w.want_l-is ∙ e) ]) (λ e. elim c.if-is_valued.branch [ then-is_valued w ↦ absurd (false≢true (sym e ∙ w.want_r-is ∙ w.if-is_valued.true)) | else-is_valued w ↦ w.waiting-want_r.ensures (sym w.want_r-is ∙ e) ]) c.step_children.ensures.0 _ _ _ _ c.visit-l.ensures.1 c.visit-r.ensures.1 c.step_children.ensures.1 in
    let m = c.step_children.ensures.2 refl in
    let v = c.visit-l.ensures.0.value wl in
    let wr = λ (h : has_value (known_sibling c.visit-l.result) ≡ true).
    let e : c.if-is_valued.want_r ≡ true =
    elim c.if-is_valued.branch [
      | then-is_valued w ↦ cc
      | else-is_valued w ↦ elim c.if-need-4.branch [ then-need-4 x ↦ cc | else-need-4 x ↦ cc ]
    ]
    in
    e
    in
    let e = m.node ∙ value-joined (looked_up c.args.s.now c.args.places.now c.args.t.now c.args.others.now) c.args.layer c.args.position c.args.want _ c.written_at-here.ensures _ c.needs_join-need.ensures c.if-layer-eq0.false c.if-need-5.true _ _ v (λ h. c.visit-r.ensures.0.value (wr h)) in
    (visited_joined (looked_up c.args.s.now c.args.places.now c.args.t.now c.args.others.now) c.args.layer c.args.position c.args.want _ c.written_at-here.ensures _ c.needs_join-need.ensures c.args.starts.now c.args.order.now c.args.states.now c.args.hashes.now c.args.lo c.args.hi _ _ p.0 p.1 c.if-need-5.true _ m.known e, paid-joined (looked_up c.args.s.now c.args.places.now c.args.t.now c.args.others.now) c.args.layer c.args.position c.args.want _ c.written_at-here.ensures _ c.needs_join-need.ensures c.args.starts.now c.args.states.now c.args.hashes.now c.args.costs.now _ _ _ p.2 _ (cost_made (looked_up c.args.s.now c.args.places.now c.args.t.now c.args.others.now) c.args.layer c.args.position c.args.want _ c.written_at-here.ensures _ c.needs_join-need.ensures c.if-layer-eq0.false c.requires.spot.layers c.if-need-5.true _ _ _ _ _ _ v e refl (c.visit-l.ensures.1.joins wl) (λ h. c.visit-r.ensures.1.joins (wr h)) m.joins))

pub returns-else-need-5 : goal.returns-else-need-5
returns-else-need-5 t c =
    let p = passed (looked_up c.args.s.now c.args.places.now c.args.t.now c.args.others.now) c.args.starts.now c.args.order.now c.args.layer c.args.position c.args.lo c.split-m.result c.args.hi c.if-layer-eq0.false _ _ _ _ _ _ _ _ _ _ _ _ c.split-m.ensures.0 c.split-m.ensures.2 (spot_right c.args.starts.now c.args.order.now c.args.layer c.args.position c.args.lo c.args.hi c.args.want c.requires.spot c.if-layer-eq0.false c.split-m.result c.if-is_valued.want_r c.requires.setting.sorted c.split-m.ensures.0 c.split-m.ensures.1 c.split-m.ensures.3).under c.visit-l.ensures.0 c.visit-r.ensures.0 (λ e. elim c.if-need-3.branch [ then-need-3 w ↦ absurd (false≢true (sym e ∙ w.want_l-is ∙ w.if-need-3.true)) | else-need-3 w ↦ w.behind-want_l.ensures (sym w.want_l-is ∙ e) ]) (λ e. elim c.if-is_valued.branch [ then-is_valued w ↦ absurd (false≢true (sym e ∙ w.want_r-is ∙ w.if-is_valued.true)) | else-is_valued w ↦ w.waiting-want_r.ensures (sym w.want_r-is ∙ e) ]) c.step_children-then-need-2.ensures.0 _ _ _ _ c.visit-l.ensures.1 c.visit-r.ensures.1 c.step_children-then-need-2.ensures.1 in
    (visited_passed (looked_up c.args.s.now c.args.places.now c.args.t.now c.args.others.now) c.args.layer c.args.position c.args.want _ c.written_at-here.ensures _ c.needs_join-need.ensures c.args.starts.now c.args.order.now c.args.states.now c.args.hashes.now c.args.lo c.args.hi _ _ p.0 p.1 c.if-need-5.false, paid-passed (looked_up c.args.s.now c.args.places.now c.args.t.now c.args.others.now) c.args.layer c.args.position c.args.want _ c.written_at-here.ensures _ c.needs_join-need.ensures c.args.starts.now c.args.states.now c.args.hashes.now c.args.costs.now _ _ _ p.2 c.if-need-5.false)

pub returns-else-behind : goal.returns-else-behind
returns-else-behind t c = (visited_passed (looked_up c.args.s.now c.args.places.now c.args.t.now c.args.others.now) c.args.layer c.args.position c.args.want _ c.written_at-here.ensures _ c.needs_join-need.ensures c.args.starts.now c.args.order.now c.args.states.now c.args.hashes.now c.args.lo c.args.hi _ _ (moved_none _ _ _ _ _) (c.behind.ensures c.if-behind.false) c.if-need-2.false, paid-passed (looked_up c.args.s.now c.args.places.now c.args.t.now c.args.others.now) c.args.layer c.args.position c.args.want _ c.written_at-here.ensures _ c.needs_join-need.ensures c.args.starts.now c.args.states.now c.args.hashes.now c.args.costs.now _ _ _ (spent-none _ _ _ _ _ _) c.if-need-2.false)
