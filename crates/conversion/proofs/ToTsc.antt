-- What turning one id's climb in a BUMP into a TSC proof has written, and TSC proofs to BUMP and back (02, Item 6).
use Prim.Native.Nat.{ℕ, ◌≤◌}
use mathlib.Core.Path.{◌≡◌, refl, sym, ap, ◌∙◌, subst}
use mathlib.Core.List.{List, []}
use lib.ListN.{length, get_or}
use native.Mathlib.Omega.{arith}
use Rattle.path.specs.declared.path.Form.{Form}
use Rattle.format.specs.Parse.{ok}
use Rattle.encoding.specs.Encode.{AllBytes}
use Rattle.format.specs.Tsc.{Tsc, tsc_whole}
use Rattle.encoding.specs.TscBytes.{ID_AND_ROOT, tsc_bytes, TscFit}
use Rattle.encoding.proofs.TscRoundTrip.{tsc-read_back, tsc-written}
use Rattle.spv.specs.Result.{Result, accepted, refused, follow}
use Rattle.spv.specs.Climb.{Siblings}
use Rattle.spv.proofs.CompareLaws.{prove-accepted}
use Rattle.spv.proofs.Position.{position_exists}
use Rattle.spv.specs.Siblings.{level_siblings}
use Rattle.spv.specs.Readings.{bump_reading, tsc_reading, reading_up_to}
use Rattle.conversion.specs.Convert.{id_tsc, bump_to_tsc}
use Rattle.block.specs.Output.{room_for}
use Rattle.conversion.proofs.Taken.{proof-siblings, proof-id}
use Rattle.conversion.proofs.TakenLaws.{bump_climb, Every, taken-every, siblings-whole, trace_count}
use Rattle.conversion.proofs.HashFits.{SiblingFit, level-siblings_fit, nodes_fit, start_fits, root_fits}
use Rattle.conversion.proofs.ToTscLaws.{content_proves, tsc-content}
use Rattle.block.proofs.OutputLaws.{room-told, room-enough}
use Rattle.spv.specs.Prove.{Proof, prove, any}

-- ---- the content is one that the layout can have

pub tsc_fit : (s id : List ℕ) (p : Proof) → AllBytes s → prove (bump_reading s id) ≡ accepted p → TscFit (id_tsc p)
unfolding id_tsc reading_up_to
tsc_fit s id p all e =
    let c = bump_climb s id p e in
    let σ : Siblings = level_siblings s c.bump.levels in
    let h : ℕ = c.bump.height in
    let i : ℕ = c.start in
    let id-fit = start_fits s id (get_or c.bump.levels 0 []) i all c.starts in
    let every : Every SiblingFit p.siblings = subst (Every SiblingFit) (sym (proof-siblings σ h i id any p c.climbs)) (taken-every SiblingFit σ (level-siblings_fit s c.bump.levels all) 0 h i) in
    record {
      index_fits = rw (trace_count s id p e) (position_exists Form.Bump s id p e);
      low = rw (trace_count s id p e) (siblings-whole s id p e).low;
      id_fits = rw (proof-id σ h i id any p c.climbs) id-fit;
      root_fits = root_fits σ 0 h i id p.root id-fit (prove-accepted σ h i id any p c.climbs).1;
      nodes_fit = nodes_fit p.siblings every;
    }

-- ---- what is written

-- an accepted call has found a proof, and room for it
found : (s id : List ℕ) (room : ℕ) (bytes : List ℕ) → bump_to_tsc s id room ≡ accepted bytes → (p : Proof) × (prove (bump_reading s id) ≡ accepted p) × (room_for room (tsc_bytes (id_tsc p)) ≡ accepted bytes)
unfolding bump_to_tsc
found s id room bytes e = go (prove (bump_reading s id)) refl e
  where
    go : (x : Result Proof) → prove (bump_reading s id) ≡ x → follow x (λ p. room_for room (tsc_bytes (id_tsc p))) ≡ accepted bytes
        → (p : Proof) × (prove (bump_reading s id) ≡ accepted p) × (room_for room (tsc_bytes (id_tsc p)) ≡ accepted bytes)
    go (accepted p) q f = (p, q, f)
    go (refused why) q f = let z : ◌≡◌ {A = ℕ} 0 1 = cc in absurd (omega arith)

-- the TSC proof of the climb
pub to_tsc-is : (s id : List ℕ) (room : ℕ) (bytes : List ℕ) → bump_to_tsc s id room ≡ accepted bytes → (p : Proof) × (prove (bump_reading s id) ≡ accepted p) × (bytes ≡ tsc_bytes (id_tsc p))
to_tsc-is s id room bytes e = let x = found s id room bytes e in (x.0, x.1, sym (room-told room (tsc_bytes (id_tsc x.0)) bytes x.2).0)

-- it fits the room lent
pub to_tsc-fits : (s id : List ℕ) (room : ℕ) (bytes : List ℕ) → bump_to_tsc s id room ≡ accepted bytes → length bytes ≤ room
to_tsc-fits s id room bytes e = let x = found s id room bytes e in (room-told room (tsc_bytes (id_tsc x.0)) bytes x.2).1

-- ---- what it proves

-- the TSC proof of a climb proves what the climb proves
pub id-tsc_proves : (s id : List ℕ) (p : Proof) → AllBytes s → prove (bump_reading s id) ≡ accepted p → prove (tsc_reading (tsc_bytes (id_tsc p))) ≡ accepted p
id-tsc_proves s id p all e =
    let bytes : List ℕ = tsc_bytes (id_tsc p) in
    let r = tsc-read_back (id_tsc p) (tsc_fit s id p all e) in
    content_proves s id p e bytes r.0 (length bytes) r.1 r.2 r.3

-- the very same: id, position, layers, root, the strings hashed and the siblings taken
pub to_tsc_proves : (s id : List ℕ) (room : ℕ) (bytes : List ℕ) → AllBytes s → bump_to_tsc s id room ≡ accepted bytes
    → (p : Proof) × (prove (bump_reading s id) ≡ accepted p) × (prove (tsc_reading bytes) ≡ accepted p)
to_tsc_proves s id room bytes all e =
    let x = to_tsc-is s id room bytes e in
    (x.0, x.1, ap (λ (y : List ℕ). prove (tsc_reading y)) x.2 ∙ id-tsc_proves s id x.0 all x.1)

-- ---- "TSC with id and root target, to BUMP and back, gives the same bytes"

-- back from any BUMP that proves the same, of its id
pub tsc-round_trip_by : (s bumped : List ℕ) (t : Tsc) (q : ℕ) (p : Proof) → AllBytes s → tsc_whole s ≡ ok t q → t.flags ≡ ID_AND_ROOT → prove (tsc_reading s) ≡ accepted p
    → prove (bump_reading bumped p.id) ≡ accepted p → (room : ℕ) → length s ≤ room → bump_to_tsc bumped p.id room ≡ accepted s
unfolding bump_to_tsc
tsc-round_trip_by s bumped t q p all w four e f room enough =
    let same : tsc_bytes (id_tsc p) ≡ s = ap tsc_bytes (sym (tsc-content s t q p all w four e)) ∙ sym (tsc-written s all w four).0 in
    ap (λ (x : Result Proof). follow x (λ y. room_for room (tsc_bytes (id_tsc y)))) f
    ∙ ap (room_for room) same
    ∙ room-enough room s enough
