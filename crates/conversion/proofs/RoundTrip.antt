-- There and back (02, Item 6): "TSC with id and root target, to BUMP and back, gives the same bytes; a BUMP keeps root, position and layers that way".
use Prim.Native.Nat.{ℕ, ◌^◌, ◌≤◌, ◌<◌}
use mathlib.Core.Path.{◌≡◌, sym, ap, ◌∙◌, subst}
use mathlib.Core.List.{List, []}
use lib.ListN.{length, get_or}
use native.Mathlib.Omega.{arith}
use borrow.Author.Tests.{ne_eqb}
use Rattle.path.specs.declared.path.Form.{Form}
use Rattle.format.specs.Parse.{ok}
use Rattle.format.specs.Refusals.{MAX_BLOCK}
use Rattle.encoding.specs.Encode.{AllBytes}
use Rattle.format.proofs.BumpLaws.{bump-whole-told}
use Rattle.encoding.specs.BumpBytes.{bump_bytes}
use Rattle.encoding.proofs.BumpRoundTrip.{bump-read_back}
use Rattle.format.specs.Tsc.{Tsc, tsc_whole}
use Rattle.encoding.specs.TscBytes.{ID_AND_ROOT}
use Rattle.format.specs.Id.{subject_id}
use Rattle.spv.specs.Result.{accepted}
use Rattle.spv.specs.Climb.{Siblings}
use Rattle.spv.proofs.CompareLaws.{prove-accepted}
use Rattle.spv.proofs.Position.{position_exists}
use Rattle.spv.specs.Readings.{bump_reading, tsc_reading, tsc_reading_up_to, tsc_target, reading_up_to}
use Rattle.spv.proofs.ReadingsLaws.{read-proved, tsc-read}
use Rattle.spv.specs.Siblings.{level_siblings, node_siblings}
use Rattle.block.proofs.OutputLaws.{room-enough}
use Rattle.conversion.specs.Convert.{client_bump, tsc_to_bump, bump_to_tsc}
use Rattle.conversion.proofs.Taken.{proof-id, proof-layers, proof-position}
use Rattle.conversion.proofs.TakenLaws.{bump_climb, siblings-whole}
use Rattle.conversion.proofs.HashFits.{level-siblings_fit, start_fits}
use Rattle.conversion.proofs.ToBump.{content-fits, back_proves, to_bump-is, to_bump_proves}
use Rattle.conversion.proofs.ToTsc.{to_tsc_proves, tsc-round_trip_by}
use Rattle.spv.specs.Prove.{Proof, proof_of, prove, any}

-- a TSC proof with id and root target, to BUMP and back by its id
pub tsc-round_trip : (s : List ℕ) (t : Tsc) (q block room : ℕ) (bumped : List ℕ) → AllBytes s → block ≤ MAX_BLOCK → tsc_whole s ≡ ok t q → t.flags ≡ ID_AND_ROOT
    → tsc_to_bump s block room ≡ accepted bumped → (back : ℕ) → length s ≤ back → bump_to_tsc bumped (subject_id s t.subject) back ≡ accepted s
tsc-round_trip s t q block room bumped all b w four call back enough =
    let x = to_bump_proves s block room bumped all b call in
    let own : x.0.id ≡ subject_id s t.subject =
    proof-id (node_siblings s t.nodes) (length t.nodes) t.index (subject_id s t.subject) (tsc_target s t) x.0 (ap prove (sym (tsc-read s t q w)) ∙ x.1) in
    subst (λ (id : List ℕ). bump_to_tsc bumped id back ≡ accepted s) own (tsc-round_trip_by s bumped t q x.0 all w four x.1 x.2 back enough)

-- the BUMP of one id's climb proves what the climb proves, without the surplus leaves and other clients of its path
climb_alone : (s id : List ℕ) (block : ℕ) (p : Proof) → AllBytes s → block ≤ MAX_BLOCK → prove (bump_reading s id) ≡ accepted p → prove (bump_reading (bump_bytes (client_bump block p)) id) ≡ accepted p
unfolding reading_up_to
climb_alone s id block p all b e =
    let c = bump_climb s id p e in
    let σ : Siblings = level_siblings s c.bump.levels in
    let h : ℕ = c.bump.height in
    let i : ℕ = c.start in
    let r = bump-whole-told s c.parsed in
    let judged = prove-accepted σ h i id any p c.climbs in
    let inside = below (proof-position σ h i id any p c.climbs) (proof-layers σ h i id any p c.climbs) (position_exists Form.Bump s id p e) in
    let fit = content-fits σ h i id p.root judged.1 r.some block (level-siblings_fit s c.bump.levels all) (start_fits s id (get_or c.bump.levels 0 []) i all c.starts) r.low inside b in
    let text : List ℕ = bump_bytes (client_bump block (proof_of σ h i id p.root)) in
    let back = bump-read_back (client_bump block (proof_of σ h i id p.root)) fit in
    ap (λ (x : Proof). prove (bump_reading (bump_bytes (client_bump block x)) id)) judged.0
    ∙ back_proves σ h i id p.root judged.1 r.some block text back.0 (length text) back.1 back.2
    ∙ ap accepted (sym judged.0)
  where
    below : {i j h g : ℕ} → j ≡ i → g ≡ h → j < 2 ^ g → i < 2 ^ h
    below e f b = rw (← e, ← f) b

-- a TSC proof with nodes becomes the BUMP of its climb wherever that has room
to_bump_of : (s : List ℕ) (block room : ℕ) (t : Tsc) (q : ℕ) (p : Proof) → tsc_whole s ≡ ok t q → prove (tsc_reading s) ≡ accepted p → 1 ≤ p.layers → length (bump_bytes (client_bump block p)) ≤ room
    → tsc_to_bump s block room ≡ accepted (bump_bytes (client_bump block p))
unfolding tsc_to_bump
to_bump_of s block room t q p w e some enough =
    let ne : p.layers ≡ 0 → ⊥ = λ z. omega arith in
    rw (w, e, ne_eqb p.layers 0 ne) (room-enough room (bump_bytes (client_bump block p)) enough)

-- one id's climb in a BUMP, to TSC and back: the bytes that the way back writes wherever they have room, and no others, prove the id again, at the same
-- position over the same layers to the same root
pub record ThereAndBack (s id tsc : List ℕ) (block : ℕ) : Type 0 where
  pub proof : Proof
  pub bumped : List ℕ
  pub proves : prove (bump_reading s id) ≡ accepted proof
  pub writes : (room : ℕ) → length bumped ≤ room → tsc_to_bump tsc block room ≡ accepted bumped
  pub only : (room : ℕ) (other : List ℕ) → tsc_to_bump tsc block room ≡ accepted other → other ≡ bumped
  pub again : prove (bump_reading bumped id) ≡ accepted proof

pub bump-round_trip : (s id : List ℕ) (room block : ℕ) (tsc : List ℕ) → AllBytes s → block ≤ MAX_BLOCK → bump_to_tsc s id room ≡ accepted tsc → ThereAndBack s id tsc block
unfolding tsc_reading_up_to
bump-round_trip s id room block tsc all b there =
    let x = to_tsc_proves s id room tsc all there in
    let r = read-proved (tsc_whole tsc) _ x.0 x.2 in
    record {
      proof = x.0;
      bumped = bump_bytes (client_bump block x.0);
      proves = x.1;
      writes = λ back enough. to_bump_of tsc block back r.0 r.1 x.0 r.2 x.2 (siblings-whole s id x.0 x.1).some enough;
      only = λ back other f. let y = to_bump-is tsc block back other f in y.6 ∙ ap (λ (p : Proof). bump_bytes (client_bump block p)) (proof-same (sym y.4 ∙ x.2));
      again = climb_alone s id block x.0 all b x.1;
    }
  where
    proof-same : {p q : Proof} → accepted p ≡ accepted q → p ≡ q
    proof-same e = cc
