-- What `tsc_to_bump` writes (02, Item 6): a BUMP with one client leaf that, read back, proves what the TSC proof proves.
use mathlib.Core.Path.{◌≡◌, refl, sym, ap, ◌∙◌, subst}
use mathlib.Core.Bool.{Bool, true, false}
use mathlib.Core.List.{List, [], map}
use Rattle.std.specs.Prelude.{Option, Some}
use Prim.Native.Nat.{ℕ, ◌^◌, ◌/◌, ◌≤◌, ◌<◌}
use lib.ListN.{length, get_or, length-map, get_or-map}
use lib.Dec.{eqb}
use native.Mathlib.Omega.{arith}
use native.Mathlib.Nat.{zero-add}
use borrow.Author.Tests.{ltb-true, eqb-false}
use Rattle.format.specs.Parse.{Parse, pick, ok, fault}
use Rattle.format.specs.Refusals.{MAX_BLOCK, MAX_HEIGHT, BAD_HEIGHT}
use Rattle.path.specs.Search.{lookup}
use Rattle.encoding.specs.Encode.{AllBytes, Fits}
use Rattle.format.specs.Bump.{Bump, bump_whole}
use Rattle.encoding.specs.BumpBytes.{client, Content, bump_bytes, entry_of, content_of, HashFit, LevelFit, next_level, ContentFit}
use Rattle.encoding.proofs.BumpRoundTrip.{bump-read_back}
use Rattle.format.specs.Tsc.{Tsc, tsc_whole, index_fits}
use Rattle.format.proofs.TscLaws.{tsc-whole-told}
use Rattle.format.specs.Id.{subject_id}
use Rattle.spv.specs.Result.{Result, accepted, refused, carrying, follow, after_reading}
use Rattle.spv.specs.Climb.{Sibling, absent, Siblings, sibling_position, ascend, end_of}
use Rattle.spv.proofs.ClimbLaws.{ascend-agree}
use Rattle.spv.specs.Values.{worked_out}
use Rattle.spv.proofs.CompareLaws.{prove_climb, prove-root, prove-accepted}
use Rattle.spv.specs.Siblings.{written_by, find_in, level_siblings, node_siblings}
use Rattle.spv.specs.Readings.{starting, levels_reading, bump_reading, tsc_target, tsc_reading}
use Rattle.spv.proofs.ReadingsLaws.{bump-read, tsc-read}
use Rattle.spv.specs.Trace.{as_carried}
use Rattle.block.specs.Output.{room_for}
use Rattle.block.proofs.OutputLaws.{room-told}
use Rattle.conversion.proofs.HashFits.{subject-fits}
use Rattle.conversion.specs.Convert.{client_levels, client_bump, node_count_at, tsc_to_bump}
use Rattle.conversion.proofs.Taken.{taken, Present, taken-length, siblings-taken}
use Rattle.block.specs.BlockBump.{found_as, Rising}
use Rattle.block.proofs.RisingLaws.{at_offset, found-says}
use Rattle.block.proofs.BlockMeets.{from_rises}
use Rattle.block.proofs.BlockValues.{as_sibling, found-sibling}
use Rattle.block.proofs.BlockProved.{sibling_positions_at}
use Rattle.conversion.proofs.ToBumpLaws.{HashValues, node-values, TakenFit, taken_fit, taken-beside, present_at, client-levels_fit, client-levels-length, sibling-there, present_as, taken_stays, client-levels-count, client-levels_rise, only-client, client-there, starts_client}
use Rattle.spv.specs.Prove.{Proof, hits, proof_of, prove, any, read}

-- bytes that are read as a BUMP of that block height with a level for each layer of the proof: offsets rise, the one client leaf is the proof's id
-- at its position, beside each node of its climb stands the sibling taken there, a copy as a copy, and there are no other leaves
pub record OneClient (block : ℕ) (p : Proof) (s : List ℕ) : Type 0 where
  pub bump : Bump
  pub end : ℕ
  pub read : bump_whole s ≡ ok bump end
  pub of_block : bump.block ≡ block
  pub of_layers : bump.height ≡ p.layers
  pub rises : (k : ℕ) → Rising (get_or bump.levels k [])
  pub its_client : found_as s (lookup p.position (get_or bump.levels 0 [])) ≡ Some (client p.id)
  pub no_other : (k o : ℕ) (h : List ℕ) → found_as s (lookup o (get_or bump.levels k [])) ≡ Some (client h) → (k ≡ 0) × (o ≡ p.position) × (h ≡ p.id)
  pub siblings : (k : ℕ) → k < p.layers → found_as s (lookup (sibling_position (p.position / 2 ^ k)) (get_or bump.levels k [])) ≡ Some (as_carried (get_or p.siblings k absent))
  pub no_surplus : (k : ℕ) → k < p.layers → length (get_or bump.levels k []) ≡ pick (eqb k 0) 2 1

-- ---- the BUMP of a climb to a root, of any form whose hashes have 32 bytes

module _ (σ : Siblings) (h i : ℕ) (c r : List ℕ) (end : end_of c (ascend σ 0 h i c) ≡ accepted r) (layered : 1 ≤ h) (block : ℕ) where
  abbrev proof : Proof
  proof = proof_of σ h i c r

  abbrev steps : List Sibling
  steps = taken σ 0 h i

  steps_are : proof.siblings ≡ steps
  steps_are = (siblings-taken σ 0 h i c r end).0

  steps_count : length steps ≡ h
  steps_count = taken-length σ 0 h i

  pub content-fits : HashValues σ → HashFit c → h ≤ MAX_HEIGHT → i < 2 ^ h → block ≤ MAX_BLOCK → ContentFit (client_bump block proof)
  unfolding client_bump
  content-fits v g low inside b = record {
    block_fits = b;
    some = layered;
    low = low;
    all = client-levels-length i c proof.siblings ∙ ap length steps_are ∙ steps_count;
    levels_fit = rw steps_are (fit steps steps_count (taken_fit σ v 0 h i c r end));
  }
    where
      fit : (l : List Sibling) → length l ≡ h → TakenFit 0 i l → Fits (LevelFit h) next_level 0 (client_levels i c l)
      fit l e f = rw (← e) (client-levels_fit i c l (rw e inside) g f)

  -- what is read of its bytes
  module _ (s : List ℕ) (bump : Bump) (stop : ℕ) (whole : bump_whole s ≡ ok bump stop) (says : content_of s bump ≡ client_bump block proof) where
    height_back : bump.height ≡ h
    unfolding client_bump
    height_back = ap (λ (x : Content). x.height) says

    level_back : (k : ℕ) → map (entry_of s) (get_or bump.levels k []) ≡ get_or (client_levels i c steps) k []
    unfolding client_bump
    level_back k =
        sym (get_or-map (map (entry_of s)) bump.levels k [])
        ∙ ap (λ (x : Content). get_or x.levels k []) says
        ∙ ap (λ (l : List Sibling). get_or (client_levels i c l) k []) steps_are

    leaf_back : (k o : ℕ) → found_as s (lookup o (get_or bump.levels k [])) ≡ at_offset o (get_or (client_levels i c steps) k [])
    leaf_back k o = found-says s o (get_or bump.levels k []) ∙ ap (at_offset o) (level_back k)

    sibling_back : (k : ℕ) → k < h → found_as s (lookup (sibling_position (i / 2 ^ k)) (get_or bump.levels k [])) ≡ Some (as_carried (get_or steps k absent))
    sibling_back k b = leaf_back k (sibling_position (i / 2 ^ k)) ∙ sibling-there i c steps k (rw steps_count b)

    -- the climb takes what it took before
    agrees : (k : ℕ) → k < h → level_siblings s bump.levels k (sibling_position (i / 2 ^ k)) ≡ σ k (sibling_position (i / 2 ^ k))
    unfolding level_siblings worked_out
    agrees k b =
        let there : Present (get_or steps k absent) = present_at steps k (siblings-taken σ 0 h i c r end).1 (rw steps_count b) in
        let is : written_by s (find_in bump.levels) k (sibling_position (i / 2 ^ k)) ≡ get_or steps k absent =
        found-sibling s (lookup (sibling_position (i / 2 ^ k)) (get_or bump.levels k [])) ∙ ap as_sibling (sibling_back k b) ∙ present_as (get_or steps k absent) there in
        taken_stays (written_by s (find_in bump.levels)) k (sibling_position (i / 2 ^ k)) (get_or steps k absent) there is
        ∙ taken-beside σ 0 h i k b ∙ ap (λ (n : ℕ). σ n (sibling_position (i / 2 ^ k))) (zero-add k)

    pub back_proves : prove (bump_reading s c) ≡ accepted proof
    unfolding levels_reading starting hits
    back_proves =
        let τ : Siblings = level_siblings s bump.levels in
        ap prove (bump-read s c bump stop whole)
        ∙ ap (λ (x : Option ℕ). prove (starting τ bump.height c x)) (starts_client s c r (get_or bump.levels 0 []) σ h i layered end (level_back 0))
        ∙ ap (λ (n : ℕ). prove (read τ n i c any)) height_back
        ∙ prove_climb τ σ h i c any (ascend-agree τ σ 0 h i c (λ k b. rw (zero-add k, sibling_positions_at h i k b) (agrees k b)))
        ∙ prove-root σ h i c any r end refl

    back_client : OneClient block proof s
    unfolding client_bump
    back_client = record {
      bump = bump;
      end = stop;
      read = whole;
      of_block = ap (λ (x : Content). x.block) says;
      of_layers = height_back;
      rises = λ k. from_rises s 0 (get_or bump.levels k []) (rw (level_back k) (client-levels_rise i c steps k));
      its_client = leaf_back 0 i ∙ client-there i c steps (rw steps_count layered);
      no_other = λ k o d e. only-client i c steps k o d (sym (leaf_back k o) ∙ e);
      siblings = λ k b. rw steps_are (sibling_back k b);
      no_surplus = λ k b. sym (length-map (get_or bump.levels k []) (entry_of s)) ∙ ap length (level_back k) ∙ client-levels-count i c steps k (rw steps_count b);
    }

-- ---- what an accepted call has read, and what it writes

-- an accepted call: the TSC proof read, what it proves over one layer or more, and its BUMP's bytes
record ToBump (s : List ℕ) (block room : ℕ) (bytes : List ℕ) : Type 0 where
  tsc : Tsc
  end : ℕ
  proof : Proof
  whole : tsc_whole s ≡ ok tsc end
  proves : prove (tsc_reading s) ≡ accepted proof
  layered : proof.layers ≡ 0 → ⊥
  is : bytes ≡ bump_bytes (client_bump block proof)
  fits : length bytes ≤ room

told : (s : List ℕ) (block room : ℕ) (bytes : List ℕ) → tsc_to_bump s block room ≡ accepted bytes → ToBump s block room bytes
unfolding tsc_to_bump
told s block room bytes e = of_tsc (tsc_whole s) refl e
  where
    last : (t : Tsc) (q : ℕ) (p : Proof) → tsc_whole s ≡ ok t q → prove (tsc_reading s) ≡ accepted p → (z : Bool) → eqb p.layers 0 ≡ z
        → pick z (refused (carrying BAD_HEIGHT (node_count_at t))) (room_for room (bump_bytes (client_bump block p))) ≡ accepted bytes → ToBump s block room bytes
    last t q p w a true h f = let z : ◌≡◌ {A = ℕ} 0 1 = cc in absurd (omega arith)
    last t q p w a false h f =
        let x = room-told room (bump_bytes (client_bump block p)) bytes f in
        record { tsc = t; end = q; proof = p; whole = w; proves = a; layered = eqb-false _ _ h; is = sym x.0; fits = x.1 }

    of_proof : (t : Tsc) (q : ℕ) → tsc_whole s ≡ ok t q → (x : Result Proof) → prove (tsc_reading s) ≡ x
        → follow x (λ p. pick (eqb p.layers 0) (refused (carrying BAD_HEIGHT (node_count_at t))) (room_for room (bump_bytes (client_bump block p)))) ≡ accepted bytes → ToBump s block room bytes
    of_proof t q w (accepted p) a f = last t q p w a (eqb p.layers 0) refl f
    of_proof t q w (refused why) a f = let z : ◌≡◌ {A = ℕ} 0 1 = cc in absurd (omega arith)

    of_tsc : (x : Parse Tsc) → tsc_whole s ≡ x
        → after_reading x (λ t. follow (prove (tsc_reading s)) (λ p. pick (eqb p.layers 0) (refused (carrying BAD_HEIGHT (node_count_at t))) (room_for room (bump_bytes (client_bump block p))))) ≡ accepted bytes
        → ToBump s block room bytes
    of_tsc (ok t q) w f = of_proof t q w (prove (tsc_reading s)) refl f
    of_tsc (fault number place) w f = let z : ◌≡◌ {A = ℕ} 0 1 = cc in absurd (omega arith)

pub to_bump-is : (s : List ℕ) (block room : ℕ) (bytes : List ℕ) → tsc_to_bump s block room ≡ accepted bytes
    → (t : Tsc) × (q : ℕ) × (p : Proof) × (tsc_whole s ≡ ok t q) × (prove (tsc_reading s) ≡ accepted p) × (p.layers ≡ 0 → ⊥) × (bytes ≡ bump_bytes (client_bump block p))
to_bump-is s block room bytes e = let x = told s block room bytes e in (x.tsc, x.end, x.proof, x.whole, x.proves, x.layered, x.is)

pub to_bump-fits : (s : List ℕ) (block room : ℕ) (bytes : List ℕ) → tsc_to_bump s block room ≡ accepted bytes → length bytes ≤ room
to_bump-fits s block room bytes e = (told s block room bytes e).fits

-- ---- the BUMP of a TSC proof

module _ (s : List ℕ) (all : AllBytes s) (t : Tsc) (q : ℕ) (whole : tsc_whole s ≡ ok t q) (p : Proof) (proves : prove (tsc_reading s) ≡ accepted p) (layered : 1 ≤ p.layers)
    (block : ℕ) (block_fits : block ≤ MAX_BLOCK) where
  abbrev σ : Siblings
  σ = node_siblings s t.nodes

  abbrev h : ℕ
  h = length t.nodes

  abbrev c : List ℕ
  c = subject_id s t.subject

  judged : (p ≡ proof_of σ h t.index c p.root) × (end_of c (ascend σ 0 h t.index c) ≡ accepted p.root)
  judged = prove-accepted σ h t.index c (tsc_target s t) p (ap prove (sym (tsc-read s t q whole)) ∙ proves)

  high : 1 ≤ h
  high = rw (ap (λ (x : Proof). x.layers) judged.0) at layered

  inside : t.index < 2 ^ h
  unfolding index_fits
  inside = ltb-true _ _ (tsc-whole-told s whole).fits

  -- it is one that the layout can have
  pub client_fit : ContentFit (client_bump block p)
  client_fit =
      rw judged.0
      (content-fits σ h t.index c p.root judged.1 high block (node-values s t.nodes all) (subject-fits s t.subject all) (tsc-whole-told s whole).low inside block_fits)

  -- its bytes
  abbrev text : List ℕ
  text = bump_bytes (client_bump block p)

  back : (b : Bump) × (bump_whole text ≡ ok b (length text)) × (content_of text b ≡ client_bump block p)
  back = bump-read_back (client_bump block p) client_fit

  as_judged : content_of text back.0 ≡ client_bump block (proof_of σ h t.index c p.root)
  as_judged = back.2 ∙ ap (client_bump block) judged.0

  -- they prove the same
  pub client_proves : prove (bump_reading text p.id) ≡ accepted p
  client_proves =
      ap (λ (x : Proof). prove (bump_reading text x.id)) judged.0
      ∙ back_proves σ h t.index c p.root judged.1 high block text back.0 (length text) back.1 as_judged
      ∙ ap accepted (sym judged.0)

  pub client-one : OneClient block p text
  client-one =
      subst (λ (x : Proof). OneClient block x text) (sym judged.0)
      (back_client σ h t.index c p.root judged.1 high block text back.0 (length text) back.1 as_judged)

-- ---- the bytes of an accepted call

module _ (s : List ℕ) (block room : ℕ) (bytes : List ℕ) (all : AllBytes s) (block_fits : block ≤ MAX_BLOCK) (call : tsc_to_bump s block room ≡ accepted bytes) where
  found : ToBump s block room bytes
  found = told s block room bytes call

  layers : 1 ≤ found.proof.layers
  layers = let z = found.layered in omega arith

  -- read back, they prove what the TSC proof proves: id, position, layers and root, by the same strings and siblings
  pub to_bump_proves : (p : Proof) × (prove (tsc_reading s) ≡ accepted p) × (prove (bump_reading bytes p.id) ≡ accepted p)
  to_bump_proves = (
    found.proof,
    found.proves,
    subst (λ (l : List ℕ). prove (bump_reading l found.proof.id) ≡ accepted found.proof) (sym found.is)
        (client_proves s all found.tsc found.end found.whole found.proof found.proves layers block block_fits),
  )

  -- "a BUMP with one client leaf", "Copies stay copies, and offsets rise"
  pub to_bump-rises : (p : Proof) × (prove (tsc_reading s) ≡ accepted p) × OneClient block p bytes
  to_bump-rises = (
    found.proof,
    found.proves,
    subst (OneClient block found.proof) (sym found.is)
        (client-one s all found.tsc found.end found.whole found.proof found.proves layers block block_fits),
  )
