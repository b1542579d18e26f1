-- Laws of a BUMP with one client leaf, made of the siblings that a climb took: its levels are ones that the layout can have, and what stands in them.
use mathlib.Core.Path.{◌≡◌, refl, sym, ap, ◌∙◌}
use mathlib.Core.Bool.{Bool, true, false, ◌&&◌, true≢false, false≢true}
use mathlib.Core.List.{List, [], ◌∷◌, ◌++◌, map}
use Rattle.std.specs.Prelude.{Option, Some, None}
use Prim.Native.Nat.{ℕ, zero, suc, ◌+◌, ◌-◌, ◌^◌, ◌/◌, ◌%◌, ◌<◌}
use lib.ListN.{length, get_or}
use lib.Dec.{ltb, eqb}
use lib.Pow.{shr-shr}
use native.Mathlib.Omega.{arith}
use native.Mathlib.Nat.{pow-suc, div-one, sub-zero}
use native.Mathlib.Numerals.{add-one}
use borrow.Author.Tests.{eqb-true, eqb-false, eq-eqb, ne_eqb, ltb-true, ltb-false}
use Rattle.hash.specs.Sha256.{sha256d}
use Rattle.format.specs.declared.leaf.Kind.{Kind}
use Rattle.format.specs.declared.leaf.Kind.TheVariants.{Copy}
use Rattle.format.specs.declared.leaf.Leaf.{Leaf}
use Rattle.format.proofs.Basics.{and-false, or_true}
use Rattle.format.specs.Bytes.{same}
use Rattle.format.proofs.BytesLaws.{same_refl}
use Rattle.format.specs.Parse.{pick}
use Rattle.format.specs.Level.{holds}
use Rattle.format.specs.Refusals.{TWIN}
use Rattle.path.specs.Search.{least_offset}
use Rattle.encoding.specs.Encode.{AllBytes, Fits}
use Rattle.encoding.specs.BumpBytes.{plain, copy, client, entry_of, HashFit, CarriedFit, LevelFit, next_level}
use Rattle.spv.specs.Result.{accepted}
use Rattle.spv.specs.Climb.{Sibling, value, copied, absent, Siblings, Step, joins, fails, odd, sibling_position, joined, step, ascend_by, ascend, end_by, end_of}
use Rattle.spv.proofs.ClimbLaws.{joined_twin, sibling-odd, sibling-even, ascended}
use Rattle.spv.specs.Values.{value_of}
use Rattle.spv.proofs.ValuesLaws.{value_written, value-copied}
use Rattle.spv.specs.Siblings.{node_siblings}
use Rattle.spv.specs.Trace.{as_carried}
use Rattle.spv.proofs.Surplus.{carried_at, Least, least-is}
use Rattle.conversion.specs.Convert.{client_entry, sibling_entry, client_level, sibling_levels, client_levels}
use Rattle.conversion.proofs.Taken.{taken, Present, AllPresent}
use Rattle.block.proofs.RisingLaws.{at_offset, From, at_none, at_first, at_later}
use Rattle.block.proofs.BlockValues.{sibling-below, as_sibling}
use Rattle.block.proofs.BlockProved.{sibling_positions_at, carries_as, carried_in, carried-says}
use Rattle.conversion.proofs.TakenLaws.{taken_at}
use Rattle.conversion.proofs.HashFits.{SiblingFit, written-fits}

-- every hash of a form is 32 bytes
abbrev pub HashValues : Siblings → Type 0
HashValues σ = (k q : ℕ) → SiblingFit (σ k q)

pub node-values : (s : List ℕ) (nodes : List Kind) → AllBytes s → HashValues (node_siblings s nodes)
unfolding node_siblings
node-values s nodes all k q = written-fits s (get_or nodes k Copy) all

-- ---- a climb to a root, layer by layer

-- the lowest layer joins, and the climb above it comes to the root
pub climbs_on : (σ : Siblings) (k n j : ℕ) (c r : List ℕ) → end_of c (ascend σ k (suc n) j c) ≡ accepted r
    → (a : List ℕ) × (b : List ℕ) × (step (σ k (sibling_position j)) (odd j) c ≡ joins a b) × (end_of (sha256d (a ++ b)) (ascend σ (suc k) n (j / 2) (sha256d (a ++ b))) ≡ accepted r)
unfolding ascend_by end_by
climbs_on σ k n j c r e = go (step (σ k (sibling_position j)) (odd j) c) refl e
  where
    go : (s : Step) → step (σ k (sibling_position j)) (odd j) c ≡ s → end_of c (ascended σ k n j (σ k (sibling_position j)) s) ≡ accepted r
        → (a : List ℕ) × (b : List ℕ) × (step (σ k (sibling_position j)) (odd j) c ≡ joins a b) × (end_of (sha256d (a ++ b)) (ascend σ (suc k) n (j / 2) (sha256d (a ++ b))) ≡ accepted r)
    go (joins a b) g x = (a, b, g, x)
    go (fails number) g x = let y : ◌≡◌ {A = ℕ} 0 1 = cc in absurd (omega arith)

-- at an odd position a sibling that equals the working hash is a twin
no_twin : (c p a b : List ℕ) → joined true c p ≡ joins a b → same p c ≡ false
no_twin c p a b e = go (same p c) refl
  where
    go : (t : Bool) → same p c ≡ t → same p c ≡ false
    go true h = let f : fails TWIN ≡ joins a b = sym (joined_twin c p h) ∙ e in let y : ◌≡◌ {A = ℕ} 0 1 = cc in absurd (omega arith)
    go false h = h

-- so a copy is taken at an even position only, and stands at an odd one
copy-odd : (j : ℕ) (c a b : List ℕ) → joined (odd j) c c ≡ joins a b → sibling_position j % 2 ≡ 1
copy-odd j c a b e = go (eqb (j % 2) 1) refl e
  where
    go : (t : Bool) → eqb (j % 2) 1 ≡ t → joined t c c ≡ joins a b → sibling_position j % 2 ≡ 1
    go true h f = absurd (false≢true (sym (no_twin c c a b f) ∙ same_refl c))
    go false h f = let o = eqb-false (j % 2) 1 h in rw (sibling-even j o) (omega arith)

step_fits : (k j : ℕ) (p : Sibling) (c a b : List ℕ) → SiblingFit p → step p (odd j) c ≡ joins a b → CarriedFit k (sibling_position j) (as_carried p)
unfolding step as_carried CarriedFit SiblingFit
step_fits k j (value h) c a b v e = v
step_fits k j copied c a b v e = copy-odd j c a b e
step_fits k j absent c a b v e = let y : ◌≡◌ {A = ℕ} 0 1 = cc in absurd (omega arith)

-- the siblings of a climb from position j of level k on, as leaves that the layout can have
unfoldable pub TakenFit : ℕ → ℕ → List Sibling → Type 0
TakenFit k j [] = Unit
TakenFit k j (p ∷ l) = CarriedFit k (sibling_position j) (as_carried p) × TakenFit (k + 1) (j / 2) l

pub taken_fit : (σ : Siblings) → HashValues σ → (k n j : ℕ) (c r : List ℕ) → end_of c (ascend σ k n j c) ≡ accepted r → TakenFit k j (taken σ k n j)
unfolding taken TakenFit
taken_fit σ v k zero j c r e = tt
taken_fit σ v k (suc n) j c r e =
    let x = climbs_on σ k n j c r e in
    (step_fits k j (σ k (sibling_position j)) c x.0 x.1 (v k (sibling_position j)) x.2, rw (add-one k) (taken_fit σ v (suc k) n (j / 2) (sha256d (x.0 ++ x.1)) r x.3))

halves : (j m : ℕ) → j / 2 / 2 ^ m ≡ j / 2 ^ suc m
halves j m = shr-shr j 1 m ∙ ap (λ (n : ℕ). j / 2 ^ n) (omega arith)

-- the sibling taken m layers up, by its position
pub taken-beside : (σ : Siblings) (k n j m : ℕ) → m < n → get_or (taken σ k n j) m absent ≡ σ (k + m) (sibling_position (j / 2 ^ m))
taken-beside σ k n j m b = taken_at absent σ k n j m b ∙ ap (σ (k + m)) (sibling_positions_at n j m b)

pub present_at : (l : List Sibling) (m : ℕ) → AllPresent l → m < length l → Present (get_or l m absent)
unfolding AllPresent
present_at [] m a b = absurd (omega arith)
present_at (p ∷ l) zero a b = a.0
present_at (p ∷ l) (suc m) a b = present_at l m a.1 (omega arith)

-- ---- the levels fit the layout

pub sibling_apart : (j : ℕ) → sibling_position j ≡ j → ⊥
sibling_apart j e = go (eqb (j % 2) 1) refl
  where
    go : (t : Bool) → eqb (j % 2) 1 ≡ t → ⊥
    go true h = let o = eqb-true (j % 2) 1 h in let f = sibling-odd j o in omega arith
    go false h = let f = sibling-even j (eqb-false (j % 2) 1 h) in omega arith

sibling-level-fits : (h k n j : ℕ) (p : Sibling) → k + suc n ≡ h → j < 2 ^ suc n → CarriedFit k (sibling_position j) (as_carried p) → LevelFit h k (sibling_entry j p ∷ [])
unfolding Fits sibling_entry holds
sibling-level-fits h k n j p e b f = let d : h - k ≡ suc n = omega arith in (omega arith, rw d ((sibling-below j n b, refl, f), tt))

pub sibling-levels_fit : (h k j : ℕ) (l : List Sibling) → k + length l ≡ h → j < 2 ^ length l → TakenFit k j l → Fits (LevelFit h) next_level k (sibling_levels j l)
unfolding Fits sibling_levels TakenFit
sibling-levels_fit h k j [] e b f = tt
sibling-levels_fit h k j (p ∷ l) e b f = (
  sibling-level-fits h k (length l) j p e b f.0,
  sibling-levels_fit h (k + 1) (j / 2) l (omega arith) (let q = pow-suc 2 (length l) in omega arith) f.1,
)

client-level-fits : (n i : ℕ) (id : List ℕ) (p : Sibling) → i < 2 ^ suc n → HashFit id → CarriedFit 0 (sibling_position i) (as_carried p) → LevelFit (suc n) 0 (client_level i id p)
unfolding Fits client_level client_entry sibling_entry holds CarriedFit
client-level-fits n i id p b g f = go (eqb (i % 2) 1)
  where
    here : i < 2 ^ (suc n - 0)
    here = rw (sub-zero (suc n)) b

    beside : sibling_position i < 2 ^ (suc n - 0)
    beside = rw (sub-zero (suc n)) (sibling-below i n b)

    go : (t : Bool) → LevelFit (suc n) 0 (pick t (sibling_entry i p ∷ client_entry i id ∷ []) (client_entry i id ∷ sibling_entry i p ∷ []))
    go true = (omega arith, ((beside, refl, f), ((here, rw (ne_eqb i (sibling_position i) (λ q. sibling_apart i (sym q))), (refl, g)), tt)))
    go false = (omega arith, ((here, refl, (refl, g)), ((beside, rw (ne_eqb (sibling_position i) i (sibling_apart i)), f), tt)))

pub client-levels_fit : (i : ℕ) (id : List ℕ) (l : List Sibling) → i < 2 ^ length l → HashFit id → TakenFit 0 i l → Fits (LevelFit (length l)) next_level 0 (client_levels i id l)
unfolding Fits client_levels TakenFit
client-levels_fit i id [] b g f = tt
client-levels_fit i id (p ∷ l) b g f =
    (client-level-fits (length l) i id p b g f.0, sibling-levels_fit (suc (length l)) 1 (i / 2) l (omega arith) (let q = pow-suc 2 (length l) in omega arith) f.1)

sibling-levels-length : (j : ℕ) (l : List Sibling) → length (sibling_levels j l) ≡ length l
unfolding sibling_levels
sibling-levels-length j [] = refl
sibling-levels-length j (p ∷ l) = ap suc (sibling-levels-length (j / 2) l)

pub client-levels-length : (i : ℕ) (id : List ℕ) (l : List Sibling) → length (client_levels i id l) ≡ length l
unfolding client_levels
client-levels-length i id [] = refl
client-levels-length i id (p ∷ l) = ap suc (sibling-levels-length (i / 2) l)

-- ---- what stands in the levels

sibling-level-at : (j : ℕ) (l : List Sibling) (k : ℕ) → k < length l → at_offset (sibling_position (j / 2 ^ k)) (get_or (sibling_levels j l) k []) ≡ Some (as_carried (get_or l k absent))
unfolding sibling_levels sibling_entry
sibling-level-at j [] k b = absurd (omega arith)
sibling-level-at j (p ∷ l) zero b = at_first (sibling_entry j p) [] (sibling_position (j / 2 ^ 0)) (ap sibling_position (sym (div-one j)))
sibling-level-at j (p ∷ l) (suc k) b =
    ap (λ (n : ℕ). at_offset (sibling_position n) (get_or (sibling_levels (j / 2) l) k [])) (sym (halves j k)) ∙ sibling-level-at (j / 2) l k (omega arith)

-- the two leaves of level 0
module _ (i : ℕ) (id : List ℕ) (p : Sibling) where
  pub client-level-sibling : at_offset (sibling_position i) (client_level i id p) ≡ Some (as_carried p)
  unfolding client_level client_entry sibling_entry
  client-level-sibling = go (eqb (i % 2) 1)
    where
      go : (t : Bool) → at_offset (sibling_position i) (pick t (sibling_entry i p ∷ client_entry i id ∷ []) (client_entry i id ∷ sibling_entry i p ∷ [])) ≡ Some (as_carried p)
      go true = at_first (sibling_entry i p) (client_entry i id ∷ []) (sibling_position i) refl
      go false =
          at_later (client_entry i id) (sibling_entry i p ∷ []) (sibling_position i) (λ q. sibling_apart i (sym q))
          ∙ at_first (sibling_entry i p) [] (sibling_position i) refl

  pub client-level-client : at_offset i (client_level i id p) ≡ Some (client id)
  unfolding client_level client_entry sibling_entry
  client-level-client = go (eqb (i % 2) 1)
    where
      go : (t : Bool) → at_offset i (pick t (sibling_entry i p ∷ client_entry i id ∷ []) (client_entry i id ∷ sibling_entry i p ∷ [])) ≡ Some (client id)
      go true =
          at_later (sibling_entry i p) (client_entry i id ∷ []) i (sibling_apart i)
          ∙ at_first (client_entry i id) [] i refl
      go false = at_first (client_entry i id) (sibling_entry i p ∷ []) i refl

  -- nothing stands elsewhere
  pub client-level-none : (o : ℕ) → (o ≡ i → ⊥) → (o ≡ sibling_position i → ⊥) → at_offset o (client_level i id p) ≡ None
  unfolding client_level client_entry sibling_entry
  client-level-none o a b = go (eqb (i % 2) 1)
    where
      go : (t : Bool) → at_offset o (pick t (sibling_entry i p ∷ client_entry i id ∷ []) (client_entry i id ∷ sibling_entry i p ∷ [])) ≡ None
      go true =
          at_later (sibling_entry i p) (client_entry i id ∷ []) o (λ q. b (sym q))
          ∙ at_later (client_entry i id) [] o (λ q. a (sym q))
          ∙ at_none o
      go false =
          at_later (client_entry i id) (sibling_entry i p ∷ []) o (λ q. a (sym q))
          ∙ at_later (sibling_entry i p) [] o (λ q. b (sym q))
          ∙ at_none o

-- beside each node of the climb stands the sibling that was taken there
pub sibling-there : (i : ℕ) (id : List ℕ) (l : List Sibling) (k : ℕ) → k < length l → at_offset (sibling_position (i / 2 ^ k)) (get_or (client_levels i id l) k []) ≡ Some (as_carried (get_or l k absent))
unfolding client_levels
sibling-there i id [] k b = absurd (omega arith)
sibling-there i id (p ∷ l) zero b = rw (div-one i) (client-level-sibling i id p)
sibling-there i id (p ∷ l) (suc k) b =
    ap (λ (n : ℕ). at_offset (sibling_position n) (get_or (sibling_levels (i / 2) l) k [])) (sym (halves i k)) ∙ sibling-level-at (i / 2) l k (omega arith)

-- and it is read as it was taken
pub present_as : (p : Sibling) → Present p → as_sibling (Some (as_carried p)) ≡ p
unfolding as_sibling as_carried Present
present_as (value h) a = refl
present_as copied a = refl
present_as absent a = absurd (a refl)

pub taken_stays : (w : Siblings) (k q : ℕ) (p : Sibling) → Present p → w k q ≡ p → value_of w copied k q ≡ p
unfolding Present
taken_stays w k q (value h) a e = value_written w copied k q h e
taken_stays w k q copied a e = value-copied w copied k q e
taken_stays w k q absent a e = absurd (a refl)

-- ---- how many leaves there are

sibling-levels-count : (j : ℕ) (l : List Sibling) (k : ℕ) → k < length l → length (get_or (sibling_levels j l) k []) ≡ 1
unfolding sibling_levels
sibling-levels-count j [] k b = absurd (omega arith)
sibling-levels-count j (p ∷ l) zero b = refl
sibling-levels-count j (p ∷ l) (suc k) b = sibling-levels-count (j / 2) l k (omega arith)

client-level-count : (i : ℕ) (id : List ℕ) (p : Sibling) → length (client_level i id p) ≡ 2
unfolding client_level
client-level-count i id p = go (eqb (i % 2) 1)
  where
    go : (t : Bool) → length (pick t (sibling_entry i p ∷ client_entry i id ∷ []) (client_entry i id ∷ sibling_entry i p ∷ [])) ≡ 2
    go true = refl
    go false = refl

-- two at level 0, one above
pub client-levels-count : (i : ℕ) (id : List ℕ) (l : List Sibling) (k : ℕ) → k < length l → length (get_or (client_levels i id l) k []) ≡ pick (eqb k 0) 2 1
unfolding client_levels
client-levels-count i id [] k b = absurd (omega arith)
client-levels-count i id (p ∷ l) zero b = client-level-count i id p
client-levels-count i id (p ∷ l) (suc k) b = sibling-levels-count (i / 2) l k (omega arith) ∙ rw (ne_eqb (suc k) 0 (λ q. omega arith))

-- ---- offsets rise, and there is one client leaf

one-rises : (j : ℕ) (p : Sibling) → From 0 (sibling_entry j p ∷ [])
unfolding From
one-rises j p = (omega arith, tt)

sibling-levels_rise : (j : ℕ) (l : List Sibling) (k : ℕ) → From 0 (get_or (sibling_levels j l) k [])
unfolding sibling_levels From
sibling-levels_rise j [] k = tt
sibling-levels_rise j (p ∷ l) zero = one-rises j p
sibling-levels_rise j (p ∷ l) (suc k) = sibling-levels_rise (j / 2) l k

client-level-rises : (i : ℕ) (id : List ℕ) (p : Sibling) → From 0 (client_level i id p)
unfolding From client_level client_entry sibling_entry
client-level-rises i id p = go (eqb (i % 2) 1) refl
  where
    go : (t : Bool) → eqb (i % 2) 1 ≡ t → From 0 (pick t (sibling_entry i p ∷ client_entry i id ∷ []) (client_entry i id ∷ sibling_entry i p ∷ []))
    go true h = let o = eqb-true (i % 2) 1 h in let e = sibling-odd i o in (omega arith, (omega arith, tt))
    go false h = let e = sibling-even i (eqb-false (i % 2) 1 h) in (omega arith, (omega arith, tt))

pub client-levels_rise : (i : ℕ) (id : List ℕ) (l : List Sibling) (k : ℕ) → From 0 (get_or (client_levels i id l) k [])
unfolding client_levels From
client-levels_rise i id [] k = tt
client-levels_rise i id (p ∷ l) zero = client-level-rises i id p
client-levels_rise i id (p ∷ l) (suc k) = sibling-levels_rise (i / 2) l k

sibling_no_client : (p : Sibling) (h : List ℕ) → Some (as_carried p) ≡ Some (client h) → ⊥
unfolding as_carried
sibling_no_client (value q) h e = let y : plain q ≡ client h = cc in let z : ◌≡◌ {A = ℕ} 0 1 = cc in omega arith
sibling_no_client copied h e = let y : copy ≡ client h = cc in let z : ◌≡◌ {A = ℕ} 0 1 = cc in omega arith
sibling_no_client absent h e = let y : copy ≡ client h = cc in let z : ◌≡◌ {A = ℕ} 0 1 = cc in omega arith

nothing_no_client : (h : List ℕ) → None ≡ Some (client h) → ⊥
nothing_no_client h e = let z : ◌≡◌ {A = ℕ} 0 1 = cc in omega arith

sibling-levels_no_client : (j : ℕ) (l : List Sibling) (k o : ℕ) (h : List ℕ) → at_offset o (get_or (sibling_levels j l) k []) ≡ Some (client h) → ⊥
unfolding sibling_levels sibling_entry
sibling-levels_no_client j [] k o h e = nothing_no_client h (sym (at_none o) ∙ e)
sibling-levels_no_client j (p ∷ l) zero o h e = go (eqb (sibling_position j) o) refl
  where
    go : (t : Bool) → eqb (sibling_position j) o ≡ t → ⊥
    go true f = sibling_no_client p h (sym (at_first (sibling_entry j p) [] o (eqb-true _ _ f)) ∙ e)
    go false f = nothing_no_client h (sym (at_later (sibling_entry j p) [] o (eqb-false _ _ f) ∙ at_none o) ∙ e)
sibling-levels_no_client j (p ∷ l) (suc k) o h e = sibling-levels_no_client (j / 2) l k o h e

client-level-only : (i : ℕ) (id : List ℕ) (p : Sibling) (o : ℕ) (h : List ℕ) → at_offset o (client_level i id p) ≡ Some (client h) → (o ≡ i) × (h ≡ id)
client-level-only i id p o h e = go (eqb o i) refl (eqb o (sibling_position i)) refl
  where
    go : (t : Bool) → eqb o i ≡ t → (u : Bool) → eqb o (sibling_position i) ≡ u → (o ≡ i) × (h ≡ id)
    go true f u g =
        let d = eqb-true o i f in
        let y : Some (client id) ≡ Some (client h) = sym (client-level-client i id p) ∙ (rw d at e) in
        (d, cc)
    go false f true g = absurd (sibling_no_client p h (sym (client-level-sibling i id p) ∙ (rw (eqb-true o (sibling_position i) g) at e)))
    go false f false g = absurd (nothing_no_client h (sym (client-level-none i id p o (eqb-false _ _ f) (eqb-false _ _ g)) ∙ e))

pub only-client : (i : ℕ) (id : List ℕ) (l : List Sibling) (k o : ℕ) (h : List ℕ) → at_offset o (get_or (client_levels i id l) k []) ≡ Some (client h) → (k ≡ 0) × (o ≡ i) × (h ≡ id)
unfolding client_levels
only-client i id [] k o h e = absurd (nothing_no_client h (sym (at_none o) ∙ e))
only-client i id (p ∷ l) zero o h e = let x = client-level-only i id p o h e in (refl, x.0, x.1)
only-client i id (p ∷ l) (suc k) o h e = absurd (sibling-levels_no_client (i / 2) l k o h e)

pub client-there : (i : ℕ) (id : List ℕ) (l : List Sibling) → 0 < length l → at_offset i (get_or (client_levels i id l) 0 []) ≡ Some (client id)
unfolding client_levels
client-there i id [] b = absurd (omega arith)
client-there i id (p ∷ l) b = client-level-client i id p

-- ---- where the id starts

-- the least offset that carries an id
pub starts_at : (s id : List ℕ) (l : List Leaf) (i : ℕ) → carried_at s id i l ≡ true → ((o : ℕ) → o < i → carried_at s id o l ≡ false) → least_offset s id l ≡ Some i
unfolding Least
starts_at s id l i here before = go (least_offset s id l) (least-is s id l)
  where
    at : (j : ℕ) → carried_at s id j l ≡ true → ((o : ℕ) → o < j → carried_at s id o l ≡ false) → (a : Bool) → ltb i j ≡ a → (b : Bool) → ltb j i ≡ b → j ≡ i
    at j there first true p b q = absurd (true≢false (sym here ∙ first i (ltb-true i j p)))
    at j there first false p true q = absurd (true≢false (sym there ∙ before j (ltb-true j i q)))
    at j there first false p false q = omega (arith, ltb-false i j p, ltb-false j i q)

    go : (x : Option ℕ) → Least s id l x → x ≡ Some i
    go None f = absurd (true≢false (sym here ∙ f i))
    go (Some j) f = ap Some (at j f.0 f.1 (ltb i j) refl (ltb j i) refl)

module _ (i : ℕ) (id : List ℕ) (p : Sibling) where
  client-carried : carried_in id i (client_level i id p) ≡ true
  unfolding client_level client_entry sibling_entry carried_in carries_as
  client-carried = go (eqb (i % 2) 1)
    where
      go : (t : Bool) → carried_in id i (pick t (sibling_entry i p ∷ client_entry i id ∷ []) (client_entry i id ∷ sibling_entry i p ∷ [])) ≡ true
      go true = rw (eq-eqb i i refl, same_refl id) (or_true (eqb (sibling_position i) i && carries_as id (as_carried p)))
      go false = rw (eq-eqb i i refl, same_refl id)

  -- the sibling stands before the client's leaf at an odd position only, where it is no twin
  none_before : (odd i ≡ true → carries_as id (as_carried p) ≡ false) → (o : ℕ) → o < i → carried_in id o (client_level i id p) ≡ false
  unfolding client_level client_entry sibling_entry carried_in carries_as
  none_before f o b = go (eqb (i % 2) 1) refl
    where
      go : (t : Bool) → eqb (i % 2) 1 ≡ t → carried_in id o (pick t (sibling_entry i p ∷ client_entry i id ∷ []) (client_entry i id ∷ sibling_entry i p ∷ [])) ≡ false
      go true h = rw (f h, ne_eqb i o (λ q. omega arith), and-false (eqb (sibling_position i) o))
      go false h =
          let e = sibling-even i (eqb-false (i % 2) 1 h) in
          rw (ne_eqb i o (λ q. omega arith), ne_eqb (sibling_position i) o (λ q. omega arith))

-- the id of a climb to a root starts where the climb does
first_step : (p : Sibling) (o : Bool) (c a b : List ℕ) → step p o c ≡ joins a b → o ≡ true → carries_as c (as_carried p) ≡ false
unfolding step as_carried carries_as
first_step (value h) o c a b e t = no_twin c h a b (rw t at e)
first_step copied o c a b e t = refl
first_step absent o c a b e t = refl

pub starts_client : (s c r : List ℕ) (l : List Leaf) (σ : Siblings) (h i : ℕ) → 0 < h → end_of c (ascend σ 0 h i c) ≡ accepted r
    → map (entry_of s) l ≡ get_or (client_levels i c (taken σ 0 h i)) 0 [] → least_offset s c l ≡ Some i
unfolding client_levels taken
starts_client s c r l σ zero i b e is = absurd (omega arith)
starts_client s c r l σ (suc n) i b e is =
    let x = climbs_on σ 0 n i c r e in
    starts_at s c l i (carried i ∙ client-carried i c p) (λ o k. carried o ∙ none_before i c p (first_step p (odd i) c x.0 x.1 x.2) o k)
  where
    p : Sibling
    p = σ 0 (sibling_position i)

    carried : (o : ℕ) → carried_at s c o l ≡ carried_in c o (client_level i c p)
    carried o = carried-says s c o l ∙ ap (carried_in c o) is
