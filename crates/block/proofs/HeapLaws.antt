-- Laws of the tree as the code keeps it.
use mathlib.Core.Path.{◌≡◌, refl, sym, ap, ap₂, ◌∙◌}
use mathlib.Core.Bool.{Bool, true, false}
use mathlib.Core.List.{List, [], ◌++◌}
use Prim.Native.Nat.{ℕ, zero, suc, ◌+◌, ◌-◌, ◌*◌, ◌/◌, ◌%◌, ◌^◌, ◌≤◌, ◌<◌}
use lib.ListN.{length, get_or}
use lib.Seq.{paste, length-paste}
use lib.Dec.{ltb, leb, eqb}
use lib.Pow.{pow_mono}
use native.Mathlib.Omega.{arith}
use native.Mathlib.Nat.{pow-suc, sub-zero}
use native.Mathlib.Numerals.{add-one}
use borrow.Author.Tests.{lt-ltb, le-ltb, ltb-true, ltb-false, leb-true, leb-false, eq-eqb, ne_eqb}
use Rattle.hash.specs.Sha256.{sha256d}
use Rattle.hash.proofs.Sha256Laws.{sha256d-length}
use borrow.Author.Count.{below_more}
use Rattle.lanes.specs.declared.Nodes.{Nodes}
use Rattle.lanes.specs.Lanes as L
use Rattle.format.specs.Bytes.{same, set_hash, hash_at}
use Rattle.format.proofs.BytesLaws.{set-inside, hash-there, hash-at-length}
use Rattle.format.specs.Parse.{pick}
use Rattle.format.specs.Refusals.{TWIN}
use Rattle.spv.specs.Result.{at_sibling}
use Rattle.spv.specs.Climb.{sibling_position}
use Rattle.spv.specs.Hashes.{hashes_of}
use Rattle.block.specs.Tree.{above, layer, size, node, height_for, tree_climb}
use Rattle.block.proofs.TreeLaws.{above-length, above-pair, above_last, height-holds, height-least, size-suc}
use Rattle.spv.proofs.HashesLaws.{hashes-length, hashes-at}
use Rattle.spv.proofs.Stored.{stored_here, stored_other}
use Rattle.block.proofs.TreeClimb.{twin_at, end_from, from_end, from_twin, from_on, from_all}
use Rattle.std.specs.Prelude.{Ok, Err}
use Rattle.block.specs.Heap.{node_in, right_in, pair_in, set_four, Stored, Heap, Level, twin_in, Grown, climb_of}

-- ---- a level and its places

pub level-start : (h top : ℕ) → top ≡ 2 ^ h → Level h 0 top
level-start h top e = record { low = omega arith; wide = e ∙ ap (λ (k : ℕ). 2 ^ k) (sym (sub-zero h)) }

module _ (h k width : ℕ) (b : Level h k width) (more : k < h) where
  halved : 2 ^ (h - k) ≡ 2 ^ (h - (k + 1)) * 2
  halved = let e : h - k ≡ suc (h - (k + 1)) = omega (arith, add-one (h - (k + 1))) in ap (λ (x : ℕ). 2 ^ x) e ∙ pow-suc 2 (h - (k + 1))

  pub level_on : Level h (k + 1) (width / 2)
  level_on = record { low = omega arith; wide = let a = b.wide in omega (arith, halved) }

  pub level-small : h ≤ 10 → (width % 2 ≡ 0) × (width ≤ 1024)
  level-small l =
      let p : 2 ^ (h - k) ≤ 2 ^ 10 = pow_mono {j = 10} (omega arith) in
      let w = b.wide in
      (omega (arith, halved), omega arith)

-- ---- the least height, step by step

pub height-is : (n h : ℕ) → n ≤ 2 ^ h → ((g : ℕ) → g < h → 2 ^ g < n) → h ≡ height_for n
height-is n h e f = go (ltb (height_for n) h) refl
  where
    go : (t : Bool) → ltb (height_for n) h ≡ t → h ≡ height_for n
    go true q = absurd (let a = f (height_for n) (ltb-true (height_for n) h q) in let b = height-holds n in omega arith)
    go false q = let a = height-least n h e in let b = ltb-false (height_for n) h q in omega arith

-- ---- a level raised: j of its nodes stand

module _ (list heap : List ℕ) (base : Bool) (width : ℕ) (l : List (List ℕ)) (h : Stored list heap base width l) where
  pub pair-above : (j : ℕ) → j < length (above l) → pair_in list heap base width (length l) j ≡ get_or (above l) j []
  unfolding pair_in right_in
  pair-above j b = go (ltb (2 * j + 1) (length l)) refl
    where
      few : 2 * j < length l
      few = let e = above-length l in omega arith

      go : (t : Bool) → ltb (2 * j + 1) (length l) ≡ t
          → sha256d (node_in list heap base width (2 * j) ++ pick t (node_in list heap base width (2 * j + 1)) (node_in list heap base width (2 * j))) ≡ get_or (above l) j []
      go true e =
          let lt = ltb-true (2 * j + 1) (length l) e in
          ap₂ (λ (x y : List ℕ). sha256d (x ++ y)) (h (2 * j) few) (h (2 * j + 1) lt ∙ ap (λ (k : ℕ). get_or l k []) (add-one (2 * j)))
          ∙ sym (above-pair l j (2 * j) (omega arith) (omega arith))
      go false e =
          let ge = ltb-false (2 * j + 1) (length l) e in
          let f = few in
          ap₂ (λ (x y : List ℕ). sha256d (x ++ y)) (h (2 * j) few) (h (2 * j) few) ∙ sym (above_last l j (2 * j) (omega arith) (omega arith))

-- ---- for the functions' proofs

module _ (list heap : List ℕ) (width j : ℕ) where
  pub node_base : {base : Bool} → base ≡ true → hash_at list (32 * j) ≡ node_in list heap base width j
  unfolding node_in
  node_base e = rw e

  pub node_heap : {base : Bool} → base ≡ false → hash_at heap (32 * (width + j)) ≡ node_in list heap base width j
  unfolding node_in
  node_heap e = rw e

pub node-length : (list heap : List ℕ) (base : Bool) (width j : ℕ) → length (node_in list heap base width j) ≡ 32
unfolding node_in
node-length list heap true width j = hash-at-length list (32 * j)
node-length list heap false width j = hash-at-length heap (32 * (width + j))

module _ (list heap : List ℕ) (base : Bool) (width count j : ℕ) where
  pub right_next : j + 1 < count → node_in list heap base width (j + 1) ≡ right_in list heap base width count j
  unfolding right_in
  right_next h = rw (lt-ltb (j + 1) count h)

  pub right_copy : count ≤ j + 1 → node_in list heap base width j ≡ right_in list heap base width count j
  unfolding right_in
  right_copy h = rw (le-ltb (j + 1) count h)

module _ (n h w : ℕ) (e : w ≡ 2 ^ h) (f : (g : ℕ) → g < h → 2 ^ g < n) where
  pub shape_on : w < n → (2 * w ≡ 2 ^ (h + 1)) × ((g : ℕ) → g < h + 1 → 2 ^ g < n)
  shape_on l = (let p = pow-suc 2 h in rw (add-one h) (omega arith), below_more (λ (g : ℕ). 2 ^ g < n) h f (rw (← e) l))

  pub shape_end : n ≤ w → (h ≡ height_for n) × (w ≡ 2 ^ height_for n)
  shape_end l = let is = height-is n h (rw (← e) l) f in (is, e ∙ ap (λ (k : ℕ). 2 ^ k) is)

-- what four lanes hold, in each of them
pub four_in : (f : ℕ → List ℕ) (j : ℕ) (n : Nodes) → n.a ≡ f j → n.b ≡ f (j + 1) → n.c ≡ f (j + 2) → n.d ≡ f (j + 3) → (i : ℕ) → i < 4 → L.node i n ≡ f (j + i)
unfolding L.node L.in_lane
four_in f j n ea eb ec ed zero h = let z : j ≡ j + 0 = omega arith in ea ∙ ap f z
four_in f j n ea eb ec ed (suc zero) h = eb
four_in f j n ea eb ec ed (suc (suc zero)) h = ec
four_in f j n ea eb ec ed (suc (suc (suc zero))) h = ed
four_in f j n ea eb ec ed (suc (suc (suc (suc i)))) h = absurd (omega arith)

-- four pairs joined
pub four_pairs : (list heap : List ℕ) (base : Bool) (width count j : ℕ) (left right n : Nodes) → ((i : ℕ) → i < 4 → L.node i left ≡ node_in list heap base width (2 * (j + i)))
    → ((i : ℕ) → i < 4 → L.node i right ≡ right_in list heap base width count (2 * (j + i))) → ((i : ℕ) → L.node i n ≡ sha256d (L.node i left ++ L.node i right))
    → (i : ℕ) → i < 4 → L.node i n ≡ pair_in list heap base width count (j + i)
unfolding pair_in
four_pairs list heap base width count j left right n el er e i h = e i ∙ ap₂ (λ (x y : List ℕ). sha256d (x ++ y)) (el i h) (er i h)

-- ---- a loop that raises a level: j of its nodes are made of the level as it was, and nothing from the level on is touched

pub record Raising (list heap₀ : List ℕ) (base : Bool) (width count : ℕ) (heap : List ℕ) (j : ℕ) : Type 0 where
  pub few : j ≤ (count + 1) / 2
  pub long : length heap ≡ length heap₀
  pub kept : (p : ℕ) → width ≤ p → hash_at heap (32 * p) ≡ hash_at heap₀ (32 * p)
  pub made : (i : ℕ) → i < j → hash_at heap (32 * (width / 2 + i)) ≡ pair_in list heap₀ base width count i

pub raising_start : (list heap₀ : List ℕ) (base : Bool) (width count : ℕ) → Raising list heap₀ base width count heap₀ 0
raising_start list heap₀ base width count = record { few = omega arith; long = refl; kept = λ p h. refl; made = λ i h. absurd (omega arith) }

node_kept : (list heap heap₀ : List ℕ) (base : Bool) (width j : ℕ) → ((p : ℕ) → width ≤ p → hash_at heap (32 * p) ≡ hash_at heap₀ (32 * p)) → node_in list heap base width j ≡ node_in list heap₀ base width j
unfolding node_in
node_kept list heap heap₀ true width j k = refl
node_kept list heap heap₀ false width j k = k (width + j) (omega arith)

pair-kept : (list heap heap₀ : List ℕ) (base : Bool) (width count j : ℕ) → ((p : ℕ) → width ≤ p → hash_at heap (32 * p) ≡ hash_at heap₀ (32 * p))
    → pair_in list heap base width count j ≡ pair_in list heap₀ base width count j
unfolding pair_in right_in
pair-kept list heap heap₀ base width count j k =
    ap₂ (λ (x y : List ℕ). sha256d (x ++ y)) (node_kept list heap heap₀ base width (2 * j) k)
    (ap₂ (pick (ltb (2 * j + 1) count)) (node_kept list heap heap₀ base width (2 * j + 1) k) (node_kept list heap heap₀ base width (2 * j) k))

-- one node more, made of the level as it was at the start
one_more : (list heap₀ : List ℕ) (base : Bool) (width count : ℕ) (heap : List ℕ) (j : ℕ) → Raising list heap₀ base width count heap j
    → width % 2 ≡ 0 → width ≤ 1024 → count ≤ width → length heap₀ ≡ 32768 → j < (count + 1) / 2 → (hash : List ℕ) (i : ℕ) → i ≡ width / 2 + j
    → hash ≡ pair_in list heap₀ base width count j → Raising list heap₀ base width count (set_hash heap i hash) (j + 1)
unfolding pair_in
one_more list heap₀ base width count heap j r even low inside room more hash i ei eh =
    let q : ℕ = width / 2 + j in
    let lh : length hash ≡ 32 = ap length eh ∙ sha256d-length _ in
    let at : 32 * q + 32 ≤ length heap = let l = r.long in omega arith in
    let is : set_hash heap i hash ≡ paste heap (32 * q) hash 32 = ap (λ (x : ℕ). set_hash heap x hash) ei ∙ set-inside heap q hash (omega arith) in
    rw is
    (record {
      few = omega arith;
      long = length-paste heap (32 * q) hash 32 at (omega arith) ∙ r.long;
      kept = λ p h. stored_other heap hash q lh at p (λ d. omega arith) ∙ r.kept p h;
      made = below_more (λ (x : ℕ). hash_at (paste heap (32 * q) hash 32) (32 * (width / 2 + x)) ≡ pair_in list heap₀ base width count x) j
          (λ x h. stored_other heap hash q lh at (width / 2 + x) (λ d. omega arith) ∙ r.made x h)
          (stored_here heap hash q lh at ∙ eh);
    })

module _ (list heap₀ : List ℕ) (base : Bool) (width count : ℕ) (heap : List ℕ) (j : ℕ) (r : Raising list heap₀ base width count heap j) where
  pub raising_on : (even : width % 2 ≡ 0) (low : width ≤ 1024) (inside : count ≤ width) (room : length heap₀ ≡ 32768) (more : j < (count + 1) / 2)
      (left right hash heap' : List ℕ) → left ≡ node_in list heap base width (2 * j) → right ≡ right_in list heap base width count (2 * j) → hash ≡ sha256d (left ++ right)
      → heap' ≡ set_hash heap (width / 2 + j) hash → Raising list heap₀ base width count heap' (j + 1)
  unfolding pair_in
  raising_on even low inside room more left right hash heap' el er eh e =
      let is : hash ≡ pair_in list heap base width count j = eh ∙ ap₂ (λ (x y : List ℕ). sha256d (x ++ y)) el er in
      rw e
      (one_more list heap₀ base width count heap j r even low inside room more hash (width / 2 + j) refl (is ∙ pair-kept list heap heap₀ base width count j r.kept))

  pub raising_four : (even : width % 2 ≡ 0) (low : width ≤ 1024) (inside : count ≤ width) (room : length heap₀ ≡ 32768) (more : j + 4 ≤ (count + 1) / 2)
      (four : Nodes) (heap' : List ℕ) → ((i : ℕ) → i < 4 → L.node i four ≡ pair_in list heap base width count (j + i))
      → heap' ≡ set_four heap (width / 2 + j) four → Raising list heap₀ base width count heap' (j + 4)
  unfolding set_four L.node L.in_lane
  raising_four even low inside room more four heap' e eh =
      let is : (i : ℕ) → i < 4 → L.node i four ≡ pair_in list heap₀ base width count (j + i) = λ i h. e i h ∙ pair-kept list heap heap₀ base width count (j + i) r.kept in
      let h1 : List ℕ = set_hash heap (width / 2 + j) four.a in
      let h2 : List ℕ = set_hash h1 (width / 2 + j + 1) four.b in
      let h3 : List ℕ = set_hash h2 (width / 2 + j + 2) four.c in
      let z : j + 0 ≡ j = omega arith in
      let i0 = is 0 (omega arith) in
      let r1 = one_more list heap₀ base width count heap j r even low inside room (omega arith) four.a (width / 2 + j) refl (rw z at i0) in
      let r2 = one_more list heap₀ base width count h1 (j + 1) r1 even low inside room (omega arith) four.b (width / 2 + j + 1) (omega arith) (is 1 (omega arith)) in
      let s2 : j + 1 + 1 ≡ j + 2 = omega arith in
      let r3 = one_more list heap₀ base width count h2 (j + 2) (rw s2 at r2) even low inside room (omega arith) four.c (width / 2 + j + 2) (omega arith) (is 2 (omega arith)) in
      let s3 : j + 2 + 1 ≡ j + 3 = omega arith in
      let r4 = one_more list heap₀ base width count h3 (j + 3) (rw s3 at r3) even low inside room (omega arith) four.d (width / 2 + j + 3) (omega arith) (is 3 (omega arith)) in
      let s4 : j + 3 + 1 ≡ j + 4 = omega arith in
      rw eh (rw s4 at r4)

  pub raising_end : (count + 1) / 2 ≤ j → (l : List (List ℕ)) → length l ≡ count → Stored list heap₀ base width l → Stored list heap false (width / 2) (above l)
  unfolding node_in
  raising_end h l e s i b =
      let n = above-length l in
      r.made i (omega arith) ∙ ap (λ (k : ℕ). pair_in list heap₀ base width k i) (sym e) ∙ pair-above list heap₀ base width l s i b

-- ---- every level

-- k levels stand, and the next one's places and count are known
pub record Building (list heap : List ℕ) (h n width count k : ℕ) : Type 0 where
  pub low : k ≤ h
  pub wide : width ≡ 2 ^ (h - k)
  pub count-is : count ≡ size (hashes_of list) k
  pub inside : count ≤ width
  pub stand : Heap list heap h k

pub base_stored : (list heap : List ℕ) (width : ℕ) → Stored list heap true width (hashes_of list)
unfolding node_in hashes_of
base_stored list heap width j b =
    let low : j < length list / 32 = rw (hashes-length (length list / 32) list) at b in
    hash-there list (32 * j) (omega arith) ∙ sym (hashes-at (length list / 32) list j low)

pub building-start : (list heap : List ℕ) (h n top : ℕ) → top ≡ 2 ^ h → n ≤ top → n ≡ length list / 32 → Building list heap h n top n 0
unfolding layer hashes_of node_in
building-start list heap h n top e l f = record {
  low = omega arith;
  wide = e ∙ ap (λ (k : ℕ). 2 ^ k) (sym (sub-zero h));
  count-is = f ∙ sym (hashes-length (length list / 32) list);
  inside = l;
  stand = first;
}
  where
    first : (m : ℕ) → m ≤ 0 → Stored list heap (eqb m 0) (2 ^ (h - m)) (layer (hashes_of list) m)
    first zero b = base_stored list heap (2 ^ (h - 0))
    first (suc m) b = absurd (omega arith)

module _ (list heap : List ℕ) (h n width count k : ℕ) (b : Building list heap h n width count k) (more : k < h) where
  pub building-wide : h ≤ 10 → (width % 2 ≡ 0) × (width ≤ 1024) × (count ≤ width)
  building-wide l =
      let e : h - k ≡ suc (h - (k + 1)) = omega (arith, add-one (h - (k + 1))) in
      let d : 2 ^ (h - k) ≡ 2 ^ (h - (k + 1)) * 2 = ap (λ (x : ℕ). 2 ^ x) e ∙ pow-suc 2 (h - (k + 1)) in
      let p : 2 ^ (h - k) ≤ 2 ^ 10 = pow_mono {j = 10} (omega arith) in
      let w = b.wide in
      (omega arith, omega arith, b.inside)

  pub building_on : (heap' : List ℕ) (w c : ℕ)
      → ((l : List (List ℕ)) → length l ≡ count → Stored list heap (eqb k 0) width l → Stored list heap' false (width / 2) (above l))
      → ((p : ℕ) → width ≤ p → hash_at heap' (32 * p) ≡ hash_at heap (32 * p)) → w ≡ width / 2 → c ≡ (count + 1) / 2
      → Building list heap' h n w c (k + 1)
  unfolding layer
  building_on heap' w c rises keeps ew ec = record {
    low = omega arith;
    wide = let a = b.wide in omega (arith, halved);
    count-is = let a = b.count-is in let s = size-suc (hashes_of list) k in rw (add-one k) (omega arith);
    inside = let a = b.inside in let d = b.wide in omega (arith, halved);
    stand = λ m d. each m (leb m k) refl d;
  }
    where
      halved : 2 ^ (h - k) ≡ 2 ^ (h - (k + 1)) * 2
      halved = let e : h - k ≡ suc (h - (k + 1)) = omega (arith, add-one (h - (k + 1))) in ap (λ (x : ℕ). 2 ^ x) e ∙ pow-suc 2 (h - (k + 1))

      next : Stored list heap' (eqb (k + 1) 0) (2 ^ (h - (k + 1))) (layer (hashes_of list) (k + 1))
      next =
          let half : width / 2 ≡ 2 ^ (h - (k + 1)) = let a = b.wide in omega (arith, halved) in
          let up = rises (layer (hashes_of list) k) (sym b.count-is) (rw b.wide (b.stand k (omega arith))) in
          rw (ne_eqb (k + 1) 0 (λ q. omega arith), ← half, add-one k) up

      each : (m : ℕ) (t : Bool) → leb m k ≡ t → m ≤ k + 1 → Stored list heap' (eqb m 0) (2 ^ (h - m)) (layer (hashes_of list) m)
      each m true e d = λ j c.
          let l = leb-true m k e in
          let wider : width ≤ 2 ^ (h - m) = let a = b.wide in let p : 2 ^ (h - k) ≤ 2 ^ (h - m) = pow_mono {j = h - m} (omega arith) in omega arith in
          node_kept list heap' heap (eqb m 0) (2 ^ (h - m)) j (λ p g. keeps p (omega arith)) ∙ b.stand m l j c
      each m false e d = let g = leb-false m k e in let is : m ≡ k + 1 = omega arith in rw is next

-- ---- climbs in the heap

module _ (list heap : List ℕ) (base : Bool) (width j : ℕ) where
  pub twin_even : j % 2 ≡ 0 → false ≡ twin_in list heap base width j
  unfolding twin_in
  twin_even e = rw (ne_eqb (j % 2) 1 (λ q. omega arith))

  pub twin_odd : (j % 2 ≡ 0 → ⊥) → {a b : List ℕ} {r : Bool} → a ≡ node_in list heap base width (j - 1) → b ≡ node_in list heap base width j → r ≡ same a b → r ≡ twin_in list heap base width j
  unfolding twin_in
  twin_odd d e f g = rw (eq-eqb (j % 2) 1 (omega arith)) (g ∙ ap₂ same e f)

pub grown : (list heap : List ℕ) (h : ℕ) → h ≡ height_for (length list / 32) → Heap list heap h h → Grown list heap h
grown list heap h e f = record { least = e; nodes = f }

-- a climb from i that has come to position j of layer k
pub record Climbing (list : List ℕ) (h i k j : ℕ) : Type 0 where
  pub inside : j < size (hashes_of list) k
  pub same_end : end_from (hashes_of list) k (h - k) j ≡ tree_climb (hashes_of list) i

module _ {list heap : List ℕ} {h : ℕ} (g : Grown list heap h) where
  pub climb_start : (i : ℕ) → i < length list / 32 → Climbing list h i 0 i
  unfolding layer hashes_of
  climb_start i b =
      let n = hashes-length (length list / 32) list in
      record {
        inside = omega arith;
        same_end = ap (λ (x : ℕ). end_from (hashes_of list) 0 x i) (sub-zero h ∙ g.least ∙ ap height_for (sym n)) ∙ from_all (hashes_of list) i;
      }

  module _ (k width j : ℕ) (b : Level h k width) (more : k < h) (inside : j < size (hashes_of list) k) where
    twin_is : twin_in list heap (eqb k 0) width j ≡ twin_at (hashes_of list) k j
    unfolding twin_in twin_at
    twin_is = go (eqb (j % 2) 1) refl
      where
        at : (x : ℕ) → x < size (hashes_of list) k → node_in list heap (eqb k 0) width x ≡ node (hashes_of list) k x
        at x l = rw b.wide (g.nodes k (omega arith) x l)

        go : (t : Bool) → eqb (j % 2) 1 ≡ t → pick t (same (node_in list heap (eqb k 0) width (j - 1)) (node_in list heap (eqb k 0) width j)) false
            ≡ pick t (same (node (hashes_of list) k (j - 1)) (node (hashes_of list) k j)) false
        go true e = ap₂ same (at (j - 1) (omega arith)) (at j inside)
        go false e = refl

    one : h - k ≡ suc (h - (k + 1))
    one = omega (arith, add-one (h - (k + 1)))

    pub climb_twin : (i : ℕ) → twin_in list heap (eqb k 0) width j ≡ true → Climbing list h i k j → {q : ℕ} → q ≡ sibling_position j → Err (at_sibling TWIN k q) ≡ climb_of (tree_climb (hashes_of list) i)
    climb_twin i e c s =
        rw s
        (ap climb_of
        (sym (from_twin (hashes_of list) k (h - (k + 1)) j inside (sym twin_is ∙ e))
        ∙ ap (λ (x : ℕ). end_from (hashes_of list) k x j) (sym one)
        ∙ c.same_end))

    pub climb_on : (i : ℕ) → twin_in list heap (eqb k 0) width j ≡ false → Climbing list h i k j → Climbing list h i (k + 1) (j / 2)
    climb_on i e c = record {
      inside = let s = size-suc (hashes_of list) k in rw (add-one k) (omega arith);
      same_end =
          ap (λ (x : ℕ). end_from (hashes_of list) x (h - (k + 1)) (j / 2)) (add-one k)
          ∙ sym (from_on (hashes_of list) k (h - (k + 1)) j inside (sym twin_is ∙ e))
          ∙ ap (λ (x : ℕ). end_from (hashes_of list) k x j) (sym one)
          ∙ c.same_end;
    }

pub climb_end : (list : List ℕ) (h i k j : ℕ) → h ≤ k → Climbing list h i k j → Ok tt ≡ climb_of (tree_climb (hashes_of list) i)
climb_end list h i k j l c =
    let z : h - k ≡ 0 = omega arith in
    ap climb_of (sym (from_end (hashes_of list) k j) ∙ ap (λ (x : ℕ). end_from (hashes_of list) k x j) (sym z) ∙ c.same_end)
