-- The levels that the code counts and writes are those asked for.
use mathlib.Core.Path.{◌≡◌, refl, sym, ap, ap₂, ◌∙◌}
use mathlib.Core.Bool.{Bool, true, false, ◌&&◌, not}
use mathlib.Core.List.{List, [], ◌∷◌, ◌++◌}
use Rattle.std.specs.Prelude.{Option, Some, None}
use Prim.Native.Nat.{ℕ, zero, suc, ◌+◌, ◌-◌, ◌*◌, ◌/◌, ◌%◌, ◌^◌, ◌≤◌, ◌<◌}
use lib.ListN.{length, length-append}
use lib.Dec.{ltb, eqb}
use native.Mathlib.Omega.{arith}
use borrow.Author.Tests.{ltb-true, lt-ltb, eqb-true, ne_eqb}
use Rattle.format.specs.Parse.{pick}
use Rattle.spv.specs.Climb.{sibling_position}
use Rattle.spv.specs.Hashes.{hashes_of}
use Rattle.block.specs.declared.level.Asked.{Asked}
use Rattle.block.specs.declared.level.Asked.TheVariants.{Plain, Copy, Client}
use Rattle.encoding.specs.Encode.{encode_all}
use Rattle.encoding.specs.Digits.{varint_bytes}
use Rattle.encoding.specs.BumpBytes.{Carried, plain, copy, client, carried_bytes, entry_bytes, level_bytes}
use Rattle.block.specs.Tree.{layer, size, node}
use Rattle.block.specs.BlockBump.{Below, all_below, under, left_out, sibling_at, asked, rising, level_for, levels_for}
use Rattle.block.proofs.RisingLaws.{rising_none, rising-some}
use Rattle.block.proofs.BlockFit.{under-below, below-told}
use Rattle.block.specs.Heap.{Stored, Heap, Level}
use Rattle.block.specs.Marks.{Marked}
use Rattle.encoding.specs.Buffer.{Buffer, write_on}
use Rattle.encoding.proofs.BufferLaws.{write_then, write-none}
use Rattle.spv.proofs.HashesLaws.{hashes-length}
use Rattle.block.proofs.TreeLaws.{size-suc}
use native.Mathlib.Nat.{pow-suc, sub-zero, zero-lt-suc}
use native.Mathlib.Numerals.{add-one}
use Rattle.block.specs.Leaves.{Ready, passed_at, form_at, leaf_count, leaf_text, text_at, sum_from, text_from, level_leaves, level_size, leaves_text, level_text}
use Rattle.block.proofs.LeavesLaws.{level-size, sibling_in}

-- the text of what is asked for at an offset
unfoldable pub asked_text : ℕ → Option Carried → List ℕ
asked_text o None = []
asked_text o (Some c) = varint_bytes o ++ carried_bytes c

pub level-text : (f : ℕ → Option Carried) (g : ℕ → List ℕ) (n o : ℕ) → ((x : ℕ) → o ≤ x → x < o + n → g x ≡ asked_text x (f x)) → text_from g o n ≡ encode_all entry_bytes (rising f o n)
unfolding text_from rising encode_all asked_text entry_bytes
level-text f g zero o e = refl
level-text f g (suc n) o e = go (f o) refl (e o (omega arith) (omega arith)) (level-text f g n (o + 1) (λ x a b. e x (omega arith) (omega arith)))
  where
    go : (v : Option Carried) → f o ≡ v → g o ≡ asked_text o (f o) → text_from g (o + 1) n ≡ encode_all entry_bytes (rising f (o + 1) n)
        → g o ++ text_from g (o + 1) n ≡ encode_all entry_bytes (rising f o (suc n))
    go None q h r = rw (rising_none f o n q) (ap₂ (λ (x y : List ℕ). x ++ y) (h ∙ ap (asked_text o) q) r)
    go (Some c) q h r = rw (rising-some f o n c q) (ap₂ (λ (x y : List ℕ). x ++ y) (h ∙ ap (asked_text o) q) r)

unfoldable pub asked_count : Option Carried → ℕ
asked_count None = 0
asked_count (Some c) = 1

level-count : (f : ℕ → Option Carried) (g : ℕ → ℕ) (n o : ℕ) → ((x : ℕ) → o ≤ x → x < o + n → g x ≡ asked_count (f x)) → sum_from g o n ≡ length (rising f o n)
unfolding sum_from rising asked_count
level-count f g zero o e = refl
level-count f g (suc n) o e = go (f o) refl (e o (omega arith) (omega arith)) (level-count f g n (o + 1) (λ x a b. e x (omega arith) (omega arith)))
  where
    go : (v : Option Carried) → f o ≡ v → g o ≡ asked_count (f o) → sum_from g (o + 1) n ≡ length (rising f (o + 1) n) → g o + sum_from g (o + 1) n ≡ length (rising f o (suc n))
    go None q h r = rw (rising_none f o n q) (let z : g o ≡ 0 = h ∙ ap asked_count q in omega arith)
    go (Some c) q h r = rw (rising-some f o n c q) (let z : g o ≡ 1 = h ∙ ap asked_count q in omega arith)

above_zero : (k : ℕ) → ltb 0 k ≡ not (eqb k 0)
above_zero zero = refl
above_zero (suc k) = lt-ltb 0 (suc k) (zero-lt-suc k) ∙ sym (ap not (ne_eqb (suc k) 0 (λ q. omega arith)))

-- ---- a level whose layer stands in its places, and whose nodes are marked

module _ (list chosen : List ℕ) (g : Below (hashes_of list) chosen) (heap marks : List ℕ) (h k : ℕ) (more : k < h)
    (st : Stored list heap (eqb k 0) (2 ^ (h - k)) (layer (hashes_of list) k)) (mk : Marked marks chosen h) where
  even : 2 ^ (h - k) % 2 ≡ 0
  even = let e : h - k ≡ suc (h - (k + 1)) = omega (arith, add-one (h - (k + 1))) in let d : 2 ^ (h - k) ≡ 2 ^ (h - (k + 1)) * 2 = ap (λ (x : ℕ). 2 ^ x) e ∙ pow-suc 2 (h - (k + 1)) in omega arith

  -- the form that the code sees is what is asked for
  abbrev form : ℕ → Option Asked
  form o = form_at marks (eqb k 0) (2 ^ (h - k)) (size (hashes_of list) k) o

  leaf-text : (o : ℕ) → o < 2 ^ (h - k) → text_at list heap (eqb k 0) (2 ^ (h - k)) o (form o) ≡ asked_text o (asked (hashes_of list) chosen k o)
  unfolding form_at passed_at asked left_out sibling_at leaf_text text_at asked_text carried_bytes
  leaf-text o low =
      rw (mk k o more low, mk k (sibling_position o) more (sibling_in (2 ^ (h - k)) o even low), above_zero k) (go (eqb k 0) refl (under chosen k o) refl (under chosen k (sibling_position o)) (ltb o (size (hashes_of list) k)) refl)
    where
      sib : (n : Bool) → (s : Bool) → ltb o (size (hashes_of list) k) ≡ s
          → text_at list heap (eqb k 0) (2 ^ (h - k)) o (pick n (Some (pick s Plain Copy)) None) ≡ asked_text o (pick (n && not false) (Some (pick s (plain (node (hashes_of list) k o)) copy)) None)
      sib true true es = ap (λ (x : List ℕ). varint_bytes o ++ (0 ∷ x)) (st o (ltb-true _ _ es))
      sib true false es = refl
      sib false s es = refl

      go : (a : Bool) → eqb k 0 ≡ a → (b : Bool) → under chosen k o ≡ b → (n : Bool) → (s : Bool) → ltb o (size (hashes_of list) k) ≡ s
          → text_at list heap (eqb k 0) (2 ^ (h - k)) o (pick b (pick a (Some Client) None) (pick n (Some (pick s Plain Copy)) None))
          ≡ asked_text o (pick (a && under chosen 0 o) (Some (client (node (hashes_of list) 0 o))) (pick (n && not (not a && b)) (Some (pick s (plain (node (hashes_of list) k o)) copy)) None))
      go true ea true eb n s es =
          let z : k ≡ 0 = eqb-true k 0 ea in
          let u : under chosen 0 o ≡ true = rw z at eb in
          rw u (ap (λ (x : List ℕ). varint_bytes o ++ (2 ∷ x)) (st o (under-below (hashes_of list) chosen g k o eb) ∙ ap (λ (m : ℕ). node (hashes_of list) m o) z))
      go true ea false eb n s es = let z : k ≡ 0 = eqb-true k 0 ea in let u : under chosen 0 o ≡ false = rw z at eb in rw u (sib n s es)
      go false ea true eb true s es = refl
      go false ea true eb false s es = refl
      go false ea false eb n s es = sib n s es

  leaf-counted : (o : ℕ) → o < 2 ^ (h - k) → leaf_count (form o) ≡ asked_count (asked (hashes_of list) chosen k o)
  unfolding form_at passed_at asked left_out leaf_count asked_count
  leaf-counted o low =
      rw (mk k o more low, mk k (sibling_position o) more (sibling_in (2 ^ (h - k)) o even low), above_zero k) (go (eqb k 0) refl (under chosen k o) refl (under chosen k (sibling_position o)) (ltb o (size (hashes_of list) k)))
    where
      sib : (n s : Bool) → leaf_count (pick n (Some (pick s Plain Copy)) None) ≡ asked_count (pick (n && not false) (Some (sibling_at (hashes_of list) k o)) None)
      sib true true = refl
      sib true false = refl
      sib false s = refl

      go : (a : Bool) → eqb k 0 ≡ a → (b : Bool) → under chosen k o ≡ b → (n s : Bool) → leaf_count (pick b (pick a (Some Client) None) (pick n (Some (pick s Plain Copy)) None))
          ≡ asked_count (pick (a && under chosen 0 o) (Some (client (node (hashes_of list) 0 o))) (pick (n && not (not a && b)) (Some (sibling_at (hashes_of list) k o)) None))
      go true ea true eb n s = let z : k ≡ 0 = eqb-true k 0 ea in let u : under chosen 0 o ≡ true = rw z at eb in rw u
      go true ea false eb n s = let z : k ≡ 0 = eqb-true k 0 ea in let u : under chosen 0 o ≡ false = rw z at eb in rw u (sib n s)
      go false ea true eb true s = refl
      go false ea true eb false s = refl
      go false ea false eb n s = sib n s

  -- the level that the code writes is the one asked for
  level-is : level_text list heap marks (eqb k 0) (2 ^ (h - k)) (size (hashes_of list) k) ≡ level_bytes (level_for (hashes_of list) chosen h k)
  unfolding level_text level_leaves leaves_text level_bytes
  level-is =
      ap₂ (λ (n : ℕ) (x : List ℕ). varint_bytes n ++ x)
      (level-count (asked (hashes_of list) chosen k) (λ o. leaf_count (form o)) (2 ^ (h - k)) 0 (λ o a b. leaf-counted o (omega arith)))
      (level-text (asked (hashes_of list) chosen k) (λ o. text_at list heap (eqb k 0) (2 ^ (h - k)) o (form o)) (2 ^ (h - k)) 0 (λ o a b. leaf-text o (omega arith)))

-- ---- all levels, as a loop goes through them

below_ids : (list chosen : List ℕ) → all_below (length list / 32) chosen ≡ true → Below (hashes_of list) chosen
unfolding hashes_of
below_ids list chosen b i m = rw (hashes-length (length list / 32) list) (below-told (length list / 32) chosen b i m)

pub ready : (list heap marks chosen : List ℕ) (h : ℕ) → all_below (length list / 32) chosen ≡ true → Heap list heap h h → Marked marks chosen h → Ready list heap marks chosen h (length list / 32)
ready list heap marks chosen h b n m = record { below = below_ids list chosen b; nodes = n; climbs = m; count = refl }

-- the bytes of the levels from k on
abbrev pub rest : List ℕ → List ℕ → ℕ → ℕ → List ℕ
rest list chosen h k = encode_all level_bytes (levels_for (hashes_of list) chosen h k (h - k))

pub rest_all : (list chosen : List ℕ) (h : ℕ) → encode_all level_bytes (levels_for (hashes_of list) chosen h 0 h) ≡ rest list chosen h 0
rest_all list chosen h = ap (λ (n : ℕ). encode_all level_bytes (levels_for (hashes_of list) chosen h 0 n)) (sym (sub-zero h))

pub rest-none : (list chosen : List ℕ) (h k : ℕ) → h ≤ k → rest list chosen h k ≡ []
unfolding levels_for encode_all
rest-none list chosen h k l = let z : h - k ≡ 0 = omega arith in rw z

pub count-start : (list : List ℕ) (n : ℕ) → n ≡ length list / 32 → n ≡ size (hashes_of list) 0
unfolding layer hashes_of
count-start list n e = e ∙ sym (hashes-length (length list / 32) list)

pub count_on : (list : List ℕ) (k count : ℕ) → count ≡ size (hashes_of list) k → (count + 1) / 2 ≡ size (hashes_of list) (k + 1)
count_on list k count e = let s = size-suc (hashes_of list) k in rw (add-one k) (omega arith)

pub rest_on : {list heap marks chosen : List ℕ} {h n : ℕ} → Ready list heap marks chosen h n → (k width count : ℕ) → Level h k width → k < h → count ≡ size (hashes_of list) k
    → rest list chosen h k ≡ level_text list heap marks (eqb k 0) width count ++ rest list chosen h (k + 1)
unfolding levels_for encode_all
rest_on {list} {heap} {marks} {chosen} {h} r k width count b more e =
    let one : h - k ≡ suc (h - (k + 1)) = omega (arith, add-one (h - (k + 1))) in
    rw (one, b.wide, e) (ap (λ (x : List ℕ). x ++ rest list chosen h (k + 1)) (sym (level-is list chosen r.below heap marks h k more (r.nodes k (omega arith)) r.climbs)))

-- a level written, and its bytes counted
module _ {list heap marks chosen : List ℕ} {h n : ℕ} (r : Ready list heap marks chosen h n) (k width count : ℕ) (b : Level h k width) (more : k < h) (e : count ≡ size (hashes_of list) k) where
  pub written_on : (p : Buffer) {q : Buffer} → q ≡ write_on p (level_text list heap marks (eqb k 0) width count) → write_on p (rest list chosen h k) ≡ write_on q (rest list chosen h (k + 1))
  written_on p f =
      ap (write_on p) (rest_on r k width count b more e) ∙ write_then p (level_text list heap marks (eqb k 0) width count) (rest list chosen h (k + 1))
      ∙ ap (λ (x : Buffer). write_on x (rest list chosen h (k + 1))) (sym f)

  pub sized_on : (total : ℕ) {leaves bytes : ℕ} → leaves ≡ length (varint_bytes (level_leaves marks (eqb k 0) width count)) → bytes ≡ level_size marks (eqb k 0) width count
      → total + (leaves + bytes) + length (rest list chosen h (k + 1)) ≡ total + length (rest list chosen h k)
  sized_on total f g =
      let s = level-size list heap marks (eqb k 0) width count in
      let i = ap length (rest_on r k width count b more e) in
      let a = length-append (level_text list heap marks (eqb k 0) width count) (rest list chosen h (k + 1)) in
      omega arith

module _ (list chosen : List ℕ) (h k : ℕ) (end : h ≤ k) where
  pub written-end : (p : Buffer) {q : Buffer} → write_on p (rest list chosen h 0) ≡ write_on q (rest list chosen h k) → q ≡ write_on p (encode_all level_bytes (levels_for (hashes_of list) chosen h 0 h))
  written-end p {q} e = sym (ap (write_on p) (rest_all list chosen h) ∙ e ∙ ap (write_on q) (rest-none list chosen h k end) ∙ write-none q)

  pub sized-end : (total : ℕ) → total + length (rest list chosen h k) ≡ length (rest list chosen h 0) → total ≡ length (encode_all level_bytes (levels_for (hashes_of list) chosen h 0 h))
  sized-end total e =
      let z = ap length (rest-none list chosen h k end) in
      let a = ap length (rest_all list chosen h) in
      omega arith
