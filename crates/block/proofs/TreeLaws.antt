-- Laws of the tree: its least height, its sizes and its nodes.
use mathlib.Core.Path.{◌≡◌, refl, sym, ap, ◌∙◌}
use mathlib.Core.Bool.{Bool, true, false}
use mathlib.Core.List.{List, [], ◌∷◌, ◌++◌}
use Prim.Native.Nat.{ℕ, zero, suc, ◌+◌, ◌^◌, ◌/◌, ◌≤◌, ◌<◌}
use lib.ListN.{length, get_or}
use lib.Dec.{ltb, leb}
use lib.Pow.{pow_pos, shr-shr}
use native.Mathlib.Omega.{arith}
use native.Mathlib.Nat.{pow-suc, add-zero, zero-add, div-one}
use native.Mathlib.Numerals.{add-one}
use borrow.Author.Tests.{leb-true, leb-false, ltb-true, ltb-false}
use Rattle.hash.specs.Sha256.{sha256d}
use Rattle.hash.proofs.Sha256Laws.{sha256d-length, sha256d-bytes}
use Rattle.encoding.specs.BumpBytes.{HashFit}
use Rattle.block.specs.Tree.{above, layer, size, least_from, height_for}

-- ---- the least height

least-here : (steps h n : ℕ) → leb n (2 ^ h) ≡ true → least_from (suc steps) h n ≡ h
unfolding least_from
least-here steps h n e = rw (least_from, e)

least_on : (steps h n : ℕ) → leb n (2 ^ h) ≡ false → least_from (suc steps) h n ≡ least_from steps (h + 1) n
unfolding least_from
least_on steps h n e = rw (least_from, e)

least-holds : (steps h n : ℕ) → n ≤ 2 ^ (h + steps) → n ≤ 2 ^ least_from steps h n
unfolding least_from
least-holds zero h n e = rw add-zero at e
least-holds (suc steps) h n e = go (leb n (2 ^ h)) refl (least-holds steps (h + 1) n (let k : h + suc steps ≡ h + 1 + steps = omega arith in rw k at e))
  where
    go : (t : Bool) → leb n (2 ^ h) ≡ t → n ≤ 2 ^ least_from steps (h + 1) n → n ≤ 2 ^ least_from (suc steps) h n
    go true q r = rw (least-here steps h n q) (leb-true _ _ q)
    go false q r = rw (least_on steps h n q) r

least-least : (steps h n : ℕ) → ((g : ℕ) → g < h → 2 ^ g < n) → (g : ℕ) → g < least_from steps h n → 2 ^ g < n
unfolding least_from
least-least zero h n f g b = f g b
least-least (suc steps) h n f g b = go (leb n (2 ^ h)) refl (λ k. least-least steps (h + 1) n k g)
  where
    more : 2 ^ h < n → (g : ℕ) → g < h + 1 → 2 ^ g < n
    more q g b = pick' (ltb g h) refl
      where
        pick' : (t : Bool) → ltb g h ≡ t → 2 ^ g < n
        pick' true e = f g (ltb-true g h e)
        pick' false e = let k : g ≡ h = omega (arith, ltb-false g h e) in rw k q

    go : (t : Bool) → leb n (2 ^ h) ≡ t → (((g : ℕ) → g < h + 1 → 2 ^ g < n) → g < least_from steps (h + 1) n → 2 ^ g < n) → 2 ^ g < n
    go true q r = f g (rw (least-here steps h n q) at b)
    go false q r = r (more (leb-false _ _ q)) (rw (least_on steps h n q) at b)

below_power : (n : ℕ) → n ≤ 2 ^ n
below_power zero = omega arith
below_power (suc n) = let e = pow-suc 2 n in let p = pow_pos n in let r = below_power n in omega arith

pub height-holds : (n : ℕ) → n ≤ 2 ^ height_for n
unfolding height_for
height-holds n = least-holds n 0 n (rw zero-add (below_power n))

pub height-least : (n h : ℕ) → n ≤ 2 ^ h → height_for n ≤ h
unfolding height_for
height-least n h e = go (ltb h (least_from n 0 n)) refl
  where
    go : (t : Bool) → ltb h (least_from n 0 n) ≡ t → least_from n 0 n ≤ h
    go true q = absurd (let l = least-least n 0 n (λ g b. absurd (omega arith)) h (ltb-true _ _ q) in omega arith)
    go false q = ltb-false _ _ q

-- ---- sizes and nodes

-- the layer above: half as many nodes, the last one of an odd layer paired with itself
pub above-length : (l : List (List ℕ)) → length (above l) ≡ (length l + 1) / 2
unfolding above
above-length [] = refl
above-length (x ∷ []) = refl
above-length (x ∷ (y ∷ l)) = let e = above-length l in omega arith

pub above-pair : (l : List (List ℕ)) (m j : ℕ) → j ≡ m + m → suc j < length l → get_or (above l) m [] ≡ sha256d (get_or l j [] ++ get_or l (suc j) [])
unfolding above
above-pair [] m j e h = absurd (omega arith)
above-pair (x ∷ []) m j e h = absurd (omega arith)
above-pair (x ∷ (y ∷ l)) zero zero e h = refl
above-pair (x ∷ (y ∷ l)) zero (suc j) e h = absurd (omega arith)
above-pair (x ∷ (y ∷ l)) (suc m) zero e h = absurd (omega arith)
above-pair (x ∷ (y ∷ l)) (suc m) (suc zero) e h = absurd (omega arith)
above-pair (x ∷ (y ∷ l)) (suc m) (suc (suc j)) e h = above-pair l m j (omega arith) (omega arith)

pub above_last : (l : List (List ℕ)) (m j : ℕ) → j ≡ m + m → suc j ≡ length l → get_or (above l) m [] ≡ sha256d (get_or l j [] ++ get_or l j [])
unfolding above
above_last [] m j e h = absurd (omega arith)
above_last (x ∷ []) zero zero e h = refl
above_last (x ∷ []) zero (suc j) e h = absurd (omega arith)
above_last (x ∷ []) (suc m) zero e h = absurd (omega arith)
above_last (x ∷ []) (suc m) (suc j) e h = absurd (omega arith)
above_last (x ∷ (y ∷ l)) zero zero e h = absurd (omega arith)
above_last (x ∷ (y ∷ l)) zero (suc j) e h = absurd (omega arith)
above_last (x ∷ (y ∷ l)) (suc m) zero e h = absurd (omega arith)
above_last (x ∷ (y ∷ l)) (suc m) (suc zero) e h = absurd (omega arith)
above_last (x ∷ (y ∷ l)) (suc m) (suc (suc j)) e h = above_last l m j (omega arith) (omega arith)

-- every node below a layer's size is a hash
unfoldable pub Hashes : List (List ℕ) → Type 0
Hashes l = (j : ℕ) → j < length l → HashFit (get_or l j [])

module _ (ids : List (List ℕ)) where
  pub size-suc : (k : ℕ) → size ids (suc k) ≡ (size ids k + 1) / 2
  unfolding layer
  size-suc k = above-length (layer ids k)

  -- a position's climb stays in the tree
  pub stays : (i : ℕ) → i < length ids → (k : ℕ) → i / 2 ^ k < size ids k
  unfolding layer
  stays i h zero = rw (div-one i) h
  stays i h (suc k) =
      let e : i / 2 ^ suc k ≡ i / 2 ^ k / 2 = sym (shr-shr i k 1 ∙ ap (λ (n : ℕ). i / 2 ^ n) (add-one k)) in
      let f = size-suc k in
      let r = stays i h k in
      omega arith

  above-hashes : (l : List (List ℕ)) → Hashes (above l)
  unfolding above Hashes
  above-hashes [] j h = absurd (omega arith)
  above-hashes (x ∷ []) zero h = (sha256d-length (x ++ x), sha256d-bytes (x ++ x))
  above-hashes (x ∷ []) (suc j) h = absurd (omega arith)
  above-hashes (x ∷ (y ∷ l)) zero h = (sha256d-length (x ++ y), sha256d-bytes (x ++ y))
  above-hashes (x ∷ (y ∷ l)) (suc j) h = above-hashes l j (omega arith)

  pub layer-hashes : Hashes ids → (k : ℕ) → Hashes (layer ids k)
  unfolding layer
  layer-hashes h zero = h
  layer-hashes h (suc k) = above-hashes (layer ids k)
