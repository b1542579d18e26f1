-- Laws of hashes end to end, one of which is stored.
use Prim.Native.Nat.{ℕ, ◌+◌, ◌-◌, ◌*◌, ◌≤◌}
use mathlib.Core.Path.{◌≡◌, refl, sym, ap, ◌∙◌}
use mathlib.Core.Bool.{Bool, true, false}
use mathlib.Core.List.{List, ◌++◌, append_assoc}
use lib.ListN.{length, take, drop, length-drop, take-append-drop}
use lib.Seq.{paste, length-paste, drop-paste, length-take-le, take_all, take-append-le, drop-append-le, drop_at, take_at, drop-drop}
use lib.Dec.{ltb, leb}
use native.Mathlib.Omega.{arith}
use borrow.Author.Tests.{ltb-true, ltb-false, leb-true, leb-false}
use Rattle.format.specs.Bytes.{hash_at}
use Rattle.format.proofs.BytesLaws.{hash-there, hash-none}

front : (a rest : List ℕ) (p : ℕ) → p + 32 ≤ length a → take 32 (drop p (a ++ rest)) ≡ take 32 (drop p a)
front a rest p h =
    ap (take 32) (drop-append-le p a rest (omega arith)) ∙ take-append-le 32 (drop p a) rest (let e = length-drop p a in omega arith)

module _ (heap hash : List ℕ) (q : ℕ) (long : length hash ≡ 32) (inside : 32 * q + 32 ≤ length heap) where
  size_same : length (paste heap (32 * q) hash 32) ≡ length heap
  size_same = length-paste heap (32 * q) hash 32 inside (omega arith)

  pub stored_here : hash_at (paste heap (32 * q) hash 32) (32 * q) ≡ hash
  stored_here =
      let a : List ℕ = take (32 * q) heap in
      let c : List ℕ = drop (32 * q + 32) heap in
      let whole : take 32 hash ≡ hash = take_all 32 hash (omega arith) in
      let la : length a ≡ 32 * q = length-take-le (32 * q) heap (omega arith) in
      hash-there (paste heap (32 * q) hash 32) (32 * q) (let e = size_same in omega arith)
      ∙ ap (λ (l : List ℕ). take 32 (drop (32 * q) l)) (append_assoc a (take 32 hash) c)
      ∙ ap (take 32) (drop_at a (take 32 hash ++ c) (32 * q) la)
      ∙ ap (λ (l : List ℕ). take 32 (l ++ c)) whole
      ∙ take_at hash c 32 long

  parts : (p : ℕ) → (p ≡ q → ⊥) → (t : Bool) → ltb p q ≡ t → take 32 (drop (32 * p) (paste heap (32 * q) hash 32)) ≡ take 32 (drop (32 * p) heap)
  parts p d true e =
      let lt = ltb-true p q e in
      let a : List ℕ = take (32 * q) heap in
      let la : length a ≡ 32 * q = length-take-le (32 * q) heap (omega arith) in
      ap (λ (l : List ℕ). take 32 (drop (32 * p) l)) (append_assoc a (take 32 hash) (drop (32 * q + 32) heap))
      ∙ front a (take 32 hash ++ drop (32 * q + 32) heap) (32 * p) (omega arith)
      ∙ sym (front a (drop (32 * q) heap) (32 * p) (omega arith))
      ∙ ap (λ (l : List ℕ). take 32 (drop (32 * p) l)) (take-append-drop (32 * q) heap)
  parts p d false e =
      let ge = ltb-false p q e in
      let m : ℕ = 32 * p - (32 * q + 32) in
      let back : 32 * q + 32 + m ≡ 32 * p = omega arith in
      ap (take 32)
      (ap (λ (k : ℕ). drop k (paste heap (32 * q) hash 32)) (sym back)
      ∙ sym (drop-drop m (32 * q + 32) (paste heap (32 * q) hash 32))
      ∙ ap (drop m) (drop-paste heap (32 * q) hash 32 (omega arith) (omega arith))
      ∙ drop-drop m (32 * q + 32) heap
      ∙ ap (λ (k : ℕ). drop k heap) back)

  pub stored_other : (p : ℕ) → (p ≡ q → ⊥) → hash_at (paste heap (32 * q) hash 32) (32 * p) ≡ hash_at heap (32 * p)
  stored_other p d = go (leb (32 * p + 32) (length heap)) refl
    where
      go : (t : Bool) → leb (32 * p + 32) (length heap) ≡ t → hash_at (paste heap (32 * q) hash 32) (32 * p) ≡ hash_at heap (32 * p)
      go true e =
          let h = leb-true (32 * p + 32) (length heap) e in
          hash-there (paste heap (32 * q) hash 32) (32 * p) (let s = size_same in omega arith) ∙ parts p d (ltb p q) refl ∙ sym (hash-there heap (32 * p) h)
      go false e =
          let h = leb-false (32 * p + 32) (length heap) e in
          hash-none (paste heap (32 * q) hash 32) (32 * p) (let s = size_same in omega arith) ∙ sym (hash-none heap (32 * p) h)
