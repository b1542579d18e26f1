-- A loop that reads items and keeps what it finds in an array: its places are filled from the first on, and the others stay as they were.
use mathlib.Core.Path.{◌≡◌, refl, ap, sym, ◌∙◌}
use mathlib.Core.List.{List, [], ◌∷◌, ◌++◌, map, append_assoc, append-nil}
use Prim.Native.Nat.{ℕ, zero, suc, ◌+◌, ◌-◌, ◌≤◌, ◌<◌}
use lib.ListN.{length, get_or, take, drop, set, replicate, length-set, length-append, length-replicate, take-append-drop, get_or-append}
use lib.Seq.{take-suc-set, drop-set-lt, length-take-le, drop-drop}
use native.Mathlib.Omega.{arith}
use native.Mathlib.Numerals.{add-one}
use native.Mathlib.Nat.{sub-zero}
use Rattle.format.specs.Padded.{padded}
use Rattle.format.specs.Parse.{Parse, Reader, each, times, ok, fault}
use Rattle.format.proofs.ParseLaws.{each-ok, each-fault, many-done, many-refused, many-step}

pub padded-length : {B : Type 0} (n : ℕ) (z : B) (l : List B) → length l ≤ n → length (padded n z l) ≡ n
unfolding padded
padded-length n z l h = simp (length-append, length-replicate) (omega arith)

-- what stands at a place that is filled
pub padded-at : {A B : Type 0} (n : ℕ) (z : B) (f : A → B) (l : List A) (k : ℕ) (d : A) → k < length l → get_or (padded n z (map f l)) k z ≡ f (get_or l k d)
unfolding padded
padded-at {A = A} {B = B} n z f l k d h = filled l k h
  where
    filled : (m : List A) (j : ℕ) → j < length m → get_or (map f m ++ replicate (n - length (map f l)) z) j z ≡ f (get_or m j d)
    filled [] j h = absurd (omega arith)
    filled (x ∷ m) zero h = refl
    filled (x ∷ m) (suc j) h = filled m j (omega arith)

pub padded-here : {B : Type 0} (n : ℕ) (z : B) (l : List B) (k : ℕ) → k < length l → get_or (padded n z l) k z ≡ get_or l k z
unfolding padded
padded-here n z l k h = get_or-append l (replicate (n - length l) z) z k h

-- what is kept of an item may be the item
pub each_same : {A : Type 0} (p : Parse A) → each (λ (x : A). x) p ≡ p
unfolding each
each_same (ok a q) = refl
each_same (fault n q) = refl

map_same : {A : Type 0} (l : List A) → map (λ (x : A). x) l ≡ l
map_same [] = refl
map_same (x ∷ l) = ap (x ∷◌) (map_same l)

pub each_sames : {A : Type 0} (p : Parse (List A)) → each (map (λ (x : A). x)) p ≡ p
unfolding each
each_sames {A = A} (ok l q) = ap (λ (m : List A). ok m q) (map_same l)
each_sames (fault n q) = refl

-- the loop has read i of n items from `from` on, stands at a place, and has kept f of each
pub record Gathering {A B : Type 0} (item : Reader A) (f : A → B) (z : B) (room n : ℕ) (s : List ℕ) (from : ℕ) (kept : List B) (i at : ℕ) : Type 0 where
  pub count : i ≤ n
  pub size : length kept ≡ room
  pub rest : drop i kept ≡ replicate (room - i) z
  pub whole : each (map f) (times item n s from) ≡ each (λ l. take i kept ++ map f l) (times item (n - i) s at)

module _ {A B : Type 0} (item : Reader A) (f : A → B) (z : B) (room n : ℕ) (s : List ℕ) (from : ℕ) where
  pub gather-start : Gathering item f z room n s from (replicate room z) 0 from
  gather-start =
      record { count = omega arith; size = length-replicate room z; rest = simp sub-zero; whole = simp sub-zero }

  pub gather-step : {kept : List B} {i at : ℕ} → n ≤ room → Gathering item f z room n s from kept i at → i < n → {v : B} {q : ℕ} → each f (item s at) ≡ ok v q
      → Gathering item f z room n s from (set kept i v) (i + 1) q
  gather-step {kept} {i} {at} low g h {v} {q} e =
      let x = each-ok f (item s at) e in
      grown x.0 x.1 x.2
    where
      left : room - i ≡ suc (room - (i + 1))
      left = omega arith

      longer : take (i + 1) (set kept i v) ≡ take i kept ++ (v ∷ [])
      longer = rw add-one (take-suc-set kept i v (omega arith))

      grown : (a : A) → item s at ≡ ok a q → f a ≡ v → Gathering item f z room n s from (set kept i v) (i + 1) q
      grown a r is = record {
        count = omega arith;
        size = length-set kept i v ∙ g.size;
        rest = drop-set-lt (i + 1) kept i v (omega arith) ∙ sym (drop-drop 1 i kept) ∙ ap (drop 1) g.rest ∙ ap (λ (k : ℕ). drop 1 (replicate k z)) left;
        whole =
            g.whole
            ∙ many-step (λ _. item) (λ u _. u) s (λ l. take i kept ++ map f l) (λ l. take (i + 1) (set kept i v) ++ map f l) (n - i) (n - (i + 1)) tt at (omega arith) r
            (λ l. rw (longer, is) (sym (append_assoc (take i kept) (v ∷ []) (map f l))));
      }

  pub gather-refused : {kept : List B} {i at : ℕ} → Gathering item f z room n s from kept i at → i < n → {k q : ℕ} → each f (item s at) ≡ fault k q
      → each (map f) (times item n s from) ≡ fault k q
  gather-refused {kept} {i} {at} g h e =
      g.whole ∙ many-refused (λ _. item) (λ u _. u) s (λ l. take i kept ++ map f l) (n - i) tt at (omega arith) (each-fault f (item s at) e)

  -- all are read: what they are, and what the array holds
  pub gather-done : {kept : List B} {i at : ℕ} → n ≤ room → Gathering item f z room n s from kept i at → n ≤ i
      → (each (map f) (times item n s from) ≡ ok (take i kept) at) × (length (take i kept) ≡ i) × (kept ≡ padded room z (take i kept))
  unfolding padded
  gather-done {kept} {i} {at} low g h = (
    g.whole
        ∙ many-done (λ _. item) (λ u _. u) s (λ l. take i kept ++ map f l) (n - i) tt at (omega arith)
        ∙ ap (λ (m : List B). ok m at) (append-nil (take i kept)),
    len,
    sym (take-append-drop i kept) ∙ ap (λ (m : List B). take i kept ++ m) (g.rest ∙ ap (λ (k : ℕ). replicate (room - k) z) (sym len)),
  )
    where
      len : length (take i kept) ≡ i
      len = length-take-le i kept (let e = g.size in let c = g.count in omega arith)
