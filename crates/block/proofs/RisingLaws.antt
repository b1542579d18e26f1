-- A level's leaves with offsets rising are known by what stands at each offset.
use mathlib.Core.Path.{◌≡◌, refl, sym, ap₂, ◌∙◌}
use mathlib.Core.Bool.{Bool, true, false}
use mathlib.Core.List.{List, [], ◌∷◌, map}
use Rattle.std.specs.Prelude.{Option, Some, None}
use Prim.Native.Nat.{ℕ, zero, suc, ◌+◌, ◌≤◌, ◌<◌}
use lib.Dec.{eqb}
use native.Mathlib.Omega.{arith}
use borrow.Author.Tests.{eqb-true, eqb-false, eq-eqb, ne_eqb}
use Rattle.format.specs.declared.leaf.Leaf.{Leaf}
use Rattle.format.specs.Parse.{pick}
use Rattle.path.specs.Search.{lookup}
use Rattle.encoding.specs.Encode.{Fits}
use Rattle.encoding.specs.BumpBytes.{Carried, Entry, entry_of, EntryFit, and_entry}
use Rattle.block.specs.BlockBump.{rising, found_as, Rising}

-- what a level's leaves have at an offset
unfoldable pub at_offset : ℕ → List Entry → Option Carried
at_offset o [] = None
at_offset o (e ∷ l) = pick (eqb e.offset o) (Some e.carried) (at_offset o l)

-- offsets rise, from o on
unfoldable pub From : ℕ → List Entry → Type 0
From o [] = Unit
From o (e ∷ l) = (o ≤ e.offset) × From (e.offset + 1) l

unfoldable pub Under : ℕ → List Entry → Type 0
Under n [] = Unit
Under n (e ∷ l) = (e.offset < n) × Under n l

pub found-says : (s : List ℕ) (o : ℕ) (l : List Leaf) → found_as s (lookup o l) ≡ at_offset o (map (entry_of s) l)
unfolding found_as lookup at_offset
found-says s o [] = refl
found-says s o (leaf ∷ l) = go (eqb leaf.offset o) refl (found-says s o l)
  where
    go : (t : Bool) → eqb leaf.offset o ≡ t → found_as s (lookup o l) ≡ at_offset o (map (entry_of s) l) → found_as s (lookup o (leaf ∷ l)) ≡ at_offset o (map (entry_of s) (leaf ∷ l))
    go true e r = rw e
    go false e r = rw e r

rises_on : (s : List ℕ) (a : Leaf) (l : List Leaf) → Rising (a ∷ l) → From (a.offset + 1) (map (entry_of s) l)
unfolding Rising From
rises_on s a [] r = tt
rises_on s a (b ∷ l) r = (omega (arith, r.0), rises_on s b l r.1)

pub rising_from : (s : List ℕ) (l : List Leaf) → Rising l → From 0 (map (entry_of s) l)
unfolding Rising From
rising_from s [] r = tt
rising_from s (a ∷ l) r = (omega arith, rises_on s a l r)

pub fits_under : (limit level : ℕ) (seen : List ℕ) (l : List Entry) → Fits (EntryFit limit level) and_entry seen l → Under limit l
unfolding Fits Under
fits_under limit level seen [] f = tt
fits_under limit level seen (e ∷ l) f = (f.0.0, fits_under limit level (and_entry seen e) l f.1)

-- nothing stands below where a level starts
pub before-none : (m o : ℕ) (l : List Entry) → From m l → o < m → at_offset o l ≡ None
unfolding From at_offset
before-none m o [] f b = refl
before-none m o (e ∷ l) f b = rw (ne_eqb e.offset o (λ q. omega (arith, f.0))) (before-none (e.offset + 1) o l f.1 (omega (arith, f.0)))

module _ (f : ℕ → Option Carried) (o n : ℕ) where
  pub rising_none : f o ≡ None → rising f o (suc n) ≡ rising f (o + 1) n
  unfolding rising
  rising_none e = rw (rising, e)

  pub rising-some : (c : Carried) → f o ≡ Some c → rising f o (suc n) ≡ record { offset = o; carried = c } ∷ rising f (o + 1) n
  unfolding rising
  rising-some c e = rw (rising, e)

pub at_none : (o : ℕ) → at_offset o [] ≡ None
unfolding at_offset
at_none o = refl

-- what stands at the offset of the first leaf, and elsewhere
module _ (y : Entry) (l : List Entry) (o : ℕ) where
  pub at_first : y.offset ≡ o → at_offset o (y ∷ l) ≡ Some y.carried
  unfolding at_offset
  at_first d = rw (eq-eqb y.offset o d)

  pub at_later : (y.offset ≡ o → ⊥) → at_offset o (y ∷ l) ≡ at_offset o l
  unfolding at_offset
  at_later d = rw (ne_eqb y.offset o d)

pub rising-only : (f : ℕ → Option Carried) (n o : ℕ) (l : List Entry) → From o l → Under (o + n) l → ((x : ℕ) → o ≤ x → x < o + n → at_offset x l ≡ f x) → l ≡ rising f o n
unfolding From Under rising
rising-only f zero o [] r u e = refl
rising-only f zero o (x ∷ l) r u e = absurd (omega (arith, r.0, u.0))
rising-only f (suc n) o l r u e =
    go l r u e (f o) refl (λ m g h k. rising-only f n (o + 1) m g (let q : o + suc n ≡ o + 1 + n = omega arith in rw q at h) k)
  where
    go : (l : List Entry) → From o l → Under (o + suc n) l → ((x : ℕ) → o ≤ x → x < o + suc n → at_offset x l ≡ f x) → (v : Option Carried) → f o ≡ v
        → ((m : List Entry) → From (o + 1) m → Under (o + suc n) m → ((x : ℕ) → o + 1 ≤ x → x < o + 1 + n → at_offset x m ≡ f x) → m ≡ rising f (o + 1) n)
        → l ≡ rising f o (suc n)
    go [] r u e None q ih = ih [] tt tt (λ x a b. e x (omega arith) (omega arith)) ∙ sym (rising_none f o n q)
    go [] r u e (Some c) q ih =
        let m : None ≡ Some c = sym (at_none o) ∙ e o (omega arith) (omega arith) ∙ q in
        absurd (let z : ◌≡◌ {A = ℕ} 0 1 = cc in omega arith)
    go (y ∷ l) r u e None q ih =
        ih (y ∷ l) (let low = r.0 in later (eqb y.offset o) refl, r.1) u (λ x a b. e x (omega arith) (omega arith)) ∙ sym (rising_none f o n q)
      where
        later : (t : Bool) → eqb y.offset o ≡ t → o + 1 ≤ y.offset
        later true h =
            let m : Some y.carried ≡ None = sym (at_first y l o (eqb-true _ _ h)) ∙ e o (omega arith) (omega arith) ∙ q in
            absurd (let z : ◌≡◌ {A = ℕ} 0 1 = cc in omega arith)
        later false h = let d = eqb-false y.offset o h in let low = r.0 in omega arith
    go (y ∷ l) r u e (Some c) q ih = here (eqb y.offset o) refl
      where
        here : (t : Bool) → eqb y.offset o ≡ t → y ∷ l ≡ rising f o (suc n)
        here true h =
            let d : y.offset ≡ o = eqb-true _ _ h in
            let m : Some y.carried ≡ Some c = sym (at_first y l o d) ∙ e o (omega arith) (omega arith) ∙ q in
            let k : y.carried ≡ c = cc in
            let first : y ≡ record { offset = o; carried = c } = λ i. record { offset = d i; carried = k i } in
            ap₂ ◌∷◌ first (ih l (rw d at r.1) u.1 (λ x a b. sym (at_later y l x (λ g. omega arith)) ∙ e x (omega arith) (omega arith))) ∙ sym (rising-some f o n c q)
        here false h =
            let d = eqb-false y.offset o h in
            let low = r.0 in
            let m : None ≡ Some c = sym (before-none (y.offset + 1) o l r.1 (omega arith)) ∙ sym (at_later y l o d) ∙ e o (omega arith) (omega arith) ∙ q in
            absurd (let z : ◌≡◌ {A = ℕ} 0 1 = cc in omega arith)
