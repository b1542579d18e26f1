-- Laws of two levels in order, from the least offset up.
use Rattle.std.proofs.Common.{Option, Some, None, ◌⊎◌}
use Rattle.std.specs.Option.{option_eq}
use mathlib.Core.Logic.{inl, inr}
use mathlib.Core.Path.{◌≡◌, refl, ap, sym, ◌∙◌}
use mathlib.Core.List.{List, [], ◌∷◌}
use mathlib.Core.Bool.{Bool, true, false, ◌&&◌}
use Prim.Native.Nat.{ℕ, suc, min, ◌+◌, ◌<◌, ◌≤◌}
use lib.ListN.{length, get_or, drop, drop_of_length-le}
use lib.Seq.{drop-cons}
use lib.Dec.{eqb, ltb}
use native.Mathlib.Omega.{arith}
use native.Mathlib.Numerals.{add-one}
use borrow.Author.Tests.{eq-eqb, ne_eqb, eqb-true, eqb-false, lt-ltb, le-ltb, ltb-true, ltb-false}
use Rattle.format.specs.declared.leaf.Kind.{Kind}
use Rattle.format.specs.declared.leaf.Kind.TheVariants.{Plain, Copy, Client}
use Rattle.format.specs.declared.level.Layout.{Layout}
use Rattle.format.specs.declared.leaf.Leaf.{Leaf}
use Rattle.format.specs.Parse.{Parse, pick, otherwise, ok, fault}
use Rattle.path.specs.Unchecked.{unchecked_leaf}
use Rattle.encoding.specs.BumpBytes.{Entry, copy, carried_of}
use Rattle.levels.specs.Standing.{stands, nothing, standing_in}
use Rattle.levels.specs.Places.{offset_at, carried_at, entries}
use Rattle.levels.specs.Fronts.{next_of, lesser, front, past, place_of, standing_of, kind_at, has_offset, spot_of, index_past}
use Rattle.levels.proofs.InOrder.{From, Under, InOrder, from_weaken, standing-below}

-- ---- what the code finds at the front

module _ (s l : List ℕ) (i : ℕ) where
  none_left : length l ≤ i → entries s (drop i l) ≡ []
  none_left h = ap (entries s) (drop_of_length-le l h)

  pub next-end : length l ≤ i → next_of (entries s (drop i l)) ≡ None
  unfolding next_of
  next-end h = rw (none_left h)

  pub spot-end : (o : ℕ) → length l ≤ i → spot_of s l i o ≡ None
  unfolding spot_of has_offset
  spot-end o h = rw (le-ltb i (length l) h)

  module _ (h : i < length l) {p : ℕ} (w : p ≡ get_or l i 0) {a : ℕ} (e : a ≡ offset_at s p) where
    pub next_here : next_of (entries s (drop i l)) ≡ Some a
    unfolding next_of
    next_here = rw (drop-cons l i 0 h, ← w, e)

    pub spot-other : (o : ℕ) → (a ≡ o → ⊥) → spot_of s l i o ≡ None
    unfolding spot_of has_offset
    spot-other o f = rw (lt-ltb i (length l) h, ← w, ← e, ne_eqb a o f)

    module _ (o : ℕ) (f : a ≡ o) where
      pub spot_stuck : {k q : ℕ} → unchecked_leaf Layout.Bump s p ≡ fault k q → spot_of s l i o ≡ Some Copy
      unfolding spot_of has_offset kind_at
      spot_stuck g = rw (lt-ltb i (length l) h, ← w, ← e, eq-eqb a o f, g)

      pub spot-here : {leaf : Leaf} {q : ℕ} → unchecked_leaf Layout.Bump s p ≡ ok leaf q → spot_of s l i o ≡ Some leaf.kind
      unfolding spot_of has_offset kind_at
      spot-here g = rw (lt-ltb i (length l) h, ← w, ← e, eq-eqb a o f, g)

  -- whether the next offset is this one
  module _ (o : ℕ) {r : Option ℕ} (e : r ≡ next_of (entries s (drop i l))) {b : Bool} (f : b ≡ option_eq eqb r (Some o)) where
    tested : b ≡ has_offset s l i o
    unfolding next_of has_offset
    tested = f ∙ ap (λ (v : Option ℕ). option_eq eqb v (Some o)) e ∙ go (ltb i (length l)) refl
      where
        go : (t : Bool) → ltb i (length l) ≡ t → option_eq eqb (next_of (entries s (drop i l))) (Some o) ≡ (t && eqb (offset_at s (get_or l i 0)) o)
        go false g = rw (none_left (ltb-false i (length l) g)) refl
        go true g = rw (drop-cons l i 0 (ltb-true i (length l) g)) refl

    pub index-inside : b ≡ true → i < length l
    unfolding has_offset
    index-inside g = go (ltb i (length l)) refl (sym tested ∙ g)
      where
        go : (t : Bool) → ltb i (length l) ≡ t → (t && eqb (offset_at s (get_or l i 0)) o) ≡ true → i < length l
        go false u v = absurd (let z : ◌≡◌ {A = ℕ} 0 1 = cc in omega arith)
        go true u v = ltb-true i (length l) u

    pub index-here : b ≡ true → i + 1 ≡ index_past s l i o
    unfolding index_past
    index-here g = rw (← tested, g) refl

    pub index-other : b ≡ false → i ≡ index_past s l i o
    unfolding index_past
    index-other g = rw (← tested, g) refl

  -- ---- what it means

  kind_carried : (p : ℕ) → carried_of s (kind_at s p) ≡ carried_at s p
  unfolding kind_at carried_at carried_of
  kind_carried p = go (unchecked_leaf Layout.Bump s p)
    where
      go : (x : Parse Leaf) → carried_of s (otherwise x Copy (λ leaf _. leaf.kind)) ≡ otherwise x copy (λ leaf _. carried_of s leaf.kind)
      go (ok leaf q) = refl
      go (fault k q) = refl

  spot-stands : (o : ℕ) → standing_of s (spot_of s l i o) ≡ front o (entries s (drop i l))
  unfolding standing_of spot_of has_offset front
  spot-stands o = go (ltb i (length l)) refl
    where
      here : (b : Bool) → standing_of s (pick b (Some (kind_at s (get_or l i 0))) None) ≡ pick b (stands (carried_at s (get_or l i 0))) nothing
      here true = ap stands (kind_carried (get_or l i 0))
      here false = refl

      go : (b : Bool) → ltb i (length l) ≡ b → standing_of s (pick (b && eqb (offset_at s (get_or l i 0)) o) (Some (kind_at s (get_or l i 0))) None) ≡ front o (entries s (drop i l))
      go false e = rw (drop_of_length-le l {i = i} (ltb-false i (length l) e)) refl
      go true e = rw (drop-cons l i 0 (ltb-true i (length l) e)) (here (eqb (offset_at s (get_or l i 0)) o))

  -- the code's answer is what stands at the front
  pub front-told : (o : ℕ) {r : Option Kind} → r ≡ spot_of s l i o → standing_of s r ≡ front o (entries s (drop i l))
  front-told o e = ap (standing_of s) e ∙ spot-stands o

  index-past : (o : ℕ) → entries s (drop (index_past s l i o) l) ≡ past o (entries s (drop i l))
  unfolding past index_past has_offset
  index-past o = go (ltb i (length l)) refl
    where
      here : i < length l → (b : Bool) → entries s (drop (pick b (i + 1) i) l) ≡ pick b (entries s (drop (suc i) l)) (entries s (get_or l i 0 ∷ drop (suc i) l))
      here h true = ap (λ (n : ℕ). entries s (drop n l)) (add-one i)
      here h false = ap (entries s) (drop-cons l i 0 h)

      go : (b : Bool) → ltb i (length l) ≡ b → entries s (drop (pick (b && eqb (offset_at s (get_or l i 0)) o) (i + 1) i) l) ≡ past o (entries s (drop i l))
      go false e = let z = none_left (ltb-false i (length l) e) in z ∙ ap (past o) (sym z)
      go true e = let h = ltb-true i (length l) e in here h (eqb (offset_at s (get_or l i 0)) o) ∙ ap (λ (v : List ℕ). past o (entries s v)) (sym (drop-cons l i 0 h))

  -- at the code's index are those behind the offset
  pub past-told : (o : ℕ) {r : ℕ} → r ≡ index_past s l i o → entries s (drop r l) ≡ past o (entries s (drop i l))
  past-told o e = ap (λ (n : ℕ). entries s (drop n l)) e ∙ index-past o

pub place-either : (k : Kind) {p : ℕ} → (k ≡ Plain p) ⊎ (k ≡ Client p) → Some p ≡ place_of k
unfolding place_of
place-either k (inl e) = rw e refl
place-either k (inr e) = rw e refl

pub min-picked : (x y : ℕ) → min x y ≡ pick (ltb y x) y x
min-picked x y = go (ltb y x) refl
  where
    go : (b : Bool) → ltb y x ≡ b → min x y ≡ pick b y x
    go true e = let h = ltb-true y x e in omega arith
    go false e = let h = ltb-false y x e in omega arith

-- the least of the two offsets, by the parts that code works out
pub least : (x y : List Entry) {a b c d : Option ℕ} → a ≡ next_of x → b ≡ next_of y → c ≡ lesser a b → c ≡ d → lesser (next_of x) (next_of y) ≡ d
least x y {a} {b} {c} {d} e f g h = ap (λ (v : Option ℕ). lesser v (next_of y)) (sym e) ∙ ap (lesser a) (sym f) ∙ sym g ∙ h

-- ---- in lists in order

module _ (o : ℕ) where
  -- at the least offset stands what the first has
  pub standing-front : (x : List Entry) → From o x → InOrder x → standing_in o x ≡ front o x
  unfolding From InOrder standing_in front
  standing-front [] f i = refl
  standing-front (e ∷ l) f i = go (eqb e.offset o) refl
    where
      go : (b : Bool) → eqb e.offset o ≡ b → pick b (stands e.carried) (standing_in o l) ≡ pick b (stands e.carried) nothing
      go true g = refl
      go false g =
          let n = eqb-false e.offset o g in
          let h = f.0 in
          standing-below o (suc e.offset) l i.0 (omega arith)

  pub standing-past : (p : ℕ) (x : List Entry) → o < p → standing_in p (past o x) ≡ standing_in p x
  unfolding standing_in past
  standing-past p [] h = refl
  standing-past p (e ∷ l) h = go (eqb e.offset o) refl
    where
      go : (b : Bool) → eqb e.offset o ≡ b → standing_in p (pick b l (e ∷ l)) ≡ pick (eqb e.offset p) (stands e.carried) (standing_in p l)
      go true g =
          let n = eqb-true e.offset o g in
          sym (ap (λ (b : Bool). pick b (stands e.carried) (standing_in p l)) (ne_eqb e.offset p (λ i. omega arith)))
      go false g = refl

  pub past_from : (x : List Entry) → From o x → InOrder x → From (suc o) (past o x)
  unfolding From InOrder past
  past_from [] f i = tt
  past_from (e ∷ l) f i = go (eqb e.offset o) refl
    where
      go : (b : Bool) → eqb e.offset o ≡ b → From (suc o) (pick b l (e ∷ l))
      go true g = let n = eqb-true e.offset o g in from_weaken (suc o) (suc e.offset) l (omega arith) i.0
      go false g =
          let n = eqb-false e.offset o g in
          let h = f.0 in
          (omega arith, from_weaken (suc o) (suc e.offset) l (omega arith) i.0)

  pub past_order : (x : List Entry) → InOrder x → InOrder (past o x)
  unfolding InOrder past
  past_order [] i = tt
  past_order (e ∷ l) i = go (eqb e.offset o)
    where
      go : (b : Bool) → InOrder (pick b l (e ∷ l))
      go true = i.1
      go false = i

  pub past-under : (m : ℕ) (x : List Entry) → Under m x → Under m (past o x)
  unfolding Under past
  past-under m [] u = tt
  past-under m (e ∷ l) u = go (eqb e.offset o)
    where
      go : (b : Bool) → Under m (pick b l (e ∷ l))
      go true = u.1
      go false = u

  pub past-length : (x : List Entry) → length (past o x) ≤ length x
  unfolding past
  past-length [] = omega arith
  past-length (e ∷ l) = go (eqb e.offset o)
    where
      go : (b : Bool) → length (pick b l (e ∷ l)) ≤ suc (length l)
      go true = omega arith
      go false = omega arith

  -- the least offset of either is o, or both are above it
  pub data Turn (x y : List Entry) : Type 0 where
    here : lesser (next_of x) (next_of y) ≡ Some o → length (past o x) + length (past o y) < length x + length y → Turn x y
    above : From (suc o) x → From (suc o) y → Turn x y

  from_on : (e : Entry) (l : List Entry) → eqb e.offset o ≡ false → From o (e ∷ l) → InOrder (e ∷ l) → From (suc o) (e ∷ l)
  unfolding From InOrder
  from_on e l g f i =
      let n = eqb-false e.offset o g in
      let h = f.0 in
      (omega arith, from_weaken (suc o) (suc e.offset) l (omega arith) i.0)

  head_fewer : (e : Entry) (l : List Entry) → eqb e.offset o ≡ true → length (past o (e ∷ l)) < length (e ∷ l)
  unfolding past
  head_fewer e l g = rw g (omega arith)

  pub turn : (x y : List Entry) → From o x → InOrder x → From o y → InOrder y → Turn x y
  unfolding next_of lesser From
  turn [] [] fx ix fy iy = above tt tt
  turn [] (e ∷ y) fx ix fy iy = go (eqb e.offset o) refl
    where
      go : (b : Bool) → eqb e.offset o ≡ b → Turn [] (e ∷ y)
      go true g = here (ap Some (eqb-true e.offset o g)) (let n = head_fewer e y g in let z = past-length [] in omega (arith, n, z))
      go false g = above tt (from_on e y g fy iy)
  turn (e ∷ x) [] fx ix fy iy = go (eqb e.offset o) refl
    where
      go : (b : Bool) → eqb e.offset o ≡ b → Turn (e ∷ x) []
      go true g = here (ap Some (eqb-true e.offset o g)) (let n = head_fewer e x g in let z = past-length [] in omega (arith, n, z))
      go false g = above (from_on e x g fx ix) tt
  turn (e ∷ x) (f ∷ y) fx ix fy iy = go (eqb e.offset o) refl (eqb f.offset o) refl
    where
      go : (a : Bool) → eqb e.offset o ≡ a → (b : Bool) → eqb f.offset o ≡ b → Turn (e ∷ x) (f ∷ y)
      go true g b h =
          let m = eqb-true e.offset o g in
          let n = fy.0 in
          here (ap (λ (c : Bool). Some (pick c f.offset e.offset)) (le-ltb f.offset e.offset (omega arith)) ∙ ap Some m)
          (let r = head_fewer e x g in let z = past-length (f ∷ y) in omega (arith, r, z))
      go false g true h =
          let m = eqb-true f.offset o h in
          let l = eqb-false e.offset o g in
          let n = fx.0 in
          here (ap (λ (c : Bool). Some (pick c f.offset e.offset)) (lt-ltb f.offset e.offset (omega arith)) ∙ ap Some m)
          (let r = head_fewer f y h in let z = past-length (e ∷ x) in omega (arith, r, z))
      go false g false h = above (from_on e x g fx ix) (from_on f y h fy iy)

pub none : (o : ℕ) (x : List Entry) → From o x → Under (o + 0) x → x ≡ []
unfolding From Under
none o [] f u = refl
none o (e ∷ l) f u = let g = f.0 in let h = u.0 in absurd (omega arith)
