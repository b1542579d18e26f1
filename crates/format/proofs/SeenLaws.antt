-- Laws of what a reading keeps of leaves.
use mathlib.Core.Path.{◌≡◌, refl, ap, sym, ◌∙◌}
use mathlib.Core.List.{List, [], ◌∷◌, ◌++◌}
use mathlib.Core.Bool.{Bool, true, false, not, ◌||◌, or-false}
use Prim.Native.Nat.{ℕ, ◌+◌, ◌-◌, ◌≤◌, ◌<◌, ◌%◌}
use lib.ListN.{length, get_or, drop, set, length-set}
use lib.Seq.{get_or-set_same, get_or-set_other}
use lib.Dec.{ltb, eqb}
use native.Mathlib.Omega.{arith}
use borrow.Author.Tests.{ne_eqb, eqb-true, eqb-false, ltb-true}
use Rattle.std.specs.Prelude.{Result, Ok, Err}
use Rattle.format.specs.declared.field.Cursor.{Cursor}
use Rattle.format.specs.declared.refusal.ReadRefusal.{ReadRefusal}
use Rattle.format.specs.declared.level.Layout.{Layout}
use Rattle.format.specs.declared.leaf.Leaf.{Leaf}
use Rattle.format.specs.declared.leaf.Kind.{Kind}
use Rattle.format.specs.declared.leaf.Kind.TheVariants.{Plain, Client}
use Rattle.format.proofs.Basics.{or_true}
use Rattle.format.specs.Parse.{Parse, pick, given, onward, each, many, ◌passing◌else◌, ok, fault}
use Rattle.format.proofs.ParseLaws.{each-ok, each-fault, passing_told, count-start, count-step, count-refused, count-all}
use Rattle.format.specs.Field.{bytes, varint}
use Rattle.format.specs.Answer.{parse_of}
use Rattle.format.specs.Level.{holds, offset_field, kind_field, carried_field, leaf_field, leaf_fields, and_offset}
use Rattle.format.proofs.LevelLaws.{holds-here, holds_on, holds-end, holds_snoc, offset-fresh, kind_refused}
use Rattle.format.specs.Refusals.{BAD_OFFSET, REPEATED}
use Rattle.format.specs.Seen.{offset_of, keep_offset, Above, Slotted}

-- a scan to the end of a list that keeps what it found
module _ (x : ℕ) (l : List ℕ) (i : ℕ) (found : Bool) where
  pub scan_here : (after : Bool) → i < length l → x ≡ get_or l i 0 → after ≡ true → (found || holds x (drop i l)) ≡ (after || holds x (drop (i + 1) l))
  scan_here after h e f = rw (f, holds-here x l i h e) (or_true found)

  pub scan_on : (after : Bool) → i < length l → (x ≡ get_or l i 0 → ⊥) → after ≡ found → (found || holds x (drop i l)) ≡ (after || holds x (drop (i + 1) l))
  scan_on after h e f = rw (f, holds_on x l i h e)

  pub scan_end : length l ≤ i → (found || holds x (drop i l)) ≡ found
  scan_end h = rw (holds-end x l i h) (or-false found)

-- the offsets seen, with one more and its slot marked
pub slotted_more : (slots l : List ℕ) (o : ℕ) → Slotted slots l → Slotted (set slots (o % 4096) 1) (l ++ (o ∷ []))
slotted_more slots l o h = (simp length-set h.0, λ x e. go x e (eqb (x % 4096) (o % 4096)) refl)
  where
    go : (x : ℕ) → get_or (set slots (o % 4096) 1) (x % 4096) 0 ≡ 0 → (t : Bool) → eqb (x % 4096) (o % 4096) ≡ t → holds x (l ++ (o ∷ [])) ≡ false
    go x e true f =
        let marked : get_or (set slots (o % 4096) 1) (o % 4096) 0 ≡ 1 = get_or-set_same slots (o % 4096) 1 0 (let n = h.0 in omega arith) in
        let here : get_or (set slots (o % 4096) 1) (x % 4096) 0 ≡ 1 = ap (λ (k : ℕ). get_or (set slots (o % 4096) 1) k 0) (eqb-true (x % 4096) (o % 4096) f) ∙ marked in
        absurd (let z : ◌≡◌ {A = ℕ} 1 0 = sym here ∙ e in omega arith)
    go x e false f =
        let apart = eqb-false (x % 4096) (o % 4096) f in
        holds_snoc x l o ∙ simp (h.1 x (sym (get_or-set_other slots (o % 4096) (x % 4096) 1 0 apart) ∙ e), ne_eqb x o (λ z. apart (ap (λ (k : ℕ). k % 4096) z)))

-- an offset is below its limit, and where none was seen only that and the VarInt are tested
module _ (limit : ℕ) (s : List ℕ) (at : ℕ) where
  pub offset-told : (seen : List ℕ) {o q : ℕ} → offset_field limit seen s at ≡ ok o q → (varint s at ≡ ok o q) × (o < limit)
  unfolding offset_field
  offset-told seen {o} e =
      let x = passing_told (varint passing (λ o. ltb o limit) else BAD_OFFSET) (λ o. not (holds o seen)) REPEATED s at e in
      let v = passing_told varint (λ o. ltb o limit) BAD_OFFSET s at x.0 in
      (v.0, ltb-true o limit v.1)

  pub bounded_refused : (seen : List ℕ) {n q : ℕ} → offset_field limit [] s at ≡ fault n q → offset_field limit seen s at ≡ fault n q
  unfolding offset_field holds
  bounded_refused seen {n} {q} e = told (varint s at) refl
    where
      picked : (o r : ℕ) → varint s at ≡ ok o r → (b : Bool) → ltb o limit ≡ b → offset_field limit seen s at ≡ fault n q
      picked o r f true h = absurd (let z : ok o r ≡ fault n q = simp (f, h) at e in let y : ◌≡◌ {A = ℕ} 0 1 = cc in omega arith)
      picked o r f false h = simp (f, h) (simp (f, h) at e)

      told : (p : Parse ℕ) → varint s at ≡ p → offset_field limit seen s at ≡ fault n q
      told (ok o r) f = picked o r f (ltb o limit) refl
      told (fault m r) f = rw f (rw f at e)

-- what a leaf carries, passed beside its offset
module _ (flag offset : ℕ) (s : List ℕ) (at : ℕ) where
  pub passed_short : {n q : ℕ} → (flag ≡ 1 → ⊥) → bytes 32 s at ≡ fault n q → each (keep_offset offset) (kind_field flag s at) ≡ fault n q
  unfolding each
  passed_short h e = rw (kind_refused flag s at h e)

  pub passed-hash : {p q : ℕ} → (flag ≡ 1 → ⊥) → bytes 32 s at ≡ ok p q → each (keep_offset offset) (kind_field flag s at) ≡ ok offset q
  unfolding each kind_field
  passed-hash {p} {q} h e = rw (ne_eqb _ _ h) (either (eqb flag 0))
    where
      either : (b : Bool) → each (keep_offset offset) (pick b (given Plain (bytes 32)) (given Client (bytes 32)) s at) ≡ ok offset q
      either true = rw e
      either false = rw e

-- a leaf, by its offset
module _ (layout : Layout) (limit level : ℕ) (s : List ℕ) (at : ℕ) where
  pub leaf-refused : (seen : List ℕ) {n q : ℕ} → offset_field limit seen s at ≡ fault n q → each offset_of (leaf_field layout limit level seen s at) ≡ fault n q
  unfolding each leaf_field
  leaf-refused seen e = rw e

  pub leaf-carried : (seen : List ℕ) {o q : ℕ} → offset_field limit seen s at ≡ ok o q → each offset_of (leaf_field layout limit level seen s at) ≡ each (keep_offset o) (carried_field layout level o s q)
  unfolding each leaf_field
  leaf-carried seen {o} {q} e = rw e (parts (carried_field layout level o s q))
    where
      parts : (p : Parse Kind) → each offset_of (onward p (λ kind next. ok (record { offset = o; kind = kind }) next)) ≡ each (keep_offset o) p
      parts (ok k r) = refl
      parts (fault n r) = refl

  pub leaf-told : (seen : List ℕ) {o q : ℕ} → each offset_of (leaf_field layout limit level seen s at) ≡ ok o q
      → (r : ℕ) × (offset_field limit seen s at ≡ ok o r) × (each (keep_offset o) (carried_field layout level o s r) ≡ ok o q)
  leaf-told seen {o} {q} e = told (offset_field limit seen s at) refl
    where
      parted : (p r : ℕ) → p ≡ o → offset_field limit seen s at ≡ ok p r → each (keep_offset p) (carried_field layout level p s r) ≡ ok o q
          → (r : ℕ) × (offset_field limit seen s at ≡ ok o r) × (each (keep_offset o) (carried_field layout level o s r) ≡ ok o q)
      parted p r h f g = (r, f ∙ ap (λ (x : ℕ). ok x r) h, ap (λ (x : ℕ). each (keep_offset x) (carried_field layout level x s r)) (sym h) ∙ g)

      told : (p : Parse ℕ) → offset_field limit seen s at ≡ p → (r : ℕ) × (offset_field limit seen s at ≡ ok o r) × (each (keep_offset o) (carried_field layout level o s r) ≡ ok o q)
      told (ok p r) f =
          let g : each (keep_offset p) (carried_field layout level p s r) ≡ ok o q = sym (leaf-carried seen f) ∙ e in
          parted p r (each-ok (keep_offset p) (carried_field layout level p s r) g).2 f g
      told (fault n r) f = absurd (let z : ok o q ≡ fault n r = sym e ∙ leaf-refused seen f in let y : ◌≡◌ {A = ℕ} 0 1 = cc in omega arith)

  -- a leaf where none was seen is the same where others were, but not its offset
  pub leaf-fresh : (seen : List ℕ) {o q : ℕ} → each offset_of (leaf_field layout limit level [] s at) ≡ ok o q → holds o seen ≡ false → each offset_of (leaf_field layout limit level seen s at) ≡ ok o q
  leaf-fresh seen e h =
      let x = leaf-told [] e in
      let b = offset-told limit s at [] x.1 in
      leaf-carried seen (offset-fresh limit seen s at b.0 b.1 h) ∙ x.2

-- a loop over leaves that keeps their offsets: i are read, n - i are left
module _ (layout : Layout) (limit level n : ℕ) (s : List ℕ) where
  pub leaves-step : (i : ℕ) (seen : List ℕ) (at : ℕ) {o q : ℕ} → i < n → each offset_of (leaf_field layout limit level seen s at) ≡ ok o q
      → each (λ l. i + length l) (many (leaf_field layout limit level) and_offset (n - i) seen s at) ≡ each (λ l. i + 1 + length l) (many (leaf_field layout limit level) and_offset (n - (i + 1)) (seen ++ (o ∷ [])) s q)
  leaves-step i seen at {o} {q} h e =
      let x = each-ok offset_of (leaf_field layout limit level seen s at) e in
      step x.0 x.1 x.2
    where
      step : (leaf : Leaf) → leaf_field layout limit level seen s at ≡ ok leaf q → leaf.offset ≡ o
          → each (λ l. i + length l) (many (leaf_field layout limit level) and_offset (n - i) seen s at) ≡ each (λ l. i + 1 + length l) (many (leaf_field layout limit level) and_offset (n - (i + 1)) (seen ++ (o ∷ [])) s q)
      step leaf f g = rw (← g) (count-step (leaf_field layout limit level) and_offset n s i seen at h f)

  pub leaves-refused : (i : ℕ) (seen : List ℕ) (at : ℕ) {k q : ℕ} → i < n → each offset_of (leaf_field layout limit level seen s at) ≡ fault k q
      → each (λ l. i + length l) (many (leaf_field layout limit level) and_offset (n - i) seen s at) ≡ fault k q
  leaves-refused i seen at h e = count-refused (leaf_field layout limit level) and_offset n s i seen at h (each-fault offset_of (leaf_field layout limit level seen s at) e)

-- the offsets seen, with one more that is at least `least`, as none of them is
pub none_from : (l : List ℕ) (least o : ℕ) → ((x : ℕ) → least ≤ x → holds x l ≡ false) → least ≤ o → (x : ℕ) → o + 1 ≤ x → holds x (l ++ (o ∷ [])) ≡ false
none_from l least o h t x lt = holds_snoc x l o ∙ simp (h x (omega arith), ne_eqb x o (λ e. omega arith))

-- i of n leaves are read, their offsets rising, and the next is at `least` or above if they go on to; `total` is what all leaves come to
unfoldable pub Risen : Layout → ℕ → ℕ → ℕ → List ℕ → Parse ℕ → ℕ → ℕ → ℕ → Type 0
Risen layout limit level n s total i least at =
    (seen : List ℕ) × ((x : ℕ) → least ≤ x → holds x seen ≡ false)
    × (total ≡ each (λ l. i + length l) (many (leaf_field layout limit level) and_offset (n - i) seen s at))

module _ (layout : Layout) (limit level n : ℕ) (s : List ℕ) where
  pub risen_start : (at : ℕ) → Risen layout limit level n s (each length (leaf_fields layout limit level n s at)) 0 0 at
  unfolding Risen holds
  risen_start at = ([], λ x h. refl, count-start (leaf_field layout limit level) and_offset n s [] at)

  pub risen_step : (total : Parse ℕ) (i least at : ℕ) {o q : ℕ} → i < n → Risen layout limit level n s total i least at
      → each offset_of (leaf_field layout limit level [] s at) ≡ ok o q → least ≤ o → Risen layout limit level n s total (i + 1) (o + 1) q
  unfolding Risen
  risen_step total i least at {o} {q} h r e t = step r.0 r.1 r.2
    where
      step : (seen : List ℕ) → ((x : ℕ) → least ≤ x → holds x seen ≡ false)
          → total ≡ each (λ l. i + length l) (many (leaf_field layout limit level) and_offset (n - i) seen s at) → Risen layout limit level n s total (i + 1) (o + 1) q
      step seen none f = (seen ++ (o ∷ []), none_from seen least o none t, f ∙ leaves-step layout limit level n s i seen at h (leaf-fresh layout limit level s at seen e (none o t)))

  pub risen_done : (total : Parse ℕ) (i least at : ℕ) → i ≡ n → Risen layout limit level n s total i least at → total ≡ ok n at
  unfolding Risen
  risen_done total i least at h r = r.2 ∙ count-all (leaf_field layout limit level) and_offset n s i r.0 at h

-- a leaf of an offset that is at least `least`
pub above-carried : (least o : ℕ) (r : Result (ℕ × Cursor) ReadRefusal) (k : Parse Kind) {p : Parse ℕ} → parse_of r ≡ each (keep_offset o) k → p ≡ each (keep_offset o) k → least ≤ o → Above least r p
above-carried least o (Ok (x, c)) k {p} e f h =
    let g = (each-ok (keep_offset o) k (sym e)).2 in
    (f ∙ sym e, low x g)
  where
    low : (x : ℕ) → o ≡ x → least ≤ x
    low x g = omega arith
above-carried least o (Err r) k e f h = tt
