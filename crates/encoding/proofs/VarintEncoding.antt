-- The VarInt: its reader takes exactly what its writer writes.
use mathlib.Core.Path.{◌≡◌, refl, sym, ap, ap₂, ◌∙◌, subst}
use mathlib.Core.List.{List, [], ◌∷◌}
use mathlib.Core.Bool.{Bool, true, false}
use Prim.Native.Nat.{ℕ, ◌+◌, ◌^◌, ◌≤◌, ◌<◌}
use lib.ListN.{length, get_or, take, drop}
use lib.Dec.{ltb, leb, eqb}
use native.Mathlib.Omega.{arith}
use borrow.Author.Tests.{le-ltb, lt-ltb, ltb-true, ltb-false, leb-true, eqb-true, eqb-false}
use Rattle.format.specs.Parse.{Parse, pick, ◌passing◌else◌, at_start, ok, fault}
use Rattle.format.proofs.ParseLaws.{passing_told, onward-told}
use Rattle.format.specs.Field.{bytes, number, varint, le2, le4, le8}
use Rattle.format.proofs.FieldLaws.{long-value, varint-none, varint-announced, varint-small}
use Rattle.format.specs.Refusals.{LONG_VARINT}
use Rattle.encoding.proofs.Stands.{Stands, stands-join, stands-split, stands-fits, stands_here}
use Rattle.format.proofs.Span.{bytes-told}
use Rattle.encoding.proofs.Encoding.{Encoding, itself, first-is, stands_one, part_bytes}
use Rattle.encoding.specs.Digits.{little, varint_bytes}
use Rattle.encoding.proofs.DigitsLaws.{num, num_at, little-length, num_little, little_num, num_below, num_stands, le2-is, le4-is, le8-is}
use Rattle.encoding.specs.Encode.{AllBytes}

-- the forms of a VarInt
module _ (n : ℕ) where
  pub varint-one : n < 253 → varint_bytes n ≡ n ∷ []
  unfolding varint_bytes
  varint-one h = rw (lt-ltb n 253 h)

  pub varint-two : 253 ≤ n → n < 65536 → varint_bytes n ≡ 253 ∷ little 2 n
  unfolding varint_bytes
  varint-two g h = simp (le-ltb n 253 g, lt-ltb n 65536 h)

  pub varint-four : 65536 ≤ n → n < 4294967296 → varint_bytes n ≡ 254 ∷ little 4 n
  unfolding varint_bytes
  varint-four g h = simp (le-ltb n 253 (omega arith), le-ltb n 65536 g, lt-ltb n 4294967296 h)

  pub varint-eight : 4294967296 ≤ n → varint_bytes n ≡ 255 ∷ little 8 n
  unfolding varint_bytes
  varint-eight g = simp (le-ltb n 253 (omega arith), le-ltb n 65536 (omega arith), le-ltb n 4294967296 g)

-- a first byte and w bytes after it
module _ (value : List ℕ → ℕ → ℕ) (w least : ℕ) (is : (s : List ℕ) (at : ℕ) → value s at ≡ num_at s at w) where
  long_reads : (s : List ℕ) (at q n first : ℕ) → least ≤ n → n < 256 ^ w → 0 < w → Stands s at (first ∷ little w n) q
      → at_start at ((number value w passing (λ v. leb least v) else LONG_VARINT) s (at + 1)) ≡ ok n q
  long_reads s at q n first g h z a =
      let sp = (stands-split (first ∷ []) (little w n) a).1 in
      let len = little-length w n in
      let v : value s (at + 1) ≡ n = is s (at + 1) ∙ ap (num_at s (at + 1)) (sym len) ∙ num_stands s (at + 1) (little w n) q sp ∙ num_little w n h in
      let e = sp.next in
      let f = stands-fits sp (omega arith) in
      long-value value w least s at q (omega arith) (omega arith) (omega arith) ∙ ap (λ (k : ℕ). ok k q) v

  long-told : (s : List ℕ) (at q n first : ℕ) → AllBytes s → at < length s → get_or s at 0 ≡ first
      → at_start at ((number value w passing (λ v. leb least v) else LONG_VARINT) s (at + 1)) ≡ ok n q
      → Stands s at (first ∷ little w n) q × (least ≤ n) × (n < 256 ^ w)
  long-told s at q n first h b e m =
      let y = passing_told (number value w) (λ v. leb least v) LONG_VARINT s (at + 1) (started _ m) in
      let x = onward-told (bytes w s (at + 1)) _ y.0 in
      let r = bytes-told w s (at + 1) x.2 in
      go x.0 x.1 r.inside (sym r.place_is) (sym r.next-is) x.3 (leb-true least n y.1)
    where
      started : (x : Parse ℕ) → at_start at x ≡ ok n q → x ≡ ok n q
      started (ok a r) f = f
      started (fault k r) f = absurd (let z : ◌≡◌ {A = ℕ} 0 1 = cc in omega arith)

      go : (place r : ℕ) → at + 1 + w ≤ length s → at + 1 ≡ place → at + 1 + w ≡ r → ◌≡◌ {A = Parse ℕ} (ok (value s place) r) (ok n q) → least ≤ n
          → Stands s at (first ∷ little w n) q × (least ≤ n) × (n < 256 ^ w)
      go place r f ep er is-n g =
          let bs : List ℕ = take w (drop (at + 1) s) in
          let st = stands_here s (at + 1) w f in
          let len : length bs ≡ w = let nx = st.next in omega arith in
          let all = part_bytes s (at + 1) w h in
          let v : value s place ≡ n = cc in
          let rq : r ≡ q = cc in
          let nb : num bs ≡ n = sym (num_stands s (at + 1) bs (at + 1 + w) st) ∙ ap (num_at s (at + 1)) len ∙ sym (is s (at + 1)) ∙ ap (value s) ep ∙ v in
          let sp : little w n ≡ bs = ap₂ little (sym len) (sym nb) ∙ little_num bs all in
          let low : n < 256 ^ w = subst (λ (k : ℕ). n < 256 ^ k) len (subst (λ (k : ℕ). k < 256 ^ length bs) nb (num_below bs all)) in
          (rw sp (stands-join (stands_one s at b e) (subst (λ (k : ℕ). Stands s (at + 1) bs k) (er ∙ rq) st)), g, low)

varint_reads : (s : List ℕ) (at q n : ℕ) → n < 18446744073709551616 → Stands s at (varint_bytes n) q → varint s at ≡ ok n q
varint_reads s at q n f a = one (ltb n 253) refl
  where
    eight : 4294967296 ≤ n → varint s at ≡ ok n q
    eight g =
        let st = rw (varint-eight n g) at a in
        let e = st.next in
        let d = stands-fits st (omega arith) in
        varint-announced s at 255 (omega arith) (first-is st) ∙ long_reads le8 8 4294967296 le8-is s at q n 255 g (omega arith) (omega arith) st

    four : (t : Bool) → ltb n 4294967296 ≡ t → 65536 ≤ n → varint s at ≡ ok n q
    four true h g =
        let st = rw (varint-four n g (ltb-true _ _ h)) at a in
        let e = st.next in
        let d = stands-fits st (omega arith) in
        varint-announced s at 254 (omega arith) (first-is st) ∙ long_reads le4 4 65536 le4-is s at q n 254 g (omega (arith, ltb-true n 4294967296 h)) (omega arith) st
    four false h g = eight (ltb-false _ _ h)

    two : (t : Bool) → ltb n 65536 ≡ t → 253 ≤ n → varint s at ≡ ok n q
    two true h g =
        let st = rw (varint-two n g (ltb-true _ _ h)) at a in
        let e = st.next in
        let d = stands-fits st (omega arith) in
        varint-announced s at 253 (omega arith) (first-is st) ∙ long_reads le2 2 253 le2-is s at q n 253 g (omega (arith, ltb-true n 65536 h)) (omega arith) st
    two false h g = four (ltb n 4294967296) refl (ltb-false _ _ h)

    one : (t : Bool) → ltb n 253 ≡ t → varint s at ≡ ok n q
    one true h =
        let st = rw (varint-one n (ltb-true _ _ h)) at a in
        let e = st.next in
        let d = stands-fits st (omega arith) in
        varint-small s at n (omega arith) (first-is st) (ltb-true _ _ h) ∙ ap (λ (k : ℕ). ok n k) e
    one false h = two (ltb n 65536) refl (ltb-false _ _ h)

varint-told : (s : List ℕ) (at q n : ℕ) → AllBytes s → varint s at ≡ ok n q → Stands s at (varint_bytes n) q × (n < 18446744073709551616)
varint-told s at q n h e = there (ltb at (length s)) refl
  where
    Told : Type 0
    Told = Stands s at (varint_bytes n) q × (n < 18446744073709551616)

    eight : at < length s → 253 ≤ get_or s at 0 → (get_or s at 0 ≡ 253 → ⊥) → (get_or s at 0 ≡ 254 → ⊥) → Told
    eight b g d d' =
        let i : get_or s at 0 ≡ 255 = let lt = h at in omega arith in
        let x = long-told le8 8 4294967296 le8-is s at q n 255 h b i (sym (varint-announced s at 255 b i) ∙ e) in
        (rw (varint-eight n x.1) x.0, omega (arith, x.2))

    four : at < length s → get_or s at 0 ≡ 254 → Told
    four b i =
        let x = long-told le4 4 65536 le4-is s at q n 254 h b i (sym (varint-announced s at 254 b i) ∙ e) in
        (rw (varint-four n x.1 (omega (arith, x.2))) x.0, omega (arith, x.2))

    two : at < length s → get_or s at 0 ≡ 253 → Told
    two b i =
        let x = long-told le2 2 253 le2-is s at q n 253 h b i (sym (varint-announced s at 253 b i) ∙ e) in
        (rw (varint-two n x.1 (omega (arith, x.2))) x.0, omega (arith, x.2))

    one : at < length s → get_or s at 0 < 253 → Told
    one b g =
        let m = sym (varint-small s at (get_or s at 0) b refl g) ∙ e in
        let i : get_or s at 0 ≡ n = cc in
        let k : at + 1 ≡ q = cc in
        (rw (varint-one n (omega arith)) (subst (λ (r : ℕ). Stands s at (n ∷ []) r) k (stands_one s at b i)), omega arith)

    is-four : (t : Bool) → eqb (get_or s at 0) 254 ≡ t → at < length s → 253 ≤ get_or s at 0 → (get_or s at 0 ≡ 253 → ⊥) → Told
    is-four true i b g d = four b (eqb-true _ _ i)
    is-four false i b g d = eight b g d (eqb-false _ _ i)

    is-two : (t : Bool) → eqb (get_or s at 0) 253 ≡ t → at < length s → 253 ≤ get_or s at 0 → Told
    is-two true i b g = two b (eqb-true _ _ i)
    is-two false i b g = is-four (eqb (get_or s at 0) 254) refl b g (eqb-false _ _ i)

    is_one : (t : Bool) → ltb (get_or s at 0) 253 ≡ t → at < length s → Told
    is_one true i b = one b (ltb-true _ _ i)
    is_one false i b = is-two (eqb (get_or s at 0) 253) refl b (ltb-false _ _ i)

    there : (t : Bool) → ltb at (length s) ≡ t → Told
    there true i = is_one (ltb (get_or s at 0) 253) refl (ltb-true _ _ i)
    there false i = absurd (let m = sym (varint-none s at (ltb-false _ _ i)) ∙ e in let z : ◌≡◌ {A = ℕ} 0 1 = cc in omega arith)

pub varint_encoding : Encoding varint itself varint_bytes (λ n. n < 18446744073709551616)
varint_encoding = record {
  reads = λ s at q n f a. (n, varint_reads s at q n f a, refl);
  told = λ s at q n h e. varint-told s at q n h e;
}

-- its greatest size
pub varint-length : (n : ℕ) → length (varint_bytes n) ≤ 9
unfolding varint_bytes little
varint-length n = go (ltb n 253) (ltb n 65536) (ltb n 4294967296)
  where
    go : (a b c : Bool) → length (pick a (n ∷ []) (pick b (253 ∷ little 2 n) (pick c (254 ∷ little 4 n) (255 ∷ little 8 n)))) ≤ 9
    go true b c = omega arith
    go false true c = omega arith
    go false false true = omega arith
    go false false false = omega arith
