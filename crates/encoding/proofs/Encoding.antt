-- Readers and writers of one layout. `Encoding p say encode Fit`: the reader p takes exactly the strings encode b, b that fit, and says b of them.
use mathlib.Core.Path.{◌≡◌, refl, sym, ap, ap₂, ◌∙◌, subst, subst⁻¹}
use mathlib.Core.List.{List, [], ◌∷◌, map}
use mathlib.Core.Bool.{Bool, true, false}
use Prim.Native.Nat.{ℕ, zero, suc, ◌+◌, ◌≤◌, ◌<◌}
use lib.ListN.{length, get_or, take, drop, length-take, get_or-eq_default}
use lib.Dec.{ltb}
use lib.Seq.{drop-cons, get_or-take, get_or-drop}
use native.Mathlib.Omega.{arith}
use native.Mathlib.Nat.{add-zero}
use borrow.Author.Tests.{lt-ltb, ltb-true, ltb-false}
use Rattle.format.specs.Parse.{Reader, ◌passing◌else◌, many, each, ok}
use Rattle.format.proofs.ParseLaws.{passing_told, many-told}
use Rattle.format.specs.Field.{byte}
use Rattle.format.proofs.Span.{byte-told}
use Rattle.encoding.proofs.Stands.{Stands, stands-none, stands-join, stands-split, stands-fits, stands_get, stands_here}
use Rattle.encoding.specs.Encode.{AllBytes, encode_all, Fits}

pub record Encoding {A B : Type 0} (p : Reader A) (say : List ℕ → A → B) (encode : B → List ℕ) (Fit : B → Type 0) : Type 0 where
  -- what is written is read, and says what was written
  pub reads : (s : List ℕ) (at q : ℕ) (b : B) → Fit b → Stands s at (encode b) q → (a : A) × (p s at ≡ ok a q) × (say s a ≡ b)
  -- what was read is the writing of what it says
  pub told : (s : List ℕ) (at q : ℕ) (a : A) → AllBytes s → p s at ≡ ok a q → Stands s at (encode (say s a)) q × Fit (say s a)

-- a value that speaks for itself
abbrev pub itself : {A : Type 0} → List ℕ → A → A
itself s a = a

-- a part of bytes is bytes
pub part_bytes : (s : List ℕ) (at n : ℕ) → AllBytes s → AllBytes (take n (drop at s))
part_bytes s at n h i = go (ltb i n) refl
  where
    go : (t : Bool) → ltb i n ≡ t → get_or (take n (drop at s)) i 0 < 256
    go true e = rw (get_or-take n (drop at s) i 0 (ltb-true i n e), get_or-drop at s i 0) (h (at + i))
    go false e =
        let g : n ≤ i = ltb-false i n e in
        let m : length (take n (drop at s)) ≤ i = omega (arith, length-take n (drop at s)) in
        rw (get_or-eq_default (take n (drop at s)) 0 m) (omega arith)

-- ---- a byte, a run of bytes

-- one element stands at a place of the input
pub stands_one : (s : List ℕ) (at : ℕ) {x : ℕ} → at < length s → get_or s at 0 ≡ x → Stands s at (x ∷ []) (at + 1)
stands_one s at {x} h e = subst (λ (y : ℕ). Stands s at (y ∷ []) (at + 1)) e (subst (λ (l : List ℕ). Stands s at l (at + 1)) (ap (take 1) (drop-cons s at 0 h)) (stands_here s at 1 (omega arith)))

pub first-is : {s cs : List ℕ} {x at q : ℕ} → Stands s at (x ∷ cs) q → get_or s at 0 ≡ x
first-is {s} {cs} {x} {at} a = ap (λ (n : ℕ). get_or s n 0) (sym (add-zero at)) ∙ stands_get a 0 (omega arith)

pub byte_encoding : Encoding byte itself (λ b. b ∷ []) (λ b. b < 256)
unfolding byte
byte_encoding = record {
  reads = λ s at q b f a. let e = a.next in let g = stands-fits a (omega arith) in
      (b, rw (lt-ltb at (length s) (omega arith), first-is a) (ap (λ (k : ℕ). ok b k) e), refl);
  told = λ s at q a h e. let t = byte-told s at e in (subst⁻¹ (λ (k : ℕ). Stands s at (a ∷ []) k) t.next-is (stands_one s at t.inside (sym t.value-is)), rw (← t.value-is) at (h at));
}

-- ---- a test

pub tested_encoding : {A : Type 0} {p : Reader A} {encode : A → List ℕ} {Fit : A → Type 0} (t : A → Bool) (code : ℕ) → Encoding p itself encode Fit
    → Encoding (p passing t else code) itself encode (λ b. Fit b × (t b ≡ true))
tested_encoding {p = p} t code x = record {
  reads = λ s at q b f a. let r = x.reads s at q b f.0 a in (r.0, rw r.1 (rw (ap t r.2 ∙ f.1)), r.2);
  told = λ s at q a h e. let y = passing_told p t code s at e in let z = x.told s at q a h y.0 in (z.0, (z.1, y.1));
}

-- ---- items one after the other

module _ {S A B : Type 0} (item : S → Reader A) (next : S → A → S) (say : List ℕ → A → B) (encode : B → List ℕ) (Fit : S → B → Type 0) (next' : S → B → S)
    (alike : (s : List ℕ) (st : S) (a : A) → next st a ≡ next' st (say s a))
    (one : (st : S) → Encoding (item st) say encode (Fit st)) where
  many_reads : (n : ℕ) (st : S) (s : List ℕ) (at q : ℕ) (l : List B) → length l ≡ n → Fits Fit next' st l → Stands s at (encode_all encode l) q
      → (xs : List A) × (many item next n st s at ≡ ok xs q) × (map (say s) xs ≡ l)
  unfolding many each encode_all Fits
  many_reads zero st s at q [] e f a = ([], ap (λ (k : ℕ). ok [] k) (sym (add-zero at) ∙ a.next), refl)
  many_reads zero st s at q (b ∷ l) e f a = absurd (omega arith)
  many_reads (suc n) st s at q [] e f a = absurd (omega arith)
  many_reads (suc n) st s at q (b ∷ l) e f a =
      let sp = stands-split (encode b) (encode_all encode l) a in
      let mid : ℕ = at + length (encode b) in
      let r = (one st).reads s at mid b f.0 sp.0 in
      let st' : next st r.0 ≡ next' st b = alike s st r.0 ∙ ap (next' st) r.2 in
      let m = many_reads n (next st r.0) s mid q l (omega arith) (subst (λ (x : S). Fits Fit next' x l) (sym st') f.1) sp.1 in
      (r.0 ∷ m.0, rw (r.1, m.1), ap₂ ◌∷◌ r.2 m.2)

  many-says : (n : ℕ) (st : S) (s : List ℕ) (at q : ℕ) (xs : List A) → AllBytes s → many item next n st s at ≡ ok xs q
      → Stands s at (encode_all encode (map (say s) xs)) q × ((length (map (say s) xs) ≡ n) × Fits Fit next' st (map (say s) xs))
  unfolding many encode_all Fits
  many-says zero st s at q xs h e =
      let z : [] ≡ xs = cc in
      let k : at ≡ q = cc in
      rw (← z, ← k) (stands-none s at, (refl, tt))
  many-says (suc n) st s at q xs h e =
      let x = many-told item next n st s at e in
      let f = (one st).told s at x.1 x.0 h x.3 in
      let r = many-says n (next st x.0) s x.1 q x.2 h x.4 in
      rw (← x.5) (stands-join f.0 r.0, (ap suc r.1.0, (f.1, subst (λ (y : S). Fits Fit next' y (map (say s) x.2)) (alike s st x.0) r.1.1)))

  pub many_encoding : (n : ℕ) (st : S) → Encoding (many item next n st) (λ s. map (say s)) (encode_all encode) (λ l. (length l ≡ n) × Fits Fit next' st l)
  many_encoding n st = record {
    reads = λ s at q l f a. many_reads n st s at q l f.0 f.1 a;
    told = λ s at q xs h e. many-says n st s at q xs h e;
  }
