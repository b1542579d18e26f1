-- What a string spells by itself is read of any string in which it stands, and what is read within it there it spells: readers look at the bytes that they
-- read and at nothing else.
use Prim.Native.Nat.{ℕ, zero, suc, ◌+◌, ◌-◌, ◌*◌, ◌≤◌, ◌<◌}
use mathlib.Core.Path.{◌≡◌, refl, sym, ap, ap₂, ◌∙◌, subst}
use mathlib.Core.Bool.{Bool, true, false}
use mathlib.Core.List.{List, [], ◌∷◌, map}
use native.Mathlib.Omega.{arith}
use lib.ListN.{length, get_or, take, drop, length-take, length-drop}
use lib.Seq.{get_or-take, get_or-drop, ext_get_or}
use lib.Dec.{ltb, leb, eqb}
use borrow.Author.Tests.{le-leb, lt-ltb}
use Rattle.format.specs.Parse.{Parse, Reader, ok, fault, pick, pure, here, ◌>>=◌, each, given, ◌passing◌else◌, at_start, field, many}
use Rattle.format.proofs.ParseLaws.{onward-told, passing_told, each-ok, many-told}
use Rattle.format.proofs.Span.{bytes-told, byte-told}
use Rattle.format.specs.Bytes.{hash_at}
use Rattle.format.specs.Field.{bytes, byte, le2, le4, le8, number, announced, varint}
use Rattle.format.specs.Refusals.{LONG_VARINT}

-- the string u stands in t, from a place on
pub record StandsIn (u t : List ℕ) (base : ℕ) : Type 0 where
  pub room : base + length u ≤ length t
  pub same : (p : ℕ) → p < length u → get_or u p 0 ≡ get_or t (base + p) 0

-- a reader never goes back
pub record Onward (t : List ℕ) {A : Type 0} (r : Reader A) : Type 0 where
  pub forth : (at q : ℕ) (a : A) → r t at ≡ ok a q → at ≤ q

-- what the reader r reads of u, r' reads of t, at the base and so far on, and both say one thing: c of the first is d of the second; and what r' reads there
-- of t, as far as u goes, r reads of u
pub record Again (u t : List ℕ) (base : ℕ) {A B C : Type 0} (r : Reader A) (r' : Reader B) (c : A → C) (d : B → C) : Type 0 where
  pub again : (at q : ℕ) (a : A) → r u at ≡ ok a q → (b : B) × (r' t (base + at) ≡ ok b (base + q)) × (c a ≡ d b)
  pub within : (at q : ℕ) (b : B) → r' t (base + at) ≡ ok b (base + q) → q ≤ length u → (a : A) × (r u at ≡ ok a q) × (c a ≡ d b)
  pub onwards : Onward t r'

-- ---- readers go on

module _ {t : List ℕ} where
  pub on_pure : {A : Type 0} {a : A} → Onward t (pure a)
  on_pure {a = a} = record { forth = λ at q x h. let next : at ≡ q = cc in omega arith }

  pub on_here : Onward t here
  on_here = record { forth = λ at q x h. let next : at ≡ q = cc in omega arith }

  pub on_then : {A A₂ : Type 0} {p : Reader A} {k : A → Reader A₂} → Onward t p → ((a : A) → Onward t (k a)) → Onward t (p >>= k)
  on_then {p = p} {k = k} f g =
      record { forth = λ at q a e. let x = onward-told (p t at) (λ y next. k y t next) e in let l = f.forth at x.1 x.0 x.2 in let r = (g x.0).forth x.1 q a x.3 in omega arith }

-- ---- how readers are put together

module _ {u t : List ℕ} {base : ℕ} where
  pub pure-again : {A B C : Type 0} (a : A) (b : B) (c : A → C) (d : B → C) → c a ≡ d b → Again u t base (pure a) (pure b) c d
  pure-again a b c d e =
      record {
        again = λ at q x h. let is : a ≡ x = cc in let next : at ≡ q = cc in (b, ap (λ (p : ℕ). ok b (base + p)) next, ap c (sym is) ∙ e);
        within = λ at q x h low. let is : b ≡ x = cc in let next : base + at ≡ base + q = cc in let n : at ≡ q = omega arith in (a, ap (ok a) n, e ∙ ap d is);
        onwards = on_pure;
      }

  pub here-again : Again u t base here here (λ p. base + p) (λ p. p)
  here-again =
      record {
        again = λ at q x h. let is : at ≡ x = cc in let next : at ≡ q = cc in (base + at, ap (λ (p : ℕ). ok (base + at) (base + p)) next, ap (λ (p : ℕ). base + p) (sym is));
        within = λ at q x h low. let is : base + at ≡ x = cc in let next : base + at ≡ base + q = cc in let n : at ≡ q = omega arith in (at, ap (ok at) n, is);
        onwards = on_here;
      }

  pub then_again : {A B C A₂ B₂ C₂ : Type 0} {p : Reader A} {p' : Reader B} {c : A → C} {d : B → C} {k : A → Reader A₂} {k' : B → Reader B₂} {c₂ : A₂ → C₂} {d₂ : B₂ → C₂}
      → Again u t base p p' c d → ((b : B) → Onward t (k' b)) → ((a : A) (b : B) → c a ≡ d b → Again u t base (k a) (k' b) c₂ d₂) → Again u t base (p >>= k) (p' >>= k') c₂ d₂
  then_again {A = A} {B = B} {A₂ = A₂} {B₂ = B₂} {p = p} {p' = p'} {c = c} {d = d} {k = k} {k' = k'} {c₂ = c₂} {d₂ = d₂} f o g = record { again = moved; within = back; onwards = on_then f.onwards o }
    where
      after : (at q r : ℕ) (x : A) (a : A₂) → (b : B) × (p' t (base + at) ≡ ok b (base + r)) × (c x ≡ d b) → k x u r ≡ ok a q
          → (b : B₂) × ((p' >>= k') t (base + at) ≡ ok b (base + q)) × (c₂ a ≡ d₂ b)
      after at q r x a (b, m, e) h =
          let y = (g x b e).again r q a h in
          (y.0, rw m y.1, y.2)

      moved : (at q : ℕ) (a : A₂) → (p >>= k) u at ≡ ok a q → (b : B₂) × ((p' >>= k') t (base + at) ≡ ok b (base + q)) × (c₂ a ≡ d₂ b)
      moved at q a e =
          let x = onward-told (p u at) (λ y next. k y u next) e in
          after at q x.1 x.0 a (f.again at x.1 x.0 x.2) x.3

      -- the first ends within u, since what follows it goes on
      before : (at q r : ℕ) (y : B) (b : B₂) → p' t (base + at) ≡ ok y (base + r) → k' y t (base + r) ≡ ok b (base + q) → r ≤ length u → q ≤ length u → (a : A₂) × ((p >>= k) u at ≡ ok a q) × (c₂ a ≡ d₂ b)
      before at q r y b m h first low =
          let x = f.within at r y m first in
          let z = (g x.0 y x.2).within r q b h low in
          (z.0, rw x.1 z.1, z.2)

      back : (at q : ℕ) (b : B₂) → (p' >>= k') t (base + at) ≡ ok b (base + q) → q ≤ length u → (a : A₂) × ((p >>= k) u at ≡ ok a q) × (c₂ a ≡ d₂ b)
      back at q b e low =
          let x = onward-told (p' t (base + at)) (λ y next. k' y t next) e in
          let l = f.onwards.forth (base + at) x.1 x.0 x.2 in
          let r = (o x.0).forth x.1 (base + q) b x.3 in
          let n : x.1 ≡ base + (x.1 - base) = omega arith in
          before at q (x.1 - base) x.0 b (x.2 ∙ ap (ok x.0) n) (ap (k' x.0 t) (sym n) ∙ x.3) (omega arith) low

  -- what both read is equal, and goes on
  pub then_same : {A A₂ B₂ C₂ : Type 0} {p p' : Reader A} {k : A → Reader A₂} {k' : A → Reader B₂} {c₂ : A₂ → C₂} {d₂ : B₂ → C₂}
      → Again u t base p p' (λ x. x) (λ x. x) → ((a : A) → Again u t base (k a) (k' a) c₂ d₂) → Again u t base (p >>= k) (p' >>= k') c₂ d₂
  then_same {A = A} {k = k} {k' = k'} {c₂ = c₂} {d₂ = d₂} f g = then_again f (λ a. (g a).onwards) (λ a b e. subst (λ (x : A). Again u t base (k a) (k' x) c₂ d₂) e (g a))

  -- a test of a number
  pub passing_again : (p p' : Reader ℕ) (test test' : ℕ → Bool) (code code' : ℕ) → Again u t base p p' (λ x. x) (λ x. x) → ((x : ℕ) → test x ≡ test' x)
      → Again u t base (p passing test else code) (p' passing test' else code') (λ x. x) (λ x. x)
  passing_again p p' test test' code code' f g = record {
    again = λ at q a e. moved at q a (passing_told p test code u at e);
    within = λ at q b e low. back at q b (passing_told p' test' code' t (base + at) e) low;
    onwards = record { forth = λ at q b e. f.onwards.forth at q b (passing_told p' test' code' t at e).0 };
  }
    where
      tried : (at q a b : ℕ) → test' a ≡ true → a ≡ b → p' t (base + at) ≡ ok b (base + q) → (p' passing test' else code') t (base + at) ≡ ok a (base + q)
      tried at q a b o e m = rw (m, ← e, o)

      moved : (at q a : ℕ) → (p u at ≡ ok a q) × (test a ≡ true) → (b : ℕ) × ((p' passing test' else code') t (base + at) ≡ ok b (base + q)) × (a ≡ b)
      moved at q a (h, o) = let x = f.again at q a h in (a, tried at q a x.0 (sym (g a) ∙ o) x.2 x.1, refl)

      passed : (at q a b : ℕ) → test b ≡ true → a ≡ b → p u at ≡ ok a q → (p passing test else code) u at ≡ ok b q
      passed at q a b o e m = rw (m, e, o)

      back : (at q b : ℕ) → (p' t (base + at) ≡ ok b (base + q)) × (test' b ≡ true) → q ≤ length u → (a : ℕ) × ((p passing test else code) u at ≡ ok a q) × (a ≡ b)
      back at q b (h, o) low = let x = f.within at q b h low in (b, passed at q x.0 b (g b ∙ o) x.2 x.1, refl)

  pub given-again : {A B C A₂ B₂ C₂ : Type 0} {p : Reader A} {p' : Reader B} {c : A → C} {d : B → C} (f : A → A₂) (g : B → B₂) (c₂ : A₂ → C₂) (d₂ : B₂ → C₂)
      → Again u t base p p' c d → ((a : A) (b : B) → c a ≡ d b → c₂ (f a) ≡ d₂ (g b)) → Again u t base (given f p) (given g p') c₂ d₂
  unfolding each
  given-again {A = A} {A₂ = A₂} {B₂ = B₂} {p = p} {p' = p'} f g c₂ d₂ h k = record {
    again = moved;
    within = back;
    onwards = record { forth = λ at q b e. let x = each-ok g (p' t at) e in h.onwards.forth at q x.0 x.1 };
  }
    where
      back : (at q : ℕ) (b : B₂) → given g p' t (base + at) ≡ ok b (base + q) → q ≤ length u → (a : A₂) × (given f p u at ≡ ok a q) × (c₂ a ≡ d₂ b)
      back at q b e low =
          let x = each-ok g (p' t (base + at)) e in
          let y = h.within at q x.0 x.1 low in
          (f y.0, rw y.1, k y.0 x.0 y.2 ∙ ap d₂ x.2)

      moved : (at q : ℕ) (a : A₂) → given f p u at ≡ ok a q → (b : B₂) × (given g p' t (base + at) ≡ ok b (base + q)) × (c₂ a ≡ d₂ b)
      moved at q a e =
          let x = each-ok f (p u at) e in
          let y = h.again at q x.0 x.1 in
          (g y.0, rw y.1, ap c₂ (sym x.2) ∙ k x.0 y.0 y.2)

  pub field-again : {A B C : Type 0} {p : Reader A} {p' : Reader B} {c : A → C} {d : B → C} → Again u t base p p' c d → Again u t base (field p) (field p') c d
  field-again {A = A} {B = B} {p = p} {p' = p'} {c = c} {d = d} f = record {
    again = λ at q a e. moved at q a (p u at) refl e;
    within = λ at q b e low. back at q b (p' t (base + at)) refl e low;
    onwards = record { forth = λ at q b e. on at q b (p' t at) refl e };
  }
    where
      on : (at q : ℕ) (b : B) (r : Parse B) → p' t at ≡ r → at_start at r ≡ ok b q → at ≤ q
      on at q b (ok x n) h e = f.onwards.forth at q b (h ∙ e)
      on at q b (fault x n) h e = absurd (let z : ◌≡◌ {A = ℕ} 0 1 = cc in omega arith)

      back : (at q : ℕ) (b : B) (r : Parse B) → p' t (base + at) ≡ r → at_start (base + at) r ≡ ok b (base + q) → q ≤ length u → (a : A) × (field p u at ≡ ok a q) × (c a ≡ d b)
      back at q b (ok x n) h e low = let y = f.within at q b (h ∙ e) low in (y.0, rw y.1, y.2)
      back at q b (fault x n) h e low = absurd (let z : ◌≡◌ {A = ℕ} 0 1 = cc in omega arith)

      moved : (at q : ℕ) (a : A) (r : Parse A) → p u at ≡ r → at_start at r ≡ ok a q → (b : B) × (field p' t (base + at) ≡ ok b (base + q)) × (c a ≡ d b)
      moved at q a (ok x n) h e = let y = f.again at q a (h ∙ e) in (y.0, rw y.1, y.2)
      moved at q a (fault x n) h e = absurd (let z : ◌≡◌ {A = ℕ} 0 1 = cc in omega arith)

  pub pick-again : {A B C : Type 0} {p q : Reader A} {p' q' : Reader B} {c : A → C} {d : B → C} (b : Bool) → Again u t base p p' c d → Again u t base q q' c d → Again u t base (pick b p q) (pick b p' q') c d
  pick-again true f g = f
  pick-again false f g = g

  pub many-again : {S A B C : Type 0} (item : S → Reader A) (item' : S → Reader B) (next : S → A → S) (next' : S → B → S) (c : A → C) (d : B → C)
      → ((st : S) → Again u t base (item st) (item' st) c d) → ((st : S) (a : A) (b : B) → c a ≡ d b → next st a ≡ next' st b)
      → (n : ℕ) (st : S) → Again u t base (many item next n st) (many item' next' n st) (map c) (map d)
  unfolding many each
  many-again {S = S} {A = A} {B = B} item item' next next' c d f g n st = record { again = go n st; within = back n st; onwards = record { forth = on n st } }
    where
      on : (n : ℕ) (st : S) (at q : ℕ) (m : List B) → many item' next' n st t at ≡ ok m q → at ≤ q
      on zero st at q m e = let end : at ≡ q = cc in omega arith
      on (suc n) st at q m e =
          let x = many-told item' next' n st t at e in
          let l = (f st).onwards.forth at x.1 x.0 x.3 in
          let r = on n (next' st x.0) x.1 q x.2 x.4 in
          omega arith

      first : (n : ℕ) (st : S) (at q r : ℕ) (b : B) (rest m : List B) → (a : A) × (item st u at ≡ ok a r) × (c a ≡ d b)
          → ((st' : S) → st' ≡ next' st b → (l : List A) × (many item next n st' u r ≡ ok l q) × (map c l ≡ map d rest)) → b ∷ rest ≡ m
          → (l : List A) × (many item next (suc n) st u at ≡ ok l q) × (map c l ≡ map d m)
      first n st at q r b rest m (a, h, e) w is =
          let y = w (next st a) (g st a b e) in
          (a ∷ y.0, rw (h, y.1), ap₂ ◌∷◌ e y.2 ∙ ap (map d) is)

      back : (n : ℕ) (st : S) (at q : ℕ) (m : List B) → many item' next' n st t (base + at) ≡ ok m (base + q) → q ≤ length u → (l : List A) × (many item next n st u at ≡ ok l q) × (map c l ≡ map d m)
      back zero st at q m e low = let is : [] ≡ m = cc in let end : base + at ≡ base + q = cc in let end' : at ≡ q = omega arith in ([], ap (ok []) end', ap (map d) is)
      back (suc n) st at q m e low =
          let x = many-told item' next' n st t (base + at) e in
          let l = (f st).onwards.forth (base + at) x.1 x.0 x.3 in
          let r = on n (next' st x.0) x.1 (base + q) x.2 x.4 in
          let k : x.1 ≡ base + (x.1 - base) = omega arith in
          let within : x.1 - base ≤ length u = omega arith in
          first n st at q (x.1 - base) x.0 x.2 m ((f st).within at (x.1 - base) x.0 (x.3 ∙ ap (ok x.0) k) within)
          (λ st' is. back n st' (x.1 - base) q x.2 (ap₂ (λ (z : S) (p : ℕ). many item' next' n z t p) is (sym k) ∙ x.4) low) x.5

      step : (n : ℕ) (st : S) (at q r : ℕ) (a : A) (rest l : List A) → (b : B) × (item' st t (base + at) ≡ ok b (base + r)) × (c a ≡ d b)
          → ((st' : S) → next st a ≡ st' → (m : List B) × (many item' next' n st' t (base + r) ≡ ok m (base + q)) × (map c rest ≡ map d m)) → a ∷ rest ≡ l
          → (m : List B) × (many item' next' (suc n) st t (base + at) ≡ ok m (base + q)) × (map c l ≡ map d m)
      step n st at q r a rest l (b, h, e) w is =
          let y = w (next' st b) (g st a b e) in
          (b ∷ y.0, rw (h, y.1), ap (map c) (sym is) ∙ ap₂ ◌∷◌ e y.2)

      go : (n : ℕ) (st : S) (at q : ℕ) (l : List A) → many item next n st u at ≡ ok l q → (m : List B) × (many item' next' n st t (base + at) ≡ ok m (base + q)) × (map c l ≡ map d m)
      go zero st at q l e = let is : [] ≡ l = cc in let end : at ≡ q = cc in ([], ap (λ (p : ℕ). ok [] (base + p)) end, ap (map c) (sym is))
      go (suc n) st at q l e =
          let x = many-told item next n st u at e in
          step n st at q x.1 x.0 x.2 l ((f st).again at x.1 x.0 x.3) (λ st' is. go n st' x.1 q x.2 (ap (λ (z : S). many item next n z u x.1) (sym is) ∙ x.4)) x.5

-- ---- fields

module _ {u t : List ℕ} {base : ℕ} (stands : StandsIn u t base) where
  pub bytes-again : {C : Type 0} (n : ℕ) (c d : ℕ → C) → ((p : ℕ) → p + n ≤ length u → c p ≡ d (base + p)) → Again u t base (bytes n) (bytes n) c d
  unfolding bytes
  bytes-again n c d f = record { again = moved; within = back; onwards = record { forth = λ at q p e. let x = bytes-told n t at e in omega arith } }
    where
      back : (at q p : ℕ) → bytes n t (base + at) ≡ ok p (base + q) → q ≤ length u → (a : ℕ) × (bytes n u at ≡ ok a q) × (c a ≡ d p)
      back at q p e low =
          let x = bytes-told n t (base + at) e in
          let inside : at + n ≤ length u = omega arith in
          let end : at + n ≡ q = omega arith in
          (at, rw (le-leb _ _ inside) (ap (ok at) end), f at inside ∙ ap d (sym x.place_is))

      moved : (at q p : ℕ) → bytes n u at ≡ ok p q → (b : ℕ) × (bytes n t (base + at) ≡ ok b (base + q)) × (c p ≡ d b)
      moved at q p e =
          let x = bytes-told n u at e in
          let room = stands.room in
          let inside : base + at + n ≤ length t = omega arith in
          let end : base + at + n ≡ base + q = omega arith in
          (base + at, rw (le-leb _ _ inside) (ap (ok (base + at)) end), ap c x.place_is ∙ f at x.inside)

  pub byte-again : Again u t base byte byte (λ x. x) (λ x. x)
  unfolding byte
  byte-again = record { again = moved; within = back; onwards = record { forth = λ at q v e. let x = byte-told t at e in omega arith } }
    where
      back : (at q v : ℕ) → byte t (base + at) ≡ ok v (base + q) → q ≤ length u → (a : ℕ) × (byte u at ≡ ok a q) × (a ≡ v)
      back at q v e low =
          let x = byte-told t (base + at) e in
          let inside : at < length u = omega arith in
          let end : at + 1 ≡ q = omega arith in
          (get_or u at 0, rw (lt-ltb _ _ inside) (ap (ok (get_or u at 0)) end), stands.same at inside ∙ sym x.value-is)

      moved : (at q v : ℕ) → byte u at ≡ ok v q → (b : ℕ) × (byte t (base + at) ≡ ok b (base + q)) × (v ≡ b)
      moved at q v e =
          let x = byte-told u at e in
          let room = stands.room in
          let inside : base + at < length t = omega arith in
          let end : base + at + 1 ≡ base + q = omega arith in
          (get_or t (base + at) 0, rw (lt-ltb _ _ inside) (ap (ok (get_or t (base + at) 0)) end), x.value-is ∙ stands.same at x.inside)

  -- a byte of a number
  at_again : (p q : ℕ) → p < length u → q ≡ base + p → get_or u p 0 ≡ get_or t q 0
  at_again p q h e = stands.same p h ∙ ap (λ (x : ℕ). get_or t x 0) (sym e)

  pub number-again : (value : List ℕ → ℕ → ℕ) (width : ℕ) → ((p : ℕ) → p + width ≤ length u → value u p ≡ value t (base + p)) → Again u t base (number value width) (number value width) (λ x. x) (λ x. x)
  number-again value width f = then_again (bytes-again width (value u) (value t) f) (λ q. on_number q) (λ p q e. record {
    again = λ at n v h. let is : value u p ≡ v = cc in let next : at ≡ n = cc in (value t q, ap (λ (x : ℕ). ok (value t q) (base + x)) next, sym is ∙ e);
    within = λ at n v h low. let is : value t q ≡ v = cc in let next : base + at ≡ base + n = cc in let same : at ≡ n = omega arith in (value u p, ap (ok (value u p)) same, e ∙ is);
    onwards = on_number q;
  })
    where
      on_number : (q : ℕ) → Onward t (λ s at. ok (value s q) at)
      on_number q = record { forth = λ at n v h. let next : at ≡ n = cc in omega arith }

  le2-again : (p q : ℕ) → p + 2 ≤ length u → q ≡ base + p → le2 u p ≡ le2 t q
  le2-again p q h e = ap₂ (λ (x y : ℕ). x + 256 * y) (at_again p q (omega arith) e) (at_again (p + 1) (q + 1) (omega arith) (omega arith))

  pub le4-again : (p q : ℕ) → p + 4 ≤ length u → q ≡ base + p → le4 u p ≡ le4 t q
  le4-again p q h e = ap₂ (λ (x y : ℕ). x + 65536 * y) (le2-again p q (omega arith) e) (le2-again (p + 2) (q + 2) (omega arith) (omega arith))

  pub le8-again : (p q : ℕ) → p + 8 ≤ length u → q ≡ base + p → le8 u p ≡ le8 t q
  le8-again p q h e = ap₂ (λ (x y : ℕ). x + 4294967296 * y) (le4-again p q (omega arith) e) (le4-again (p + 4) (q + 4) (omega arith) (omega arith))

  announced-again : (a : ℕ) → Again u t base (announced a) (announced a) (λ x. x) (λ x. x)
  announced-again a =
      pick-again (ltb a 253) (pure-again a a (λ x. x) (λ x. x) refl)
      (pick-again (eqb a 253) (passing_again (number le2 2) (number le2 2) (λ v. leb 253 v) (λ v. leb 253 v) LONG_VARINT LONG_VARINT (number-again le2 2 (λ p h. le2-again p (base + p) h refl)) (λ x. refl))
      (pick-again (eqb a 254) (passing_again (number le4 4) (number le4 4) (λ v. leb 65536 v) (λ v. leb 65536 v) LONG_VARINT LONG_VARINT (number-again le4 4 (λ p h. le4-again p (base + p) h refl)) (λ x. refl))
      (passing_again (number le8 8) (number le8 8) (λ v. leb 4294967296 v) (λ v. leb 4294967296 v) LONG_VARINT LONG_VARINT (number-again le8 8 (λ p h. le8-again p (base + p) h refl)) (λ x. refl))))

  pub varint-again : Again u t base varint varint (λ x. x) (λ x. x)
  unfolding varint
  varint-again = field-again (then_same byte-again announced-again)

  -- a run of bytes, and 32 of them
  pub run-again : (n p : ℕ) → p + n ≤ length u → take n (drop p u) ≡ take n (drop (base + p) t)
  run-again n p h =
      let room = stands.room in
      let long : length (take n (drop p u)) ≡ n = simp (length-take, length-drop) (omega arith) in
      let other : length (take n (drop (base + p) t)) ≡ n = simp (length-take, length-drop) (omega arith) in
      ext_get_or 0 (take n (drop p u)) (take n (drop (base + p) t)) (long ∙ sym other)
      (λ i b. let low : i < n = omega arith in
      get_or-take n (drop p u) i 0 low ∙ get_or-drop p u i 0 ∙ at_again (p + i) (base + p + i) (omega arith) (omega arith)
      ∙ sym (get_or-take n (drop (base + p) t) i 0 low ∙ get_or-drop (base + p) t i 0))

  pub hash-again : (p : ℕ) → p + 32 ≤ length u → hash_at u p ≡ hash_at t (base + p)
  unfolding hash_at
  hash-again p h =
      let room = stands.room in
      let inside : base + p + 32 ≤ length t = omega arith in
      rw (le-leb _ _ h, le-leb _ _ inside) (run-again 32 p h)
