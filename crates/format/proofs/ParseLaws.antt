-- Laws of the readers' combinators, by which the functions' proofs and the crates above go.
use mathlib.Core.Path.{◌≡◌, refl, ap, sym, ◌∙◌}
use mathlib.Core.List.{List, [], ◌∷◌}
use mathlib.Core.Bool.{Bool, true, false}
use Prim.Native.Nat.{ℕ, zero, suc, ◌+◌, ◌-◌, ◌≤◌, ◌<◌}
use lib.ListN.{length}
use lib.Dec.{ltb, leb}
use native.Mathlib.Omega.{arith}
use native.Mathlib.Numerals.{add-one}
use native.Mathlib.Nat.{sub-zero, zero-add, add-zero}
use borrow.Author.Tests.{le-ltb, lt-ltb, le-leb, lt-leb}
use Rattle.format.specs.Parse.{Parse, Reader, pick, onward, each, tested, ◌passing◌else◌, many, ended, whole, otherwise, ok, fault}
use Rattle.format.specs.Refusals.{TOO_LONG, EXTRA, MAX_INPUT, refusal_number}
use Rattle.format.specs.declared.field.Cursor.{Cursor}
use Rattle.format.specs.declared.refusal.ReadRefusal.{ReadRefusal}
use Rattle.format.specs.Answer.{parse_of}
use Rattle.std.specs.Prelude.{Result}
use Rattle.std.specs.Result.{IsErrAnd}
use Rattle.std.proofs.lemmas.Result.{err_from_is_err_and}

-- what a call ensures of its answer r, and what r is, say what the definition finds
pub answered : {X A : Type 0} (f : X → Parse A) {r x : X} {p : Parse A} → f r ≡ p → r ≡ x → p ≡ f x
answered f e h = sym e ∙ ap f h

-- the exit of a `?`: the refusal is passed on as it is
pub passed_on : {T : Type 0} (r : Result (T × Cursor) ReadRefusal) (e : ReadRefusal) → IsErrAnd r (λ y. y ≡ e) → parse_of r ≡ fault (refusal_number e.refusal) e.place
passed_on r e h = let p = err_from_is_err_and r h in rw (p.1, p.2) refl

-- a function of what is read
pub each_cong : {A B : Type 0} (f g : A → B) → ((a : A) → f a ≡ g a) → (p : Parse A) → each f p ≡ each g p
unfolding each
each_cong f g e (ok a at) = rw (e a)
each_cong f g e (fault n at) = refl

pub each-each : {A B C : Type 0} (f : B → C) (g : A → B) (p : Parse A) → each f (each g p) ≡ each (λ a. f (g a)) p
unfolding each
each-each f g (ok a at) = refl
each-each f g (fault n at) = refl

pub each-ok : {A B : Type 0} (f : A → B) (p : Parse A) {b : B} {q : ℕ} → each f p ≡ ok b q → (a : A) × (p ≡ ok a q) × (f a ≡ b)
unfolding each
each-ok f (ok a at) e = (a, cc, cc)
each-ok f (fault n at) e = absurd (let z : ◌≡◌ {A = ℕ} 0 1 = cc in omega arith)

pub each-fault : {A B : Type 0} (f : A → B) (p : Parse A) {n q : ℕ} → each f p ≡ fault n q → p ≡ fault n q
unfolding each
each-fault f (ok a at) e = absurd (let z : ◌≡◌ {A = ℕ} 0 1 = cc in omega arith)
each-fault f (fault n at) e = cc

pub refused_as : {A B C : Type 0} (f : A → B) (g : A → C) (p : Parse A) {n q : ℕ} → each f p ≡ fault n q → each g p ≡ fault n q
unfolding each
refused_as f g p e = rw (each-fault f p e)

-- items one after the other, under a function f of their list: what a loop over them keeps. r is what is left to read
module _ {S A : Type 0} (item : S → Reader A) (next : S → A → S) (s : List ℕ) where
  pub many-done : {B : Type 0} (f : List A → B) (r : ℕ) (st : S) (at : ℕ) → r ≡ 0 → each f (many item next r st s at) ≡ ok (f []) at
  unfolding each many
  many-done f r st at e = rw e

  pub many-refused : {B : Type 0} (f : List A → B) (r : ℕ) (st : S) (at : ℕ) {n q : ℕ} → 0 < r → item st s at ≡ fault n q → each f (many item next r st s at) ≡ fault n q
  unfolding each many
  many-refused f zero st at h e = absurd (omega arith)
  many-refused f (suc r) st at h e = rw e

  pub many-step : {B : Type 0} (f g : List A → B) (r r' : ℕ) (st : S) (at : ℕ) {a : A} {q : ℕ} → r ≡ r' + 1 → item st s at ≡ ok a q → ((l : List A) → f (a ∷ l) ≡ g l)
      → each f (many item next r st s at) ≡ each g (many item next r' (next st a) s q)
  unfolding each many
  many-step f g r r' st at {a} {q} er e h =
      let rest : Parse (List A) = many item next r' (next st a) s q in
      rw (er, add-one, e) (each-each f (a ∷◌) rest ∙ each_cong (λ l. f (a ∷ l)) g h rest)

-- a loop that counts items: i are read, n - i are left
module _ {S A : Type 0} (item : S → Reader A) (next : S → A → S) (n : ℕ) (s : List ℕ) where
  pub count-start : (st : S) (at : ℕ) → each length (many item next n st s at) ≡ each (λ l. 0 + length l) (many item next (n - 0) st s at)
  count-start st at = simp sub-zero (each_cong length (λ l. 0 + length l) (λ l. sym (zero-add (length l))) (many item next n st s at))

  pub count-step : (i : ℕ) (st : S) (at : ℕ) {a : A} {q : ℕ} → i < n → item st s at ≡ ok a q
      → each (λ l. i + length l) (many item next (n - i) st s at) ≡ each (λ l. i + 1 + length l) (many item next (n - (i + 1)) (next st a) s q)
  count-step i st at h e = many-step item next s (λ l. i + length l) (λ l. i + 1 + length l) (n - i) (n - (i + 1)) st at (omega arith) e (λ l. omega arith)

  pub count-refused : (i : ℕ) (st : S) (at : ℕ) {k q : ℕ} → i < n → item st s at ≡ fault k q → each (λ l. i + length l) (many item next (n - i) st s at) ≡ fault k q
  count-refused i st at h e = many-refused item next s (λ l. i + length l) (n - i) st at (omega arith) e

  pub count-done : (i : ℕ) (st : S) (at : ℕ) → n ≤ i → each (λ l. i + length l) (many item next (n - i) st s at) ≡ ok i at
  count-done i st at h = many-done item next s (λ l. i + length l) (n - i) st at (omega arith) ∙ ap (λ (k : ℕ). ok k at) (add-zero i)

  pub count-all : (i : ℕ) (st : S) (at : ℕ) → i ≡ n → each (λ l. i + length l) (many item next (n - i) st s at) ≡ ok n at
  count-all i st at h = count-done i st at (omega arith) ∙ ap (λ (k : ℕ). ok k at) h

-- what passed a test was read, and passes it
pub passing_told : {A : Type 0} (p : Reader A) (t : A → Bool) (k : ℕ) (s : List ℕ) (at : ℕ) {a : A} {q : ℕ} → (p passing t else k) s at ≡ ok a q → (p s at ≡ ok a q) × (t a ≡ true)
passing_told {A = A} p t k s at {a} {q} e = told (p s at) refl e
  where
    picked : (b : A) (r : ℕ) (v : Bool) → t b ≡ v → pick v (ok b r) (fault k at) ≡ ok a q → (ok b r ≡ ok a q) × (t a ≡ true)
    picked b r true h m = (m, ap t (sym (cc)) ∙ h)
    picked b r false h m = absurd (let z : ◌≡◌ {A = ℕ} 0 1 = cc in omega arith)

    told : (r : Parse A) → p s at ≡ r → tested t k at r ≡ ok a q → (p s at ≡ ok a q) × (t a ≡ true)
    told (ok b r) h m = let x = picked b r (t b) refl m in (h ∙ x.0, x.1)
    told (fault n r) h m = absurd (let z : ◌≡◌ {A = ℕ} 0 1 = cc in omega arith)

-- an input that is one whole item
module _ {A B : Type 0} (p : Reader A) (f : A → B) (s : List ℕ) where
  pub whole_too_long : MAX_INPUT < length s → each f (whole p s) ≡ fault TOO_LONG 0
  unfolding each whole
  whole_too_long h = simp (lt-leb _ _ h)

  pub whole-refused : {n q : ℕ} → length s ≤ MAX_INPUT → each f (p s 0) ≡ fault n q → each f (whole p s) ≡ fault n q
  unfolding each whole
  whole-refused h e = simp (le-leb _ _ h, each-fault f (p s 0) e)

  pub whole_extra : {b : B} {q : ℕ} → length s ≤ MAX_INPUT → each f (p s 0) ≡ ok b q → q < length s → each f (whole p s) ≡ fault EXTRA q
  unfolding each whole
  whole_extra {b} {q} h e l = simp (le-leb _ _ h, (each-ok f (p s 0) e).1, lt-ltb _ _ l)

  pub whole-read : {b : B} {q : ℕ} → length s ≤ MAX_INPUT → each f (p s 0) ≡ ok b q → length s ≤ q → each f (whole p s) ≡ ok b q
  unfolding each whole
  whole-read {b} {q} h e l = simp (le-leb _ _ h, (each-ok f (p s 0) e).1, le-ltb _ _ l, (each-ok f (p s 0) e).2)

-- fields as they come: a field that is read goes on, one that is refused stops
pub go : {A B C : Type 0} (f : B → C) (g : A → ℕ → Parse B) {x : Parse A} {a : A} {q : ℕ} → x ≡ ok a q → each f (onward x g) ≡ each f (g a q)
go f g e = rw e

pub stop : {A B C : Type 0} (f : B → C) (g : A → ℕ → Parse B) {x : Parse A} {n q : ℕ} → x ≡ fault n q → each f (onward x g) ≡ fault n q
unfolding each
stop f g e = rw e

-- what a sequence read was read in parts
pub onward-told : {A B : Type 0} (p : Parse A) (f : A → ℕ → Parse B) {b : B} {q : ℕ} → onward p f ≡ ok b q → (a : A) × (r : ℕ) × (p ≡ ok a r) × (f a r ≡ ok b q)
onward-told (ok a r) f e = (a, r, refl, e)
onward-told (fault n r) f e = absurd (let z : ◌≡◌ {A = ℕ} 0 1 = cc in omega arith)

module _ {S S' A : Type 0} (item : S → Reader A) (next : S → A → S) (item' : S' → Reader A) (next' : S' → A → S') (s : List ℕ)
    (unchecked : (st : S) (st' : S') (at : ℕ) (a : A) (q : ℕ) → item st s at ≡ ok a q → item' st' s at ≡ ok a q) where
  pub many_unchecked : (n : ℕ) (st : S) (st' : S') (at : ℕ) {l : List A} {q : ℕ} → many item next n st s at ≡ ok l q → many item' next' n st' s at ≡ ok l q
  unfolding many each
  many_unchecked zero st st' at e = e
  many_unchecked (suc n) st st' at {q = q} e =
      let x = onward-told (item st s at) _ e in
      let y = each-ok (x.0 ∷◌) (many item next n (next st x.0) s x.1) x.3 in
      rw (unchecked st st' at x.0 x.1 x.2, many_unchecked n (next st x.0) (next' st' x.0) x.1 y.1) (ap (λ (m : List A). ok m q) y.2)

-- what a list of items read was read in: its first item, and the rest
pub many-told : {S A : Type 0} (item : S → Reader A) (next : S → A → S) (n : ℕ) (st : S) (s : List ℕ) (at : ℕ) {l : List A} {q : ℕ}
    → many item next (suc n) st s at ≡ ok l q
    → (a : A) × (r : ℕ) × (rest : List A) × (item st s at ≡ ok a r) × (many item next n (next st a) s r ≡ ok rest q) × (a ∷ rest ≡ l)
unfolding many
many-told item next n st s at e =
    let x = onward-told (item st s at) _ e in
    let y = each-ok (x.0 ∷◌) (many item next n (next st x.0) s x.1) x.3 in
    (x.0, x.1, y.0, x.2, y.1, y.2)

pub whole-told : {A : Type 0} (p : Reader A) (s : List ℕ) {a : A} {q : ℕ} → whole p s ≡ ok a q → p s 0 ≡ ok a q
unfolding whole
whole-told {A = A} p s {a} {q} e = fit (leb (length s) MAX_INPUT) e
  where
    last : (b : A) (r : ℕ) (v : Bool) → pick v (fault EXTRA r) (ok b r) ≡ ok a q → ok b r ≡ ok a q
    last b r true m = absurd (let z : ◌≡◌ {A = ℕ} 0 1 = cc in omega arith)
    last b r false m = m

    fit : (v : Bool) → pick v (ended p s 0) (fault TOO_LONG 0) ≡ ok a q → p s 0 ≡ ok a q
    fit true m = let x = onward-told (p s 0) _ m in x.2 ∙ last x.0 x.1 (ltb x.1 (length s)) x.3
    fit false m = absurd (let z : ◌≡◌ {A = ℕ} 0 1 = cc in omega arith)

-- n items are a list of n
pub many-length : {S A : Type 0} (item : S → Reader A) (next : S → A → S) (n : ℕ) (st : S) (s : List ℕ) (at : ℕ) {l : List A} {q : ℕ} → many item next n st s at ≡ ok l q → length l ≡ n
unfolding many
many-length item next zero st s at {l} {q} e = let z : [] ≡ l = cc in ap length (sym z)
many-length item next (suc n) st s at e =
    let x = onward-told (item st s at) _ e in
    let y = each-ok (x.0 ∷◌) (many item next n (next st x.0) s x.1) x.3 in
    ap length (sym y.2) ∙ ap suc (many-length item next n (next st x.0) s x.1 y.1)

-- what follows a parse that is read, or refused
pub otherwise-ok : {A B : Type 0} (b : B) (f : A → ℕ → B) {p : Parse A} {a : A} {q : ℕ} → p ≡ ok a q → otherwise p b f ≡ f a q
otherwise-ok b f e = rw e

pub otherwise-fault : {A B : Type 0} (b : B) (f : A → ℕ → B) {p : Parse A} {n q : ℕ} → p ≡ fault n q → otherwise p b f ≡ b
otherwise-fault b f e = rw e
