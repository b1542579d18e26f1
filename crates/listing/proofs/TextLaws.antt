-- Laws of numbers and bytes as text.
use mathlib.Core.Path.{◌≡◌, refl, sym, ap, ◌∙◌}
use mathlib.Core.Bool.{Bool, true, false}
use mathlib.Core.List.{List, [], ◌∷◌, ◌++◌, reverse-append}
use Prim.Native.Nat.{ℕ, zero, suc, ◌+◌, ◌/◌, ◌%◌, ◌<◌, ◌≤◌}
use lib.ListN.{length, take, get_or}
use lib.Seq.{take-suc, take_all}
use lib.Dec.{ltb}
use native.Mathlib.Omega.{arith}
use native.Mathlib.Numerals.{add-one}
use borrow.Author.Tests.{le-ltb, lt-ltb, ltb-false}
use Rattle.encoding.specs.Buffer.{Buffer, put_on, write_on}
use Rattle.encoding.proofs.BufferLaws.{write-one, wrote_then}
use Rattle.listing.specs.Text.{digit, digits, decimal, hex, printed}

pub digit_low : (d : ℕ) → d < 10 → digit d ≡ 48 + d
digit_low d h = rw (lt-ltb d 10 h)

pub digit-high : (d : ℕ) → 10 ≤ d → digit d ≡ 87 + d
digit-high d h = rw (le-ltb d 10 h)

-- how many digits may come makes no difference once it is enough
digits-enough : (f g n : ℕ) → n < f → n < g → digits f n ≡ digits g n
unfolding digits
digits-enough zero g n h k = absurd (omega arith)
digits-enough (suc f) zero n h k = absurd (omega arith)
digits-enough (suc f) (suc g) n h k = cases (ltb n 10) refl (λ m u v. digits-enough f g m u v)
  where
    cases : (t : Bool) → ltb n 10 ≡ t → ((m : ℕ) → m < f → m < g → digits f m ≡ digits g m) → digits (suc f) n ≡ digits (suc g) n
    cases true e r = rw e
    cases false e r =
        let big : 10 ≤ n = ltb-false n 10 e in
        rw e (ap (λ (l : List ℕ). l ++ (digit (n % 10) ∷ [])) (r (n / 10) (omega arith) (omega arith)))

decimal_digit : (n : ℕ) → n < 10 → decimal n ≡ digit n ∷ []
unfolding digits decimal
decimal_digit n h = rw (lt-ltb n 10 h)

decimal-more : (n : ℕ) → 10 ≤ n → decimal n ≡ decimal (n / 10) ++ (digit (n % 10) ∷ [])
unfolding digits decimal
decimal-more n h = rw (le-ltb n 10 h) (ap (λ (l : List ℕ). l ++ (digit (n % 10) ∷ [])) (digits-enough n (suc (n / 10)) (n / 10) (omega arith) (omega arith)))

-- a number written: its one digit, or those before its last and then that
module _ (p : Buffer) (n : ℕ) where
  pub decimal-one : {q : Buffer} {d : ℕ} → n < 10 → d ≡ digit n → q ≡ put_on p d → q ≡ write_on p (decimal n)
  decimal-one h e f = rw (decimal_digit n h, write-one) (f ∙ ap (put_on p) e)

  pub decimal_on : {q r : Buffer} {d : ℕ} → 10 ≤ n → q ≡ write_on p (decimal (n / 10)) → d ≡ digit (n % 10) → r ≡ put_on q d → r ≡ write_on p (decimal n)
  decimal_on {q} h e g f = rw (decimal-more n h) (wrote_then p (decimal (n / 10)) (digit (n % 10) ∷ []) e (f ∙ ap (put_on q) g ∙ sym (write-one q (digit (n % 10)))))

-- bytes written in printed order: the last of those stored comes first
module _ (p : Buffer) (l : List ℕ) where
  pub printed-start : (n : ℕ) → length l ≡ n → write_on p (printed l) ≡ write_on p (printed (take n l))
  printed-start n h = rw (take_all n l (omega arith))

  pub printed_on : (i j : ℕ) {q r : Buffer} {b d e : ℕ} → i ≡ j + 1 → j < length l → b ≡ get_or l j 0 → d ≡ digit (b / 16) → q ≡ put_on p d → e ≡ digit (b % 16) → r ≡ put_on q e
      → write_on p (printed (take i l)) ≡ write_on r (printed (take j l))
  unfolding printed hex write_on
  printed_on i j hi h hb hd hq he hr =
      rw (hi, add-one, take-suc l j 0, reverse-append (take j l) (get_or l j 0 ∷ [])) (ap (λ (x : Buffer). write_on x (printed (take j l))) (sym (hr ∙ rw (hq, hd, he, hb))))

  pub printed-end : (i : ℕ) → i ≤ 0 → write_on p (printed (take i l)) ≡ p
  unfolding printed hex write_on
  printed-end zero h = refl
  printed-end (suc i) h = absurd (omega arith)
