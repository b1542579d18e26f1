-- Laws of leaves and levels.
use mathlib.Core.Path.{◌≡◌, refl, ap, sym, ◌∙◌}
use mathlib.Core.List.{List, [], ◌∷◌, ◌++◌, reverse, reverse-cons}
use mathlib.Core.Bool.{Bool, true, false, ◌||◌, or-false, or_assoc}
use Prim.Native.Nat.{ℕ, ◌+◌, ◌-◌, ◌*◌, ◌^◌, ◌%◌, ◌≤◌, ◌<◌}
use lib.ListN.{length, get_or, drop, drop_of_length-le}
use lib.Dec.{leb, eqb}
use native.Mathlib.Omega.{arith}
use lib.Seq.{drop-cons}
use native.Mathlib.Numerals.{add-one}
use native.Mathlib.Nat.{one-mul, mod-eq_of_lt, sub-zero, zero-add, add-zero}
use lib.Pow.{pow-add, pow-lt}
use borrow.Author.Tests.{le-ltb, lt-ltb, eq-eqb, ne_eqb, leb-true}
use Rattle.format.specs.declared.level.Layout.{Layout}
use Rattle.format.specs.declared.leaf.Leaf.{Leaf}
use Rattle.format.specs.declared.leaf.Kind.TheVariants.{Plain, Client}
use Rattle.format.specs.Parse.{Parse, pick, each, given, many, ◌passing◌else◌, ok, fault}
use Rattle.format.proofs.ParseLaws.{each_cong, each-ok, passing_told, onward-told, many-length, many-step, many-refused, many-done}
use Rattle.format.specs.Field.{bytes, varint}
use Rattle.format.specs.Level.{holds, offset_field, kind_field, leaf_field, and_offset, level_field, level_of_turn, level_in_turn, next_turn, level_fields, total}
use Rattle.format.specs.Refusals.{BAD_OFFSET, OVER_LIMIT, REPEATED, MAX_LEAVES}

module _ (x : ℕ) where
  pub holds-here : (l : List ℕ) (i : ℕ) → i < length l → x ≡ get_or l i 0 → holds x (drop i l) ≡ true
  unfolding holds
  holds-here l i h e = rw (drop-cons l i 0) (rw (eq-eqb _ _ e))

  pub holds_on : (l : List ℕ) (i : ℕ) → i < length l → (x ≡ get_or l i 0 → ⊥) → holds x (drop i l) ≡ holds x (drop (i + 1) l)
  unfolding holds
  holds_on l i h e = rw (add-one, drop-cons l i 0) (rw (ne_eqb _ _ e))

  pub holds-end : (l : List ℕ) (i : ℕ) → length l ≤ i → holds x (drop i l) ≡ false
  unfolding holds
  holds-end l i h = rw (drop_of_length-le l h)

  pub holds_snoc : (l : List ℕ) (y : ℕ) → holds x (l ++ (y ∷ [])) ≡ (holds x l || eqb x y)
  unfolding holds
  holds_snoc [] y = or-false _
  holds_snoc (z ∷ l) y = rw (holds_snoc l y) (sym (or_assoc (eqb x z) (holds x l) (eqb x y)))

module _ (limit : ℕ) (seen : List ℕ) (s : List ℕ) (at : ℕ) where
  pub offset-refused : {n q : ℕ} → varint s at ≡ fault n q → offset_field limit seen s at ≡ fault n q
  unfolding offset_field
  offset-refused e = rw e

  pub offset_outside : {o q : ℕ} → varint s at ≡ ok o q → limit ≤ o → offset_field limit seen s at ≡ fault BAD_OFFSET at
  unfolding offset_field
  offset_outside {o} e h = simp (e, le-ltb o limit h)

  pub offset-again : {o q : ℕ} → varint s at ≡ ok o q → o < limit → holds o seen ≡ true → offset_field limit seen s at ≡ fault REPEATED at
  unfolding offset_field
  offset-again {o} e h m = simp (e, lt-ltb o limit h, m)

  pub offset-fresh : {o q : ℕ} → varint s at ≡ ok o q → o < limit → holds o seen ≡ false → offset_field limit seen s at ≡ ok o q
  unfolding offset_field
  offset-fresh {o} e h m = simp (e, lt-ltb o limit h, m)

module _ (flag : ℕ) (s : List ℕ) (at : ℕ) where
  hashed : (b : Bool) {n q : ℕ} → bytes 32 s at ≡ fault n q → pick b (given Plain (bytes 32)) (given Client (bytes 32)) s at ≡ fault n q
  unfolding each
  hashed true e = rw e
  hashed false e = rw e

  pub kind_refused : {n q : ℕ} → (flag ≡ 1 → ⊥) → bytes 32 s at ≡ fault n q → kind_field flag s at ≡ fault n q
  unfolding each kind_field
  kind_refused h e = rw (ne_eqb _ _ h) (hashed (eqb flag 0) e)

-- a level has at most as many leaves as its limit
pub level-few : (layout : Layout) (limit level : ℕ) (s : List ℕ) (at : ℕ) {n q : ℕ} → each length (level_field layout limit level s at) ≡ ok n q → n ≤ MAX_LEAVES
unfolding level_field
level-few layout limit level s at e =
    let l = each-ok length (level_field layout limit level s at) e in
    let x = onward-told ((varint passing (λ n. leb n MAX_LEAVES) else OVER_LIMIT) s at) _ l.1 in
    let v = passing_told varint (λ n. leb n MAX_LEAVES) OVER_LIMIT s at x.2 in
    few x.0 (length l.0) _ (leb-true _ _ v.1) (many-length (leaf_field layout limit level) and_offset x.0 [] s x.1 x.3) l.2
  where
    few : (count len n : ℕ) → count ≤ MAX_LEAVES → len ≡ count → len ≡ n → n ≤ MAX_LEAVES
    few count len n h e f = omega arith

-- 2 ^ n in halves, so that 2 ^ 64 need not fit
pub halves : (n : ℕ) → 1 ≤ n → 2 ^ (n - 1) + 2 ^ (n - 1) ≡ 2 ^ n
halves n h =
    let e : n ≡ n - 1 + 1 = omega arith in
    let f : 2 ^ n ≡ 2 ^ (n - 1) * 2 ^ 1 = ap (λ (k : ℕ). 2 ^ k) e ∙ pow-add 2 (n - 1) 1 in
    omega arith

pub powered : (n : ℕ) → n < 64 → 1 * 2 ^ n % 18446744073709551616 ≡ 2 ^ n
powered n h = rw one-mul (mod-eq_of_lt (pow-lt {j = 64} h))

-- a level in turn is one of the tree's
pub turn-level-below : (layout : Layout) (height i : ℕ) → i < height → level_of_turn layout height i < height
unfolding level_of_turn
turn-level-below Layout.Bump height i h = h
turn-level-below Layout.Cmp height i h = omega arith

pub turn-level-one : (layout : Layout) (height a b : ℕ) → a < height → b < height → level_of_turn layout height a ≡ level_of_turn layout height b → a ≡ b
unfolding level_of_turn
turn-level-one Layout.Bump height a b g h e = e
turn-level-one Layout.Cmp height a b g h e = omega arith

pub turn_below : (layout : Layout) (height i level : ℕ) → level ≡ level_of_turn layout height i → i < height → level < height
turn_below layout height i level e h = rw e (turn-level-below layout height i h)

pub in_turn : (layout : Layout) (height i level greatest : ℕ) (s : List ℕ) (at : ℕ) → level ≡ level_of_turn layout height i → greatest + 1 ≡ 2 ^ (height - level)
    → each length (level_field layout (greatest + 1) level s at) ≡ each length (level_in_turn layout height i s at)
in_turn layout height i level greatest s at e f = rw (f, e)

-- what the levels from turn i on hold, beside `sum` leaves of those before
unfoldable pub summing : Layout → ℕ → List ℕ → ℕ → ℕ → ℕ → Parse ℕ
summing layout height s i sum at = each (λ l. sum + total l) (many (level_in_turn layout height) next_turn (height - i) i s at)

module _ (layout : Layout) (height : ℕ) (s : List ℕ) where
  pub sum-start : (at : ℕ) → each total (level_fields layout height s at) ≡ summing layout height s 0 0 at
  unfolding summing
  sum-start at = simp sub-zero (each_cong total (λ l. 0 + total l) (λ l. sym (zero-add (total l))) (level_fields layout height s at))

  pub sum_step : (i sum at : ℕ) {n q : ℕ} → i < height → each length (level_in_turn layout height i s at) ≡ ok n q
      → summing layout height s i sum at ≡ summing layout height s (i + 1) (sum + n) q
  unfolding summing total
  sum_step i sum at {n} {q} h e =
      let l = each-ok length (level_in_turn layout height i s at) e in
      many-step (level_in_turn layout height) next_turn s (λ ls. sum + total ls) (λ ls. sum + n + total ls) (height - i) (height - (i + 1)) i at (omega arith) l.1
      (λ ls. more l.0 ls n l.2)
    where
      more : (l : List Leaf) (ls : List (List Leaf)) (n : ℕ) → length l ≡ n → sum + total (l ∷ ls) ≡ sum + n + total ls
      more l ls n e = omega arith

  pub sum-refused : (i sum at : ℕ) {k q : ℕ} → i < height → level_in_turn layout height i s at ≡ fault k q → summing layout height s i sum at ≡ fault k q
  unfolding summing
  sum-refused i sum at h e = many-refused (level_in_turn layout height) next_turn s (λ ls. sum + total ls) (height - i) i at (omega arith) e

  pub sum_done : (i sum at : ℕ) → height ≤ i → summing layout height s i sum at ≡ ok sum at
  unfolding summing total
  sum_done i sum at h =
      many-done (level_in_turn layout height) next_turn s (λ ls. sum + total ls) (height - i) i at (omega arith) ∙ ap (λ (k : ℕ). ok k at) (add-zero sum)

pub total_snoc : (ls : List (List Leaf)) (l : List Leaf) → total (ls ++ (l ∷ [])) ≡ length l + total ls
unfolding total
total_snoc [] l = refl
total_snoc (m ∷ ls) l = let e = total_snoc ls l in omega arith

pub total-reverse : (ls : List (List Leaf)) → total (reverse ls) ≡ total ls
unfolding total
total-reverse [] = refl
total-reverse (l ∷ ls) = ap total (reverse-cons l ls) ∙ total_snoc (reverse ls) l ∙ ap (λ (n : ℕ). length l + n) (total-reverse ls)
