-- Laws of the loops over all levels.
use mathlib.Core.Path.{◌≡◌, refl, ap, sym, ◌∙◌}
use mathlib.Core.List.{List, [], ◌∷◌}
use mathlib.Core.Bool.{Bool, true, false, not, ◌||◌}
use Prim.Native.Nat.{ℕ, ◌+◌, ◌-◌, ◌<◌, ◌≤◌}
use lib.ListN.{length, length-append}
use lib.Dec.{leb, ltb}
use native.Mathlib.Omega.{arith}
use borrow.Author.Tests.{le-leb, lt-leb, ltb-true, ltb-false}
use Rattle.format.proofs.Basics.{one_less}
use Rattle.encoding.specs.Digits.{varint_bytes}
use Rattle.encoding.specs.Encode.{encode_all}
use Rattle.encoding.specs.Buffer.{Buffer, write_on}
use Rattle.encoding.proofs.BufferLaws.{write_then, wrote_then}
use Rattle.encoding.specs.BumpBytes.{entry_bytes}
use Rattle.format.specs.Refusals.{MAX_LEAVES}
use Rattle.levels.specs.Standing.{nothing}
use Rattle.levels.specs.Places.{entries}
use Rattle.merging.specs.declared.joining.Tally.{Tally}
use Rattle.merging.specs.declared.uniting.LevelTally.{LevelTally}
use Rattle.merging.specs.Merging.{Spot, clashes, kept_of, any_of, over_limit}
use Rattle.levels.specs.Ordered.{ordered_in, next_in}
use Rattle.merging.specs.Walk.{walk_spots, tally_of}
use Rattle.merging.specs.Levels.{walk_levels, level_text, total_of, tally_all, Added}

or_assoc : (a b c : Bool) → ((a || b) || c) ≡ (a || (b || c))
or_assoc true b c = refl
or_assoc false b c = refl

or-false : (b : Bool) → (b || false) ≡ b
or-false true = refl
or-false false = refl

-- a tally so far, and what is left
pub record Summing (r : Tally) (ls whole : List (List Spot)) : Type 0 where
  pub overs : (r.over || any_of over_limit ls) ≡ any_of over_limit whole
  pub calm : (r.clash || any_of clashes ls) ≡ any_of clashes whole
  pub sizes : r.bytes + length (encode_all level_text ls) ≡ length (encode_all level_text whole)
  pub counts : r.leaves + total_of ls ≡ total_of whole

pub sum-start : (ls : List (List Spot)) → Summing (record { over = false; clash = false; bytes = 0; leaves = 0 }) ls ls
sum-start ls = record { overs = refl; calm = refl; sizes = omega arith; counts = omega arith }

pub added_size : (l : List Spot) {a : ℕ} → a ≡ length (varint_bytes (length l)) → a + length (encode_all entry_bytes (kept_of l)) ≡ length (level_text l)
unfolding level_text
added_size l e = let h = length-append (varint_bytes (length l)) (encode_all entry_bytes (kept_of l)) in omega (arith, e, h)

pub sum_on : (r r' : Tally) (l : List Spot) (ls m whole : List (List Spot)) → Summing r m whole → m ≡ l ∷ ls → Added r l r' → Summing r' ls whole
unfolding Added any_of total_of encode_all
sum_on r r' l ls m whole t e a =
    let u = t.sizes in
    let v = t.counts in
    let w = ap (λ (z : List (List Spot)). length (encode_all level_text z)) e in
    let x = ap total_of e in
    let y = length-append (level_text l) (encode_all level_text ls) in
    let b = a.2 in
    let c = a.3 in
    record {
      overs = ap (λ (z : Bool). z || any_of over_limit ls) a.0 ∙ or_assoc r.over (over_limit l) (any_of over_limit ls) ∙ ap (λ (z : List (List Spot)). r.over || any_of over_limit z) (sym e) ∙ t.overs;
      calm = ap (λ (z : Bool). z || any_of clashes ls) a.1 ∙ or_assoc r.clash (clashes l) (any_of clashes ls) ∙ ap (λ (z : List (List Spot)). r.clash || any_of clashes z) (sym e) ∙ t.calm;
      sizes = omega (arith, u, w, y, b);
      counts = omega (arith, v, x, c);
    }

pub sum-end : (r : Tally) (ls whole : List (List Spot)) → Summing r ls whole → ls ≡ [] → r ≡ tally_all whole
unfolding tally_all any_of total_of encode_all
sum-end r ls whole t e =
    let u = t.sizes in
    let v = t.counts in
    let w = ap (λ (z : List (List Spot)). length (encode_all level_text z)) e in
    let x = ap total_of e in
    let a : r.over ≡ any_of over_limit whole = sym (or-false r.over) ∙ ap (λ (z : List (List Spot)). r.over || any_of over_limit z) (sym e) ∙ t.overs in
    let b : r.clash ≡ any_of clashes whole = sym (or-false r.clash) ∙ ap (λ (z : List (List Spot)). r.clash || any_of clashes z) (sym e) ∙ t.calm in
    let c : r.bytes ≡ length (encode_all level_text whole) = omega (arith, u, w) in
    let d : r.leaves ≡ total_of whole = omega (arith, v, x) in
    made a b c d
  where
    made : r.over ≡ any_of over_limit whole → r.clash ≡ any_of clashes whole → r.bytes ≡ length (encode_all level_text whole) → r.leaves ≡ total_of whole
        → r ≡ record { over = any_of over_limit whole; clash = any_of clashes whole; bytes = length (encode_all level_text whole); leaves = total_of whole }
    made a b c d = rw (← a, ← b, ← c, ← d) refl

-- ---- levels one after the other

module _ (s t : List ℕ) (h k p q : ℕ) where
  pub levels-end : h ≤ k → walk_levels s t (h - k) p q ≡ []
  unfolding walk_levels
  levels-end g = let e : h - k ≡ 0 = omega arith in rw e

  pub levels_on : {x y : List ℕ} {p' q' rx ry : ℕ} → k < h → rx ≡ 1024 → ry ≡ 1024 → x ≡ ordered_in rx s p → p' ≡ next_in rx s p → y ≡ ordered_in ry t q → q' ≡ next_in ry t q
      → walk_levels s t (h - k) p q ≡ walk_spots 2048 0 nothing nothing (entries s x) (entries t y) ∷ walk_levels s t (h - (k + 1)) p' q'
  unfolding walk_levels
  levels_on {x} {y} {p'} {q'} {rx} {ry} g a b c d e f =
      ap (λ (n : ℕ). walk_levels s t n p q) (one_less h k g)
      ∙ ap (λ (v : List ℕ). walk_spots 2048 0 nothing nothing (entries s v) (entries t (ordered_in 1024 t q)) ∷ walk_levels s t (h - (k + 1)) (next_in 1024 s p) (next_in 1024 t q)) (sym (c ∙ ap (λ (r : ℕ). ordered_in r s p) a))
      ∙ ap (λ (v : List ℕ). walk_spots 2048 0 nothing nothing (entries s x) (entries t v) ∷ walk_levels s t (h - (k + 1)) (next_in 1024 s p) (next_in 1024 t q)) (sym (e ∙ ap (λ (r : ℕ). ordered_in r t q) b))
      ∙ ap (λ (v : ℕ). walk_spots 2048 0 nothing nothing (entries s x) (entries t y) ∷ walk_levels s t (h - (k + 1)) v (next_in 1024 t q)) (sym (d ∙ ap (λ (r : ℕ). next_in r s p) a))
      ∙ ap (λ (v : ℕ). walk_spots 2048 0 nothing nothing (entries s x) (entries t y) ∷ walk_levels s t (h - (k + 1)) p' v) (sym (f ∙ ap (λ (r : ℕ). next_in r t q) b))

-- a level is written
pub wrote_level : (b : Buffer) (l : List Spot) {c d : Buffer} {n : ℕ} → n ≡ length l → c ≡ write_on b (varint_bytes n) → d ≡ write_on c (encode_all entry_bytes (kept_of l)) → d ≡ write_on b (level_text l)
unfolding level_text
wrote_level b l f e g = wrote_then b (varint_bytes (length l)) (encode_all entry_bytes (kept_of l)) (e ∙ ap (λ (m : ℕ). write_on b (varint_bytes m)) f) g

pub write-level : (b : Buffer) (l : List Spot) (ls : List (List Spot)) {d : Buffer} → d ≡ write_on b (level_text l) → write_on b (encode_all level_text (l ∷ ls)) ≡ write_on d (encode_all level_text ls)
unfolding encode_all
write-level b l ls e = write_then b (level_text l) (encode_all level_text ls) ∙ ap (λ (v : Buffer). write_on v (encode_all level_text ls)) (sym e)

pub tally_counts : (r : LevelTally) (l : List Spot) → r ≡ tally_of l → r.count ≡ length l
unfolding tally_of
tally_counts r l e = ap (λ (z : LevelTally). z.count) e

pub tally_sizes : (r : LevelTally) (l : List Spot) → r ≡ tally_of l → r.bytes ≡ length (encode_all entry_bytes (kept_of l))
unfolding tally_of
tally_sizes r l e = ap (λ (z : LevelTally). z.bytes) e

pub tally_clashes : (r : LevelTally) (l : List Spot) → r ≡ tally_of l → r.clash ≡ clashes l
unfolding tally_of
tally_clashes r l e = ap (λ (z : LevelTally). z.clash) e

pub over_test : (n : ℕ) (l : List Spot) → n ≡ length l → ltb 1024 n ≡ over_limit l
unfolding over_limit
over_test n l e = go (ltb 1024 n) refl
  where
    go : (b : Bool) → ltb 1024 n ≡ b → b ≡ not (leb (length l) MAX_LEAVES)
    go true f = let h = ltb-true 1024 n f in rw (lt-leb (length l) MAX_LEAVES (omega (arith, h, e))) refl
    go false f = let h = ltb-false 1024 n f in rw (le-leb (length l) MAX_LEAVES (omega (arith, h, e))) refl

pub write-levels-end : (b : Buffer) → write_on b (encode_all level_text []) ≡ b
unfolding encode_all write_on
write-levels-end b = refl
