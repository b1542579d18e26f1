-- Laws of the walk over what was read.
use mathlib.Core.Path.{◌≡◌, sym, ap, ◌∙◌}
use mathlib.Core.List.{List, [], ◌++◌}
use Prim.Native.Nat.{ℕ, zero, suc, ◌+◌, ◌-◌, ◌^◌, ◌<◌, ◌≤◌}
use lib.ListN.{length}
use native.Mathlib.Omega.{arith}
use native.Mathlib.Nat.{sub-zero}
use Rattle.format.specs.declared.leaf.Leaf.{Leaf}
use Rattle.format.specs.declared.level.Layout.{Layout}
use Rattle.format.specs.Parse.{many, times, ok, fault}
use Rattle.format.proofs.ParseLaws.{many-told}
use Rattle.format.specs.Field.{varint}
use Rattle.format.specs.Level.{level_of_turn, level_in_turn, next_turn}
use Rattle.path.specs.Unchecked.{unchecked_leaf, unchecked_level}
use Rattle.path.proofs.SearchLaws.{level-walk}
use Rattle.encoding.specs.Buffer.{Buffer, write_on}
use Rattle.encoding.proofs.BufferLaws.{write-none, write_then}
use Rattle.listing.specs.Listing.{leaf_line, leaf_lines, level_line, level_lines}
use Rattle.listing.specs.Walk.{Walk, walk, walk_leaves, walk_level, walk_levels}
use Rattle.path.proofs.UncheckedLaws.{level_unchecked}

module _ (s : List ℕ) where
  -- a loop over n leaves that has passed i of them
  pub leaves-start : (n at : ℕ) (p : Buffer) → walk_leaves s n at p ≡ walk_leaves s (n - 0) at p
  leaves-start n at p = rw (sub-zero n)

  pub leaves-more : (n i at : ℕ) (p : Buffer) {leaf : Leaf} {q : ℕ} {p' : Buffer} → i < n → unchecked_leaf Layout.Bump s at ≡ ok leaf q → p' ≡ write_on p (leaf_line s leaf)
      → walk_leaves s (n - i) at p ≡ walk_leaves s (n - (i + 1)) q p'
  unfolding walk_leaves
  leaves-more n i at p h e f =
      let one : n - i ≡ suc (n - (i + 1)) = omega arith in
      rw (one, e, f)

  pub leaves-refused : (n i at : ℕ) (p : Buffer) {k q : ℕ} → i < n → unchecked_leaf Layout.Bump s at ≡ fault k q → walk_leaves s (n - i) at p ≡ walk p at
  unfolding walk_leaves
  leaves-refused n i at p h e =
      let one : n - i ≡ suc (n - (i + 1)) = omega arith in
      rw (one, e)

  pub leaves-done : (n i at : ℕ) (p : Buffer) → n ≤ i → walk_leaves s (n - i) at p ≡ walk p at
  unfolding walk_leaves
  leaves-done n i at p h =
      let none : n - i ≡ 0 = omega arith in
      rw none

  -- a loop over n levels that has passed i of them
  pub levels-start : (n at : ℕ) (p : Buffer) → walk_levels s n 0 at p ≡ walk_levels s (n - 0) 0 at p
  levels-start n at p = rw (sub-zero n)

  pub levels-more : (n i at : ℕ) (p : Buffer) {q : ℕ} {p' : Buffer} → i < n → walk p' q ≡ walk_level s i at p → walk_levels s (n - i) i at p ≡ walk_levels s (n - (i + 1)) (i + 1) q p'
  unfolding walk_levels
  levels-more n i at p h f =
      let one : n - i ≡ suc (n - (i + 1)) = omega arith in
      rw one (ap (λ (w : Walk). walk_levels s (n - (i + 1)) (i + 1) w.next w.buffer) (sym f))

  pub levels-done : (n i at : ℕ) (p : Buffer) → n ≤ i → walk_levels s (n - i) i at p ≡ walk p at
  unfolding walk_levels
  levels-done n i at p h =
      let none : n - i ≡ 0 = omega arith in
      rw none

  -- a level, by its count
  pub level-refused : (level at : ℕ) (p : Buffer) {k q : ℕ} → varint s at ≡ fault k q → walk_level s level at p ≡ walk p at
  unfolding walk_level
  level-refused level at p e = rw e

  pub level-counted : (level at : ℕ) (p : Buffer) {n q : ℕ} {p' : Buffer} → varint s at ≡ ok n q → p' ≡ write_on p (level_line level n) → walk_level s level at p ≡ walk_leaves s n q p'
  unfolding walk_level
  level-counted level at p e f = rw (e, f)

  -- what was read is walked whole
  leaves-walked : (n at : ℕ) (p : Buffer) {l : List Leaf} {q : ℕ} → times (unchecked_leaf Layout.Bump) n s at ≡ ok l q → walk_leaves s n at p ≡ walk (write_on p (leaf_lines s l)) q
  unfolding walk_leaves leaf_lines many
  leaves-walked zero at p {l} {q} e =
      let el : [] ≡ l = cc in
      let eq : at ≡ q = cc in
      rw (← el, ← eq, write-none p)
  leaves-walked (suc n) at p {l} {q} e =
      let x = many-told (λ _. unchecked_leaf Layout.Bump) (λ u _. u) n tt s at e in
      rw x.3 (leaves-walked n x.1 (write_on p (leaf_line s x.0)) x.4
      ∙ ap (λ (w : Buffer). walk w q) (sym (write_then p (leaf_line s x.0) (leaf_lines s x.2)) ∙ ap (λ (m : List Leaf). write_on p (leaf_lines s m)) x.5))

  level-walked : (level at : ℕ) (p : Buffer) {l : List Leaf} {q : ℕ} → unchecked_level Layout.Bump s at ≡ ok l q → walk_level s level at p ≡ walk (write_on p (level_line level (length l) ++ leaf_lines s l)) q
  unfolding walk_level
  level-walked level at p {l} {q} e =
      let x = level-walk Layout.Bump s at e in
      rw x.1 (leaves-walked (length l) x.0 (write_on p (level_line level (length l))) x.2
      ∙ ap (λ (w : Buffer). walk w q) (sym (write_then p (level_line level (length l)) (leaf_lines s l))))

  pub levels-walked : (h n level at : ℕ) (p : Buffer) {ls : List (List Leaf)} {q : ℕ} → many (level_in_turn Layout.Bump h) next_turn n level s at ≡ ok ls q
      → walk_levels s n level at p ≡ walk (write_on p (level_lines s level ls)) q
  unfolding walk_levels level_lines many level_of_turn
  levels-walked h zero level at p {ls} {q} e =
      let el : [] ≡ ls = cc in
      let eq : at ≡ q = cc in
      rw (← el, ← eq, write-none p)
  levels-walked h (suc n) level at p {ls} {q} e =
      let x = many-told (level_in_turn Layout.Bump h) next_turn n level s at e in
      let one = level-walked level at p (level_unchecked Layout.Bump (2 ^ (h - level)) level s at x.3) in
      ap (λ (w : Walk). walk_levels s n (level + 1) w.next w.buffer) one
      ∙ levels-walked h n (level + 1) x.1 (write_on p (level_line level (length x.0) ++ leaf_lines s x.0)) x.4
      ∙ ap (λ (w : Buffer). walk w q) (sym (write_then p (level_line level (length x.0) ++ leaf_lines s x.0) (level_lines s (level + 1) x.2)) ∙ ap (λ (m : List (List Leaf)). write_on p (level_lines s level m)) x.5)
