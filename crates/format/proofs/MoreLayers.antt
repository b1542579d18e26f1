-- What is accepted with fewer layers is accepted with more, and is the same (02, Item 8: "accepted proofs keep their answers"). Today's limit is MAX_HEIGHT.
use mathlib.Core.Path.{◌≡◌}
use mathlib.Core.Bool.{Bool, true, false, ◌&&◌}
use mathlib.Core.List.{List, reverse}
use Prim.Native.Nat.{ℕ, ◌+◌, ◌≤◌}
use lib.ListN.{length}
use lib.Dec.{ltb, leb}
use native.Mathlib.Omega.{arith}
use borrow.Author.Tests.{le-leb, leb-true}
use Rattle.format.specs.declared.level.Layout.{Layout}
use Rattle.format.proofs.Basics.{and-true}
use Rattle.format.specs.Parse.{Reader, pick, pure, here, ◌>>=◌, ◌passing◌else◌, require, times, ended, whole, ok, fault}
use Rattle.format.proofs.ParseLaws.{passing_told, onward-told, many_unchecked}
use Rattle.format.specs.Field.{byte, varint}
use Rattle.format.specs.Level.{level_fields}
use Rattle.format.specs.Bump.{Bump, block_field, height_up_to, bump_up_to}
use Rattle.format.specs.Cmp.{Cmp, top_up_to, cmp_up_to}
use Rattle.format.specs.Node.{node_field}
use Rattle.format.specs.Tsc.{Tsc, flags_field, subject_field, target_field, index_fits, node_count_up_to, nodes_up_to, tsc_up_to}
use Rattle.format.specs.Beef.{Beef, version_field, bump_count_field, bumps_up_to, entries_field, beef_up_to}
use Rattle.format.specs.Refusals.{TOO_LONG, EXTRA, BAD_HEIGHT, OVER_LIMIT, BAD_OFFSET, MAX_INPUT}

-- what one reader reads the other reads, too, to the same end
abbrev pub ExtendedBy : {A : Type 0} → Reader A → Reader A → Type 0
ExtendedBy {A} p q = (s : List ℕ) (at : ℕ) (a : A) (end : ℕ) → p s at ≡ ok a end → q s at ≡ ok a end

same : {A : Type 0} (p : Reader A) → ExtendedBy p p
same p s at a end e = e

and_then : {A B : Type 0} {p q : Reader A} {f g : A → Reader B} → ExtendedBy p q → ((a : A) → ExtendedBy (f a) (g a)) → ExtendedBy (p >>= f) (q >>= g)
and_then {p = p} {f = f} k l s at b end e =
    let x = onward-told (p s at) (λ a next. f a s next) e in
    rw (k s at x.0 x.1 x.2) (l x.0 s x.1 b end x.3)

fewer : {A : Type 0} (p : Reader A) (t u : A → Bool) (n : ℕ) → ((a : A) → t a ≡ true → u a ≡ true) → ExtendedBy (p passing t else n) (p passing u else n)
fewer p t u n h s at a end e =
    let x = passing_told p t n s at e in
    simp (x.0, h a x.1)

input : {A : Type 0} {p q : Reader A} → ExtendedBy p q → (s : List ℕ) (a : A) (end : ℕ) → whole p s ≡ ok a end → whole q s ≡ ok a end
unfolding whole
input {A} {p} {q} k s a end e = go (leb (length s) MAX_INPUT) e
  where
    go : (t : Bool) → pick t (ended p s 0) (fault TOO_LONG 0) ≡ ok a end → pick t (ended q s 0) (fault TOO_LONG 0) ≡ ok a end
    go true m = let x = onward-told (p s 0) (λ b next. pick (ltb next (length s)) (fault EXTRA next) (ok b next)) m in rw (k s 0 x.0 x.1 x.2) x.3
    go false m = m

module _ (most more : ℕ) (low : most ≤ more) where
  height-kept : ExtendedBy (height_up_to most) (height_up_to more)
  unfolding height_up_to
  height-kept =
      fewer byte (λ h. leb 1 h && leb h most) (λ h. leb 1 h && leb h more) BAD_HEIGHT
      (λ h e. let x = and-true (leb 1 h) (leb h most) e in rw x.0 (le-leb h more (let y = leb-true h most x.1 in omega arith)))

  bump-kept : ExtendedBy (bump_up_to most) (bump_up_to more)
  unfolding bump_up_to
  bump-kept =
      and_then (same block_field)
      (λ block. and_then height-kept
      (λ height. same (here >>= (λ start. level_fields Layout.Bump height >>= (λ levels. pure (record { block = block; height = height; start = start; levels = levels }))))))

  cmp-kept : ExtendedBy (cmp_up_to most) (cmp_up_to more)
  unfolding cmp_up_to top_up_to
  cmp-kept =
      and_then (fewer byte (λ m. leb (m + 1) most) (λ m. leb (m + 1) more) BAD_HEIGHT (λ m e. le-leb (m + 1) more (let y = leb-true (m + 1) most e in omega arith)))
      (λ m. same (here >>= (λ start. level_fields Layout.Cmp (m + 1) >>= (λ levels. pure (record { height = m + 1; start = start; levels = reverse levels })))))

  nodes-kept : (index index_at : ℕ) → ExtendedBy (nodes_up_to most index index_at) (nodes_up_to more index index_at)
  unfolding nodes_up_to node_count_up_to
  nodes-kept index index_at =
      and_then (fewer varint (λ n. leb n most) (λ n. leb n more) OVER_LIMIT (λ n e. le-leb n more (let y = leb-true n most e in omega arith)))
      (λ count. same (require (index_fits index count) BAD_OFFSET index_at >>= (λ _. here >>= (λ at. times node_field count >>= (λ nodes. pure (record { at = at; items = nodes }))))))

  tsc-kept : ExtendedBy (tsc_up_to most) (tsc_up_to more)
  unfolding tsc_up_to
  tsc-kept =
      and_then (same flags_field)
      (λ flags. and_then (same here)
      (λ index_at. and_then (same varint)
      (λ index. and_then (same (subject_field flags))
      (λ subject. and_then (same (target_field flags))
      (λ target. and_then (nodes-kept index index_at)
      (λ nodes. same (pure (record { flags = flags; index = index; subject = subject; target = target; nodes_at = nodes.at; nodes = nodes.items }))))))))

  beef-kept : (room : ℕ) → ExtendedBy (beef_up_to most room) (beef_up_to more room)
  unfolding beef_up_to bumps_up_to
  beef-kept room =
      and_then (same version_field)
      (λ _. and_then (and_then (same bump_count_field) (λ count s at l end e. many_unchecked {S = Unit {0}} {S' = Unit {0}} (λ _. bump_up_to most) (λ u _. u) (λ _. bump_up_to more) (λ u _. u) s (λ _ _ at a q. bump-kept s at a q) count tt tt at e))
      (λ bumps. same (entries_field (length bumps) room >>= (λ entries. pure (record { bumps = bumps; entries = entries })))))

  -- an input that was accepted with fewer layers
  module _ (s : List ℕ) (end : ℕ) where
    pub bump_stays : (b : Bump) → whole (bump_up_to most) s ≡ ok b end → whole (bump_up_to more) s ≡ ok b end
    bump_stays b = input bump-kept s b end

    pub cmp_stays : (c : Cmp) → whole (cmp_up_to most) s ≡ ok c end → whole (cmp_up_to more) s ≡ ok c end
    cmp_stays c = input cmp-kept s c end

    pub tsc_stays : (t : Tsc) → whole (tsc_up_to most) s ≡ ok t end → whole (tsc_up_to more) s ≡ ok t end
    tsc_stays t = input tsc-kept s t end

    pub beef_stays : (room : ℕ) (b : Beef) → whole (beef_up_to most room) s ≡ ok b end → whole (beef_up_to more room) s ≡ ok b end
    beef_stays room b = input (beef-kept room) s b end
