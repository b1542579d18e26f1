-- The list is empty exactly when block height, tree height and, level by level, the leaves are equal up to their order.
use mathlib.Core.Path.{◌≡◌, refl, ap, sym, ◌∙◌}
use mathlib.Core.List.{[]}
use mathlib.Core.Bool.{Bool, true, false, not, false≢true}
use Prim.Native.Nat.{ℕ, zero, suc, ◌^◌}
use lib.Dec.{eqb}
use native.Mathlib.Omega.{arith}
use borrow.Author.Tests.{eqb-true, eq-eqb}
use Rattle.format.proofs.BytesLaws.{same_eq, same_refl}
use Rattle.format.specs.Parse.{pick}
use Rattle.encoding.specs.BumpBytes.{Carried, plain, copy, client, Content}
use Rattle.difference.specs.Differences.{Side, first, second, both, Difference, block, height, leaf, equal, Told, alike, differ, told, tell, offsets_from, levels_from, unless, higher, differences}
use Rattle.levels.specs.Standing.{Standing, stands, nothing, standing}
use Rattle.difference.proofs.Once.{count, one, differs, is_told, same_side, once}
use Rattle.levels.proofs.Within.{Within}

no_bool : {A : Type 0} → false ≡ true → A
no_bool e = absurd (false≢true e)

pub equal_eq : (c d : Carried) → equal c d ≡ true → c ≡ d
unfolding equal
equal_eq (plain h) (plain i) e = ap plain (same_eq h i e)
equal_eq (plain h) copy e = no_bool e
equal_eq (plain h) (client i) e = no_bool e
equal_eq copy (plain i) e = no_bool e
equal_eq copy copy e = refl
equal_eq copy (client i) e = no_bool e
equal_eq (client h) (plain i) e = no_bool e
equal_eq (client h) copy e = no_bool e
equal_eq (client h) (client i) e = ap client (same_eq h i e)

pub equal-refl : (c : Carried) → equal c c ≡ true
unfolding equal
equal-refl (plain h) = same_refl h
equal-refl copy = refl
equal-refl (client h) = same_refl h

-- nothing is told of equal places, and of no others
pub told_eq : (c d : Standing) → ((s : Side) → is_told s (told c d) ≡ false) → c ≡ d
unfolding told is_told same_side
told_eq nothing nothing f = refl
told_eq (stands c) nothing f = no_bool (sym (f first))
told_eq nothing (stands d) f = no_bool (sym (f second))
told_eq (stands c) (stands d) f = go (equal c d) refl f
  where
    go : (b : Bool) → equal c d ≡ b → ((s : Side) → is_told s (pick b alike (differ both)) ≡ false) → stands c ≡ stands d
    go true e g = ap stands (equal_eq c d e)
    go false e g = no_bool (sym (g both))

pub told_same : (c : Standing) → told c c ≡ alike
unfolding told
told_same nothing = refl
told_same (stands c) = rw (equal-refl c)

one_none : (b : Bool) → 0 ≡ one b → b ≡ false
unfolding one
one_none true e = absurd (omega arith)
one_none false e = refl

module _ (x y : Content) where
  -- what is equal of two BUMPs with no difference
  pub record Alike : Type 0 where
    pub blocks : x.block ≡ y.block
    pub heights : x.height ≡ y.height
    pub places : (k o : ℕ) → standing x k o ≡ standing y k o

  not-false_eq : (a b : ℕ) → not (eqb a b) ≡ false → a ≡ b
  not-false_eq a b e = go (eqb a b) refl e
    where
      go : (c : Bool) → eqb a b ≡ c → not c ≡ false → a ≡ b
      go true f g = eqb-true a b f
      go false f g = no_bool (sym g)

  pub none_alike : Within x → Within y → differences x y ≡ [] → Alike
  unfolding differs count
  none_alike wx wy e =
      record {
        blocks = not-false_eq x.block y.block (no block);
        heights = not-false_eq x.height y.height (no height);
        places = λ k o. told_eq (standing x k o) (standing y k o) (λ s. no (leaf k o s));
      }
    where
      no : (d : Difference) → differs x y d ≡ false
      no d = one_none (differs x y d) (sym (ap (count d) e) ∙ once x y wx wy d)

  module _ (a : Alike) where
    offsets_none : (k n o : ℕ) → offsets_from k (standing x k) (standing y k) n o ≡ []
    unfolding offsets_from tell
    offsets_none k zero o = refl
    offsets_none k (suc n) o =
        ap (λ (c : Standing). tell k o (told (standing x k o) c) (offsets_from k (standing x k) (standing y k) n (suc o))) (sym (a.places k o))
        ∙ ap (λ (t : Told). tell k o t (offsets_from k (standing x k) (standing y k) n (suc o))) (told_same (standing x k o))
        ∙ offsets_none k n (suc o)

    levels-none : (n k : ℕ) → levels_from x y n k ≡ []
    unfolding levels_from
    levels-none zero k = refl
    levels-none (suc n) k = rw (offsets_none k (2 ^ suc n) 0) (levels-none n (suc k))

    pub alike-none : differences x y ≡ []
    unfolding differences unless
    alike-none = rw (eq-eqb x.block y.block a.blocks, eq-eqb x.height y.height a.heights) (levels-none (higher x.height y.height) 0)
