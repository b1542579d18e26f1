-- Laws of what is looked up in one path, and in two between them.
use Rattle.std.proofs.Common.{◌≡◌, ℕ, ◌<◌, ◌≤◌, Bool, true, false, ltb, List, length, sym, refl, ap, ◌∙◌, ap₂, arith, le-ltb, lt-ltb}
use mathlib.Core.Path.{fun_ext}
use mathlib.Core.Bool.{false≢true}
use Rattle.format.specs.Parse.{pick}
use Rattle.format.specs.declared.level.Layout.{Layout}
use Rattle.spv.specs.Climb.{Sibling, value, copied, absent}
use Rattle.spv.specs.Siblings.{written_by, find_at}
use Rattle.spv.specs.Values.{has_value}
use Rattle.climbs.specs.LookUp.{prefer, looked_up}

pub prefer-value : (v w : Sibling) (h : List ℕ) → v ≡ value h → v ≡ prefer v w
unfolding prefer
prefer-value v w h e = rw e refl

pub prefer-absent : (v w : Sibling) → v ≡ absent → w ≡ prefer v w
unfolding prefer
prefer-absent v w e = rw e refl

pub prefer-hash : (v w : Sibling) → v ≡ copied → has_value w ≡ true → w ≡ prefer v w
unfolding prefer has_value
prefer-hash v (value h) e f = rw e refl
prefer-hash v copied e f = absurd (false≢true f)
prefer-hash v absent e f = absurd (false≢true f)

pub prefer-copy : (v w : Sibling) → v ≡ copied → has_value w ≡ false → v ≡ prefer v w
unfolding prefer has_value
prefer-copy v (value h) e f = absurd (false≢true (sym f))
prefer-copy v copied e f = rw e refl
prefer-copy v absent e f = rw e refl

prefer-none : (v : Sibling) → v ≡ prefer v absent
unfolding prefer
prefer-none (value h) = refl
prefer-none copied = refl
prefer-none absent = refl

prefer_had : (v w : Sibling) → has_value v ≡ true → v ≡ prefer v w
unfolding prefer has_value
prefer_had (value h) w e = refl
prefer_had copied w e = absurd (false≢true e)
prefer_had absent w e = absurd (false≢true e)

module _ (s x t y : List ℕ) (k q : ℕ) (a : Sibling) (e : a ≡ written_by s (find_at Layout.Bump s x) k q) where
  pub looked_alone : length y ≤ k → a ≡ looked_up s x t y k q
  unfolding looked_up
  looked_alone b =
      prefer-none a
      ∙ ap₂ prefer e (sym (ap (λ (z : Bool). pick z (written_by t (find_at Layout.Bump t y) k q) absent) (le-ltb k (length y) b)))

  pub looked_first : has_value a ≡ true → a ≡ looked_up s x t y k q
  unfolding looked_up
  looked_first v =
      prefer_had a (pick (ltb k (length y)) (written_by t (find_at Layout.Bump t y) k q) absent) v
      ∙ ap (λ (z : Sibling). prefer z (pick (ltb k (length y)) (written_by t (find_at Layout.Bump t y) k q) absent)) e

  pub looked_both : (b : Sibling) → b ≡ written_by t (find_at Layout.Bump t y) k q → k < length y → prefer a b ≡ looked_up s x t y k q
  unfolding looked_up
  looked_both b f l =
      ap₂ prefer e (f ∙ sym (ap (λ (z : Bool). pick z (written_by t (find_at Layout.Bump t y) k q) absent) (lt-ltb k (length y) l)))

-- without places of a second path the first alone counts
pub one_path : (s x t y : List ℕ) → length y ≡ 0 → looked_up s x t y ≡ written_by s (find_at Layout.Bump s x)
one_path s x t y e = fun_ext (λ k. fun_ext (λ q. sym (looked_alone s x t y k q (written_by s (find_at Layout.Bump s x) k q) refl (omega arith))))
