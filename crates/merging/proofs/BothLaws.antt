-- Laws of the check by what two paths have written between them.
use mathlib.Core.Path.{◌≡◌, refl, ap, ap₂, sym, ◌∙◌}
use mathlib.Core.List.{List}
use mathlib.Core.Bool.{true, false≢true}
use Prim.Native.Nat.{ℕ, zero, suc, ◌+◌, ◌≤◌}
use lib.ListN.{length, set, replicate, length-set, length-replicate}
use native.Mathlib.Omega.{arith}
use borrow.Author.Tests.{le-leb}
use Rattle.format.specs.declared.bump.BumpHead.{BumpHead}
use Rattle.format.specs.declared.level.Layout.{Layout}
use Rattle.format.specs.declared.leaf.Leaf.{Leaf}
use Rattle.format.proofs.BytesLaws.{same_refl}
use Rattle.format.specs.Parse.{Parse, ok, fault, otherwise}
use Rattle.format.specs.Level.{level_of_turn}
use Rattle.path.specs.declared.path.Path.{Path}
use Rattle.path.specs.Unchecked.{unchecked_level}
use Rattle.path.specs.Path.{LAYERS, layers_of, placing, bump_path_of}
use Rattle.path.proofs.SearchLaws.{level-walk}
use Rattle.spv.specs.Result.{Result, accepted, refused}
use Rattle.spv.specs.Climb.{Siblings}
use Rattle.spv.specs.Clients.{clients}
use Rattle.spv.specs.Prove.{bound}
use Rattle.spv.proofs.ClientsTheorems.{AllReach, Still, agreed-told, told-agreed}
use Rattle.climbs.specs.Reach.{is_accepted, level_reaches, both_reach}
use Rattle.climbs.proofs.ClientsLaws.{clients_in_lem}
use Rattle.climbs.proofs.ReachLaws.{levelled}
use Rattle.merging.specs.Merging.{has_root}
use Rattle.merging.specs.Both.{both_siblings}

pub root_is : (r : List ℕ) (v : Result (List ℕ)) → v ≡ accepted r → has_root r v ≡ true
unfolding has_root
root_is r v e = rw e (same_refl r)

-- ---- a path has a place for every layer

placing-long : (layout : Layout) (height n i : ℕ) (s : List ℕ) (at : ℕ) (known : List ℕ) → length (placing layout height n i s at known) ≡ length known
unfolding placing
placing-long layout height zero i s at known = refl
placing-long layout height (suc n) i s at known =
    go (unchecked_level layout s at) (λ next. placing-long layout height n (i + 1) s next (set known (level_of_turn layout height i) at))
  where
    go : (p : Parse (List Leaf))
        → ((next : ℕ) → length (placing layout height n (i + 1) s next (set known (level_of_turn layout height i) at)) ≡ length (set known (level_of_turn layout height i) at))
        → length (otherwise p (set known (level_of_turn layout height i) at) (λ _ next. placing layout height n (i + 1) s next (set known (level_of_turn layout height i) at))) ≡ length known
    go (ok l next) f = f next ∙ length-set known (level_of_turn layout height i) at
    go (fault number q) f = length-set known (level_of_turn layout height i) at

pub path_long : (s : List ℕ) (head : BumpHead) → length (bump_path_of s head).at ≡ LAYERS
unfolding bump_path_of
path_long s head =
    placing-long Layout.Bump (layers_of head.height) (layers_of head.height) 0 s head.levels.at (replicate LAYERS 0) ∙ length-replicate {A = ℕ} LAYERS 0

-- ---- a test that is passed exactly when every client climbs to r

-- with r wanted from the start nothing else is accepted
bound-accepted : (σ : Siblings) (h : ℕ) (s r : List ℕ) (l : List Leaf) → is_accepted (clients σ h s (bound r) l) ≡ true → clients σ h s (bound r) l ≡ accepted r
unfolding is_accepted Still
bound-accepted σ h s r l e = go (clients σ h s (bound r) l) refl e
  where
    go : (v : Result (List ℕ)) → clients σ h s (bound r) l ≡ v → is_accepted v ≡ true → clients σ h s (bound r) l ≡ accepted r
    go (accepted t) f g = f ∙ ap accepted (sym (agreed-told σ h s t (bound r) l f).0)
    go (refused why) f g = absurd (false≢true g)

module _ (σ : Siblings) (h : ℕ) (s r : List ℕ) (at : ℕ) {l : List Leaf} {q : ℕ} (e : unchecked_level Layout.Bump s at ≡ ok l q) where
  -- of a level that was read
  reaches-clients : level_reaches σ h s r at ≡ is_accepted (clients σ h s (bound r) l)
  unfolding level_reaches
  reaches-clients = let x = level-walk Layout.Bump s at e in rw x.1 (ap is_accepted (clients_in_lem σ h s (length l) x.0 (bound r) x.2))

  pub level-told : level_reaches σ h s r at ≡ true → AllReach σ h s r l
  unfolding Still
  level-told f = (agreed-told σ h s r (bound r) l (bound-accepted σ h s r l (sym reaches-clients ∙ f))).1

  pub level_all : AllReach σ h s r l → level_reaches σ h s r at ≡ true
  unfolding Still is_accepted
  level_all g = reaches-clients ∙ ap is_accepted (told-agreed σ h s r (bound r) l refl g)

-- ---- the answer of the code's test, by the paths of two heads

module _ (s t : List ℕ) (x y : BumpHead) (root : List ℕ) (p q : Path) (e : p ≡ bump_path_of s x) (f : q ≡ bump_path_of t y) (low : x.height ≤ 64) where
  pub both_is : (u : List ℕ) (at : ℕ) → both_reach u at s p t q root ≡ level_reaches (both_siblings s (bump_path_of s x).at t (bump_path_of t y).at) x.height u root at
  unfolding bump_path_of
  both_is u at =
      let h : layers_of x.height ≡ x.height = omega arith in
      ap₂ (λ (v w : Path). both_reach u at s v t w root) e f
      ∙ sym (levelled u at s (bump_path_of s x) t (bump_path_of t y) root (le-leb (layers_of x.height) LAYERS (omega arith)))
      ∙ ap (λ (n : ℕ). level_reaches (both_siblings s (bump_path_of s x).at t (bump_path_of t y).at) n u root at) h
