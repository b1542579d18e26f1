-- Laws of comparing proofs of different numbers of layers: what its parts come to, for the code.
use Prim.Native.Nat.{ℕ, zero, suc, ◌+◌, ◌-◌, ◌/◌, ◌^◌, ◌<◌, ◌≤◌}
use native.Mathlib.Nat.{add-zero}
use native.Mathlib.Numerals.{add-one}
use native.Mathlib.Omega.{arith}
use mathlib.Core.Path.{◌≡◌, refl, sym, ap, ◌∙◌, subst}
use mathlib.Core.Bool.{Bool, true, false, ◌&&◌}
use mathlib.Core.List.{List, [], ◌∷◌, ◌++◌}
use lib.ListN.{drop}
use lib.Dec.{eqb, ltb}
use borrow.Author.Tests.{ltb-true, eqb-true, lt-ltb, le-ltb}
use Rattle.hash.specs.Sha256.{sha256d}
use Rattle.format.proofs.Basics.{and-true, one_less}
use Rattle.format.specs.Bytes.{same}
use Rattle.format.specs.Parse.{pick, ok, fault}
use Rattle.format.specs.Refusals.{UNLIKE}
use Rattle.format.specs.Transaction.{Transaction, tx_whole}
use Rattle.spv.specs.declared.rejection.Rejection.{Rejection}
use Rattle.spv.specs.Result.{Result, accepted, refused, carrying, after_reading}
use Rattle.spv.specs.Climb.{Siblings, Step, joins, fails, odd, sibling_position, step, Ascent, ascend_by, ascend, end_by, end_of, preimages_of}
use Rattle.spv.proofs.ClimbLaws.{ascended, ascend-joins, ascend-fails}
use Rattle.spv.specs.Compare.{Met, meet}
use Rattle.spv.specs.PositionFits.{PositionFits}
use Rattle.spv.proofs.PositionFitsLaws.{low-start, low_half}
use Rattle.spv.specs.Siblings.{path_siblings}
use Rattle.spv.specs.Shapes.{meeting_of, claim_proof}
use Rattle.spv.proofs.ShapesLaws.{told-met, told-never}
use Rattle.std.specs.Prelude.{Some, None, Result as Answer, Ok}
use Rattle.spv.specs.Depth.{halved, deeper, Pair, pair_of, lowest_by, lowest, matched, against_deeper_by, against_deeper, uneven_by, uneven, depth_by, depth, depth_of}
use Rattle.spv.proofs.Demand3Depth.{halved_last}
use Rattle.spv.specs.declared.prove.Claim.{Claim}
use Rattle.spv.specs.declared.climb.Halves.{Halves}
use Rattle.spv.specs.declared.compare.Pair.{Pair as Strings}
use Rattle.spv.specs.declared.depth.DepthPair.{DepthPair}
use Rattle.spv.specs.Prove.{Proof}

-- ---- halving

-- k of n times are done
pub halved-step : (n k j : ℕ) → k < n → halved (n - k) j ≡ halved (n - (k + 1)) (j / 2)
unfolding halved
halved-step n k j b = ap (λ (m : ℕ). halved m j) (one_less n k b)

pub halved-done : (n k j : ℕ) → n ≤ k → halved (n - k) j ≡ j
unfolding halved
halved-done n k j b = let e : n - k ≡ 0 = omega arith in ap (λ (m : ℕ). halved m j) e

-- a position of layer k, halved n times, is one of layer k + n
low-halved : (n k j : ℕ) → PositionFits k j → PositionFits (k + n) (halved n j)
unfolding halved
low-halved zero k j l = subst (λ (m : ℕ). PositionFits m j) (sym (add-zero k)) l
low-halved (suc n) k j l = let e : k + 1 + n ≡ k + suc n = omega arith in subst (λ (m : ℕ). PositionFits m (halved n (j / 2))) e (low-halved n (k + 1) (j / 2) (low_half k j l))

pub low-layer : (n j i : ℕ) → j < 2 ^ 64 → i ≡ halved n j → PositionFits n i
low-layer n j i b e = let z : 0 + n ≡ n = omega arith in subst (λ (m : ℕ). PositionFits n m) (sym e) (subst (λ (m : ℕ). PositionFits m (halved n j)) z (low-halved n 0 j (low-start j b)))

-- ---- one layer of the longer proof beside the transaction

abbrev both : Halves → List ℕ
both t = t.left ++ t.right

module _ (ts : List (List ℕ)) (τ : Siblings) (e n i : ℕ) (c id : List ℕ) where
  pub beside_none : (number : ℕ) → fails number ≡ step (τ e (sibling_position i)) (odd i) c → depth_of (refused (carrying UNLIKE 0)) ≡ depth_of (lowest id ts (preimages_of (ascend τ e (suc n) i c)))
  unfolding lowest_by preimages_of
  beside_none number g = ap (λ (a : Ascent). depth_of (lowest id ts (preimages_of a))) (sym (ascend-fails τ e n i c number (sym g)))

  module _ (t : Halves) (g : joins t.left t.right ≡ step (τ e (sibling_position i)) (odd i) c) where
    beside-up : preimages_of (ascend τ e (suc n) i c) ≡ both t ∷ preimages_of (ascend τ (suc e) n (i / 2) (sha256d (both t)))
    unfolding preimages_of
    beside-up = ap preimages_of (ascend-joins τ e n i c t.left t.right (sym g))

    module _ (d : List ℕ) (ed : d ≡ sha256d (both t)) where
      pub beside-here : same id d ≡ true → (u : List ℕ) → u ≡ both t
          → ◌≡◌ {A = Answer DepthPair Rejection} (Ok (DepthPair.Transaction u)) (depth_of (lowest id ts (preimages_of (ascend τ e (suc n) i c))))
      unfolding lowest_by
      beside-here s u eu = rw (eu, beside-up, ← ed, s)

      pub beside-above : same id d ≡ false → depth_of (pair_of (meet ts (preimages_of (ascend τ (e + 1) n (i / 2) d)))) ≡ depth_of (lowest id ts (preimages_of (ascend τ e (suc n) i c)))
      unfolding lowest_by
      beside-above s = rw (beside-up, ← ed, s, add-one e)

-- ---- the longer proof alone, below

-- the strings above its lowest e layers, where these are climbed
over : (τ : Siblings) (e n h k l j : ℕ) (c d : List ℕ) → h ≡ e + n → l ≡ k + e → end_of c (ascend τ k e j c) ≡ accepted d → drop e (preimages_of (ascend τ k h j c)) ≡ preimages_of (ascend τ l n (halved e j) d)
unfolding ascend_by end_by preimages_of halved
over τ zero n h k l j c d eh el x =
    let y : c ≡ d = cc in
    let m : h ≡ n = omega arith in
    let o : k ≡ l = omega arith in
    rw (m, ← o, ← y)
over τ (suc e) n zero k l j c d eh el x = absurd (omega arith)
over τ (suc e) n (suc h) k l j c d eh el x =
    go (step (τ k (sibling_position j)) (odd j) c) x (λ b y. over τ e n h (suc k) l (j / 2) b d (omega arith) (omega arith) y)
  where
    go : (s : Step) → end_of c (ascended τ k e j (τ k (sibling_position j)) s) ≡ accepted d
        → ((b : List ℕ) → end_of b (ascend τ (suc k) e (j / 2) b) ≡ accepted d → drop e (preimages_of (ascend τ (suc k) h (j / 2) b)) ≡ preimages_of (ascend τ l n (halved e (j / 2)) d))
        → drop (suc e) (preimages_of (ascended τ k h j (τ k (sibling_position j)) s)) ≡ preimages_of (ascend τ l n (halved e (j / 2)) d)
    go (joins a b) y ih = ih (sha256d (a ++ b)) y
    go (fails number) y ih = let z : ◌≡◌ {A = ℕ} 0 1 = cc in absurd (omega arith)

-- there are none where the climb stops
cut : (τ : Siblings) (e n h k j : ℕ) (c : List ℕ) (why : Rejection) → h ≡ e + n → end_of c (ascend τ k e j c) ≡ refused why → drop e (preimages_of (ascend τ k h j c)) ≡ []
unfolding ascend_by end_by preimages_of
cut τ zero n h k j c why eh x = let z : ◌≡◌ {A = ℕ} 0 1 = cc in absurd (omega arith)
cut τ (suc e) n zero k j c why eh x = absurd (omega arith)
cut τ (suc e) n (suc h) k j c why eh x =
    go (step (τ k (sibling_position j)) (odd j) c) x (λ b y. cut τ e n h (suc k) (j / 2) b why (omega arith) y)
  where
    go : (s : Step) → end_of c (ascended τ k e j (τ k (sibling_position j)) s) ≡ refused why
        → ((b : List ℕ) → end_of b (ascend τ (suc k) e (j / 2) b) ≡ refused why → drop e (preimages_of (ascend τ (suc k) h (j / 2) b)) ≡ [])
        → drop (suc e) (preimages_of (ascended τ k h j (τ k (sibling_position j)) s)) ≡ []
    go (joins a b) y ih = ih (sha256d (a ++ b)) y
    go (fails number) y ih = refl

-- h layers of the shorter proof, g of the longer, e below the transaction's layer
module _ (σ τ : Siblings) (h g e j : ℕ) (a b id : List ℕ) (f : h < g) (ee : e ≡ g - h - 1) where
  pub deeper-stop : (why : Rejection) → end_of b (ascend τ 0 e j b) ≡ refused why
      → depth_of (refused (carrying UNLIKE 0)) ≡ depth_of (lowest id (preimages_of (ascend σ 0 h (halved (g - h) j) a)) (drop (g - h - 1) (preimages_of (ascend τ 0 g j b))))
  unfolding lowest_by
  deeper-stop why x = rw (← ee, cut τ e (suc h) g 0 j b why (omega arith) x)

  pub deeper-root : (d : List ℕ) (i : ℕ) → end_of b (ascend τ 0 e j b) ≡ accepted d → i ≡ halved e j
      → depth_of (lowest id (preimages_of (ascend σ 0 h (i / 2) a)) (preimages_of (ascend τ e (suc h) i d)))
      ≡ depth_of (lowest id (preimages_of (ascend σ 0 h (halved (g - h) j) a)) (drop (g - h - 1) (preimages_of (ascend τ 0 g j b))))
  deeper-root d i x ei =
      let more : g - h ≡ suc e = omega arith in
      let less : suc e - 1 ≡ e = omega arith in
      rw (more, less, halved_last e j, over τ e (suc h) g 0 e j b d (omega arith) (omega arith) x, ei)

-- ---- two accepted proofs

module _ (id : List ℕ) (x y : Proof) where
  pub against_shallow : deeper x y ≡ false → against_deeper id x y ≡ refused (carrying UNLIKE 0)
  unfolding against_deeper_by
  against_shallow e = rw e

  pub against-other : same id x.id ≡ false → against_deeper id x y ≡ refused (carrying UNLIKE 0)
  unfolding against_deeper_by
  against-other e = go (deeper x y)
    where
      go : (t : Bool) → pick (t && same id x.id) (lowest id x.preimages (matched x y)) (refused (carrying UNLIKE 0)) ≡ refused (carrying UNLIKE 0)
      go true = rw e
      go false = refl

  pub against-lowest : deeper x y ≡ true → same id x.id ≡ true → against_deeper id x y ≡ lowest id x.preimages (matched x y)
  unfolding against_deeper_by
  against-lowest e f = rw (e, f)

  pub uneven_turned : y.layers < x.layers → uneven id x y ≡ against_deeper id y x
  unfolding uneven_by
  uneven_turned f = rw (lt-ltb y.layers x.layers f)

  pub uneven-given : x.layers ≤ y.layers → uneven id x y ≡ against_deeper id x y
  unfolding uneven_by
  uneven-given f = rw (le-ltb y.layers x.layers f)

-- by their claims
module _ (s t : List ℕ) (x y : Claim) (rx ry id : List ℕ) where
  pub claims_shallow : (same rx ry && (ltb x.path.layers y.path.layers && eqb x.position (halved (y.path.layers - x.path.layers) y.position))) ≡ false
      → against_deeper id (claim_proof s x rx) (claim_proof t y ry) ≡ refused (carrying UNLIKE 0)
  unfolding claim_proof deeper
  claims_shallow e = against_shallow id (claim_proof s x rx) (claim_proof t y ry) e

  pub claims_other : same id x.id ≡ false → against_deeper id (claim_proof s x rx) (claim_proof t y ry) ≡ refused (carrying UNLIKE 0)
  unfolding claim_proof
  claims_other e = against-other id (claim_proof s x rx) (claim_proof t y ry) e

  module _ (e : (same rx ry && (ltb x.path.layers y.path.layers && eqb x.position (halved (y.path.layers - x.path.layers) y.position))) ≡ true) where
    fewer_and_half : (x.path.layers < y.path.layers) × (x.position ≡ halved (y.path.layers - x.path.layers) y.position)
    fewer_and_half =
        let k = and-true (ltb x.path.layers y.path.layers) _ (and-true (same rx ry) _ e).1 in
        (ltb-true _ _ k.0, eqb-true _ _ k.1)

    pub claims_lowest : same id x.id ≡ true
        → depth_of (lowest id (preimages_of (ascend (path_siblings s x.path) 0 x.path.layers (halved (y.path.layers - x.path.layers) y.position) x.id))
        (drop (y.path.layers - x.path.layers - 1) (preimages_of (ascend (path_siblings t y.path) 0 y.path.layers y.position y.id))))
        ≡ depth_of (against_deeper id (claim_proof s x rx) (claim_proof t y ry))
    unfolding claim_proof deeper matched
    claims_lowest f =
        ap (λ (i : ℕ). depth_of (lowest id (preimages_of (ascend (path_siblings s x.path) 0 x.path.layers i x.id))
        (drop (y.path.layers - x.path.layers - 1) (preimages_of (ascend (path_siblings t y.path) 0 y.path.layers y.position y.id))))) (sym fewer_and_half.1)
        ∙ sym (ap depth_of (against-lowest id (claim_proof s x rx) (claim_proof t y ry) e f))

  pub claims_turned : y.path.layers < x.path.layers → uneven id (claim_proof s x rx) (claim_proof t y ry) ≡ against_deeper id (claim_proof t y ry) (claim_proof s x rx)
  unfolding claim_proof
  claims_turned f = uneven_turned id (claim_proof s x rx) (claim_proof t y ry) f

  pub claims_given : x.path.layers ≤ y.path.layers → uneven id (claim_proof s x rx) (claim_proof t y ry) ≡ against_deeper id (claim_proof s x rx) (claim_proof t y ry)
  unfolding claim_proof
  claims_given f = uneven-given id (claim_proof s x rx) (claim_proof t y ry) f

-- ---- what a meeting says

pub pair_found : (m : Met) (p : Strings) → Some p ≡ meeting_of m → ◌≡◌ {A = Answer DepthPair Rejection} (Ok (DepthPair.Strings p)) (depth_of (pair_of m))
unfolding pair_of
pair_found m p e = sym (ap (λ (x : Met). depth_of (pair_of x)) (told-met m p e))

pub pair-none : (m : Met) → None ≡ meeting_of m → depth_of (refused (carrying UNLIKE 0)) ≡ depth_of (pair_of m)
unfolding pair_of
pair-none m e = sym (ap (λ (x : Met). depth_of (pair_of x)) (told-never m e))

-- ---- the transaction, then both proofs

pub reading-fault : (m : List ℕ) (n q : ℕ) (k : Result Pair) → tx_whole m ≡ fault n q → after_reading (tx_whole m) (λ _. k) ≡ refused (carrying n q)
reading-fault m n q k e = rw e

pub reading-ok : (m : List ℕ) (t : Transaction) (q : ℕ) (k : Result Pair) → tx_whole m ≡ ok t q → after_reading (tx_whole m) (λ _. k) ≡ k
reading-ok m t q k e = rw e

module _ (m : List ℕ) (v w : Result Proof) where
  pub depth-first : (f : Rejection) → v ≡ refused f → depth v w m ≡ refused f
  unfolding depth_by
  depth-first f e = rw e

  pub depth-second : (x : Proof) (f : Rejection) → v ≡ accepted x → w ≡ refused f → depth v w m ≡ refused f
  unfolding depth_by
  depth-second x f e g = rw (e, g)

  pub depth-both : (x y : Proof) → v ≡ accepted x → w ≡ accepted y → depth v w m ≡ after_reading (tx_whole m) (λ _. uneven (sha256d m) x y)
  unfolding depth_by
  depth-both x y e g = rw (e, g)
