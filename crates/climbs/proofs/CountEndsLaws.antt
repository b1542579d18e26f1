-- A climb costs what its end says.
use Rattle.std.proofs.Common.{◌≡◌, ℕ, zero, suc, ◌+◌, ◌-◌, ◌/◌, ◌≤◌, Bool, true, false, eqb, List, ◌++◌, sym, refl, ap, ◌∙◌, arith, eq-eqb}
use Rattle.hash.specs.Sha256.{sha256d}
use Rattle.format.specs.Bytes.{same}
use Rattle.format.specs.Parse.{pick}
use Rattle.format.specs.Refusals.{TWIN}
use Rattle.spv.specs.declared.rejection.Rejection.{Rejection}
use Rattle.spv.specs.Result.{Result, accepted, refused, at_sibling}
use Rattle.spv.specs.Climb.{Sibling, value, copied, absent, Siblings, Step, joins, fails, step, joined, odd, sibling_position, ascend, ascend_by, end_of, end_by}
use Rattle.spv.proofs.ClimbLaws.{ascended}
use Rattle.spv.specs.Values.{worked_out}
use Rattle.climbs.specs.Count.{cost_of, climb_cost}
use Rattle.climbs.proofs.CountEnds.{layers_cost, fault_cost, end_cost}
use Rattle.climbs.proofs.CountLaws.{climb_joins_lem, climb_fails, missing-none}

-- only a sibling that can't be had fails by 14
fails_how : (x : Sibling) (o : Bool) (c : List ℕ) (number : ℕ) → step x o c ≡ fails number → (n : Bool) → eqb number TWIN ≡ n → n ≡ false → x ≡ absent
unfolding step joined
fails_how absent o c number e n f g = refl
fails_how (value p) false c number e n f g = absurd (let z : ◌≡◌ {A = ℕ} 0 1 = cc in omega arith)
fails_how (value p) true c number e n f g = go (same p c) e
  where
    go : (t : Bool) → pick t (fails TWIN) (joins p c) ≡ fails number → value p ≡ absent
    go true h = let y : TWIN ≡ number = cc in let x = eq-eqb number TWIN (sym y) in absurd (let z : ◌≡◌ {A = ℕ} 0 1 = cc in omega arith)
    go false h = absurd (let z : ◌≡◌ {A = ℕ} 0 1 = cc in omega arith)
fails_how copied false c number e n f g = absurd (let z : ◌≡◌ {A = ℕ} 0 1 = cc in omega arith)
fails_how copied true c number e n f g = go (same c c) e
  where
    go : (t : Bool) → pick t (fails TWIN) (joins c c) ≡ fails number → copied ≡ absent
    go true h = let y : TWIN ≡ number = cc in let x = eq-eqb number TWIN (sym y) in absurd (let z : ◌≡◌ {A = ℕ} 0 1 = cc in omega arith)
    go false h = absurd (let z : ◌≡◌ {A = ℕ} 0 1 = cc in omega arith)

module _ (w : Siblings) where
  fault : (k j : ℕ) (c : List ℕ) (number : ℕ) → step (worked_out w k (sibling_position j)) (odd j) c ≡ fails number → cost_of w k (sibling_position j) ≡ fault_cost w (at_sibling number k (sibling_position j))
  unfolding fault_cost
  fault k j c number e = go (eqb number TWIN) refl
    where
      go : (t : Bool) → eqb number TWIN ≡ t → cost_of w k (sibling_position j) ≡ pick t (cost_of w k (sibling_position j)) 0
      go true f = refl
      go false f = missing-none w k (sibling_position j) (fails_how (worked_out w k (sibling_position j)) (odd j) c number e false f refl)

  -- a refusal of a climb from layer k on has its layer there or above
  layer-above : (k n j : ℕ) (c : List ℕ) (why : Rejection) → end_of c (ascend (worked_out w) k n j c) ≡ refused why → k ≤ why.layer
  unfolding ascend_by end_by
  layer-above k zero j c why e = absurd (let z : ◌≡◌ {A = ℕ} 0 1 = cc in omega arith)
  layer-above k (suc n) j c why e = go (step (worked_out w k (sibling_position j)) (odd j) c) e (λ d g. layer-above (suc k) n (j / 2) d why g)
    where
      go : (t : Step) → end_of c (ascended (worked_out w) k n j (worked_out w k (sibling_position j)) t) ≡ refused why
          → ((d : List ℕ) → end_of d (ascend (worked_out w) (suc k) n (j / 2) d) ≡ refused why → suc k ≤ why.layer) → k ≤ why.layer
      go (joins a b) g up = let z = up (sha256d (a ++ b)) g in omega arith
      go (fails number) g up = let z : at_sibling number k (sibling_position j) ≡ why = cc in let y = ap (λ (x : Rejection). x.layer) z in omega arith

  end-joins : (k n j : ℕ) (d : List ℕ) (r : Result (List ℕ)) → end_of d (ascend (worked_out w) (suc k) n (j / 2) d) ≡ r → cost_of w k (sibling_position j) + 1 + end_cost w (suc k) n (j / 2) r ≡ end_cost w k (suc n) j r
  unfolding end_cost layers_cost
  end-joins k n j d (accepted root) e = refl
  end-joins k n j d (refused why) e =
      let l = layer-above (suc k) n (j / 2) d why e in
      let z : why.layer - k ≡ suc (why.layer - suc k) = omega arith in
      sym (ap (λ (m : ℕ). layers_cost w k m j + fault_cost w why) z ∙ omega arith)

  pub climb_ends : (k n j : ℕ) (c : List ℕ) → climb_cost w k n j c ≡ end_cost w k n j (end_of c (ascend (worked_out w) k n j c))
  unfolding climb_cost end_cost layers_cost ascend_by end_by
  climb_ends k zero j c = refl
  climb_ends k (suc n) j c = go (step (worked_out w k (sibling_position j)) (odd j) c) refl (λ d. climb_ends (suc k) n (j / 2) d)
    where
      go : (t : Step) → step (worked_out w k (sibling_position j)) (odd j) c ≡ t → ((d : List ℕ) → climb_cost w (suc k) n (j / 2) d ≡ end_cost w (suc k) n (j / 2) (end_of d (ascend (worked_out w) (suc k) n (j / 2) d)))
          → climb_cost w k (suc n) j c ≡ end_cost w k (suc n) j (end_of c (ascended (worked_out w) k n j (worked_out w k (sibling_position j)) t))
      go (joins a b) e up =
          climb_joins_lem w k n j c a b e ∙ ap (λ (x : ℕ). cost_of w k (sibling_position j) + 1 + x) (up (sha256d (a ++ b)))
          ∙ end-joins k n j (sha256d (a ++ b)) (end_of (sha256d (a ++ b)) (ascend (worked_out w) (suc k) n (j / 2) (sha256d (a ++ b)))) refl
      go (fails number) e up =
          let z : k - k ≡ 0 = omega arith in
          let y : fault_cost w (at_sibling number k (sibling_position j)) ≡ 0 + fault_cost w (at_sibling number k (sibling_position j)) = omega arith in
          climb_fails w k n j c number e ∙ fault k j c number e ∙ y
          ∙ sym (ap (λ (m : ℕ). layers_cost w k m j + fault_cost w (at_sibling number k (sibling_position j))) z)
