-- Judging in two passes: a first rule for all transactions up to its first refusal, then a second for those before it.
use Prim.Native.Nat.{ℕ, zero, suc, ◌+◌, ◌<◌}
use mathlib.Core.Path.{◌≡◌, refl, sym, ap, ap₂, ◌∙◌}
use mathlib.Core.Bool.{Bool, true, false}
use mathlib.Core.List.{List, [], ◌∷◌, ◌++◌, map, append_assoc, append-nil}
use native.Mathlib.Omega.{arith}
use lib.ListN.{length, get_or, take, length-append, length-map}
use Rattle.std.specs.Prelude.{Option, None, Ok, Err, Some}
use Rattle.format.specs.Parse.{pick}
use Rattle.format.specs.Bump.{Bump}
use Rattle.format.specs.Beef.{BeefEntry}
use Rattle.format.specs.Refusals.{SAME_TX, NO_PARENT, UNTRUSTED}
use Rattle.bundle.specs.declared.table.Record.{Record}
use Rattle.spv.specs.declared.rejection.Rejection.{Rejection}
use Rattle.spv.specs.Result.{Result, accepted, refused, carrying, blaming}
use Rattle.spv.specs.Prove.{Proof}
use Rattle.spv.specs.Hashes.{hashes_of, among}
use Rattle.bundle.specs.Amounts.{Payment, payment_of, is_anchored, ids_of, passes, funded, amounts}
use Rattle.bundle.specs.Second.{fault_in}
use Rattle.bundle.specs.declared.judge.Standing.{Standing}
use Rattle.bundle.specs.Bundle.{rests, trusted, proving, nth_bump, entry_id, ruling_of, anchoring, ruling, Judgement, ahead, judge_from, Ruling, standing}
use Rattle.bundle.proofs.BundleLaws.{from_refuses, from_passes}
use Rattle.bundle.specs.Pass.{settled}

-- what the first rule refuses the second does not change; what both pass passes as the first says
unfoldable pub also : Ruling → Result (Unit {0}) → Ruling
also (Err why) t = Err why
also (Ok st) (refused why) = Err why
also (Ok st) (accepted u) = Ok st

module _ {A B : Type 0} (known : A → B) (first : List B → A → Ruling) where
  -- how many pass the first rule, one after the other from the first
  unfoldable pub pass_count : List B → List A → ℕ
  pass_count earlier [] = 0
  pass_count earlier (x ∷ l) = elim (first earlier x) [ Err why ↦ 0 | Ok t ↦ suc (pass_count (earlier ++ (known x ∷ [])) l) ]

  module _ (second : List B → B → Result (Unit {0})) (row : A → Standing → Record) where
    settled-ahead : (r : Record) (f : Result (Unit {0})) (j : Judgement) → ahead r (settled f j) ≡ settled f (ahead r j)
    unfolding settled ahead
    settled-ahead r (refused why) j = refl
    settled-ahead r (accepted u) j = refl

    abbrev both : List B → A → Ruling
    both earlier x = also (first earlier x) (second earlier (known x))

    -- judging by both rules at once is judging by the first, and then by the second what passed it
    pub two-passes : (earlier : List B) (l : List A)
        → judge_from known both row earlier l ≡ settled (fault_in second (pass_count earlier l) earlier (map known l)) (judge_from known first row earlier l)
    unfolding judge_from pass_count fault_in settled also
    two-passes earlier [] = refl
    two-passes earlier (x ∷ l) = step (first earlier x) refl (second earlier (known x)) refl (two-passes (earlier ++ (known x ∷ [])) l)
      where
        step : (t : Ruling) → first earlier x ≡ t → (u : Result (Unit {0})) → second earlier (known x) ≡ u
            → judge_from known both row (earlier ++ (known x ∷ [])) l
            ≡ settled (fault_in second (pass_count (earlier ++ (known x ∷ [])) l) (earlier ++ (known x ∷ [])) (map known l)) (judge_from known first row (earlier ++ (known x ∷ [])) l)
            → judge_from known both row earlier (x ∷ l) ≡ settled (fault_in second (pass_count earlier (x ∷ l)) earlier (map known (x ∷ l))) (judge_from known first row earlier (x ∷ l))
        step (Err why) p u q h =
            from_refuses known both row earlier x l why (rw p)
            ∙ sym (ap₂ (λ (n : ℕ) (j : Judgement). settled (fault_in second n earlier (map known (x ∷ l))) j) (none why p) (from_refuses known first row earlier x l why p))
          where
            none : (why : Rejection) → first earlier x ≡ Err why → pass_count earlier (x ∷ l) ≡ 0
            none why p = rw (pass_count, p)
        step (Ok st) p u q h = by u q
          where
            more : pass_count earlier (x ∷ l) ≡ suc (pass_count (earlier ++ (known x ∷ [])) l)
            more = rw (pass_count, p)

            by : (u : Result (Unit {0})) → second earlier (known x) ≡ u
                → judge_from known both row earlier (x ∷ l) ≡ settled (fault_in second (pass_count earlier (x ∷ l)) earlier (map known (x ∷ l))) (judge_from known first row earlier (x ∷ l))
            by (refused why) q = from_refuses known both row earlier x l why (rw (p, q)) ∙ sym (rw more (rw q))
            by (accepted v) q =
                from_passes known both row earlier x l st (rw (p, q)) ∙ ap (ahead (row x st)) h
                ∙ settled-ahead (row x st) (fault_in second (pass_count (earlier ++ (known x ∷ [])) l) (earlier ++ (known x ∷ [])) (map known l)) (judge_from known first row (earlier ++ (known x ∷ [])) l)
                ∙ sym (rw more (rw q (ap (settled (fault_in second (pass_count (earlier ++ (known x ∷ [])) l) (earlier ++ (known x ∷ [])) (map known l))) (from_passes known first row earlier x l st p))))

-- ---- how many pass, by the judgement

unfoldable pub reached_from : ℕ → Judgement → ℕ
reached_from n (refused why) = why.carried
reached_from n (accepted records) = n + length records

module _ {A B : Type 0} (known : A → B) (first : List B → A → Ruling) where
  module _ (row : A → Standing → Record) where
    reached-ahead : (n : ℕ) (r : Record) (j : Judgement) → reached_from n (ahead r j) ≡ reached_from (suc n) j
    unfolding reached_from ahead
    reached-ahead n r (refused why) = refl
    reached-ahead n r (accepted l) = omega arith

    pub count-reached : (earlier : List B) (l : List A) → length earlier + pass_count known first earlier l ≡ reached_from (length earlier) (judge_from known first row earlier l)
    unfolding judge_from pass_count reached_from
    count-reached earlier [] = refl
    count-reached earlier (x ∷ l) = step (first earlier x) refl (count-reached (earlier ++ (known x ∷ [])) l)
      where
        step : (t : Ruling) → first earlier x ≡ t
            → length (earlier ++ (known x ∷ [])) + pass_count known first (earlier ++ (known x ∷ [])) l ≡ reached_from (length (earlier ++ (known x ∷ []))) (judge_from known first row (earlier ++ (known x ∷ [])) l)
            → length earlier + pass_count known first earlier (x ∷ l) ≡ reached_from (length earlier) (judge_from known first row earlier (x ∷ l))
        step (Err why) e h =
            let none : pass_count known first earlier (x ∷ l) ≡ 0 = rw (pass_count, e) in
            let z : length earlier + pass_count known first earlier (x ∷ l) ≡ length earlier = omega arith in
            z ∙ sym (ap (reached_from (length earlier)) (from_refuses known first row earlier x l why e))
        step (Ok st) e h =
            let more : pass_count known first earlier (x ∷ l) ≡ suc (pass_count known first (earlier ++ (known x ∷ [])) l) = rw (pass_count, e) in
            let size : length (earlier ++ (known x ∷ [])) ≡ suc (length earlier) = length-append earlier (known x ∷ []) ∙ omega arith in
            let z : length earlier + pass_count known first earlier (x ∷ l) ≡ length (earlier ++ (known x ∷ [])) + pass_count known first (earlier ++ (known x ∷ [])) l = omega arith in
            z ∙ h ∙ ap (λ (k : ℕ). reached_from k (judge_from known first row (earlier ++ (known x ∷ [])) l)) size
            ∙ sym (ap (reached_from (length earlier)) (from_passes known first row earlier x l st e) ∙ reached-ahead (length earlier) (row x st) (judge_from known first row (earlier ++ (known x ∷ [])) l))

  -- each of them passes after those before it
  pub count-passes : (d : A) (earlier : List B) (l : List A) (k : ℕ) → k < pass_count known first earlier l → (st : Standing) × (first (earlier ++ map known (take k l)) (get_or l k d) ≡ Ok st)
  unfolding pass_count
  count-passes d earlier [] k h = absurd (omega arith)
  count-passes d earlier (x ∷ l) k h = step k h (first earlier x) refl (λ j g. count-passes d (earlier ++ (known x ∷ [])) l j g)
    where
      step : (k : ℕ) → k < pass_count known first earlier (x ∷ l) → (t : Ruling) → first earlier x ≡ t
          → ((j : ℕ) → j < pass_count known first (earlier ++ (known x ∷ [])) l → (st : Standing) × (first ((earlier ++ (known x ∷ [])) ++ map known (take j l)) (get_or l j d) ≡ Ok st)) → (st : Standing) × (first (earlier ++ map known (take k (x ∷ l))) (get_or (x ∷ l) k d) ≡ Ok st)
      step k h (Err why) e f = absurd (let none : pass_count known first earlier (x ∷ l) ≡ 0 = rw (pass_count, e) in omega arith)
      step zero h (Ok st) e f = (st, ap (λ (m : List B). first m x) (append-nil earlier) ∙ e)
      step (suc k) h (Ok st) e f =
          let more : pass_count known first earlier (x ∷ l) ≡ suc (pass_count known first (earlier ++ (known x ∷ [])) l) = rw (pass_count, e) in
          let w = f k (omega arith) in
          (w.0, ap (λ (m : List B). first m (get_or l k d)) (sym (append_assoc earlier (known x ∷ []) (map known (take k l)))) ∙ w.1)

-- what is known of the earlier ones may be less
module _ {A B C : Type 0} (known : A → B) (f : B → C) (first : List C → A → Ruling) (row : A → Standing → Record) where
  map_last : (l : List B) (x : B) → map f (l ++ (x ∷ [])) ≡ map f l ++ (f x ∷ [])
  map_last [] x = refl
  map_last (y ∷ l) x = ap (f y ∷◌) (map_last l x)

  pub from_less : (earlier : List B) (l : List A) → judge_from known (λ m x. first (map f m) x) row earlier l ≡ judge_from (λ x. f (known x)) first row (map f earlier) l
  unfolding judge_from
  from_less earlier [] = refl
  from_less earlier (x ∷ l) = step (first (map f earlier) x) refl (from_less (earlier ++ (known x ∷ [])) l)
    where
      step : (t : Ruling) → first (map f earlier) x ≡ t
          → judge_from known (λ m x. first (map f m) x) row (earlier ++ (known x ∷ [])) l ≡ judge_from (λ x. f (known x)) first row (map f (earlier ++ (known x ∷ []))) l
          → judge_from known (λ m x. first (map f m) x) row earlier (x ∷ l) ≡ judge_from (λ x. f (known x)) first row (map f earlier) (x ∷ l)
      step (Err why) e h =
          from_refuses known (λ m x. first (map f m) x) row earlier x l why e ∙ ap (λ (n : ℕ). refused (blaming n why)) (sym (length-map earlier f))
          ∙ sym (from_refuses (λ x. f (known x)) first row (map f earlier) x l why e)
      step (Ok st) e h =
          from_passes known (λ m x. first (map f m) x) row earlier x l st e
          ∙ ap (ahead (row x st)) (h ∙ ap (λ (m : List C). judge_from (λ x. f (known x)) first row m l) (map_last earlier (known x)))
          ∙ sym (from_passes (λ x. f (known x)) first row (map f earlier) x l st e)

-- ---- the bundle rule in two: 19, 13 to 17 and 20; then 26, 27 and 28

module _ (s roots : List ℕ) (bumps : List Bump) where
  unfoldable pub first_anchoring : List (List ℕ) → BeefEntry → Option ℕ → Ruling
  first_anchoring ids e (Some n) = trusted roots n (proving s (nth_bump bumps n) (entry_id s e))
  first_anchoring ids e None = pick (rests s ids e.transaction.inputs) (Ok (standing 0 0 0)) (Err (carrying NO_PARENT 0))

  unfoldable pub first_ruling : List (List ℕ) → BeefEntry → Ruling
  first_ruling ids e = pick (among (entry_id s e) ids) (Err (carrying SAME_TX 0)) (first_anchoring ids e e.anchor)

  pub ruling-is : (fee : ℕ) (earlier : List Payment) (e : BeefEntry) → ruling s roots fee bumps earlier e ≡ also (first_ruling (ids_of earlier) e) (amounts fee earlier (payment_of s e))
  unfolding ruling first_ruling anchoring first_anchoring amounts payment_of trusted also
  ruling-is fee earlier e = go (among (entry_id s e) (ids_of earlier))
    where
      trusting : (n : ℕ) (v : Result Proof) → trusted roots n v ≡ also (trusted roots n v) passes
      trusting n (refused why) = refl
      trusting n (accepted p) = listed (among p.root (hashes_of roots))
        where
          listed : (t : Bool) → pick t (Ok (standing 1 n p.position)) (Err (carrying UNTRUSTED 0)) ≡ also (pick t (Ok (standing 1 n p.position)) (Err (carrying UNTRUSTED 0))) passes
          listed true = refl
          listed false = refl

      funds : (r : Bool) (f : Result (Unit {0})) → pick r (ruling_of f) (Err (carrying NO_PARENT 0)) ≡ also (pick r (Ok (standing 0 0 0)) (Err (carrying NO_PARENT 0))) f
      funds false f = refl
      funds true (refused why) = refl
      funds true (accepted u) = refl

      by : (a : Option ℕ) → e.anchor ≡ a → anchoring s roots fee bumps earlier e a ≡ also (first_anchoring (ids_of earlier) e a) (amounts fee earlier (payment_of s e))
      by (Some n) h =
          trusting n (proving s (nth_bump bumps n) (entry_id s e))
          ∙ ap (λ (t : Bool). also (trusted roots n (proving s (nth_bump bumps n) (entry_id s e))) (pick t passes (funded fee earlier (payment_of s e)))) (sym (ap is_anchored h))
      by None h =
          funds (rests s (ids_of earlier) e.transaction.inputs) (funded fee earlier (payment_of s e))
          ∙ ap (λ (t : Bool). also (first_anchoring (ids_of earlier) e None) (pick t passes (funded fee earlier (payment_of s e)))) (sym (ap is_anchored h))

      go : (t : Bool) → pick t (Err (carrying SAME_TX 0)) (anchoring s roots fee bumps earlier e e.anchor) ≡ also (pick t (Err (carrying SAME_TX 0)) (first_anchoring (ids_of earlier) e e.anchor)) (amounts fee earlier (payment_of s e))
      go true = refl
      go false = by e.anchor refl
