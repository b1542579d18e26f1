-- Laws of the state that the caller lends: what each call makes of it.
use mathlib.Core.Path.{◌≡◌, refl, sym, ap, ap₂, ◌∙◌}
use mathlib.Core.List.{List, [], ◌++◌}
use mathlib.Core.Bool.{true, false}
use Prim.Native.Nat.{ℕ, ◌+◌, ◌≤◌}
use native.Mathlib.Omega.{arith}
use native.Mathlib.Nat.{zero-add}
use lib.ListN.{length}
use Rattle.hash.specs.Sha256.{sha256d}
use Rattle.format.specs.Parse.{Parse, ok, fault}
use Rattle.format.proofs.ParseLaws.{each-ok}
use Rattle.format.specs.declared.refusal.ReadRefusal.{ReadRefusal}
use Rattle.format.specs.Refusals.{refusal_number, SHORT}
use Rattle.format.specs.Transaction.{Transaction}
use Rattle.stream.specs.declared.progress.Progress.{Progress}
use Rattle.std.specs.Prelude.{Ok, Err}
use Rattle.stream.specs.declared.hashing.Hashing.{Hashing}
use Rattle.stream.specs.declared.state.State.{State}
use Rattle.stream.specs.Parts.{MAX_PARTS, Said, refused, received, Calls, came, closed, with_part, with_end, says, reading, end_says}
use Rattle.stream.specs.Progress.{Fed, is_end, first, run}
use Rattle.stream.proofs.Rest.{counts_of, ending}
use Rattle.stream.proofs.Run.{Fair, run_fair, run_append, run-refused, fed_says, fed_ends, part-told, end-told, reading-run, reading-told}
use Rattle.stream.proofs.Leaps.{stage_back}
use Rattle.stream.specs.HashState.{hashing_of, Absorbs, Finishes}
use Rattle.stream.specs.Lent.{answer_of, resting, open_state, progress_of, hashing_in, fed_state, state_of, Keeps}

-- the bytes so far, one by one
abbrev pub fed_by : List ℕ → Fed
fed_by b = run MAX_PARTS (Ok first) b

answered_end : (b : List ℕ) (p : Parse Transaction) → (answer_of (end_says b p)).answered ≡ 0 → ⊥
unfolding answer_of
answered_end b (ok t q) e = let z : ◌≡◌ {A = ℕ} 2 0 = e in omega arith
answered_end b (fault n q) e = let z : ◌≡◌ {A = ℕ} 1 0 = e in omega arith

came-fed : (b : List ℕ) {m : Fed} → fed_by b ≡ m → state_of (came b) ≡ fed_state (hashing_of b) m
unfolding state_of
came-fed b e = ap (fed_state (hashing_of b)) e

-- the answer is in the state
fed_answer : (h : Hashing) (m : Fed) → (fed_state h m).answer ≡ answer_of (fed_says m)
unfolding open_state resting
fed_answer h (Ok f) = refl
fed_answer h (Err r) = refl

pub answer_in : (c : Calls) → (state_of c).answer ≡ answer_of (says MAX_PARTS c)
unfolding state_of resting
answer_in (came b) = fed_answer (hashing_of b) (fed_by b) ∙ ap answer_of (sym (part-told MAX_PARTS b))
answer_in (closed b) = refl

-- with a part more
more-fed : (b p : List ℕ) {m : Fed} → fed_by b ≡ m → fed_by (b ++ p) ≡ run MAX_PARTS m p
more-fed b p e = run_append MAX_PARTS b p (Ok first) ∙ ap (λ (m : Fed). run MAX_PARTS m p) e

-- ---- a state that has its answer

part-rests : (b p : List ℕ) (m : Fed) → fed_by b ≡ m → ((state_of (came b)).answer.answered ≡ 0 → ⊥) → state_of (came b) ≡ state_of (came (b ++ p))
unfolding open_state resting answer_of
part-rests b p (Ok f) e h = absurd (h (ap (λ (s : State). s.answer.answered) (came-fed b e)))
part-rests b p (Err r) e h = came-fed b e ∙ sym (came-fed (b ++ p) (more-fed b p e ∙ run-refused MAX_PARTS p r))

end-rests : (b : List ℕ) (m : Fed) → fed_by b ≡ m → ((state_of (came b)).answer.answered ≡ 0 → ⊥) → state_of (came b) ≡ state_of (closed b)
unfolding open_state resting answer_of state_of
end-rests b (Ok f) e h = absurd (h (ap (λ (s : State). s.answer.answered) (came-fed b e)))
end-rests b (Err r) e h = came-fed b e ∙ sym (ap (λ (x : Said). resting (answer_of x)) (end-told MAX_PARTS b ∙ ap (fed_ends (sha256d b)) e))

pub part-done : (st : State) (p : List ℕ) → (st.answer.answered ≡ 0 → ⊥) → Keeps (with_part p) st st
part-done st p h (came b) e = e ∙ part-rests b p (fed_by b) refl (λ z. h (ap (λ (s : State). s.answer.answered) e ∙ z))
part-done st p h (closed b) e = e

closed-rests : (b : List ℕ) → resting (state_of (closed b)).answer ≡ state_of (closed b)
unfolding state_of resting
closed-rests b = refl

pub end-done : (st : State) → (st.answer.answered ≡ 0 → ⊥) → Keeps with_end st (resting st.answer)
end-done st h (came b) e =
    ap (λ (s : State). resting s.answer) (e ∙ end-rests b (fed_by b) refl (λ z. h (ap (λ (s : State). s.answer.answered) e ∙ z))) ∙ closed-rests b
end-done st h (closed b) e = ap (λ (s : State). resting s.answer) e ∙ closed-rests b

-- ---- a state that has none yet

closed_answered : (b : List ℕ) → (state_of (closed b)).answer.answered ≡ 0 → ⊥
unfolding state_of resting
closed_answered b e = answered_end b (reading MAX_PARTS b) e

-- what is in it
pub record Going (st : State) (b : List ℕ) : Type 0 where
  pub progress : Progress
  pub fed : fed_by b ≡ Ok progress
  pub progress_is : progress_of st ≡ progress
  pub hashing_is : hashing_in st ≡ hashing_of b
  pub length-is : st.length ≡ length b
  pub at-is : progress.at ≡ length b

going : (st : State) (b : List ℕ) → st ≡ state_of (came b) → (m : Fed) → fed_by b ≡ m → st.answer.answered ≡ 0 → Going st b
unfolding open_state resting answer_of progress_of hashing_in
going st b e (Err r) fed h =
    absurd (let z : ◌≡◌ {A = ℕ} 0 1 = sym h ∙ ap (λ (s : State). s.answer.answered) (e ∙ came-fed b fed) in omega arith)
going st b e (Ok f) fed h =
    let is : st ≡ open_state (hashing_of b) f = e ∙ came-fed b fed in
    let fair : Fair (Ok f) (0 + length b) = rw fed at (run_fair MAX_PARTS b (Ok first) 0 (refl, λ _. omega arith)) in
    let at : f.at ≡ length b = fair.0 ∙ zero-add (length b) in
    record {
      progress = f;
      fed = fed;
      progress_is = ap progress_of is ∙ ap (λ (s : _). record { stage = s; start = f.start; need = f.need; width = f.width; value = f.value; left = f.left; inputs = f.inputs; outputs = f.outputs; at = f.at }) (stage_back f.stage);
      hashing_is = ap hashing_in is;
      length-is = ap (λ (s : State). s.length) is ∙ at;
      at-is = at;
    }

module _ (st : State) (zero : st.answer.answered ≡ 0) where
  pub part-refused : (p : List ℕ) {m : Fed} {r : ReadRefusal} → m ≡ run MAX_PARTS (Ok (progress_of st)) p → m ≡ Err r
      → Keeps (with_part p) st (resting (answer_of (refused (refusal_number r.refusal) r.place)))
  part-refused p em told (closed b) e = absurd (closed_answered b (sym (ap (λ (s : State). s.answer.answered) e) ∙ zero))
  part-refused p {m} {r} em told (came b) e =
      let g = going st b e (fed_by b) refl zero in
      let k : fed_by (b ++ p) ≡ Err r = more-fed b p g.fed ∙ ap (λ (x : Progress). run MAX_PARTS (Ok x) p) (sym g.progress_is) ∙ sym em ∙ told in
      sym (came-fed (b ++ p) k)

  pub part-more : (p : List ℕ) {m : Fed} {f : Progress} {h : Hashing} → m ≡ run MAX_PARTS (Ok (progress_of st)) p → m ≡ Ok f → Absorbs (hashing_in st) st.length p h
      → Keeps (with_part p) st (open_state h f)
  part-more p em told absorbs (closed b) e = absurd (closed_answered b (sym (ap (λ (s : State). s.answer.answered) e) ∙ zero))
  part-more p {m} {f} {h} em told absorbs (came b) e =
      let g = going st b e (fed_by b) refl zero in
      let k : fed_by (b ++ p) ≡ Ok f = more-fed b p g.fed ∙ ap (λ (x : Progress). run MAX_PARTS (Ok x) p) (sym g.progress_is) ∙ sym em ∙ told in
      ap (λ (x : Hashing). open_state x f) (absorbs b g.hashing_is g.length-is) ∙ sym (came-fed (b ++ p) k)

  -- the end call
  closed-told : (b : List ℕ) {a : Said} → fed_ends (sha256d b) (fed_by b) ≡ a → resting (answer_of a) ≡ state_of (closed b)
  unfolding state_of
  closed-told b {a} k = ap (λ (x : Said). resting (answer_of x)) (sym (end-told MAX_PARTS b ∙ k))

  few : (b : List ℕ) (f : Progress) → fed_by b ≡ Ok f → is_end f.stage ≡ true → length b ≤ MAX_PARTS
  few b f e t =
      let c = reading-run MAX_PARTS b ∙ ap ending e ∙ ended t in
      (reading-told MAX_PARTS b (each-ok counts_of (reading MAX_PARTS b) c).1).0
    where
      ended : is_end f.stage ≡ true → ending (Ok f) ≡ ok (record { size = f.at; inputs = f.inputs; outputs = f.outputs }) f.at
      ended t = rw t

  fed_short : (id : List ℕ) (f : Progress) → is_end f.stage ≡ false → fed_ends id (Ok f) ≡ refused SHORT f.start
  fed_short id f t = rw t

  fed-whole : (id : List ℕ) (f : Progress) → is_end f.stage ≡ true → fed_ends id (Ok f) ≡ received f.at f.inputs f.outputs id
  fed-whole id f t = rw t

  pub end_short : is_end (progress_of st).stage ≡ false → Keeps with_end st (resting (answer_of (refused SHORT st.start)))
  unfolding progress_of
  end_short t (closed b) e = absurd (closed_answered b (sym (ap (λ (s : State). s.answer.answered) e) ∙ zero))
  end_short t (came b) e =
      let g = going st b e (fed_by b) refl zero in
      let u : is_end g.progress.stage ≡ false = ap (λ (p : Progress). is_end p.stage) (sym g.progress_is) ∙ t in
      closed-told b (ap (fed_ends (sha256d b)) g.fed ∙ fed_short (sha256d b) g.progress u ∙ ap (λ (p : Progress). refused SHORT p.start) (sym g.progress_is))

  pub end-received : is_end (progress_of st).stage ≡ true → {id : List ℕ} → Finishes (hashing_in st) st.length id
      → Keeps with_end st (resting (answer_of (received st.length st.inputs st.outputs id)))
  unfolding progress_of
  end-received t fin (closed b) e = absurd (closed_answered b (sym (ap (λ (s : State). s.answer.answered) e) ∙ zero))
  end-received t {id} fin (came b) e =
      let g = going st b e (fed_by b) refl zero in
      let u : is_end g.progress.stage ≡ true = ap (λ (p : Progress). is_end p.stage) (sym g.progress_is) ∙ t in
      let is : id ≡ sha256d b = fin b g.hashing_is g.length-is (few b g.progress g.fed u) in
      closed-told b (ap (fed_ends (sha256d b)) g.fed ∙ fed-whole (sha256d b) g.progress u
      ∙ ap₂ (λ (p : Progress) (x : List ℕ). received p.at p.inputs p.outputs x) (sym g.progress_is) (sym is))

-- ---- for the code

pub keeps_by : (after : Calls → Calls) (st : State) {r s : State} → r ≡ s → Keeps after st s → Keeps after st r
keeps_by after st e k c h = e ∙ k c h

pub absorbs_by : {h g x : Hashing} {n : ℕ} (p : List ℕ) → h ≡ g → Absorbs h n p x → Absorbs g n p x
absorbs_by p e k b eh en = k b (e ∙ eh) en

pub finishes_by : {h g : Hashing} {n : ℕ} {id : List ℕ} → h ≡ g → Finishes h n id → Finishes g n id
finishes_by e k b eh en few = k b (e ∙ eh) en few

pub start_is : (h : Hashing) (f : Progress) {st : State} → h ≡ hashing_of [] → f ≡ first → st ≡ open_state h f → st ≡ state_of (came [])
unfolding state_of run
start_is h f eh ef e = e ∙ ap₂ open_state eh ef
