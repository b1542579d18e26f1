-- Bytes one after the other come to what the whole reading gives.
use mathlib.Core.Path.{◌≡◌, refl, sym, ap, ◌∙◌}
use mathlib.Core.List.{List, [], ◌∷◌, ◌++◌}
use mathlib.Core.Bool.{Bool, true, false, true≢false}
use Prim.Native.Nat.{ℕ, suc, ◌+◌, ◌-◌, ◌≤◌, ◌<◌}
use native.Mathlib.Omega.{arith}
use native.Mathlib.Nat.{add-zero, zero-add}
use native.Mathlib.Numerals.{add-one}
use lib.ListN.{length, get_or, take, drop, length-drop, take-append-drop}
use lib.Seq.{drop-cons, length-take-le, take-length}
use lib.Dec.{leb, ltb, eqb}
use borrow.Author.Tests.{le-leb, leb-true, leb-false, ltb-false}
use Rattle.hash.specs.Sha256.{sha256d}
use Rattle.format.specs.Parse.{Parse, pick, each, ended, ok, fault}
use Rattle.format.specs.Transaction.{Transaction, tx_field}
use Rattle.format.proofs.ParseLaws.{onward-told}
use Rattle.format.proofs.TransactionLaws.{tx_told}
use Rattle.format.specs.Id.{txid}
use Rattle.format.specs.declared.refusal.Refusal.{Refusal}
use Rattle.format.specs.declared.refusal.ReadRefusal.{ReadRefusal}
use Rattle.format.specs.Refusals.{refusal_number, TOO_LONG, SHORT, EXTRA}
use Rattle.stream.specs.declared.progress.Stage.{Stage}
use Rattle.stream.specs.declared.progress.Progress.{Progress}
use Rattle.std.specs.Prelude.{Ok, Err}
use Rattle.stream.specs.Parts.{too_long, reading, Said, more, refused, received, part_says, end_says}
use Rattle.stream.specs.Progress.{Fed, is_number, is_end, first, begin, one_passed, count_inputs, count_outputs, after_input, after_output, after_lock_time, next_at, next, moved, passed, shift_in, scaled, least, numbered, announce, shifted, first_digit, later_digit, digit, taken, fed, feed, run}
use Rattle.stream.proofs.Rest.{Counts, counts_of, version_rest, then_at, run_left, rest, rest_of, ending}
use Rattle.stream.proofs.RestLaws.{whole-rest, fed-rest, rest-done}
use Rattle.format.specs.Field.{bytes}

-- ---- what holds after every byte: the bytes so far are counted, a field has a byte to come, and no refusal is 2

abbrev pub Fair : Fed → ℕ → Type 0
Fair (Ok f) at = (f.at ≡ at) × (is_end f.stage ≡ false → 1 ≤ f.need)
Fair (Err r) at = eqb (refusal_number r.refusal) SHORT ≡ false

fair_begin : (stage : Stage) (need : ℕ) (f : Progress) (at : ℕ) → f.at ≡ at → 1 ≤ need → Fair (Ok (begin stage need f)) at
unfolding begin
fair_begin stage need f at e h = (e, λ _. h)

fair_pick : (t : Bool) (m m' : Fed) (at : ℕ) → (t ≡ true → Fair m at) → (t ≡ false → Fair m' at) → Fair (pick t m m') at
fair_pick true m m' at h k = h refl
fair_pick false m m' at h k = k refl

fair_input : (f : Progress) → Fair (after_input f) f.at
unfolding after_input one_passed
fair_input f = fair_pick (leb f.left 1) _ _ f.at (λ _. fair_begin Stage.OutputCount 1 f _ refl (omega arith)) (λ _. fair_begin Stage.Parent 32 (one_passed f) _ refl (omega arith))

fair_output : (f : Progress) → Fair (after_output f) f.at
unfolding after_output one_passed
fair_output f = fair_pick (leb f.left 1) _ _ f.at (λ _. fair_begin Stage.LockTime 4 f _ refl (omega arith)) (λ _. fair_begin Stage.Amount 8 (one_passed f) _ refl (omega arith))

fair_lock_time : (f : Progress) → Fair (after_lock_time f) f.at
unfolding after_lock_time begin
fair_lock_time f = fair_pick (eqb f.at 64) _ _ f.at (λ _. refl) (λ _. (refl, λ h. absurd (true≢false h)))

fair_next : (stage : Stage) (f : Progress) (v : ℕ) → Fair (next_at stage f v) f.at
unfolding next_at begin count_inputs count_outputs
fair_next Stage.Version f v = (refl, λ _. omega arith)
fair_next Stage.InputCount f v = fair_pick (leb 1 v) _ _ f.at (λ _. (refl, λ _. omega arith)) (λ _. refl)
fair_next Stage.Parent f v = (refl, λ _. omega arith)
fair_next Stage.OutputNumber f v = (refl, λ _. omega arith)
fair_next Stage.InputLength f v = fair_pick (leb 1 v) _ _ f.at (λ h. (refl, λ _. leb-true 1 v h)) (λ _. (refl, λ _. omega arith))
fair_next Stage.InputScript f v = (refl, λ _. omega arith)
fair_next Stage.Sequence f v = fair_input f
fair_next Stage.OutputCount f v = fair_pick (leb 1 v) _ _ f.at (λ _. (refl, λ _. omega arith)) (λ _. refl)
fair_next Stage.Amount f v = (refl, λ _. omega arith)
fair_next Stage.OutputLength f v = fair_pick (leb 1 v) _ _ f.at (λ h. (refl, λ _. leb-true 1 v h)) (λ _. fair_output f)
fair_next Stage.OutputScript f v = fair_output f
fair_next Stage.LockTime f v = fair_lock_time f
fair_next Stage.End f v = (refl, λ h. absurd (true≢false h))

fair_digit : (f : Progress) (x : ℕ) → Fair (digit f x) (f.at + 1)
unfolding digit first_digit later_digit numbered next moved announce shifted
fair_digit f x =
    fair_pick (eqb f.width 0) _ _ _
    (λ _. fair_pick (ltb x 253) _ _ _ (λ _. fair_next f.stage (moved f 1) x) (λ _. (refl, λ _. some (eqb x 253) (eqb x 254))))
    (λ _. fair_pick (leb f.need 1) _ _ _
    (λ _. fair_pick (leb (least f.width) (scaled f.width (shift_in f.value x))) _ _ _ (λ _. fair_next f.stage (shifted f x) _) (λ _. refl))
    (λ h. (refl, λ _. let g = leb-false f.need 1 h in omega arith)))
  where
    some : (a b : Bool) → 1 ≤ pick a 2 (pick b 4 8)
    some true b = omega arith
    some false true = omega arith
    some false false = omega arith

fair_passed : (f : Progress) → Fair (passed f 1) (f.at + 1)
unfolding passed next moved
fair_passed f =
    fair_pick (leb f.need 1) _ _ _ (λ _. fair_next f.stage (moved f 1) 0) (λ h. (refl, λ _. let g = leb-false f.need 1 h in omega arith))

fair_fed : (size : ℕ) (f : Progress) (x : ℕ) → Fair (fed size f x) (f.at + 1)
unfolding taken
fair_fed size f x =
    fair_pick (leb size f.at) _ _ _ (λ _. refl)
    (λ _. fair_pick (is_end f.stage) _ _ _ (λ _. refl)
    (λ _. fair_pick (is_number f.stage) _ _ _ (λ _. fair_digit f x) (λ _. fair_passed f)))

fair_feed : (size : ℕ) (m : Fed) (at x : ℕ) → Fair m at → Fair (feed size m x) (at + 1)
fair_feed size (Ok f) at x h = rw (← h.0) (fair_fed size f x)
fair_feed size (Err r) at x h = h

pub run_fair : (size : ℕ) (l : List ℕ) (m : Fed) (at : ℕ) → Fair m at → Fair (run size m l) (at + length l)
unfolding run
run_fair size [] m at h = rw add-zero h
run_fair size (x ∷ l) m at h = let e : at + 1 + length l ≡ at + suc (length l) = omega arith in rw (← e) (run_fair size l (feed size m x) (at + 1) (fair_feed size m at x h))

-- ---- a cut changes nothing

pub run_append : (size : ℕ) (a b : List ℕ) (m : Fed) → run size m (a ++ b) ≡ run size (run size m a) b
unfolding run
run_append size [] b m = refl
run_append size (x ∷ a) b m = run_append size a b (feed size m x)

pub run-refused : (size : ℕ) (l : List ℕ) (r : ReadRefusal) → ◌≡◌ {A = Fed} (run size (Err r) l) (Err r)
unfolding run
run-refused size [] r = refl
run-refused size (x ∷ l) r = run-refused size l r

-- ---- all bytes

module _ (s : List ℕ) (size : ℕ) (fits : length s ≤ size) where
  feed-rest : (m : Fed) (at : ℕ) → Fair m at → at < length s → rest_of m s ≡ rest_of (feed size m (get_or s at 0)) s
  feed-rest (Ok f) at h l = let e = h.0 in rw (← e) (fed-rest s size f h.1 (omega arith) (omega arith))
  feed-rest (Err r) at h l = refl

  run-rest : (l : List ℕ) (m : Fed) (at : ℕ) → Fair m at → drop at s ≡ l → at ≤ length s → rest_of m s ≡ ending (run size m l)
  unfolding run
  run-rest [] m at h e g = done m h
    where
      past : length s ≤ at
      past = let z : length s - at ≡ 0 = sym (length-drop at s) ∙ ap length e in omega arith

      done : (m : Fed) → Fair m at → rest_of m s ≡ ending m
      done (Ok f) h = let w = h.0 in rest-done s f h.1 (omega (arith, past))
      done (Err r) h = refl
  run-rest (x ∷ l) m at h e g =
      let z : length s - at ≡ suc (length l) = sym (length-drop at s) ∙ ap length e in
      let less : at < length s = omega arith in
      let c = sym (drop-cons s at 0 less) ∙ e in
      let head : get_or s at 0 ≡ x = cc in
      let tail : drop (suc at) s ≡ l = cc in
      feed-rest m at h less ∙ rw head (run-rest l (feed size m x) (at + 1) (fair_feed size m at x h) (rw add-one tail) (omega arith))

  first_rest : rest_of (Ok first) s ≡ version_rest s 0
  unfolding rest run_left bytes then_at version_rest
  first_rest = refl

  pub run-whole : each counts_of (ended tx_field s 0) ≡ ending (run size (Ok first) s)
  run-whole = whole-rest s ∙ sym first_rest ∙ run-rest s (Ok first) 0 (refl, λ _. omega arith) refl (omega arith)

-- ---- any size

each_late : (p : Parse Transaction) → each counts_of (too_long p) ≡ too_long (each counts_of p)
unfolding each
each_late (ok t at) = refl
each_late (fault n at) = go (eqb n SHORT)
  where
    go : (t : Bool) → each counts_of (pick t (fault TOO_LONG 0) (fault n at)) ≡ pick t (fault TOO_LONG 0) (fault n at)
    go true = refl
    go false = refl

full : (size : ℕ) (m : Fed) (x : ℕ) (l : List ℕ) → Fair m size → too_long (ending m) ≡ ending (run size m (x ∷ l))
unfolding run taken
full size (Ok f) x l h =
    rw (le-leb size f.at (let e = h.0 in omega arith), run-refused size l (record { refusal = Refusal.TooLong; place = 0 })) (go (is_end f.stage))
  where
    go : (t : Bool) → too_long {A = Counts} (pick t (ok (record { size = f.at; inputs = f.inputs; outputs = f.outputs }) f.at) (fault SHORT f.start)) ≡ fault TOO_LONG 0
    go true = refl
    go false = refl
full size (Err r) x l h = rw (run-refused size l r, h)

-- the reading of the bytes so far is what they came to one by one
pub reading-run : (size : ℕ) (b : List ℕ) → each counts_of (reading size b) ≡ ending (run size (Ok first) b)
unfolding reading
reading-run size b = go (leb (length b) size) refl
  where
    m : Fed
    m = run size (Ok first) (take size b)

    go : (t : Bool) → leb (length b) size ≡ t → each counts_of (pick t (ended tx_field b 0) (too_long (ended tx_field (take size b) 0))) ≡ ending (run size (Ok first) b)
    go true e = run-whole b size (leb-true _ _ e)
    go false e =
        let over : size < length b = leb-false _ _ e in
        let short : length (take size b) ≡ size = length-take-le size b (omega arith) in
        let fair : Fair m size = rw (short, zero-add) at (run_fair size (take size b) (Ok first) 0 (refl, λ _. omega arith)) in
        let cut : run size m (drop size b) ≡ run size (Ok first) b = sym (run_append size (take size b) (drop size b) (Ok first)) ∙ ap (run size (Ok first)) (take-append-drop size b) in
        each_late (ended tx_field (take size b) 0) ∙ ap too_long (run-whole (take size b) size (omega arith))
        ∙ rw (← cut, drop-cons b size 0 over) (full size m (get_or b size 0) (drop (suc size) b) fair)

-- ---- what the calls answer

-- what a part says, and the end call, by what the bytes came to
abbrev pub fed_says : Fed → Said
fed_says (Ok f) = more
fed_says (Err r) = refused (refusal_number r.refusal) r.place

abbrev pub fed_ends : List ℕ → Fed → Said
fed_ends id (Ok f) = pick (is_end f.stage) (received f.at f.inputs f.outputs id) (refused SHORT f.start)
fed_ends id (Err r) = refused (refusal_number r.refusal) r.place

ok-fault : {A : Type 0} {a : A} {n p q : ℕ} → ok a p ≡ fault n q → ⊥
ok-fault e = let z : ◌≡◌ {A = ℕ} 0 1 = cc in omega arith

part_like : (p : Parse Transaction) (m : Fed) (at : ℕ) → Fair m at → each counts_of p ≡ ending m → part_says p ≡ fed_says m
unfolding each
part_like (ok t q) (Ok f) at h e = refl
part_like (ok t q) (Err r) at h e = absurd (ok-fault e)
part_like (fault n q) (Ok f) at h e = go (is_end f.stage) e
  where
    go : (t : Bool) → ◌≡◌ {A = Parse Counts} (fault n q) (pick t (ok (record { size = f.at; inputs = f.inputs; outputs = f.outputs }) f.at) (fault SHORT f.start)) → pick (eqb n SHORT) more (refused n q) ≡ more
    go true e = absurd (ok-fault (sym e))
    go false e = let z : n ≡ SHORT = cc in rw z
part_like (fault n q) (Err r) at h e =
    let z : n ≡ refusal_number r.refusal = cc in
    let w : q ≡ r.place = cc in
    rw (z, w, h)

end_like : (b : List ℕ) (p : Parse Transaction) (m : Fed) → ((t : Transaction) (q : ℕ) → p ≡ ok t q → txid b t ≡ sha256d b) → each counts_of p ≡ ending m → end_says b p ≡ fed_ends (sha256d b) m
unfolding each
end_like b (ok t q) (Ok f) h e = go (is_end f.stage) e
  where
    go : (u : Bool) → ◌≡◌ {A = Parse Counts} (ok (counts_of t) q) (pick u (ok (record { size = f.at; inputs = f.inputs; outputs = f.outputs }) f.at) (fault SHORT f.start))
        → received t.end (length t.inputs) (length t.outputs) (txid b t) ≡ pick u (received f.at f.inputs f.outputs (sha256d b)) (refused SHORT f.start)
    go true e =
        let c : counts_of t ≡ record { size = f.at; inputs = f.inputs; outputs = f.outputs } = cc in
        let c1 = ap (λ (x : Counts). x.size) c in
        let c2 = ap (λ (x : Counts). x.inputs) c in
        let c3 = ap (λ (x : Counts). x.outputs) c in
        rw (h t q refl, c1, c2, c3)
    go false e = absurd (ok-fault e)
end_like b (ok t q) (Err r) h e = absurd (ok-fault e)
end_like b (fault n q) (Ok f) h e = go (is_end f.stage) e
  where
    go : (u : Bool) → ◌≡◌ {A = Parse Counts} (fault n q) (pick u (ok (record { size = f.at; inputs = f.inputs; outputs = f.outputs }) f.at) (fault SHORT f.start))
        → refused n q ≡ pick u (received f.at f.inputs f.outputs (sha256d b)) (refused SHORT f.start)
    go true e = absurd (ok-fault (sym e))
    go false e =
        let z : n ≡ SHORT = cc in
        let w : q ≡ f.start = cc in
        rw (z, w)
end_like b (fault n q) (Err r) h e =
    let z : n ≡ refusal_number r.refusal = cc in
    let w : q ≡ r.place = cc in
    rw (z, w)

-- what was read is all the bytes that came
pub reading-told : (size : ℕ) (b : List ℕ) {t : Transaction} {q : ℕ} → reading size b ≡ ok t q → (length b ≤ size) × (t.start ≡ 0) × (t.end ≡ length b)
unfolding reading
reading-told size b {t} {q} e = go (leb (length b) size) refl e
  where
    late : (p : Parse Transaction) → too_long p ≡ ok t q → ⊥
    late (ok u r) e = ok-fault (sym e)
    late (fault n r) e = pick_late (eqb n SHORT) e
      where
        pick_late : (v : Bool) → ◌≡◌ {A = Parse Transaction} (pick v (fault TOO_LONG 0) (fault n r)) (ok t q) → ⊥
        pick_late true e = ok-fault (sym e)
        pick_late false e = ok-fault (sym e)

    last : (u : Transaction) (r : ℕ) → tx_field b 0 ≡ ok u r → (v : Bool) → ltb r (length b) ≡ v → ◌≡◌ {A = Parse Transaction} (pick v (fault EXTRA r) (ok u r)) (ok t q) → (t.start ≡ 0) × (t.end ≡ length b)
    last u r h true w e = absurd (ok-fault (sym e))
    last u r h false w e =
        let x = tx_told b 0 h in
        let z : u ≡ t = cc in
        let g = ltb-false r (length b) w in
        let i = x.inside in
        let j : u.end ≡ length b = omega (arith, x.end_is) in
        rw (← z) (x.start_is, j)

    go : (v : Bool) → leb (length b) size ≡ v → pick v (ended tx_field b 0) (too_long (ended tx_field (take size b) 0)) ≡ ok t q → (length b ≤ size) × (t.start ≡ 0) × (t.end ≡ length b)
    go true h e =
        let x = onward-told (tx_field b 0) _ e in
        let y = last x.0 x.1 x.2 (ltb x.1 (length b)) refl x.3 in
        (leb-true _ _ h, y.0, y.1)
    go false h e = absurd (late (ended tx_field (take size b) 0) e)

pub reading-id : (size : ℕ) (b : List ℕ) (t : Transaction) (q : ℕ) → reading size b ≡ ok t q → txid b t ≡ sha256d b
unfolding txid
reading-id size b t q e =
    let x = reading-told size b e in
    let n : t.end - t.start ≡ length b = omega (arith, x.1, x.2) in
    rw (n, x.1) (ap sha256d (take-length b))

pub part-told : (size : ℕ) (b : List ℕ) → part_says (reading size b) ≡ fed_says (run size (Ok first) b)
part-told size b = part_like (reading size b) (run size (Ok first) b) (0 + length b) (run_fair size b (Ok first) 0 (refl, λ _. omega arith)) (reading-run size b)

pub end-told : (size : ℕ) (b : List ℕ) → end_says b (reading size b) ≡ fed_ends (sha256d b) (run size (Ok first) b)
end-told size b = end_like b (reading size b) (run size (Ok first) b) (reading-id size b) (reading-run size b)
