-- A loop that judges transactions from the first, and reads each as it comes: what holds after i of n.
use Prim.Native.Nat.{ℕ, zero, suc, ◌+◌, ◌-◌, ◌*◌, ◌<◌, ◌≤◌}
use mathlib.Core.Path.{◌≡◌, refl, sym, ap, ◌∙◌}
use mathlib.Core.List.{List, [], ◌∷◌, ◌++◌, map, append-nil}
use native.Mathlib.Nat.{sub-zero}
use native.Mathlib.Numerals.{add-one}
use native.Mathlib.Omega.{arith}
use mathlib.Core.Bool.{Bool, true, false}
use lib.Dec.{ltb}
use lib.ListN.{length, get_or, take, drop, length-drop, take-append-drop, get_or-append}
use lib.Seq.{paste, take-paste, length-paste, take-suc, take-add, take-take, length-take-le, get_or-take, get_or-append-add}
use borrow.Author.Tests.{ltb-true, ltb-false}
use Rattle.std.specs.Prelude.{Option, None, Ok, Err, Some}
use Rattle.format.specs.declared.bump.BumpHead.{BumpHead}
use Rattle.format.specs.declared.transaction.TxHead.{TxHead}
use Rattle.format.specs.declared.beef.EntryHead.{EntryHead}
use Rattle.format.specs.Parse.{each, ok, fault, pick}
use Rattle.format.specs.Bytes.{hash_at}
use Rattle.format.proofs.BytesLaws.{hash-there}
use Rattle.format.specs.Beef.{entry_field}
use Rattle.format.specs.BeefAnswer.{entry_head_of}
use Rattle.format.proofs.IdLaws.{span-length}
use Rattle.format.specs.BeefAnswer.{no_bump}
use Rattle.format.specs.Refusals.{MAX_TXS, MAX_BUMPS, BAD_INDEX, SAME_TX, NO_PARENT}
use Rattle.bundle.specs.declared.table.Record.{Record}
use Rattle.spv.specs.declared.rejection.Rejection.{Rejection}
use Rattle.spv.specs.Result.{accepted, refused, carrying, blaming}
use Rattle.bundle.specs.Table.{flat_head, flat, IDS_ROOM, NUMBERS_ROOM}
use Rattle.bundle.proofs.TableLaws.{flat-more}
use Rattle.spv.specs.Hashes.{hashes_of, among}
use Rattle.bundle.specs.Amounts.{is_anchored}
use Rattle.bundle.specs.FlatForm.{column}
use Rattle.bundle.specs.declared.judge.Standing.{Standing}
use Rattle.bundle.specs.Bundle.{Judgement, judge_from, trusted, standing}
use Rattle.format.proofs.Basics.{one_less}
use Rattle.spv.proofs.HashesLaws.{hashes-more, hashes_empty, taken-length}
use Rattle.bundle.proofs.BundleLaws.{followed, followed_ahead, followed_none, from_refuses, from_passes, from_none}
use Rattle.bundle.proofs.BundleTheorems.{trusted-told}
use Rattle.bundle.specs.BundleHeads.{numbers_of, head_total, rests_from, head_proving, head_anchoring, head_ruling, heads_from, head_id, head_stands, head_row, flag_of, no_head, RowIs, Written}
use Rattle.bundle.specs.BundleAnswer.{judgement_of}

-- ---- lists

dropped : {A : Type 0} (l : List A) (i : ℕ) (x : A) (m : List A) (d : A) → drop i l ≡ x ∷ m → (i < length l) × (get_or l i d ≡ x) × (drop (suc i) l ≡ m)
dropped [] zero x m d e = absurd (let z = ap length e in omega arith)
dropped [] (suc i) x m d e = absurd (let z = ap length e in omega arith)
dropped (y ∷ l) zero x m d e = (omega arith, cc, cc)
dropped (y ∷ l) (suc i) x m d e = let w = dropped l i x m d e in (omega (arith, w.0), w.1, w.2)

map_last : {A B : Type 0} (f : A → B) (l : List A) (x : A) → map f (l ++ (x ∷ [])) ≡ map f l ++ (f x ∷ [])
map_last f [] x = refl
map_last f (y ∷ l) x = ap (f y ∷◌) (map_last f l x)

-- what is pasted at a place, and what stands before it
module _ (d : List ℕ) (at : ℕ) (y : List ℕ) (n : ℕ) (low : at ≤ length d) (long : n ≤ length y) where
  paste-before : (j : ℕ) → j < at → get_or (paste d at y n) j 0 ≡ get_or d j 0
  paste-before j h =
      sym (get_or-take (at + n) (paste d at y n) j 0 (omega arith)) ∙ ap (λ (l : List ℕ). get_or l j 0) (take-paste d at y n low long)
      ∙ get_or-append (take at d) (take n y) 0 j (omega (arith, h, length-take-le at d low)) ∙ get_or-take at d j 0 h

  paste_in : (c : ℕ) → c < n → get_or (paste d at y n) (at + c) 0 ≡ get_or y c 0
  paste_in c h =
      sym (get_or-take (at + n) (paste d at y n) (at + c) 0 (omega arith)) ∙ ap (λ (l : List ℕ). get_or l (at + c) 0) (take-paste d at y n low long)
      ∙ ap (λ (k : ℕ). get_or (take at d ++ take n y) (k + c) 0) (sym (length-take-le at d low)) ∙ get_or-append-add (take at d) (take n y) c 0 ∙ get_or-take n y c 0 h

-- what stands at a place, pasted there again
paste_self : (d : List ℕ) (at : ℕ) (x : List ℕ) (n : ℕ) → take n (drop at d) ≡ x → paste d at x n ≡ d
paste_self d at x n e =
    ap (λ (l : List ℕ). take at d ++ take n l ++ drop (at + n) d) (sym e)
    ∙ ap (λ (l : List ℕ). take at d ++ l ++ drop (at + n) d) (take-take n n (drop at d) (omega arith))
    ∙ ap (λ (l : List ℕ). l ++ drop (at + n) d) (sym (take-add at n d))
    ∙ take-append-drop (at + n) d

-- ---- rows of the flat form

row_kept : (s numbers y : List ℕ) (i k : ℕ) (e : EntryHead) → 10 * i ≤ length numbers → 10 ≤ length y → k < i → RowIs s numbers k e → RowIs s (paste numbers (10 * i) y 10) k e
row_kept s numbers y i k e low long h r = record {
  flag = at 3 (omega arith) ∙ r.flag;
  outputs = at 5 (omega arith) ∙ r.outputs;
  totals = at 6 (omega arith) ∙ r.totals;
  inputs = at 7 (omega arith) ∙ r.inputs;
  inputs_at = at 8 (omega arith) ∙ r.inputs_at;
  outputs_at = at 9 (omega arith) ∙ r.outputs_at;
}
  where
    at : (c : ℕ) → c < 10 → column (paste numbers (10 * i) y 10) c k ≡ column numbers c k
    at c g = paste-before numbers (10 * i) y 10 low long (10 * k + c) (omega arith)

row_new : (s numbers : List ℕ) (i : ℕ) (e : EntryHead) (st : Standing) → 10 * i ≤ length numbers → st.anchored ≡ flag_of (is_anchored e.anchor)
    → RowIs s (paste numbers (10 * i) (numbers_of e.transaction (head_total s e.transaction) st) 10) i e
row_new s numbers i e st low f = record {
  flag = at 3 (omega arith) ∙ f;
  outputs = at 5 (omega arith);
  totals = at 6 (omega arith);
  inputs = at 7 (omega arith);
  inputs_at = at 8 (omega arith);
  outputs_at = at 9 (omega arith);
}
  where
    y : List ℕ
    y = numbers_of e.transaction (head_total s e.transaction) st

    at : (c : ℕ) → c < 10 → column (paste numbers (10 * i) y 10) c i ≡ get_or y c 0
    at c g = paste_in numbers (10 * i) y 10 low (omega arith) c g

-- what is written of an anchor
head_flag : (s roots : List ℕ) (bumps : List BumpHead) (earlier : List (List ℕ)) (e : EntryHead) (st : Standing) → head_stands s roots bumps earlier e ≡ Ok st → st.anchored ≡ flag_of (is_anchored e.anchor)
unfolding head_ruling head_anchoring
head_flag s roots bumps earlier e st t = go (among (head_id s e) earlier) t
  where
    free : (r : Bool) → pick r (Ok (standing 0 0 0)) (Err (carrying NO_PARENT 0)) ≡ Ok st → st.anchored ≡ 0
    free true q = let none : st ≡ standing 0 0 0 = cc in ap (λ (x : Standing). x.anchored) none
    free false q = absurd (let z : ◌≡◌ {A = ℕ} 0 1 = cc in omega arith)

    named : (n : ℕ) (r : Bool) → pick r (trusted roots n (head_proving s (get_or bumps n no_bump) (head_id s e))) (Err (carrying BAD_INDEX 0)) ≡ Ok st → st.anchored ≡ 1
    named n true q = ap (λ (x : Standing). x.anchored) (trusted-told roots n (head_proving s (get_or bumps n no_bump) (head_id s e)) st q).3
    named n false q = absurd (let z : ◌≡◌ {A = ℕ} 0 1 = cc in omega arith)

    by : (x : Option ℕ) → head_anchoring s roots bumps earlier (head_id s e) e.transaction x ≡ Ok st → st.anchored ≡ flag_of (is_anchored x)
    by (Some n) q = named n (ltb n MAX_BUMPS) q
    by None q = free (rests_from s earlier e.transaction.inputs.count e.transaction.inputs.at.at) q

    go : (r : Bool) → pick r (Err (carrying SAME_TX 0)) (head_anchoring s roots bumps earlier (head_id s e) e.transaction e.anchor) ≡ Ok st → st.anchored ≡ flag_of (is_anchored e.anchor)
    go true q = absurd (let z : ◌≡◌ {A = ℕ} 0 1 = cc in omega arith)
    go false q = by e.anchor q

-- ---- the loop

module _ (s roots : List ℕ) (bumps : List BumpHead) (count n start : ℕ) where
  abbrev from : List (List ℕ) → List EntryHead → Judgement
  from = judge_from (head_id s) (head_stands s roots bumps) (head_row s)

  -- the ids before the i-th, and the transactions from it on
  abbrev earlier : List ℕ → ℕ → List (List ℕ)
  earlier ids i = hashes_of (take (32 * i) ids)

  abbrev rest : ℕ → ℕ → List EntryHead
  rest i at = heads_from count s (n - i) at

  abbrev all : List EntryHead
  all = heads_from count s n start

  abbrev whole : Judgement
  whole = from [] all

  -- the first i are in the flat form, and the next is read at a place
  pub record Judging (ids numbers : List ℕ) (i at : ℕ) : Type 0 where
    pub done : i ≤ n
    pub wide : IDS_ROOM ≤ length ids
    pub long : NUMBERS_ROOM ≤ length numbers
    pub kept : followed (flat i ids numbers) (from (earlier ids i) (rest i at)) ≡ whole
    pub rest-is : drop i all ≡ rest i at
    pub written : Written s ids numbers all i

  pub judging_start : {ids numbers : List ℕ} → IDS_ROOM ≤ length ids → NUMBERS_ROOM ≤ length numbers → Judging ids numbers 0 start
  unfolding flat
  judging_start {ids} h f = record {
    done = omega arith;
    wide = h;
    long = f;
    kept = followed_none (from (earlier ids 0) (rest 0 start)) ∙ ap (λ (l : List (List ℕ)). from l (rest 0 start)) hashes_empty ∙ ap (λ (k : ℕ). from [] (heads_from count s k start)) (sub-zero n);
    rest-is = ap (λ (k : ℕ). heads_from count s k start) (sym (sub-zero n));
    written = record { few = omega arith; wide = omega arith; long = omega arith; ids_are = hashes_empty; row_is = λ k low. absurd (omega arith) };
  }

  module _ {ids numbers : List ℕ} {i at : ℕ} (j : Judging ids numbers i at) where
    pub judging_end : n ≤ i → judgement_of (Ok i) ids numbers ≡ whole
    unfolding judgement_of followed heads_from
    judging_end past =
        let none : rest i at ≡ [] = let all_done : n - i ≡ 0 = omega arith in rw all_done in
        ap accepted (sym (append-nil (flat i ids numbers)))
        ∙ ap (followed (flat i ids numbers)) (sym (ap (from (earlier ids i)) none ∙ from_none (head_id s) (head_stands s roots bumps) (head_row s) (earlier ids i)))
        ∙ j.kept

    module _ (few : n ≤ MAX_TXS) (low : i < n) where
      -- where all can be read the next one can
      pub judging_reads : length all ≡ n → {k q : ℕ} → each entry_head_of (entry_field count s at) ≡ fault k q → ⊥
      unfolding heads_from
      judging_reads every e =
          let none : rest i at ≡ [] = rw (one_less n i low) (rw e) in
          let left : length (drop i all) ≡ 0 = ap length (j.rest-is ∙ none) in
          omega (arith, length-drop i all)

      module _ {e : EntryHead} {q : ℕ} (read : each entry_head_of (entry_field count s at) ≡ ok e q) where
        next : rest i at ≡ e ∷ rest (i + 1) q
        unfolding heads_from
        next = rw (one_less n i low) (rw read)

        pub judging_refused : {why : Rejection} → head_stands s roots bumps (earlier ids i) e ≡ Err why → judgement_of (Err (blaming i why)) ids numbers ≡ whole
        unfolding judgement_of followed
        judging_refused {why} t =
            ap (λ (k : ℕ). followed (flat i ids numbers) (refused (blaming k why))) (sym (taken-length i ids (let w = j.wide in omega arith)))
            ∙ ap (followed (flat i ids numbers)) (sym (ap (from (earlier ids i)) next ∙ from_refuses (head_id s) (head_stands s roots bumps) (head_row s) (earlier ids i) e (rest (i + 1) q) why t))
            ∙ j.kept

        passes_on : {st : Standing} → head_stands s roots bumps (earlier ids i) e ≡ Ok st → hash_at ids (32 * i) ≡ head_id s e
            → Judging ids (paste numbers (10 * i) (numbers_of e.transaction (head_total s e.transaction) st) 10) (i + 1) q
        passes_on {st} t is = record {
          done = omega arith;
          wide = j.wide;
          long = let w = length-paste numbers (10 * i) y 10 within (omega arith) in let o = j.long in omega arith;
          kept =
              ap (λ (l : List Record). followed l (from (earlier ids (i + 1)) (rest (i + 1) q))) (ap (λ (l : List ℕ). flat (i + 1) l numbers') (sym again) ∙ flat-more i ids numbers x y inside within known refl)
              ∙ ap (λ (l : List (List ℕ)). followed (flat i ids numbers ++ (flat_head x y ∷ [])) (from l (rest (i + 1) q))) one_further
              ∙ sym (followed_ahead (flat i ids numbers) (flat_head x y) (from (earlier ids i ++ (x ∷ [])) (rest (i + 1) q)))
              ∙ ap (followed (flat i ids numbers)) (sym (ap (from (earlier ids i)) next ∙ from_passes (head_id s) (head_stands s roots bumps) (head_row s) (earlier ids i) e (rest (i + 1) q) st t))
              ∙ j.kept;
          rest-is = ap (λ (k : ℕ). drop k all) (add-one i) ∙ here.2;
          written = record {
            few = omega (arith, here.0);
            wide = omega (arith, inside);
            long = let w = length-paste numbers (10 * i) y 10 within (omega arith) in omega arith;
            ids_are =
                one_further ∙ ap (λ (l : List (List ℕ)). l ++ (x ∷ [])) j.written.ids_are
                ∙ sym (ap (λ (k : ℕ). map (head_id s) (take k all)) (add-one i) ∙ ap (map (head_id s)) (take-suc all i no_head here.0 ∙ ap (λ (h : EntryHead). take i all ++ (h ∷ [])) here.1) ∙ map_last (head_id s) (take i all) e);
            row_is = rows;
          };
        }
          where
            here : (i < length all) × (get_or all i no_head ≡ e) × (drop (suc i) all ≡ rest (i + 1) q)
            here = dropped all i e (rest (i + 1) q) no_head (j.rest-is ∙ next)

            x : List ℕ
            x = head_id s e

            y : List ℕ
            y = numbers_of e.transaction (head_total s e.transaction) st

            numbers' : List ℕ
            numbers' = paste numbers (10 * i) y 10

            known : length x ≡ 32
            known = span-length s e.transaction.start e.transaction.end

            inside : 32 * i + 32 ≤ length ids
            inside = let o = j.wide in omega arith

            within : 10 * i + 10 ≤ length numbers
            within = let o = j.long in omega arith

            there : take 32 (drop (32 * i) ids) ≡ x
            there = sym (hash-there ids (32 * i) inside) ∙ is

            again : paste ids (32 * i) x 32 ≡ ids
            again = paste_self ids (32 * i) x 32 there

            one_further : earlier ids (i + 1) ≡ earlier ids i ++ (x ∷ [])
            one_further =
                let next-id : 32 * (i + 1) ≡ 32 * i + 32 = omega arith in
                ap (λ (k : ℕ). hashes_of (take k ids)) next-id
                ∙ ap hashes_of (take-add (32 * i) 32 ids ∙ ap (λ (l : List ℕ). take (32 * i) ids ++ l) there)
                ∙ hashes-more i (take (32 * i) ids) x (length-take-le (32 * i) ids (omega arith)) known

            rows : (k : ℕ) → k < i + 1 → RowIs s (paste numbers (10 * i) y 10) k (get_or all k no_head)
            rows k h = go (ltb k i) refl
              where
                go : (b : Bool) → ltb k i ≡ b → RowIs s (paste numbers (10 * i) y 10) k (get_or all k no_head)
                go true u = let low : k < i = ltb-true k i u in row_kept s numbers y i k (get_or all k no_head) (omega (arith, within)) (omega arith) low (j.written.row_is k low)
                go false u =
                    let same : k ≡ i = omega (arith, ltb-false k i u, h) in
                    rw (same, here.1) (row_new s numbers i e st (omega (arith, within)) (head_flag s roots bumps (earlier ids i) e st t))

        pub judging_passes : {st : Standing} {y numbers' : List ℕ} → head_stands s roots bumps (earlier ids i) e ≡ Ok st → hash_at ids (32 * i) ≡ head_id s e → y ≡ numbers_of e.transaction (head_total s e.transaction) st
            → numbers' ≡ paste numbers (10 * i) y 10 → Judging ids numbers' (i + 1) q
        judging_passes t is its new = rw (new, its) (passes_on t is)

-- the numbers with the total that was found
pub numbers_with : (t : TxHead) (st : Standing) {v w : ℕ} → v ≡ w → numbers_of t v st ≡ numbers_of t w st
numbers_with t st e = ap (λ (x : ℕ). numbers_of t x st) e

pub written-again : (s ids numbers : List ℕ) (l : List EntryHead) {k n : ℕ} → k ≡ n → Written s ids numbers l n → Written s ids numbers l k
written-again s ids numbers l e w = rw e w
