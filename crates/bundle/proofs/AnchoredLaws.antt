-- Laws of the transactions that name a BUMP.
use Prim.Native.Nat.{ℕ, zero, suc, ◌+◌, ◌*◌, ◌/◌, ◌%◌, ◌≤◌, ◌<◌}
use mathlib.Core.Path.{◌≡◌, refl, sym, ap, ◌∙◌}
use mathlib.Core.Bool.{Bool, true, false}
use mathlib.Core.List.{List, ◌++◌}
use native.Mathlib.Omega.{arith}
use lib.Dec.{eqb}
use lib.ListN.{length, get_or, set, drop, length-set, get_or-append}
use lib.Seq.{paste, get_or-set_same, get_or-set_other}
use borrow.Author.Count.{below_more}
use borrow.Author.Tests.{eqb-true, eqb-false, eq-eqb, ne_eqb, le-leb}
use Rattle.hash.specs.Sha256.{sha256d}
use Rattle.format.specs.declared.bump.BumpHead.{BumpHead}
use Rattle.format.specs.declared.beef.EntryHead.{EntryHead}
use Rattle.format.specs.Parse.{ok, pick}
use Rattle.format.specs.Bytes.{set_hash, hash_at}
use Rattle.format.proofs.BytesLaws.{set-inside}
use Rattle.format.specs.BeefAnswer.{no_bump}
use Rattle.format.specs.Refusals.{MAX_TXS, UNTRUSTED}
use Rattle.path.specs.declared.path.Path.{Path}
use Rattle.path.specs.Path.{LAYERS, layers_of, bump_path_of, start_in}
use Rattle.spv.specs.declared.rejection.Rejection.{Rejection}
use Rattle.spv.specs.Result.{Result, accepted, refused, carrying, at_sibling}
use Rattle.spv.specs.Climb.{Sibling, Siblings, sibling_position, odd, Step, joins, fails, step, ascend_by, ascend, end_by, end_of}
use Rattle.spv.proofs.ClimbLaws.{ascend-joins, ascend-fails}
use Rattle.spv.specs.Siblings.{path_siblings}
use Rattle.spv.specs.Readings.{starting, path_reading}
use Rattle.spv.specs.Hashes.{hashes_of, among}
use Rattle.spv.specs.Shapes.{proved_of}
use Rattle.spv.specs.Rows.{rows}
use Rattle.spv.proofs.RowsLaws.{rows-length, rows_at}
use Rattle.spv.specs.declared.prove.Proved.{Proved}
use Rattle.climbs.specs.Proofs.{has_room, fits, id_at, joins_in, starts_of, states_of, roots_of, costs_of, proved_at}
use Rattle.climbs.proofs.RowLaws.{fails-number}
use Rattle.climbs.proofs.ProofsLaws.{rows-proved}
use Rattle.spv.proofs.Stored.{stored_here, stored_other}
use Rattle.bundle.specs.Bundle.{trusted, Ruling, standing}
use Rattle.bundle.specs.BundleHeads.{head_id, head_proving}
use Rattle.bundle.proofs.BundleHeadLaws.{head_proving_lem}
use Rattle.bundle.specs.Ahead.{anchor_of, entry_at, span_id, span_of, Onward, IdsFrom, AnchorsFrom}
use Rattle.bundle.proofs.AheadLaws.{onward-here, span-low}
use Rattle.bundle.specs.Anchored.{end_number, end_layer, end_place, put_four, put_end, ruling_by, ruling_at, joins_at, mined_by, mined_joins, Right, Unnamed, HoldIds, Gathered, Settled, SettlesRows, Risen, EndsFrom, JoinsFrom, Mined}
use Rattle.spv.specs.Prove.{hits, settle, Proof, proof_of, prove_by, prove, any}
use Rattle.std.specs.Prelude.{Result as Answer, Ok, Err, Option, Some, None}

-- ---- what is kept

-- four numbers that are put
module _ (ends : List ℕ) (i number layer place joins : ℕ) where
  abbrev one : List ℕ
  one = set ends (4 * i) number

  abbrev two : List ℕ
  two = set one (4 * i + 1) layer

  abbrev three : List ℕ
  three = set two (4 * i + 2) place

  module _ (room : 4 * i + 3 < length ends) where
    first-is : get_or (put_four ends i number layer place joins) (4 * i) 0 ≡ number
    unfolding put_four
    first-is =
        get_or-set_other three (4 * i + 3) (4 * i) joins 0 (λ z. omega arith) ∙ get_or-set_other two (4 * i + 2) (4 * i) place 0 (λ z. omega arith)
        ∙ get_or-set_other one (4 * i + 1) (4 * i) layer 0 (λ z. omega arith) ∙ get_or-set_same ends (4 * i) number 0 (omega arith)

    second_is : get_or (put_four ends i number layer place joins) (4 * i + 1) 0 ≡ layer
    unfolding put_four
    second_is =
        get_or-set_other three (4 * i + 3) (4 * i + 1) joins 0 (λ z. omega arith) ∙ get_or-set_other two (4 * i + 2) (4 * i + 1) place 0 (λ z. omega arith)
        ∙ get_or-set_same one (4 * i + 1) layer 0 (let l = length-set ends (4 * i) number in omega arith)

    third_is : get_or (put_four ends i number layer place joins) (4 * i + 2) 0 ≡ place
    unfolding put_four
    third_is =
        get_or-set_other three (4 * i + 3) (4 * i + 2) joins 0 (λ z. omega arith)
        ∙ get_or-set_same two (4 * i + 2) place 0 (let l = length-set ends (4 * i) number in let m = length-set one (4 * i + 1) layer in omega arith)

    pub put-here : (bump : ℕ) → ruling_at (put_four ends i number layer place joins) bump i ≡ ruling_by bump number layer place
    unfolding ruling_at
    put-here bump = rw (first-is, second_is, third_is)

    pub joins-here : joins_at (put_four ends i number layer place joins) i ≡ joins
    unfolding joins_at put_four
    joins-here =
        get_or-set_same three (4 * i + 3) joins 0
        (let l = length-set ends (4 * i) number in let m = length-set one (4 * i + 1) layer in let n = length-set two (4 * i + 2) place in omega arith)

  past : (j : ℕ) → (j ≡ 4 * i → ⊥) → (j ≡ 4 * i + 1 → ⊥) → (j ≡ 4 * i + 2 → ⊥) → (j ≡ 4 * i + 3 → ⊥) → get_or (put_four ends i number layer place joins) j 0 ≡ get_or ends j 0
  unfolding put_four
  past j a b d e =
      get_or-set_other three (4 * i + 3) j joins 0 e ∙ get_or-set_other two (4 * i + 2) j place 0 d ∙ get_or-set_other one (4 * i + 1) j layer 0 b ∙ get_or-set_other ends (4 * i) j number 0 a

  module _ (k : ℕ) (other : k ≡ i → ⊥) where
    pub put_other : (bump : ℕ) → ruling_at (put_four ends i number layer place joins) bump k ≡ ruling_at ends bump k
    unfolding ruling_at
    put_other bump =
        rw (
          past (4 * k) (λ z. other (omega arith)) (λ z. omega arith) (λ z. omega arith) (λ z. omega arith),
          past (4 * k + 1) (λ z. omega arith) (λ z. other (omega arith)) (λ z. omega arith) (λ z. omega arith),
          past (4 * k + 2) (λ z. omega arith) (λ z. omega arith) (λ z. other (omega arith)) (λ z. omega arith),
        )

    pub joins-other : joins_at (put_four ends i number layer place joins) k ≡ joins_at ends k
    unfolding joins_at
    joins-other = past (4 * k + 3) (λ z. omega arith) (λ z. omega arith) (λ z. omega arith) (λ z. other (omega arith))

-- a ruling that is put, and one that is read again
module _ (ends : List ℕ) (i : ℕ) where
  pub put-refuses : {t : Ruling} {why : Rejection} (m : ℕ) → t ≡ Err why → put_four ends i why.number why.layer why.sibling m ≡ put_end ends i t m
  unfolding end_number end_layer end_place
  put-refuses m e = rw e

  pub put-passes : {t : Ruling} {a n p : ℕ} (m : ℕ) → t ≡ Ok (standing a n p) → put_four ends i 0 0 p m ≡ put_end ends i t m
  unfolding end_number end_layer end_place
  put-passes m e = rw e

  pub at-passes : (bump : ℕ) → get_or ends (4 * i) 0 % 256 ≡ 0 → Ok (standing 1 bump (get_or ends (4 * i + 2) 0)) ≡ ruling_at ends bump i
  unfolding ruling_at ruling_by
  at-passes bump e = rw (eq-eqb (get_or ends (4 * i) 0 % 256) 0 e)

  pub at-refuses : (bump : ℕ) → (get_or ends (4 * i) 0 % 256 ≡ 0 → ⊥)
      → Err (record { number = get_or ends (4 * i) 0 % 256; carried = 0; layer = get_or ends (4 * i + 1) 0; sibling = get_or ends (4 * i + 2) 0 }) ≡ ruling_at ends bump i
  unfolding ruling_at ruling_by
  at-refuses bump e = rw (ne_eqb (get_or ends (4 * i) 0 % 256) 0 e)

-- what proving by a path comes to is told by the three
abbrev pub Told : ℕ → Ruling → Type 0
Told bump t = ruling_by bump (end_number t) (end_layer t) (end_place t) ≡ t

-- a layer fails by 14 or 15
step-told : (bump layer place : ℕ) (x : Sibling) (o : Bool) (c : List ℕ) (number : ℕ) → step x o c ≡ fails number → Told bump (Err (at_sibling number layer place))
unfolding ruling_by end_number end_layer end_place
step-told bump layer place x o c number e =
    let m = fails-number x o c number e in
    let same : number % 256 ≡ number = omega arith in
    rw (ne_eqb (number % 256) 0 (λ z. omega arith), same)

end-told : (bump : ℕ) (σ : Siblings) (k n j : ℕ) (c : List ℕ) (why : Rejection) → end_of c (ascend σ k n j c) ≡ refused why → Told bump (Err why)
unfolding ascend_by end_by
end-told bump σ k zero j c why e = let z : ◌≡◌ {A = ℕ} 0 1 = cc in absurd (omega arith)
end-told bump σ k (suc n) j c why e = go (step (σ k (sibling_position j)) (odd j) c) refl (λ d. end-told bump σ (suc k) n (j / 2) d why)
  where
    go : (t : Step) → step (σ k (sibling_position j)) (odd j) c ≡ t → ((d : List ℕ) → end_of d (ascend σ (suc k) n (j / 2) d) ≡ refused why → Told bump (Err why)) → Told bump (Err why)
    go (joins a b) q above = above (sha256d (a ++ b)) (sym (ap (end_of c) (ascend-joins σ k n j c a b q)) ∙ e)
    go (fails number) q above =
        let w : refused (at_sibling number k (sibling_position j)) ≡ refused why = sym (ap (end_of c) (ascend-fails σ k n j c number q)) ∙ e in
        let y : at_sibling number k (sibling_position j) ≡ why = cc in
        rw (← y) (step-told bump k (sibling_position j) (σ k (sibling_position j)) (odd j) c number q)

-- 13, 14, 15 or 17, or a position
start-told : (roots : List ℕ) (bump : ℕ) (σ : Siblings) (h : ℕ) (id : List ℕ) (start : Option ℕ) → Told bump (trusted roots bump (prove (starting σ h id start)))
unfolding starting prove_by settle hits trusted ruling_by end_number end_layer end_place
start-told roots bump σ h id None = refl
start-told roots bump σ h id (Some i) = go (end_of id (ascend σ 0 h i id)) refl
  where
    listed : (t : Bool) (p : ℕ) → Told bump (pick t (Ok (standing 1 bump p)) (Err (carrying UNTRUSTED 0)))
    listed true p = refl
    listed false p = refl

    go : (v : Result (List ℕ)) → end_of id (ascend σ 0 h i id) ≡ v → Told bump (trusted roots bump (settle any (proof_of σ h i id) v))
    go (accepted r) e = listed (among r (hashes_of roots)) i
    go (refused why) e = end-told bump σ 0 h i id why e

pub mined_told : (s roots : List ℕ) (bumps : List BumpHead) (bump : ℕ) (id : List ℕ) → Told bump (mined_by s roots bumps bump id)
unfolding mined_by head_proving path_reading
mined_told s roots bumps bump id =
    let path : Path = bump_path_of s (get_or bumps bump no_bump) in
    start-told roots bump (path_siblings s path) path.layers id (start_in s path id)

-- ---- rows that are settled

-- of another transaction it says what it said
right_other : (s roots : List ℕ) (bumps : List BumpHead) (anchors ids ends : List ℕ) (j number layer place m i : ℕ) → (i ≡ j → ⊥) → Right s roots bumps anchors ids ends i → Right s roots bumps anchors ids (put_four ends j number layer place m) i
unfolding Right
right_other s roots bumps anchors ids ends j number layer place m i d r =
    (put_other ends j number layer place m i d (get_or anchors i 0) ∙ r.0, joins-other ends j number layer place m i d ∙ r.1)

module _ (s roots : List ℕ) (bumps : List BumpHead) (anchors ids ends : List ℕ) (bump j : ℕ) (t : Ruling) (m : ℕ) (named : get_or anchors j 0 ≡ bump) (is : t ≡ mined_by s roots bumps bump (hash_at ids (32 * j)))
    (made : m ≡ mined_joins s bumps bump (hash_at ids (32 * j))) (room : 4 * j + 3 < length ends) where
  pub right_here : Right s roots bumps anchors ids (put_end ends j t m) j
  unfolding Right
  right_here =
      rw named
      (put-here ends j (end_number t) (end_layer t) (end_place t) m room bump ∙ ap (λ (x : Ruling). ruling_by bump (end_number x) (end_layer x) (end_place x)) is ∙ mined_told s roots bumps bump (hash_at ids (32 * j)), joins-here ends j (end_number t) (end_layer t) (end_place t) m room ∙ made)

  -- what is right stays right
  pub right_kept : (i : ℕ) → Right s roots bumps anchors ids ends i → Right s roots bumps anchors ids (put_end ends j t m) i
  right_kept i r = go (eqb i j) refl
    where
      other : (i ≡ j → ⊥) → Right s roots bumps anchors ids (put_end ends j t m) i
      other d = right_other s roots bumps anchors ids ends j (end_number t) (end_layer t) (end_place t) m i d r

      go : (b : Bool) → eqb i j ≡ b → Right s roots bumps anchors ids (put_end ends j t m) i
      go true q = rw (eqb-true i j q) right_here
      go false q = other (eqb-false i j q)

module _ (s roots : List ℕ) (path : Path) (bump : ℕ) (ids slots ends : List ℕ) where
  pub settled-none : Settled s roots path bump ids slots ends ends 0
  unfolding Settled
  settled-none bumps anchors is named = ((λ i r. r), λ r l. absurd (omega arith))

  pub settled-more : (now : List ℕ) (r : ℕ) (t : Ruling) (m : ℕ) → Settled s roots path bump ids slots ends now r → t ≡ trusted roots bump (prove (path_reading s path (hash_at ids (32 * get_or slots r 0))))
      → m ≡ joins_in s path (hash_at ids (32 * get_or slots r 0)) → 4 * get_or slots r 0 + 3 < length now → Settled s roots path bump ids slots ends (put_end now (get_or slots r 0) t m) (r + 1)
  unfolding Settled mined_by mined_joins
  settled-more now r t m before e f room bumps anchors is named =
      let x = before bumps anchors is (λ k l. named k (omega arith)) in
      let mine : t ≡ mined_by s roots bumps bump (hash_at ids (32 * get_or slots r 0)) = e ∙ ap (trusted roots bump) (head_proving_lem s (hash_at ids (32 * get_or slots r 0)) (get_or bumps bump no_bump) is) in
      let made : m ≡ mined_joins s bumps bump (hash_at ids (32 * get_or slots r 0)) = f ∙ ap (λ (p : Path). joins_in s p (hash_at ids (32 * get_or slots r 0))) is in
      let here = named r (omega arith) in (
        (λ i right. right_kept s roots bumps anchors ids now bump (get_or slots r 0) t m here mine made room i (x.0 i right)),
        below_more (λ (k : ℕ). Right s roots bumps anchors ids (put_end now (get_or slots r 0) t m) (get_or slots k 0)) r
            (λ k l. right_kept s roots bumps anchors ids now bump (get_or slots r 0) t m here mine made room (get_or slots k 0) (x.1 k l))
            (right_here s roots bumps anchors ids now bump (get_or slots r 0) t m here mine made room),
      )

-- by what the rows say
module _ (roots : List ℕ) (layers bump : ℕ) (ids slots starts states hashes costs ends : List ℕ) where
  pub rows_none : SettlesRows roots layers bump ids slots starts states hashes costs ends ends 0
  unfolding SettlesRows
  rows_none s path say cost = settled-none s roots path bump ids slots ends

  pub rows_more : (now : List ℕ) (r : ℕ) (id : List ℕ) (p : Answer Proved Rejection) (t : Ruling) → SettlesRows roots layers bump ids slots starts states hashes costs ends now r → id ≡ hash_at ids (32 * get_or slots r 0)
      → p ≡ proved_at layers id starts states hashes r → ((v : Result Proof) → p ≡ proved_of v → t ≡ trusted roots bump v) → 4 * get_or slots r 0 + 3 < length now
      → SettlesRows roots layers bump ids slots starts states hashes costs ends (put_end now (get_or slots r 0) t (get_or costs r 0)) (r + 1)
  unfolding SettlesRows
  rows_more now r id p t before is says stands room s path say cost =
      settled-more s roots path bump ids slots ends now r t (get_or costs r 0) (before s path (λ k l. say k (omega arith)) (λ k l. cost k (omega arith)))
      (stands _ (says ∙ ap (λ (x : List ℕ). proved_at layers x starts states hashes r) is ∙ say r (omega arith)))
      (cost r (omega arith))
      room

-- rows of a BUMP's path: there is room for them, so they say what proving the ids comes to
bump-fits : (s : List ℕ) (head : BumpHead) (count states hashes : ℕ) → count ≤ MAX_TXS → count ≤ states → 32 * count ≤ hashes → fits (bump_path_of s head) count states hashes ≡ true
unfolding fits has_room bump_path_of
bump-fits s head count states hashes few each room =
    let low : layers_of head.height ≤ LAYERS = omega arith in
    rw (le-leb (layers_of head.height) LAYERS low, le-leb count MAX_TXS few, le-leb count states each, le-leb (32 * count) hashes room)

-- a cost of so many rows
cost_at : (s : List ℕ) (path : Path) (starts states hashes costs : List ℕ) → fits path (length starts) (length states) (length hashes) ≡ true → length starts ≤ length costs → (r : ℕ) → r < length starts
    → get_or (costs_of s path starts states hashes costs) r 0 ≡ joins_in s path (id_at hashes r)
unfolding costs_of
cost_at s path starts states hashes costs f room r l =
    let size = rows-length (λ i. joins_in s path (id_at hashes i)) (length starts) in
    rw (f, le-leb (length starts) (length costs) room)
    (get_or-append (rows (λ i. joins_in s path (id_at hashes i)) (length starts)) (drop (length starts) costs) 0 r (omega arith) ∙ rows_at (λ i. joins_in s path (id_at hashes i)) (length starts) r 0 l)

module _ (s roots : List ℕ) (head : BumpHead) (bump : ℕ) (ids slots starts states hashes costs ends ends' : List ℕ) (few : length starts ≤ MAX_TXS) (each : length starts ≤ length states) (room : 32 * length starts ≤ length hashes) (held : HoldIds ids slots hashes (length starts)) where
  pub rows_settled : {path : Path} {starts' states' hashes' costs' : List ℕ} {m : ℕ} → length starts ≤ length costs → path ≡ bump_path_of s head → starts' ≡ starts_of s path starts states hashes → states' ≡ states_of s path starts states hashes → hashes' ≡ roots_of s path starts states hashes
      → costs' ≡ costs_of s path starts states hashes costs → m ≡ length starts → SettlesRows roots path.layers bump ids slots starts' states' hashes' costs' ends ends' m → Settled s roots (bump_path_of s head) bump ids slots ends ends' (length starts)
  unfolding SettlesRows HoldIds
  rows_settled lent by es et eh ec all settles =
      let f = bump-fits s head (length starts) (length states) (length hashes) few each room in
      (rw (all, es, et, eh, ec, by) at settles) s (bump_path_of s head)
      (λ r l. rw (← held r l) (rows-proved s (bump_path_of s head) starts states hashes f r l))
      (λ r l. rw (← held r l) (cost_at s (bump_path_of s head) starts states hashes costs f lent r l))

-- ---- gathering

module _ (anchors ids : List ℕ) (bump : ℕ) where
  pub gathered_none : (slots hashes : List ℕ) → Gathered anchors ids bump 0 slots hashes 0
  unfolding HoldIds
  gathered_none slots hashes = record {
    few = omega arith;
    low = λ r l. absurd (omega arith);
    names = λ r l. absurd (omega arith);
    held = λ r l. absurd (omega arith);
    onto = λ i l. absurd (omega arith);
  }

  module _ {i count : ℕ} {slots hashes : List ℕ} (g : Gathered anchors ids bump i slots hashes count) where
    -- one that names another BUMP, or none
    pub gathered_past : (get_or anchors i 0 ≡ bump → ⊥) → Gathered anchors ids bump (i + 1) slots hashes count
    gathered_past other = record {
      few = let f = g.few in omega arith;
      low = λ r l. let f = g.low r l in omega arith;
      names = g.names;
      held = g.held;
      onto = below_more (λ (k : ℕ). get_or anchors k 0 ≡ bump → (r : ℕ) × (r < count) × (get_or slots r 0 ≡ k)) i g.onto (λ e. absurd (other e));
    }

    pub gathered_one : {hashes' : List ℕ} {id : List ℕ} → get_or anchors i 0 ≡ bump → count < length slots → 32 * count + 32 ≤ length hashes → id ≡ hash_at ids (32 * i) → length id ≡ 32 → hashes' ≡ set_hash hashes count id
        → Gathered anchors ids bump (i + 1) (set slots count i) hashes' (count + 1)
    unfolding HoldIds
    gathered_one {hashes'} {id} named wide long is whole new = record {
      few = let f = g.few in omega arith;
      low = below_more (λ (r : ℕ). get_or (set slots count i) r 0 < i + 1) count (λ r l. let f = g.low r l in let e = other r l in omega arith) (let e = here in omega arith);
      names = below_more (λ (r : ℕ). get_or anchors (get_or (set slots count i) r 0) 0 ≡ bump) count (λ r l. rw (other r l) (g.names r l)) (rw here named);
      held = below_more (λ (r : ℕ). hash_at hashes' (32 * r) ≡ hash_at ids (32 * get_or (set slots count i) r 0)) count
          (λ r l. rw (other r l) (ap (λ (l : List ℕ). hash_at l (32 * r)) put ∙ stored_other hashes id count whole long r (λ z. omega arith) ∙ g.held r l))
          (rw here (ap (λ (l : List ℕ). hash_at l (32 * count)) put ∙ stored_here hashes id count whole long ∙ is));
      onto = below_more (λ (k : ℕ). get_or anchors k 0 ≡ bump → (r : ℕ) × (r < count + 1) × (get_or (set slots count i) r 0 ≡ k)) i
          (λ k l e. let x = g.onto k l e in (x.0, omega (arith, x.1), other x.0 x.1 ∙ x.2))
          (λ e. (count, omega arith, here));
    }
      where
        put : hashes' ≡ paste hashes (32 * count) id 32
        put = new ∙ set-inside hashes count id (omega arith)

        here : get_or (set slots count i) count 0 ≡ i
        here = get_or-set_same slots count i 0 wide

        other : (r : ℕ) → r < count → get_or (set slots count i) r 0 ≡ get_or slots r 0
        other r l = get_or-set_other slots count r i 0 (λ z. omega arith)

-- ---- the BUMPs in turn

-- none names it
pub risen_none : (s roots : List ℕ) (head : BumpHead) (bump n : ℕ) (anchors ids ends : List ℕ) → Unnamed anchors bump n → Risen s roots head bump n anchors ids ends ends
unfolding Risen Unnamed
risen_none s roots head bump n anchors ids ends none bumps is = ((λ k r. r), λ k low named. absurd (none k low named))

module _ (s roots : List ℕ) (head : BumpHead) (bump n : ℕ) (anchors ids ends : List ℕ) {slots hashes : List ℕ} {count : ℕ} (g : Gathered anchors ids bump n slots hashes count) where
  pub risen_settled : (m : ℕ) (ends' : List ℕ) → m ≡ count → Settled s roots (bump_path_of s head) bump ids slots ends ends' m → Risen s roots head bump n anchors ids ends ends'
  unfolding Risen Settled
  risen_settled m ends' all settled bumps is =
      let x = (rw all at settled) bumps anchors (ap (bump_path_of s) is) g.names in
      (x.0, λ i low named. let y = g.onto i low named in rw y.2 at (x.1 y.0 y.1))

pub risen_on : (s roots : List ℕ) (bumps : List BumpHead) (anchors ids ends ends' : List ℕ) (n b : ℕ) → Risen s roots (get_or bumps b no_bump) b n anchors ids ends ends'
    → ((i : ℕ) → i < n → get_or anchors i 0 < b → Right s roots bumps anchors ids ends i) → (i : ℕ) → i < n → get_or anchors i 0 < b + 1 → Right s roots bumps anchors ids ends' i
unfolding Risen
risen_on s roots bumps anchors ids ends ends' n b risen before i low named = go (eqb (get_or anchors i 0) b) refl
  where
    go : (t : Bool) → eqb (get_or anchors i 0) b ≡ t → Right s roots bumps anchors ids ends' i
    go true q = (risen bumps refl).1 i low (eqb-true (get_or anchors i 0) b q)
    go false q = (risen bumps refl).0 i (before i low (let d = eqb-false (get_or anchors i 0) b q in omega arith))

-- ---- from a place on

pub ends_from : (count : ℕ) (s roots : List ℕ) (bumps : List BumpHead) (at n : ℕ) (anchors ids ends : List ℕ) → IdsFrom count s at n ids → AnchorsFrom count s at n anchors → n ≤ length ids / 32 → n ≤ length anchors
    → ((i : ℕ) → i < n → get_or anchors i 0 < count → Right s roots bumps anchors ids ends i) → EndsFrom count s roots bumps at n ends
unfolding EndsFrom IdsFrom AnchorsFrom Right
ends_from count s roots bumps at n anchors ids ends made named wide room right k low h =
    let is = named k low (omega arith) in
    let less = span-low count s at k h in
    let x = (right k low (omega arith)).0 in
    rw (is, made k low (omega arith)) at x

pub joins_from : (count : ℕ) (s roots : List ℕ) (bumps : List BumpHead) (at n : ℕ) (anchors ids ends : List ℕ) → IdsFrom count s at n ids → AnchorsFrom count s at n anchors → n ≤ length ids / 32 → n ≤ length anchors
    → ((i : ℕ) → i < n → get_or anchors i 0 < count → Right s roots bumps anchors ids ends i) → JoinsFrom count s bumps at n ends
unfolding JoinsFrom IdsFrom AnchorsFrom Right
joins_from count s roots bumps at n anchors ids ends made named wide room right k low h =
    let is = named k low (omega arith) in
    let less = span-low count s at k h in
    let x = (right k low (omega arith)).1 in
    rw (is, made k low (omega arith)) at x

module _ (count : ℕ) (s : List ℕ) (at i p : ℕ) {q : ℕ} {e : EntryHead} (o : Onward count s at i (Some (record { at = p }))) (read : entry_at count s p ≡ ok e q) where
  pub mined_here : (roots : List ℕ) (bumps : List BumpHead) (n : ℕ) (ends id : List ℕ) (m : ℕ) (t : Ruling) → EndsFrom count s roots bumps at n ends → i < n → id ≡ head_id s e → m ≡ anchor_of e.anchor → t ≡ ruling_at ends m i
      → Mined s roots bumps id e.anchor t
  unfolding EndsFrom span_id span_of anchor_of
  mined_here roots bumps n ends id m t right low is number here k named few =
      let sp = onward-here count s at i p o read in
      let an : anchor_of e.anchor ≡ k = ap anchor_of named in
      let x = right i low (rw (sp, an) few) in
      here ∙ ap (λ (j : ℕ). ruling_at ends j i) number ∙ (rw sp at x) ∙ rw (an, ← is)
