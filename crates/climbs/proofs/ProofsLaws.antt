-- Laws of proofs in rows: all rows climbed say what each id's own proof says.
use Rattle.std.proofs.Common.{◌≡◌, Option, Some, None, Ok, Err, ℕ, zero, suc, ◌+◌, ◌*◌, ◌/◌, ◌^◌, ◌<◌, ◌≤◌, Bool, true, false, ◌&&◌, eqb, ltb, leb, List, [], ◌∷◌, ◌++◌, length, get_or, take, drop, set, replicate, sym, refl, ap, ◌∙◌, subst, ap₂, append_assoc, div-one, add-one, arith, length-append, length-drop, take-append-drop, length-take-le, take_all, get_or-set_other, get_or-set_same, take_at, ext_get_or, drop_at, le-ltb, lt-ltb, eq-eqb, ne_eqb, eqb-true, le-leb, leb-true}
use Rattle.std.specs.Option.{unwrap_or}
use lib.ListN.{length-replicate, get_or-append}
use Rattle.std.proofs.lemmas.List.{get_or-replicate}
use lib.Seq.{take-append-le, drop-append-le}
use borrow.Author.Tests.{lt-leb, eqb-false}
use Rattle.hash.specs.Sha256.{sha256d}
use Rattle.hash.proofs.Sha256Laws.{sha256d-length}
use Rattle.format.specs.declared.level.Layout.{Layout}
use Rattle.format.specs.declared.leaf.Leaf.{Leaf}
use Rattle.format.specs.Bytes.{set_hash, hash_at}
use Rattle.format.proofs.BytesLaws.{set-inside, hash-there, hash-at-length}
use Rattle.format.specs.Parse.{pick}
use Rattle.format.specs.Refusals.{NOT_LISTED}
use Rattle.path.specs.declared.path.Form.{Form}
use Rattle.path.specs.declared.path.Path.{Path}
use Rattle.path.specs.Path.{leaf_in, start_in}
use Rattle.spv.specs.Result.{Result, accepted, refused, carrying, at_sibling}
use Rattle.spv.specs.Climb.{Siblings, sibling_position, odd, Step, joins, fails, step, Ascent, ascend_by, ascend, end_by, end_of}
use Rattle.spv.proofs.ClimbLaws.{ascend-joins, ascend-fails, ascend-same}
use Rattle.spv.proofs.Stored.{stored_here, stored_other}
use Rattle.spv.specs.Readings.{starting, path_reading}
use Rattle.spv.specs.Rows.{rows}
use Rattle.spv.proofs.RowsLaws.{rows-length, rows_at}
use Rattle.spv.specs.Shapes.{accepted_of, proved_of}
use Rattle.spv.specs.Siblings.{sibling, written_by, find_in, find_at, path_siblings}
use Rattle.spv.proofs.SiblingsLaws.{LeadsTo}
use Rattle.spv.specs.Values.{worked_out}
use Rattle.spv.specs.declared.rejection.Rejection.{Rejection}
use Rattle.climbs.specs.Row.{refusal_of, leads, leads_at, came, came_at}
use Rattle.climbs.specs.Together.{Levels, Climbed}
use Rattle.climbs.specs.Begun.{begun_row, First, closed_state, closed_hash, closed_hashes, Closed, counted_of}
use Rattle.climbs.specs.Proofs.{is_bump, has_room, fits, root_by, root_in, start_row, state_row, root_row, end_to_end, id_at, joins_in, starts_of, states_of, roots_of, costs_of, proved_at}
use Rattle.climbs.proofs.RowLaws.{half_above, fails-number, refusal-at, refusal-none, leads-start}
use Rattle.climbs.proofs.TogetherLaws.{leaf-bump, path_worked}
use Rattle.climbs.specs.Count.{start_cost}
use Rattle.climbs.specs.Spent.{U64, owes, owes_at, Settled}
use Rattle.climbs.proofs.CountLaws.{start-same}
use Rattle.climbs.proofs.SpentLaws.{owes-start, start_fits}
use Rattle.spv.specs.Prove.{hits, proof_of, settle, prove_by, prove, any}

-- ---- lists by their rows

pub first-none : (f : ℕ → ℕ) (l : List ℕ) → First f 0 l
unfolding First
first-none f l i b = absurd (omega arith)

pub first-end : (f : ℕ → ℕ) (m n : ℕ) (l : List ℕ) → m ≡ n → First f m l → First f n l
first-end f m n l e v = rw e at v

-- one row more
pub first_more : (f : ℕ → ℕ) (n : ℕ) (l : List ℕ) (v : ℕ) → n < length l → First f n l → v ≡ f n → First f (n + 1) (set l n v)
unfolding First
first_more f n l v b g e i h = go (eqb i n) refl
  where
    go : (t : Bool) → eqb i n ≡ t → get_or (set l n v) i 0 ≡ f i
    go true q = let z = eqb-true i n q in ap (λ (m : ℕ). get_or (set l n v) m 0) z ∙ get_or-set_same l n v 0 b ∙ e ∙ ap f (sym z)
    go false q = let z = eqb-false i n q in get_or-set_other l n i v 0 z ∙ g i (omega arith)

pub start_or : (x : Option ℕ) → unwrap_or x 0 ≡ start_row x
unfolding start_row
start_or (Some i) = refl
start_or None = refl

pub first-zeros : (n : ℕ) (l : List ℕ) → l ≡ replicate n 0 → First (λ _. 0) n l
unfolding First
first-zeros n l e i b = rw e (get_or-replicate n i 0 0 b)

pub first_rows : (f : ℕ → ℕ) (n : ℕ) (l : List ℕ) → length l ≡ n → First f n l → l ≡ rows f n
unfolding First
first_rows f n l e g =
    ext_get_or 0 l (rows f n) (e ∙ sym (rows-length f n)) (λ i b. let c : i < n = omega arith in g i c ∙ sym (rows_at f n i 0 c))

front : (a rest : List ℕ) (p : ℕ) → p + 32 ≤ length a → hash_at (a ++ rest) p ≡ hash_at a p
front a rest p h =
    hash-there (a ++ rest) p (let e = length-append a rest in omega arith)
    ∙ ap (take 32) (drop-append-le p a rest (omega arith))
    ∙ take-append-le 32 (drop p a) rest (let e = length-drop p a in omega arith)
    ∙ sym (hash-there a p h)

pub hashes-rows : (f : ℕ → List ℕ) (n : ℕ) (l : List ℕ) → length l ≡ 32 * n → ((i : ℕ) → i < n → hash_at l (32 * i) ≡ f i) → l ≡ end_to_end f n
unfolding end_to_end
hashes-rows f zero [] e g = refl
hashes-rows f zero (x ∷ l) e g = absurd (omega arith)
hashes-rows f (suc n) l e g =
    let long : length (take (32 * n) l) ≡ 32 * n = length-take-le (32 * n) l (omega arith) in
    let last : length (drop (32 * n) l) ≡ 32 = length-drop (32 * n) l ∙ omega arith in
    let whole : take (32 * n) l ++ drop (32 * n) l ≡ l = take-append-drop (32 * n) l in
    sym whole
    ∙ ap₂ ◌++◌
    (hashes-rows f n (take (32 * n) l) long
    (λ i b. sym (front (take (32 * n) l) (drop (32 * n) l) (32 * i) (omega arith)) ∙ ap (λ (x : List ℕ). hash_at x (32 * i)) whole ∙ g i (omega arith)))
    (sym (take_all 32 (drop (32 * n) l) (omega arith)) ∙ sym (hash-there l (32 * n) (omega arith)) ∙ g n (omega arith))

module _ (f : ℕ → List ℕ) (each : (i : ℕ) → length (f i) ≡ 32) where
  pub end-length : (n : ℕ) → length (end_to_end f n) ≡ 32 * n
  unfolding end_to_end
  end-length zero = refl
  end-length (suc n) = let a = length-append (end_to_end f n) (f n) in let b = end-length n in let c = each n in omega arith

  pub end-at : (n : ℕ) (rest : List ℕ) (i : ℕ) → i < n → hash_at (end_to_end f n ++ rest) (32 * i) ≡ f i
  unfolding end_to_end
  end-at zero rest i b = absurd (omega arith)
  end-at (suc n) rest i b = ap (λ (l : List ℕ). hash_at l (32 * i)) (append_assoc (end_to_end f n) (f n) rest) ∙ go (eqb i n) refl (end-at n (f n ++ rest) i)
    where
      go : (t : Bool) → eqb i n ≡ t → (i < n → hash_at (end_to_end f n ++ (f n ++ rest)) (32 * i) ≡ f i) → hash_at (end_to_end f n ++ (f n ++ rest)) (32 * i) ≡ f i
      go true q below =
          let z = eqb-true i n q in
          let m = end-length n in
          let l = length-append (end_to_end f n) (f n ++ rest) in
          let k = length-append (f n) rest in
          let w = each n in
          ap (λ (m : ℕ). hash_at (end_to_end f n ++ (f n ++ rest)) (32 * m)) z
          ∙ hash-there (end_to_end f n ++ (f n ++ rest)) (32 * n) (omega arith)
          ∙ ap (take 32) (drop_at (end_to_end f n) (f n ++ rest) (32 * n) m)
          ∙ take_at (f n) rest 32 w
          ∙ ap f (sym z)
      go false q below = let z = eqb-false i n q in below (omega arith)

-- ---- whether there is room

pub record Fitting (path : Path) (count states hashes : ℕ) : Type 0 where
  pub levels : Levels path
  pub some : count ≤ 256
  pub each : count ≤ states
  pub room : 32 * count ≤ hashes

pub fits_told : (path : Path) (count states hashes : ℕ) → fits path count states hashes ≡ true → Fitting path count states hashes
unfolding fits has_room
fits_told path count states hashes e =
    let a = and-told (is_bump path.form) _ e in
    let b = and-told (leb path.layers 64) _ a.1 in
    let c = and-told (leb count 256) _ b.1 in
    let d = and-told (leb count states) (leb (32 * count) hashes) c.1 in
    record {
      levels = record { bump = bump-told path.form a.0; few = leb-true path.layers 64 b.0 };
      some = leb-true count 256 c.0;
      each = leb-true count states d.0;
      room = leb-true (32 * count) hashes d.1;
    }
  where
    and-told : (x y : Bool) → x && y ≡ true → (x ≡ true) × (y ≡ true)
    and-told true y e = (refl, e)
    and-told false y e = let z : ◌≡◌ {A = ℕ} 0 1 = cc in absurd (omega arith)

    bump-told : (form : Form) → is_bump form ≡ true → form ≡ Form.Bump
    bump-told Form.Bump e = refl
    bump-told Form.Cmp e = let z : ◌≡◌ {A = ℕ} 0 1 = cc in absurd (omega arith)
    bump-told Form.Tsc e = let z : ◌≡◌ {A = ℕ} 0 1 = cc in absurd (omega arith)

-- ---- rows are closed

module _ (state : ℕ) (hashes : List ℕ) (i : ℕ) where
  pub closed-root : state < 128 → hashes ≡ closed_hashes state hashes i
  unfolding closed_hashes
  closed-root b = rw (lt-ltb state 128 b)

  pub closed-zeros : 128 ≤ state → set_hash hashes i (replicate 32 0) ≡ closed_hashes state hashes i
  unfolding closed_hashes
  closed-zeros b = rw (le-ltb state 128 b)

pub closed-end : (m n : ℕ) (states hashes states' hashes' : List ℕ) → m ≡ n → Closed m states hashes states' hashes' → Closed n states hashes states' hashes'
closed-end m n states hashes states' hashes' e v = rw e at v

module _ (n : ℕ) (states hashes states₁ hashes₁ states₂ hashes₂ : List ℕ) (v : Closed n states hashes states₁ hashes₁) (inside : n < length states₁) (room : 32 * n + 32 ≤ length hashes₁)
    (es : states₂ ≡ set states₁ n (closed_state (get_or states₁ n 0))) (eh : hashes₂ ≡ closed_hashes (get_or states₁ n 0) hashes₁ n) where
  here : get_or states₁ n 0 ≡ get_or states n 0
  here = (v.left n (omega arith)).0

  hash-here : hash_at hashes₂ (32 * n) ≡ closed_hash (get_or states n 0) (hash_at hashes (32 * n))
  unfolding closed_hash closed_hashes
  hash-here = ap (λ (l : List ℕ). hash_at l (32 * n)) eh ∙ go (ltb (get_or states₁ n 0) 128) refl
    where
      go : (t : Bool) → ltb (get_or states₁ n 0) 128 ≡ t → hash_at (pick t hashes₁ (set_hash hashes₁ n (replicate 32 0))) (32 * n) ≡ pick (ltb (get_or states n 0) 128) (hash_at hashes (32 * n)) (replicate 32 0)
      go true e = let q : ltb (get_or states n 0) 128 ≡ true = ap (λ (m : ℕ). ltb m 128) (sym here) ∙ e in rw q (v.left n (omega arith)).1
      go false e =
          let q : ltb (get_or states n 0) 128 ≡ false = ap (λ (m : ℕ). ltb m 128) (sym here) ∙ e in
          rw q
          (ap (λ (l : List ℕ). hash_at l (32 * n)) (set-inside hashes₁ n (replicate 32 0) (omega arith))
          ∙ stored_here hashes₁ (replicate 32 0) n (length-replicate {A = ℕ} 32 0) room)

  hash-other : (i : ℕ) → (i ≡ n → ⊥) → hash_at hashes₂ (32 * i) ≡ hash_at hashes₁ (32 * i)
  unfolding closed_hashes
  hash-other i ne = ap (λ (l : List ℕ). hash_at l (32 * i)) eh ∙ go (ltb (get_or states₁ n 0) 128)
    where
      go : (t : Bool) → hash_at (pick t hashes₁ (set_hash hashes₁ n (replicate 32 0))) (32 * i) ≡ hash_at hashes₁ (32 * i)
      go true = refl
      go false =
          ap (λ (l : List ℕ). hash_at l (32 * i)) (set-inside hashes₁ n (replicate 32 0) (omega arith))
          ∙ stored_other hashes₁ (replicate 32 0) n (length-replicate {A = ℕ} 32 0) room i ne

  state-other : (i : ℕ) → (i ≡ n → ⊥) → get_or states₂ i 0 ≡ get_or states₁ i 0
  state-other i ne = ap (λ (l : List ℕ). get_or l i 0) es ∙ get_or-set_other states₁ n i (closed_state (get_or states₁ n 0)) 0 ne

  pub closed-more : Closed (n + 1) states hashes states₂ hashes₂
  closed-more =
      record {
        state = λ i b. state-at i b (eqb i n) refl;
        hash = λ i b. hash_in i b (eqb i n) refl;
        left = λ i b. let ne : i ≡ n → ⊥ = (λ z. omega arith) in let w = v.left i (omega arith) in (state-other i ne ∙ w.0, hash-other i ne ∙ w.1);
      }
    where
      state-at : (i : ℕ) → i < n + 1 → (t : Bool) → eqb i n ≡ t → get_or states₂ i 0 ≡ closed_state (get_or states i 0)
      state-at i b true e =
          let z = eqb-true i n e in
          rw z (ap (λ (l : List ℕ). get_or l n 0) es ∙ get_or-set_same states₁ n (closed_state (get_or states₁ n 0)) 0 inside ∙ ap closed_state here)
      state-at i b false e = let z = eqb-false i n e in state-other i z ∙ v.state i (omega arith)

      hash_in : (i : ℕ) → i < n + 1 → (t : Bool) → eqb i n ≡ t → hash_at hashes₂ (32 * i) ≡ closed_hash (get_or states i 0) (hash_at hashes (32 * i))
      hash_in i b true e = let z = eqb-true i n e in rw z hash-here
      hash_in i b false e = let z = eqb-false i n e in hash-other i z ∙ v.hash i (omega arith)

-- a closed row says what it came to
closed-state : (start state : ℕ) (c : List ℕ) → closed_state state ≡ state_row (came start state c)
unfolding closed_state came state_row refusal_of
closed-state start state c = go (ltb state 128)
  where
    go : (t : Bool) → pick t 0 (64 * (refusal_of start state).number + (refusal_of start state).layer) ≡ state_row (pick t (accepted c) (refused (refusal_of start state)))
    go true = refl
    go false = refl

closed-hash : (start state : ℕ) (c : List ℕ) → closed_hash state c ≡ root_row (came start state c)
unfolding closed_hash came root_row
closed-hash start state c = go (ltb state 128)
  where
    go : (t : Bool) → pick t c (replicate 32 0) ≡ root_row (pick t (accepted c) (refused (refusal_of start state)))
    go true = refl
    go false = refl

-- ---- one proof

-- what the climb of an id comes to, from where it stands
unfoldable climb_from : Siblings → ℕ → List ℕ → Option ℕ → Result (List ℕ)
climb_from σ h id (Some i) = end_of id (ascend σ 0 h i id)
climb_from σ h id None = refused (carrying NOT_LISTED 0)

leads_begun : (σ : Siblings) (h : ℕ) (id : List ℕ) (x : Option ℕ) → leads σ h (start_row x) (begun_row x) id ≡ climb_from σ h id x
unfolding start_row begun_row climb_from leads
leads_begun σ h id (Some i) = leads-start σ h i id
leads_begun σ h id None = ap refused (refusal-none 0)

owes_begun : (w : Siblings) (h : ℕ) (id : List ℕ) (x : Option ℕ) → owes w h (start_row x) (begun_row x) id ≡ start_cost w h id x
unfolding start_row begun_row start_cost owes
owes_begun w h id (Some i) = owes-start w h i id
owes_begun w h id None = refl

climb_root : (σ : Siblings) (h : ℕ) (id : List ℕ) (x : Option ℕ) → climb_from σ h id x ≡ root_by (prove (starting σ h id x))
unfolding climb_from starting prove_by settle hits root_by
climb_root σ h id None = refl
climb_root σ h id (Some i) = go (end_of id (ascend σ 0 h i id))
  where
    go : (v : Result (List ℕ)) → v ≡ root_by (settle any (proof_of σ h i id) v)
    go (accepted r) = refl
    go (refused why) = refl

climb_same : (σ τ : Siblings) (h : ℕ) (id : List ℕ) → ((k q : ℕ) → k < h → σ k q ≡ τ k q) → (x : Option ℕ) → climb_from σ h id x ≡ climb_from τ h id x
unfolding climb_from
climb_same σ τ h id f (Some i) = ap (end_of id) (ascend-same σ τ h f i id)
climb_same σ τ h id f None = refl

-- ---- all rows have climbed

module _ (s : List ℕ) (path : Path) (v : Levels path) (starts states hashes states₂ hashes₂ states₃ hashes₃ : List ℕ) (n : ℕ) (all : length starts ≡ n)
    (fs : First (λ i. start_row (start_in s path (id_at hashes i))) n starts) (fb : First (λ i. begun_row (start_in s path (id_at hashes i))) n states)
    (climbed : Climbed (worked_out (written_by s (find_at Layout.Bump s path.at))) path.layers starts states hashes states₂ hashes₂)
    (closed : Closed n states₂ hashes₂ states₃ hashes₃) where
  came-root : (i : ℕ) → i < n → came_at starts states₂ hashes₂ i ≡ root_in s path (id_at hashes i)
  unfolding Climbed First leads_at root_in path_reading
  came-root i b =
      climbed i (omega arith)
      ∙ ap₂ (λ (x y : ℕ). leads (worked_out (written_by s (find_at Layout.Bump s path.at))) path.layers x y (id_at hashes i)) (fs i b) (fb i b)
      ∙ leads_begun (worked_out (written_by s (find_at Layout.Bump s path.at))) path.layers (id_at hashes i) (start_in s path (id_at hashes i))
      ∙ climb_same (worked_out (written_by s (find_at Layout.Bump s path.at))) (path_siblings s path) path.layers (id_at hashes i) (path_worked s path v) (start_in s path (id_at hashes i))
      ∙ climb_root (path_siblings s path) path.layers (id_at hashes i) (start_in s path (id_at hashes i))

  pub proved_starts : starts ≡ rows (λ i. start_row (start_in s path (id_at hashes i))) n
  proved_starts = first_rows (λ i. start_row (start_in s path (id_at hashes i))) n starts all fs

  pub proved_states : length states₃ ≡ n → states₃ ≡ rows (λ i. state_row (root_in s path (id_at hashes i))) n
  unfolding First came_at
  proved_states e =
      first_rows (λ i. state_row (root_in s path (id_at hashes i))) n states₃ e
      (λ i b. closed.state i b ∙ closed-state (get_or starts i 0) (get_or states₂ i 0) (hash_at hashes₂ (32 * i)) ∙ ap state_row (came-root i b))

  pub proved_roots : length hashes₃ ≡ 32 * n → hashes₃ ≡ end_to_end (λ i. root_row (root_in s path (id_at hashes i))) n
  unfolding came_at
  proved_roots e =
      hashes-rows (λ i. root_row (root_in s path (id_at hashes i))) n hashes₃ e
      (λ i b. closed.hash i b ∙ closed-hash (get_or starts i 0) (get_or states₂ i 0) (hash_at hashes₂ (32 * i)) ∙ ap root_row (came-root i b))

-- and have paid for it
module _ (s : List ℕ) (path : Path) (v : Levels path) (starts states hashes costs₁ costs₂ : List ℕ) (n m : ℕ) (all : length starts ≡ n) (some : m ≤ n) (lent : length costs₁ ≡ m) (kept : length costs₂ ≡ m)
    (fs : First (λ i. start_row (start_in s path (id_at hashes i))) n starts) (fb : First (λ i. begun_row (start_in s path (id_at hashes i))) n states) (none : First (λ _. 0) m costs₁)
    (settled : Settled (written_by s (find_at Layout.Bump s path.at)) path.layers starts states hashes costs₁ costs₂) (wide : (i : ℕ) → get_or costs₂ i 0 < U64) where
  cost_row : (i : ℕ) → i < m → get_or costs₂ i 0 ≡ joins_in s path (id_at hashes i)
  unfolding Settled First owes_at joins_in
  cost_row i b =
      let w : Siblings = written_by s (find_at Layout.Bump s path.at) in
      let x : Option ℕ = start_in s path (id_at hashes i) in
      let h : ℕ = path.layers in
      let e = settled i (omega arith) (omega arith) in
      let z = none i b in
      let o : owes w h (get_or starts i 0) (get_or states i 0) (id_at hashes i) ≡ start_cost w h (id_at hashes i) x =
      ap₂ (λ (a d : ℕ). owes w h a d (id_at hashes i)) (fs i (omega arith)) (fb i (omega arith)) ∙ owes_begun w h (id_at hashes i) x in
      let f = start_fits w h (id_at hashes i) x v.few in
      let g = wide i in
      let r : get_or costs₂ i 0 ≡ start_cost w h (id_at hashes i) x = omega arith in
      r ∙ start-same w (written_by s (leaf_in s path)) h (λ k q d. ap (sibling s) (sym (leaf-bump s path v k q d))) (id_at hashes i) x

  pub proved_costs : costs₂ ≡ rows (λ i. joins_in s path (id_at hashes i)) m
  unfolding First
  proved_costs = first_rows (λ i. joins_in s path (id_at hashes i)) m costs₂ kept cost_row

-- ---- what the rows say

-- a refusal of a climb is what its state says
climb_refused : (σ : Siblings) (p n k : ℕ) (c : List ℕ) (why : Rejection) → k + n ≤ 64 → end_of c (ascend σ k n (p / 2 ^ k) c) ≡ refused why → (refusal_of p (64 * why.number + why.layer) ≡ why) × (0 < why.number)
unfolding ascend_by end_by
climb_refused σ p zero k c why b e = let z : ◌≡◌ {A = ℕ} 0 1 = cc in absurd (omega arith)
climb_refused σ p (suc n) k c why b e = go (step (σ k (sibling_position (p / 2 ^ k))) (odd (p / 2 ^ k)) c) refl (λ d f. climb_refused σ p n (k + 1) d why (omega arith) f)
  where
    go : (t : Step) → step (σ k (sibling_position (p / 2 ^ k))) (odd (p / 2 ^ k)) c ≡ t
        → ((d : List ℕ) → end_of d (ascend σ (k + 1) n (p / 2 ^ (k + 1)) d) ≡ refused why → (refusal_of p (64 * why.number + why.layer) ≡ why) × (0 < why.number))
        → (refusal_of p (64 * why.number + why.layer) ≡ why) × (0 < why.number)
    go (joins l r) g up =
        let d : List ℕ = sha256d (l ++ r) in
        up d
        (sym (ap₂ (λ (m j : ℕ). end_of d (ascend σ m n j d)) (sym (add-one k)) (half_above p k))
        ∙ sym (ap (end_of c) (ascend-joins σ k n (p / 2 ^ k) c l r g))
        ∙ e)
    go (fails number) g up =
        let m = fails-number (σ k (sibling_position (p / 2 ^ k))) (odd (p / 2 ^ k)) c number g in
        let z : refused (at_sibling number k (sibling_position (p / 2 ^ k))) ≡ refused why = sym (ap (end_of c) (ascend-fails σ k n (p / 2 ^ k) c number g)) ∙ e in
        let w : at_sibling number k (sibling_position (p / 2 ^ k)) ≡ why = cc in
        subst (λ (x : Rejection). (refusal_of p (64 * x.number + x.layer) ≡ x) × (0 < x.number)) w (refusal-at p number k m.0 m.1 (omega arith), omega arith)

climb_long : (σ : Siblings) (n k j : ℕ) (c : List ℕ) → length c ≡ 32 → length (root_row (end_of c (ascend σ k n j c))) ≡ 32
unfolding ascend_by end_by root_row
climb_long σ zero k j c e = e
climb_long σ (suc n) k j c e = go (step (σ k (sibling_position j)) (odd j) c) refl (λ d f. climb_long σ n (suc k) (j / 2) d f)
  where
    go : (t : Step) → step (σ k (sibling_position j)) (odd j) c ≡ t → ((d : List ℕ) → length d ≡ 32 → length (root_row (end_of d (ascend σ (suc k) n (j / 2) d))) ≡ 32)
        → length (root_row (end_of c (ascend σ k (suc n) j c))) ≡ 32
    go (joins l r) g up = ap (λ (a : Ascent). length (root_row (end_of c a))) (ascend-joins σ k n j c l r g) ∙ up (sha256d (l ++ r)) (sha256d-length (l ++ r))
    go (fails number) g up = ap (λ (a : Ascent). length (root_row (end_of c a))) (ascend-fails σ k n j c number g) ∙ length-replicate {A = ℕ} 32 0

pub root-long : (s : List ℕ) (path : Path) (id : List ℕ) → length id ≡ 32 → length (root_row (root_in s path id)) ≡ 32
unfolding root_in path_reading climb_from root_row
root-long s path id e =
    ap (λ (v : Result (List ℕ)). length (root_row v)) (sym (climb_root (path_siblings s path) path.layers id (start_in s path id))) ∙ go (start_in s path id)
  where
    go : (x : Option ℕ) → length (root_row (climb_from (path_siblings s path) path.layers id x)) ≡ 32
    go (Some i) = climb_long (path_siblings s path) path.layers 0 i id e
    go None = length-replicate {A = ℕ} 32 0

-- start, state and root of one proof say what it proves
proof-row : (σ : Siblings) (h : ℕ) (id : List ℕ) → h ≤ 64 → (x : Option ℕ)
    → pick (eqb (state_row (root_by (prove (starting σ h id x)))) 0) (Ok (accepted_of (start_row x) h id (root_row (root_by (prove (starting σ h id x)))))) (Err (refusal_of (start_row x) (state_row (root_by (prove (starting σ h id x))))))
    ≡ proved_of (prove (starting σ h id x))
unfolding starting prove_by settle hits root_by start_row state_row root_row
proof-row σ h id b None = ap (λ (y : Rejection). proved_of (refused y)) (refusal-none 0)
proof-row σ h id b (Some i) = go (end_of id (ascend σ 0 h i id)) refl
  where
    go : (v : Result (List ℕ)) → end_of id (ascend σ 0 h i id) ≡ v
        → pick (eqb (state_row (root_by (settle any (proof_of σ h i id) v))) 0) (Ok (accepted_of i h id (root_row (root_by (settle any (proof_of σ h i id) v)))))
        (Err (refusal_of i (state_row (root_by (settle any (proof_of σ h i id) v)))))
        ≡ proved_of (settle any (proof_of σ h i id) v)
    go (accepted r) e = refl
    go (refused why) e =
        let w = climb_refused σ i h 0 id why (omega arith) (ap (λ (j : ℕ). end_of id (ascend σ 0 h j id)) (div-one i) ∙ e) in
        let m = w.1 in
        rw (ne_eqb (64 * why.number + why.layer) 0 (λ z. omega arith)) (ap (λ (y : Rejection). proved_of (refused y)) w.0)

-- ---- rows that are the front of longer lists

rows-below : {A : Type 0} (f g : ℕ → A) (n : ℕ) → ((i : ℕ) → i < n → f i ≡ g i) → rows f n ≡ rows g n
unfolding rows
rows-below f g zero e = refl
rows-below f g (suc n) e = ap₂ (λ l x. l ++ (x ∷ [])) (rows-below f g n (λ i b. e i (omega arith))) (e n (omega arith))

end_below : (f g : ℕ → List ℕ) (n : ℕ) → ((i : ℕ) → i < n → f i ≡ g i) → end_to_end f n ≡ end_to_end g n
unfolding end_to_end
end_below f g zero e = refl
end_below f g (suc n) e = ap₂ ◌++◌ (end_below f g n (λ i b. e i (omega arith))) (e n (omega arith))

id-taken : (path : Path) (starts states hashes : List ℕ) → fits path (length starts) (length states) (length hashes) ≡ true → (i : ℕ) → i < length starts → id_at (take (32 * length starts) hashes) i ≡ id_at hashes i
id-taken path starts states hashes fit i b =
    let v = fits_told path (length starts) (length states) (length hashes) fit in
    let r = v.room in
    let n = length-take-le (32 * length starts) hashes r in
    sym (front (take (32 * length starts) hashes) (drop (32 * length starts) hashes) (32 * i) (omega arith)) ∙ ap (λ (l : List ℕ). hash_at l (32 * i)) (take-append-drop (32 * length starts) hashes)

module _ (s : List ℕ) (path : Path) (starts states hashes starts' states' hashes' : List ℕ) (fit : fits path (length starts) (length states) (length hashes) ≡ true)
    (es : starts' ≡ rows (λ i. start_row (start_in s path (id_at (take (32 * length starts) hashes) i))) (length starts))
    (et : states' ≡ rows (λ i. state_row (root_in s path (id_at (take (32 * length starts) hashes) i))) (length starts))
    (eh : hashes' ≡ end_to_end (λ i. root_row (root_in s path (id_at (take (32 * length starts) hashes) i))) (length starts)) where
  pub all-proved : (starts' ≡ starts_of s path starts states hashes) × (states' ++ drop (length starts) states ≡ states_of s path starts states hashes) × (hashes' ++ drop (32 * length starts) hashes ≡ roots_of s path starts states hashes)
  unfolding starts_of states_of roots_of
  all-proved =
      let f : ℕ → List ℕ = (λ i. id_at (take (32 * length starts) hashes) i) in
      let g : ℕ → List ℕ = (λ i. id_at hashes i) in (
        rw fit (es ∙ rows-below (λ i. start_row (start_in s path (f i))) (λ i. start_row (start_in s path (g i))) (length starts) (λ i b. ap (λ (x : List ℕ). start_row (start_in s path x)) (id-taken path starts states hashes fit i b))),
        rw fit (ap (λ (l : List ℕ). l ++ drop (length starts) states) (et ∙ rows-below (λ i. state_row (root_in s path (f i))) (λ i. state_row (root_in s path (g i))) (length starts) (λ i b. ap (λ (x : List ℕ). state_row (root_in s path x)) (id-taken path starts states hashes fit i b)))),
        rw fit (ap (λ (l : List ℕ). l ++ drop (32 * length starts) hashes) (eh ∙ end_below (λ i. root_row (root_in s path (f i))) (λ i. root_row (root_in s path (g i))) (length starts) (λ i b. ap (λ (x : List ℕ). root_row (root_in s path x)) (id-taken path starts states hashes fit i b)))),
      )

pub none-proved : (s : List ℕ) (path : Path) (starts states hashes : List ℕ) → fits path (length starts) (length states) (length hashes) ≡ false
    → (starts ≡ starts_of s path starts states hashes) × (states ≡ states_of s path starts states hashes) × (hashes ≡ roots_of s path starts states hashes)
unfolding starts_of states_of roots_of
none-proved s path starts states hashes e = (rw e, rw e, rw e)

-- ---- rows that are counted

module _ (count costs : ℕ) where
  pub counted-all : count ≤ costs → counted_of count costs ≡ count
  unfolding counted_of
  counted-all b = rw (le-leb count costs b)

  pub counted_none : costs < count → counted_of count costs ≡ 0
  unfolding counted_of
  counted_none b = rw (lt-leb count costs b)

  pub counted_most : counted_of count costs ≤ count
  unfolding counted_of
  counted_most = go (leb count costs)
    where
      go : (t : Bool) → pick t count 0 ≤ count
      go true = omega arith
      go false = omega arith

  pub counted-fits : counted_of count costs ≤ costs
  unfolding counted_of
  counted-fits = go (leb count costs) refl
    where
      go : (t : Bool) → leb count costs ≡ t → pick t count 0 ≤ costs
      go true e = leb-true count costs e
      go false e = omega arith

module _ (s : List ℕ) (path : Path) (starts states hashes costs : List ℕ) where
  pub all-counted : (n : ℕ) (costs' : List ℕ) → fits path (length starts) (length states) (length hashes) ≡ true → n ≡ counted_of (length starts) (length costs)
      → costs' ≡ rows (λ i. joins_in s path (id_at (take (32 * length starts) hashes) i)) (length (take n costs)) → costs' ++ drop n costs ≡ costs_of s path starts states hashes costs
  unfolding costs_of counted_of rows
  all-counted n costs' fit en e = rw fit (go (leb (length starts) (length costs)) refl)
    where
      f : ℕ → ℕ
      f i = joins_in s path (id_at (take (32 * length starts) hashes) i)

      g : ℕ → ℕ
      g i = joins_in s path (id_at hashes i)

      made : costs' ≡ rows f n
      made = e ∙ ap (λ (m : ℕ). rows f m) (length-take-le n costs (omega (arith, en, counted-fits (length starts) (length costs))))

      go : (t : Bool) → leb (length starts) (length costs) ≡ t → costs' ++ drop n costs ≡ pick t (rows g (length starts) ++ drop (length starts) costs) costs
      go true q =
          let z : n ≡ length starts = en ∙ ap (λ (t : Bool). pick t (length starts) 0) q in
          ap (λ (l : List ℕ). l ++ drop n costs) made
          ∙ ap (λ (m : ℕ). rows f m ++ drop m costs) z
          ∙ ap (λ (l : List ℕ). l ++ drop (length starts) costs) (rows-below f g (length starts) (λ i b. ap (joins_in s path) (id-taken path starts states hashes fit i b)))
      go false q =
          let z : n ≡ 0 = en ∙ ap (λ (t : Bool). pick t (length starts) 0) q in
          ap (λ (l : List ℕ). l ++ drop n costs) made ∙ ap (λ (m : ℕ). rows f m ++ drop m costs) z

  pub none-counted : fits path (length starts) (length states) (length hashes) ≡ false → costs ≡ costs_of s path starts states hashes costs
  unfolding costs_of
  none-counted e = rw e

-- ---- for those who call

-- the joins of a proof by levels that were read
pub joins-levels : (s : List ℕ) (path : Path) (h : ℕ) (levels : List (List Leaf)) (id : List ℕ) (x : Option ℕ) → LeadsTo s path h levels → start_in s path id ≡ x → joins_in s path id ≡ start_cost (written_by s (find_in levels)) h id x
unfolding joins_in
joins-levels s path h levels id x l e =
    ap₂ (λ (n : ℕ) (y : Option ℕ). start_cost (written_by s (leaf_in s path)) n id y) l.layers e
    ∙ start-same (written_by s (leaf_in s path)) (written_by s (find_in levels)) h (λ k q b. ap (sibling s) (l.leaf k q b)) id x

module _ (s : List ℕ) (path : Path) (starts states hashes : List ℕ) (room : fits path (length starts) (length states) (length hashes) ≡ true) (i : ℕ) (b : i < length starts) where
  pub start_in_row : get_or (starts_of s path starts states hashes) i 0 ≡ start_row (start_in s path (id_at hashes i))
  unfolding starts_of
  start_in_row =
      ap (λ (t : Bool). get_or (pick t (rows (λ n. start_row (start_in s path (id_at hashes n))) (length starts)) starts) i 0) room ∙ rows_at (λ n. start_row (start_in s path (id_at hashes n))) (length starts) i 0 b

  pub state_in_row : get_or (states_of s path starts states hashes) i 0 ≡ state_row (root_in s path (id_at hashes i))
  unfolding states_of
  state_in_row =
      let f : ℕ → ℕ = (λ n. state_row (root_in s path (id_at hashes n))) in
      ap (λ (t : Bool). get_or (pick t (rows f (length starts) ++ drop (length starts) states) states) i 0) room
      ∙ get_or-append (rows f (length starts)) (drop (length starts) states) 0 i (rw rows-length b)
      ∙ rows_at f (length starts) i 0 b

  pub root_in_row : hash_at (roots_of s path starts states hashes) (32 * i) ≡ root_row (root_in s path (id_at hashes i))
  unfolding roots_of
  root_in_row =
      let f : ℕ → List ℕ = (λ n. root_row (root_in s path (id_at hashes n))) in
      ap (λ (t : Bool). hash_at (pick t (end_to_end f (length starts) ++ drop (32 * length starts) hashes) hashes) (32 * i)) room
      ∙ end-at f (λ n. root-long s path (id_at hashes n) (hash-at-length hashes (32 * n))) (length starts) (drop (32 * length starts) hashes) i b

  -- a row says what the id's own proof says
  pub rows-proved : proved_at path.layers (id_at hashes i) (starts_of s path starts states hashes) (states_of s path starts states hashes) (roots_of s path starts states hashes) i ≡ proved_of (prove (path_reading s path (id_at hashes i)))
  unfolding proved_at root_in path_reading
  rows-proved =
      let v = fits_told path (length starts) (length states) (length hashes) room in
      rw (start_in_row, state_in_row, root_in_row) (proof-row (path_siblings s path) path.layers (id_at hashes i) v.levels.few (start_in s path (id_at hashes i)))

-- ---- the answer of a row

module _ (layers : ℕ) (id starts states hashes : List ℕ) (i start : ℕ) (es : start ≡ get_or starts i 0) where
  pub proved-root : (root : List ℕ) → get_or states i 0 ≡ 0 → root ≡ hash_at hashes (32 * i) → Ok (accepted_of start layers id root) ≡ proved_at layers id starts states hashes i
  unfolding proved_at
  proved-root root e f = rw (eq-eqb (get_or states i 0) 0 e, es, f)

  pub proved-refusal : (state : ℕ) (why : Rejection) → state ≡ get_or states i 0 → (state ≡ 0 → ⊥) → why ≡ refusal_of start state → Err why ≡ proved_at layers id starts states hashes i
  unfolding proved_at
  proved-refusal state why e ne f = rw (f, es, e) (rw (ne_eqb (get_or states i 0) 0 (λ z. ne (e ∙ z))))
