-- The case laws of merging, one for each answer of its code, and what the code leaves in memory.
use Rattle.std.proofs.Common.{Ok}
use mathlib.Core.Path.{◌≡◌, refl, ap, ap₂, sym, subst, ◌∙◌}
use mathlib.Core.List.{List, [], ◌∷◌, ◌++◌}
use mathlib.Core.Bool.{Bool, true, false, ◌&&◌, false≢true}
use Prim.Native.Nat.{ℕ, zero, suc, ◌+◌, ◌/◌, ◌<◌, ◌≤◌}
use lib.ListN.{length, get_or, take, drop, length-append}
use lib.Seq.{take_all, take-append_seam}
use lib.Dec.{eqb, leb}
use native.Mathlib.Omega.{arith}
use borrow.Author.Tests.{eqb-true, leb-true, le-leb, lt-leb}
use Rattle.format.specs.declared.bump.BumpHead.{BumpHead}
use Rattle.format.specs.declared.level.Layout.{Layout}
use Rattle.format.specs.declared.leaf.Leaf.{Leaf}
use Rattle.format.proofs.Basics.{and-true, and-false}
use Rattle.format.specs.Bytes.{same}
use Rattle.format.proofs.BytesLaws.{same_eq}
use Rattle.encoding.specs.Buffer.{Buffer, buffer, write_on}
use Rattle.encoding.proofs.BufferLaws.{write-whole}
use Rattle.encoding.specs.Digits.{varint_bytes}
use Rattle.format.specs.Parse.{Parse, ok, fault, each, pick, many}
use Rattle.format.proofs.ParseLaws.{each-ok, each-fault, many-told}
use Rattle.format.specs.Refusals.{OVER_LIMIT, ROOTS_DIFFER, NO_ROOM, UNLIKE}
use Rattle.format.specs.Level.{level_of_turn, level_in_turn, next_turn}
use Rattle.path.specs.Unchecked.{unchecked_level}
use Rattle.path.proofs.UncheckedLaws.{level_unchecked}
use Rattle.encoding.specs.Encode.{AllBytes, encode_all}
use Rattle.format.specs.Bump.{Bump, bump_whole, head_of}
use Rattle.format.proofs.BumpLaws.{bump-whole-told}
use Rattle.encoding.specs.BumpBytes.{Content, ContentFit, bump_bytes, content_of}
use Rattle.encoding.proofs.BumpRoundTrip.{bump-written}
use Rattle.path.specs.declared.path.Path.{Path}
use Rattle.path.specs.Path.{bump_path_of, bump_path}
use Rattle.spv.specs.declared.rejection.Rejection.{Rejection}
use Rattle.spv.specs.Result.{Result, accepted, refused, carrying, after_reading, follow}
use Rattle.spv.proofs.ResultLaws.{answered-ok}
use Rattle.spv.specs.Climb.{Siblings}
use Rattle.spv.specs.Clients.{bump_clients, clients_up_to}
use Rattle.spv.proofs.ClientsTheorems.{HasClient, clients-agree}
use Rattle.levels.proofs.Within.{within}
use Rattle.merging.specs.declared.joining.Tally.{Tally}
use Rattle.merging.specs.declared.merging.Merged.{Merged}
use Rattle.leaflist.specs.LeafList.{Row, leaf_list, fitting as fitting_list, building, words_in}
use Rattle.merging.specs.Merging.{Spot, all_spots, any_of, over_limit, clashes, merged, Checked, checked, list_of, has_root, alike, fitting, rooted, joining, merging, bytes_in, list_in, sizes_of, merged_of}
use Rattle.merging.proofs.MergingTheorems.{merged-read}
use Rattle.merging.proofs.MergedBytes.{merged-bytes, merged-leaves, list-is}
use Rattle.merging.proofs.MergedCheck.{both-reach, reach-both}
use Rattle.climbs.specs.Reach.{level_reaches, both_reach}
use Rattle.merging.specs.Both.{both_siblings}
use Rattle.merging.proofs.BothLaws.{root_is, level-told, level_all, both_is}
use Rattle.merging.specs.Levels.{walk_levels, level_text, tally_all}
use Rattle.merging.proofs.AllLevels.{all-walked}
use Rattle.merging.specs.Agreed.{Agreed, Taken}

-- ---- a path whose clients agree

pub agreed-read : (s r : List ℕ) (head : BumpHead) {q : ℕ} → bump_clients s ≡ accepted r → each head_of (bump_whole s) ≡ ok head q → AllBytes s → Agreed s head r
agreed-read s r head {q} e f b = let x = each-ok head_of (bump_whole s) f in record { bump = x.0; next = q; read = x.1; is = x.2; agrees = e; bytes = b }

pub agreed-low : (s r : List ℕ) (head : BumpHead) → Agreed s head r → head.height ≤ 64
agreed-low s r head g = subst (λ (h : BumpHead). h.height ≤ 64) g.is (bump-whole-told s g.read).low

-- it can be read
pub never-unread : {A : Type 0} (s r : List ℕ) {n p : ℕ} → bump_clients s ≡ accepted r → each head_of (bump_whole s) ≡ fault n p → A
never-unread s r e f = let z = sym ((clients-agree s r).0 e).read ∙ each-fault head_of (bump_whole s) f in absurd (let y : ◌≡◌ {A = ℕ} 0 1 = cc in omega arith)

-- ---- each path's own refusals

unread-check : (s : List ℕ) {n q : ℕ} → bump_whole s ≡ fault n q → bump_clients s ≡ refused (carrying n q)
unfolding clients_up_to
unread-check s f = rw f refl

checked_refused : (s : List ℕ) (why : Rejection) → bump_clients s ≡ refused why → checked s ≡ refused why
unfolding checked
checked_refused s why e = go (bump_whole s) refl
  where
    with_root : Bump → List ℕ → Result Checked
    with_root b r = accepted (record { content = content_of s b; root = r })

    go : (p : Parse Bump) → bump_whole s ≡ p → after_reading p (λ b. follow (bump_clients s) (λ r. with_root b r)) ≡ refused why
    go (ok b q) f = rw e refl
    go (fault n q) f = let x = sym (unread-check s f) ∙ e in let y : carrying n q ≡ why = cc in ap refused y

checked-read : (s r : List ℕ) {b : Bump} {q : ℕ} → bump_whole s ≡ ok b q → bump_clients s ≡ accepted r → checked s ≡ accepted (record { content = content_of s b; root = r })
unfolding checked
checked-read s r e f = rw (e, f) refl

module _ (a b : List ℕ) (bytes rows : ℕ) where
  pub first-refused : (why : Rejection) → bump_clients a ≡ refused why → merging a b bytes rows ≡ refused why
  unfolding merging
  first-refused why e = rw (checked_refused a why e) refl

  pub second-refused : (r : List ℕ) (why : Rejection) → bump_clients a ≡ accepted r → bump_clients b ≡ refused why → merging a b bytes rows ≡ refused why
  unfolding merging
  second-refused r why e f = rw (checked-read a r ((clients-agree a r).0 e).read e, checked_refused b why f) refl

-- ---- the refusals of two such paths

-- 23, 5, 16, 16, 22
abbrev decided : Bool → Bool → Bool → Bool → Bool → Content → Result Content
decided p o c h f m =
    pick p (pick o (refused (carrying OVER_LIMIT 0)) (pick c (refused (carrying ROOTS_DIFFER 0)) (pick h (pick f (accepted m) (refused (carrying NO_ROOM 0))) (refused (carrying ROOTS_DIFFER 0)))))
    (refused (carrying UNLIKE 0))

decided_told : (p o c h f : Bool) (m n : Content) → decided p o c h f m ≡ accepted n → (p ≡ true) × (o ≡ false) × (c ≡ false) × (h ≡ true) × (f ≡ true) × (m ≡ n)
decided_told false o c h f m n e = absurd (let z : ◌≡◌ {A = ℕ} 0 1 = cc in omega arith)
decided_told true true c h f m n e = absurd (let z : ◌≡◌ {A = ℕ} 0 1 = cc in omega arith)
decided_told true false true h f m n e = absurd (let z : ◌≡◌ {A = ℕ} 0 1 = cc in omega arith)
decided_told true false false false f m n e = absurd (let z : ◌≡◌ {A = ℕ} 0 1 = cc in omega arith)
decided_told true false false true false m n e = absurd (let z : ◌≡◌ {A = ℕ} 0 1 = cc in omega arith)
decided_told true false false true true m n e = (refl, refl, refl, refl, refl, cc)

lowest : (s : List ℕ) {b : Bump} {q : ℕ} → bump_whole s ≡ ok b q → (t : ℕ) × (unchecked_level Layout.Bump s b.start ≡ ok (get_or b.levels 0 []) t)
unfolding level_of_turn
lowest s {b} {q} e = go b.height (bump-whole-told s e).some (bump-whole-told s e).levels
  where
    go : (h : ℕ) → 1 ≤ h → many (level_in_turn Layout.Bump b.height) next_turn h 0 s b.start ≡ ok b.levels q → (t : ℕ) × (unchecked_level Layout.Bump s b.start ≡ ok (get_or b.levels 0 []) t)
    go zero l f = absurd (omega arith)
    go (suc n) l f =
        let x = many-told (level_in_turn Layout.Bump b.height) next_turn n 0 s b.start f in
        (x.1, level_unchecked Layout.Bump _ _ s b.start x.3 ∙ ap (λ (ls : List (List Leaf)). ok (get_or ls 0 []) x.1) x.5)

-- the client that the check speaks of
some-client : (s r : List ℕ) {b : Bump} {q : ℕ} → bump_whole s ≡ ok b q → bump_clients s ≡ accepted r → HasClient (get_or b.levels 0 [])
some-client s r {b} e f =
    let a = (clients-agree s r).0 f in
    let i = sym a.read ∙ e in
    let j : a.bump ≡ b = cc in
    subst (λ (z : Bump). HasClient (get_or z.levels 0 [])) j a.some

pub root_told : (r : List ℕ) (v : Result (List ℕ)) → has_root r v ≡ true → v ≡ accepted r
unfolding has_root
root_told r (accepted t) e = ap accepted (same_eq t r e)
root_told r (refused why) e = absurd (false≢true e)

module _ (a b : List ℕ) (x y : BumpHead) (r t : List ℕ) (ga : Agreed a x r) (gb : Agreed b y t) (bytes rows : ℕ) where
  abbrev X : Content
  X = content_of a ga.bump

  abbrev Y : Content
  Y = content_of b gb.bump

  abbrev first : Checked
  first = record { content = X; root = r }

  abbrev second : Checked
  second = record { content = Y; root = t }

  abbrev M : Content
  M = merged X Y

  abbrev over : Bool
  over = any_of over_limit (all_spots X Y)

  abbrev clashing : Bool
  clashing = any_of clashes (all_spots X Y)

  abbrev rightly : Bool
  rightly = has_root r (bump_clients (bump_bytes M))

  abbrev fits : Bool
  fits = leb (length (bump_bytes M)) bytes && leb (length (list_of (bump_bytes M))) rows

  whole : merging a b bytes rows ≡ decided (alike first second) over clashing rightly fits M
  unfolding merging joining rooted fitting
  whole = rw (checked-read a r ga.read ga.agrees, checked-read b t gb.read gb.agrees) refl

  by : (p o c h f : Bool) → alike first second ≡ p → over ≡ o → clashing ≡ c → rightly ≡ h → fits ≡ f → merging a b bytes rows ≡ decided p o c h f M
  by p o c h f e1 e2 e3 e4 e5 =
      whole
      ∙ ap (λ (v : Bool). decided v over clashing rightly fits M) e1
      ∙ ap (λ (v : Bool). decided p v clashing rightly fits M) e2
      ∙ ap (λ (v : Bool). decided p o v rightly fits M) e3
      ∙ ap (λ (v : Bool). decided p o c v fits M) e4
      ∙ ap (λ (v : Bool). decided p o c h v M) e5

  abbrev test : Bool
  test = eqb x.block y.block && eqb x.height y.height && same r t

  alike_is : alike first second ≡ test
  unfolding alike
  alike_is = ap₂ (λ (h k : BumpHead). eqb h.block k.block && eqb h.height k.height && same r t) ga.is gb.is

  pub unlike : test ≡ false → merging a b bytes rows ≡ refused (carrying UNLIKE 0)
  unlike e = by false over clashing rightly fits (alike_is ∙ e) refl refl refl refl

  module _ (same_test : test ≡ true) where
    heights : ga.bump.height ≡ gb.bump.height
    heights =
        let u = and-true (eqb x.block y.block && eqb x.height y.height) (same r t) same_test in
        let v = and-true (eqb x.block y.block) (eqb x.height y.height) u.0 in
        ap (λ (h : BumpHead). h.height) ga.is ∙ eqb-true x.height y.height v.1 ∙ ap (λ (h : BumpHead). h.height) (sym gb.is)

    walked : walk_levels a b x.height x.levels.at y.levels.at ≡ all_spots X Y
    walked = ap₂ (λ (h k : BumpHead). walk_levels a b h.height h.levels.at k.levels.at) (sym ga.is) (sym gb.is) ∙ all-walked a b ga.read gb.read heights

    module _ (tally : Tally) (te : tally ≡ tally_all (walk_levels a b x.height x.levels.at y.levels.at)) where
      tallied : tally ≡ tally_all (all_spots X Y)
      tallied = te ∙ ap tally_all walked

      over_is : over ≡ tally.over
      unfolding tally_all
      over_is = sym (ap (λ (v : Tally). v.over) tallied)

      clash-is : clashing ≡ tally.clash
      unfolding tally_all
      clash-is = sym (ap (λ (v : Tally). v.clash) tallied)

      pub too_many : tally.over ≡ true → merging a b bytes rows ≡ refused (carrying OVER_LIMIT 0)
      too_many e = by true true clashing rightly fits (alike_is ∙ same_test) (over_is ∙ e) refl refl refl

      module _ (few : tally.over ≡ false) where
        pub two-hashes : tally.clash ≡ true → merging a b bytes rows ≡ refused (carrying ROOTS_DIFFER 0)
        two-hashes e = by true false true rightly fits (alike_is ∙ same_test) (over_is ∙ few) (clash-is ∙ e) refl refl

        module _ (calm : tally.clash ≡ false) where
          abbrev σ : Siblings
          σ = both_siblings a (bump_path a ga.bump).at b (bump_path b gb.bump).at

          abbrev τ : Siblings
          τ = both_siblings a (bump_path_of a x).at b (bump_path_of b y).at

          abbrev H : ℕ
          H = ga.bump.height

          reached : (level_reaches σ H a r ga.bump.start && level_reaches σ H b r gb.bump.start) ≡ rightly
          reached = go (level_reaches σ H a r ga.bump.start) refl (level_reaches σ H b r gb.bump.start) refl rightly refl
            where
              fx : ContentFit X
              fx = (bump-written a ga.bytes ga.read).1

              fy : ContentFit Y
              fy = (bump-written b gb.bytes gb.read).1

              both : bump_clients (bump_bytes M) ≡ accepted r → (level_reaches σ H a r ga.bump.start ≡ true) × (level_reaches σ H b r gb.bump.start ≡ true)
              both e =
                  let z = reach-both a b ga.read gb.read fx fy (within a ga.read) (within b gb.read) heights (over_is ∙ few) (clash-is ∙ calm) r e in
                  (level_all σ H a r ga.bump.start (lowest a ga.read).1 z.0, level_all σ H b r gb.bump.start (lowest b gb.read).1 z.1)

              go : (p : Bool) → level_reaches σ H a r ga.bump.start ≡ p → (q : Bool) → level_reaches σ H b r gb.bump.start ≡ q → (h : Bool) → rightly ≡ h → (p && q) ≡ h
              go true e true f h g =
                  sym (root_is r (bump_clients (bump_bytes M))
                  (both-reach a b ga.read gb.read fx fy (within a ga.read) (within b gb.read) heights (over_is ∙ few) (clash-is ∙ calm) r (some-client a r ga.read ga.agrees)
                  (level-told σ H a r ga.bump.start (lowest a ga.read).1 e) (level-told σ H b r gb.bump.start (lowest b gb.read).1 f)))
                  ∙ g
              go true e false f true g = absurd (false≢true (sym f ∙ (both (root_told r (bump_clients (bump_bytes M)) g)).1))
              go true e false f false g = refl
              go false e q f true g = absurd (false≢true (sym e ∙ (both (root_told r (bump_clients (bump_bytes M)) g)).0))
              go false e q f false g = refl

          reach-is : rightly ≡ (level_reaches τ x.height a r x.levels.at && level_reaches τ x.height b r y.levels.at)
          reach-is =
              sym reached
              ∙ ap₂ (λ (h k : BumpHead). level_reaches (both_siblings a (bump_path_of a h).at b (bump_path_of b k).at) h.height a r h.levels.at && level_reaches (both_siblings a (bump_path_of a h).at b (bump_path_of b k).at) h.height b r k.levels.at) ga.is gb.is

          pub other-root : (level_reaches τ x.height a r x.levels.at && level_reaches τ x.height b r y.levels.at) ≡ false → merging a b bytes rows ≡ refused (carrying ROOTS_DIFFER 0)
          other-root e = by true false false false fits (alike_is ∙ same_test) (over_is ∙ few) (clash-is ∙ calm) (reach-is ∙ e) refl

          module _ (reach : (level_reaches τ x.height a r x.levels.at && level_reaches τ x.height b r y.levels.at) ≡ true) (size : ℕ) (se : size ≡ length (varint_bytes x.block)) where
            size_is : length (bump_bytes M) ≡ size + 1 + tally.bytes
            unfolding tally_all
            size_is =
                let u = ap length (merged-bytes X Y (clash-is ∙ calm)) in
                let v = length-append (varint_bytes ga.bump.block) (ga.bump.height ∷ encode_all level_text (all_spots X Y)) in
                let w = ap (λ (h : BumpHead). length (varint_bytes h.block)) ga.is in
                let z = ap (λ (v : Tally). v.bytes) tallied in
                omega (arith, u, v, w, z, se)

            leaves-is : length (list_of (bump_bytes M)) ≡ tally.leaves
            unfolding tally_all
            leaves-is =
                let z = merged-read X Y (bump-written a ga.bytes ga.read).1 (bump-written b gb.bytes gb.read).1 (over_is ∙ few) (clash-is ∙ calm) in
                merged-leaves X Y z.0 (clash-is ∙ calm) z.1 z.2 ∙ sym (ap (λ (v : Tally). v.leaves) tallied)

            pub bytes_over : bytes < size + 1 + tally.bytes → merging a b bytes rows ≡ refused (carrying NO_ROOM 0)
            bytes_over l =
                by true false false true false (alike_is ∙ same_test) (over_is ∙ few) (clash-is ∙ calm) (reach-is ∙ reach)
                (let s = size_is in ap (λ (v : Bool). v && leb (length (list_of (bump_bytes M))) rows) (lt-leb (length (bump_bytes M)) bytes (omega (arith, s, l))))

            pub list_over : rows < tally.leaves → merging a b bytes rows ≡ refused (carrying NO_ROOM 0)
            list_over l =
                by true false false true false (alike_is ∙ same_test) (over_is ∙ few) (clash-is ∙ calm) (reach-is ∙ reach)
                (let s = leaves-is in ap (λ (v : Bool). leb (length (bump_bytes M)) bytes && v) (lt-leb (length (list_of (bump_bytes M))) rows (omega (arith, s, l))) ∙ and-false (leb (length (bump_bytes M)) bytes))

            pub both_fit : size + 1 + tally.bytes ≤ bytes → tally.leaves ≤ rows → Ok (record { bytes = size + 1 + tally.bytes; leaves = tally.leaves }) ≡ merged_of (merging a b bytes rows)
            both_fit l m =
                let s = size_is in
                let k = leaves-is in
                let e = le-leb (length (bump_bytes M)) bytes (omega (arith, s, l)) in
                let f = le-leb (length (list_of (bump_bytes M))) rows (omega (arith, k, m)) in
                sym (ap₂ (λ (n m : ℕ). Ok (record { bytes = n; leaves = m })) s k)
                ∙ sym (ap merged_of (by true false false true true (alike_is ∙ same_test) (over_is ∙ few) (clash-is ∙ calm) (reach-is ∙ reach) (ap₂ ◌&&◌ e f)))

-- ---- answers

-- a refusal leaves the memory as it was
module _ (v : Result Content) (why : Rejection) (e : v ≡ refused why) where
  pub left-bytes : (w : List ℕ) → w ≡ bytes_in v w
  unfolding bytes_in
  left-bytes w = rw e refl

  pub left-list : (w : List ℕ) → w ≡ list_in v w
  unfolding list_in
  left-list w = rw e refl

-- ---- what is written

pub build_of : (s : List ℕ) (z : Bump) {q : ℕ} (room : ℕ) → bump_whole s ≡ ok z q → length (list_of s) ≤ room → building s room ≡ accepted (list_of s)
unfolding building fitting_list
build_of s z room e l = rw (e, list-is s z e) (let f = ap length (list-is s z e) in rw (le-leb (length (leaf_list s z)) room (omega (arith, f, l))) refl)

module _ (s : List ℕ) (x : BumpHead) (t : List ℕ) (y : BumpHead) (n bytes rows : ℕ) (g : Taken s x t y n bytes rows) where
  pub taken-low : x.height ≤ 64
  taken-low = agreed-low s g.root x g.first

  abbrev content : Content
  content = merged (content_of s g.first.bump) (content_of t g.second.bump)

  pub record Facts : Type 0 where
    pub alike_test : eqb x.block y.block && eqb x.height y.height && same g.root g.other ≡ true
    pub few : any_of over_limit (all_spots (content_of s g.first.bump) (content_of t g.second.bump)) ≡ false
    pub calm : any_of clashes (all_spots (content_of s g.first.bump) (content_of t g.second.bump)) ≡ false
    pub right : has_root g.root (bump_clients (bump_bytes content)) ≡ true
    pub result : merging s t bytes rows ≡ accepted content
    pub size : n ≡ length (bump_bytes content)
    pub text : varint_bytes x.block ++ (x.height ∷ encode_all level_text (walk_levels s t x.height x.levels.at y.levels.at)) ≡ bump_bytes content
    pub room : length (bump_bytes content) ≤ bytes
    pub list-room : length (list_of (bump_bytes content)) ≤ rows
    pub back : Bump
    pub read : bump_whole (bump_bytes content) ≡ ok back (length (bump_bytes content))

  pub facts : Facts
  facts =
      let u = answered-ok sizes_of (merging s t bytes rows) (record { bytes = n; leaves = g.leaves }) g.says in
      let w = whole s t x y g.root g.other g.first g.second bytes rows in
      let d = decided_told (alike (record { content = content_of s g.first.bump; root = g.root }) (record { content = content_of t g.second.bump; root = g.other })) (any_of over_limit (all_spots (content_of s g.first.bump) (content_of t g.second.bump))) (any_of clashes (all_spots (content_of s g.first.bump) (content_of t g.second.bump))) (has_root g.root (bump_clients (bump_bytes content))) (leb (length (bump_bytes content)) bytes && leb (length (list_of (bump_bytes content))) rows) content u.0 (sym w ∙ u.1) in
      let same_test = sym (alike_is s t x y g.root g.other g.first g.second bytes rows) ∙ d.0 in
      let f = and-true (leb (length (bump_bytes content)) bytes) (leb (length (list_of (bump_bytes content))) rows) d.4 in
      let back = merged-read (content_of s g.first.bump) (content_of t g.second.bump) (bump-written s g.first.bytes g.first.read).1 (bump-written t g.second.bytes g.second.read).1 d.1 d.2 in
      record {
        alike_test = same_test;
        few = d.1;
        calm = d.2;
        right = d.3;
        result = u.1 ∙ ap accepted (sym d.5);
        size = sym (ap (λ (m : Merged). m.bytes) u.2) ∙ ap (λ (m : Content). length (bump_bytes m)) (sym d.5);
        text = ap (λ (h : BumpHead). varint_bytes h.block ++ (h.height ∷ encode_all level_text (walk_levels s t x.height x.levels.at y.levels.at))) (sym g.first.is)
            ∙ ap (λ (ls : List (List Spot)). varint_bytes g.first.bump.block ++ (g.first.bump.height ∷ encode_all level_text ls)) (walked s t x y g.root g.other g.first g.second bytes rows same_test)
            ∙ sym (merged-bytes (content_of s g.first.bump) (content_of t g.second.bump) d.2);
        room = leb-true (length (bump_bytes content)) bytes f.0;
        list-room = leb-true (length (list_of (bump_bytes content))) rows f.1;
        back = back.0;
        read = back.1;
      }

  -- the bytes, by what was written from the start
  module _ (o o' : List ℕ) (k : ℕ) (long : length o ≡ bytes)
      (wrote : buffer o' k ≡ write_on (buffer o 0) (varint_bytes x.block ++ (x.height ∷ encode_all level_text (walk_levels s t x.height x.levels.at y.levels.at)))) where
    stored : o' ≡ bump_bytes content ++ drop (length (bump_bytes content)) o
    stored =
        let l = facts.room in
        ap (λ (p : Buffer). p.room) (wrote ∙ ap (write_on (buffer o 0)) facts.text ∙ write-whole o (bump_bytes content))
        ∙ ap (λ (v : List ℕ). v ++ drop (length (bump_bytes content)) o) (take_all (length o) (bump_bytes content) (omega (arith, l, long)))

    pub bytes_stored : o' ≡ bytes_in (merging s t bytes rows) o
    unfolding bytes_in
    bytes_stored = stored ∙ sym (ap (λ (v : Result Content). bytes_in v o) facts.result)

    pub part-fits : n ≤ length o'
    part-fits =
        let e = ap length stored in
        let f = length-append (bump_bytes content) (drop (length (bump_bytes content)) o) in
        let h = facts.size in
        omega (arith, e, f, h)

    part : take n o' ≡ bump_bytes content
    part = ap (take n) stored ∙ ap (λ (v : ℕ). take v (bump_bytes content ++ drop (length (bump_bytes content)) o)) facts.size ∙ take-append_seam (bump_bytes content) (drop (length (bump_bytes content)) o)

    -- the list, by a build over them
    pub list_stored : (w w' : List ℕ) → length w / 3 ≡ rows → w' ≡ words_in (building (take n o') (length w / 3)) w → w' ≡ list_in (merging s t bytes rows) w
    unfolding words_in list_in
    list_stored w w' e f =
        f
        ∙ ap (λ (v : List ℕ). words_in (building v (length w / 3)) w) part
        ∙ ap (λ (v : ℕ). words_in (building (bump_bytes content) v) w) e
        ∙ ap (λ (v : Result (List Row)). words_in v w) (build_of (bump_bytes content) facts.back rows facts.read facts.list-room)
        ∙ sym (ap (λ (v : Result Content). list_in v w) facts.result)

-- ---- the tests of the code

module _ (s t : List ℕ) (x y : BumpHead) (root : List ℕ) (p q : Path) (e : p ≡ bump_path_of s x) (f : q ≡ bump_path_of t y) (low : x.height ≤ 64) where
  abbrev ρ : Siblings
  ρ = both_siblings s (bump_path_of s x).at t (bump_path_of t y).at

  pub reach-none : (v : Bool) → v ≡ both_reach s x.levels.at s p t q root → v ≡ false → false ≡ (level_reaches ρ x.height s root x.levels.at && level_reaches ρ x.height t root y.levels.at)
  reach-none v g h =
      ap (λ (w : Bool). w && level_reaches ρ x.height t root y.levels.at) (sym h ∙ g ∙ both_is s t x y root p q e f low s x.levels.at)

  pub reach_then : (v w : Bool) → v ≡ both_reach s x.levels.at s p t q root → v ≡ true → w ≡ both_reach t y.levels.at s p t q root
      → w ≡ (level_reaches ρ x.height s root x.levels.at && level_reaches ρ x.height t root y.levels.at)
  reach_then v w g h i =
      i ∙ both_is s t x y root p q e f low t y.levels.at
      ∙ ap (λ (u : Bool). u && level_reaches ρ x.height t root y.levels.at) (sym h ∙ g ∙ both_is s t x y root p q e f low s x.levels.at)
