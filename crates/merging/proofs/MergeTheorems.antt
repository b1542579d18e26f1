-- What an accepted merging gives (02, Item 14), over the call's definition; its refusals and their order are the definition's own lines.
use mathlib.Core.Path.{◌≡◌, refl, ap, sym, subst, ◌∙◌}
use mathlib.Core.List.{List, []}
use mathlib.Core.Bool.{false, ◌&&◌}
use Prim.Native.Nat.{ℕ, ◌/◌, ◌≤◌}
use lib.ListN.{length, get_or}
use lib.Dec.{eqb}
use borrow.Author.Tests.{eqb-true}
use Rattle.format.proofs.Basics.{and-true}
use Rattle.format.specs.Bytes.{same}
use Rattle.format.proofs.BytesLaws.{same_eq}
use Rattle.format.specs.Parse.{ok}
use Rattle.encoding.specs.Encode.{AllBytes}
use Rattle.format.specs.Bump.{Bump, bump_whole, head_of}
use Rattle.encoding.specs.BumpBytes.{Content, bump_bytes, content_of}
use Rattle.encoding.proofs.BumpRoundTrip.{bump-written}
use Rattle.spv.specs.Result.{Result, accepted, refused}
use Rattle.spv.specs.Clients.{bump_clients}
use Rattle.spv.proofs.ClientsTheorems.{clients-agree}
use Rattle.levels.specs.Standing.{standing}
use Rattle.levels.proofs.InOrder.{InOrder}
use Rattle.levels.proofs.Within.{within}
use Rattle.leaflist.specs.LeafList.{Row, building, words_in, room_in}
use Rattle.merging.specs.Merging.{left_of, merged, list_of, merging, list_in, merged_of}
use Rattle.merging.proofs.MergingTheorems.{union, clashing, merged-standing, merged-read, merged_order}
use Rattle.merging.proofs.MergedCheck.{calm_within}
use Rattle.merging.proofs.MergeLaws.{facts, first-refused, second-refused, root_told, build_of}
use Rattle.merging.specs.Agreed.{Agreed, Taken}

pub record Joined (a b : List ℕ) (bytes rows : ℕ) (m : Content) : Type 0 where
  pub first : Bump
  pub second : Bump
  pub root : List ℕ
  pub first-end : ℕ
  pub second-end : ℕ
  pub first_read : bump_whole a ≡ ok first first-end
  pub second-read : bump_whole b ≡ ok second second-end
  -- "of the same block height and root"; "a path's root is the one its all-clients check gives, and the merged path still has it"
  pub blocks : first.block ≡ second.block
  pub heights : first.height ≡ second.height
  pub first-root : bump_clients a ≡ accepted root
  pub second-root : bump_clients b ≡ accepted root
  pub merged-root : bump_clients (bump_bytes m) ≡ accepted root
  pub block : m.block ≡ first.block
  pub height : m.height ≡ first.height
  -- "keeps every leaf of either once and no other": what stands at each place, nowhere a clash
  pub stands : (k o : ℕ)
      → standing m k o ≡ union (left_of (standing (content_of a first) k) o) (left_of (standing (content_of b second) k) o) (standing (content_of a first) k o) (standing (content_of b second) k o)
  pub calm : (k o : ℕ)
      → clashing (left_of (standing (content_of a first) k) o) (left_of (standing (content_of b second) k) o) (standing (content_of a first) k o) (standing (content_of b second) k o) ≡ false
  -- "their offsets rising"
  pub rising : (k : ℕ) → InOrder (get_or m.levels k [])
  -- the bytes are read back to it, and fit
  pub back : Bump
  pub back_read : bump_whole (bump_bytes m) ≡ ok back (length (bump_bytes m))
  pub back_is : content_of (bump_bytes m) back ≡ m
  pub fits : length (bump_bytes m) ≤ bytes
  -- "what a fresh build over the merged bytes gives"
  pub fresh : building (bump_bytes m) rows ≡ accepted (list_of (bump_bytes m))

abbrev agreed : (s r : List ℕ) → AllBytes s → bump_clients s ≡ accepted r → (z : Bump) × Agreed s (head_of z) r
agreed s r all e = let a = (clients-agree s r).0 e in (a.bump, record { bump = a.bump; next = a.next; read = a.read; is = refl; agrees = e; bytes = all })

module _ (a b : List ℕ) (bytes rows : ℕ) (m : Content) (all-a : AllBytes a) (all-b : AllBytes b) (e : merging a b bytes rows ≡ accepted m) where
  joined_by : (r t : List ℕ) → bump_clients a ≡ accepted r → bump_clients b ≡ accepted t → Joined a b bytes rows m
  unfolding merged
  joined_by r t f g =
      let x = agreed a r all-a f in
      let y = agreed b t all-b g in
      let k : Taken a (head_of x.0) b (head_of y.0) (length (bump_bytes m)) bytes rows =
      record { root = r; other = t; leaves = length (list_of (bump_bytes m)); first = x.1; second = y.1; says = sym (ap merged_of e) } in
      let v = facts a (head_of x.0) b (head_of y.0) (length (bump_bytes m)) bytes rows k in
      let u = and-true (eqb x.0.block y.0.block && eqb x.0.height y.0.height) (same r t) v.alike_test in
      let w = and-true (eqb x.0.block y.0.block) (eqb x.0.height y.0.height) u.0 in
      let X : Content = content_of a x.1.bump in
      let Y : Content = content_of b y.1.bump in
      let is : merged X Y ≡ m = (let z = sym v.result ∙ e in cc) in
      let h : x.1.bump.height ≡ y.1.bump.height = eqb-true x.0.height y.0.height w.1 in
      let fx = (bump-written a all-a x.1.read).1 in
      let fy = (bump-written b all-b y.1.read).1 in
      let back = merged-read X Y fx fy v.few v.calm in
      subst (Joined a b bytes rows) is
      (record {
        first = x.1.bump;
        second = y.1.bump;
        root = r;
        first-end = x.1.next;
        second-end = y.1.next;
        first_read = x.1.read;
        second-read = y.1.read;
        blocks = eqb-true x.0.block y.0.block w.0;
        heights = h;
        first-root = f;
        second-root = g ∙ ap accepted (sym (same_eq r t u.1));
        merged-root = root_told r (bump_clients (bump_bytes (merged X Y))) v.right;
        block = refl;
        height = refl;
        stands = merged-standing X Y (within a x.1.read) (within b y.1.read) h;
        calm = calm_within X Y (within a x.1.read) (within b y.1.read) h v.calm;
        rising = merged_order X Y;
        back = back.0;
        back_read = back.1;
        back_is = back.2;
        fits = v.room;
        fresh = build_of (bump_bytes (merged X Y)) back.0 rows back.1 v.list-room;
      })

  pub joined : Joined a b bytes rows m
  joined = first_by (bump_clients a) refl
    where
      second_by : (r : List ℕ) → bump_clients a ≡ accepted r → (v : Result (List ℕ)) → bump_clients b ≡ v → Joined a b bytes rows m
      second_by r f (accepted t) g = joined_by r t f g
      second_by r f (refused why) g = let z = sym (second-refused a b bytes rows r why f g) ∙ e in cc

      first_by : (v : Result (List ℕ)) → bump_clients a ≡ v → Joined a b bytes rows m
      first_by (accepted r) f = second_by r f (bump_clients b) refl
      first_by (refused why) f = let z = sym (first-refused a b bytes rows why f) ∙ e in cc

-- so the memory lent for the list holds what a fresh build over the merged bytes writes there
pub fresh-list : (a b w : List ℕ) (bytes : ℕ) (m : Content) → AllBytes a → AllBytes b → merging a b bytes (room_in w) ≡ accepted m
    → list_in (merging a b bytes (room_in w)) w ≡ words_in (building (bump_bytes m) (room_in w)) w
unfolding list_in words_in
fresh-list a b w bytes m all-a all-b e =
    ap (λ (v : Result Content). list_in v w) e
    ∙ sym (ap (λ (v : Result (List Row)). words_in v w) (joined a b bytes (length w / 3) m all-a all-b e).fresh)
