-- Item 14's merging (02) of the code's own answers: what a call of `merge` has returned and left in the memory lent. What the theorems of `MergeTheorems`
-- ask for, the types of the call's arguments say.
use Rattle.std.proofs.Common.{Result as Answer, Ok}
use mathlib.Core.Path.{◌≡◌, sym, ap, ◌∙◌}
use mathlib.Core.List.{List, ◌++◌}
use Prim.Native.Nat.{ℕ}
use lib.ListN.{length, get_or, take, drop}
use lib.Seq.{take-append_seam}
use mir.Syntax.{w8}
use mir.Val.{Fits}
use Rattle.encoding.specs.BumpBytes.{Content, bump_bytes}
use Rattle.spv.specs.declared.rejection.Rejection.{Rejection}
use Rattle.spv.specs.Result.{Result, accepted}
use Rattle.spv.proofs.ResultLaws.{answered-ok}
use Rattle.leaflist.specs.LeafList.{building, words_in, room_in}
use Rattle.merging.specs.declared.merging.Merged.{Merged}
use Rattle.merging.specs.Merging.{list_of, merging, bytes_in, list_in, sizes_of, merged_of}
use Rattle.merging.proofs.MergeTheorems.{Joined, joined, fresh-list}

-- a call of `merge(a, b, bytes, list)`: what it returned and left in `bytes` and `list`, by its contract; a and b are slices of u8
pub record Call (a b bytes list : List ℕ) (returned : Answer Merged Rejection) (bytes_left List-left : List ℕ) : Type 0 where
  pub first-bytes : (i : ℕ) → Fits w8 (get_or a i 0)
  pub second-bytes : (i : ℕ) → Fits w8 (get_or b i 0)
  pub answer : returned ≡ merged_of (merging a b (length bytes) (room_in list))
  pub lent_bytes : bytes_left ≡ bytes_in (merging a b (length bytes) (room_in list)) bytes
  pub lent_list : List-left ≡ list_in (merging a b (length bytes) (room_in list)) list

-- an answer of n bytes and m leaves: the first n are the merged path's, and m is the number of its leaves
told : (v : Result Content) (w left : List ℕ) (n m : ℕ) → Ok (record { bytes = n; leaves = m }) ≡ merged_of v → left ≡ bytes_in v w
    → (x : Content) × (v ≡ accepted x) × (bump_bytes x ≡ take n left) × (m ≡ length (list_of (bump_bytes x)))
unfolding bytes_in
told v w left n m e f =
    let a = answered-ok sizes_of v (record { bytes = n; leaves = m }) e in
    let x = a.0 in
    let l : n ≡ length (bump_bytes x) = sym (ap (λ (r : Merged). r.bytes) a.2) in
    let g : left ≡ bump_bytes x ++ drop (length (bump_bytes x)) w = f ∙ ap (λ (u : Result Content). bytes_in u w) a.1 in (
      x,
      a.1,
      sym (take-append_seam (bump_bytes x) (drop (length (bump_bytes x)) w)) ∙ ap (λ (k : ℕ). take k (bump_bytes x ++ drop (length (bump_bytes x)) w)) (sym l) ∙ ap (take n) (sym g),
      sym (ap (λ (r : Merged). r.leaves) a.2),
    )

-- what was merged, of the memory left: the path that the first n bytes spell, and its list
pub record Answered (a b bytes list : List ℕ) (n m : ℕ) (bytes_left List-left : List ℕ) : Type 0 where
  pub content : Content
  pub path : Joined a b (length bytes) (room_in list) content
  pub spelled : bump_bytes content ≡ take n bytes_left
  pub leaves : m ≡ length (list_of (take n bytes_left))
  -- "what a fresh build over the merged bytes gives", into the same memory
  pub fresh : List-left ≡ words_in (building (take n bytes_left) (room_in list)) list

pub answered : {a b bytes list : List ℕ} {n m : ℕ} {bytes_left List-left : List ℕ} → Call a b bytes list (Ok (record { bytes = n; leaves = m })) bytes_left List-left → Answered a b bytes list n m bytes_left List-left
answered {a} {b} {bytes} {list} {n} {m} {bytes_left} {List-left} c =
    let t = told (merging a b (length bytes) (room_in list)) bytes bytes_left n m c.answer c.lent_bytes in
    record {
      content = t.0;
      path = joined a b (length bytes) (room_in list) t.0 (λ i. (c.first-bytes i).fits) (λ i. (c.second-bytes i).fits) t.1;
      spelled = t.2;
      leaves = t.3 ∙ ap (λ (s : List ℕ). length (list_of s)) t.2;
      fresh =
          c.lent_list ∙ fresh-list a b list (length bytes) t.0 (λ i. (c.first-bytes i).fits) (λ i. (c.second-bytes i).fits) t.1
          ∙ ap (λ (s : List ℕ). words_in (building s (room_in list)) list) t.2;
    }
