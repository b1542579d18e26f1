-- Each half is overwritten.
use Rattle.std.proofs.Common.{◌≡◌, ◌≤◌, ◌++◌, ◌∙◌, List, ℕ, length, rules, arith, sym, ap, take_all, length-append, length-drop, length-take-le, drop}
use Rattle.std.proofs.lemmas.List.{take-append-le}
use Rattle.std.proofs.lemmas.Slice.{take-put_mid}
use borrow.Rule.Slice.PartMut.{put_mid, same_len_mid}
use Rattle.spv.proofs.compare.string_of.Goals as goal

halves : (l r z : List ℕ) → length l ≡ 32 → length r ≡ 32 → length z ≡ 32 → put_mid 32 32 (l ++ z) r ≡ l ++ r
halves l r z hl hr hz =
    let size : length (l ++ z) ≡ 64 = simp length-append (omega arith) in
    let rest : 32 ≤ length (drop 32 (l ++ z)) = rw length-drop (omega arith) in
    let whole = same_len_mid 32 32 (l ++ z) r (hr ∙ sym (length-take-le 32 (drop 32 (l ++ z)) rest)) in
    sym (take_all 64 (put_mid 32 32 (l ++ z) r) (omega arith)) ∙ take-put_mid 32 32 (l ++ z) r 64 (omega arith) (omega arith)
    ∙ ap (λ (x : List ℕ). x ++ r) (take-append-le 32 l z (omega arith) ∙ take_all 32 l (omega arith))

pub returns : goal.returns
returns c = rw (c.copy_from_slice.ensures.after, c.copy_from_slice-2.ensures.after) (halves c.args.halves.left c.args.halves.right _ (search rules) (search rules) (search rules))
