-- What the loop that climbs and writes has shown at its head: what is left to write from here comes to what was asked for at the start. Assumes nothing.
use Prim.Native.Nat.{ℕ, ◌+◌, ◌-◌, ◌/◌, ◌≤◌, ◌<◌}
use native.Mathlib.Nat.{sub-zero}
use mathlib.Core.Path.{◌≡◌, ap, ◌∙◌, sym}
use mathlib.Core.List.{List, ◌++◌}
use Rattle.hash.specs.Sha256.{sha256d}
use Rattle.encoding.specs.Buffer.{Buffer, write_on}
use Rattle.encoding.proofs.BufferLaws.{write-none, write_then}
use Rattle.encoding.specs.BumpBytes.{carried_bytes}
use Rattle.spv.specs.Climb.{Siblings, Ascent, joins, step, odd, sibling_position, ascend, siblings_of}
use Rattle.spv.proofs.ClimbLaws.{turn-joins, turn-none}
use Rattle.spv.specs.Trace.{as_carried, nodes_text}
use Rattle.spv.proofs.TraceLaws.{text-none, text-more}

-- the text of a climb's siblings
abbrev pub trail : Ascent → List ℕ
trail a = nodes_text (siblings_of a)

module _ (σ : Siblings) (h i : ℕ) (id : List ℕ) (start : Buffer) where
  abbrev pub Trailing : ℕ → ℕ → List ℕ → Buffer → Type 0
  Trailing k j c p = write_on p (trail (ascend σ k (h - k) j c)) ≡ write_on start (trail (ascend σ 0 h i id))

  pub trailing_start : Trailing 0 i id start
  trailing_start = rw sub-zero

  module _ (k j : ℕ) (c : List ℕ) (p : Buffer) (v : Trailing k j c p) where
    pub trailing_end : h ≤ k → p ≡ write_on start (trail (ascend σ 0 h i id))
    unfolding siblings_of
    trailing_end b = sym (ap (λ (a : Ascent). write_on p (trail a)) (turn-none σ k k h j c b) ∙ ap (write_on p) text-none ∙ write-none p) ∙ v

    module _ (b : k < h) where
      pub trailing_up : (l r : List ℕ) → step (σ k (sibling_position j)) (odd j) c ≡ joins l r → (c' : List ℕ) → c' ≡ sha256d (l ++ r)
          → (q : Buffer) → q ≡ write_on p (carried_bytes (as_carried (σ k (sibling_position j)))) → Trailing (k + 1) (j / 2) c' q
      unfolding siblings_of
      trailing_up l r e c' g q f =
          ap (λ (d : List ℕ). write_on q (trail (ascend σ (k + 1) (h - (k + 1)) (j / 2) d))) g
          ∙ ap (λ (x : Buffer). write_on x (trail (ascend σ (k + 1) (h - (k + 1)) (j / 2) (sha256d (l ++ r))))) f
          ∙ sym (write_then p (carried_bytes (as_carried (σ k (sibling_position j)))) (trail (ascend σ (k + 1) (h - (k + 1)) (j / 2) (sha256d (l ++ r)))))
          ∙ ap (write_on p) (sym (text-more (σ k (sibling_position j)) (siblings_of (ascend σ (k + 1) (h - (k + 1)) (j / 2) (sha256d (l ++ r))))))
          ∙ sym (ap (λ (a : Ascent). write_on p (trail a)) (turn-joins σ k k h j c b l r e))
          ∙ v
