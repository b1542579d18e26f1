-- Laws of the listing: what the code writes in turn is the listing, as far as there is room.
use mathlib.Core.Path.{◌≡◌, ap, ◌∙◌}
use mathlib.Core.List.{List, ◌++◌}
use Prim.Native.Nat.{ℕ, ◌<◌, ◌≤◌, min}
use lib.ListN.{length}
use borrow.Author.Tests.{le-leb, lt-leb}
use Rattle.format.specs.declared.bump.BumpHead.{BumpHead}
use Rattle.format.specs.Refusals.{TOO_LONG}
use Rattle.format.specs.Parse.{each, ok, fault}
use Rattle.format.proofs.ParseLaws.{each-ok, each-fault}
use Rattle.format.specs.Bump.{Bump, bump_whole, head_of}
use Rattle.format.proofs.BumpLaws.{bump-whole-told}
use Rattle.listing.specs.Text.{ascii, decimal, line}
use Rattle.encoding.specs.Buffer.{Buffer, buffer, write_on, filled}
use Rattle.encoding.proofs.BufferLaws.{wrote_then, write-whole}
use Rattle.listing.specs.Listing.{LISTED_BYTES, level_lines, bump_lines, refused_line, report, listing}
use Rattle.listing.specs.Walk.{Walk, walk_levels}
use Rattle.listing.proofs.WalkLaws.{levels-walked}

module _ (s : List ℕ) where
  pub listing-long : LISTED_BYTES < length s → listing s ≡ refused_line TOO_LONG 0
  unfolding listing
  listing-long h = rw (lt-leb (length s) LISTED_BYTES h)

  pub listing-whole : length s ≤ LISTED_BYTES → listing s ≡ report s (bump_whole s)
  unfolding listing
  listing-whole h = rw (le-leb (length s) LISTED_BYTES h)

  -- the line of a refusal
  pub report-refused : (p : Buffer) {n q : ℕ} {p₁ : Buffer} → each head_of (bump_whole s) ≡ fault n q → p₁ ≡ write_on p (refused_line n q) → p₁ ≡ write_on p (report s (bump_whole s))
  unfolding report
  report-refused p e e₁ = rw (each-fault head_of (bump_whole s) e) e₁

  -- the lines of a BUMP that was read, written one after the other
  pub report-read : (p : Buffer) {head : BumpHead} {q : ℕ} {p₁ p₂ p₃ p₄ : Buffer} → each head_of (bump_whole s) ≡ ok head q
      → p₁ ≡ write_on p (line (ascii "block " ++ decimal head.block))
      → p₂ ≡ write_on p₁ (line (ascii "height " ++ decimal head.height))
      → p₃ ≡ (walk_levels s head.height 0 head.levels.at p₂).buffer
      → p₄ ≡ write_on p₃ (line (ascii "ok"))
      → p₄ ≡ write_on p (report s (bump_whole s))
  unfolding report bump_lines
  report-read p {head} {q} {p₁} {p₂} {p₃} {p₄} e e₁ e₂ e₃ e₄ =
      let x = each-ok head_of (bump_whole s) e in
      rw x.1 (lines x.0 x.1 (rw (← x.2) at e₁) (rw (← x.2) at e₂) (rw (← x.2) at e₃))
    where
      lines : (b : Bump) → bump_whole s ≡ ok b q → p₁ ≡ write_on p (line (ascii "block " ++ decimal b.block)) → p₂ ≡ write_on p₁ (line (ascii "height " ++ decimal b.height))
          → p₃ ≡ (walk_levels s b.height 0 b.start p₂).buffer → p₄ ≡ write_on p (bump_lines s b)
      lines b r f₁ f₂ f₃ =
          let walked : p₃ ≡ write_on p₂ (level_lines s 0 b.levels) = f₃ ∙ ap (λ (w : Walk). w.buffer) (levels-walked s b.height b.height 0 b.start p₂ (bump-whole-told s r).levels) in
          wrote_then p _ _ (wrote_then p _ _ (wrote_then p _ _ f₁ f₂) walked) e₄

-- what is written from the start of the memory lent
pub wrote_whole : (o text : List ℕ) {o' : List ℕ} {r : ℕ} → buffer o' r ≡ write_on (buffer o 0) text → (r ≡ min (length o) (length text)) × (o' ≡ filled o text)
wrote_whole o text e = (ap (λ (p : Buffer). p.at) (e ∙ write-whole o text), ap (λ (p : Buffer). p.room) (e ∙ write-whole o text))
