use native.Mathlib.Omega.{arith}
use borrow.Author.Rules.{rules}
use mathlib.Core.Path.{sym, ◌∙◌}
use Rattle.std.proofs.lemmas.Slice.{put_mid-paste}
use Rattle.format.proofs.BytesLaws.{set-inside, set_outside}
use Rattle.format.proofs.bytes.set_hash.Goals as goal

pub returns-then-list-i : goal.returns-then-list-i
returns-then-list-i c = sym (set_outside _ _ _ c.if-list-i.true)

pub returns : goal.returns
returns c = put_mid-paste _ _ _ _ c.args.hash 32 c.copy_from_slice.ensures.after (omega arith) (search rules) ∙ sym (set-inside _ _ _ c.if-list-i.false)
