use mathlib.Core.Path.{sym, ◌∙◌}
use Prim.Native.Nat.{◌*◌}
use Rattle.format.specs.Bytes.{hash_at}
use Rattle.order.proofs.IdsLaws.{keys_differ}
use Rattle.order.proofs.ids.is_id.Goals as goal

pub returns-then-own-key : goal.returns-then-own-key
returns-then-own-key c = sym (keys_differ (hash_at c.args.ids.now (32 * c.args.i)) c.args.x (λ e. c.if-own-key.true (c.requires.own_value ∙ e ∙ sym c.requires.key_value)))
