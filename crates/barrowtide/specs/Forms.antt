-- The form of a proof that a number names: 01 has no refusal for an unknown form, so every number names one.
use Rattle.std.specs.Prelude.{ℕ, eqb}
use Rattle.format.specs.Parse.{pick}
use Rattle.path.specs.declared.path.Form.{Form}

unfoldable pub form_of : ℕ → Form
form_of n = pick (eqb n 0) Form.Bump (pick (eqb n 1) Form.Cmp Form.Tsc)
