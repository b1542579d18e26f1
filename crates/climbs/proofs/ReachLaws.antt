-- Laws of the check that all clients of a level climb to one root.
use Rattle.std.proofs.Common.{◌≡◌, ℕ, true, false, ◌&&◌, leb, List, refl}
use Rattle.format.specs.Parse.{ok, fault}
use Rattle.format.specs.Field.{varint}
use Rattle.path.specs.declared.path.Path.{Path}
use Rattle.path.specs.Path.{LAYERS}
use Rattle.std.specs.Result.{is_ok}
use Rattle.spv.specs.Result.{Result, accepted, refused}
use Rattle.spv.specs.Climb.{Siblings}
use Rattle.spv.specs.Values.{worked_out}
use Rattle.climbs.specs.ClientsShapes.{clients_in, checked_of}
use Rattle.climbs.specs.LookUp.{looked_up}
use Rattle.climbs.specs.Proofs.{is_bump}
use Rattle.climbs.specs.Reach.{is_accepted, level_reaches, both_reach}
use Rattle.spv.specs.Prove.{bound}

-- whether the check was accepted
pub accepts : (v : Result (List ℕ)) → is_ok (checked_of v) ≡ is_accepted v
unfolding is_accepted
accepts (accepted r) = refl
accepts (refused why) = refl

module _ (σ : Siblings) (h : ℕ) (s r : List ℕ) (at : ℕ) where
  pub reaches_short : {k q : ℕ} → varint s at ≡ fault k q → false ≡ level_reaches σ h s r at
  unfolding level_reaches is_accepted
  reaches_short e = rw e refl

  pub reaches-read : (n next : ℕ) → varint s at ≡ ok n next → is_accepted (clients_in σ h s n next (bound r)) ≡ level_reaches σ h s r at
  unfolding level_reaches
  reaches-read n next e = rw e refl

module _ (u : List ℕ) (at : ℕ) (s : List ℕ) (first : Path) (t : List ℕ) (second : Path) (r : List ℕ) where
  pub unlevelled : (is_bump first.form && leb first.layers LAYERS) ≡ false → false ≡ both_reach u at s first t second r
  unfolding both_reach
  unlevelled e = rw e refl

  pub levelled : (is_bump first.form && leb first.layers LAYERS) ≡ true → level_reaches (worked_out (looked_up s first.at t second.at)) first.layers u r at ≡ both_reach u at s first t second r
  unfolding both_reach
  levelled e = rw e refl
