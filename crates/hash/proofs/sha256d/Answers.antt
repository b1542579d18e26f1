use Rattle.std.proofs.Common.{sym, arith}
use Rattle.hash.specs.Sha256.{sha256d, sha256}
use Rattle.hash.proofs.Sha256Laws.{hashed-accepted, hashed-refused}
use Rattle.hash.proofs.sha256d.Goals as goal

pub returns-then-s-le-MAX_INPUT : goal.returns-then-s-le-MAX_INPUT
unfolding sha256d sha256
returns-then-s-le-MAX_INPUT c =
    let e = hashed-accepted c.args.s.now (omega arith) in
    simp (e, c.hash_digest.ensures, c.hash_value.ensures)

pub returns-else-s-le-MAX_INPUT : goal.returns-else-s-le-MAX_INPUT
returns-else-s-le-MAX_INPUT c = sym (hashed-refused c.args.s.now (omega arith))
