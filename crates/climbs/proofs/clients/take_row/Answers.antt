use Rattle.std.proofs.Common.{ℕ, ◌+◌, List, set, ap, ◌∙◌, arith}
use Rattle.climbs.proofs.WaitingLaws.{leaf-plain, leaf-copy}
use Rattle.climbs.specs.Waiting.{rows_say}
use Rattle.climbs.proofs.WaitingLaws.{row-client}
use Rattle.climbs.proofs.clients.take_row.Goals as goal

pub returns-in-Client : goal.returns-in-Client
returns-in-Client c = (omega arith, λ σ h x. ap (λ (l : List ℕ). rows_say σ h (set c.args.starts.now c.args.count c.args.leaf.offset) l (c.args.count + 1) x) c.set_hash.ensures ∙ row-client σ h c.args.s.now c.args.leaf c.args.starts.now c.args.hashes.now c.args.count x _ _ c.in-Client.is c.hash_at-hash.ensures c.requires.0 c.requires.1)

pub returns-in-Plain : goal.returns-in-Plain
returns-in-Plain c = (omega arith, λ σ h x. leaf-plain σ h c.args.s.now c.args.leaf _ _ c.in-Plain.is)

pub returns-in-Copy : goal.returns-in-Copy
returns-in-Copy c = (omega arith, λ σ h x. leaf-copy σ h c.args.s.now c.args.leaf _ c.in-Copy.is)
