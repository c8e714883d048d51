-- `read` on words meets its contract: the four words of a record, read in place. Assumes nothing.
use mathlib.Core.Path.{◌≡◌, ap}
use Prim.Native.Nat.{ℕ, ◌+◌, ◌*◌}
use native.Mathlib.Omega.{arith}
use lib.ListN.{get_or}
use Rattle.words.specs.Record.{field_of, span_at, position_at, value_at}
use Rattle.words.specs.declared.node.Record.{Record}
use Rattle.tree.proofs.records.WordsRecords.read.Goals as goal

pub returns : goal.returns
unfolding field_of
returns c =
    let w = c.args.self.0.now in
    let i = c.args.at in
    let z : i * 4 ≡ i * 4 + 0 = omega arith in
    ap
    (λ (k : ℕ). let r : Record = record { kind = get_or w k 0; span = span_at w i; position = position_at w i; value = value_at w i } in r)
    z
