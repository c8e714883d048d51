-- The bench pieces (a) to (l) of 01, the whole table: (a) to (k) of the definition, (l) of the listing. Assumes nothing.
use Rattle.definition.specs.Bench.{BenchPieces}
use Rattle.definition.proofs.AllRows.{pieces}
use Rattle.listings.specs.Bench.{listing, bench_l}

pub bench : BenchPieces listing
bench = pieces listing bench_l
