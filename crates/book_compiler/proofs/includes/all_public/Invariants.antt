-- `book_compiler::includes::all_public` meets its contract. The invariant: what is answered of the pairs from here on is answered of all. Assumes nothing.
use Rattle.compiler_laws.specs.IncludeSteps.{AsksNames}
use Rattle.std.proofs.Common.{◌≡◌, ◌+◌, Bool}
use mathlib.Core.Option.{some}
use Rattle.book_compiler.proofs.includes.all_public.Given as goal

abbrev pub invariant-loop-place : goal.invariant-loop-place
invariant-loop-place l = (l.place-iterator.end ≡ l.fn.end)
    × ((r : Bool) → AsksNames l.tree (l.place-iterator.at + 1) l.fn.end (some l.book) l.count l.publics r
    → AsksNames l.tree (l.fn.at + 1) l.fn.end (some l.book) l.count l.publics r)
