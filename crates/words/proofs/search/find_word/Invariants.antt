-- `words::search::find_word`: what is found from the place on is what is found from here on.
use Rattle.std.proofs.Common.{◌≡◌, ◌-◌}
use Rattle.words.specs.Search.{first_from, has_word, find_word}
use Rattle.words.proofs.search.find_word.Given as goal

abbrev pub invariant-loop-i : goal.invariant-loop-i
invariant-loop-i g l = first_from (has_word g.row.WIDTH g.row.WORD l.value l.area) (l.end - l.i) l.i
    ≡ find_word g.row.WIDTH g.row.WORD l.value l.from l.end l.area
