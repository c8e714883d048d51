-- What `give_back` of `onto.rt` makes of each part's words (2026-01)
-- Private contracts alone cite this file: whoever reads the promises need not believe it
use Rattle.std.specs.Prelude.{ℕ, ◌*◌, cond, List, ◌==◌}
use Rattle.words.specs.Areas.{constants_area, methods_area, width_of, cleared_from}
use Rattle.undo.specs.Notes.{restored_marks, restored_methods}

-- the words of an area in which so many entries stood: what was noted of them is in place again
abbrev pub restored_in : ℕ → ℕ → List ℕ → List ℕ
restored_in area count l = cond (area == constants_area) (restored_marks count l) (cond (area == methods_area) (restored_methods count l) l)

-- and zeros behind them
abbrev pub given_back : ℕ → ℕ → List ℕ → List ℕ
given_back area count l = restored_in area count (cleared_from (count * width_of area) l)
