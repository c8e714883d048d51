-- The program check taken apart as the code makes it: a program of which one area is read, an entry of it, and what is asked of an area but for its keys,
-- its marks and the entry point
use Rattle.std.specs.Prelude.{ℕ, ◌*◌, Bool, cond, ◌&&◌, List, [], ◌∷◌, ◌++◌, length, get_or, drop, replicate, eqb, leb}
use Rattle.words.specs.Areas.{width_of, entries_in, code_area}
use Rattle.words.specs.Opcode.{Instruction}
use Rattle.words.specs.Reply.{area_totals}
use Rattle.words.specs.declared.reply.Totals.{Totals}
use Rattle.definition.specs.Within.{Areas, Program, total, instruction_at, class_of, all_below, bound_by_totals, entry_bound}
use Rattle.definition.specs.ProgramCheck.{entry_known, zeros}

-- words and totals as they are lent
abbrev pub lent : Areas → Totals → Program
lent m t = record { areas = m; totals = area_totals t; entry_point = t.entry_point; globals = t.global_dependencies }

-- a program of which only one area is read
abbrev pub alone : ℕ → List ℕ → Totals → Program
alone area w t = lent (replicate area [] ++ (w ∷ [])) t

-- an instruction by itself, whatever function has it
abbrev pub by_totals : Program → Instruction → Bool
by_totals p x = bound_by_totals (class_of x.opcode) p x.operand

-- an entry by itself
abbrev pub entry_fine : Program → ℕ → ℕ → Bool
entry_fine p area i =
    cond (eqb area code_area) (by_totals p (instruction_at p.areas i)) (entry_bound p area i) && entry_known p area i

-- the total lies in the area, each entry is fine by itself, zeros follow
unfoldable pub entries_fine : Program → ℕ → Bool
entries_fine p area =
    leb (total p area) (entries_in (width_of area) (length (get_or p.areas area [])))
    && zeros (drop (total p area * width_of area) (get_or p.areas area []))
    && all_below (total p area) (entry_fine p area)
