-- 2026-01: a bundle laid onto a standing program, from any words of a bundle, any areas and any totals to the reply and every word that is left. "First of
-- all" the standing program is checked (`program_fault`); then the call is the fresh one's (`answer_from`), from the context that the program spells
-- (`context_of`) in place of a new one. A delivery is written as a fresh one is (`reply_of`, `areas_of`); a refusal leaves the program as lent
use Rattle.std.specs.Prelude.{ℕ, zero, suc, ◌+◌, Bool, cond, List, [], ◌∷◌, length, get_or, set, take, drop, eqb}
use Rattle.std.proofs.Math.Option.{Option, none, some}
use Rattle.words.specs.Areas.{width_of, code_area, constants_area, functions_area, models_area, properties_area, methods_area, context_locals_area}
use Rattle.words.specs.Areas.{public_names_area, errors_area, books_area}
use Rattle.words.specs.Object.{Constant, constant_of}
use Rattle.definition.specs.Compiler.{Error}
use Rattle.definition.specs.Prior.{Entries, Prior}
use Rattle.definition.specs.Book.{Context, Method}
use Rattle.definition.specs.Program.{entries_from, error_entry, filled}
use Rattle.definition.specs.Answer.{Answer, Delivery, Refusal, Reply, answer_from, reply_of, areas_of}
use Rattle.definition.specs.Within.{Areas, Program, lengths_of, total}
use Rattle.definition.specs.ProgramCheck.{program_fault}

-- the context that lent words and totals spell: of the constants, marks and methods what the words mean, of the rest the entries as they are

-- the first n entries of so many words each
abbrev pub entries_of : ℕ → ℕ → List ℕ → Entries
entries_of width zero words = []
entries_of width (suc n) words = take width words ∷ entries_of width n (drop width words)

-- an area's entries, up to its total
abbrev pub lent_entries : Program → ℕ → Entries
lent_entries p area = entries_of (width_of area) (total p area) (get_or p.areas area [])

abbrev pub constants_of : Entries → List Constant
constants_of [] = []
constants_of (e ∷ es) = constant_of (get_or e 0 0) (get_or e 1 0) ∷ constants_of es

-- the numbers of the marked constants, counted from i
abbrev pub marks_from : ℕ → Entries → List ℕ
marks_from i [] = []
marks_from i (e ∷ es) = let rest = marks_from (i + 1) es in cond (eqb (get_or e 2 0) 1) (i ∷ rest) rest

abbrev pub methods_spelt : Entries → List Method
methods_spelt [] = []
methods_spelt (e ∷ es) = record { model = get_or e 0 0; name = get_or e 1 0; function = get_or e 2 0 } ∷ methods_spelt es

abbrev pub prior_of : Program → Prior
prior_of p = record {
  code = lent_entries p code_area;
  functions = lent_entries p functions_area;
  models = lent_entries p models_area;
  properties = lent_entries p properties_area;
  locals = lent_entries p context_locals_area;
  publics = lent_entries p public_names_area;
  books = lent_entries p books_area;
}

-- in a mode, which is the bundle's and no part of a program
unfoldable pub context_of : Bool → Program → Context
context_of strict p = record {
  pool = record {
    constants = constants_of (lent_entries p constants_area);
    globals = marks_from 0 (lent_entries p constants_area);
    local_count = total p context_locals_area;
  };
  prior = prior_of p;
  strict = strict;
  program = record { models = []; methods = methods_spelt (lent_entries p methods_area); functions = []; entry_point = p.entry_point };
  locals = record { values = []; names = [] };
  assemblies = [];
}

-- the call

-- an area that fails the check, or what the work answers
pub data OntoAnswer : Type 0 where
  Unfit : ℕ → OntoAnswer
  Checked : Answer → OntoAnswer

-- "First of all, in this and every later call on a program": before the bundle is looked at
abbrev pub lay_on_by : Option ℕ → Bool → List ℕ → Program → OntoAnswer
lay_on_by (some area) strict w p = Unfit area
lay_on_by none strict w p = Checked (answer_from (context_of strict p) w (lengths_of p.areas))

unfoldable pub lay_on : Bool → List ℕ → Program → OntoAnswer
lay_on strict w p = lay_on_by (program_fault p) strict w p

-- "row 3 with place 1,048,576 plus the area number"
abbrev pub check_place : ℕ → ℕ
check_place area = 1048576 + area

-- "its totals as lent are returned"
abbrev pub totals_as_lent : ℕ → ℕ → Program → Reply
totals_as_lent n place p = record { number = n; place = place; totals = p.totals; entry_point = p.entry_point; globals = p.globals }

unfoldable pub reply_onto : Program → OntoAnswer → Reply
unfolding reply_of
reply_onto p (Unfit area) = totals_as_lent 3 (check_place area) p
reply_onto p (Checked (Delivery c)) = reply_of (Delivery c)
reply_onto p (Checked (Refusal n place es)) = totals_as_lent n place p

-- "keeps every entry, global marks, entry point and the functions of its methods …; beyond it all is zero but for listed errors": the check has found that
-- all beyond a program is zero, so that area 11 alone is written
abbrev pub with_errors : List Error → Areas → Areas
with_errors es m = set m errors_area (filled (length (get_or m errors_area [])) (entries_from error_entry 0 es))

-- after the check's refusal "all memory" stays as lent, area 11 too
unfoldable pub areas_onto : Program → OntoAnswer → Areas
unfolding areas_of
areas_onto p (Unfit area) = p.areas
areas_onto p (Checked (Delivery c)) = areas_of (lengths_of p.areas) (Delivery c)
areas_onto p (Checked (Refusal n place es)) = with_errors es p.areas
