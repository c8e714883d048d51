-- The promises of the compile call, of laying on (2026-01), of a trial and of a commit (2026-08) over one lent memory: what `Compiles`, `LaysOn`, `Tries` and
-- `Commits` of `definition` say of twelve areas, said of the areas in the memory; and the words behind them are 0
use Rattle.std.specs.Prelude.{◌≡◌, ℕ, Bool, List, [], ◌∷◌, ◌++◌, length, take, replicate, slice_index_or}
use Rattle.memory.specs.Layout as layout
use Rattle.words.specs.declared.reply.Totals as struct'
use Rattle.words.specs.declared.reply.Reply as struct
use Rattle.definition.specs.Answer.{areas_of}
use Rattle.definition.specs.Program.{flat}
use Rattle.definition.specs.Onto.{OntoAnswer, Unfit, Checked}
use Rattle.definition.specs.Trial.{Order, Lay, Trial, areas_ordered}
use Rattle.definition.specs.Promise.{lengths_of, answering, Compiles, lent_counted, answering_onto, LaysOn, Tries, commit_of, Commits}
use Rattle.definition.specs.Within.{Areas}

-- areas 1 to 12 in a memory, by number; no area has number 0
abbrev pub areas_in : List ℕ → List ℕ → Areas
areas_in lengths memory = [] ∷ take 12 (layout.areas_of lengths memory)

-- the words behind them, which the call has as its table of slots (2026-12): part 13
abbrev pub left_over : List ℕ → List ℕ → List ℕ
left_over lengths memory = slice_index_or (layout.areas_of lengths memory) 12 []

-- the areas that the call leaves in a memory
abbrev pub answer_areas : Bool → List ℕ → List ℕ → List ℕ → Areas
answer_areas strict tree lengths before = areas_of (lengths_of (areas_in lengths before)) (answering strict tree (areas_in lengths before))

pub record CompilesInto (strict : Bool) (tree lengths before after : List ℕ) (r : struct.Reply) : Type 0 where
  -- 01's three demands, of the areas in the memory: the lengths that the answer sees are theirs, cut where they pass the memory's end
  pub compiles : Compiles strict tree (areas_in lengths before) (areas_in lengths after) r
  -- every word: the answer's areas, one after the other, and then zeros, as many as words were left over: 'After it all [slots] are zero' (2026-12)
  pub words : after ≡ flat (answer_areas strict tree lengths before) ++ replicate (length (left_over lengths before)) 0

-- calls on a program that stands: the areas in a memory, and totals

-- what the call answers
abbrev pub answer_in : Order → Bool → List ℕ → struct'.Totals → List ℕ → List ℕ → OntoAnswer
answer_in o strict tree standing lengths memory = answering_onto o strict tree standing (areas_in lengths memory)

-- the words behind the areas: "After it all are zero (as lent where the program check refuses)" (2026-12)
abbrev pub slots_after : OntoAnswer → List ℕ → List ℕ
slots_after (Unfit area) slots = slots
slots_after (Checked a) slots = replicate (length slots) 0

-- every word of the memory: the areas that the call leaves, one after the other, and then the slots
abbrev pub words_after : Order → Bool → List ℕ → struct'.Totals → List ℕ → List ℕ → List ℕ
words_after o strict tree standing lengths before =
    let answer = answer_in o strict tree standing lengths before in
    flat (areas_ordered o (lent_counted (areas_in lengths before) standing) answer) ++ slots_after answer (left_over lengths before)

-- laying on: 01's three demands, of the areas in the memory, and every word
pub record LaysOnInto (strict : Bool) (tree : List ℕ) (standing : struct'.Totals) (lengths before after : List ℕ) (r : struct.Reply) : Type 0 where
  pub lays_on : LaysOn strict tree standing (areas_in lengths before) (areas_in lengths after) r
  pub words : after ≡ words_after Lay strict tree standing lengths before

-- a trial: demands 1 and 2
pub record TriesInto (strict : Bool) (tree : List ℕ) (standing : struct'.Totals) (lengths before after : List ℕ) (r : struct.Reply) : Type 0 where
  pub tries : Tries strict tree standing (areas_in lengths before) (areas_in lengths after) r
  pub words : after ≡ words_after Trial strict tree standing lengths before

-- a commit of what a trial was answered: all three
pub record CommitsInto (tried : struct'.Totals) (strict : Bool) (tree : List ℕ) (standing : struct'.Totals) (lengths before after : List ℕ) (r : struct.Reply)
    : Type 0 where
  pub commits : Commits tried strict tree standing (areas_in lengths before) (areas_in lengths after) r
  pub words : after ≡ words_after (commit_of tried) strict tree standing lengths before
