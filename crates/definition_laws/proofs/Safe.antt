-- Demand 3 of the definition's own states: what `Within` says of words, said of instructions, constants and models as lists. Assumes nothing.
use Prim.Native.Nat.{ℕ, zero, suc, ◌+◌, ◌≤◌, ◌<◌}
use mathlib.Core.Path.{◌≡◌}
use mathlib.Core.Logic.{◌⊎◌}
use mathlib.Core.List.{List, [], ◌∷◌}
use lib.ListN.{length, get_or}
use Rattle.words.specs.Areas.{locals_word, rescue_word, start_word, length_word, function_file_word}
use Rattle.words.specs.Object.{Constant, model_kind, function_kind}
use Rattle.words.specs.Opcode.{Instruction, to_instruction, unword, nothing, Jump, JumpIf, ForNext}
use Rattle.definition.specs.FunctionState.{FunctionState, Entry}
use Rattle.definition.specs.Compiler.{Work}
use Rattle.definition.specs.Prior.{Entries, Prior}
use Rattle.definition.specs.Book.{Context, Function, Model, Method, Assembly, function_count, model_count, book_count}
use Rattle.definition.specs.Within.{All, Among, InLoop, Loop, read_trace, loops_of, breaks_of, exits_of, Class, Position, Slot, Read, Pool, ContextSlot}
use Rattle.definition.specs.Within.{Other, class_of}

-- the counts that bound an operand; `top`: the function's length; `this`: where its reads of `this` are
pub record Counts : Type 0 where
  pub top : ℕ
  pub locals : ℕ
  pub constants : ℕ
  pub context : ℕ
  pub this : List ℕ

-- an operand n, at index i, within its count. A read of a local may be 0 where there is no local, if it is the read of a 31: the first exception
abbrev pub Within : Class → Counts → ℕ → ℕ → Type 0
Within Position c i n = n ≤ c.top
Within Slot c i n = n < c.locals
Within Read c i n = (n < c.locals) ⊎ ((n ≡ 0) × (c.locals ≡ 0) × Among i c.this)
Within Pool c i n = n < c.constants
Within ContextSlot c i n = n < c.context
Within Other c i n = Unit {0}

-- an instruction's operand is within its count
abbrev pub Fits : Counts → ℕ → Instruction → Type 0
Fits c i x = Within (class_of x.opcode) c i x.operand

-- an entry point: a function's number, or 0 where there is no function, the second exception
abbrev pub EntryWithin : ℕ → ℕ → Type 0
EntryWithin functions n = (n < functions) ⊎ ((n ≡ 0) × (functions ≡ 0))

abbrev pub at : List Instruction → ℕ → Instruction
at l i = get_or l i nothing

-- each instruction, with its index
abbrev pub Each : (ℕ → Instruction → Type 0) → List Instruction → Type 0
Each P l = (i : ℕ) → i < length l → P i (at l i)

-- a loop that is left: its exit and its breaks land just after it, which is not at 0
pub record Landed (l : List Instruction) (e : Loop) : Type 0 where
  pub after_positive : 0 < e.after
  pub exit_lands : (e.exit < length l) × (at l e.exit ≡ to_instruction JumpIf e.after)
  pub breaks_land : All (λ b. (b < length l) × (at l b ≡ to_instruction Jump e.after)) e.breaks

-- the counts over a function whose jumps go up to `top`, in a program of K constants and C context locals
abbrev pub counts : ℕ → ℕ → ℕ → FunctionState → Counts
counts top K C f = record { top = top; locals = f.header.local_count; constants = K; context = C; this = f.log.this_reads }

abbrev pub counts_of : Work → Counts
counts_of w = counts (length w.function.code.instructions) (length w.context.constants) w.context.local_count w.function

-- one function
pub record FunctionSafe (K C : ℕ) (f : FunctionState) : Type 0 where
  pub sized : length f.code.positions ≡ length f.code.instructions
  pub fits : Each (Fits (counts (length f.code.instructions) K C f)) f.code.instructions
  pub rescue : f.header.rescue_position ≤ length f.code.instructions
  pub loops : All (Landed f.code.instructions) (loops_of f.log.trace)
  pub breaks : All (λ b. InLoop b (loops_of f.log.trace)) (breaks_of f.log.trace)
  pub closed : (read_trace f.log.trace).open' ≡ []
  pub nexts : Each (λ i x. x.opcode ≡ ForNext → Among (i + 1) (exits_of (loops_of f.log.trace))) f.code.instructions

abbrev pub Safe : Work → Type 0
Safe w = FunctionSafe (length w.context.constants) w.context.local_count w.function

-- a model's or a function's constant
abbrev pub Named : ℕ → ℕ → Constant → Type 0
Named M F c = (c.kind ≡ model_kind → c.value < M) × (c.kind ≡ function_kind → c.value < F)

-- an operand below a program's K constants or C context locals, whatever function it is in
abbrev pub LooseBy : Class → ℕ → ℕ → ℕ → Type 0
LooseBy Pool K C n = n < K
LooseBy ContextSlot K C n = n < C
LooseBy Position K C n = Unit {0}
LooseBy Slot K C n = Unit {0}
LooseBy Read K C n = Unit {0}
LooseBy Other K C n = Unit {0}

abbrev pub Loose : ℕ → ℕ → Instruction → Type 0
Loose K C x = LooseBy (class_of x.opcode) K C x.operand

abbrev pub below : ℕ → List ℕ
below zero = []
below (suc n) = n ∷ below n

-- a function that stood before, in a program of K constants, C context locals and A books: the words of its entry and of its code
abbrev pub standing_counts : ℕ → ℕ → List ℕ → Counts
standing_counts K C f = record {
  top = get_or f length_word 0;
  locals = get_or f locals_word 0;
  constants = K;
  context = C;
  this = below (get_or f length_word 0);
}

pub record StandingSafe (K C A : ℕ) (code : Entries) (f : List ℕ) : Type 0 where
  pub inside : 0 < get_or f length_word 0 → get_or f start_word 0 + get_or f length_word 0 ≤ length code
  pub fits : (i : ℕ) → i < get_or f length_word 0 → Fits (standing_counts K C f) i (unword (get_or (get_or code (get_or f start_word 0 + i) []) 0 0))
  pub rescue : get_or f rescue_word 0 ≤ get_or f length_word 0
  pub file : get_or f function_file_word 0 < A

-- what stood before, over K constants, C context locals, M models and A books
pub record PriorSafe (K C M A : ℕ) (p : Prior) : Type 0 where
  pub code : All (λ (e : List ℕ). Loose K C (unword (get_or e 0 0))) p.code
  pub functions : All (StandingSafe K C A p.code) p.functions
  pub models : All (λ (e : List ℕ). get_or e 0 0 < A) p.models
  pub properties : All (λ (e : List ℕ). get_or e 0 0 < M) p.properties
  pub locals : All (λ (e : List ℕ). (get_or e 0 0 < A) × (get_or e 2 0 ≤ 1) × (get_or e 2 0 ≡ 1 → get_or e 3 0 < K)) p.locals
  pub publics : All (λ (e : List ℕ). (get_or e 0 0 < A) × (get_or e 2 0 < K)) p.publics

-- every entry has its area's words
pub record PriorWide (p : Prior) : Type 0 where
  pub code : All (λ (e : List ℕ). length e ≡ 2) p.code
  pub functions : All (λ (e : List ℕ). length e ≡ 8) p.functions
  pub models : All (λ (e : List ℕ). length e ≡ 2) p.models
  pub properties : All (λ (e : List ℕ). length e ≡ 2) p.properties
  pub locals : All (λ (e : List ℕ). length e ≡ 4) p.locals
  pub publics : All (λ (e : List ℕ). length e ≡ 3) p.publics
  pub books : All (λ (e : List ℕ). length e ≡ 1) p.books

-- a context over K constants, C context locals, M models, F functions and A books
pub record Parts (K C M F A : ℕ) (c : Context) : Type 0 where
  pub prior : PriorSafe K C M A c.prior
  pub functions : All (λ (f : Function). FunctionSafe K C f.state × (f.file < A)) c.program.functions
  pub constants : All (Named M F) c.pool.constants
  pub globals : All (λ n. n < K) c.pool.globals
  pub models : All (λ (m : Model). m.file < A) c.program.models
  pub values : All (λ (e : Entry). (e.name < C) × (e.index < K)) c.locals.values
  pub names : All (λ (e : Entry). e.index < A) c.locals.names
  pub methods : All (λ (m : Method). (m.model < M) × (m.function < F)) c.program.methods
  pub publics : All (λ (a : Assembly). (a.index < A) × All (λ (e : Entry). e.index < K) a.publics) c.assemblies
  pub entry : EntryWithin F c.program.entry_point

abbrev pub PartsOf : ℕ → Context → Type 0
PartsOf A c = Parts (length c.pool.constants) c.pool.local_count (model_count c) (function_count c) A c

-- a context that keeps within itself
pub record ProgramSafe (c : Context) : Type 0 where
  pub wide : PriorWide c.prior
  pub parts : PartsOf (book_count c) c
  pub pool : 3 ≤ length c.pool.constants
  pub counted : length c.prior.locals + length c.locals.names ≡ c.pool.local_count
