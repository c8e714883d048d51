-- Demand 3 of 01 as one claim, which can be read off the words of a program: no delivered program reaches outside itself (`KeepsWithin`).
-- What words show is a test that computes, a Boolean for each area (`area_bound`). What no word shows, the loops and the reads of `this`, comes from the
-- definition's logs (01, 'Emission': a loop is one compiling of a 24; just after it is the number following the last instruction that demand 2's
-- definition emits for it)
use Rattle.std.specs.Prelude.{ℕ, zero, suc, ◌+◌, ◌*◌, ◌≤◌, ◌<◌, min, ◌≡◌, Bool, true, cond, ◌&&◌, ◌||◌, List, [], ◌∷◌, ◌++◌, map, length, get_or, T, eqb, ltb}
use Rattle.std.specs.Prelude.{leb}
use Rattle.words.specs.Areas.{width_of, entries_in, entry_word, code_area, constants_area, functions_area, models_area, properties_area, methods_area}
use Rattle.words.specs.Areas.{context_locals_area, public_names_area, books_area, locals_word, rescue_word, start_word, length_word, function_file_word}
use Rattle.words.specs.Object.{model_kind, function_kind}
use Rattle.words.specs.Opcode.{Instruction, to_instruction, unword, Jump, JumpIf, LocalSet, LocalGet, LocalInit, ForNext, Iterate, ContextSet, ContextGet}
use Rattle.words.specs.Opcode.{PushConstant, GlobalSet, GlobalGet}
use Rattle.definition.specs.FunctionState.{Event, Entered, Broke, Left, Log, no_log}
use Rattle.definition.specs.Book.{Function}

-- a claim of each of a list; a number among numbers
pub data All {A : Type 0} (P : A → Type 0) : List A → Type 0 where
  nil : All P []
  ◌&◌ : {x : A} {xs : List A} → P x → All P xs → All P (x ∷ xs)

infixr 30 ◌&◌
pub data Among (n : ℕ) : List ℕ → Type 0 where
  here : {ns : List ℕ} → Among n (n ∷ ns)
  there : {m : ℕ} {ns : List ℕ} → Among n ns → Among n (m ∷ ns)

-- a program as a caller has it: the words of its areas, by area from 1, and the reply's numbers

abbrev pub Areas : Type 0
Areas = List (List ℕ)

abbrev pub lengths_of : Areas → List ℕ
lengths_of m = map (λ (l : List ℕ). length l) m

abbrev pub Totals : Type 0
Totals = List ℕ

pub record Program : Type 0 where
  pub areas : Areas
  pub totals : Totals
  pub entry_point : ℕ
  pub globals : ℕ

abbrev pub total_of : Totals → ℕ → ℕ
total_of t area = get_or t area 0

abbrev pub total : Program → ℕ → ℕ
total p area = total_of p.totals area

-- the entries up to an area's total that lie in it whole: all of them where the area holds its entries (`whole` of `KeepsWithin`)
abbrev pub present : Program → ℕ → ℕ
present p area = min (total p area) (entries_in (width_of area) (length (get_or p.areas area [])))

-- word k of entry i of an area
abbrev pub cell : Areas → ℕ → ℕ → ℕ → ℕ
cell m area i k = entry_word (width_of area) i k (get_or m area [])

abbrev pub field : Program → ℕ → ℕ → ℕ → ℕ
field p area i k = cell p.areas area i k

abbrev pub instruction_at : Areas → ℕ → Instruction
instruction_at m n = unword (cell m code_area n 0)

-- the words of function j that demand 3 speaks of; instruction i of it
abbrev pub start_of : Program → ℕ → ℕ
start_of p j = field p functions_area j start_word

abbrev pub length_of : Program → ℕ → ℕ
length_of p j = field p functions_area j length_word

abbrev pub locals_of : Program → ℕ → ℕ
locals_of p j = field p functions_area j locals_word

abbrev pub instruction_of : Program → ℕ → ℕ → Instruction
instruction_of p j i = instruction_at p.areas (start_of p j + i)

-- what an operand is, by opcode (opcode.rs): a position, a local that is set or walked, a local that is read, a constant, a context local, or a count
pub data Class : Type 0 where
  Position Slot Read Pool ContextSlot Other : Class

abbrev pub class_of : ℕ → Class
class_of o =
    cond (eqb o Jump) Position
    (cond (eqb o JumpIf) Position
    (cond (eqb o LocalGet) Read
    (cond (eqb o LocalSet) Slot
    (cond (eqb o LocalInit) Slot
    (cond (eqb o ForNext) Slot
    (cond (eqb o Iterate) Slot
    (cond (eqb o PushConstant) Pool
    (cond (eqb o GlobalSet) Pool
    (cond (eqb o GlobalGet) Pool
    (cond (eqb o ContextSet) ContextSlot
    (cond (eqb o ContextGet) ContextSlot Other)))))))))))

-- the bounds, by area

-- "every constant number names a constant, every context local number a context local": of an instruction, in whatever function or in none
abbrev pub bound_by_totals : Class → Program → ℕ → Bool
bound_by_totals Pool p n = ltb n (total p constants_area)
bound_by_totals ContextSlot p n = ltb n (total p context_locals_area)
bound_by_totals Position p n = true
bound_by_totals Slot p n = true
bound_by_totals Read p n = true
bound_by_totals Other p n = true

-- "every jump lands in its function or just behind it, every local number names a local of its function": of an instruction of function j.
-- The first exception: a read of local 0 where there is no local, which is the read of a 31 (`reads` of `FunctionLogged`)
abbrev pub bound_by_function : Class → Program → ℕ → ℕ → Bool
bound_by_function Position p j n = leb n (length_of p j)
bound_by_function Slot p j n = ltb n (locals_of p j)
bound_by_function Read p j n = ltb n (locals_of p j) || eqb n 0
bound_by_function Pool p j n = true
bound_by_function ContextSlot p j n = true
bound_by_function Other p j n = true

-- function j has entry i of area 1
abbrev pub has_instruction : Program → ℕ → ℕ → Bool
has_instruction p j i = leb (start_of p j) i && ltb i (start_of p j + length_of p j)

-- a test of every number below n
abbrev pub all_below : ℕ → (ℕ → Bool) → Bool
all_below zero f = true
all_below (suc n) f = f n && all_below n f

-- where a test holds, a second one too
abbrev pub where' : Bool → Bool → Bool
where' a b = cond a b true

-- area 1: an instruction, by the totals and by each function that has it
abbrev pub code_bound : Program → ℕ → Bool
code_bound p i =
    let x = instruction_at p.areas i in
    bound_by_totals (class_of x.opcode) p x.operand
    && all_below (present p functions_area) (λ j. where' (has_instruction p j i) (bound_by_function (class_of x.opcode) p j x.operand))

-- area 2: a constant's model or function; its mark
abbrev pub constant_bound : Program → ℕ → Bool
constant_bound p i =
    where' (eqb (field p constants_area i 0) model_kind) (ltb (field p constants_area i 1) (total p models_area))
    && where' (eqb (field p constants_area i 0) function_kind) (ltb (field p constants_area i 1) (total p functions_area))
    && ltb (field p constants_area i 2) 2

-- area 3: a function's code lies in area 1 (that of a function without instructions wherever it starts), its rescue position in the function or just
-- behind it, its file is a book
abbrev pub function_bound : Program → ℕ → Bool
function_bound p j =
    where' (ltb 0 (length_of p j)) (leb (start_of p j + length_of p j) (total p code_area))
    && leb (field p functions_area j rescue_word) (length_of p j)
    && ltb (field p functions_area j function_file_word) (total p books_area)

-- areas 4 and 5: a model's book, a property's model
abbrev pub model_bound : Program → ℕ → Bool
model_bound p i = ltb (field p models_area i 0) (total p books_area)

abbrev pub property_bound : Program → ℕ → Bool
property_bound p i = ltb (field p properties_area i 0) (total p models_area)

-- area 6: a method's model and function
abbrev pub method_bound : Program → ℕ → Bool
method_bound p i = ltb (field p methods_area i 0) (total p models_area) && ltb (field p methods_area i 2) (total p functions_area)

-- area 7: a context local's book; its mark; its constant where it has one
abbrev pub local_bound : Program → ℕ → Bool
local_bound p i =
    ltb (field p context_locals_area i 0) (total p books_area)
    && ltb (field p context_locals_area i 2) 2
    && where' (eqb (field p context_locals_area i 2) 1) (ltb (field p context_locals_area i 3) (total p constants_area))

-- area 8: a public name's book and constant
abbrev pub public_bound : Program → ℕ → Bool
public_bound p i = ltb (field p public_names_area i 0) (total p books_area) && ltb (field p public_names_area i 2) (total p constants_area)

abbrev pub entry_bound : Program → ℕ → ℕ → Bool
entry_bound p area i =
    cond (eqb area code_area) (code_bound p i)
    (cond (eqb area constants_area) (constant_bound p i)
    (cond (eqb area functions_area) (function_bound p i)
    (cond (eqb area models_area) (model_bound p i)
    (cond (eqb area properties_area) (property_bound p i)
    (cond (eqb area methods_area) (method_bound p i)
    (cond (eqb area context_locals_area) (local_bound p i)
    (cond (eqb area public_names_area) (public_bound p i) true)))))))

-- each entry of an area
unfoldable pub area_bound : Program → ℕ → Bool
area_bound p area = all_below (present p area) (entry_bound p area)

-- the entry point: a function's number, or 0 where there is no function, the second exception
abbrev pub entry_point_bound : ℕ → ℕ → Bool
entry_point_bound functions n = ltb n functions || (eqb n 0 && eqb functions 0)

-- the number of marked constants among the first n
abbrev pub marked : Areas → ℕ → ℕ
marked m zero = 0
marked m (suc n) = marked m n + cell m constants_area n 2

-- loops

-- one compiling of a 24: its exit's index, the indices of the breaks that belong to it, and the number just after it
pub record Loop : Type 0 where
  pub exit : ℕ
  pub breaks : List ℕ
  pub after : ℕ

-- what a trace says: for each loop that is entered and not left its breaks, the innermost loop first; and the loops that were left
pub record Reading : Type 0 where
  pub open' : List (List ℕ)
  pub closed : List Loop

-- a break belongs to the innermost loop that is entered and not left there, and to none where there is no such loop
abbrev pub break_in : ℕ → List (List ℕ) → List (List ℕ)
break_in i [] = []
break_in i (breaks ∷ outer) = (breaks ++ (i ∷ [])) ∷ outer

-- the innermost loop is left
abbrev pub leave : ℕ → ℕ → List (List ℕ) → List Loop → Reading
leave exit after [] loops = record { open' = []; closed = loops ++ (record { exit = exit; breaks = []; after = after } ∷ []) }
leave exit after (breaks ∷ outer) loops = record { open' = outer; closed = loops ++ (record { exit = exit; breaks = breaks; after = after } ∷ []) }

abbrev pub read_event : Event → Reading → Reading
read_event Entered r = record { open' = [] ∷ r.open'; closed = r.closed }
read_event (Broke i) r = record { open' = break_in i r.open'; closed = r.closed }
read_event (Left exit after) r = leave exit after r.open' r.closed

-- the newest event stands first
abbrev pub read_trace : List Event → Reading
read_trace [] = record { open' = []; closed = [] }
read_trace (e ∷ es) = read_event e (read_trace es)

abbrev pub loops_of : List Event → List Loop
loops_of t = (read_trace t).closed

-- the indices of the breaks' Jumps
abbrev pub breaks_of : List Event → List ℕ
breaks_of [] = []
breaks_of (Entered ∷ es) = breaks_of es
breaks_of (Broke i ∷ es) = i ∷ breaks_of es
breaks_of (Left x y ∷ es) = breaks_of es

-- the exits of loops
abbrev pub exits_of : List Loop → List ℕ
exits_of [] = []
exits_of (e ∷ es) = e.exit ∷ exits_of es

-- a loop's exit and its breaks land just after it, in a function of n instructions
pub record Lands (at : ℕ → Instruction) (n : ℕ) (e : Loop) : Type 0 where
  pub exit_lands : (e.exit < n) × (at e.exit ≡ to_instruction JumpIf e.after)
  pub breaks_land : All (λ b. (b < n) × (at b ≡ to_instruction Jump e.after)) e.breaks
  pub after_within : e.after ≤ n

-- a break of one of the loops
pub data InLoop (b : ℕ) : List Loop → Type 0 where
  first : {e : Loop} {es : List Loop} → Among b e.breaks → InLoop b (e ∷ es)
  later : {e : Loop} {es : List Loop} → InLoop b es → InLoop b (e ∷ es)

-- the functions' logs
abbrev pub logs_of : List Function → List Log
logs_of [] = []
logs_of (f ∷ fs) = f.state.log ∷ logs_of fs

-- "exactly one position for each instruction", of the definition's functions: area 1 holds both in one entry
abbrev pub OnePositionEach : List Function → Type 0
OnePositionEach fs = All (λ (f : Function). length f.state.code.positions ≡ length f.state.code.instructions) fs

-- function j against its log
pub record FunctionLogged (p : Program) (g : Log) (j : ℕ) : Type 0 where
  -- a read of a local where the function has none is the read of a 31
  pub reads : (i : ℕ) → i < length_of p j → (instruction_of p j i).opcode ≡ LocalGet → locals_of p j ≡ 0 → Among i g.this_reads
  -- every loop that was entered was left
  pub closed : (read_trace g.trace).open' ≡ []
  -- a ForNext is that of a logged loop, whose exit is next to it
  pub each_loop : (i : ℕ) → i < length_of p j → (instruction_of p j i).opcode ≡ ForNext → Among (i + 1) (exits_of (loops_of g.trace))
  -- every break belongs to one loop
  pub each_break : All (λ b. InLoop b (loops_of g.trace)) (breaks_of g.trace)
  -- "a loop's exit and its breaks land just after it"
  pub loops : All (Lands (instruction_of p j) (length_of p j)) (loops_of g.trace)

-- demand 3, of a program whose first functions, `standing` of them, stood before the bundle, and whose others have these logs
pub record KeepsWithin (p : Program) (standing : ℕ) (logs : List Log) : Type 0 where
  -- every area holds its entries whole; with area 1, one position for each instruction
  pub whole : (area : ℕ) → total p area * width_of area ≤ length (get_or p.areas area [])
  -- every number that an entry names is there
  pub bounds : (area : ℕ) → T (area_bound p area)
  pub entry : T (entry_point_bound (total p functions_area) p.entry_point)
  -- global dependencies are the numbers of the marked constants
  pub globals_counted : p.globals ≡ marked p.areas (total p constants_area)
  -- there is a log for each function that the bundle added
  pub logs_each : standing + length logs ≡ total p functions_area
  pub logged : (j : ℕ) → j < length logs → FunctionLogged p (get_or logs j no_log) (standing + j)
