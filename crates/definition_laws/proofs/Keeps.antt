-- Demand 3 of the words of the areas: a context that keeps within itself (`ProgramSafe`), whose operands fit, is written into words that keep within
-- themselves (`KeepsWithin`). Each area holds its entries (`Holds`), so a claim about each entry's words is a claim about the area's cells.
-- Assumes nothing.
use Prim.Native.Nat.{ℕ, zero, suc, ◌+◌, ◌-◌, ◌*◌, ◌≤◌, ◌<◌}
use native.Mathlib.Nat.{le_refl}
use native.Mathlib.Omega.{arith}
use native.Mathlib.Decide.{dec_lt}
use mathlib.Core.Path.{◌≡◌, refl, sym, ap, ◌∙◌, subst}
use mathlib.Core.Logic.{◌⊎◌, inl, inr}
use mathlib.Core.Bool.{Bool, true, false, cond, ◌&&◌}
use mathlib.Core.Option.{Option, none, some}
use mathlib.Core.List.{List, [], ◌∷◌, ◌++◌, map}
use lib.ListN.{length, get_or, take, length-append, get_or-map, get_or-append}
use lib.Seq.{take-suc, take-length, get_or-append-add}
use Rattle.words.specs.Areas.{widths, width_of, code_area, constants_area, functions_area, models_area, properties_area, methods_area, context_locals_area}
use Rattle.words.specs.Areas.{public_names_area, books_area, locals_word, rescue_word, start_word, length_word, function_file_word}
use Rattle.words.specs.Object.{Constant, model_kind, function_kind}
use lib.Dec.{T, eqb, ltb, leb, leb→le, ltb→lt, eqb→eq}
use Rattle.words.specs.Opcode.{Instruction, unword, word, LocalGet}
use Rattle.definition.specs.Uses.{sum_of}
use Rattle.definition.specs.FunctionState.{FunctionState, Entry, Log, find_name}
use Rattle.definition.specs.Book.{Function, Context, has_text, code_of, function_count, model_count, book_count}
use Rattle.definition.specs.Program.{Entries, bit, entries_from, function_code, constant_entry, function_entry, function_entries, model_entry, property_entries}
use Rattle.definition.specs.Program.{model_properties, method_entry, local_words, local_entry, public_entries, assembly_publics, book_entry, tables_of}
use Rattle.definition.specs.Program.{global_dependencies, filled_all}
use Rattle.definition.specs.Answer.{Delivery, reply_of, areas_of}
use Rattle.definition.specs.Within.{All, nil, ◌&◌, Areas, Totals, Program, total_of, total, present, cell, field, instruction_at, start_of, length_of}
use Rattle.definition.specs.Within.{locals_of, instruction_of, Class, Position, Slot, Read, Pool, ContextSlot, Other, class_of, bound_by_totals}
use Rattle.definition.specs.Within.{bound_by_function, has_instruction, where', code_bound, constant_bound, function_bound, model_bound}
use Rattle.definition.specs.Within.{property_bound, method_bound, local_bound, public_bound, entry_bound, area_bound, entry_point_bound, Among, Loop, Lands}
use Rattle.definition.specs.Within.{logs_of, FunctionLogged, marked, KeepsWithin}
use Rattle.definition_laws.proofs.Safe.{at, Landed, Counts, Within, Fits, counts}
use Rattle.definition_laws.proofs.Safe.{EntryWithin, FunctionSafe, LooseBy, Loose, standing_counts, StandingSafe}
use Rattle.definition_laws.proofs.Safe.{PriorWide, below, ProgramSafe}
use Rattle.definition_laws.proofs.Tests.{Test, both, or_first, or_second, where_holds, less, at_most, equal, passes, all_below_lem, first_of, second_of}
use Rattle.definition_laws.proofs.Lists.{all_map, all_append, cond_case}
use Rattle.definition_laws.proofs.Sound.{find_name_lem}
use Rattle.definition_laws.proofs.Cells.{Wide, Wides, end, ◌then◌, all_at, table_word, table_whole, entries_all, entries_wide, single_length}
use Rattle.words.proofs.Codes.{unword_word}
use Rattle.definition_laws.proofs.FunctionCode.{OperandsFit, Sized, function_at, no_function, functions_code_length, functions_code_at}
use Rattle.definition_laws.proofs.FunctionCode.{functions_code_wide, functions_length, functions_wide, functions_at, code_inside, logs_at, code_loose_lem}
use Rattle.definition_laws.proofs.FunctionCode.{logs_length}

-- an area holds entries, all of them and whole
pub record Holds (m : Areas) (t : Totals) (area : ℕ) (es : Entries) : Type 0 where
  pub total : total_of t area ≡ length es
  pub cells : (i k : ℕ) → i < length es → k < width_of area → cell m area i k ≡ get_or (get_or es i []) k 0

-- functions

-- the counts of function j, with the indices of its reads of `this`
abbrev counts_in : Program → List ℕ → ℕ → Counts
counts_in p this j = record {
  top = length_of p j;
  locals = locals_of p j;
  constants = total p constants_area;
  context = total p context_locals_area;
  this = this;
}

-- function j: its code lies in area 1, every operand is within its count, its rescue position is in it, its file is a book
record FunctionWithin (p : Program) (this : List ℕ) (j : ℕ) : Type 0 where
  inside : 0 < length_of p j → start_of p j + length_of p j ≤ total p code_area
  fits : (i : ℕ) → i < length_of p j → Fits (counts_in p this j) i (instruction_of p j i)
  rescue : field p functions_area j rescue_word ≤ length_of p j
  file : field p functions_area j function_file_word < total p books_area

by_function_lem : (k : Class) (p : Program) (this : List ℕ) (j i n : ℕ) → Within k (counts_in p this j) i n → Test (bound_by_function k p j n)
by_function_lem Position p this j i n h = at_most n (length_of p j) h
by_function_lem Slot p this j i n h = less n (locals_of p j) h
by_function_lem Read p this j i n (inl h) = or_first (eqb n 0) (less n (locals_of p j) h)
by_function_lem Read p this j i n (inr h) = or_second (ltb n (locals_of p j)) (equal h.0)
by_function_lem Pool p this j i n h = passes
by_function_lem ContextSlot p this j i n h = passes
by_function_lem Other p this j i n h = passes

module _ {p : Program} {this : List ℕ} {j : ℕ} (f : FunctionWithin p this j) where
  function_bound_lem : Test (function_bound p j)
  function_bound_lem =
      both (both (where_holds (ltb 0 (length_of p j)) (λ t. at_most (start_of p j + length_of p j) (total p code_area) (f.inside (ltb→lt 0 (length_of p j) t))))
      (at_most (field p functions_area j rescue_word) (length_of p j) f.rescue))
      (less (field p functions_area j function_file_word) (total p books_area) f.file)

  -- an entry of area 1 that the function has
  operand_bound : (i : ℕ) → T (has_instruction p j i)
      → Test (bound_by_function (class_of (instruction_at p.areas i).opcode) p j (instruction_at p.areas i).operand)
  operand_bound i t =
      let from : start_of p j ≤ i = leb→le (start_of p j) i (first_of (leb (start_of p j) i) (ltb i (start_of p j + length_of p j)) t) in
      let to : i < start_of p j + length_of p j = ltb→lt i (start_of p j + length_of p j)
      (second_of (leb (start_of p j) i) (ltb i (start_of p j + length_of p j)) t) in
      let k = i - start_of p j in
      let same : start_of p j + k ≡ i = omega arith in
      by_function_lem (class_of (instruction_at p.areas i).opcode) p this j k (instruction_at p.areas i).operand
      (subst (λ n. Fits (counts_in p this j) k (instruction_at p.areas n)) same (f.fits k (omega arith)))

-- by totals
loose_test : (k : Class) (p : Program) (n : ℕ) {K C : ℕ} → total p constants_area ≡ K → total p context_locals_area ≡ C → LooseBy k K C n
    → Test (bound_by_totals k p n)
loose_test Pool p n a b h = less n (total p constants_area) (omega (arith, a))
loose_test ContextSlot p n a b h = less n (total p context_locals_area) (omega (arith, b))
loose_test Position p n a b h = passes
loose_test Slot p n a b h = passes
loose_test Read p n a b h = passes
loose_test Other p n a b h = passes

module _ {K C n : ℕ} {at' : ℕ → Instruction} {f : FunctionState} (safe : FunctionSafe K C f) (long : n ≡ length f.code.instructions)
    (same : (i : ℕ) → i < length f.code.instructions → at' i ≡ at f.code.instructions i) where
  -- just after a loop is within the function, as it is the operand of the loop's exit
  lands : (e : Loop) → Landed f.code.instructions e → Lands at' n e
  lands e r =
      let inside : e.after ≤ length f.code.instructions =
      subst (λ (x : Instruction). Fits (counts (length f.code.instructions) K C f) e.exit x) r.exit_lands.1
      (safe.fits e.exit r.exit_lands.0) in
      record {
        exit_lands = (omega (arith, r.exit_lands.0), same e.exit r.exit_lands.0 ∙ r.exit_lands.1);
        breaks_land = all_map (λ b q. (omega (arith, q.0), same b q.0 ∙ q.1)) r.breaks_land;
        after_within = omega arith;
      }

module _ (p : Program) (c : Context) (safe : ProgramSafe c) (fit : OperandsFit c)
    (code : Holds p.areas p.totals code_area (c.prior.code ++ entries_from function_code 0 c.program.functions))
    (functions : Holds p.areas p.totals functions_area (c.prior.functions ++ function_entries (length c.prior.code) c.program.functions))
    (constants : total p constants_area ≡ length c.pool.constants)
    (context : total p context_locals_area ≡ c.pool.local_count)
    (books : total p books_area ≡ book_count c) where
  -- a function that stood before
  standing_within : (j : ℕ) → j < length c.prior.functions → FunctionWithin p (below (get_or (get_or c.prior.functions j []) length_word 0)) j
  standing_within j h = record {
    inside = λ k. omega (
      arith,
      starts,
      long,
      code.total,
      length-append c.prior.code (entries_from function_code 0 c.program.functions),
      f_safe.inside (omega (arith, long)),
    );
    fits = λ i k. subst (λ (x : Instruction). Fits read i x) (sym (same i (omega (arith, long))))
        (subst (λ (n : Counts). Fits n i (instruction i)) (sym counted) (f_safe.fits i (omega (arith, long))));
    rescue = omega (arith, word_of rescue_word (omega arith), long, f_safe.rescue);
    file = omega (arith, word_of function_file_word (omega arith), books, f_safe.file);
  }
    where
      e : List ℕ
      e = get_or c.prior.functions j []

      instruction : ℕ → Instruction
      instruction i = unword (get_or (get_or c.prior.code (get_or e start_word 0 + i) []) 0 0)

      f_safe : StandingSafe (length c.pool.constants) c.pool.local_count (book_count c) c.prior.code e
      f_safe = all_at safe.parts.prior.functions j [] h

      added : Entries
      added = function_entries (length c.prior.code) c.program.functions

      word_of : (k : ℕ) → k < 8 → field p functions_area j k ≡ get_or e k 0
      word_of k q = functions.cells j k (omega (arith, length-append c.prior.functions added)) q
          ∙ ap (λ (x : List ℕ). get_or x k 0) (get_or-append c.prior.functions added [] j h)

      starts : field p functions_area j start_word ≡ get_or e start_word 0
      starts = word_of start_word (omega arith)

      long : field p functions_area j length_word ≡ get_or e length_word 0
      long = word_of length_word (omega arith)

      same : (i : ℕ) → i < get_or e length_word 0 → instruction_at p.areas (field p functions_area j start_word + i) ≡ instruction i
      same i k =
          let n = get_or e start_word 0 + i in
          let new = entries_from function_code 0 c.program.functions in
          let stood : n < length c.prior.code = omega (arith, f_safe.inside (omega arith)) in
          let stands : field p code_area n 0 ≡ get_or (get_or c.prior.code n []) 0 0 =
          code.cells n 0 (omega (arith, length-append c.prior.code new)) (omega arith)
          ∙ ap (λ (x : List ℕ). get_or x 0 0) (get_or-append c.prior.code new [] n stood) in
          ap (λ (k : ℕ). instruction_at p.areas (k + i)) starts ∙ ap unword stands

      read : Counts
      read = record {
        top = field p functions_area j length_word;
        locals = field p functions_area j locals_word;
        constants = total p constants_area;
        context = total p context_locals_area;
        this = below (get_or e length_word 0);
      }

      counted : read ≡ standing_counts (length c.pool.constants) c.pool.local_count e
      counted = rw (long, word_of locals_word (omega arith), constants, context)

  -- and one that was added
  function_within : (j : ℕ) → j < length c.program.functions
      → FunctionWithin p (function_at c.program.functions j).state.log.this_reads (length c.prior.functions + j)
      × FunctionLogged p (function_at c.program.functions j).state.log (length c.prior.functions + j)
  function_within j h = (
    record {
      inside = λ k. omega (
        arith,
        starts,
        long,
        code.total,
        length-append c.prior.code (entries_from function_code 0 fs),
        functions_code_length sized,
        code_inside fs j h,
      );
      fits = λ i k. subst (λ (x : Instruction). Fits read i x) (sym (same i (omega (arith, long))))
          (subst (λ (n : Counts). Fits n i (at l i)) (sym counted) (f_safe.fits i (omega (arith, long))));
      rescue = omega (arith, word_of rescue_word (omega arith), long, f_safe.rescue);
      file = omega (arith, word_of function_file_word (omega arith), books, (all_at safe.parts.functions j no_function h).1);
    },
    record {
      reads = λ i k o z. this_read i (omega (arith, long)) (sym (ap (λ (x : Instruction). x.opcode) (same i (omega (arith, long)))) ∙ o)
          (sym (word_of locals_word (omega arith)) ∙ z);
      closed = f_safe.closed;
      each_loop = λ i k o. f_safe.nexts i (omega (arith, long)) (sym (ap (λ (x : Instruction). x.opcode) (same i (omega (arith, long)))) ∙ o);
      each_break = f_safe.breaks;
      loops = all_map (lands f_safe long same) f_safe.loops;
    },
  )
    where
      fs : List Function
      fs = c.program.functions

      f : Function
      f = function_at fs j

      l : List Instruction
      l = f.state.code.instructions

      f_safe : FunctionSafe (length c.pool.constants) c.pool.local_count f.state
      f_safe = (all_at safe.parts.functions j no_function h).0

      sized : All Sized fs
      sized = all_map (λ (x : Function) s. s.0.sized) safe.parts.functions

      -- where the functions and the code that stood before end
      n : ℕ
      n = length c.prior.functions

      s : ℕ
      s = length c.prior.code

      word_of : (k : ℕ) → k < 8 → field p functions_area (n + j) k ≡ get_or (function_entry (s + code_of (take j fs)) f) k 0
      word_of k q = functions.cells (n + j) k (omega (arith, length-append c.prior.functions (function_entries s fs), functions_length s fs)) q
          ∙ ap (λ (e : List ℕ). get_or e k 0) (get_or-append-add c.prior.functions (function_entries s fs) j [] ∙ functions_at s fs j h)

      starts : field p functions_area (n + j) start_word ≡ s + code_of (take j fs)
      starts = word_of start_word (omega arith)

      long : field p functions_area (n + j) length_word ≡ length l
      long = word_of length_word (omega arith)

      same : (i : ℕ) → i < length l → instruction_at p.areas (field p functions_area (n + j) start_word + i) ≡ at l i
      same i k =
          let new = entries_from function_code 0 fs in
          let place = code_of (take j fs) + i in
          let inside : s + place < length (c.prior.code ++ new) =
          omega (arith, length-append c.prior.code new, functions_code_length sized, code_inside fs j h) in
          let stands : field p code_area (s + place) 0 ≡ word (at l i) =
          code.cells (s + place) 0 inside (omega arith)
          ∙ ap (λ (e : List ℕ). get_or e 0 0) (get_or-append-add c.prior.code new place [] ∙ functions_code_at sized j i h k) in
          let there : field p functions_area (n + j) start_word + i ≡ s + place = omega (arith, starts) in
          ap (λ k. instruction_at p.areas k) there ∙ ap unword stands ∙ unword_word (at l i) (all_at fit j no_function h i k)

      read : Counts
      read = record {
        top = field p functions_area (n + j) length_word;
        locals = field p functions_area (n + j) locals_word;
        constants = total p constants_area;
        context = total p context_locals_area;
        this = f.state.log.this_reads;
      }

      -- a read where there is no local is one of `this`
      this_read : (i : ℕ) → i < length l → (at l i).opcode ≡ LocalGet → f.state.header.local_count ≡ 0 → Among i f.state.log.this_reads
      this_read i k o z = go (subst (λ n. Within (class_of n) (counts (length l) (length c.pool.constants) c.pool.local_count f.state) i
          (at l i).operand) o (f_safe.fits i k))
        where
          go : ((at l i).operand < f.state.header.local_count) ⊎
              (((at l i).operand ≡ 0) × (f.state.header.local_count ≡ 0) × Among i f.state.log.this_reads)
              → Among i f.state.log.this_reads
          go (inl q) = absurd (omega arith)
          go (inr q) = q.2

      counted : read ≡ counts (length l) (length c.pool.constants) c.pool.local_count f.state
      counted = rw (long, word_of locals_word (omega arith), constants, context)

-- entries word by word

bit_small : (b : Bool) → bit b ≤ 1
bit_small true = omega arith
bit_small false = omega arith

property_words_lem : {M i : ℕ} (ns : List ℕ) → i < M → All (λ (e : List ℕ). get_or e 0 0 < M) (property_entries i ns)
property_words_lem [] h = nil
property_words_lem (n ∷ ns) h = h & property_words_lem ns h

public_words_lem : {A K file : ℕ} {es : List Entry} → file < A → All (λ (e : Entry). e.index < K) es
    → All (λ (e : List ℕ). (get_or e 0 0 < A) × (get_or e 2 0 < K)) (public_entries file es)
public_words_lem h nil = nil
public_words_lem h (k & ks) = (h, k) & public_words_lem h ks

-- a context local: its book, its mark, and its value if it has one
abbrev Local : ℕ → ℕ → List ℕ → Type 0
Local A K e = (get_or e 0 0 < A) × (get_or e 2 0 ≤ 1) × (get_or e 2 0 ≡ 1 → get_or e 3 0 < K)

local_words_lem : {A C K : ℕ} (values : List Entry) (i : ℕ) (e : Entry) → All (λ (v : Entry). (v.name < C) × (v.index < K)) values → e.index < A
    → Local A K (local_words (find_name i values) e.index e.name)
local_words_lem {A} {C} {K} values i e vs h = go (find_name i values) refl
  where
    go : (o : Option ℕ) → find_name i values ≡ o → Local A K (local_words o e.index e.name)
    go none q = (h, omega arith, λ z. absurd (omega arith))
    go (some n) q = (h, omega arith, λ z. find_name_lem i n (all_map (λ v r. r.1) vs) q)

-- the marks of the entries, summed, are the marked constants
marks_summed : (globals : List ℕ) (i : ℕ) (cs : List Constant)
    → sum_of (λ (e : List ℕ). get_or e 2 0) (entries_from (constant_entry globals) i cs) ≡ global_dependencies globals i cs
marks_summed globals i [] = refl
marks_summed globals i (c ∷ cs) = ap (λ n. bit (has_text i globals) + n) (marks_summed globals (i + 1) cs)

sum_snoc : (g : List ℕ → ℕ) (es : Entries) (e : List ℕ) → sum_of g (es ++ (e ∷ [])) ≡ sum_of g es + g e
sum_snoc g [] e = omega arith
sum_snoc g (x ∷ es) e = omega (arith, sum_snoc g es e)

module _ {m : Areas} {t : Totals} {es : Entries} where
  marked_sum : Holds m t constants_area es → (n : ℕ) → n ≤ length es → marked m n ≡ sum_of (λ (e : List ℕ). get_or e 2 0) (take n es)
  marked_sum holds zero h = refl
  marked_sum holds (suc n) h =
      rw (take-suc es n [] h, sum_snoc (λ (e : List ℕ). get_or e 2 0) (take n es) (get_or es n []))
      (omega (arith, marked_sum holds n (omega arith), holds.cells n 2 h (omega arith)))

  -- what holds of every entry
  held : {area : ℕ} {Q : List ℕ → Type 0} → Holds m t area es → All Q es → (i : ℕ) → i < total_of t area → (i < length es) × Q (get_or es i [])
  held holds qs i h = let k : i < length es = omega (arith, holds.total) in (k, all_at qs i [] k)

-- the program

-- entries that lie in an area whole are below its total
present_below : (p : Program) (area : ℕ) → present p area ≤ total p area
present_below p area = omega arith

-- a context's numbers beside areas and totals
abbrev program_of : Areas → Totals → Context → Program
program_of m t c = record { areas = m; totals = t; entry_point = c.program.entry_point; globals = global_dependencies c.pool.globals 0 c.pool.constants }

module _ {m : Areas} {t : Totals} (c : Context) (holds : (area : ℕ) → Holds m t area (get_or (tables_of c) area []))
    (whole : (area : ℕ) → total_of t area * width_of area ≤ length (get_or m area [])) (safe : ProgramSafe c) (fit : OperandsFit c) where
  holds_within : KeepsWithin (program_of m t c) (length c.prior.functions) (logs_of c.program.functions)
  unfolding tables_of area_bound
  holds_within = record {
    whole = whole;
    bounds = λ area. (all_below_lem (present p area) (entry_bound p area) (λ i h. bound area i (omega (arith, present_below p area)))).holds;
    entry = (entered safe.parts.entry).holds;
    globals_counted =
        sym (marks_summed c.pool.globals 0 c.pool.constants)
        ∙ (rw (constants_held.total, marked_sum constants_held _ (le_refl _), take-length) refl);
    logs_each = ap (λ n. length c.prior.functions + n) (logs_length c.program.functions) ∙ sym function_total;
    logged = λ j h.
        let k : j < length c.program.functions = omega (arith, logs_length c.program.functions) in
        subst (λ (g : Log). FunctionLogged p g (length c.prior.functions + j)) (sym (logs_at c.program.functions j k)) (within j k).1;
  }
    where
      p : Program
      p = program_of m t c

      K : ℕ
      K = length c.pool.constants

      C : ℕ
      C = c.pool.local_count

      M : ℕ
      M = model_count c

      F : ℕ
      F = function_count c

      A : ℕ
      A = book_count c

      added_models : Entries
      added_models = entries_from model_entry 0 c.program.models

      added_properties : Entries
      added_properties = entries_from model_properties (length c.prior.models) c.program.models

      added_locals : Entries
      added_locals = entries_from (local_entry c.locals.values) (length c.prior.locals) c.locals.names

      added_publics : Entries
      added_publics = entries_from assembly_publics 0 c.assemblies

      constants_held : Holds m t constants_area (entries_from (constant_entry c.pool.globals) 0 c.pool.constants)
      constants_held = holds constants_area

      models_held : Holds m t models_area (c.prior.models ++ added_models)
      models_held = holds models_area

      properties_held : Holds m t properties_area (c.prior.properties ++ added_properties)
      properties_held = holds properties_area

      methods_held : Holds m t methods_area (entries_from method_entry 0 c.program.methods)
      methods_held = holds methods_area

      locals_held : Holds m t context_locals_area (c.prior.locals ++ added_locals)
      locals_held = holds context_locals_area

      publics_held : Holds m t public_names_area (c.prior.publics ++ added_publics)
      publics_held = holds public_names_area

      function_total : total_of t functions_area ≡ F
      function_total = (holds functions_area).total ∙ length-append c.prior.functions _
          ∙ ap (λ k. length c.prior.functions + k) (functions_length _ c.program.functions)

      constant_total : total_of t constants_area ≡ K
      constant_total = constants_held.total ∙ single_length _ 0 c.pool.constants

      model_total : total_of t models_area ≡ M
      model_total = models_held.total ∙ length-append c.prior.models added_models ∙ ap (λ k. length c.prior.models + k)
          (single_length _ 0 c.program.models)

      context_total : total_of t context_locals_area ≡ c.pool.local_count
      context_total = locals_held.total ∙ length-append c.prior.locals added_locals
          ∙ ap (λ k. length c.prior.locals + k) (single_length _ (length c.prior.locals) c.locals.names) ∙ safe.counted

      book_total : total_of t books_area ≡ A
      book_total = (holds books_area).total ∙ length-append c.prior.books _ ∙ ap (λ k. length c.prior.books + k) (single_length _ 0 c.assemblies)

      constants_named : All (λ (e : List ℕ). (get_or e 0 0 ≡ model_kind → get_or e 1 0 < M) × (get_or e 0 0 ≡ function_kind → get_or e 1 0 < F) ×
          (get_or e 2 0 ≤ 1))
          (entries_from (constant_entry c.pool.globals) 0 c.pool.constants)
      constants_named = entries_all (constant_entry c.pool.globals) K 0
          (λ j x h n. (n.0, n.1, bit_small (has_text j c.pool.globals)) & nil) (omega arith) safe.parts.constants

      models_filed : All (λ (e : List ℕ). get_or e 0 0 < A) (c.prior.models ++ added_models)
      models_filed = all_append safe.parts.prior.models (entries_all model_entry M 0 (λ j x h f. f & nil) (omega arith) safe.parts.models)

      properties_owned : All (λ (e : List ℕ). get_or e 0 0 < M) (c.prior.properties ++ added_properties)
      properties_owned = all_append safe.parts.prior.properties
          (entries_all model_properties M (length c.prior.models) (λ j x h f. property_words_lem x.properties h) (omega arith) safe.parts.models)

      methods_named : All (λ (e : List ℕ). (get_or e 0 0 < M) × (get_or e 2 0 < F)) (entries_from method_entry 0 c.program.methods)
      methods_named = entries_all method_entry (length c.program.methods) 0 (λ j x h n. n & nil) (omega arith) safe.parts.methods

      locals_valued : All (Local A K) (c.prior.locals ++ added_locals)
      locals_valued = all_append safe.parts.prior.locals
          (entries_all (local_entry c.locals.values) (length c.prior.locals + length c.locals.names) (length c.prior.locals)
          (λ j x h f. local_words_lem c.locals.values j x safe.parts.values f & nil) (le_refl _) safe.parts.names)

      publics_named : All (λ (e : List ℕ). (get_or e 0 0 < A) × (get_or e 2 0 < K)) (c.prior.publics ++ added_publics)
      publics_named = all_append safe.parts.prior.publics
          (entries_all assembly_publics A 0 (λ j x h p. public_words_lem p.0 p.1) (omega arith) safe.parts.publics)

      within : (j : ℕ) → j < length c.program.functions
          → FunctionWithin p (function_at c.program.functions j).state.log.this_reads (length c.prior.functions + j)
          × FunctionLogged p (function_at c.program.functions j).state.log (length c.prior.functions + j)
      within = function_within p c safe fit (holds code_area) (holds functions_area) constant_total context_total book_total

      -- what holds of a function's entry, whether it stood before or was added
      each_function : (Q : ℕ → Type 0) → ((j : ℕ) (this : List ℕ) → FunctionWithin p this j → Q j) → (j : ℕ) → j < total_of t functions_area → Q j
      each_function Q f j h = go (dec_lt j (length c.prior.functions))
        where
          go : Dec (j < length c.prior.functions) → Q j
          go (yes q) = f j (below (get_or (get_or c.prior.functions j []) length_word 0))
              (standing_within p c safe fit (holds code_area) (holds functions_area) constant_total context_total book_total j q)
          go (no q) =
              let i = j - length c.prior.functions in
              let there : length c.prior.functions + i ≡ j = omega arith in
              subst Q there (f (length c.prior.functions + i) (function_at c.program.functions i).state.log.this_reads
              (within i (omega (arith, function_total))).0)

      code_loose : All (λ (e : List ℕ). Loose K C (unword (get_or e 0 0))) (c.prior.code ++ entries_from function_code 0 c.program.functions)
      code_loose = all_append safe.parts.prior.code (code_loose_lem (all_map (λ f s. s.0) safe.parts.functions) fit)

      code_bound_lem : (i : ℕ) → i < total_of t code_area → Test (code_bound p i)
      code_bound_lem i h =
          let (k, q) = held (holds code_area) code_loose i h in
          let x : Loose K C (instruction_at m i) = rw ((holds code_area).cells i 0 k (omega arith)) q in
          both (loose_test (class_of (instruction_at m i).opcode) p (instruction_at m i).operand constant_total context_total x)
          (all_below_lem (present p functions_area) (λ j. where' (has_instruction p j i)
          (bound_by_function (class_of (instruction_at m i).opcode) p j (instruction_at m i).operand))
          (λ j n. where_holds (has_instruction p j i) (each_function (λ n. T (has_instruction p n i)
          → Test (bound_by_function (class_of (instruction_at m i).opcode) p n (instruction_at m i).operand))
          (λ n this f. operand_bound f i) j (omega (arith, present_below p functions_area)))))

      constant_bound_lem : (i : ℕ) → i < total_of t constants_area → Test (constant_bound p i)
      constant_bound_lem i h =
          let (k, q) = held constants_held constants_named i h in
          let kind = constants_held.cells i 0 k (omega arith) in
          let value = constants_held.cells i 1 k (omega arith) in
          let mark = constants_held.cells i 2 k (omega arith) in
          both (both (where_holds (eqb (field p constants_area i 0) model_kind) (λ z. less (field p constants_area i 1) (total p models_area)
          (omega (arith, value, model_total, q.0 (sym kind ∙ eqb→eq (field p constants_area i 0) model_kind z)))))
          (where_holds (eqb (field p constants_area i 0) function_kind) (λ z. less (field p constants_area i 1) (total p functions_area)
          (omega (arith, value, function_total, q.1 (sym kind ∙ eqb→eq (field p constants_area i 0) function_kind z))))))
          (less (field p constants_area i 2) 2 (omega (arith, mark, q.2)))

      model_bound_lem : (i : ℕ) → i < total_of t models_area → Test (model_bound p i)
      model_bound_lem i h = let (k, q) = held models_held models_filed i h in less (field p models_area i 0) (total p books_area)
          (omega (arith, models_held.cells i 0 k (omega arith), book_total))

      property_bound_lem : (i : ℕ) → i < total_of t properties_area → Test (property_bound p i)
      property_bound_lem i h =
          let (k, q) = held properties_held properties_owned i h in less (field p properties_area i 0) (total p models_area)
          (omega (arith, properties_held.cells i 0 k (omega arith), model_total))

      method_bound_lem : (i : ℕ) → i < total_of t methods_area → Test (method_bound p i)
      method_bound_lem i h =
          let (k, q) = held methods_held methods_named i h in
          both (less (field p methods_area i 0) (total p models_area) (omega (arith, methods_held.cells i 0 k (omega arith), model_total, q.0)))
          (less (field p methods_area i 2) (total p functions_area) (omega (arith, methods_held.cells i 2 k (omega arith), function_total, q.1)))

      local_bound_lem : (i : ℕ) → i < total_of t context_locals_area → Test (local_bound p i)
      local_bound_lem i h =
          let (k, q) = held locals_held locals_valued i h in
          let mark = locals_held.cells i 2 k (omega arith) in
          both (both (less (field p context_locals_area i 0) (total p books_area) (omega (arith, locals_held.cells i 0 k (omega arith), book_total, q.0)))
          (less (field p context_locals_area i 2) 2 (omega (arith, mark, q.1))))
          (where_holds (eqb (field p context_locals_area i 2) 1) (λ z. less (field p context_locals_area i 3) (total p constants_area)
          (omega (arith, locals_held.cells i 3 k (omega arith), constant_total, q.2 (sym mark ∙ eqb→eq (field p context_locals_area i 2) 1 z)))))

      public_bound_lem : (i : ℕ) → i < total_of t public_names_area → Test (public_bound p i)
      public_bound_lem i h =
          let (k, q) = held publics_held publics_named i h in
          both (less (field p public_names_area i 0) (total p books_area) (omega (arith, publics_held.cells i 0 k (omega arith), book_total, q.0)))
          (less (field p public_names_area i 2) (total p constants_area) (omega (arith, publics_held.cells i 2 k (omega arith), constant_total, q.1)))

      -- by area
      by : (area n i : ℕ) {a b : Bool} → i < total_of t area → (i < total_of t n → Test a) → Test b → Test (cond (eqb area n) a b)
      by area n i {a} {b} h f q = cond_case (λ x. Test x) (eqb area n) (λ z. f (subst (λ k. i < total_of t k) (eqb→eq area n z) h)) (λ z. q)

      bound : (area i : ℕ) → i < total_of t area → Test (entry_bound p area i)
      bound area i h =
          by area code_area i h (code_bound_lem i)
          (by area constants_area i h (constant_bound_lem i)
          (by area functions_area i h (each_function (λ n. Test (function_bound p n)) (λ n this f. function_bound_lem f) i)
          (by area models_area i h (model_bound_lem i)
          (by area properties_area i h (property_bound_lem i)
          (by area methods_area i h (method_bound_lem i)
          (by area context_locals_area i h (local_bound_lem i)
          (by area public_names_area i h (public_bound_lem i) passes)))))))

      entered : EntryWithin F c.program.entry_point → Test (entry_point_bound (total_of t functions_area) c.program.entry_point)
      entered (inl q) = or_first (eqb c.program.entry_point 0 && eqb (total_of t functions_area) 0)
          (less c.program.entry_point (total_of t functions_area) (omega (arith, function_total)))
      entered (inr q) = or_second (ltb c.program.entry_point (total_of t functions_area)) (both (equal q.0) (equal (function_total ∙ q.1)))

-- every table has its area's width

property_wide : (i : ℕ) (ns : List ℕ) → Wide 2 (property_entries i ns)
property_wide i [] = nil
property_wide i (n ∷ ns) = refl & property_wide i ns

public_wide : (file : ℕ) (es : List Entry) → Wide 3 (public_entries file es)
public_wide file [] = nil
public_wide file (e ∷ es) = refl & public_wide file es

local_wide : (o : Option ℕ) (file name : ℕ) → length (local_words o file name) ≡ 4
local_wide none file name = refl
local_wide (some c) file name = refl

pub tables_wide : (c : Context) → PriorWide c.prior → Wides widths (tables_of c)
unfolding tables_of
tables_wide c p =
    nil then all_append p.code (functions_code_wide c.program.functions)
    then entries_wide (constant_entry c.pool.globals) 3 0 (λ i x. refl & nil) c.pool.constants
    then all_append p.functions (functions_wide _ c.program.functions)
    then all_append p.models (entries_wide model_entry 2 0 (λ i x. refl & nil) c.program.models)
    then all_append p.properties (entries_wide model_properties 2 _ (λ i x. property_wide i x.properties) c.program.models)
    then entries_wide method_entry 3 0 (λ i x. refl & nil) c.program.methods
    then all_append p.locals
    (entries_wide (local_entry c.locals.values) 4 _ (λ i x. local_wide (find_name i c.locals.values) x.index x.name & nil) c.locals.names)
    then all_append p.publics (entries_wide assembly_publics 3 0 (λ i x. public_wide x.index x.publics) c.assemblies)
    then nil
    then nil
    then nil
    then all_append p.books (entries_wide book_entry 1 0 (λ i x. refl & nil) c.assemblies)
    then end

-- what a delivery leaves in areas of those lengths
abbrev pub delivered : List ℕ → Context → Program
delivered lengths c = record {
  areas = areas_of lengths (Delivery c);
  totals = (reply_of (Delivery c)).totals;
  entry_point = (reply_of (Delivery c)).entry_point;
  globals = (reply_of (Delivery c)).globals;
}

-- demand 3 of it
abbrev pub WordsKeep : List ℕ → Context → Type 0
WordsKeep lengths c = KeepsWithin (delivered lengths c) (length c.prior.functions) (logs_of c.program.functions)

pub program_keeps : (lengths : List ℕ) (c : Context) → length lengths ≡ 13 → ProgramSafe c → OperandsFit c → WordsKeep lengths c
unfolding areas_of reply_of
program_keeps lengths c n safe fit = holds_within c holds whole safe fit
  where
    total : (area : ℕ) → get_or (map (λ (es : Entries). length es) (tables_of c)) area 0 ≡ length (get_or (tables_of c) area [])
    total area = get_or-map (λ (es : Entries). length es) (tables_of c) area []

    holds : (area : ℕ) → Holds (filled_all lengths (tables_of c)) (map (λ (es : Entries). length es) (tables_of c)) area (get_or (tables_of c) area [])
    holds area = record { total = total area; cells = λ i k h q. table_word lengths (tables_wide c safe.wide) (omega arith) area i k h q }

    whole : (area : ℕ) → get_or (map (λ (es : Entries). length es) (tables_of c)) area 0 * width_of area ≤ length
        (get_or (filled_all lengths (tables_of c)) area [])
    whole area = rw (total area) (table_whole lengths (tables_wide c safe.wide) (omega arith) area)
