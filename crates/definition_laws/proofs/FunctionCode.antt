-- The code of functions in areas 1 and 3: function j's entry names the first entry of its code, and from there its code stands. By induction over the
-- functions, each with one position for each instruction. Assumes nothing.
use Prim.Native.Nat.{ℕ, zero, suc, ◌+◌, ◌^◌, ◌≤◌, ◌<◌}
use native.Mathlib.Omega.{arith}
use mathlib.Core.Path.{◌≡◌, refl, sym, ap, ◌∙◌, subst}
use mathlib.Core.List.{List, [], ◌∷◌}
use lib.ListN.{length, get_or, take}
use Rattle.words.specs.Opcode.{Instruction, word, unword}
use Rattle.words.proofs.Codes.{unword_word}
use Rattle.definition.specs.FunctionState.{new_function_state, no_log}
use Rattle.definition.specs.Book.{Function, Context, code_of}
use Rattle.definition.specs.Program.{entries_from, code_entries, function_code, function_entry, function_entries}
use Rattle.definition.specs.Within.{All, nil, ◌&◌, logs_of, Class, Position, Slot, Read, Pool, ContextSlot, Other, class_of}
use Rattle.definition_laws.proofs.Safe.{at, Each, Counts, counts, Within, LooseBy, Loose, FunctionSafe}
use Rattle.definition_laws.proofs.Cells.{Wide, all_at, entries_all, entries_wide, entries_length, entries_at, sum_inside}

-- every operand has its 56 bits
abbrev pub OperandsFit : Context → Type 0
OperandsFit c = All (λ (f : Function). Each (λ i x. x.operand < 2 ^ 56) f.state.code.instructions) c.program.functions

-- one position for each instruction
abbrev pub Sized : Function → Type 0
Sized f = length f.state.code.positions ≡ length f.state.code.instructions

code_length : (xs : List Instruction) (ps : List ℕ) → length ps ≡ length xs → length (code_entries xs ps) ≡ length xs
code_length [] ps h = refl
code_length (x ∷ xs) [] h = absurd (omega arith)
code_length (x ∷ xs) (p ∷ ps) h = ap suc (code_length xs ps (omega arith))

code_entry : (xs : List Instruction) (ps : List ℕ) (i : ℕ) → length ps ≡ length xs → i < length xs
    → get_or (code_entries xs ps) i [] ≡ word (at xs i) ∷ get_or ps i 0 ∷ []
code_entry [] ps i e h = absurd (omega arith)
code_entry (x ∷ xs) [] i e h = absurd (omega arith)
code_entry (x ∷ xs) (p ∷ ps) zero e h = refl
code_entry (x ∷ xs) (p ∷ ps) (suc i) e h = code_entry xs ps i (omega arith) (omega arith)

code_wide : (xs : List Instruction) (ps : List ℕ) → Wide 2 (code_entries xs ps)
code_wide [] ps = nil
code_wide (x ∷ xs) [] = nil
code_wide (x ∷ xs) (p ∷ ps) = refl & code_wide xs ps

all_both : {A : Type 0} {P Q : A → Type 0} {l : List A} → All P l → All Q l → All (λ (x : A). P x × Q x) l
all_both nil nil = nil
all_both (p & ps) (q & qs) = (p, q) & all_both ps qs

-- where there is none
abbrev pub no_function : Function
no_function = record { state = new_function_state; name = 0; file = 0 }

abbrev pub function_at : List Function → ℕ → Function
function_at fs j = get_or fs j no_function

pub functions_code_length : {fs : List Function} → All Sized fs → length (entries_from function_code 0 fs) ≡ code_of fs
functions_code_length ss = entries_length function_code _ 0 (λ j f s. code_length f.state.code.instructions f.state.code.positions s) ss

-- instruction i of function j
pub functions_code_at : {fs : List Function} → All Sized fs → (j i : ℕ) → j < length fs → i < length (function_at fs j).state.code.instructions
    → get_or (entries_from function_code 0 fs) (code_of (take j fs) + i) []
    ≡ word (at (function_at fs j).state.code.instructions i) ∷ get_or (function_at fs j).state.code.positions i 0 ∷ []
functions_code_at {fs} ss j i h k =
    entries_at function_code (λ (f : Function). length f.state.code.instructions) 0
    (λ n f s. code_length f.state.code.instructions f.state.code.positions s) ss j i no_function h k
    ∙ code_entry (function_at fs j).state.code.instructions (function_at fs j).state.code.positions i (all_at ss j no_function h) k

pub functions_code_wide : (fs : List Function) → Wide 2 (entries_from function_code 0 fs)
functions_code_wide fs = entries_wide function_code 2 0 (λ j f. code_wide f.state.code.instructions f.state.code.positions) fs

-- area 3
pub functions_length : (start : ℕ) (fs : List Function) → length (function_entries start fs) ≡ length fs
functions_length start [] = refl
functions_length start (f ∷ fs) = ap suc (functions_length (start + length f.state.code.instructions) fs)

pub functions_wide : (start : ℕ) (fs : List Function) → Wide 8 (function_entries start fs)
functions_wide start [] = nil
functions_wide start (f ∷ fs) = refl & functions_wide (start + length f.state.code.instructions) fs

-- function j starts after the code of those before it
pub functions_at : (start : ℕ) (fs : List Function) (j : ℕ) → j < length fs
    → get_or (function_entries start fs) j [] ≡ function_entry (start + code_of (take j fs)) (function_at fs j)
functions_at start [] j h = absurd (omega arith)
functions_at start (f ∷ fs) zero h = let same : start + 0 ≡ start = omega arith in rw same
functions_at start (f ∷ fs) (suc j) h =
    let n = length f.state.code.instructions in
    let next : start + (n + code_of (take j fs)) ≡ start + n + code_of (take j fs) = omega arith in
    rw next (functions_at (start + n) fs j (omega arith))

pub code_inside : (fs : List Function) (j : ℕ) → j < length fs → code_of (take j fs) + length (function_at fs j).state.code.instructions ≤ code_of fs
code_inside fs j h = sum_inside (λ (f : Function). length f.state.code.instructions) fs j no_function h

-- what is logged of it
pub logs_at : (fs : List Function) (j : ℕ) → j < length fs → get_or (logs_of fs) j no_log ≡ (function_at fs j).state.log
logs_at [] j h = absurd (omega arith)
logs_at (f ∷ fs) zero h = refl
logs_at (f ∷ fs) (suc j) h = logs_at fs j (omega arith)

pub logs_length : (fs : List Function) → length (logs_of fs) ≡ length fs
logs_length [] = refl
logs_length (f ∷ fs) = ap suc (logs_length fs)

-- every entry of area 1 that functions give keeps the bounds by totals
loose_of : (k : Class) (c : Counts) (i n : ℕ) → Within k c i n → LooseBy k c.constants c.context n
loose_of Pool c i n h = h
loose_of ContextSlot c i n h = h
loose_of Position c i n h = tt
loose_of Slot c i n h = tt
loose_of Read c i n h = tt
loose_of Other c i n h = tt

abbrev EntryLoose : ℕ → ℕ → List ℕ → Type 0
EntryLoose K C e = Loose K C (unword (get_or e 0 0))

entries_loose : (K C : ℕ) (xs : List Instruction) (ps : List ℕ) → ((i : ℕ) → i < length xs → Loose K C (at xs i) × ((at xs i).operand < 2 ^ 56))
    → All (EntryLoose K C) (code_entries xs ps)
entries_loose K C [] ps h = nil
entries_loose K C (x ∷ xs) [] h = nil
entries_loose K C (x ∷ xs) (p ∷ ps) h =
    let (q, small) = h 0 (omega arith) in
    subst (Loose K C) (sym (unword_word x small)) q & entries_loose K C xs ps (λ i k. h (suc i) (omega arith))

pub code_loose_lem : {K C : ℕ} {fs : List Function} → All (λ (f : Function). FunctionSafe K C f.state) fs
    → All (λ (f : Function). Each (λ i x. x.operand < 2 ^ 56) f.state.code.instructions) fs → All (EntryLoose K C) (entries_from function_code 0 fs)
code_loose_lem {K} {C} {fs} ss fit = entries_all function_code (length fs) 0
    (λ j (f : Function) h q. entries_loose K C f.state.code.instructions f.state.code.positions
    (λ i k. (
      loose_of (class_of (at f.state.code.instructions i).opcode) (counts (length f.state.code.instructions) K C f.state) i
          (at f.state.code.instructions i).operand (q.0.fits i k),
      q.1 i k,
    ))) (omega arith) (all_both ss fit)
