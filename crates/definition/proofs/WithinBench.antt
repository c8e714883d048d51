-- What each clause of `KeepsWithin` refuses: the bench's small program with one of its words changed, with other numbers, with an area cut short, or with
-- other logs. Assumes nothing.
use Prim.Native.Nat.{ℕ, ◌≤◌, ◌<◌}
use native.Mathlib.Omega.{arith}
use mathlib.Core.Path.{◌≡◌, refl, ap, subst}
use mathlib.Core.Bool.{false}
use mathlib.Core.List.{List, [], ◌∷◌}
use lib.ListN.{length, get_or, take, set}
use lib.Dec.{T}
use Rattle.words.specs.Areas.{books_area}
use Rattle.words.specs.Opcode.{Instruction, to_instruction, unword, word, Jump}
use Rattle.definition.specs.FunctionState.{Event, Entered, Broke, Left, Log}
use Rattle.definition.specs.Within.{All, ◌&◌, Among, Program, instruction_of, area_bound, InLoop, first}
use Rattle.definition.specs.Within.{later}
use Rattle.definition.specs.Within.{Lands, KeepsWithin}
use Rattle.definition.specs.WithinBench.{kept, noted, kept_logs}

-- with a bound that fails there is no claim, whatever the logs: of each change in `broken`
pub none_keeps : (p : Program) (area standing : ℕ) (logs : List Log) → area_bound p area ≡ false → KeepsWithin p standing logs → ⊥
none_keeps p area standing logs e k = subst T e (k.bounds area)

-- other numbers

with_entry : ℕ → Program
with_entry n = record { areas = kept.areas; totals = kept.totals; entry_point = n; globals = kept.globals }

entry_3 : KeepsWithin (with_entry 3) 0 kept_logs → ⊥
unfolding with_entry
entry_3 k = k.entry

with_globals : ℕ → Program
with_globals n = record { areas = kept.areas; totals = kept.totals; entry_point = kept.entry_point; globals = n }

globals_0 : KeepsWithin (with_globals 0) 0 kept_logs → ⊥
unfolding with_globals
globals_0 k = let e : ◌≡◌ {A = ℕ} 0 1 = k.globals_counted in omega arith

-- area 12 cut short
cut : Program
cut = record {
  areas = set kept.areas books_area (take 1 (get_or kept.areas books_area []));
  totals = kept.totals;
  entry_point = kept.entry_point;
  globals = kept.globals;
}

books_cut : KeepsWithin cut 0 kept_logs → ⊥
unfolding cut
books_cut k = let h : 2 ≤ 1 = k.whole books_area in omega arith

-- other logs

no_logs : KeepsWithin kept 0 [] → ⊥
no_logs k = let e : ◌≡◌ {A = ℕ} 0 3 = k.logs_each in omega arith

-- of function 2
with_trace_lem : List Event → List Log
with_trace_lem t = noted [] [] ∷ noted [] (0 ∷ []) ∷ noted t [] ∷ []

empty : {A : Type 0} {n : ℕ} → Among n [] → A
empty q = elim q [ ]

-- a loop that no log has
loop_hidden : KeepsWithin kept 0 (with_trace_lem []) → ⊥
unfolding with_trace_lem word unword
loop_hidden k = empty ((k.logged 2 (omega arith)).each_loop 0 (omega arith) refl)

-- a loop that is not left
loop_open : KeepsWithin kept 0 (with_trace_lem (Entered ∷ Left 1 5 ∷ Broke 2 ∷ Entered ∷ [])) → ⊥
unfolding with_trace_lem
loop_open k = let e : ◌≡◌ {A = List (List ℕ)} ([] ∷ []) [] = (k.logged 2 (omega arith)).closed in
    let z : ◌≡◌ {A = ℕ} 1 0 = ap (λ (l : List (List ℕ)). length l) e in omega arith

-- a break of no loop
break_outside : KeepsWithin kept 0 (with_trace_lem (Left 1 5 ∷ Entered ∷ Broke 2 ∷ [])) → ⊥
unfolding with_trace_lem
break_outside k = go (k.logged 2 (omega arith)).each_break
  where
    go : All (λ b. InLoop b (record { exit = 1; breaks = []; after = 5 } ∷ [])) (2 ∷ []) → ⊥
    go (first q & r) = empty q
    go (later q & r) = elim q [ ]

-- an exit, and a break, that land elsewhere
exit_elsewhere : KeepsWithin kept 0 (with_trace_lem (Left 1 4 ∷ Entered ∷ [])) → ⊥
unfolding with_trace_lem word unword
exit_elsewhere k = go (k.logged 2 (omega arith)).loops
  where
    go : All (Lands (instruction_of kept 2) 6) (record { exit = 1; breaks = []; after = 4 } ∷ []) → ⊥
    go (r & rs) = let z : ◌≡◌ {A = ℕ} 5 4 = ap (λ (x : Instruction). x.operand) r.exit_lands.1 in omega arith

break_elsewhere : KeepsWithin kept 0 (with_trace_lem (Left 1 5 ∷ Broke 4 ∷ Entered ∷ [])) → ⊥
unfolding with_trace_lem word unword
break_elsewhere k = go (k.logged 2 (omega arith)).loops
  where
    go : All (Lands (instruction_of kept 2) 6) (record { exit = 1; breaks = 4 ∷ []; after = 5 } ∷ []) → ⊥
    go (r & rs) = here' r.breaks_land
      where
        here' : All (λ b. (b < 6) × (instruction_of kept 2 b ≡ to_instruction Jump 5)) (4 ∷ []) → ⊥
        here' (q & qs) = let z : ◌≡◌ {A = ℕ} 0 5 = ap (λ (x : Instruction). x.operand) q.1 in omega arith

-- a read of local 0 where there is no local, and no log of a read of `this`
read_unlogged : KeepsWithin kept 0 (noted [] [] ∷ noted [] [] ∷ noted (Left 1 5 ∷ Broke 2 ∷ Entered ∷ []) [] ∷ []) → ⊥
unfolding word unword
read_unlogged k = empty ((k.logged 1 (omega arith)).reads 0 (omega arith) refl refl)
