-- 2026-01's program check: whether words and totals that somebody lends are a program, and if not, the first area that fails ("First of all the standing
-- program is checked"). An area fails by its own words, the totals, and for area 1 the functions' entries. The bounds are demand 3's own (`area_bound`
-- of `Within`); here is what else 01 says of a word: kind, value, opcode, operation, text, mark and position are known ones, keys differ, zeros follow.
-- Sums are of numbers, never modulo 2^64. Laying on begins with it (`lay_on` of `Onto`)
use Rattle.std.specs.Prelude.{ℕ, ◌*◌, Bool, true, false, cond, ◌&&◌, ◌||◌, List, [], ◌∷◌, length, get_or, drop, eqb, ltb, leb}
use Rattle.std.proofs.Math.Option.{Option, none, some}
use Rattle.words.specs.Areas.{width_of, entries_in, code_area, constants_area, functions_area, methods_area, context_locals_area}
use Rattle.words.specs.Areas.{public_names_area, scope_names_area, breaks_area, books_area, instance_word, function_name_word}
use Rattle.words.specs.Object.{null_kind, boolean_kind, text_kind, function_kind}
use Rattle.words.specs.Opcode.{Instruction, Operation}
use Rattle.words.specs.Record.{most_text, in_place}
use Rattle.definition.specs.Book.{has_text}
use Rattle.definition.specs.Within.{Program, total, present, field, marked, instruction_at, all_below, where', area_bound, entry_point_bound}

-- what 01 knows

abbrev pub is_text : ℕ → Bool
is_text n = ltb 0 n && leb n most_text

abbrev pub is_position : ℕ → Bool
is_position p = in_place p

abbrev pub is_mark : ℕ → Bool
is_mark n = ltb n 2

-- the numbers that `Instruction::opcode` names
abbrev pub opcodes : List ℕ
opcodes = 0x01 ∷ 0x02 ∷ 0x05 ∷ 0x06 ∷ 0x07 ∷ 0x08 ∷ 0x0C ∷ 0x0D ∷ 0x11 ∷ 0x12 ∷ 0x13 ∷ 0x14 ∷ 0x15 ∷ 0x16 ∷ 0x21 ∷ 0x22 ∷ 0x23 ∷ 0x31 ∷ 0x32 ∷ 0x36 ∷ 0x41
    ∷ 0x51 ∷ 0x52 ∷ 0x56 ∷ 0x57 ∷ []

-- operations.rs
abbrev pub is_operation : ℕ → Bool
is_operation n = ltb n 10 || eqb n 257 || eqb n 258

abbrev pub instruction_known : Instruction → Bool
instruction_known x = has_text x.opcode opcodes && where' (eqb x.opcode Operation) (is_operation x.operand)

-- a constant of a kind
abbrev pub value_known : ℕ → ℕ → Bool
value_known kind v =
    leb kind function_kind && where' (eqb kind null_kind) (eqb v 0) && where' (eqb kind boolean_kind) (ltb v 2) && where' (eqb kind text_kind) (is_text v)

-- entry i of an area
abbrev pub entry_known : Program → ℕ → ℕ → Bool
entry_known p area i =
    cond (eqb area code_area) (instruction_known (instruction_at p.areas i) && is_position (field p code_area i 1))
    (cond (eqb area constants_area) (value_known (field p constants_area i 0) (field p constants_area i 1))
    (cond (eqb area functions_area) (is_mark (field p functions_area i instance_word) && is_text (field p functions_area i function_name_word))
    (cond (eqb area context_locals_area)
    (is_text (field p context_locals_area i 1) && where' (eqb (field p context_locals_area i 2) 0) (eqb (field p context_locals_area i 3) 0))
    (cond (eqb area books_area) (is_text (field p books_area i 0))
    -- areas 4, 5, 6 and 8
    (is_text (field p area i 1))))))

-- no key twice: entry i has the key of no entry before it. The words of a key are the first one or two
abbrev pub same_key : Program → ℕ → ℕ → ℕ → Bool
same_key p area i j = eqb (field p area i 0) (field p area j 0) && (eqb area books_area || eqb (field p area i 1) (field p area j 1))

abbrev pub keys_differ : Program → ℕ → Bool
keys_differ p area = all_below (present p area) (λ i. all_below i (λ j. cond (same_key p area i j) false true))

-- the first three constants are null, true and false
abbrev pub is_constant : Program → ℕ → ℕ → ℕ → Bool
is_constant p i kind v = eqb (field p constants_area i 0) kind && eqb (field p constants_area i 1) v

abbrev pub begins_well : Program → Bool
begins_well p = leb 3 (present p constants_area) && is_constant p 0 null_kind 0 && is_constant p 1 boolean_kind 1 && is_constant p 2 boolean_kind 0

-- what is asked of an area as a whole, beside its entries
abbrev pub whole_known : Program → ℕ → Bool
whole_known p area =
    cond (eqb area constants_area) (begins_well p && eqb (marked p.areas (present p constants_area)) p.globals)
    (cond (eqb area functions_area) (entry_point_bound (total p functions_area) p.entry_point)
    (cond (eqb area methods_area || (eqb area public_names_area || eqb area books_area)) (keys_differ p area)
    (cond (eqb area scope_names_area || eqb area breaks_area) (eqb (total p area) 0) true)))

abbrev pub zeros : List ℕ → Bool
zeros [] = true
zeros (x ∷ xs) = cond (eqb x 0) (zeros xs) false

unfoldable pub area_fine : Program → ℕ → Bool
area_fine p area =
    leb (total p area) (entries_in (width_of area) (length (get_or p.areas area [])))
    && area_bound p area && all_below (present p area) (entry_known p area) && whole_known p area
    && zeros (drop (total p area * width_of area) (get_or p.areas area []))

abbrev pub first_fault : Program → List ℕ → Option ℕ
first_fault p [] = none
first_fault p (a ∷ as') = cond (area_fine p a) (first_fault p as') (some a)

-- the first area that fails; area 11 is not looked at
unfoldable pub program_fault : Program → Option ℕ
program_fault p = first_fault p (1 ∷ 2 ∷ 3 ∷ 4 ∷ 5 ∷ 6 ∷ 7 ∷ 8 ∷ 9 ∷ 10 ∷ 12 ∷ [])
