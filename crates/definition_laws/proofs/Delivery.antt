-- What is delivered fits: every operand is below 2 ^ 56 (`answer_fits`), so demand 3 holds of the words with no premise (`answer_keeps`), and no area has
-- more entries in use than were lent (`areas_fit`); on a fresh context and onto one that stands (`Stands`), which a delivery is again. `Counts` bounds the
-- counts by the notes, row 9 the notes by the areas, and each operand is below its count or small. Assumes nothing.
use Prim.Native.Nat.{ℕ, zero, suc, ◌^◌, ◌≤◌, ◌<◌}
use native.Mathlib.Omega.{arith}
use mathlib.Core.Path.{◌≡◌, refl, ap, subst}
use mathlib.Core.Logic.{inl, inr}
use mathlib.Core.Bool.{Bool}
use mathlib.Core.Option.{none}
use mathlib.Core.List.{List, [], ◌∷◌}
use lib.ListN.{length, get_or, get_or-map}
use Rattle.words.specs.Areas.{widths, entries_in, code_area, constants_area, context_locals_area}
use Rattle.words.specs.Opcode.{nothing}
use Rattle.words.specs.Record.{most_records}
use Rattle.tree.specs.Reading.{documents_of}
use Rattle.definition.specs.Uses.{Use, limit_of, first_over}
use Rattle.definition.specs.Prior.{Prior, nothing_stands}
use Rattle.definition.specs.Book.{Function, Context, new_context, code_of, code_count}
use Rattle.definition.specs.Program.{Entries, tables_of}
use Rattle.definition.specs.Answer.{Delivery, limits_by, limits_of, answer_from, answer}
use Rattle.definition.specs.Within.{All, nil, ◌&◌, Class, Position, Slot, Read, Pool, ContextSlot, Other, class_of}
use Rattle.definition.specs.Within.{logs_of, OnePositionEach, KeepsWithin}
use Rattle.definition_laws.proofs.Safe.{at, Each, Counts, Within, FunctionSafe, ProgramSafe}
use Rattle.definition_laws.proofs.Lists.{all_map}
use Rattle.definition_laws.proofs.Cells.{all_at}
use Rattle.definition_laws.proofs.FunctionCode.{OperandsFit}
use Rattle.definition_laws.proofs.Keeps.{delivered, WordsKeep}
use Rattle.definition_laws.proofs.Answer.{delivering, delivery_safe, delivery_keeps, standing_keeps}
use Rattle.definition_laws.proofs.Limits.{fine_limited}
use Rattle.definition_laws.proofs.Tables.{totals_counted}
use Rattle.definition_laws.proofs.Uses.{greatest_fits}
use Rattle.definition_laws.proofs.Operands.{SmallBy}
use Rattle.definition_laws.proofs.Counts.{KeptFunctions, ContextKept, standing_in, standing_noted, fresh_noted}
use Rattle.definition_laws.proofs.Program.{fresh_safe}

-- no area counts as longer than 2 ^ 56 - 1 entries
limits_capped : (ks ns : List ℕ) (area : ℕ) → limit_of (limits_by ks ns) area < 2 ^ 56
limits_capped [] ns area = omega arith
limits_capped (k ∷ ks) [] area = omega arith
limits_capped (k ∷ ks) (n ∷ ns) zero = omega arith
limits_capped (k ∷ ks) (n ∷ ns) (suc area) = limits_capped ks ns area

-- an area's length in entries
pub limits_at : (ks ns : List ℕ) (area : ℕ) → area < length ks → area < length ns → limit_of (limits_by ks ns) area ≡ entries_in (get_or ks area 0)
    (get_or ns area 0)
limits_at [] ns area h l = absurd (omega arith)
limits_at (k ∷ ks) [] area h l = absurd (omega arith)
limits_at (k ∷ ks) (n ∷ ns) zero h l = refl
limits_at (k ∷ ks) (n ∷ ns) (suc area) h l = limits_at ks ns area (omega arith) (omega arith)

-- an operand below its count, or small
operand_fits : (k : Class) (c : Counts) (i n : ℕ) → c.top < 2 ^ 56 → c.locals < 2 ^ 56 → c.constants < 2 ^ 56 → c.context < 2 ^ 56
    → Within k c i n → SmallBy k most_records n → n < 2 ^ 56
operand_fits Position c i n t l p g w s = omega arith
operand_fits Slot c i n t l p g w s = omega arith
operand_fits Read c i n t l p g (inl w) s = omega arith
operand_fits Read c i n t l p g (inr w) s = omega (arith, w.0)
operand_fits Pool c i n t l p g w s = omega arith
operand_fits ContextSlot c i n t l p g w s = omega arith
operand_fits Other c i n t l p g w s = omega arith

functions_fit : (K C n : ℕ) (fs : List Function) → K < 2 ^ 56 → C < 2 ^ 56 → n < 2 ^ 56 → code_of fs ≤ n → All (λ (f : Function). FunctionSafe K C f.state) fs
    → KeptFunctions fs → All (λ (f : Function). Each (λ i x. x.operand < 2 ^ 56) f.state.code.instructions) fs
functions_fit K C n [] a b c h nil nil = nil
functions_fit K C n (f ∷ fs) a b c h (s & ss) (k & ks) = here & functions_fit K C n fs a b c (omega arith) ss ks
  where
    top : length f.state.code.instructions < 2 ^ 56
    top = omega arith

    here : Each (λ i x. x.operand < 2 ^ 56) f.state.code.instructions
    here i q = operand_fits (class_of (at f.state.code.instructions i).opcode) _ i _ top k.locals a b (s.fits i q) (all_at k.small i nothing q)

-- a context that lies within areas of those lengths, with functions as they are compiled
pub record Stands (lengths : List ℕ) (c : Context) : Type 0 where
  pub safe : ProgramSafe c
  pub functions : KeptFunctions c.program.functions
  pub fits : (area : ℕ) → standing_in c area ≤ limit_of (limits_of lengths) area

stands : {S : ℕ → ℕ} {P : Prior} {us : List Use} (lengths : List ℕ) (r : Context) → ((area : ℕ) → S area ≤ limit_of (limits_of lengths) area)
    → first_over (limits_of lengths) us ≡ none → ContextKept S P 0 r us → ProgramSafe r → Stands lengths r
stands {S} {P} {us} lengths r h e k s = record {
  safe = s;
  functions = k.functions;
  fits = λ area. let x = (k.counted.each area).known in omega (arith, h area, greatest_fits (limits_of lengths) us e area);
}

pub stands_fits : (lengths : List ℕ) (c : Context) → Stands lengths c → OperandsFit c
stands_fits lengths c s =
    let low : (area : ℕ) → standing_in c area < 2 ^ 56 = λ area. let x = s.fits area in omega (arith, limits_capped widths lengths area) in
    functions_fit (length c.pool.constants) c.pool.local_count (code_count c) c.program.functions (low constants_area) (low context_locals_area)
    (low code_area) (omega arith) (all_map (λ f p. p.0) s.safe.parts.functions) s.functions

-- on a fresh context
pub answer_stands : (strict : Bool) (w lengths : List ℕ) (c : Context) → answer strict w lengths ≡ Delivery c → Stands lengths c
unfolding answer
answer_stands strict w lengths c e =
    let d = delivering (new_context strict) w lengths c e in
    stands lengths c (λ area. omega arith) d.within (fresh_noted d.numbers (documents_of w) c (fine_limited w d.fine) strict d.ends)
    (delivery_safe (new_context strict) w lengths c e (fresh_safe strict))

-- and onto one that stands, within the same lengths
pub standing_stands : (w lengths : List ℕ) (c r : Context) → Stands lengths c → answer_from c w lengths ≡ Delivery r → Stands lengths r
standing_stands w lengths c r s e =
    let d = delivering c w lengths r e in
    stands lengths r s.fits d.within (standing_noted d.numbers (documents_of w) r (fine_limited w d.fine) c s.functions d.ends)
    (delivery_safe c w lengths r e s.safe)

-- a delivery has standing before it what stood before; on a fresh context nothing
pub standing_prior : (w lengths : List ℕ) (c r : Context) → Stands lengths c → answer_from c w lengths ≡ Delivery r → r.prior ≡ c.prior
standing_prior w lengths c r s e =
    let d = delivering c w lengths r e in
    (standing_noted d.numbers (documents_of w) r (fine_limited w d.fine) c s.functions d.ends).prior

pub answer_prior : (strict : Bool) (w lengths : List ℕ) (c : Context) → answer strict w lengths ≡ Delivery c → c.prior ≡ nothing_stands
unfolding answer
answer_prior strict w lengths c e =
    let d = delivering (new_context strict) w lengths c e in
    (fresh_noted d.numbers (documents_of w) c (fine_limited w d.fine) strict d.ends).prior

-- every operand that is delivered is below 2 ^ 56
pub answer_fits : (strict : Bool) (w lengths : List ℕ) (c : Context) → answer strict w lengths ≡ Delivery c → OperandsFit c
answer_fits strict w lengths c e = stands_fits lengths c (answer_stands strict w lengths c e)

pub standing_fits : (w lengths : List ℕ) (c r : Context) → Stands lengths c → answer_from c w lengths ≡ Delivery r → OperandsFit r
standing_fits w lengths c r s e = stands_fits lengths r (standing_stands w lengths c r s e)

-- demand 3 of the words, with no premise on operands
pub answer_keeps : (strict : Bool) (w lengths : List ℕ) (c : Context) → length lengths ≡ 13 → answer strict w lengths ≡ Delivery c
    → KeepsWithin (delivered lengths c) 0 (logs_of c.program.functions)
answer_keeps strict w lengths c n e =
    subst (λ (p : Prior). KeepsWithin (delivered lengths c) (length p.functions) (logs_of c.program.functions)) (answer_prior strict w lengths c e)
    (delivery_keeps strict w lengths c n e (answer_fits strict w lengths c e))

pub standing_answer_keeps : (w lengths : List ℕ) (c r : Context) → length lengths ≡ 13 → Stands lengths c → answer_from c w lengths ≡ Delivery r
    → WordsKeep lengths r
standing_answer_keeps w lengths c r n s e = standing_keeps c w lengths r n e s.safe (standing_fits w lengths c r s e)

-- every function of a delivery has exactly one position for each instruction
pub one_position_each : (strict : Bool) (w lengths : List ℕ) (c : Context) → answer strict w lengths ≡ Delivery c → OnePositionEach c.program.functions
one_position_each strict w lengths c e = all_map (λ f s. s.0.sized) (answer_stands strict w lengths c e).safe.parts.functions

-- the entries of each area are within what was lent
pub stands_area : (lengths : List ℕ) (c : Context) → Stands lengths c → (area : ℕ) → length (get_or (tables_of c) area []) ≤ limit_of (limits_of lengths) area
stands_area lengths c s area =
    let x = get_or-map (λ (es : Entries). length es) (tables_of c) area [] in
    let y = ap (λ l. get_or l area 0) (totals_counted c s.safe) in
    omega (arith, s.fits area)

pub areas_fit : (strict : Bool) (w lengths : List ℕ) (c : Context) → answer strict w lengths ≡ Delivery c → (area : ℕ)
    → length (get_or (tables_of c) area []) ≤ limit_of (limits_of lengths) area
areas_fit strict w lengths c e = stands_area lengths c (answer_stands strict w lengths c e)

pub standing_areas_fit : (w lengths : List ℕ) (c r : Context) → Stands lengths c → answer_from c w lengths ≡ Delivery r → (area : ℕ)
    → length (get_or (tables_of r) area []) ≤ limit_of (limits_of lengths) area
standing_areas_fit w lengths c r s e = stands_area lengths r (standing_stands w lengths c r s e)
