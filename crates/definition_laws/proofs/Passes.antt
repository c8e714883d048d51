-- What is delivered passes 2026-01's check again: `answer_passes` on a fresh context, `standing_answer_passes` onto any context that stands and in which
-- everything is known, whose delivery is such a context again. The bounds are demand 3's (`WordsKeep`), what is known is `ContextKnown`'s, the words after the
-- entries are zeros. Assumes nothing.
use Prim.Native.Nat.{ℕ, zero, suc, ◌+◌, ◌-◌, ◌*◌, ◌/◌, ◌^◌, ◌≤◌, ◌<◌}
use native.Mathlib.Nat.{mul-le-mul_right, div-mul-le_self}
use native.Mathlib.Omega.{arith}
use mathlib.Core.Path.{◌≡◌, refl, sym, ap, subst, ◌∙◌}
use mathlib.Core.Bool.{Bool, true, false, cond, ◌&&◌}
use mathlib.Core.Option.{Option, none, some}
use mathlib.Core.List.{List, [], ◌∷◌, map}
use lib.ListN.{length, get_or, drop, replicate, length-append, length-replicate, get_or-map}
use lib.Seq.{drop-append_seam}
use lib.Dec.{T, eqb, eqb→eq}
use Rattle.words.specs.Areas.{widths, width_of, entries_in, code_area, constants_area, functions_area, models_area, properties_area, methods_area}
use Rattle.words.specs.Areas.{context_locals_area, public_names_area, scope_names_area, breaks_area, books_area, instance_word, function_name_word}
use Rattle.words.specs.Object.{Constant, constant_of, null_kind, boolean_kind}
use Rattle.words.specs.Opcode.{Instruction, unword}
use Rattle.words.proofs.Codes.{unword_word}
use Rattle.definition.specs.FunctionState.{Entry, find_name}
use Rattle.definition.specs.Book.{Function, Model, Method, Assembly, Context, new_context, has_text}
use Rattle.definition.specs.Program.{Entries, bit, entries_from, code_entries, function_code, constant_entry, function_entries, model_entry}
use Rattle.definition.specs.Program.{property_entries, model_properties, method_entry, local_words, local_entry, public_entries, assembly_publics, book_entry}
use Rattle.definition.specs.Program.{code_table, constant_table, function_table, model_table, property_table, method_table, local_table, public_table}
use Rattle.definition.specs.Program.{book_table}
use Rattle.definition.specs.Program.{tables_of, flat, filled, filled_all}
use Rattle.definition.specs.Answer.{Delivery, answer_from, answer, areas_of, reply_of}
use Rattle.definition.specs.Within.{All, nil, ◌&◌, Program, total, present, field, marked, all_below, area_bound}
use Rattle.definition.specs.Within.{entry_point_bound}
use Rattle.definition.specs.ProgramCheck.{is_mark, instruction_known, value_known, entry_known, same_key, keys_differ, is_constant}
use Rattle.definition.specs.ProgramCheck.{whole_known, zeros, area_fine, first_fault, program_fault}
use Rattle.definition.specs.SharedOnce.{numbered}
use Rattle.definition_laws.proofs.Safe.{Each}
use Rattle.definition_laws.proofs.Lists.{all_append}
use Rattle.definition_laws.proofs.Tests.{Test, both, where_holds, at_most, equal, passes, all_below_lem, first_of, second_of}
use Rattle.definition_laws.proofs.Cells.{Wides, all_at, flat_length, filled_at, wide_at, wides_length, table_word, entries_all, single_length, single_at}
use Rattle.definition_laws.proofs.FunctionCode.{OperandsFit}
use Rattle.definition_laws.proofs.Keeps.{Holds, tables_wide, delivered, WordsKeep, program_keeps}
use Rattle.definition_laws.proofs.Delivery.{limits_at, Stands, stands_fits, stands_area, answer_stands, standing_stands}
use Rattle.definition_laws.proofs.Program.{fresh_safe}
use Rattle.definition_laws.proofs.Ranges.{IsText, IsPosition}
use Rattle.definition_laws.proofs.KnownSteps.{KnownInstruction}
use Rattle.definition_laws.proofs.KnownBooks.{KnownFunction, TextNames}
use Rattle.definition_laws.proofs.KnownContext.{ContextKnown, standing_known, fresh_known}
use Rattle.definition_laws.proofs.DistinctKeys.{Distinct, distinct_at, distinct_single, OtherKey, OtherFile}

-- every entry of a table, by area

abbrev CodeKnown : List ℕ → Type 0
CodeKnown e = Test (instruction_known (unword (get_or e 0 0))) × IsPosition (get_or e 1 0)

abbrev ConstantKnown : List ℕ → Type 0
ConstantKnown e = Test (value_known (get_or e 0 0) (get_or e 1 0))

abbrev FunctionEntryKnown : List ℕ → Type 0
FunctionEntryKnown e = Test (is_mark (get_or e instance_word 0)) × IsText (get_or e function_name_word 0)

abbrev LocalKnown : List ℕ → Type 0
LocalKnown e = IsText (get_or e 1 0) × (get_or e 2 0 ≡ 0 → get_or e 3 0 ≡ 0)

abbrev NameKnown : List ℕ → Type 0
NameKnown e = IsText (get_or e 1 0)

abbrev BookKnown : List ℕ → Type 0
BookKnown e = IsText (get_or e 0 0)

code_entries_lem : (xs : List Instruction) (ps : List ℕ) → All KnownInstruction xs → All IsPosition ps → Each (λ i x. x.operand < 2 ^ 56) xs
    → All CodeKnown (code_entries xs ps)
code_entries_lem [] ps nil qs fit = nil
code_entries_lem (x ∷ xs) [] (k & ks) nil fit = nil
code_entries_lem (x ∷ xs) (p ∷ ps) (k & ks) (q & qs) fit =
    (subst KnownInstruction (sym (unword_word x (fit 0 (omega arith)))) k, q) & code_entries_lem xs ps ks qs (λ i h. fit (suc i) (omega arith))

functions_code : (i : ℕ) (fs : List Function) → All KnownFunction fs
    → All (λ (f : Function). Each (λ j x. x.operand < 2 ^ 56) f.state.code.instructions) fs → All CodeKnown (entries_from function_code i fs)
functions_code i [] nil nil = nil
functions_code i (f ∷ fs) (k & ks) (h & hs) =
    all_append (code_entries_lem f.state.code.instructions f.state.code.positions k.code.instructions k.code.positions h)
    (functions_code (i + 1) fs ks hs)

bit_mark : (b : Bool) → Test (is_mark (bit b))
bit_mark true = passes
bit_mark false = passes

function_entries_lem : (start : ℕ) (fs : List Function) → All KnownFunction fs → All FunctionEntryKnown (function_entries start fs)
function_entries_lem start [] nil = nil
function_entries_lem start (f ∷ fs) (k & ks) = (bit_mark f.state.header.is_instance, k.name) & function_entries_lem (start + length f.state.code.instructions)
    fs ks

property_entries_lem : (i : ℕ) (ns : List ℕ) → All IsText ns → All NameKnown (property_entries i ns)
property_entries_lem i [] nil = nil
property_entries_lem i (n ∷ ns) (p & ps) = p & property_entries_lem i ns ps

local_entry_lem : (o : Option ℕ) (file name : ℕ) → IsText name → LocalKnown (local_words o file name)
local_entry_lem none file name h = (h, λ e. refl)
local_entry_lem (some c) file name h = (h, λ e. absurd (let z : ◌≡◌ {A = ℕ} 1 0 = e in omega (arith, z)))

public_entries_lem : (file : ℕ) (es : List Entry) → TextNames es → All NameKnown (public_entries file es)
public_entries_lem file [] nil = nil
public_entries_lem file (e ∷ es) (p & ps) = p & public_entries_lem file es ps

module _ (c : Context) (k : ContextKnown c) where
  code_table_lem : OperandsFit c → All CodeKnown (code_table c)
  code_table_lem fit = all_append k.prior.code (functions_code 0 c.program.functions k.parts.functions fit)

  constant_table_lem : All ConstantKnown (constant_table c)
  constant_table_lem = entries_all (constant_entry c.pool.globals) (length c.pool.constants) 0 (λ j x h q. q & nil) (omega arith) k.parts.constants

  function_table_lem : All FunctionEntryKnown (function_table c)
  function_table_lem = all_append k.prior.functions (function_entries_lem (length c.prior.code) c.program.functions k.parts.functions)

  model_table_lem : All NameKnown (model_table c)
  model_table_lem = all_append k.prior.models
      (entries_all model_entry (length c.program.models) 0 (λ j (m : Model) h q. q.name & nil) (omega arith) k.parts.models)

  property_table_lem : All NameKnown (property_table c)
  property_table_lem = all_append k.prior.properties
      (entries_all model_properties (length c.prior.models + length c.program.models) (length c.prior.models)
      (λ j (m : Model) h q. property_entries_lem j m.properties q.properties) (omega arith) k.parts.models)

  method_table_lem : All NameKnown (method_table c)
  method_table_lem = entries_all method_entry (length c.program.methods) 0 (λ j (m : Method) h q. q & nil) (omega arith) k.parts.methods

  local_table_lem : All LocalKnown (local_table c)
  local_table_lem = all_append k.prior.locals
      (entries_all (local_entry c.locals.values) (length c.prior.locals + length c.locals.names) (length c.prior.locals)
      (λ j (e : Entry) h q. local_entry_lem (find_name j c.locals.values) e.index e.name q & nil) (omega arith) k.parts.names)

  public_table_lem : All NameKnown (public_table c)
  public_table_lem = all_append k.prior.publics
      (entries_all assembly_publics (length c.assemblies) 0 (λ j (a : Assembly) h q. public_entries_lem a.index a.publics q.publics)
      (omega arith) k.assemblies)

  book_table_lem : All BookKnown (book_table c)
  book_table_lem = all_append k.prior.books
      (entries_all book_entry (length c.assemblies) 0 (λ j (a : Assembly) h q. q.filename & nil) (omega arith) k.assemblies)

  method_keys : Distinct OtherKey (method_table c)
  method_keys = distinct_single OtherKey (λ i (m : Method). m.model ∷ m.name ∷ m.function ∷ []) 0
      (λ i j x y h. record { differ = λ a b. h.differ a b }) k.parts.distinct

-- a program that holds a context's entries, fits its areas, keeps within itself, and is zeros beyond its entries

refuted : (b : Bool) → (T b → ⊥) → Test (cond b false true)
refuted true f = absurd (f tt)
refuted false f = passes

no_fault : (p : Program) {areas : List ℕ} → All (λ (a : ℕ). Test (area_fine p a)) areas → first_fault p areas ≡ none
no_fault p nil = refl
no_fault p (◌&◌ {x = a} {xs = l} h hs) = go (area_fine p a) h.holds (no_fault p hs)
  where
    go : (b : Bool) → T b → first_fault p l ≡ none → cond b (first_fault p l) (some a) ≡ none
    go true t r = r
    go false t r = absurd t

module _ (p : Program) (c : Context) (k : ContextKnown c) (operands : OperandsFit c)
    (holds : (area : ℕ) → Holds p.areas p.totals area (get_or (tables_of c) area []))
    (fits : (area : ℕ) → area < 13 → total p area ≤ entries_in (width_of area) (length (get_or p.areas area [])))
    (beyond : (area : ℕ) → area < 13 → Test (zeros (drop (total p area * width_of area) (get_or p.areas area []))))
    (bounds : (area : ℕ) → T (area_bound p area))
    (entry : T (entry_point_bound (total p functions_area) p.entry_point))
    (globals : p.globals ≡ marked p.areas (total p constants_area)) where
  present_total : (area : ℕ) → area < 13 → present p area ≡ total p area
  present_total area h = let x = fits area h in omega (arith, x)

  -- the words of entry i
  module _ (area : ℕ) (es : Entries) (H : Holds p.areas p.totals area es) (in-range : area < 13) where
    each_entry : {Q : List ℕ → Type 0} → All Q es → ((i : ℕ) → i < length es → Q (get_or es i []) → Test (entry_known p area i))
        → Test (all_below (present p area) (entry_known p area))
    each_entry qs f = all_below_lem (present p area) (entry_known p area)
        (λ i h. let l : i < length es = omega (arith, h, present_total area in-range, H.total) in f i l (all_at qs i [] l))

    area_fine_lem : Test (all_below (present p area) (entry_known p area)) → Test (whole_known p area) → Test (area_fine p area)
    unfolding area_fine
    area_fine_lem e w = both (both (both (both (at_most (total p area) (entries_in (width_of area) (length (get_or p.areas area []))) (fits area in-range))
        (record { holds = bounds area })) e) w) (beyond area in-range)

    -- no two entries before the total have the same key
    key_test : (R : List ℕ → List ℕ → Type 0) → Distinct R es
        → ((i j : ℕ) → i < length es → j < length es → R (get_or es j []) (get_or es i []) → T (same_key p area i j) → ⊥) → Test (keys_differ p area)
    key_test R d f = all_below_lem (present p area) (λ i. all_below i (λ j. cond (same_key p area i j) false true))
        (λ i h. all_below_lem i (λ j. cond (same_key p area i j) false true)
        (λ j l.
        let a : i < length es = omega (arith, h, present_total area in-range, H.total) in
        refuted (same_key p area i j) (f i j a (omega arith) (distinct_at d j i [] l a))))

  name_entry_lem : (area : ℕ) (es : Entries) → Holds p.areas p.totals area es → 1 < width_of area → (i : ℕ) → i < length es → IsText
      (get_or (get_or es i []) 1 0)
      → IsText (field p area i 1)
  name_entry_lem area es H wide i h q = subst IsText (sym (H.cells i 1 h wide)) q

  -- of areas 6 and 8 the first two words
  pair_differs : (area : ℕ) (es : Entries) → Holds p.areas p.totals area es → 1 < width_of area → (i j : ℕ) → i < length es → j < length es
      → OtherKey (get_or es j []) (get_or es i []) → T (eqb (field p area i 0) (field p area j 0) && eqb (field p area i 1) (field p area j 1)) → ⊥
  pair_differs area es H wide i j a b d t =
      let u = eqb (field p area i 0) (field p area j 0) in
      let v = eqb (field p area i 1) (field p area j 1) in
      let x = eqb→eq (field p area i 0) (field p area j 0) (first_of u v t) in
      let y = eqb→eq (field p area i 1) (field p area j 1) (second_of u v t) in
      d.differ (sym (H.cells j 0 b (omega arith)) ∙ sym x ∙ H.cells i 0 a (omega arith)) (sym (H.cells j 1 b wide) ∙ sym y ∙ H.cells i 1 a wide)

  code_fine : Test (area_fine p code_area)
  unfolding tables_of
  code_fine =
      let H : Holds p.areas p.totals code_area (code_table c) = holds code_area in
      area_fine_lem code_area (code_table c) H (omega arith) (each_entry code_area (code_table c) H (omega arith) (code_table_lem c k operands)
      (λ i h q. both (subst (λ n. Test (instruction_known (unword n))) (sym (H.cells i 0 h (omega arith))) q.0)
      (subst IsPosition (sym (H.cells i 1 h (omega arith))) q.1))) passes

  -- null, true and false, and the marks
  constants_whole : Holds p.areas p.totals constants_area (constant_table c) → Test (whole_known p constants_area)
  constants_whole H =
      both (both (both (both (at_most 3 (present p constants_area) (omega (arith, present_total constants_area (omega arith), H.total, long, k.begins.long)))
      (first 0 (constant_of null_kind 0) (omega arith) k.begins.null)) (first 1 (constant_of boolean_kind 1) (omega arith) k.begins.yes'))
      (first 2 (constant_of boolean_kind 0) (omega arith) k.begins.no'))
      (equal (ap (marked p.areas) (present_total constants_area (omega arith)) ∙ sym globals))
    where
      cs : List Constant
      cs = c.pool.constants

      words : ℕ → Constant → List ℕ
      words i x = x.kind ∷ x.value ∷ bit (has_text i c.pool.globals) ∷ []

      long : length (constant_table c) ≡ length cs
      long = single_length words 0 cs

      first : (i : ℕ) (x : Constant) → i < 3 → numbered cs i ≡ x → Test (is_constant p i x.kind x.value)
      first i x h e =
          let l : i < length cs = omega (arith, h, k.begins.long) in
          let there : get_or (constant_table c) i [] ≡ words (0 + i) (numbered cs i) = single_at words 0 cs i (constant_of null_kind 0) l in
          let m : i < length (constant_table c) = omega (arith, l, long) in
          both (equal (H.cells i 0 m (omega arith) ∙ ap (λ (y : List ℕ). get_or y 0 0) there ∙ ap (λ (y : Constant). y.kind) e))
          (equal (H.cells i 1 m (omega arith) ∙ ap (λ (y : List ℕ). get_or y 1 0) there ∙ ap (λ (y : Constant). y.value) e))

  constants_fine : Test (area_fine p constants_area)
  unfolding tables_of
  constants_fine =
      let H : Holds p.areas p.totals constants_area (constant_table c) = holds constants_area in
      area_fine_lem constants_area (constant_table c) H (omega arith) (each_entry constants_area (constant_table c) H (omega arith) (constant_table_lem c k)
      (λ i h q. subst (λ n. Test (value_known n (field p constants_area i 1))) (sym (H.cells i 0 h (omega arith)))
      (subst (λ n. Test (value_known (get_or (get_or (constant_table c) i []) 0 0) n)) (sym (H.cells i 1 h (omega arith))) q))) (constants_whole H)

  functions_fine : Test (area_fine p functions_area)
  unfolding tables_of
  functions_fine =
      let H : Holds p.areas p.totals functions_area (function_table c) = holds functions_area in
      area_fine_lem functions_area (function_table c) H (omega arith) (each_entry functions_area (function_table c) H (omega arith) (function_table_lem c k)
      (λ i h q. both (subst (λ n. Test (is_mark n)) (sym (H.cells i instance_word h (omega arith))) q.0)
      (subst IsText (sym (H.cells i function_name_word h (omega arith))) q.1))) (record { holds = entry })

  models_fine : Test (area_fine p models_area)
  unfolding tables_of
  models_fine =
      let H : Holds p.areas p.totals models_area (model_table c) = holds models_area in
      area_fine_lem models_area (model_table c) H (omega arith) (each_entry models_area (model_table c) H (omega arith) (model_table_lem c k)
      (λ i h q. name_entry_lem models_area (model_table c) H (omega arith) i h q)) passes

  properties_fine : Test (area_fine p properties_area)
  unfolding tables_of
  properties_fine =
      let H : Holds p.areas p.totals properties_area (property_table c) = holds properties_area in
      area_fine_lem properties_area (property_table c) H (omega arith) (each_entry properties_area (property_table c) H (omega arith) (property_table_lem c k)
      (λ i h q. name_entry_lem properties_area (property_table c) H (omega arith) i h q)) passes

  methods_fine : Test (area_fine p methods_area)
  unfolding tables_of
  methods_fine =
      let H : Holds p.areas p.totals methods_area (method_table c) = holds methods_area in
      area_fine_lem methods_area (method_table c) H (omega arith) (each_entry methods_area (method_table c) H (omega arith) (method_table_lem c k)
      (λ i h q. name_entry_lem methods_area (method_table c) H (omega arith) i h q))
      (key_test methods_area (method_table c) H (omega arith) OtherKey (method_keys c k)
      (λ i j a b d t. pair_differs methods_area (method_table c) H (omega arith) i j a b d t))

  locals_fine : Test (area_fine p context_locals_area)
  unfolding tables_of
  locals_fine =
      let H : Holds p.areas p.totals context_locals_area (local_table c) = holds context_locals_area in
      area_fine_lem context_locals_area (local_table c) H (omega arith) (each_entry context_locals_area (local_table c) H (omega arith) (local_table_lem c k)
      (λ i h q. both (subst IsText (sym (H.cells i 1 h (omega arith))) q.0) (where_holds (eqb (field p context_locals_area i 2) 0)
      (λ z. equal (H.cells i 3 h (omega arith)
      ∙ q.1 (sym (H.cells i 2 h (omega arith)) ∙ eqb→eq (field p context_locals_area i 2) 0 z)))))) passes

  publics_fine : Test (area_fine p public_names_area)
  unfolding tables_of
  publics_fine =
      let H : Holds p.areas p.totals public_names_area (public_table c) = holds public_names_area in
      area_fine_lem public_names_area (public_table c) H (omega arith) (each_entry public_names_area (public_table c) H (omega arith) (public_table_lem c k)
      (λ i h q. name_entry_lem public_names_area (public_table c) H (omega arith) i h q))
      (key_test public_names_area (public_table c) H (omega arith) OtherKey k.publics
      (λ i j a b d t. pair_differs public_names_area (public_table c) H (omega arith) i j a b d t))

  -- areas 9 and 10 are empty
  empty_fine : (area : ℕ) → area < 13 → Holds p.areas p.totals area [] → Test (whole_known p area) → Test (area_fine p area)
  empty_fine area h H w = area_fine_lem area [] H h
      (all_below_lem (present p area) (entry_known p area) (λ i l. absurd (omega (arith, l, present_total area h, H.total)))) w

  scopes_fine : Test (area_fine p scope_names_area)
  unfolding tables_of
  scopes_fine =
      let H : Holds p.areas p.totals scope_names_area [] = holds scope_names_area in
      empty_fine scope_names_area (omega arith) H (equal H.total)

  breaks_fine : Test (area_fine p breaks_area)
  unfolding tables_of
  breaks_fine =
      let H : Holds p.areas p.totals breaks_area [] = holds breaks_area in
      empty_fine breaks_area (omega arith) H (equal H.total)

  books_fine : Test (area_fine p books_area)
  unfolding tables_of
  books_fine =
      let H : Holds p.areas p.totals books_area (book_table c) = holds books_area in
      area_fine_lem books_area (book_table c) H (omega arith) (each_entry books_area (book_table c) H (omega arith) (book_table_lem c k)
      (λ i h q. subst IsText (sym (H.cells i 0 h (omega arith))) q))
      (key_test books_area (book_table c) H (omega arith) OtherFile k.books
      (λ i j a b d t. d.differ (sym (H.cells j 0 b (omega arith))
      ∙ sym (eqb→eq (field p books_area i 0) (field p books_area j 0) (first_of (eqb (field p books_area i 0) (field p books_area j 0)) true t))
      ∙ H.cells i 0 a (omega arith))))

  program_passes : program_fault p ≡ none
  unfolding program_fault
  program_passes = no_fault p
      (code_fine & constants_fine & functions_fine & models_fine & properties_fine & methods_fine & locals_fine & publics_fine & scopes_fine & breaks_fine
      & books_fine & nil)

-- the words of a delivery

zeros_only : (n : ℕ) → Test (zeros (replicate n 0))
zeros_only zero = passes
zeros_only (suc n) = zeros_only n

-- entries that fit an area of n words leave it n words long
filled_length : (width n : ℕ) (es : Entries) → length (flat es) ≡ length es * width → length es ≤ entries_in width n → length (filled n es) ≡ n
filled_length width n es e h =
    let q : length es ≤ n / width = omega arith in
    let x : length es * width ≤ n = omega (arith, mul-le-mul_right width q, div-mul-le_self n width) in
    omega (arith, length-append (flat es) (replicate (n - length (flat es)) 0), length-replicate {A = ℕ} (n - length (flat es)) 0, e, x)

-- a context that stands, and in which everything is known, is written into words that pass
pub context_passes : (lengths : List ℕ) (c : Context) → length lengths ≡ 13 → Stands lengths c → ContextKnown c → program_fault (delivered lengths c) ≡ none
unfolding areas_of reply_of
context_passes lengths c n s k =
    program_passes (delivered lengths c) c k (stands_fits lengths c s) holds fits beyond kept.bounds kept.entry kept.globals_counted
  where
    kept : WordsKeep lengths c
    kept = program_keeps lengths c n s.safe (stands_fits lengths c s)

    wide : Wides widths (tables_of c)
    wide = tables_wide c s.safe.wide

    tables : ℕ → Entries
    tables area = get_or (tables_of c) area []

    total_is : (area : ℕ) → get_or (map (λ (es : Entries). length es) (tables_of c)) area 0 ≡ length (tables area)
    total_is area = get_or-map (λ (es : Entries). length es) (tables_of c) area []

    holds : (area : ℕ) → Holds (filled_all lengths (tables_of c)) (map (λ (es : Entries). length es) (tables_of c)) area (tables area)
    holds area = record { total = total_is area; cells = λ i j h q. table_word lengths wide (omega arith) area i j h q }

    flat_is : (area : ℕ) → length (flat (tables area)) ≡ length (tables area) * width_of area
    flat_is area = flat_length (width_of area) (wide_at wide area)

    area_is : (area : ℕ) → area < 13 → get_or (filled_all lengths (tables_of c)) area [] ≡ filled (get_or lengths area 0) (tables area)
    area_is area h =
        let many : 13 ≡ length (tables_of c) = wides_length wide in
        filled_at lengths (tables_of c) area (omega arith) (omega (arith, h, many))

    within : (area : ℕ) → area < 13 → length (tables area) ≤ entries_in (width_of area) (get_or lengths area 0)
    within area h = subst (λ m. length (tables area) ≤ m) (limits_at widths lengths area h (omega arith)) (stands_area lengths c s area)

    fits : (area : ℕ) → area < 13 → get_or (map (λ (es : Entries). length es) (tables_of c)) area 0
        ≤ entries_in (width_of area) (length (get_or (filled_all lengths (tables_of c)) area []))
    fits area h =
        rw (total_is area, area_is area h, filled_length (width_of area) (get_or lengths area 0) (tables area) (flat_is area) (within area h)) (within area h)

    beyond : (area : ℕ) → area < 13
        → Test (zeros (drop (get_or (map (λ (es : Entries). length es) (tables_of c)) area 0 * width_of area)
        (get_or (filled_all lengths (tables_of c)) area [])))
    beyond area h =
        let n = get_or lengths area 0 - length (flat (tables area)) in
        rw (total_is area, area_is area h, ← flat_is area, drop-append_seam (flat (tables area)) (replicate n 0)) (zeros_only n)

-- onto a context that stands and in which everything is known, and that is so again
pub standing_answer_passes : (w lengths : List ℕ) (c r : Context) → length lengths ≡ 13 → Stands lengths c → ContextKnown c
    → answer_from c w lengths ≡ Delivery r → program_fault (delivered lengths r) ≡ none
standing_answer_passes w lengths c r n s k e =
    context_passes lengths r n (standing_stands w lengths c r s e) (standing_known w lengths c r s.safe k e)

-- and on a fresh one
pub answer_known : (strict : Bool) (w lengths : List ℕ) (c : Context) → answer strict w lengths ≡ Delivery c → ContextKnown c
unfolding answer
answer_known strict w lengths c e = standing_known w lengths (new_context strict) c (fresh_safe strict) (fresh_known strict) e

pub answer_passes : (strict : Bool) (w lengths : List ℕ) (c : Context) → length lengths ≡ 13 → answer strict w lengths ≡ Delivery c
    → program_fault (delivered lengths c) ≡ none
answer_passes strict w lengths c n e = context_passes lengths c n (answer_stands strict w lengths c e) (answer_known strict w lengths c e)
