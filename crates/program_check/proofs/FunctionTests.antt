-- Functions over their instructions: what is left of a function inside area 1, one instruction after the other, is what the definition asks of each
-- instruction that the function has. Assumes nothing.
use Prim.Native.Nat.{ℕ, ◌+◌, ◌-◌, ◌≤◌, ◌<◌, min}
use native.Mathlib.Omega.{arith}
use native.Mathlib.Numerals.{add-one}
use mathlib.Core.Path.{◌≡◌, refl, sym, ap, subst, ◌∙◌}
use mathlib.Core.Bool.{Bool, true, false, cond, not, ◌&&◌, ◌||◌}
use mathlib.Core.List.{List}
use lib.ListN.{length}
use lib.Dec.{T, eqb, ltb, leb, leb-zero, leb→le, ltb→lt, le→leb, lt→ltb}
use borrow.Author.Tests.{not-true, not-false}
use Rattle.words.specs.Areas.{width_of, entries_in, entry_field}
use Rattle.words.specs.Opcode.{unword}
use Rattle.words.specs.declared.reply.Totals.{Totals}
use Rattle.definition.specs.Within.{Program, Class, Position, Slot, Read, Pool, ContextSlot, Other, class_of, instruction_at}
use Rattle.definition.specs.Within.{start_of, length_of, locals_of, has_instruction, all_below, bound_by_function}
use Rattle.definition_laws.proofs.Tests.{first_of, second_of, below_at}
use Rattle.program_check.specs.Instructions.{jump_by, locals_by, jump_of, locals_needed}
use Rattle.program_check.specs.Functions.{code_and, keeps_at, range_keeps, keeps_in, function_keeps, functions_keep}
use Rattle.program_check.proofs.Below.{true_by, and_holds, and_true, same_truth, where_in, where_out, every, below_turn, below_no, below_done}

-- the bounds of a function, by the class

slot_is : (n m : ℕ) → leb (n + 1) m ≡ ltb n m
slot_is n m = ap (λ (k : ℕ). leb k m) (add-one n)

read_is : (b : Bool) (n l m : ℕ) → leb 0 l && leb (cond b 0 (n + 1)) m ≡ ltb n m || b
read_is true n l m = rw (leb-zero l, leb-zero m) (go (ltb n m))
  where
    go : (x : Bool) → true ≡ x || true
    go true = refl
    go false = refl
read_is false n l m = rw (leb-zero l, slot_is n m) (go (ltb n m))
  where
    go : (x : Bool) → x ≡ x || false
    go true = refl
    go false = refl

bound_is : (k : Class) (p : Program) (j n : ℕ) → leb (jump_by k n) (length_of p j) && leb (locals_by k n) (locals_of p j) ≡ bound_by_function k p j n
bound_is Position p j n = ap (λ (x : Bool). leb n (length_of p j) && x) (leb-zero (locals_of p j)) ∙ and_true (leb n (length_of p j))
bound_is Slot p j n = ap (λ (x : Bool). x && leb (n + 1) (locals_of p j)) (leb-zero (length_of p j)) ∙ slot_is n (locals_of p j)
bound_is Read p j n = read_is (eqb n 0) n (length_of p j) (locals_of p j)
bound_is Pool p j n = ap (λ (x : Bool). x && leb 0 (locals_of p j)) (leb-zero (length_of p j)) ∙ leb-zero (locals_of p j)
bound_is ContextSlot p j n = ap (λ (x : Bool). x && leb 0 (locals_of p j)) (leb-zero (length_of p j)) ∙ leb-zero (locals_of p j)
bound_is Other p j n = ap (λ (x : Bool). x && leb 0 (locals_of p j)) (leb-zero (length_of p j)) ∙ leb-zero (locals_of p j)

-- so many instructions from one on
module _ (code : List ℕ) (from count size locals k : ℕ) where
  abbrev tested : ℕ → Bool
  tested i = keeps_at code size locals (from + i)

  keep_is : {word jump needed : ℕ} → word ≡ entry_field 2 (from + k) 0 code → jump ≡ jump_of word → needed ≡ locals_needed word
      → leb jump size && leb needed locals ≡ tested k
  keep_is a b c = rw (b, c, a)

  pub range_turn : {word jump needed : ℕ} → T (all_below k tested) → word ≡ entry_field 2 (from + k) 0 code → jump ≡ jump_of word
      → needed ≡ locals_needed word → not (leb jump size && leb needed locals) ≡ false → T (all_below (k + 1) tested)
  range_turn h a b c e = below_turn tested k h (sym (keep_is a b c) ∙ not-false _ e)

  pub range_no : {word jump needed : ℕ} → k < count → word ≡ entry_field 2 (from + k) 0 code → jump ≡ jump_of word → needed ≡ locals_needed word
      → not (leb jump size && leb needed locals) ≡ true → false ≡ range_keeps code from count size locals
  unfolding range_keeps
  range_no l a b c e = below_no tested count k l (sym (keep_is a b c) ∙ not-true _ e)

  pub range_done : k ≤ count → count ≤ k → T (all_below k tested) → true ≡ range_keeps code from count size locals
  unfolding range_keeps
  range_done l m h = below_done tested count k l m h

pub range_fits : (n total start size count : ℕ) → total ≤ entries_in 2 n → start ≤ total → count ≡ min size (total - start) → start + count ≤ n
range_fits n total start size count a b c = omega arith

module _ (code functions : List ℕ) (t : Totals) (j : ℕ) where
  abbrev program : Program
  program = code_and code functions t

  abbrev bound : ℕ → Bool
  bound i = bound_by_function (class_of (instruction_at program.areas i).opcode) program j (instruction_at program.areas i).operand

  at_is : (i : ℕ) → keeps_at code (length_of program j) (locals_of program j) i ≡ bound i
  unfolding jump_of locals_needed unword entry_field
  at_is i = bound_is (class_of (instruction_at program.areas i).opcode) program j (instruction_at program.areas i).operand

  pub function_past : {start : ℕ} → start ≡ entry_field 8 j 4 functions → t.code < start → true ≡ function_keeps program j
  unfolding function_keeps entry_field
  function_past e h = true_by (function_keeps program j) (every t.code (keeps_in program j) (λ i l. where_in (has_instruction program j i) (bound i)
      (λ x. absurd (go
      i l x))))
    where
      go : (i : ℕ) → i < t.code → T (has_instruction program j i) → ⊥
      go i l x =
          let q : start_of program j ≤ i = leb→le (start_of program j) i (first_of (leb (start_of program j) i) (ltb i (start_of program j + length_of program
          j)) x) in
          omega arith

  range_is : (count : ℕ) → start_of program j ≤ t.code → count ≡ min (length_of program j) (t.code - start_of program j)
      → range_keeps code (start_of program j) count (length_of program j) (locals_of program j) ≡ function_keeps program j
  unfolding function_keeps range_keeps
  range_is count h c =
      same_truth (range_keeps code (start_of program j) count (length_of program j) (locals_of program j)) (function_keeps program j) there back
    where
      test : ℕ → Bool
      test k = keeps_at code (length_of program j) (locals_of program j) (start_of program j + k)

      there : T (all_below count test) → T (all_below t.code (keeps_in program j))
      there x = every t.code (keeps_in program j) (λ i l. where_in (has_instruction program j i) (bound i) (λ y. one i l y))
        where
          one : (i : ℕ) → i < t.code → T (has_instruction program j i) → T (bound i)
          one i l y =
              let a : start_of program j ≤ i = leb→le (start_of program j) i
              (first_of (leb (start_of program j) i) (ltb i (start_of program j + length_of program j)) y) in
              let b : i < start_of program j + length_of program j = ltb→lt i (start_of program j + length_of program j)
              (second_of (leb (start_of program j) i) (ltb i (start_of program j + length_of program j)) y) in
              let q : start_of program j + (i - start_of program j) ≡ i = omega arith in
              subst T (ap (λ (m : ℕ). keeps_at code (length_of program j) (locals_of program j) m) q ∙ at_is i)
              (below_at count test x (i - start_of program j) (omega arith))

      back : T (all_below t.code (keeps_in program j)) → T (all_below count test)
      back x = every count test (λ k l. one k l)
        where
          one : (k : ℕ) → k < count → T (test k)
          one k l =
              let y : start_of program j + k < t.code = omega arith in
              subst T (sym (at_is (start_of program j + k)))
              (where_out (has_instruction program j (start_of program j + k)) (bound (start_of program j + k)) (below_at t.code (keeps_in program j) x (start_of
              program j + k) y)
              (and_holds (leb (start_of program j) (start_of program j + k)) (ltb (start_of program j + k) (start_of program j + length_of program j))
              (le→leb (start_of program j) (start_of program j + k) (omega arith))
              (lt→ltb (start_of program j + k) (start_of program j + length_of program j) (omega arith))))

  pub function_in : {locals start size count : ℕ} {r : Bool} → locals ≡ entry_field 8 j 1 functions → start ≡ entry_field 8 j 4 functions
      → size ≡ entry_field 8 j 5 functions → start ≤ t.code → count ≡ min size (t.code - start)
      → r ≡ range_keeps code start count size locals → r ≡ function_keeps program j
  unfolding entry_field
  function_in {locals} {start} {size} {count} a b c h d e =
      let f : start_of program j ≤ t.code = omega arith in
      let g : count ≡ min (length_of program j) (t.code - start_of program j) = rw (b, c) at d in
      e ∙ (rw (a, b, c) (range_is count f g))

module _ (code functions : List ℕ) (t : Totals) (j : ℕ) where
  pub keep_turn : {f : Bool} → T (all_below j (function_keeps (code_and code functions t))) → f ≡ function_keeps (code_and code functions t) j → not f ≡ false
      → T (all_below (j + 1) (function_keeps (code_and code functions t)))
  keep_turn {f} h e s = below_turn (function_keeps (code_and code functions t)) j h (sym e ∙ not-false f s)

  pub keep_no : {held count : ℕ} {f : Bool} → held ≡ entries_in (width_of 3) (length functions) → count ≡ min t.functions held → j < count
      → f ≡ function_keeps (code_and code functions t) j → not f ≡ true → false ≡ functions_keep (code_and code functions t)
  unfolding functions_keep
  keep_no {held} {count} {f} a b l e s =
      below_no (function_keeps (code_and code functions t)) count j l (sym e ∙ not-true f s)
      ∙ ap (λ (n : ℕ). all_below n (function_keeps (code_and code functions t))) (b ∙ ap (λ (n : ℕ). min t.functions n) a)

  pub keep_done : {held count : ℕ} → held ≡ entries_in (width_of 3) (length functions) → count ≡ min t.functions held → j ≤ count → count ≤ j
      → T (all_below j (function_keeps (code_and code functions t))) → true ≡ functions_keep (code_and code functions t)
  unfolding functions_keep
  keep_done {held} {count} a b l m h =
      below_done (function_keeps (code_and code functions t)) count j l m h
      ∙ ap (λ (n : ℕ). all_below n (function_keeps (code_and code functions t))) (b ∙ ap (λ (n : ℕ). min t.functions n) a)
