-- Areas as a whole: the parts that the code tests are the definition's area, and the first area that fails is the answer. Assumes nothing.
use Prim.Native.Nat.{ℕ, zero, suc, ◌+◌, ◌*◌, ◌≤◌, ◌<◌}
use native.Mathlib.Omega.{arith}
use mathlib.Core.Path.{◌≡◌, refl, sym, ap, subst, ◌∙◌}
use mathlib.Core.Bool.{Bool, true, false, cond, ◌&&◌}
use mathlib.Core.Logic.{◌⊎◌, inl, inr}
use native.Mathlib.Decide.{ℕ_discrete}
use mathlib.Core.List.{List, [], ◌∷◌}
use lib.ListN.{length, get_or, drop}
use lib.Dec.{T, eqb, leb, leb→le, eqb→eq}
use Rattle.memory.specs.Layout.{part}
use Rattle.words.specs.Reply.{total_of}
use Rattle.words.specs.Areas.{width_of, entries_in, code_area, entry_field, entry_word}
use Rattle.words.specs.declared.reply.Totals.{Totals}
use Rattle.definition.specs.Promise.{areas}
use Rattle.definition.specs.Within.{Areas, Program, Class, Position, Slot, Read, Pool}
use Rattle.definition.specs.Within.{ContextSlot, Other, class_of, total, present, cell, instruction_at, has_instruction}
use Rattle.definition.specs.Within.{all_below, where', marked, bound_by_function, area_bound, entry_bound}
use Rattle.definition.specs.ProgramCheck.{entry_known, whole_known, zeros, area_fine, same_key, begins_well}
use Rattle.definition_laws.proofs.Tests.{first_of, second_of, below_at}
use Rattle.program_check.specs.Parts.{lent, alone, by_totals, entry_fine, entries_fine}
use Rattle.program_check.specs.Keys.{differs_from, fresh_by, keys_by}
use Rattle.program_check.specs.Functions.{code_and, keeps_in, function_keeps, functions_keep}
use Rattle.program_check.specs.HasEntries.{IsChecked}
use Rattle.program_check.specs.OneMemory.{parts_of}
use Rattle.program_check.proofs.InstructionTests.{totals_same}
use Rattle.program_check.proofs.Below.{holds, and_holds, and_true, same_truth, min_is, every, below_same}

five : (a b c d e : Bool) → T (a && b && c && d && e) → T a × T b × T c × T d × T e
five a b c d e t =
    let u = first_of (a && b && c && d) e t in
    let v = first_of (a && b && c) d u in
    let x = first_of (a && b) c v in
    (first_of a b x, second_of a b x, second_of (a && b) c v, second_of (a && b && c) d u, second_of (a && b && c && d) e t)

join_five : (a b c d e : Bool) → T a → T b → T c → T d → T e → T (a && b && c && d && e)
join_five a b c d e p q r s t =
    and_holds (a && b && c && d) e (and_holds (a && b && c) d (and_holds (a && b) c (and_holds a b p q) r) s) t

module _ (p : Program) (a : ℕ) where
  abbrev room : Bool
  room = leb (total p a) (entries_in (width_of a) (length (get_or p.areas a [])))

  abbrev tail : Bool
  tail = zeros (drop (total p a * width_of a) (get_or p.areas a []))

  abbrev bounds : Bool
  bounds = all_below (present p a) (entry_bound p a)

  abbrev known : Bool
  known = all_below (present p a) (entry_known p a)

  abbrev fine : Bool
  fine = all_below (total p a) (entry_fine p a)

  present_is : T room → present p a ≡ total p a
  present_is t = min_is (total p a) (entries_in (width_of a) (length (get_or p.areas a []))) t

  pub room_of : entries_fine p a ≡ true → T room
  unfolding entries_fine
  room_of e = first_of room tail (first_of (room && tail) fine (holds e))

  -- an area but for area 1
  area_is : eqb a code_area ≡ false → area_fine p a ≡ entries_fine p a && whole_known p a
  unfolding area_fine area_bound entries_fine
  area_is e = same_truth (area_fine p a) (entries_fine p a && whole_known p a) there back
    where
      there : T (room && bounds && known && whole_known p a && tail) → T (room && tail && fine && whole_known p a)
      there t =
          let s = five room bounds known (whole_known p a) tail t in
          and_holds (room && tail && fine) (whole_known p a) (and_holds (room && tail) fine (and_holds room tail s.0 s.4)
          (every (total p a) (entry_fine p a) (λ i l.
          let m : i < present p a = subst (λ (n : ℕ). i < n) (sym (present_is s.0)) l in
          and_holds (cond (eqb a code_area) (by_totals p (instruction_at p.areas i)) (entry_bound p a i)) (entry_known p a i)
          (subst (λ (x : Bool). T (cond x (by_totals p (instruction_at p.areas i)) (entry_bound p a i))) (sym e)
          (below_at (present p a) (entry_bound p a) s.1 i m)) (below_at (present p a) (entry_known p a) s.2 i m)))) s.3

      back : T (room && tail && fine && whole_known p a) → T (room && bounds && known && whole_known p a && tail)
      back t =
          let u = first_of (room && tail && fine) (whole_known p a) t in
          let v = first_of (room && tail) fine u in
          let r = first_of room tail v in
          let g : (i : ℕ) → i < present p a → T (entry_fine p a i) = λ i l.
          below_at (total p a) (entry_fine p a) (second_of (room && tail) fine u) i (subst (λ (n : ℕ). i < n) (present_is r) l) in
          join_five room bounds known (whole_known p a) tail r
          (every (present p a) (entry_bound p a) (λ i l.
          subst (λ (x : Bool). T (cond x (by_totals p (instruction_at p.areas i)) (entry_bound p a i))) e
          (first_of (cond (eqb a code_area) (by_totals p (instruction_at p.areas i)) (entry_bound p a i)) (entry_known p a i) (g i l))))
          (every (present p a) (entry_known p a) (λ i l.
          second_of (cond (eqb a code_area) (by_totals p (instruction_at p.areas i)) (entry_bound p a i)) (entry_known p a i) (g i l)))
          (second_of (room && tail && fine) (whole_known p a) t) (second_of room tail v)

  pub area_no : eqb a code_area ≡ false → entries_fine p a ≡ false → false ≡ area_fine p a
  area_no e h = sym (area_is e ∙ simp h)

  pub area_yes : eqb a code_area ≡ false → entries_fine p a ≡ true → {s : Bool} → s ≡ whole_known p a → s ≡ area_fine p a
  area_yes e h k = k ∙ sym (area_is e ∙ simp h)

  pub area_by : eqb a code_area ≡ false → {r s : Bool} → r ≡ entries_fine p a && s → (entries_fine p a ≡ true → s ≡ whole_known p a) → r ≡ area_fine p a
  area_by e {r} {s} h k = h ∙ go (entries_fine p a) k ∙ sym (area_is e)
    where
      go : (x : Bool) → (x ≡ true → s ≡ whole_known p a) → x && s ≡ x && whole_known p a
      go true f = f refl
      go false f = refl

-- area 1
code_is : (p : Program) → area_fine p 1 ≡ entries_fine p 1 && functions_keep p
unfolding area_fine area_bound entries_fine functions_keep function_keeps
code_is p = same_truth (area_fine p 1) (entries_fine p 1 && functions_keep p) there back
  where
    alone' : ℕ → Bool
    alone' i = by_totals p (instruction_at p.areas i)

    within : ℕ → Bool
    within i = all_below (present p 3) (λ j. keeps_in p j i)

    there : T (room p 1 && bounds p 1 && known p 1 && true && tail p 1) → T (room p 1 && tail p 1 && fine p 1 && functions_keep p)
    there t =
        let s = five (room p 1) (bounds p 1) (known p 1) true (tail p 1) t in
        let inside : (i : ℕ) → i < total p 1 → i < present p 1 = λ i l. subst (λ (n : ℕ). i < n) (sym (present_is p 1 s.0)) l in
        and_holds (room p 1 && tail p 1 && fine p 1) (functions_keep p)
        (and_holds (room p 1 && tail p 1) (fine p 1) (and_holds (room p 1) (tail p 1) s.0 s.4)
        (every (total p 1) (entry_fine p 1) (λ i l. and_holds (alone' i) (entry_known p 1 i)
        (first_of (alone' i) (within i) (below_at (present p 1) (entry_bound p 1) s.1 i (inside i l)))
        (below_at (present p 1) (entry_known p 1) s.2 i (inside i l)))))
        (every (present p 3) (function_keeps p) (λ j m. every (total p 1) (keeps_in p j) (λ i l.
        below_at (present p 3) (λ j'. keeps_in p j' i)
        (second_of (alone' i) (within i) (below_at (present p 1) (entry_bound p 1) s.1 i (inside i l))) j m)))

    back : T (room p 1 && tail p 1 && fine p 1 && functions_keep p) → T (room p 1 && bounds p 1 && known p 1 && true && tail p 1)
    back t =
        let u = first_of (room p 1 && tail p 1 && fine p 1) (functions_keep p) t in
        let v = first_of (room p 1 && tail p 1) (fine p 1) u in
        let r = first_of (room p 1) (tail p 1) v in
        let inside : (i : ℕ) → i < present p 1 → i < total p 1 = λ i l. subst (λ (n : ℕ). i < n) (present_is p 1 r) l in
        let g : (i : ℕ) → i < present p 1 → T (entry_fine p 1 i) = λ i l.
        below_at (total p 1) (entry_fine p 1) (second_of (room p 1 && tail p 1) (fine p 1) u) i (inside i l) in
        join_five (room p 1) (bounds p 1) (known p 1) true (tail p 1) r
        (every (present p 1) (entry_bound p 1) (λ i l. and_holds (alone' i) (within i) (first_of (alone' i) (entry_known p 1 i) (g i l))
        (every (present p 3) (λ j. keeps_in p j i) (λ j m.
        below_at (total p 1) (keeps_in p j) (below_at (present p 3) (function_keeps p) (second_of (room p 1 && tail p 1 && fine p 1) (functions_keep p) t) j m)
        i (inside i l)))))
        (every (present p 1) (entry_known p 1) (λ i l. second_of (alone' i) (entry_known p 1 i) (g i l)))
        tt (second_of (room p 1) (tail p 1) v)

-- what is read of a program

entries_same : (c : List ℕ) (x y : Areas) (t : Totals) → entries_fine (lent ([] ∷ c ∷ x) t) 1 ≡ entries_fine (lent ([] ∷ c ∷ y) t) 1
unfolding entries_fine
entries_same c x y t =
    ap (λ (b : Bool). room (lent ([] ∷ c ∷ x) t) 1 && tail (lent ([] ∷ c ∷ x) t) 1 && b)
    (below_same t.code (entry_fine (lent ([] ∷ c ∷ x) t) 1) (entry_fine (lent ([] ∷ c ∷ y) t) 1) (λ i.
    ap (λ (b : Bool). b && entry_known (lent ([] ∷ c ∷ x) t) 1 i)
    (totals_same (class_of (instruction_at ([] ∷ c ∷ []) i).opcode) ([] ∷ c ∷ x) ([] ∷ c ∷ y) t (instruction_at ([] ∷ c ∷ []) i).operand)))

bounds_same : (k : Class) (c d f : List ℕ) (x : Areas) (t : Totals) (j n : ℕ)
    → bound_by_function k (code_and c f t) j n ≡ bound_by_function k (lent ([] ∷ c ∷ d ∷ f ∷ x) t) j n
bounds_same Pool c d f x t j n = refl
bounds_same ContextSlot c d f x t j n = refl
bounds_same Position c d f x t j n = refl
bounds_same Slot c d f x t j n = refl
bounds_same Read c d f x t j n = refl
bounds_same Other c d f x t j n = refl

functions_same : (c d f : List ℕ) (x : Areas) (t : Totals) → functions_keep (code_and c f t) ≡ functions_keep (lent ([] ∷ c ∷ d ∷ f ∷ x) t)
unfolding functions_keep function_keeps
functions_same c d f x t =
    below_same (present (code_and c f t) 3) (function_keeps (code_and c f t)) (function_keeps (lent ([] ∷ c ∷ d ∷ f ∷ x) t)) (λ j.
    below_same t.code (keeps_in (code_and c f t) j) (keeps_in (lent ([] ∷ c ∷ d ∷ f ∷ x) t) j) (λ i.
    ap (λ (b : Bool). where' (has_instruction (code_and c f t) j i) b)
    (bounds_same (class_of (instruction_at ([] ∷ c ∷ []) i).opcode) c d f x t j (instruction_at ([] ∷ c ∷ []) i).operand)))

marked_same : (x y : Areas) (n : ℕ) → get_or x 2 [] ≡ get_or y 2 [] → marked x n ≡ marked y n
marked_same x y zero e = refl
marked_same x y (suc n) e =
    ap (λ (m : ℕ). m + cell x 2 n 2) (marked_same x y n e) ∙ ap (λ (w : List ℕ). marked y n + entry_word 3 n 2 w) e

module _ (code functions : List ℕ) (t : Totals) where
  code_both : area_fine (code_and code functions t) 1 ≡ entries_fine (alone 1 code t) 1 && functions_keep (code_and code functions t)
  code_both =
      code_is (code_and code functions t)
      ∙ ap (λ (x : Bool). x && functions_keep (code_and code functions t)) (sym (entries_same code [] ([] ∷ functions ∷ []) t))

  pub code_no : entries_fine (alone 1 code t) 1 ≡ false → false ≡ area_fine (code_and code functions t) 1
  code_no h = sym (code_both ∙ simp h)

  pub code_yes : entries_fine (alone 1 code t) 1 ≡ true → functions_keep (code_and code functions t) ≡ area_fine (code_and code functions t) 1
  code_yes h = sym (code_both ∙ simp h)

  pub code_room : entries_fine (alone 1 code t) 1 ≡ true → t.code ≤ entries_in 2 (length code)
  code_room e = leb→le t.code (entries_in 2 (length code)) (room_of (alone 1 code t) 1 e)

-- keys
module _ (w : List ℕ) (t : Totals) where
  pub method_keys : entries_fine (alone 6 w t) 6 ≡ true → keys_by 3 0 1 w t.methods ≡ whole_known (alone 6 w t) 6
  unfolding keys_by fresh_by entry_field
  method_keys h =
      ap (λ (x : ℕ). all_below x (λ i. all_below i (λ j. cond (same_key (alone 6 w t) 6 i j) false true)))
      (sym (present_is (alone 6 w t) 6 (room_of (alone 6 w t) 6 h)))

  pub public_keys : entries_fine (alone 8 w t) 8 ≡ true → keys_by 3 0 1 w t.public_names ≡ whole_known (alone 8 w t) 8
  unfolding keys_by fresh_by entry_field
  public_keys h =
      ap (λ (x : ℕ). all_below x (λ i. all_below i (λ j. cond (same_key (alone 8 w t) 8 i j) false true)))
      (sym (present_is (alone 8 w t) 8 (room_of (alone 8 w t) 8 h)))

  pub book_keys : entries_fine (alone 12 w t) 12 ≡ true → keys_by 1 1 0 w t.books ≡ whole_known (alone 12 w t) 12
  unfolding keys_by fresh_by entry_field
  book_keys h =
      below_same t.books (fresh_by 1 1 0 w) (λ i. all_below i (λ j. cond (same_key (alone 12 w t) 12 i j) false true)) (λ i.
      below_same i (differs_from 1 1 0 w i) (λ j. cond (same_key (alone 12 w t) 12 i j) false true) (λ j.
      ap (λ (x : Bool). cond x false true) (sym (and_true (eqb (entry_field 1 i 0 w) (entry_field 1 j 0 w))))))
      ∙ ap (λ (x : ℕ). all_below x (λ i. all_below i (λ j. cond (same_key (alone 12 w t) 12 i j) false true)))
      (sym (present_is (alone 12 w t) 12 (room_of (alone 12 w t) 12 h)))

-- an area that has no entries
empty_is : (p : Program) (a : ℕ) → whole_known p a ≡ eqb (total p a) 0 → room p a && tail p a && eqb (total p a) 0 ≡ area_fine p a
unfolding area_fine area_bound
empty_is p a e = same_truth (room p a && tail p a && eqb (total p a) 0) (area_fine p a) there back
  where
    there : T (room p a && tail p a && eqb (total p a) 0) → T (room p a && bounds p a && known p a && whole_known p a && tail p a)
    there t =
        let u = first_of (room p a && tail p a) (eqb (total p a) 0) t in
        let z = second_of (room p a && tail p a) (eqb (total p a) 0) t in
        let y : present p a ≡ 0 = present_is p a (first_of (room p a) (tail p a) u) ∙ eqb→eq (total p a) 0 z in
        join_five (room p a) (bounds p a) (known p a) (whole_known p a) (tail p a) (first_of (room p a) (tail p a) u)
        (every (present p a) (entry_bound p a) (λ i l. absurd (omega arith))) (every (present p a) (entry_known p a) (λ i l. absurd (omega arith)))
        (subst T (sym e) z) (second_of (room p a) (tail p a) u)

    back : T (room p a && bounds p a && known p a && whole_known p a && tail p a) → T (room p a && tail p a && eqb (total p a) 0)
    back t =
        let s = five (room p a) (bounds p a) (known p a) (whole_known p a) (tail p a) t in
        and_holds (room p a && tail p a) (eqb (total p a) 0) (and_holds (room p a) (tail p a) s.0 s.4) (subst T e s.3)

module _ (c k f m p q l u n b e o : List ℕ) (t : Totals) where
  abbrev program : Program
  program = lent (areas c k f m p q l u n b e o) t

  in-1 : area_fine (code_and c f t) 1 ≡ area_fine program 1
  in-1 =
      code_is (code_and c f t)
      ∙ (ap (λ (x : Bool). x && functions_keep (code_and c f t)) (entries_same c ([] ∷ f ∷ []) (k ∷ f ∷ m ∷ p ∷ q ∷ l ∷ u ∷ n ∷ b ∷ e ∷ o ∷ []) t)
      ∙ (ap (λ (x : Bool). entries_fine program 1 && x) (functions_same c k f (m ∷ p ∷ q ∷ l ∷ u ∷ n ∷ b ∷ e ∷ o ∷ []) t) ∙ sym (code_is program)))

  in-2 : area_fine (alone 2 k t) 2 ≡ area_fine program 2
  unfolding area_fine area_bound
  in-2 =
      ap (λ (x : ℕ). room program 2 && bounds program 2 && known program 2 && (begins_well program && eqb x t.global_dependencies) && tail program 2)
      (marked_same (alone 2 k t).areas program.areas (present program 2) refl)

  in-3 : area_fine (alone 3 f t) 3 ≡ area_fine program 3
  unfolding area_fine area_bound
  in-3 = refl

  in-4 : entries_fine (alone 4 m t) 4 ≡ area_fine program 4
  unfolding entries_fine
  in-4 = sym (area_is program 4 refl ∙ and_true (entries_fine program 4))

  in-5 : entries_fine (alone 5 p t) 5 ≡ area_fine program 5
  unfolding entries_fine
  in-5 = sym (area_is program 5 refl ∙ and_true (entries_fine program 5))

  in-6 : area_fine (alone 6 q t) 6 ≡ area_fine program 6
  unfolding area_fine area_bound
  in-6 = refl

  in-7 : entries_fine (alone 7 l t) 7 ≡ area_fine program 7
  unfolding entries_fine
  in-7 = sym (area_is program 7 refl ∙ and_true (entries_fine program 7))

  in-8 : area_fine (alone 8 u t) 8 ≡ area_fine program 8
  unfolding area_fine area_bound
  in-8 = refl

  in-9 : leb t.scope_names (entries_in (width_of 9) (length n)) && zeros (drop (t.scope_names * width_of 9) n) && eqb t.scope_names 0 ≡ area_fine
      program 9
  in-9 = empty_is program 9 refl

  in-10 : leb t.breaks (entries_in (width_of 10) (length b)) && zeros (drop (t.breaks * width_of 10) b) && eqb t.breaks 0 ≡ area_fine program 10
  in-10 = empty_is program 10 refl

  in-12 : area_fine (alone 12 o t) 12 ≡ area_fine program 12
  unfolding area_fine area_bound
  in-12 = refl

more : (a n : ℕ) → n ≤ a → (a ≡ n → ⊥) → suc n ≤ a
more a n l d = omega (arith, d)

pub three_left : (a : ℕ) → IsChecked a → (a ≡ 1 → ⊥) → (a ≡ 2 → ⊥) → (a ≡ 3 → ⊥) → (a ≡ 6 → ⊥) → (a ≡ 8 → ⊥) → (a ≡ 9 → ⊥) → (a ≡ 10 → ⊥) → (a ≡ 12 → ⊥)
    → (a ≡ 4) ⊎ ((a ≡ 5) ⊎ (a ≡ 7))
three_left a h n1 n2 n3 n6 n8 n9 n10 n12 = go (ℕ_discrete a 4) (ℕ_discrete a 5) (ℕ_discrete a 7)
  where
    go : Dec (a ≡ 4) → Dec (a ≡ 5) → Dec (a ≡ 7) → (a ≡ 4) ⊎ ((a ≡ 5) ⊎ (a ≡ 7))
    go (yes q) y z = inl q
    go (no q) (yes r) z = inr (inl r)
    go (no q) (no r) (yes s) = inr (inr s)
    go (no q) (no r) (no s) =
        let four = more a 3 (more a 2 (more a 1 h.from_code n1) n2) n3 in
        let eight = more a 7 (more a 6 (more a 5 (more a 4 four q) r) n6) s in
        let twelve = more a 11 (more a 10 (more a 9 (more a 8 eight n8) n9) n10) h.no_errors in
        absurd (let past : 13 ≤ a = more a 12 twelve n12 in omega (arith, past, h.to_books))

-- the parts of a memory
abbrev pub laid : List ℕ → List ℕ → Totals → Program
laid s m t = lent (parts_of s m) t

module _ (s m : List ℕ) (t : Totals) {area : ℕ} {x : List ℕ} (is : x ≡ part s area m) where
  here : (i : ℕ) → area ≡ i → x ≡ part s i m
  here i a = is ∙ ap (λ (k : ℕ). part s k m) a

  pub passes_1 : area ≡ 1 → {y : List ℕ} → y ≡ part s 3 m → {r : Bool} → r ≡ area_fine (code_and x y t) 1 → r ≡ area_fine (laid s m t) area
  passes_1 a f e =
      rw a ((rw (here 1 a, f) at e)
      ∙ in-1 (part s 1 m) (part s 2 m) (part s 3 m) (part s 4 m) (part s 5 m) (part s 6 m) (part s 7 m) (part s 8 m)
      (part s 9 m) (part s 10 m) (part s 11 m) (part s 12 m) t)

  pub passes_2 : area ≡ 2 → {r : Bool} → r ≡ area_fine (alone 2 x t) 2 → r ≡ area_fine (laid s m t) area
  passes_2 a e =
      rw a ((rw (here 2 a) at e)
      ∙ in-2 (part s 1 m) (part s 2 m) (part s 3 m) (part s 4 m) (part s 5 m) (part s 6 m) (part s 7 m) (part s 8 m)
      (part s 9 m) (part s 10 m) (part s 11 m) (part s 12 m) t)

  pub passes_3 : area ≡ 3 → {r : Bool} → r ≡ area_fine (alone 3 x t) 3 → r ≡ area_fine (laid s m t) area
  passes_3 a e =
      rw a ((rw (here 3 a) at e)
      ∙ in-3 (part s 1 m) (part s 2 m) (part s 3 m) (part s 4 m) (part s 5 m) (part s 6 m) (part s 7 m) (part s 8 m)
      (part s 9 m) (part s 10 m) (part s 11 m) (part s 12 m) t)

  pub passes_9 : area ≡ 9 → {r : Bool}
      → r ≡ leb t.scope_names (entries_in (width_of 9) (length x)) && zeros (drop (t.scope_names * width_of 9) x) && eqb t.scope_names 0
      → r ≡ area_fine (laid s m t) area
  passes_9 a e =
      rw a ((rw (here 9 a) at e)
      ∙ in-9 (part s 1 m) (part s 2 m) (part s 3 m) (part s 4 m) (part s 5 m) (part s 6 m) (part s 7 m) (part s 8 m)
      (part s 9 m) (part s 10 m) (part s 11 m) (part s 12 m) t)

  pub passes_10 : area ≡ 10 → {r : Bool} → r ≡ leb t.breaks (entries_in (width_of 10) (length x)) && zeros (drop (t.breaks * width_of 10) x) && eqb t.breaks 0
      → r ≡ area_fine (laid s m t) area
  passes_10 a e =
      rw a ((rw (here 10 a) at e)
      ∙ in-10 (part s 1 m) (part s 2 m) (part s 3 m) (part s 4 m) (part s 5 m) (part s 6 m) (part s 7 m) (part s 8 m)
      (part s 9 m) (part s 10 m) (part s 11 m) (part s 12 m) t)

  pub passes_6 : area ≡ 6 → {r : Bool}
      → r ≡ entries_fine (alone area x t) area && keys_by 3 0 1 x (total_of t area) → r ≡ area_fine (laid s m t) area
  passes_6 a e =
      rw a (area_by (alone 6 (part s 6 m) t) 6 refl (rw (a, here 6 a) at e) (λ h. method_keys (part s 6 m) t h)
      ∙ in-6 (part s 1 m) (part s 2 m) (part s 3 m) (part s 4 m) (part s 5 m) (part s 6 m) (part s 7 m) (part s 8 m)
      (part s 9 m) (part s 10 m) (part s 11 m) (part s 12 m) t)

  pub passes_8 : area ≡ 8 → {r : Bool}
      → r ≡ entries_fine (alone area x t) area && keys_by 3 0 1 x (total_of t area) → r ≡ area_fine (laid s m t) area
  passes_8 a e =
      rw a (area_by (alone 8 (part s 8 m) t) 8 refl (rw (a, here 8 a) at e) (λ h. public_keys (part s 8 m) t h)
      ∙ in-8 (part s 1 m) (part s 2 m) (part s 3 m) (part s 4 m) (part s 5 m) (part s 6 m) (part s 7 m) (part s 8 m)
      (part s 9 m) (part s 10 m) (part s 11 m) (part s 12 m) t)

  pub passes_12 : area ≡ 12 → {r : Bool} → r ≡ entries_fine (alone 12 x t) 12 && keys_by 1 1 0 x t.books → r ≡ area_fine (laid s m t) area
  passes_12 a e =
      rw a (area_by (alone 12 (part s 12 m) t) 12 refl (rw (here 12 a) at e) (λ h. book_keys (part s 12 m) t h)
      ∙ in-12 (part s 1 m) (part s 2 m) (part s 3 m) (part s 4 m) (part s 5 m) (part s 6 m) (part s 7 m) (part s 8 m)
      (part s 9 m) (part s 10 m) (part s 11 m) (part s 12 m) t)

  passes_4 : area ≡ 4 → {r : Bool} → r ≡ entries_fine (alone area x t) area → r ≡ area_fine (laid s m t) area
  passes_4 a e =
      rw a ((rw (a, here 4 a) at e)
      ∙ in-4 (part s 1 m) (part s 2 m) (part s 3 m) (part s 4 m) (part s 5 m) (part s 6 m) (part s 7 m) (part s 8 m)
      (part s 9 m) (part s 10 m) (part s 11 m) (part s 12 m) t)

  passes_5 : area ≡ 5 → {r : Bool} → r ≡ entries_fine (alone area x t) area → r ≡ area_fine (laid s m t) area
  passes_5 a e =
      rw a ((rw (a, here 5 a) at e)
      ∙ in-5 (part s 1 m) (part s 2 m) (part s 3 m) (part s 4 m) (part s 5 m) (part s 6 m) (part s 7 m) (part s 8 m)
      (part s 9 m) (part s 10 m) (part s 11 m) (part s 12 m) t)

  passes_7 : area ≡ 7 → {r : Bool} → r ≡ entries_fine (alone area x t) area → r ≡ area_fine (laid s m t) area
  passes_7 a e =
      rw a ((rw (a, here 7 a) at e)
      ∙ in-7 (part s 1 m) (part s 2 m) (part s 3 m) (part s 4 m) (part s 5 m) (part s 6 m) (part s 7 m) (part s 8 m)
      (part s 9 m) (part s 10 m) (part s 11 m) (part s 12 m) t)

  -- the areas of which nothing is asked but for their entries
  pub passes_by_entries : IsChecked area → (area ≡ 1 → ⊥) → (area ≡ 2 → ⊥) → (area ≡ 3 → ⊥) → (area ≡ 6 → ⊥) → (area ≡ 8 → ⊥) → (area ≡ 9 → ⊥)
      → (area ≡ 10 → ⊥) → (area ≡ 12 → ⊥) → {r : Bool} → r ≡ entries_fine (alone area x t) area → r ≡ area_fine (laid s m t) area
  passes_by_entries h n1 n2 n3 n6 n8 n9 n10 n12 {r} e = go (three_left area h n1 n2 n3 n6 n8 n9 n10 n12)
    where
      go : (area ≡ 4) ⊎ ((area ≡ 5) ⊎ (area ≡ 7)) → r ≡ area_fine (laid s m t) area
      go (inl a) = passes_4 a e
      go (inr (inl a)) = passes_5 a e
      go (inr (inr a)) = passes_7 a e
