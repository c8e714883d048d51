-- The parts that `check_program` lends are the areas of its memory, and the count of bundles is asked after them. Assumes nothing.
use Prim.Native.Nat.{ℕ, zero, suc, ◌+◌, ◌-◌, ◌≤◌, ◌<◌, min}
use native.Mathlib.Omega.{arith}
use mathlib.Core.Path.{◌≡◌, refl, sym, ap, ◌∙◌}
use native.Mathlib.Numerals.{add-one}
use native.Mathlib.Decide.{dec_le}
use mathlib.Core.Bool.{Bool, true, false, cond}
use mathlib.Core.Option.{Option, none, some}
use mathlib.Core.List.{List, [], ◌∷◌}
use borrow.Author.Tests.{lt-ltb, le-leb, lt-leb}
use lib.ListN.{length, take, drop, get_or, length-drop, drop_of_length-le}
use lib.Seq.{drop-cons, take_all}
use Rattle.std.specs.Prelude.{Result, Ok}
use Rattle.tree.specs.Check.{refused}
use Rattle.words.specs.declared.row.Row.TheVariants.{BadShape}
use Rattle.words.specs.declared.row.Refused.{Refused}
use Rattle.memory.specs.Layout.{areas_of, starts_of, part}
use Rattle.memory.proofs.Starts.{part_is_area}
use Rattle.words.specs.declared.reply.Totals.{Totals}
use Rattle.definition.specs.Promise.{lent_counted}
use Rattle.definition.specs.Within.{Areas}
use Rattle.definition.specs.FunctionState.{or_else}
use Rattle.definition.specs.ProgramCheck.{area_fine, first_fault, program_fault}
use Rattle.definition.specs.Trial.{count_fault, counted_fault}
use Rattle.program_check.specs.Answer.{answer_of}
use Rattle.program_check.proofs.WholeTests.{laid}
use Rattle.program_check.specs.Parts.{lent}
use Rattle.program_check.specs.OneMemory.{areas_in, parts_of}

area_count : (lengths memory : List ℕ) → length (areas_of lengths memory) ≡ suc (length lengths)
unfolding areas_of
area_count [] memory = refl
area_count (n ∷ ns) memory = ap suc (area_count ns (drop n memory))

-- one area more
next : (l : Areas) (i n : ℕ) {x : List ℕ} {xs : Areas} → i < length l → x ≡ get_or l i [] → xs ≡ take n (drop (suc i) l) → x ∷ xs ≡ take (suc n) (drop i l)
next l i n {x} {xs} h e q = ap (λ (y : List ℕ). y ∷ xs) e ∙ (ap (λ (ys : Areas). get_or l i [] ∷ ys) q ∙ sym (ap (take (suc n)) (drop-cons l i [] h)))

none_taken : (n : ℕ) → ◌≡◌ {A = List ℕ} (take n []) []
none_taken zero = refl
none_taken (suc n) = refl

-- a part with nothing in it, or cut at the memory's end
pub part_none : (starts m : List ℕ) (i : ℕ) → min (get_or starts (i + 1) 0) (length m) ≤ get_or starts i 0 → [] ≡ part starts i m
unfolding part
part_none starts m i h = go (dec_le (length m) (get_or starts i 0))
  where
    n : ℕ
    n = get_or starts (suc i) 0 - get_or starts i 0

    go : Dec (length m ≤ get_or starts i 0) → [] ≡ take n (drop (get_or starts i 0) m)
    go (yes p) = sym (ap (take n) (drop_of_length-le m p) ∙ none_taken n)
    go (no p) =
        let next : i + 1 ≡ suc i = omega arith in
        let h = rw next at h in
        let z : n ≡ 0 = omega arith in
        sym (ap (λ (k : ℕ). take k (drop (get_or starts i 0) m)) z)

pub part_cut : (starts m : List ℕ) (i : ℕ) → get_or starts i 0 < min (get_or starts (i + 1) 0) (length m)
    → take (min (get_or starts (i + 1) 0) (length m) - get_or starts i 0) (drop (get_or starts i 0) m) ≡ part starts i m
unfolding part
part_cut starts m i h =
    let next : i + 1 ≡ suc i = omega arith in
    rw next (go (dec_le (get_or starts (suc i) 0) (length m)))
  where
    from : ℕ
    from = get_or starts i 0

    end : ℕ
    end = get_or starts (suc i) 0

    go : Dec (end ≤ length m) → take (min end (length m) - from) (drop from m) ≡ take (end - from) (drop from m)
    go (yes p) = let z : min end (length m) ≡ end = omega arith in ap (λ (k : ℕ). take (k - from) (drop from m)) z
    go (no p) =
        take_all (min end (length m) - from) (drop from m) (simp length-drop (omega arith))
        ∙ sym (take_all (end - from) (drop from m) (simp length-drop (omega arith)))

module _ (l m : List ℕ) (q : length l ≡ 12) {starts : List ℕ} (e : starts ≡ starts_of l (length m)) where
  area : (i : ℕ) → i < 12 → part starts (suc i) m ≡ get_or (areas_of l m) i []
  area i h = ap (λ (s : List ℕ). part s (suc i) m) e ∙ part_is_area l m i (omega (arith, q))

  there : (i : ℕ) → i < 12 → i < length (areas_of l m)
  there i h = omega (arith, area_count l m, q)

  one : (i n : ℕ) {xs : Areas} → i < 12 → xs ≡ take n (drop (suc i) (areas_of l m)) → part starts (suc i) m ∷ xs ≡ take (suc n) (drop i (areas_of l m))
  one i n h t = next (areas_of l m) i n (there i h) (area i h) t

  pub parts_are : parts_of starts m ≡ areas_in l m
  unfolding areas_in
  parts_are =
      ap (λ (xs : Areas). [] ∷ xs)
      (one 0 11 (omega arith) (one 1 10 (omega arith) (one 2 9 (omega arith) (one 3 8 (omega arith) (one 4 7 (omega arith) (one 5 6 (omega arith)
      (one 6 5 (omega arith) (one 7 4 (omega arith) (one 8 3 (omega arith) (one 9 2 (omega arith) (one 10 1 (omega arith)
      (one 11 0 (omega arith) refl))))))))))))

-- the areas in their order, and then the count
abbrev pub checked : List ℕ
checked = 1 ∷ 2 ∷ 3 ∷ 4 ∷ 5 ∷ 6 ∷ 7 ∷ 8 ∷ 9 ∷ 10 ∷ 12 ∷ []

module _ (l m : List ℕ) (q : length l ≡ 12) {starts : List ℕ} (e : starts ≡ starts_of l (length m)) (t : Totals) where
  -- what is found of the areas from number i on
  abbrev pub from_area : ℕ → Option ℕ
  from_area i = first_fault (laid starts m t) (drop i checked)

  abbrev pub the_answer : Result (Unit {0}) Refused
  the_answer = answer_of (counted_fault (lent_counted (areas_in l m) t))

  answer_is : {fault : Option ℕ} → fault ≡ from_area 0 → answer_of (or_else fault (count_fault t.bundles)) ≡ the_answer
  unfolding counted_fault program_fault
  answer_is {fault} h =
      ap (λ (f : Option ℕ). answer_of (or_else f (count_fault t.bundles)))
      (h ∙ ap (λ (y : Areas). first_fault (lent y t) checked) (parts_are l m q e))

  module _ (i : ℕ) (h : i < 11) (inv : from_area i ≡ from_area 0) {r : Bool} (is : r ≡ area_fine (laid starts m t) (get_or checked i 0)) where
    here_is : from_area i ≡ cond r (from_area (i + 1)) (some (get_or checked i 0))
    here_is = rw (is, add-one, drop-cons checked i 0 h)

    pub area_passed : r ≡ true → from_area (i + 1) ≡ from_area 0
    area_passed p = sym (rw p at here_is) ∙ inv

    pub area_stops : r ≡ false → refused BadShape (1048576 + get_or checked i 0) ≡ the_answer
    unfolding answer_of
    area_stops p = answer_is (sym (rw p at here_is) ∙ inv)

  module _ (i : ℕ) (h : 11 ≤ i) (inv : from_area i ≡ from_area 0) where
    all_passed : none ≡ from_area 0
    all_passed = (let z : drop i checked ≡ [] = drop_of_length-le checked h in rw z at inv)

    count_is : {a : Option ℕ} → a ≡ count_fault t.bundles → answer_of a ≡ the_answer
    count_is n = ap answer_of n ∙ answer_is all_passed

    pub count_small : t.bundles < 1 → refused BadShape (1048576 + 12) ≡ the_answer
    unfolding answer_of
    count_small n = count_is {a = some 12} (let z : t.bundles ≡ 0 = omega arith in rw z refl)

    pub count_great : 4294967294 < t.bundles → refused BadShape (1048576 + 12) ≡ the_answer
    unfolding answer_of
    count_great n = count_is {a = some 12} (simp (lt-leb t.bundles 4294967294 n, lt-ltb 0 t.bundles (omega arith)))

    pub count_fine : 1 ≤ t.bundles → t.bundles ≤ 4294967294 → Ok tt ≡ the_answer
    unfolding answer_of
    count_fine lo hi = count_is {a = none} (simp (le-leb t.bundles 4294967294 hi, lt-ltb 0 t.bundles (omega arith)))
