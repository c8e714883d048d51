-- Methods inserted one by one are methods inserted together: the notes of one area, each at most the next, give the mark of the last; and an insert
-- leaves what is still to be read of the source. By induction over the methods. Assumes nothing.
use Prim.Native.Nat.{ℕ, zero, suc, ◌+◌, ◌≤◌, ◌<◌}
use native.Mathlib.Nat.{zero-add}
use native.Mathlib.Omega.{arith}
use native.Mathlib.Decide.{ℕ_discrete}
use mathlib.Core.Path.{◌≡◌, refl, sym, ap, ◌∙◌}
use mathlib.Core.Bool.{Bool, true, false, cond}
use mathlib.Core.Option.{Option, none, some}
use mathlib.Core.List.{List, [], ◌∷◌, ◌++◌}
use lib.ListN.{length, get_or, set, get_or-append}
use lib.Seq.{get_or-set_same, get_or-set_other}
use lib.Dec.{eqb, ltb}
use borrow.Author.Tests.{eqb-true, eqb-false, ltb-true, lt-ltb, eq-eqb, ne_eqb}
use Rattle.words.specs.Areas.{methods_area}
use Rattle.definition.specs.FunctionState.{Entry, or_else}
use Rattle.definition.specs.Uses.{Use, using', Limits, limit_of, over_by, first_over}
use Rattle.definition.specs.Book.{Method, Book, same_method, insert_method, insert_methods, add_methods, methods_in}
use Rattle.definition_laws.proofs.StepPreserves.{NotesGrow}
use Rattle.definition_laws.proofs.Cells.{single_length}
use Rattle.building.proofs.Notes.{marks_same, over_longer}
use Rattle.compiler_laws.specs.BookAreas.{BookAreas, RepresentsAreas}
use Rattle.compiler_laws.specs.ModelSteps.{no_method, methods_from}
use Rattle.compiler_laws.proofs.UnchangedByModels.{unchanged_methods}
use Rattle.compiler_laws.proofs.BookStepsInOrder.{keeping_longer}
use Rattle.compiler_laws.proofs.MapEntries.{Inserting, there, new, inserting}
use Rattle.compiler_laws.proofs.AreaEntries.{keeping_fits, contents_methods}
use Rattle.compiler_laws.proofs.InsertedMethods.{method_of, method_words, insert_by_lem}

-- the lists

pub insert_grows : (e : Method) (l : List Method) → length l ≤ length (insert_method e l)
insert_grows e [] = omega arith
insert_grows e (x ∷ xs) = go (insert_grows e xs) (same_method x e)
  where
    go : length xs ≤ length (insert_method e xs) → (b : Bool) → length (x ∷ xs) ≤ length (cond b (e ∷ xs) (x ∷ insert_method e xs))
    go h true = omega arith
    go h false = omega arith

pub inserts_grow : (t : ℕ) (es : List Entry) (l : List Method) → length l ≤ length (insert_methods t es l)
inserts_grow t [] l = omega arith
inserts_grow t (e ∷ es) l =
    let one = insert_grows (method_of t e.name e.index) l in
    omega (arith, one, inserts_grow t es (insert_method (method_of t e.name e.index) l))

pub inserts_append : (t : ℕ) (es fs : List Entry) (l : List Method) → insert_methods t (es ++ fs) l ≡ insert_methods t fs (insert_methods t es l)
inserts_append t [] fs l = refl
inserts_append t (e ∷ es) fs l = inserts_append t es fs (insert_method (method_of t e.name e.index) l)

-- the notes

over_again : (κ : Limits) (area m n : ℕ) (us : List Use) → m ≤ n → first_over κ (using' area n ∷ using' area m ∷ us) ≡ first_over κ (using' area n ∷ us)
unfolding first_over
over_again κ area m n us h = go (first_over κ us) (ltb (limit_of κ area) m) refl
  where
    go : (o : Option ℕ) (b : Bool) → ltb (limit_of κ area) m ≡ b
        → or_else (or_else o (cond b (some area) none)) (over_by κ (using' area n)) ≡ or_else o (over_by κ (using' area n))
    go (some x) b q = refl
    go none true q = rw (lt-ltb (limit_of κ area) n (omega (arith, ltb-true (limit_of κ area) m q)))
    go none false q = refl

module _ {κ : Limits} {ps : List ℕ} {m : BookAreas} where
  keeping_renoted : {w : Book} (us : List Use) → first_over κ w.uses ≡ first_over κ us → RepresentsAreas κ ps m w
      → RepresentsAreas κ ps m (record { compiler = w.compiler; assembly = w.assembly; context = w.context; uses = us })
  keeping_renoted us q H = record { fitted = H.fitted; full = rw (← q) H.full; rest = λ z. let S = H.rest z in contents_methods S S.methods }

  -- some methods and then some
  pub methods_then : (t : ℕ) (es fs : List Entry) (w : Book) → RepresentsAreas κ ps m (add_methods (some t) fs (add_methods (some t) es w))
      → RepresentsAreas κ ps m (add_methods (some t) (es ++ fs) w)
  methods_then t es fs w H =
      let first = insert_methods t es w.context.program.methods in
      let all = insert_methods t fs first in
      rw (inserts_append t es fs w.context.program.methods)
      (keeping_renoted (using' methods_area (length all) ∷ w.uses)
      (over_again κ methods_area (length first) (length all) w.uses (inserts_grow t fs first)) H)

  -- no method: only a note, of what is there
  pub methods_none : (t : ℕ) (w : Book) → RepresentsAreas κ ps m w → RepresentsAreas κ ps m (add_methods (some t) [] w)
  methods_none t w H = go (eqb m.book.full 0) refl
    where
      go : (b : Bool) → eqb m.book.full 0 ≡ b → RepresentsAreas κ ps m (add_methods (some t) [] w)
      go true q =
          let z = eqb-true m.book.full 0 q in
          let S = H.rest z in
          keeping_fits H z methods_area (length w.context.program.methods) _ refl H.fitted z
          (omega (arith, H.fitted.methods, S.methods.count, S.methods.room, single_length (λ _ x. method_words x) 0 w.context.program.methods))
          (contents_methods S S.methods)
      go false q = keeping_longer (unchanged_methods (some t) [] w).uses (eqb-false m.book.full 0 q) H

-- with the mark set before, whatever is noted
pub keeping_marked : {κ : Limits} {ps ps₁ ps₂ : List ℕ} {m m' : BookAreas} {w w₁ w₂ : Book} → NotesGrow w.uses w₁.uses → NotesGrow w.uses w₂.uses
    → (m.book.full ≡ 0 → ⊥) → RepresentsAreas κ ps m w → RepresentsAreas κ ps₁ m' w₁ → RepresentsAreas κ ps₂ m' w₂
keeping_marked {κ} {m = m} {m' = m'} a b ne H H₁ =
    let same : m.book.full ≡ m'.book.full = marks_same (over_longer κ a H.full ne) H₁.full in
    record { fitted = H₁.fitted; full = rw (← same) (over_longer κ b H.full ne); rest = λ z. absurd (ne (same ∙ z)) }

-- what is still to be read

data SameFor (a : ℕ) (x y : Method) : Type 0 where
  alike : x ≡ y → SameFor a x y
  others : (x.model ≡ a → ⊥) → (y.model ≡ a → ⊥) → SameFor a x y

from_same : (a n i : ℕ) (ys zs : List Method) → ((j : ℕ) → i ≤ j → j < i + n → SameFor a (get_or ys j no_method) (get_or zs j no_method))
    → methods_from a i n ys ≡ methods_from a i n zs
from_same a zero i ys zs each = refl
from_same a (suc n) i ys zs each =
    go (get_or ys i no_method) (get_or zs i no_method) (each i (omega arith) (omega arith))
    (from_same a n (i + 1) ys zs (λ j h q. each j (omega arith) (omega arith)))
  where
    go : (x y : Method) → SameFor a x y → methods_from a (i + 1) n ys ≡ methods_from a (i + 1) n zs
        → cond (eqb x.model a) (record { name = x.name; index = x.function } ∷ methods_from a (i + 1) n ys) (methods_from a (i + 1) n ys)
        ≡ cond (eqb y.model a) (record { name = y.name; index = y.function } ∷ methods_from a (i + 1) n zs) (methods_from a (i + 1) n zs)
    go x y (alike q) rest = rw (q, rest)
    go x y (others p q) rest = rw (ne_eqb x.model a p, ne_eqb y.model a q) rest

same_model : (x : Method) (t name function : ℕ) → same_method x (method_of t name function) ≡ true → x.model ≡ t
same_model x t name function q = go (eqb x.model t) refl q
  where
    go : (b : Bool) → eqb x.model t ≡ b → cond b (eqb x.name name) false ≡ true → x.model ≡ t
    go true p r = eqb-true x.model t p
    go false p r = absurd (let z : ◌≡◌ {A = ℕ} 0 1 = cc in omega arith)

-- an insert of the source's i-th leaves those behind it
module _ (a t i : ℕ) (ys : List Method) (own : (get_or ys i no_method).model ≡ a) (inside : i < length ys) where
  abbrev moved : Method
  moved = method_of t (get_or ys i no_method).name (get_or ys i no_method).function

  behind : (j : ℕ) → i < j → j < length ys → {o : Option ℕ} → Inserting no_method (λ x. same_method x moved) moved ys 0 o
      → SameFor a (get_or ys j no_method) (get_or (insert_method moved ys) j no_method)
  behind j h q (new more-is) =
      alike (sym (ap (λ (l : List Method). get_or l j no_method) (insert_by_lem moved ys ∙ more-is) ∙ get_or-append ys (moved ∷ []) no_method j q))
  behind j h q (there k at below match set_is first) = go (ℕ_discrete j k)
    where
      is : insert_method moved ys ≡ set ys k moved
      is = insert_by_lem moved ys ∙ set_is

      go : Dec (j ≡ k) → SameFor a (get_or ys j no_method) (get_or (insert_method moved ys) j no_method)
      go (no ne) = alike (sym (ap (λ (l : List Method). get_or l j no_method) is ∙ get_or-set_other ys k j moved no_method ne))
      go (yes e) =
          let model : (get_or ys k no_method).model ≡ t = same_model (get_or ys k no_method) t (get_or ys i no_method).name (get_or ys i no_method).function
          match in
          let here : get_or (insert_method moved ys) j no_method ≡ moved =
          ap (λ (l : List Method). get_or l j no_method) is ∙ rw e (get_or-set_same ys k moved no_method below) in
          let apart : t ≡ a → ⊥ = λ same. early same (first i (omega arith)) in
          others (λ p. apart (sym model ∙ rw (← e) p)) (λ p. apart (sym (ap (λ (x : Method). x.model) here) ∙ p))
        where
          -- were it the source, the i-th would have been found first
          early : t ≡ a → same_method (get_or ys i no_method) moved ≡ false → ⊥
          early same q =
              let yes' : same_method (get_or ys i no_method) moved ≡ true =
              rw (eq-eqb (get_or ys i no_method).model t (own ∙ sym same), eq-eqb (get_or ys i no_method).name (get_or ys i no_method).name refl) in
              let z : ◌≡◌ {A = ℕ} 0 1 = cc in omega arith

  pub insert_behind : (n : ℕ) → i + 1 + n ≤ length ys → methods_from a (i + 1) n ys ≡ methods_from a (i + 1) n (insert_method moved ys)
  insert_behind n h =
      from_same a n (i + 1) ys (insert_method moved ys)
      (λ j p q. behind j (omega arith) (omega arith)
      (inserting no_method (λ x. same_method x moved) moved (λ k. same_method (get_or ys k no_method) moved) ys 0 (λ k l. rw (zero-add k))))

-- the i-th, and then those behind it
pub methods_step : (a t i n : ℕ) (ys : List Method) → i + suc n ≤ length ys
    → methods_from a i 1 ys ++ methods_from a (i + 1) n (insert_methods t (methods_from a i 1 ys) ys) ≡ methods_from a i (suc n) ys
methods_step a t i n ys h = go (eqb (get_or ys i no_method).model a) refl
  where
    go : (b : Bool) → eqb (get_or ys i no_method).model a ≡ b
        → methods_from a i 1 ys ++ methods_from a (i + 1) n (insert_methods t (methods_from a i 1 ys) ys) ≡ methods_from a i (suc n) ys
    go true q =
        rw q (ap (λ (l : List Entry). record { name = (get_or ys i no_method).name; index = (get_or ys i no_method).function } ∷ l)
        (sym (insert_behind a t i ys (eqb-true (get_or ys i no_method).model a q) (omega arith) n (omega arith))))
    go false q = rw q

-- all of them
from_cons : (a n i : ℕ) (x : Method) (xs : List Method) → methods_from a (suc i) n (x ∷ xs) ≡ methods_from a i n xs
from_cons a zero i x xs = refl
from_cons a (suc n) i x xs =
    let next : suc i + 1 ≡ suc (i + 1) = omega arith in
    rw (next, from_cons a n (i + 1) x xs)

pub methods_all : (a : ℕ) (xs : List Method) → methods_from a 0 (length xs) xs ≡ methods_in a xs
methods_all a [] = refl
methods_all a (x ∷ xs) =
    let rest : methods_from a (0 + 1) (length xs) (x ∷ xs) ≡ methods_in a xs = from_cons a (length xs) 0 x xs ∙ methods_all a xs in
    rw rest
