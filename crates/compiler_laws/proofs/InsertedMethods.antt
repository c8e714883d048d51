-- One lemma for each way through `insert_entry`, over what its calls ensure. Assumes nothing.
use Prim.Native.Nat.{ℕ, ◌+◌, ◌-◌, ◌*◌}
use native.Mathlib.Omega.{arith}
use mathlib.Core.Path.{◌≡◌, refl, sym, ap, ◌∙◌}
use mathlib.Core.Bool.{Bool, true, false, cond}
use mathlib.Core.Option.{none, some}
use mathlib.Core.List.{List, [], ◌∷◌, ◌++◌}
use lib.ListN.{length, get_or, set, length-append, length-set}
use lib.Dec.{eqb}
use borrow.Author.Tests.{eqb-true}
use Rattle.words.specs.Areas.{methods_area, Patched}
use Rattle.definition.specs.Uses.{Limits}
use Rattle.definition.specs.Book.{Method, Book, same_method, insert_method, add_methods}
use Rattle.definition.specs.Program.{entries_from, method_entry}
use Rattle.definition_laws.proofs.Cells.{single_length}
use Rattle.std.specs.Prelude.{Some, None}
use Rattle.building.specs.declared.taking.Taken.{Taken}
use Rattle.building.specs.Found.{Found, found_of}
use Rattle.building.specs.Taking.{Took}
use Rattle.building.specs.RepresentsMachine.{Filled}
use Rattle.building.proofs.ContextLaws.{took_law}
use Rattle.compiler_laws.specs.declared.book.Book as struct
use Rattle.compiler_laws.specs.BookAreas.{book_areas, BookContents, RepresentsAreas}
use Rattle.compiler_laws.specs.IncludeSteps.{is_pair, find_pair_c}
use Rattle.compiler_laws.specs.ModelSteps.{InsertsMethod, no_method}
use Rattle.compiler_laws.proofs.BookCounts.{with_method_count}
use Rattle.compiler_laws.proofs.UnchangedByModels.{unchanged_methods}
use Rattle.compiler_laws.proofs.BookStepsInOrder.{full_simulates}
use Rattle.compiler_laws.proofs.MapEntries.{found_at, found_none, insert_by, Inserting, there, new, inserting}
use Rattle.compiler_laws.proofs.MapEntries.{patch_there, rows_count, rows_more, row_word, row_set}
use Rattle.compiler_laws.proofs.AreaEntries.{keeping_fits, keeping_grown, contents_methods, fitted_methods}

abbrev pub method_words : Method → List ℕ
method_words x = x.model ∷ x.name ∷ x.function ∷ []

pub insert_by_lem : (e : Method) (xs : List Method) → insert_method e xs ≡ insert_by (λ x. same_method x e) e xs
insert_by_lem e [] = refl
insert_by_lem e (x ∷ xs) = ap (λ (l : List Method). cond (same_method x e) (e ∷ xs) (x ∷ l)) (insert_by_lem e xs)

abbrev pub method_of : ℕ → ℕ → ℕ → Method
method_of model name function = record { model = model; name = name; function = function }

module _ (model name function : ℕ) where
  -- what the search finds, by the methods that are there
  found_in : {t : List ℕ} {xs : List Method} {n : ℕ} → Filled 3 t (entries_from method_entry 0 xs) n
      → Inserting no_method (λ x. same_method x (method_of model name function)) (method_of model name function) xs 0 (find_pair_c 3 0 n model name t)
  found_in {t} {xs} {n} f =
      let many : n - 0 ≡ length xs = omega (arith, rows_count method_words [] xs no_method (omega arith) f) in
      rw many (inserting no_method (λ x. same_method x (method_of model name function)) (method_of model name function) (is_pair 3 model name t) xs 0
      (λ j h. rw (
        row_word method_words [] xs no_method (omega arith) f j 0 h (omega arith),
        row_word method_words [] xs no_method (omega arith) f j 1 h (omega arith),
      )))

  -- the words of the one that is there
  pair_of : (x : Method) → same_method x (method_of model name function) ≡ true → set (method_words x) 2 function ≡ method_words (method_of model name function)
  pair_of x q = go (eqb x.model model) refl q
    where
      go : (b : Bool) → eqb x.model model ≡ b → cond b (eqb x.name name) false ≡ true
          → set (method_words x) 2 function ≡ method_words (method_of model name function)
      go true p r = rw (eqb-true x.model model p, eqb-true x.name name r)
      go false p r = absurd (let z : ◌≡◌ {A = ℕ} 0 1 = cc in omega arith)

  module _ {s : struct.Book} {t : List ℕ} where
    pub insert_full : (s.full ≡ 0 → ⊥) → InsertsMethod model name function s t s t
    insert_full ne = record {
      simulates = λ c k f m p l u n b e. full_simulates (unchanged_methods (some model) (record { name = name; index = function } ∷ []))
          ne;
    }

    pub insert_there : s.full ≡ 0 → {g : Found} {i : ℕ} → g ≡ found_of (find_pair_c 3 0 s.methods model name t) → g ≡ Some i → {t' : List ℕ} {a : Bool}
        → Patched 3 i 2 function t t' a → InsertsMethod model name function s t s t'
    insert_there z {g} {i} searched at {t'} P = record {
      simulates = λ c k f m p l u n b e. record {
        meets = λ κ ps w H. go c k f m p l u n b e κ ps w H (H.rest z)
            (rw (found_at (find_pair_c 3 0 s.methods model name t) searched at) at (found_in {xs = w.context.program.methods} (H.rest z).methods));
      };
    }
      where
        go : (c k f m p l u n b e : List ℕ) (κ : Limits) (ps : List ℕ) (w : Book) → RepresentsAreas κ ps (book_areas s c k f m p t l u n b e) w
            → BookContents ps (book_areas s c k f m p t l u n b e) w
            → Inserting no_method (λ x. same_method x (method_of model name function)) (method_of model name function) w.context.program.methods 0 (some i)
            → RepresentsAreas κ ps (book_areas s c k f m p t' l u n b e) (add_methods (some model) (record { name = name; index = function } ∷ []) w)
        go c k f m p l u n b e κ ps w H S (there j q h r set_is first) =
            let xs = w.context.program.methods in
            let words : t' ≡ set t (i * 3 + 2) function =
            patch_there i 2 function (omega arith) (omega (arith, rows_count method_words [] xs no_method (omega arith) S.methods)) (omega arith)
            S.methods P in
            let place : 0 + j ≡ i = sym q in
            let filled : Filled 3 t' (entries_from method_entry 0 (insert_method (method_of model name function) xs)) s.methods =
            rw (words, insert_by_lem (method_of model name function) xs, set_is, ← place)
            (row_set method_words [] xs no_method (omega arith) S.methods j 2 function (method_of model name function) h (omega arith)
            (pair_of (get_or xs j no_method) r)) in
            keeping_fits H z methods_area (length (insert_method (method_of model name function) xs)) _ refl
            (fitted_methods (ap length words ∙ simp length-set) H.fitted) z
            (omega (
              arith,
              H.fitted.methods,
              filled.count,
              filled.room,
              ap length words,
              length-set t (i * 3 + 2) function,
              single_length (λ _ x. method_words x) 0 (insert_method (method_of model name function) xs),
            )) (contents_methods S filled)

    pub insert_new : s.full ≡ 0 → {g : Found} → g ≡ found_of (find_pair_c 3 0 s.methods model name t) → g ≡ None → {r : Taken} {t' : List ℕ}
        → Took methods_area s.full s.methods (model ∷ name ∷ function ∷ []) t r t' → InsertsMethod model name function s t (with_method_count r s) t'
    insert_new z {g} searched lost {r} {t'} T = record {
      simulates = λ c k f m p l u n b e. record {
        meets = λ κ ps w H. go c k f m p l u n b e κ ps w H (H.rest z)
            (rw (found_none (find_pair_c 3 0 s.methods model name t) searched lost) at (found_in {xs = w.context.program.methods} (H.rest z).methods));
      };
    }
      where
        go : (c k f m p l u n b e : List ℕ) (κ : Limits) (ps : List ℕ) (w : Book) → RepresentsAreas κ ps (book_areas s c k f m p t l u n b e) w
            → BookContents ps (book_areas s c k f m p t l u n b e) w
            → Inserting no_method (λ x. same_method x (method_of model name function)) (method_of model name function) w.context.program.methods 0 none
            → RepresentsAreas κ ps (book_areas (with_method_count r s) c k f m p t' l u n b e)
            (add_methods (some model) (record { name = name; index = function } ∷ []) w)
        go c k f m p l u n b e κ ps w H S (new more-is) =
            let xs = w.context.program.methods in
            let is : insert_method (method_of model name function) xs ≡ xs ++ (method_of model name function ∷ []) =
            insert_by_lem (method_of model name function) xs ∙ more-is in
            let entries : entries_from method_entry 0 (insert_method (method_of model name function) xs)
            ≡ entries_from method_entry 0 xs ++ (method_words (method_of model name function) ∷ []) =
            ap (λ (y : List Method). entries_from method_entry 0 y) is ∙ rows_more method_words 0 xs (method_of model name function) in
            keeping_grown H z methods_area (length (insert_method (method_of model name function) xs)) _ refl (took_law T z S.methods) (omega arith) refl
            H.fitted.methods
            (ap length is ∙ length-append xs (method_of model name function ∷ [])
            ∙ omega (arith, rows_count method_words [] xs no_method (omega arith) S.methods))
            refl (λ e. fitted_methods e H.fitted) (λ f q. rw q (contents_methods S (rw entries f)))
