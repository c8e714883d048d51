-- One lemma for each way through `add_property`, over what its calls ensure. Assumes nothing.
use Prim.Native.Nat.{ℕ, suc, ◌+◌, ◌-◌, ◌<◌}
use native.Mathlib.Omega.{arith}
use mathlib.Core.Path.{◌≡◌, refl, sym, ap, ◌∙◌}
use mathlib.Core.Bool.{Bool, true, false, cond}
use mathlib.Core.Option.{Option, none, some}
use mathlib.Core.List.{List, [], ◌∷◌, ◌++◌, append_assoc}
use lib.ListN.{length, get_or, length-append}
use lib.Dec.{eqb}
use borrow.Author.Tests.{eq-eqb}
use Rattle.words.specs.Record.{token_at, value_at}
use Rattle.words.specs.Areas.{properties_area}
use Rattle.definition.specs.Uses.{Limits}
use Rattle.definition.specs.Book.{Book, Context, noted, has_text, model_count, property_count, push_book_error}
use Rattle.definition.specs.Program.{Entries, entries_from, property_entries, model_properties, property_table}
use Rattle.definition_laws.proofs.Cells.{all_any, entries_length, single_length}
use Rattle.std.specs.Prelude.{Some, None}
use Rattle.building.specs.declared.taking.Taken.{Taken}
use Rattle.building.specs.Found.{Found, found_of, first_from}
use Rattle.building.specs.Taking.{Took}
use Rattle.building.specs.RepresentsMachine.{Filled}
use Rattle.building.proofs.ContextLaws.{took_law}
use Rattle.compiler_laws.specs.declared.book.Book as struct
use Rattle.compiler_laws.specs.BookAreas.{BookAreas, book_areas, BookContents, RepresentsAreas}
use Rattle.compiler_laws.specs.BookSteps.{ErrorsDo}
use Rattle.compiler_laws.specs.IncludeSteps.{is_pair, find_pair_c}
use Rattle.compiler_laws.specs.ModelSteps.{AddsProperty}
use Rattle.compiler_laws.proofs.BookCounts.{with_property_count}
use Rattle.compiler_laws.proofs.UnchangedByModels.{unchanged_property}
use Rattle.compiler_laws.proofs.BookStepsInOrder.{keeping_longer}
use Rattle.compiler_laws.proofs.MapEntries.{found_at, found_none, rows_from, rows_count, rows_more, row_word}
use Rattle.compiler_laws.proofs.AreaEntries.{keeping_grown, contents_properties, fitted_properties}

abbrev property_words : ℕ → ℕ → List ℕ
property_words i n = i ∷ n ∷ []

pub property_rows : (i j : ℕ) (ns : List ℕ) → property_entries i ns ≡ rows_from (property_words i) j ns
property_rows i j [] = refl
property_rows i j (n ∷ ns) = ap (λ (l : Entries). property_words i n ∷ l) (property_rows i (j + 1) ns)

property_length : (i : ℕ) (ns : List ℕ) → length (property_entries i ns) ≡ length ns
property_length i [] = refl
property_length i (n ∷ ns) = ap suc (property_length i ns)

before_length : (c : Context) → length (property_table c) ≡ property_count c
before_length c =
    let first = length c.prior.models in
    length-append c.prior.properties (entries_from model_properties first c.program.models)
    ∙ ap (λ (n : ℕ). length c.prior.properties + n)
    (entries_length model_properties (λ m. length m.properties) first (λ j m u. property_length j m.properties) (all_any c.program.models))

-- a search, by the texts that are there
is_there : Option ℕ → Bool
is_there none = false
is_there (some i) = true

has_text_lem : (name : ℕ) (test : ℕ → Bool) (ns : List ℕ) (from : ℕ) → ((j : ℕ) → j < length ns → test (from + j) ≡ eqb (get_or ns j 0) name)
    → has_text name ns ≡ is_there (first_from test (length ns) from)
unfolding first_from is_there
has_text_lem name test [] from each = refl
has_text_lem name test (n ∷ ns) from each =
    let rest = has_text_lem name test ns (from + 1)
    (λ j h. let step : from + suc j ≡ from + 1 + j = omega arith in rw step at (each (suc j) (omega arith))) in
    go (eqb n name) (let same : from + 0 ≡ from = omega arith in rw same at (each 0 (omega arith))) rest
  where
    go : (b : Bool) → test from ≡ b → has_text name ns ≡ is_there (first_from test (length ns) (from + 1))
        → cond b true (has_text name ns) ≡ is_there (cond (test from) (some from) (first_from test (length ns) (from + 1)))
    go true q r = rw q
    go false q r = rw q r

module _ (i name : ℕ) (front : Entries) (ps : List ℕ) {p : List ℕ} {n : ℕ} (filled : Filled 2 p (front ++ property_entries i ps) n) where
  rows : Filled 2 p (front ++ rows_from (property_words i) 0 ps) n
  rows = rw (← property_rows i 0 ps) filled

  property_count_lem : n ≡ length front + length ps
  property_count_lem = rows_count (property_words i) front ps 0 (omega arith) rows

  has_in : {from : ℕ} → from ≡ length front → has_text name ps ≡ is_there (find_pair_c 2 from n i name p)
  has_in {from} q =
      let many : n - from ≡ length ps = omega (arith, property_count_lem) in
      rw (many, q) (has_text_lem name (is_pair 2 i name p) ps (length front)
      (λ j h. rw (
        row_word (property_words i) front ps 0 (omega arith) rows j 0 h (omega arith),
        row_word (property_words i) front ps 0 (omega arith) rows j 1 h (omega arith),
        eq-eqb i i refl,
      )))

more_in : (i name : ℕ) (front : Entries) (ps : List ℕ)
    → (front ++ property_entries i ps) ++ ((i ∷ name ∷ []) ∷ []) ≡ front ++ property_entries i (ps ++ (name ∷ []))
more_in i name front ps =
    append_assoc front (property_entries i ps) ((i ∷ name ∷ []) ∷ [])
    ∙ ap (λ (l : Entries). front ++ l) (ap (λ (l : Entries). l ++ ((i ∷ name ∷ []) ∷ [])) (property_rows i 0 ps)
    ∙ sym (rows_more (property_words i) 0 ps name) ∙ sym (property_rows i 0 (ps ++ (name ∷ []))))

-- the count of models is the next model's number
pub models_count : {ps : List ℕ} {m : BookAreas} {w : Book} → BookContents ps m w → m.book.models ≡ model_count w.context
models_count {w = w} S =
    let stood = w.context.prior.models in
    S.models.count ∙ length-append stood _
    ∙ ap (λ (n : ℕ). length stood + n) (single_length (λ _ x. x.file ∷ x.name ∷ []) 0 w.context.program.models)

-- whether the search finds the name
there_by : {first : ℕ} {s : struct.Book} {p e : List ℕ} (name : ℕ) → s.full ≡ 0 → (c k f m t l u n b : List ℕ) (κ : Limits) (ps : List ℕ) (w : Book)
    → first ≡ property_count w.context → RepresentsAreas κ ps (book_areas s c k f m p t l u n b e) w
    → has_text name ps ≡ is_there (find_pair_c 2 first s.properties s.models name p)
there_by {s = s} name z c k f m t l u n b κ ps w start H =
    let S = H.rest z in
    let models : s.models ≡ model_count w.context = models_count S in
    rw models (has_in (model_count w.context) name (property_table w.context) ps S.properties (start ∙ sym (before_length w.context)))

-- `add_property`
module _ {tree : List ℕ} {at first : ℕ} {s : struct.Book} {p e : List ℕ} where
  pub property_full : (s.full ≡ 0 → ⊥) → AddsProperty tree at first s p e s p e
  property_full ne = record { meets = λ c k f m t l u n b κ ps w start H. keeping_longer (unchanged_property (token_at tree at) ps w).uses ne H }

  pub property_there : s.full ≡ 0 → {g : Found} {i name : ℕ} → name ≡ value_at tree at
      → g ≡ found_of (find_pair_c 2 first s.properties s.models name p) → g ≡ Some i → {s' : struct.Book} {e' : List ℕ}
      → ErrorsDo s e s' e' (push_book_error 6 (token_at tree at)) → AddsProperty tree at first s p e s' p e'
  unfolding is_there
  property_there z {g} {i} {name} value searched at_i {s'} {e'} E = record {
    meets = λ c k f m t l u n b κ ps w start H.
        let has : has_text (value_at tree at) ps ≡ true =
        rw value at (there_by name z c k f m t l u n b κ ps w (start z) H
        ∙ ap is_there (found_at (find_pair_c 2 first s.properties s.models name p) searched at_i)) in
        rw has ((E.simulates c k f m p t l u n b).meets κ ps w H);
  }

  pub property_new : s.full ≡ 0 → {g : Found} {name : ℕ} → name ≡ value_at tree at
      → g ≡ found_of (find_pair_c 2 first s.properties s.models name p) → g ≡ None → {r : Taken} {p' : List ℕ}
      → Took properties_area s.full s.properties (s.models ∷ name ∷ []) p r p' → AddsProperty tree at first s p e (with_property_count r s) p' e
  unfolding is_there
  property_new z {g} {name} value searched lost {r} {p'} T = record {
    meets = λ c k f m t l u n b κ ps w start H.
        let has : has_text (value_at tree at) ps ≡ false =
        rw value at (there_by name z c k f m t l u n b κ ps w (start z) H
        ∙ ap is_there (found_none (find_pair_c 2 first s.properties s.models name p) searched lost)) in
        rw has (go c k f m t l u n b κ ps w (start z) H (H.rest z));
  }
    where
      go : (c k f m t l u n b : List ℕ) (κ : Limits) (ps : List ℕ) (w : Book) → first ≡ property_count w.context
          → RepresentsAreas κ ps (book_areas s c k f m p t l u n b e) w → BookContents ps (book_areas s c k f m p t l u n b e) w
          → RepresentsAreas κ (ps ++ (value_at tree at ∷ [])) (book_areas (with_property_count r s) c k f m p' t l u n b e)
          (noted properties_area (property_count w.context + length ps + 1) w)
      go c k f m t l u n b κ ps w start H S =
          let index = model_count w.context in
          let front = property_table w.context in
          let models : s.models ≡ index = models_count S in
          let count = property_count_lem index name front ps S.properties in
          let entries : (front ++ property_entries index ps) ++ ((s.models ∷ name ∷ []) ∷ []) ≡ front ++ property_entries index
          (ps ++ (value_at tree at ∷ [])) =
          rw (models, value) (more_in index (value_at tree at) front ps) in
          keeping_grown H z properties_area (property_count w.context + length ps + 1) _ refl
          (took_law T z S.properties) (omega arith) refl H.fitted.properties (omega (arith, before_length w.context)) refl
          (λ e. fitted_properties e H.fitted) (λ f q. rw q (contents_properties S (rw (← entries) f)))
