-- A delivery of laying on leaves every standing word of code, functions, models, properties, context locals, public names and books as lent (`standing_words`):
-- the words up to an area's lent total are the same before and after. From `onto_grows`, by writing entries out. Assumes nothing.
use Prim.Native.Nat.{ℕ, ◌-◌, ◌*◌, ◌<◌}
use native.Mathlib.Omega.{arith}
use mathlib.Core.Path.{◌≡◌, refl, sym, ap, ◌∙◌}
use mathlib.Core.Bool.{Bool}
use mathlib.Core.List.{List, [], ◌∷◌, ◌++◌, append_assoc}
use lib.ListN.{length, get_or, take, drop, replicate, length-map}
use lib.Seq.{take_at}
use Rattle.words.specs.Areas.{width_of, code_area, functions_area, models_area, properties_area, context_locals_area, public_names_area, books_area}
use Rattle.definition.specs.Book.{Context}
use Rattle.definition.specs.Program.{Entries, flat, filled, tables_of}
use Rattle.definition.specs.Answer.{Delivery, areas_of}
use Rattle.definition.specs.Within.{Program, lengths_of, total}
use Rattle.definition.specs.Onto.{lent_entries, OntoAnswer, Checked, lay_on, areas_onto}
use Rattle.definition_laws.proofs.Cells.{flat_length, filled_at}
use Rattle.definition_laws.proofs.PassingAreas.{Passing, check_passes, entries_of_split, lent_length, lent_wide}
use Rattle.definition_laws.proofs.OntoStays.{worked_answer}
use Rattle.definition_laws.proofs.OntoGrows.{BeginsWith, rest, then, Same, onto_grows}

-- entries that begin with others, word for word
record Continued (es fs : Entries) : Type 0 where
  more : Entries
  whole : es ++ more ≡ fs

continued : {es fs : Entries} → BeginsWith Same es fs → Continued es fs
continued (rest fs) = record { more = fs; whole = refl }
continued (then {e = e} {fs = fs} q b) =
    let x = continued b in
    record { more = x.more; whole = ap (λ (l : Entries). e ∷ l) x.whole ∙ ap (λ (y : List ℕ). y ∷ fs) q }

flat_append : (es fs : Entries) → flat (es ++ fs) ≡ flat es ++ flat fs
flat_append [] fs = refl
flat_append (e ∷ es) fs = ap (λ (l : List ℕ). e ++ l) (flat_append es fs) ∙ sym (append_assoc e (flat es) (flat fs))

module _ {p : Program} {area : ℕ} (a : Passing p area) where
  abbrev words : ℕ
  words = total p area * width_of area

  standing_length : length (flat (lent_entries p area)) ≡ words
  standing_length = flat_length (width_of area) (lent_wide a) ∙ ap (λ n. n * width_of area) (lent_length p area)

  -- the words up to the total are the entries'
  words_lent : take words (get_or p.areas area []) ≡ flat (lent_entries p area)
  words_lent =
      let m = get_or p.areas area [] in
      ap (λ (l : List ℕ). take words l) (sym (entries_of_split (width_of area) (total p area) m))
      ∙ take_at (flat (lent_entries p area)) (drop words m) words standing_length

  -- also in an area that is filled with entries that begin with them
  words_filled : (n : ℕ) (fs : Entries) → BeginsWith Same (lent_entries p area) fs → take words (filled n fs) ≡ flat (lent_entries p area)
  words_filled n fs b =
      let x = continued b in
      let es = lent_entries p area in
      let zeros : List ℕ = replicate (n - length (flat fs)) 0 in
      ap (λ (l : List ℕ). take words (l ++ zeros)) (ap flat (sym x.whole) ∙ flat_append es x.more)
      ∙ ap (λ (l : List ℕ). take words l) (append_assoc (flat es) (flat x.more) zeros)
      ∙ take_at (flat es) (flat x.more ++ zeros) words standing_length

module _ (strict : Bool) (w : List ℕ) (p : Program) (c : Context) (thirteen : length p.areas ≡ 13) (q : lay_on strict w p ≡ Checked (Delivery c)) where
  -- an area's standing words, before and after
  abbrev pub WordsStay : ℕ → Type 0
  WordsStay area =
      let n = total p area * width_of area in
      take n (get_or (areas_onto p (lay_on strict w p)) area []) ≡ take n (get_or p.areas area [])

  words_stay : (area : ℕ) → area < 13 → Passing p area → BeginsWith Same (lent_entries p area) (get_or (tables_of c) area []) → WordsStay area
  unfolding areas_onto areas_of tables_of
  words_stay area h a b =
      let lengths = lengths_of p.areas in
      ap (λ (x : OntoAnswer). take (total p area * width_of area) (get_or (areas_onto p x) area [])) q
      ∙ ap (λ (l : List ℕ). take (total p area * width_of area) l)
      (filled_at lengths (tables_of c) area (omega (arith, length-map p.areas (λ (l : List ℕ). length l), thirteen)) h)
      ∙ words_filled a (get_or lengths area 0) (get_or (tables_of c) area []) b
      ∙ sym (words_lent a)

  pub record StandingWords : Type 0 where
    pub code : WordsStay code_area
    pub functions : WordsStay functions_area
    pub models : WordsStay models_area
    pub properties : WordsStay properties_area
    pub locals : WordsStay context_locals_area
    pub publics : WordsStay public_names_area
    pub books : WordsStay books_area

  pub standing_words : StandingWords
  unfolding tables_of
  standing_words =
      let s = check_passes p (worked_answer strict w p (Delivery c) q).0 in
      let g = onto_grows strict w p c thirteen q in
      record {
        code = words_stay code_area (omega arith) s.code g.code;
        functions = words_stay functions_area (omega arith) s.functions g.functions;
        models = words_stay models_area (omega arith) s.models g.models;
        properties = words_stay properties_area (omega arith) s.properties g.properties;
        locals = words_stay context_locals_area (omega arith) s.locals g.locals;
        publics = words_stay public_names_area (omega arith) s.publics g.publics;
        books = words_stay books_area (omega arith) s.books g.books;
      }
