-- A root that stands: nothing is needed, so nothing is compiled, no row 9 is met, and the program is delivered as it stood, with its words (`root_words`), its
-- totals (`root_totals`), its entry point and its global dependencies (`root_globals`); area 11 alone is cleared. Assumes nothing.
use Prim.Native.Nat.{ℕ, zero, suc, ◌+◌, ◌*◌, ◌≤◌, ◌<◌}
use native.Mathlib.Omega.{arith}
use mathlib.Core.Path.{◌≡◌, refl, sym, ap, ◌∙◌}
use mathlib.Core.Logic.{◌≢◌}
use mathlib.Core.Bool.{Bool, true, cond}
use mathlib.Core.Option.{Option, none}
use mathlib.Core.List.{List, [], ◌∷◌, append-nil}
use lib.ListN.{length, get_or, length-map, get_or-map}
use lib.Dec.{eqb, eqb→eq}
use Rattle.std.specs.Prelude.{Result, Ok}
use Rattle.words.specs.declared.row.Refused.{Refused}
use Rattle.words.specs.Ast.{Document}
use Rattle.words.specs.Areas.{constants_area, errors_area, books_area}
use Rattle.tree.specs.Check.{shape_of}
use Rattle.tree.specs.Reading.{documents_of}
use Rattle.definition.specs.Uses.{Limits, using'}
use Rattle.definition.specs.Prior.{file_numbers}
use Rattle.definition.specs.Book.{Context, has_text, book_count}
use Rattle.definition.specs.DependencySolver.{Delivered, loaded_of, needed_in, needed, missing, drive, compile_needed}
use Rattle.definition.specs.Program.{Entries, tables_of}
use Rattle.definition.specs.Answer.{Delivery, answer_by, answer_needed, answer_bundle, answer_documents, answer_twice, answer_shape, answer_from}
use Rattle.definition.specs.Answer.{twice, document_places, limits_of, reply_of, areas_of}
use Rattle.definition.specs.Within.{nil, ◌&◌, Areas, Program, lengths_of, total, present, cell, marked}
use Rattle.definition.specs.ProgramCheck.{begins_well, program_fault}
use Rattle.definition.specs.Onto.{lent_entries, context_of, OntoAnswer, Checked, lay_on_by, lay_on, areas_onto}
use Rattle.definition_laws.proofs.Tests.{second_of}
use Rattle.definition_laws.proofs.Uses.{none_over}
use Rattle.definition_laws.proofs.Counts.{loaded_length}
use Rattle.definition_laws.proofs.Keeps.{program_keeps}
use Rattle.definition_laws.proofs.Delivery.{Stands, stands_fits}
use Rattle.definition_laws.proofs.PassingAreas.{check_passes, lent_length}
use Rattle.definition_laws.proofs.ReadBack.{lent_table, tables_back, read_back}
use Rattle.definition_laws.proofs.ReadSafe.{read_stands}

-- nothing is asked for by nothing
nothing_needed : (k : ℕ) (standing : List ℕ) (ds : List Document) → needed_in k standing ds [] ≡ []
unfolding needed_in
nothing_needed zero standing ds = refl
nothing_needed (suc k) standing ds = nothing_needed k standing ds

root_needs_none : (standing : List ℕ) (root : Document) (others : List Document) → has_text root.filename standing ≡ true → needed standing root others ≡ []
root_needs_none standing root others h =
    ap (λ (b : Bool). needed_in (length (root ∷ others)) standing (root ∷ others) (cond b [] (root.filename ∷ []))) h
    ∙ nothing_needed (length (root ∷ others)) standing (root ∷ others)

-- a bundle that rows 2 to 5 let pass, whose root stands in a context
pub root_delivers : (c : Context) (w lengths : List ℕ) (root : Document) (others : List Document) → Stands lengths c → shape_of w ≡ Ok tt
    → twice [] w (document_places w) ≡ none → documents_of w ≡ root ∷ others → has_text root.filename (loaded_of c) ≡ true
    → answer_from c w lengths ≡ Delivery c
unfolding answer_from answer_bundle compile_needed drive
root_delivers c w lengths root others s fine once spelt stands =
    ap (λ (x : Result (Unit {0}) Refused). answer_shape x w l c) fine
    ∙ ap (λ (x : Option ℕ). answer_twice x w l c) once
    ∙ ap (λ (ds : List Document). answer_documents ds l c) spelt
    ∙ ap (λ (ns : List ℕ). answer_needed (missing (root ∷ others) ns) ns (root ∷ others) l c) (root_needs_none (loaded_of c) root others stands)
    ∙ ap (λ (o : Option ℕ). answer_by o (Delivered c)) (none_over l (using' books_area (length (loaded_of c) + 0) ∷ using' constants_area
    (length c.pool.constants) ∷ []) (books & s.fits constants_area & nil))
  where
    l : Limits
    l = limits_of lengths

    books : length (loaded_of c) + 0 ≤ get_or l books_area 0
    books = let h : book_count c + 0 ≤ get_or l books_area 0 = s.fits books_area in omega (arith, h, loaded_length c)

module _ (strict : Bool) (p : Program) (thirteen : length p.areas ≡ 13) (passed : program_fault p ≡ none) where
  abbrev c : Context
  c = context_of strict p

  module _ (w : List ℕ) (root : Document) (others : List Document) (fine : shape_of w ≡ Ok tt) (once : twice [] w (document_places w) ≡ none)
      (spelt : documents_of w ≡ root ∷ others) (stands : has_text root.filename (file_numbers (lent_entries p books_area)) ≡ true) where
    pub root_stands : lay_on strict w p ≡ Checked (Delivery c)
    unfolding lay_on context_of
    root_stands =
        ap (λ (o : Option ℕ). lay_on_by o strict w p) passed
        ∙ ap Checked (root_delivers c w (lengths_of p.areas) root others (read_stands strict p thirteen passed) fine once spelt
        (ap (λ (l : List ℕ). has_text root.filename l) (append-nil (file_numbers (lent_entries p books_area))) ∙ stands))

    pub root_words : (area : ℕ) → 0 < area → area < 13 → area ≢ errors_area → get_or (areas_onto p (lay_on strict w p)) area [] ≡ get_or p.areas area []
    unfolding areas_onto areas_of
    root_words area h k o = ap (λ (x : OntoAnswer). get_or (areas_onto p x) area []) root_stands ∙ read_back strict p thirteen passed area h k o

  -- totals, of every area but the errors'
  pub root_totals : (area : ℕ) → 0 < area → area < 13 → area ≢ errors_area → get_or (reply_of (Delivery c)).totals area 0 ≡ total p area
  unfolding reply_of
  root_totals area h k o =
      let s = check_passes p passed in
      get_or-map (λ (es : Entries). length es) (tables_of c) area []
      ∙ ap (λ (ts : List Entries). length (get_or ts area [])) (tables_back strict p s)
      ∙ ap (λ (es : Entries). length es) (lent_table strict p s area h k o)
      ∙ lent_length p area

  -- the marks of area 2 are all that is counted
  marked_same : (m n : Areas) (k : ℕ) → get_or m constants_area [] ≡ get_or n constants_area [] → marked m k ≡ marked n k
  marked_same m n zero e = refl
  marked_same m n (suc k) e =
      ap (λ x. x + cell m constants_area k 2) (marked_same m n k e) ∙ ap (λ (l : List ℕ). marked n k + get_or l (k * 3 + 2) 0) e

  pub root_globals : (reply_of (Delivery c)).globals ≡ p.globals
  unfolding areas_of
  root_globals =
      let lengths = lengths_of p.areas in
      let stands = read_stands strict p thirteen passed in
      let kept = program_keeps lengths c (length-map p.areas (λ (l : List ℕ). length l) ∙ thirteen) stands.safe (stands_fits lengths c stands) in
      let s = check_passes p passed in
      let here : present p constants_area ≡ total p constants_area = omega (arith, s.constants.fits) in
      kept.globals_counted
      ∙ marked_same (areas_of lengths (Delivery c)) p.areas (get_or (reply_of (Delivery c)).totals constants_area 0)
      (read_back strict p thirteen passed constants_area (omega arith) (omega arith) (λ e. omega (arith, e)))
      ∙ ap (λ n. marked p.areas n) (root_totals constants_area (omega arith) (omega arith) (λ e. omega (arith, e)) ∙ sym here)
      ∙ eqb→eq (marked p.areas (present p constants_area)) p.globals
      (second_of (begins_well p) (eqb (marked p.areas (present p constants_area)) p.globals) s.constants.whole)
