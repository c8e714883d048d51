-- The books of a bundle one after the other over one memory: one lemma for each way through a round of `drive`, and through its end. With the mark set the
-- notes are only added, so what is left to do changes nothing. On every way what stood is in place: no step writes it, and in area 12 only the words from
-- `done` on move. Assumes nothing.
use Rattle.std.proofs.Common.{◌≡◌, ℕ, suc, ◌+◌, ◌*◌, ◌/◌, ◌%◌, ◌<◌, ◌≤◌, Bool, true, cond, List, [], ◌∷◌, ◌++◌, length, get_or, sym, refl, ap, ◌∙◌, subst}
use Rattle.std.proofs.Common.{append_assoc, arith, length-append, Option, Some, None}
use native.Mathlib.Decide.{dec_le, ℕ_discrete}
use mathlib.Core.Option.{none, some}
use lib.ListN.{get_or-append}
use Rattle.memory.specs.Layout.{part, part_count, Fits}
use Rattle.words.specs.Ast.{Definition, Document}
use Rattle.words.specs.Areas.{entries_in, entry_word, entry_field, errors_area, books_area}
use Rattle.tree.specs.At.{DocumentAt, size_doc}
use Rattle.definition.specs.Prior.{file_numbers}
use Rattle.definition.specs.Uses.{Use, using', Limits, limit_of, first_over}
use Rattle.definition.specs.Compiler.{Error}
use Rattle.definition.specs.Program.{entries_from, error_entry}
use Rattle.definition.specs.Within.{All, nil, ◌&◌}
use Rattle.definition.specs.Book.{Context, opened, compile_definition, compile_definitions, compile_document}
use Rattle.definition.specs.DependencySolver.{Ring, Worked, after_book, drive, ready, without, files_of, loaded_of}
use Rattle.definition_laws.proofs.Counts.{loaded_length}
use Rattle.building.specs.declared.taking.Taken.{Taken}
use Rattle.building.specs.Taking.{Took, taken}
use Rattle.building.specs.RepresentsMachine.{Filled, Marks}
use Rattle.building.proofs.Filling.{over_fits, over_here}
use Rattle.building.proofs.Notes.{over_longer}
use Rattle.compiler_laws.specs.InsideFunction.{skip_c}
use Rattle.compiler_laws.proofs.Tokens.{skip_law}
use Rattle.compiler_laws.specs.declared.book.Book as struct
use Rattle.compiler_laws.specs.BookAreas.{NamesBooks}
use Rattle.compiler_laws.proofs.UnchangedByBooks.{Unchanged}
use Rattle.compiler_laws.proofs.BooksPutAway.{put_away, put_away_lem}
use Rattle.compiler_laws.specs.FileSets.{add_bit, Ascends}
use Rattle.compiler_laws.specs.SolverSteps.{InSets, book_unit, place_unit, AllWait, FindsReady, Brings}
use Rattle.compiler_laws.specs.BooksInOrder.{Leaves, Rung, PushesRingErrors}
use Rattle.compiler_laws.proofs.NotesOfDocuments.{unchanged_definitions, drive_longer, after_longer, loaded_more}
use Rattle.compiler_laws.proofs.BooksLeft.{all_ready, stood_at, added_at, leaves_are}
use Rattle.compiler_laws.proofs.BooksNeeded.{without_length, without_ascends, without_missing, wait_split, waits_grow, none_waits}
use Rattle.compiler_laws.proofs.WaitingBooks.{apart}
use Rattle.compiler_laws.proofs.RingErrors.{ring_end, ring_more}
use Rattle.compiler_laws.proofs.FileLists.{add_bit_length, set_add, add_grows}
use Rattle.book_compiler.specs.declared.order.Next.{Next}
use Rattle.undo.specs.Stood.{Stood}
use Rattle.book_compiler.specs.RepresentsBook.{BookMemory, book_laid, area_of, is_book_area, RepresentsBook, CompilesDocument}
use Rattle.book_compiler.specs.BookOrder.{LentPart, ReadsPart, with_books, Picked, PicksNext, PushesRingErrorsIn}
use Rattle.book_compiler.specs.BookOrder.{came_delivered, came_faulty, came_ring, Outcome, Driving, Drives}
use Rattle.book_compiler.proofs.Stood.{stood_nothing}
use Rattle.book_compiler.proofs.StoodBooks.{behind_grown}
use Rattle.book_compiler.proofs.LentParts.{lent_does, lent_other, lent_part, lent_fits, still_at_rest, stood_beside}

-- the end of `next_ready`: where none is ready, the count stands for it
pub none_ready : {tree : List ℕ} {end done count : ℕ} {set books after : List ℕ} {i : ℕ} → count ≤ i → FindsReady tree end done count set books i after
    → FindsReady tree end done count set books count after
none_ready past F = record {
  found = λ ds files left rest compiled S many in_all less. absurd (omega (arith, less));
  nothing = λ ds files left rest compiled S many in_all _. F.nothing ds files left rest compiled S many in_all past;
}

-- the ways of `pick_next`
module _ {tree : List ℕ} {end done count : ℕ} {set books marked : List ℕ} {i : ℕ} (N : FindsReady tree end done count set books i marked) where
  pub pick_none : i ≡ count → PicksNext tree end done count set None books marked
  pick_none past = record {
    picked = λ next e. absurd (no_next next e);
    nothing = λ _. subst (λ (k : ℕ). FindsReady tree end done count set books k marked) past N;
  }
    where
      no_next : (next : Next) → None ≡ Some next → ⊥
      no_next next e = cc

  pub pick_one : i < count → {entry : ℕ} {after : List ℕ} → entry ≡ entry_field 1 i 0 marked → Brings marked done i (entry / book_unit) after
      → PicksNext tree end done count set (Some (record { file = entry / book_unit; at = entry % place_unit })) books after
  pick_one inside {entry} {after} entry_is B = record {
    picked = λ next e. subst (λ (r : Next). Picked tree end done count set r books after) (some_is next e) there;
    nothing = λ e. absurd (let z : ◌≡◌ {A = Option Next} (Some (record { file = entry / book_unit; at = entry % place_unit })) None = e in cc);
  }
    where
      there : Picked tree end done count set (record { file = entry / book_unit; at = entry % place_unit }) books after
      there = record {
        index = i;
        inside = inside;
        marked = marked;
        ready = N;
        file = ap (λ (x : ℕ). x / book_unit) entry_is;
        at = ap (λ (x : ℕ). x % place_unit) entry_is;
        moved = B;
      }

      some_is : (next : Next) → Some (record { file = entry / book_unit; at = entry % place_unit }) ≡ Some next
          → ◌≡◌ {A = Next} (record { file = entry / book_unit; at = entry % place_unit }) next
      some_is next e = cc

-- the ways of `ring`
module _ {i count : ℕ} {t : Taken} {a w : List ℕ} where
  pub ring_done : count ≤ i → PushesRingErrorsIn i count t a w t w
  ring_done past = record { rings = λ f. ring_end past; others = λ f j g n. refl }

  pub ring_on : {word : ℕ} {t₁ r : Taken} {w₁ w₂ : List ℕ} → i < count → ReadsPart books_area (λ o. word ≡ entry_field 1 i 0 o) a w
      → LentPart errors_area (λ e e'. Took errors_area t.full t.count (11 ∷ 0 ∷ 0 ∷ word / book_unit ∷ []) e t₁ e') a w w₁
      → PushesRingErrorsIn (i + 1) count t₁ a w₁ r w₂ → PushesRingErrorsIn i count t a w r w₂
  ring_on {word} {t₁} {r} {w₁} {w₂} inside word-is T R = record {
    rings = λ f.
        let same : part a books_area w₁ ≡ part a books_area w = lent_part (omega arith) f T books_area (omega arith) in
        let onward : PushesRingErrors (i + 1) count (part a books_area w) t₁ (part a errors_area w₁) r (part a errors_area w₂) =
        rw same at (R.rings (lent_fits (omega arith) f T)) in
        ring_more inside (word-is.on f) (lent_does (omega arith) f T) onward;
    others = λ f j g n. R.others (lent_fits (omega arith) f T) j g n ∙ lent_other (omega arith) f T j g n;
  }

-- so many words at the front of area 12 are the files of the books that stand there
front_kept : (files x y : List ℕ) {books after : List ℕ} {done : ℕ} → done ≡ length files → books ≡ files ++ x → after ≡ files ++ y
    → (k : ℕ) → k < done → get_or after k 0 ≡ get_or books k 0
front_kept files x y many was is k h =
    ap (λ (l : List ℕ). get_or l k 0) is ∙ get_or-append files y 0 k (omega arith) ∙ sym (get_or-append files x 0 k (omega arith))
    ∙ sym (ap (λ (l : List ℕ). get_or l k 0) was)

module _ (calm : (d : Definition) → Unchanged (compile_definition d)) {tree : List ℕ} {end done count : ℕ} {set : List ℕ} {m : BookMemory} where
  -- no book is left
  pub drive_end : count ≤ done → Drives tree end done count set m m 0 count
  unfolding drive
  drive_end past = record { drives = go }
    where
      go : (ds : List Document) (left rest compiled : List ℕ) (κ : Limits) (others : ℕ → List ℕ) (context : Context) (uses : List Use)
          → Driving ds tree end done count left rest compiled set κ others m context uses
          → Outcome κ others done (area_of m books_area) m rest 0 count (drive (length left) ds compiled left context uses)
      go ds [] rest compiled κ others context uses D = record {
        full = D.resting.represents.ready.keeping.full;
        came = λ z. came_delivered refl (omega (arith, D.in_all, D.so_many)) D.resting
            (D.stands.area ∙ ap (λ (x : List ℕ). loaded_of context ++ (x ++ rest)) (none_waits ds tree end set D.stands.words D.stands.waits));
        stood = stood_beside others (area_of m books_area) D.resting.represents.ready.preserves.stood;
        named = λ k h. refl;
      }
      go ds (x ∷ left) rest compiled κ others context uses D = absurd (omega (arith, D.in_all))

same_files : (c c' : Context) {x y : ℕ} → c'.prior ≡ c.prior → c'.assemblies ≡ c.assemblies → x ≡ y
    → loaded_of c' ++ (x ∷ []) ≡ loaded_of c ++ (y ∷ [])
same_files c c' p q r = rw (p, q, r)

in-sets : (size : ℕ) (ds : List Document) → InSets size ds → All (λ (d : Document). d.filename < size) ds
in-sets size [] h = nil
in-sets size (d ∷ ds) h = h.0 & in-sets size ds h.2

-- area 12 names the books that stood before and those compiled so far where the next one's number stands behind them
module _ (context : Context) (file : ℕ) (books behind : List ℕ) (words : books ≡ (loaded_of context ++ (file ∷ [])) ++ behind) where
  in_order : books ≡ file_numbers context.prior.books ++ (files_of context.assemblies ++ (file ∷ behind))
  in_order = words ∙ simp append_assoc

  stood_shown : (i : ℕ) → i < length context.prior.books → entry_word 1 i 0 books ≡ get_or (get_or context.prior.books i []) 0 0
  stood_shown i h =
      let first : i * 1 + 0 ≡ i = omega arith in
      rw (first, in_order) (stood_at context.prior.books (files_of context.assemblies ++ (file ∷ behind)) i h)

  shown : (i : ℕ) → i < length context.assemblies
      → entry_word 1 (length context.prior.books + i) 0 books ≡ (get_or context.assemblies i (record { filename = 0; index = 0; publics = [] })).filename
  shown i h =
      let first : (length context.prior.books + i) * 1 + 0 ≡ length context.prior.books + i = omega arith in
      rw (first, in_order) (added_at context.prior.books context.assemblies (file ∷ behind) i h)

  named_books : NamesBooks books context
  named_books = record { stood = stood_shown; each = shown }

-- what is known after a book was compiled
record Round (ds : List Document) (tree : List ℕ) (end file : ℕ) (left rest compiled set : List ℕ) (κ : Limits) (others : ℕ → List ℕ) (m : BookMemory)
    (context : Context) (uses : List Use) : Type 0 where
  book : Document
  is : ready ds compiled left ≡ some book
  same : file ≡ book.filename
  one_less : length left ≡ suc (length (without file left))
  words : List ℕ
  area : area_of m books_area ≡ (loaded_of context ++ (file ∷ [])) ++ (words ++ rest)
  waits : AllWait ds tree end set (without file left) words
  small : file < length set * 64
  kept : RepresentsBook κ [] (with_books others (area_of m books_area)) m (compile_definitions book.definitions (opened book context uses))

module _ {tree : List ℕ} {end done count : ℕ} {set : List ℕ} {s s₁ : struct.Book} {a w w₁ w₂ : List ℕ} {o : Option Next} {r : Next} {last : ℕ}
    (N : LentPart books_area (PicksNext tree end done count set o) a w w₁) (found : o ≡ Some r) (last_is : last ≡ skip_c tree r.at end)
    (M : CompilesDocument tree r.at last done (book_laid s a w₁) (book_laid s₁ a w₂)) where
  abbrev file : ℕ
  file = r.file

  round : (ds : List Document) (left rest compiled : List ℕ) (κ : Limits) (others : ℕ → List ℕ) (context : Context) (uses : List Use)
      → Driving ds tree end done count left rest compiled set κ others (book_laid s a w) context uses
      → Round ds tree end file left rest compiled set κ others (book_laid s₁ a w₂) context uses
  round ds left rest compiled κ others context uses D =
      let K = (lent_does (omega arith) D.resting.represents.ready.fits N).picked r found in
      let marked = K.marked in
      let files = loaded_of context in
      let many : done ≡ length files = D.so_many ∙ sym (loaded_length context) in
      let Q = K.ready.found ds files left rest compiled D.stands many D.in_all K.inside in
      let d = Q.book in
      let same : file ≡ d.filename = K.file ∙ Q.file in
      let place : r.at ≡ entry_field 1 K.index 0 marked % place_unit = K.at in
      let split : left ≡ Q.before ++ (file ∷ Q.later) = Q.split ∙ ap (λ (n : ℕ). Q.before ++ (n ∷ Q.later)) (sym same) in
      let S = Q.stands in
      let W = wait_split ds tree end set Q.before file Q.later S.words
      (subst (λ (x : List ℕ). AllWait ds tree end set x S.words) split S.waits) in
      let out : without file left ≡ Q.before ++ Q.later
      = ap (λ (x : List ℕ). without file x) split ∙ apart 0 Q.before file Q.later (subst (λ (x : List ℕ). Ascends 0 x) split D.ascends) in
      let was : marked ≡ files ++ (W.front ++ (W.word ∷ (W.back ++ rest)))
      = S.area ∙ ap (λ (x : List ℕ). files ++ (x ++ rest)) W.is ∙ simp append_assoc in
      let area : part a books_area w₁ ≡ (files ++ (file ∷ [])) ++ ((W.front ++ W.back) ++ rest)
      = K.moved.brings files W.front (W.back ++ rest) W.word was many (Q.index ∙ omega (arith, W.long)) ∙ simp append_assoc in
      let D' : DocumentAt d tree r.at = subst (λ (n : ℕ). DocumentAt d tree n) (sym place) Q.document in
      let within : r.at + size_doc d ≤ end = subst (λ (n : ℕ). n + size_doc d ≤ end) (sym place) Q.inside in
      let ends : last ≡ r.at + size_doc d = last_is ∙ skip_law tree r.at end D'.head (omega arith) within in
      let kept = M.meets d D' (sym ends) (all_ready ds compiled left D.limited Q.is) κ (with_books others (part a books_area w₁)) context uses D.so_many
      (named_books context file (part a books_area w₁) ((W.front ++ W.back) ++ rest) area) (still_at_rest N D.resting).represents in
      let stays : part a books_area w₂ ≡ part a books_area w₁ = kept.preserves.same books_area (omega arith) refl in
      record {
        book = d;
        is = Q.is;
        same = same;
        one_less = subst (λ (l : List ℕ). length l ≡ suc (length (without file l))) (sym split)
            (let h = without_length file Q.before Q.later in omega arith);
        words = W.front ++ W.back;
        area = stays ∙ area;
        waits = subst (λ (x : List ℕ). AllWait ds tree end set x (W.front ++ W.back)) (sym out) W.others;
        small = subst (λ (n : ℕ). n < length set * 64) (sym same) (all_ready ds compiled left (in-sets (length set * 64) ds D.stands.room) Q.is);
        kept = subst
            (λ (x : List ℕ). RepresentsBook κ [] (with_books others x) (book_laid s₁ a w₂) (compile_definitions d.definitions (opened d context uses)))
            (sym stays) kept;
      }

  module _ (calm : (d : Definition) → Unchanged (compile_definition d)) where
    -- what comes after the book: by its errors
    follows : {ds : List Document} {left rest compiled : List ℕ} {κ : Limits} {others : ℕ → List ℕ} {context : Context} {uses : List Use}
        (R : Round ds tree end file left rest compiled set κ others (book_laid s₁ a w₂) context uses)
        → drive (length left) ds compiled left context uses
        ≡ (let x = compile_definitions R.book.definitions (opened R.book context uses) in after_book x.compiler.errors file (put_away x) x.uses
        (λ c' uses'. drive (length (without file left)) ds (file ∷ compiled) (without file left) c' uses'))
    unfolding drive compile_document
    follows {left = left} R =
        let one_less : length left ≡ suc (length (without R.book.filename left))
        = subst (λ (f : ℕ). length left ≡ suc (length (without f left))) R.same R.one_less in
        rw (one_less, R.is, R.same)

    -- the books that were done before it are named as they were
    still_named : {ds : List Document} {left rest compiled : List ℕ} {κ : Limits} {others : ℕ → List ℕ} {context : Context} {uses : List Use}
        → Driving ds tree end done count left rest compiled set κ others (book_laid s a w) context uses
        → Round ds tree end file left rest compiled set κ others (book_laid s₁ a w₂) context uses
        → (k : ℕ) → k < done → get_or (part a books_area w₂) k 0 ≡ get_or (part a books_area w) k 0
    still_named {rest = rest} {context = context} D R =
        front_kept (loaded_of context) (D.stands.words ++ rest) (file ∷ (R.words ++ rest)) (D.so_many ∙ sym (loaded_length context)) D.stands.area
        (R.area ∙ append_assoc (loaded_of context) (file ∷ []) (R.words ++ rest))

    pub round_full : (s₁.full ≡ 0 → ⊥) → (row place : ℕ) → Drives tree end done count set (book_laid s a w) (book_laid s₁ a w₂) row place
    round_full ne row place = record {
      drives = λ ds left rest compiled κ others context uses D.
          let R = round ds left rest compiled κ others context uses D in
          let x = compile_definitions R.book.definitions (opened R.book context uses) in
          let longer = after_longer calm x.compiler.errors file (put_away x) x.uses
          (λ c' uses'. drive (length (without file left)) ds (file ∷ compiled) (without file left) c' uses')
          (λ y us. drive_longer calm (length (without file left)) ds (file ∷ compiled) (without file left) y us) in
          record {
            full = rw (follows R) (over_longer κ longer R.kept.keeping.full ne);
            came = λ z. absurd (ne z);
            stood = stood_beside others (part a books_area w₂) R.kept.preserves.stood;
            named = still_named D R;
          };
    }

    module _ (z₁ : s₁.full ≡ 0) where
      pub round_faulty : (s₁.errors ≡ 0 → ⊥) → Drives tree end done count set (book_laid s a w) (book_laid s₁ a w₂) 7 file
      round_faulty some-error = record {
        drives = λ ds left rest compiled κ others context uses D.
            let R = round ds left rest compiled κ others context uses D in
            let x = compile_definitions R.book.definitions (opened R.book context uses) in
            rw (follows R) (go x.compiler.errors (R.kept.keeping.rest z₁).errors (put_away x) x.uses _ R.kept.keeping.full
            (stood_beside others (part a books_area w₂) R.kept.preserves.stood) (still_named D R));
      }
        where
          go : {κ : Limits} {others : ℕ → List ℕ} {rest : List ℕ} (es : List Error)
              → Filled 4 (part a errors_area w₂) (entries_from error_entry 0 es) s₁.errors → (y : Context) (us : List Use)
              (goes : Context → List Use → Worked) → Marks (first_over κ us) s₁.full
              → ((i : ℕ) → i < part_count → is_book_area i ≡ true → Stood i (others i) (part a i w₂))
              → ((k : ℕ) → k < done → get_or (part a books_area w₂) k 0 ≡ get_or (part a books_area w) k 0)
              → Outcome κ others done (part a books_area w) (book_laid s₁ a w₂) rest 7 file (after_book es file y us goes)
          go [] F y us goes h stood named = absurd (some-error F.count)
          go (x ∷ es) F y us goes h stood named = record { full = h; came = λ z. came_faulty refl refl F; stood = stood; named = named }

      pub round_more : {set₁ : List ℕ} {m' : BookMemory} {row place : ℕ} → s₁.errors ≡ 0 → set₁ ≡ add_bit set file
          → Drives tree end (done + 1) count set₁ (book_laid s₁ a w₂) m' row place
          → Drives tree end done count set (book_laid s a w) m' row place
      round_more {set₁} {m'} {row} {place} no-error set_is onward = record {
        drives = λ ds left rest compiled κ others context uses D.
            let R = round ds left rest compiled κ others context uses D in
            let x = compile_definitions R.book.definitions (opened R.book context uses) in
            let C = unchanged_definitions calm R.book.definitions (opened R.book context uses) in
            let clean : x.compiler.errors ≡ [] = no_errors x.compiler.errors (R.kept.keeping.rest z₁).errors in
            let files : loaded_of (put_away x) ≡ loaded_of context ++ (file ∷ []) =
            loaded_more x ∙ same_files context x.context C.prior C.assemblies (C.filename ∙ sym R.same) in
            let next : Driving ds tree end (done + 1) count (without file left) rest (file ∷ compiled) set₁ κ others (book_laid s₁ a w₂) (put_away x) x.uses
            = record {
              distinct = D.distinct;
              limited = D.limited;
              ascends = without_ascends 0 file left D.ascends;
              stands = record {
                bundle = D.stands.bundle;
                limit = D.stands.limit;
                there = without_missing ds file left D.stands.there;
                words = R.words;
                area = rw files R.area;
                waits = rw set_is (waits_grow ds tree end (without file left) R.words (add_grows set file R.small) R.waits);
                held = rw set_is (set_add set compiled file D.stands.held R.small);
                room = rw (set_is, add_bit_length set file) D.stands.room;
              };
              so_many = rw (length-append x.context.assemblies (x.assembly ∷ []), C.assemblies, C.prior) (omega (arith, D.so_many));
              in_all = omega (arith, D.in_all, R.one_less);
              resting = record {
                represents = record {
                  ready = record {
                    fits = R.kept.fits;
                    preserves = record { same = R.kept.preserves.same; stood = R.kept.preserves.stood; nothing = R.kept.preserves.nothing };
                    behind = λ y. behind_grown refl (omega arith) (omega arith) (R.kept.behind y);
                    keeping = (put_away_lem clean R.kept.keeping).ready;
                    standing = R.kept.standing;
                    slots = R.kept.slots;
                  };
                };
              };
            } in
            let O = onward.drives ds (without file left) rest (file ∷ compiled) κ others (put_away x) x.uses next in
            subst (λ (v : Worked). Outcome κ others done (part a books_area w) m' rest row place v)
            (sym (follows R ∙ ap (λ (es : List Error). after_book es file (put_away x) x.uses
            (λ y us. drive (length (without file left)) ds (file ∷ compiled) (without file left) y us)) clean))
            (record { full = O.full; came = O.came; stood = O.stood; named = λ k h. O.named k (omega arith) ∙ still_named D R k h });
      }
        where
          no_errors : (es : List Error) → Filled 4 (part a errors_area w₂) (entries_from error_entry 0 es) s₁.errors → es ≡ []
          no_errors [] F = refl
          no_errors (y ∷ es) F = absurd (omega (arith, F.count, no-error))

-- no book is ready: a ring
module _ {tree : List ℕ} {end done count : ℕ} {set : List ℕ} {s s₁ : struct.Book} {a w w₁ w₂ : List ℕ} {o : Option Next} {place : ℕ} {x : Taken}
    (z : s.full ≡ 0) (N : LentPart books_area (PicksNext tree end done count set o) a w w₁) (inside : done < count) (past : o ≡ None)
    (G : PushesRingErrorsIn done count (taken 0 0) a w₁ x w₂) (Full-is : s₁.full ≡ x.full) (errors-are : s₁.errors ≡ x.count)
    (place_is : done + place ≡ count) where
  pub drive_ring : Drives tree end done count set (book_laid s a w) (book_laid s₁ a w₂) 8 place
  unfolding drive
  drive_ring = record {
    drives = λ ds left rest compiled κ others context uses D.
        let f = D.resting.represents.ready.fits in
        let many : done ≡ length (loaded_of context) = D.so_many ∙ sym (loaded_length context) in
        let Q = ((lent_does (omega arith) f N).nothing past).nothing ds (loaded_of context) left rest compiled D.stands many D.in_all (omega arith) in
        let same : part a errors_area w₁ ≡ part a errors_area w = lent_part (omega arith) f N errors_area (omega arith) in
        let rung : PushesRingErrors done count (part a books_area w₁) (taken 0 0) (part a errors_area w) x (part a errors_area w₂) =
        rw same at (G.rings (lent_fits (omega arith) f N)) in
        go ds left rest compiled κ others context uses D rung Q.is (rw (← many) at (leaves_are Q.stands)) (still D)
        (λ k h. ap (λ (l : List ℕ). get_or l k 0) (rings f books_area (omega arith) (λ e. omega arith))
        ∙ front_kept (loaded_of context) (D.stands.words ++ rest) (Q.stands.words ++ rest) many D.stands.area Q.stands.area k h);
  }
    where
      -- the errors' part is the only one that is written
      rings : Fits a (length w) → (j : ℕ) → j < part_count → (errors_area ≡ j → ⊥) → part a j w₂ ≡ part a j w₁
      rings f = G.others (lent_fits (omega arith) f N)

      still : {ds : List Document} {left rest compiled : List ℕ} {κ : Limits} {others : ℕ → List ℕ} {context : Context} {uses : List Use}
          → Driving ds tree end done count left rest compiled set κ others (book_laid s a w) context uses
          → (i : ℕ) → i < part_count → is_book_area i ≡ true → Stood i (others i) (part a i w₂)
      still {others = others} D i g q = by (ℕ_discrete errors_area i) (ℕ_discrete books_area i)
        where
          f : Fits a (length w)
          f = D.resting.represents.ready.fits

          by : Dec (errors_area ≡ i) → Dec (books_area ≡ i) → Stood i (others i) (part a i w₂)
          by (yes e) d =
              stood_nothing (part a i w₂) (ap (λ (n : ℕ). length (others n)) (sym e) ∙ D.resting.represents.ready.preserves.nothing.errors)
          by (no e) (yes b) = absurd (let z : ◌≡◌ {A = ℕ} 0 1 = ap (λ (t : Bool). cond t 0 1) (sym q ∙ ap is_book_area (sym b)) in omega arith)
          by (no e) (no b) =
              subst (Stood i (others i)) (sym (rings f i g e ∙ lent_other (omega arith) f N i g b))
              (stood_beside others (part a books_area w) D.resting.represents.ready.preserves.stood i g q)

      go : (ds : List Document) (left rest compiled : List ℕ) (κ : Limits) (others : ℕ → List ℕ) (context : Context) (uses : List Use)
          → Driving ds tree end done count left rest compiled set κ others (book_laid s a w) context uses
          → PushesRingErrors done count (part a books_area w₁) (taken 0 0) (part a errors_area w) x (part a errors_area w₂)
          → ready ds compiled left ≡ none → Leaves (part a books_area w₁) done left
          → ((i : ℕ) → i < part_count → is_book_area i ≡ true → Stood i (others i) (part a i w₂))
          → ((k : ℕ) → k < done → get_or (part a books_area w₂) k 0 ≡ get_or (part a books_area w) k 0)
          → Outcome κ others done (part a books_area w) (book_laid s₁ a w₂) rest 8 place (drive (length left) ds compiled left context uses)
      go ds [] rest compiled κ others context uses D rung q h stood named = absurd (omega (arith, D.in_all))
      go ds (y ∷ left) rest compiled κ others context uses D rung q h stood named =
          let K = D.resting.represents.ready.keeping in
          let S = K.rest z in
          let R = rung.rings [] (y ∷ left) h (sym D.in_all) refl (rw S.errors.count at S.errors) in
          let all : place ≡ length (y ∷ left) = omega (arith, D.in_all) in
          let caps : entries_in 4 (length (part a errors_area w)) ≡ limit_of κ errors_area = K.fitted.errors in
          rw q (by all caps K.full R (dec_le (length (y ∷ left)) (entries_in 4 (length (part a errors_area w)))))
        where
          by : place ≡ length (y ∷ left) → entries_in 4 (length (part a errors_area w)) ≡ limit_of κ errors_area → Marks (first_over κ uses) s.full
              → Rung [] (y ∷ left) (part a errors_area w) x (part a errors_area w₂)
              → Dec (length (y ∷ left) ≤ entries_in 4 (length (part a errors_area w)))
              → Outcome κ others done (part a books_area w) (book_laid s₁ a w₂) rest 8 place
              (record { ending = Ring (y ∷ left); uses = using' errors_area (length (y ∷ left)) ∷ uses })
          by all caps marks R (yes fits) =
              let F = R.fits (omega arith) in
              let same : s₁.full ≡ s.full = Full-is ∙ F.0 ∙ sym z in
              record {
                full = rw same (over_fits κ (using' errors_area (length (y ∷ left))) uses marks z (omega arith));
                came = λ z₁. came_ring {left = y ∷ left} refl all (rw errors-are F.1);
                stood = stood;
                named = named;
              }
          by all caps marks R (no over) =
              let F : s₁.full ≡ errors_area = Full-is ∙ R.over (omega arith) in
              record {
                full = rw F (over_here κ (using' errors_area (length (y ∷ left))) uses marks z (omega arith) (omega arith));
                came = λ z₁. absurd (omega (arith, F, z₁));
                stood = stood;
                named = named;
              }
