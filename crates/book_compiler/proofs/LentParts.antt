-- A routine that is lent one part of a memory: that part is what it left, every other is as it was; the memory between two books stands for the same context
-- after a routine that is lent area 12. By the law of parts. Assumes nothing.
use Rattle.std.proofs.Common.{◌≡◌, ℕ, zero, suc, ◌-◌, ◌<◌, Bool, true, false, cond, eqb, List, [], ◌∷◌, length, get_or, take, drop, replicate, sym, refl, ap}
use Rattle.std.proofs.Common.{◌∙◌, subst, arith, eqb-true}
use borrow.Author.Tests.{eqb-false}
use Rattle.memory.specs.Layout.{part, part_count, Fits}
use Rattle.memory.proofs.Parts.{put_part, put_same, put_other, put_length, part_length}
use Rattle.words.specs.Areas.{books_area}
use Rattle.definition.specs.Uses.{Use, Limits}
use Rattle.definition.specs.Book.{Context, book_count, opened}
use Rattle.building.proofs.Filling.{drop_zeros}
use Rattle.compiler_laws.specs.declared.book.Book as struct
use Rattle.compiler_laws.specs.BookAreas.{BookAreas, RepresentsAreas}
use Rattle.compiler_laws.specs.OpenedBooks.{opened_book, nobody}
use Rattle.compiler_laws.specs.BooksInOrder.{Zero}
use Rattle.constant_slots.specs.Plain.{pool_of}
use Rattle.undo.specs.Stood.{Stood}
use Rattle.book_compiler.specs.RepresentsBook.{book_laid, book_view, is_book_area, RepresentsBook}
use Rattle.book_compiler.specs.BookOrder.{LentPart, AtRest, with_books}
use Rattle.book_compiler.proofs.Parts.{slots_same}

module _ {i : ℕ} (h : i < 14) {R : List ℕ → List ℕ → Type 0} {a w w' : List ℕ} (f : Fits a (length w)) (L : LentPart i R a w w') where
  lent_same : part a i w' ≡ (L.on f).words
  lent_same = let p = L.on f in ap (part a i) p.is ∙ put_same a w p.words f i h p.long

  -- what was done to the part
  pub lent_does : R (part a i w) (part a i w')
  lent_does = rw lent_same (L.on f).does

  pub lent_length : length w' ≡ length w
  lent_length = let p = L.on f in ap (λ (x : List ℕ). length x) p.is ∙ put_length a w p.words f i h p.long

  pub lent_other : (j : ℕ) → j < 14 → (i ≡ j → ⊥) → part a j w' ≡ part a j w
  lent_other j g n = let p = L.on f in ap (part a j) p.is ∙ put_other a w p.words f i h p.long j g n

  -- the law of parts
  pub lent_part : (j : ℕ) → j < 14 → part a j w' ≡ cond (eqb i j) (part a i w') (part a j w)
  lent_part j g =
      let p = L.on f in
      ap (part a j) p.is ∙ put_part a w p.words f i h p.long j g ∙ ap (λ (x : List ℕ). cond (eqb i j) x (part a j w)) (sym lent_same)

  pub lent_fits : Fits a (length w')
  lent_fits = rw lent_length f

-- area 12 is none of those that a book is compiled into
books_view : {R : List ℕ → List ℕ → Type 0} {s : struct.Book} {a w w' : List ℕ} → Fits a (length w) → LentPart books_area R a w w'
    → book_view (book_laid s a w') ≡ book_view (book_laid s a w)
books_view f L =
    let at = lent_part (omega arith) f L in
    rw (
      at 1 (omega arith),
      at 2 (omega arith),
      at 3 (omega arith),
      at 4 (omega arith),
      at 5 (omega arith),
      at 6 (omega arith),
      at 7 (omega arith),
      at 8 (omega arith),
      at 9 (omega arith),
      at 10 (omega arith),
      at 11 (omega arith),
    ) refl

-- what stood, whatever stands as area 12: no book is compiled into it
pub stood_beside : (others : ℕ → List ℕ) (books : List ℕ) {words : ℕ → List ℕ}
    → ((i : ℕ) → i < part_count → is_book_area i ≡ true → Stood i (with_books others books i) (words i))
    → (i : ℕ) → i < part_count → is_book_area i ≡ true → Stood i (others i) (words i)
stood_beside others books {words} h i g q = go (eqb i books_area) refl (h i g q)
  where
    go : (t : Bool) → eqb i books_area ≡ t → Stood i (cond t books (others i)) (words i) → Stood i (others i) (words i)
    go true e s = absurd (let z : ◌≡◌ {A = ℕ} 0 1 = ap (λ (b : Bool). cond b 0 1) (sym q ∙ ap is_book_area (eqb-true i books_area e)) in omega arith)
    go false e s = s

-- between two books, after a routine that is lent area 12
pub still_at_rest : {κ : Limits} {others : ℕ → List ℕ} {R : List ℕ → List ℕ → Type 0} {s : struct.Book} {a w w' : List ℕ} {context : Context} {uses : List Use}
    → LentPart books_area R a w w' → AtRest κ others (book_laid s a w) context uses → AtRest κ others (book_laid s a w') context uses
still_at_rest {κ} {others} {R} {s} {a} {w} {w'} {context} {uses} L H =
    let f : Fits a (length w) = before.fits in
    let N = before.preserves.nothing in
    record {
      represents = record {
        ready = record {
          fits = lent_fits (omega arith) f L;
          preserves = record {
            same = λ j g q. go j g q (eqb j books_area) refl;
            stood = λ j g q. stays j g q (eqb j books_area) refl (before.preserves.stood j g q);
            nothing = record { names = N.names; breaks = N.breaks; errors = N.errors; slots = N.slots };
          };
          behind = λ z.
              let B = before.behind z in
              record {
                code = B.code;
                constants = B.constants;
                functions = B.functions;
                models = B.models;
                properties = B.properties;
                methods = B.methods;
                locals = B.locals;
                publics = B.publics;
              };
          keeping = subst (λ (v : BookAreas). RepresentsAreas κ [] v (opened nobody context uses))
              (sym (books_view {s = opened_book s (book_count context)} f L))
              before.keeping;
          standing = before.standing;
          slots = slots_same (lent_part (omega arith) f L 13 (omega arith))
              (ap (λ (k : List ℕ). pool_of s.constants k) (lent_part (omega arith) f L 2 (omega arith))) before.slots;
        };
      };
    }
  where
    before : RepresentsBook κ [] (with_books others (part a books_area w)) (book_laid (opened_book s (book_count context)) a w) (opened nobody context uses)
    before = H.represents.ready

    stays : (j : ℕ) → j < 14 → is_book_area j ≡ true → (t : Bool) → eqb j books_area ≡ t → Stood j (cond t (part a books_area w) (others j)) (part a j w)
        → Stood j (cond t (part a books_area w') (others j)) (part a j w')
    stays j g q true e s =
        absurd (let z : ◌≡◌ {A = ℕ} 0 1 = ap (λ (b : Bool). cond b 0 1) (sym q ∙ ap is_book_area (eqb-true j books_area e)) in omega arith)
    stays j g q false e s =
        subst (Stood j (others j)) (sym (lent_other (omega arith) before.fits L j g (λ n. eqb-false j books_area e (sym n)))) s

    go : (j : ℕ) → j < 14 → is_book_area j ≡ false → (t : Bool) → eqb j books_area ≡ t → part a j w' ≡ cond t (part a books_area w') (others j)
    go j g q true e = ap (λ (n : ℕ). part a n w') (eqb-true j books_area e)
    go j g q false e =
        lent_other (omega arith) before.fits L j g (λ n. eqb-false j books_area e (sym n)) ∙ before.preserves.same j g q
        ∙ ap (λ (t : Bool). cond t (part a books_area w) (others j)) e

-- the parts of two memories of the same length are as long
pub part_lengths : {a : List ℕ} (w w' : List ℕ) → Fits a (length w) → length w' ≡ length w → (i : ℕ) → i < 14 → length (part a i w') ≡ length (part a i w)
part_lengths {a} w w' f q i h = part_length w' (rw q f) i h ∙ sym (part_length w f i h)

-- zeros have zeros as parts
take_zeros : (n k : ℕ) → Zero (take n (replicate k 0))
take_zeros zero k = refl
take_zeros (suc n) zero = refl
take_zeros (suc n) (suc k) = ap (λ (l : List ℕ). 0 ∷ l) (take_zeros n k)

pub zero_part : (a w : List ℕ) (i : ℕ) → Zero w → Zero (part a i w)
unfolding part
zero_part a w i z =
    let zs : drop (get_or a i 0) w ≡ replicate (length w - get_or a i 0) 0 = ap (λ (y : List ℕ). drop (get_or a i 0) y) z ∙ drop_zeros (get_or a i 0)
    (length w) in
    rw zs (take_zeros (get_or a (suc i) 0 - get_or a i 0) (length w - get_or a i 0))
