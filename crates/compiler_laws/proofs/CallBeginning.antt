-- The work begins: areas of zeros, three constants and an entry for each book are the definition's fresh context, ready for the first book. Assumes nothing.
use Prim.Native.Nat.{ℕ, ◌+◌, ◌-◌, ◌/◌, ◌≤◌, ◌<◌}
use native.Mathlib.Omega.{arith}
use native.Mathlib.Decide.{dec_le}
use mathlib.Core.Path.{◌≡◌, refl, sym, ap, ◌∙◌}
use mathlib.Core.Bool.{Bool, true, false}
use mathlib.Core.List.{List, [], ◌∷◌, ◌++◌}
use lib.ListN.{length, take, drop, replicate, length-append, length-replicate}
use lib.Dec.{eqb}
use borrow.Author.Tests.{eqb-true, eqb-false}
use Rattle.words.specs.Ast.{Document}
use Rattle.words.specs.Areas.{entries_in, constants_area, books_area}
use Rattle.words.specs.Object.{default_constants}
use Rattle.definition.specs.Uses.{Use, using', Limits, first_over}
use Rattle.definition.specs.Book.{new_context}
use Rattle.definition.specs.DependencySolver.{needed}
use Rattle.definition.specs.Program.{Entries, entries_from, constant_entry}
use Rattle.definition.specs.Within.{nil}
use Rattle.building.specs.declared.taking.Taken.{Taken}
use Rattle.building.specs.Taking.{Took, taken}
use Rattle.building.specs.RepresentsMachine.{Filled, Marks, unmarked, Sized}
use Rattle.building.proofs.Filling.{over_fits, over_here, over_stays, drop_zeros}
use Rattle.compiler_laws.specs.FileSets.{set_size, SetIs, Ascends, Below}
use Rattle.compiler_laws.specs.SolverSteps.{Bundle, waiting, TakesBooks}
use Rattle.building.proofs.ContextLaws.{Grown, grown, over, took_law, took_full}
use Rattle.compiler_laws.specs.declared.book.Book as struct
use Rattle.compiler_laws.specs.OpenedBooks.{Resting}
use Rattle.compiler_laws.specs.BooksInOrder.{Zero, begun_book, FirstConstants, Accepted, Cleared, Lent}
use Rattle.compiler_laws.proofs.BooksNeeded.{needed_ascends, needed_below}

-- an area of zeros has no entries
pub zero_filled : {width : ℕ} {l : List ℕ} → Zero l → Filled width l [] 0
zero_filled {l = l} z = record { zeros = length l; is = z; count = refl; wide = nil; room = omega arith }

-- entries of three words taken one after the other, from none: all of them, or the mark
record Taking (k : List ℕ) (es : Entries) (t : Taken) (l : List ℕ) : Type 0 where
  long : length l ≡ length k
  fits : length es ≤ entries_in 3 (length k) → (t.full ≡ 0) × Filled 3 l es t.count
  over : entries_in 3 (length k) < length es → t.full ≡ constants_area

taking_more : {k l l' : List ℕ} {es : Entries} {t t' : Taken} (x y v : ℕ) → Taking k es t l
    → Took constants_area t.full t.count (x ∷ y ∷ v ∷ []) l t' l' → Taking k (es ++ ((x ∷ y ∷ v ∷ []) ∷ [])) t' l'
taking_more {k} {l} {l'} {es} {t} {t'} x y v K T = go (dec_le (length es) (entries_in 3 (length k)))
  where
    one : length (es ++ ((x ∷ y ∷ v ∷ []) ∷ [])) ≡ length es + 1
    one = length-append es ((x ∷ y ∷ v ∷ []) ∷ [])

    by : t.full ≡ 0 → Filled 3 l es t.count → {t₂ : Taken} {l₂ : List ℕ} → Grown constants_area t.count (x ∷ y ∷ v ∷ []) l es t₂ l₂
        → Taking k (es ++ ((x ∷ y ∷ v ∷ []) ∷ [])) t₂ l₂
    by z f (grown room f' same) = record {
      long = same ∙ K.long;
      fits = λ h. (refl, f');
      over = λ h. absurd (let c : entries_in 3 (length l) ≡ entries_in 3 (length k) = ap (λ (n : ℕ). entries_in 3 n) K.long in omega (arith, one, f.count));
    }
    by z f (over none_left) = record {
      long = K.long;
      fits = λ h. absurd (let c : entries_in 3 (length l) ≡ entries_in 3 (length k) = ap (λ (n : ℕ). entries_in 3 n) K.long in omega (arith, one, f.count));
      over = λ h. refl;
    }

    go : Dec (length es ≤ entries_in 3 (length k)) → Taking k (es ++ ((x ∷ y ∷ v ∷ []) ∷ [])) t' l'
    go (yes q) = let F = K.fits q in by F.0 F.1 (took_law T F.0 F.1)
    go (no q) =
        let full : t.full ≡ constants_area = K.over (omega arith) in
        let F = took_full T (λ z. omega arith) in
        record {
          long = ap (λ (x : List ℕ). length x) F.1 ∙ K.long;
          fits = λ h. absurd (omega (arith, one));
          over = λ h. ap (λ (x : Taken). x.full) F.0 ∙ full;
        }

-- `first_constants`
pub first_constants : {k k₁ k₂ k₃ : List ℕ} {t₁ t₂ t₃ : Taken} → Took constants_area 0 0 (0 ∷ 0 ∷ 0 ∷ []) k t₁ k₁
    → Took constants_area t₁.full t₁.count (1 ∷ 1 ∷ 0 ∷ []) k₁ t₂ k₂ → Took constants_area t₂.full t₂.count (1 ∷ 0 ∷ 0 ∷ []) k₂ t₃ k₃
    → FirstConstants k t₃ k₃
first_constants {k} {k₃ = k₃} {t₃ = t₃} A B C = record { fits = λ z h. (taken_all z).fits h; over = λ z h. (taken_all z).over h }
  where
    start : Zero k → Taking k [] (taken 0 0) k
    start z = record { long = refl; fits = λ h. (refl, zero_filled z); over = λ h. absurd (omega arith) }

    taken_all : Zero k → Taking k (entries_from (constant_entry []) 0 default_constants) t₃ k₃
    taken_all z = taking_more 1 0 0 (taking_more 1 1 0 (taking_more 0 0 0 (start z) A) B) C

-- the notes of the beginning: the constants, then the books
abbrev pub begun_uses : ℕ → List Use
begun_uses books = using' books_area books ∷ using' constants_area 3 ∷ []

pub mark_constants : (κ : Limits) {k k₁ : List ℕ} {t : Taken} → Zero k → Sized κ constants_area k → FirstConstants k t k₁
    → Marks (first_over κ (using' constants_area 3 ∷ [])) t.full
unfolding first_over
mark_constants κ {k} {k₁} {t} z sized C = go (dec_le 3 (entries_in 3 (length k)))
  where
    nothing : Marks (first_over κ []) 0
    nothing = unmarked

    go : Dec (3 ≤ entries_in 3 (length k)) → Marks (first_over κ (using' constants_area 3 ∷ [])) t.full
    go (yes h) = rw (C.fits z h).0 (over_fits κ (using' constants_area 3) [] nothing refl (omega (arith, sized)))
    go (no h) = rw (C.over z (omega arith)) (over_here κ (using' constants_area 3) [] nothing refl (omega (arith, sized)) (omega arith))

-- the entries of the books needed, behind those of the books that stand: all of them, or the mark
module _ {tree set : List ℕ} {end full stand : ℕ} {o o₁ : List ℕ} {r : Taken} (B : TakesBooks tree end set full stand o r o₁) (ds : List Document)
    (numbers : List ℕ) (bundle : Bundle ds tree 0 end) (ascends : Ascends 0 numbers) (below : Below set_size numbers) (chosen : SetIs set numbers)
    (inside : stand ≤ entries_in 1 (length o)) where
  pub mark_books : (κ : Limits) (us : List Use) → Sized κ books_area o → Marks (first_over κ us) full
      → Marks (first_over κ (using' books_area (stand + length numbers) ∷ us)) r.full
  mark_books κ us sized M = go (eqb full 0) refl
    where
      room : full ≡ 0 → Dec (stand + length numbers ≤ entries_in 1 (length o))
          → Marks (first_over κ (using' books_area (stand + length numbers) ∷ us)) r.full
      room z (yes h) =
          let F = B.fits ds numbers bundle ascends below chosen z h in
          let same : r.full ≡ full = ap (λ (x : Taken). x.full) F.0 ∙ sym z in
          rw same (over_fits κ (using' books_area (stand + length numbers)) us M z (omega (arith, sized)))
      room z (no h) =
          rw (B.over ds numbers bundle ascends below chosen z inside (omega arith))
          (over_here κ (using' books_area (stand + length numbers)) us M z (omega (arith, sized)) (omega arith))

      go : (t : Bool) → eqb full 0 ≡ t → Marks (first_over κ (using' books_area (stand + length numbers) ∷ us)) r.full
      go true q = let z = eqb-true full 0 q in room z (dec_le (stand + length numbers) (entries_in 1 (length o)))
      go false q =
          let ne = eqb-false full 0 q in
          rw (B.marked ne).0 (over_stays κ (using' books_area (stand + length numbers)) us M ne)

  -- where nothing is full, nothing was
  pub no_mark : r.full ≡ 0 → full ≡ 0
  no_mark z = go (eqb full 0) refl
    where
      go : (y : Bool) → eqb full 0 ≡ y → full ≡ 0
      go true q = eqb-true full 0 q
      go false q = sym (B.marked (eqb-false full 0 q)).0 ∙ z

  -- and the books are there
  pub books_there : r.full ≡ 0
      → (r ≡ taken 0 (stand + length numbers)) × (o₁ ≡ take stand o ++ (waiting ds numbers ++ drop (stand + length numbers) o))
  books_there z = go (dec_le (stand + length numbers) (entries_in 1 (length o)))
    where
      go : Dec (stand + length numbers ≤ entries_in 1 (length o))
          → (r ≡ taken 0 (stand + length numbers)) × (o₁ ≡ take stand o ++ (waiting ds numbers ++ drop (stand + length numbers) o))
      go (yes h) = B.fits ds numbers bundle ascends below chosen (no_mark z) h
      go (no h) = absurd (omega (arith, z, B.over ds numbers bundle ascends below chosen (no_mark z) inside (omega arith)))

-- behind zeros are zeros
pub zero_drop : (i : ℕ) (a : List ℕ) → Zero a → Zero (drop i a)
zero_drop i a z =
    let zs : drop i a ≡ replicate (length a - i) 0 = ap (λ (y : List ℕ). drop i y) z ∙ drop_zeros i (length a) in
    zs ∙ ap (λ (y : ℕ). replicate y 0) (sym (ap (λ (y : List ℕ). length y) zs ∙ length-replicate {A = ℕ} (length a - i) 0))

-- areas of zeros with the three constants stand for a fresh context, whatever is noted beside them
pub fresh_resting : (strict : Bool) {c k f m p t l u n b e o : List ℕ} {x : Taken} (r : Taken) {k₁ : List ℕ} → FirstConstants k x k₁ → length k₁ ≡ length k
    → Cleared c k f m p t l u n b e o → (κ : Limits) → ((s : struct.Book) → Lent κ s c k f m p t l u n b e o) → {us : List Use}
    → Marks (first_over κ us) r.full → (r.full ≡ 0 → x.full ≡ 0)
    → Resting κ (begun_book strict r x.count) c k₁ f m p t l u n b e (new_context strict) us
fresh_resting strict {k = k} {x = x} r {k₁} C same zeros κ lent marks before = record {
  ready = record {
    fitted = record {
      code = (lent (begun_book strict r 0)).fitted.code;
      constants = rw same (lent (begun_book strict r 0)).fitted.constants;
      functions = (lent (begun_book strict r 0)).fitted.functions;
      models = (lent (begun_book strict r 0)).fitted.models;
      properties = (lent (begun_book strict r 0)).fitted.properties;
      methods = (lent (begun_book strict r 0)).fitted.methods;
      locals = (lent (begun_book strict r 0)).fitted.locals;
      publics = (lent (begun_book strict r 0)).fitted.publics;
      names = (lent (begun_book strict r 0)).fitted.names;
      breaks = (lent (begun_book strict r 0)).fitted.breaks;
      errors = (lent (begun_book strict r 0)).fitted.errors;
      others = (lent (begun_book strict r 0)).fitted.others;
    };
    full = marks;
    rest = λ y. record {
      code = zero_filled zeros.emptied.code;
      sized = nil;
      constants = constants_there y;
      marks = nil;
      functions = zero_filled zeros.emptied.functions;
      models = zero_filled zeros.emptied.models;
      properties = zero_filled zeros.emptied.properties;
      methods = zero_filled zeros.emptied.methods;
      locals = zero_filled zeros.emptied.locals;
      counted = refl;
      valued = nil;
      first_local = omega arith;
      named = record { up_to = refl; each = λ i h. absurd (omega arith) };
      publics = zero_filled zeros.emptied.publics;
      first_public = refl;
      prior = record { books = nil; publics = nil };
      file = refl;
      last_index = refl;
      mode = refl;
      indexed = λ i h. absurd (omega arith);
      entry = refl;
      names = zero_filled zeros.emptied.names;
      breaks = zero_filled zeros.emptied.breaks;
      errors = zero_filled zeros.errors;
    };
  };
}
  where
    constants_there : r.full ≡ 0 → Filled 3 k₁ (entries_from (constant_entry []) 0 default_constants) x.count
    constants_there z = go (dec_le 3 (entries_in 3 (length k)))
      where
        go : Dec (3 ≤ entries_in 3 (length k)) → Filled 3 k₁ (entries_from (constant_entry []) 0 default_constants) x.count
        go (yes h) = (C.fits zeros.emptied.constants h).1
        go (no h) = absurd (omega (arith, C.over zeros.emptied.constants (omega arith), before z))

module _ (strict : Bool) {tree set : List ℕ} {c k f m p t l u n b e o : List ℕ} {x r : Taken} {k₁ o₁ : List ℕ} (C : FirstConstants k x k₁)
    (B : TakesBooks tree (length tree / 4) set x.full 0 o r o₁) (same : length k₁ ≡ length k) where
  module _ {root : Document} {others : List Document} (A : Accepted tree set [] root others) (zeros : Cleared c k f m p t l u n b e o) (κ : Limits)
      (lent : (s : struct.Book) → Lent κ s c k f m p t l u n b e o) where
    abbrev pub numbers : List ℕ
    numbers = needed [] root others

    all : 0 + length numbers ≡ length numbers
    all = omega arith

    pub marks : Marks (first_over κ (begun_uses (length numbers))) r.full
    marks =
        rw all at (mark_books B (root ∷ others) numbers A.bundle (needed_ascends [] root others) (needed_below [] root others A.bundle.numbers)
        A.chosen (omega arith) κ (using' constants_area 3 ∷ []) (lent (begun_book strict r 0)).books
        (mark_constants κ zeros.emptied.constants (lent (begun_book strict r 0)).fitted.constants C))
