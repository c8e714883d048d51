-- The methods of a book where some stood before the bundle: a routine does to what area 6 says what the law of `compiler_laws` says of it, whatever is noted
-- in the words. By the laws of `undo`. Assumes nothing.
use Rattle.std.specs.Prelude.{Some, None}
use Rattle.std.proofs.Common.{◌≡◌, ℕ, ◌^◌, ◌<◌, ◌≤◌, List, [], ◌∷◌, sym, refl, ap, ◌∙◌, subst, arith}
use native.Mathlib.Decide.{ℕ_discrete}
use Rattle.words.specs.Areas.{methods_area, entry_field, write_word}
use Rattle.building.specs.declared.taking.Taken.{Taken}
use Rattle.building.specs.Taking.{Took, taken_of, took_words}
use Rattle.building.specs.Found.{Found, found_of}
use Rattle.compiler_laws.specs.declared.book.Book as struct
use Rattle.compiler_laws.specs.IncludeSteps.{find_pair_c}
use Rattle.compiler_laws.proofs.BookCounts.{with_method_count}
use Rattle.compiler_laws.proofs.InsertedMethods.{insert_full, insert_there, insert_new}
use Rattle.compiler_laws.proofs.CopiedMethods.{copy_full, copy_other, copy_one}
use Rattle.undo.specs.Notes.{plain_methods, with_function_word}
use Rattle.undo.proofs.PlainMethods.{plain_methods_length, plain_methods_took, plain_methods_function, plain_methods_fields}
use Rattle.book_compiler.specs.BookLeaves.{methods_said, InsertsNoted, CopiesNoted}
use Rattle.book_compiler.proofs.StoodBooks.{methods_stay, method_replaced, method_more, same_counts}

-- another function and an entry more, of what the area says; where none stood its words are what it says
said_function : (n i function : ℕ) (t : List ℕ) → ((n ≡ 0 → ⊥) → function < 2 ^ 56)
    → plain_methods n (with_function_word n i function t) ≡ write_word 3 i 2 function (plain_methods n t)
unfolding plain_methods
said_function n i function t small = go (ℕ_discrete n 0)
  where
    go : Dec (n ≡ 0) → plain_methods n (with_function_word n i function t) ≡ write_word 3 i 2 function (plain_methods n t)
    go (yes z) = rw z refl
    go (no ne) = plain_methods_function n i function t (small ne)

said_took : (n full count model name function : ℕ) (t : List ℕ) → (full ≡ 0 → n ≤ count) → ((n ≡ 0 → ⊥) → function < 2 ^ 56)
    → plain_methods n (took_words full count (model ∷ name ∷ function ∷ []) t) ≡ took_words full count (model ∷ name ∷ function ∷ []) (plain_methods n t)
unfolding plain_methods
said_took n full count model name function t first small = go (ℕ_discrete n 0)
  where
    go : Dec (n ≡ 0) → plain_methods n (took_words full count (model ∷ name ∷ function ∷ []) t)
        ≡ took_words full count (model ∷ name ∷ function ∷ []) (plain_methods n t)
    go (yes z) = rw z refl
    go (no ne) = plain_methods_took n full count model name function t first (small ne)

-- `insert_entry`
module _ (model name function : ℕ) {s : struct.Book} {t : List ℕ} where
  pub inserts_full : (s.full ≡ 0 → ⊥) → InsertsNoted model name function s t s t
  inserts_full ne = record { inserts = λ h f. insert_full model name function ne; spares = methods_stay s t; counts = same_counts s }

  pub inserts_there : s.full ≡ 0 → {g : Found} {i : ℕ} → g ≡ found_of (find_pair_c 3 0 s.methods model name (methods_said s t)) → g ≡ Some i → {t' : List ℕ}
      → t' ≡ with_function_word s.standing_methods i function t → InsertsNoted model name function s t s t'
  inserts_there z {g} {i} searched at {t'} q = record {
    inserts = λ h small. insert_there model name function z searched at {t' = methods_said s t'} (record {
      fitted = refl;
      words = ap (methods_said s) q ∙ said_function s.standing_methods i function t small;
    });
    spares = method_replaced i function z q;
    counts = same_counts s;
  }

  pub inserts_new : s.full ≡ 0 → {g : Found} → g ≡ found_of (find_pair_c 3 0 s.methods model name (methods_said s t)) → g ≡ None → {r : Taken} {t' : List ℕ}
      → Took methods_area s.full s.methods (model ∷ name ∷ function ∷ []) t r t' → InsertsNoted model name function s t (with_method_count r s) t'
  inserts_new z searched lost {r} {t'} T = record {
    inserts = λ h small. insert_new model name function z searched lost (record {
      reply = T.reply ∙ ap (taken_of methods_area 3 s.full s.methods) (sym (plain_methods_length s.standing_methods t));
      words = ap (methods_said s) T.words
          ∙ said_took s.standing_methods s.full s.methods model name function t h small;
    });
    spares = method_more T refl refl;
    counts = record { constants = refl; standing = refl };
  }

-- `copy_entry`
module _ {source target i : ℕ} {s : struct.Book} {t : List ℕ} where
  pub copies_full : (s.full ≡ 0 → ⊥) → CopiesNoted source target i s t s t
  copies_full ne = record { copies = λ h. copy_full ne; spares = methods_stay s t; counts = same_counts s }

  pub copies_other : s.full ≡ 0 → {model : ℕ} → model ≡ entry_field 3 i 0 (methods_said s t) → (model ≡ source → ⊥) → CopiesNoted source target i s t s t
  copies_other z first ne = record { copies = λ h. copy_other z first ne; spares = methods_stay s t; counts = same_counts s }

  pub copies_one : s.full ≡ 0 → {model name function : ℕ} → model ≡ entry_field 3 i 0 (methods_said s t) → model ≡ source
      → name ≡ entry_field 3 i 1 (methods_said s t) → function ≡ entry_field 3 i 2 (methods_said s t) → {s' : struct.Book} {t' : List ℕ}
      → InsertsNoted target name function s t s' t' → CopiesNoted source target i s t s' t'
  copies_one z {model} {name} {function} first own second third {s'} {t'} I = record {
    copies = λ h. copy_one z first own second third (I.inserts h (λ ne.
        subst (λ (f : ℕ). f < 2 ^ 56) (sym third) (plain_methods_fields s.standing_methods i t (omega (arith, ne)))));
    spares = I.spares;
    counts = I.counts;
  }
