-- What the loops of `marks.rt` and `methods.rt` make of an entry, and of an area after some entries
-- Private contracts alone cite this file: whoever reads the promises need not believe it
use Rattle.std.specs.Prelude.{ℕ, ◌*◌, ◌%◌, ◌^◌, ◌≤◌, ◌<◌, ◌≡◌, cond, List, length, get_or, eqb, ltb}
use Rattle.words.specs.Areas.{entry_word}
use Rattle.undo.specs.Notes.{Words, words, note_method, noted_function}
use Rattle.undo.specs.declared.marks.Step.{Step}
use Rattle.undo.specs.declared.marks.Step.TheVariants.{Note, Restore, Settle}
use Rattle.undo.specs.declared.methods.Method.{Method}

-- the words of entry j, and what becomes of them
abbrev pub words_at : ℕ → List ℕ → Words
words_at j l = words (entry_word 3 j 0 l) (entry_word 3 j 1 l) (entry_word 3 j 2 l)

abbrev pub made : (ℕ → ℕ → ℕ → ℕ → Words) → ℕ → Words → Words
made f i x = f i x.first x.second x.third

-- a mark after a step, and the marks of the first n constants
abbrev pub mark_after : Step → ℕ → ℕ
mark_after Note c = cond (eqb c 1) 2 c
mark_after Restore c = cond (eqb c 2) 1 0
mark_after Settle c = cond (eqb c 0) 0 1

abbrev pub mark_anew : Step → ℕ → ℕ → ℕ → ℕ → ℕ → Words
mark_anew step n i a b c = words a b (cond (ltb i n) (mark_after step c) c)

-- a method after a step, where the first n stood
abbrev pub method_anew : Step → ℕ → ℕ → ℕ → ℕ → ℕ → Words
method_anew Note n i a b c = cond (ltb i n) (note_method (a % 2 ^ 56) (b % 2 ^ 20) (c % 2 ^ 56) (c % 2 ^ 56)) (words a b c)
method_anew Restore n i a b c = cond (ltb i n) (words (a % 2 ^ 56) (b % 2 ^ 20) (noted_function a b c)) (words a b c)
method_anew Settle n i a b c = cond (ltb i n) (words (a % 2 ^ 56) (b % 2 ^ 20) (c % 2 ^ 56)) (words a b (c % 2 ^ 56))

-- three words as the code holds them
abbrev pub method_of : Words → Method
method_of x = record { model = x.first; name = x.second; function = x.third }

-- the first i entries are done, and the words behind them are as they were
pub record Done (f : ℕ → ℕ → ℕ → ℕ → Words) (i : ℕ) (before now : List ℕ) : Type 0 where
  pub long : length now ≡ length before
  pub done : (j : ℕ) → j < i → words_at j now ≡ made f j (words_at j before)
  pub rest : (k : ℕ) → i * 3 ≤ k → get_or now k 0 ≡ get_or before k 0
