-- The turns of the loops over marks and methods: the entries before are done and the words behind are as they were, so that at the end every entry is what the
-- definition makes of it. By the words of each entry. Assumes nothing.
use Prim.Native.Nat.{ℕ, ◌+◌, ◌*◌, ◌/◌, ◌≤◌, ◌<◌, min}
use native.Mathlib.Omega.{arith}
use native.Mathlib.Decide.{dec_lt}
use mathlib.Core.Path.{◌≡◌, sym, ◌∙◌}
use mathlib.Core.List.{List}
use lib.ListN.{length}
use borrow.Author.Tests.{ne_eqb, le-ltb}
use Rattle.words.specs.Areas.{entry_word}
use Rattle.undo.specs.Notes.{Words, words, entries_anew, noted_methods, restored_methods, plain_methods}
use Rattle.undo.specs.Turns.{words_at, made, mark_anew, method_anew, Done}
use Rattle.undo.specs.declared.marks.Step.{Step}
use Rattle.undo.specs.declared.marks.Step.TheVariants.{Note, Restore, Settle}
use Rattle.undo.proofs.EntriesAnew.{anew_is}

words_same : (l m : List ℕ) (j : ℕ) → ((r : ℕ) → r < 3 → entry_word 3 j r l ≡ entry_word 3 j r m) → words_at j l ≡ words_at j m
words_same l m j each = rw (each 0 (omega arith), each 1 (omega arith), each 2 (omega arith))

-- the loop's end
pub done_end : (f : ℕ → ℕ → ℕ → ℕ → Words) (i : ℕ) (l w : List ℕ) → i * 3 ≤ length l → Done f i l w
    → ((j : ℕ) → i ≤ j → j * 3 + 3 ≤ length l → made f j (words_at j l) ≡ words_at j l) → w ≡ entries_anew f 0 l
done_end f i l w inside d same =
    sym (anew_is f l w (sym d.long) (λ j h. whole j h (dec_lt j i)) (λ j r h. sym (d.rest (j * 3 + r) (omega arith))))
  where
    whole : (j : ℕ) → j * 3 + 3 ≤ length l → Dec (j < i) → made f j (words_at j l) ≡ words_at j w
    whole j h (yes b) = sym (d.done j b)
    whole j h (no b) = same j (omega arith) h ∙ words_same l w j (λ r k. sym (d.rest (j * 3 + r) (omega arith)))

pub marks_end : (step : Step) (n i : ℕ) (l w : List ℕ) → Done (mark_anew step n) i l w → i ≡ min n (length l / 3) → w ≡ entries_anew (mark_anew step n) 0 l
marks_end step n i l w d e =
    done_end (mark_anew step n) i l w (omega arith) d
    (λ j h k. let past : n ≤ j = omega arith in rw (le-ltb j n past))

-- methods
methods_behind : (step : Step) (n end : ℕ) (l w : List ℕ) → ((i a b c : ℕ) → n ≤ i → method_anew step n i a b c ≡ words a b c)
    → end ≡ min n (length l / 3) → Done (method_anew step n) end l w → w ≡ entries_anew (method_anew step n) 0 l
methods_behind step n end l w s e d = done_end (method_anew step n) end l w (omega arith) d (λ j h k. s j _ _ _ (omega arith))

pub methods_noted : (n end : ℕ) (l w : List ℕ) → end ≡ min n (length l / 3) → Done (method_anew Note n) end l w → w ≡ noted_methods n l
methods_noted n end l w e d = methods_behind Note n end l w (λ i a b c h. rw (le-ltb i n h)) e d

pub methods_restored : (n end : ℕ) (l w : List ℕ) → end ≡ min n (length l / 3) → Done (method_anew Restore n) end l w → w ≡ restored_methods n l
methods_restored n end l w e d = methods_behind Restore n end l w (λ i a b c h. rw (le-ltb i n h)) e d

pub methods_settled : (n : ℕ) (l w : List ℕ) → (n ≡ 0 → ⊥) → Done (method_anew Settle n) (length l / 3) l w → w ≡ plain_methods n l
unfolding plain_methods
methods_settled n l w h d =
    rw (ne_eqb n 0 h) (done_end (method_anew Settle n) (length l / 3) l w (omega arith) d (λ j k b. absurd (omega arith)))
