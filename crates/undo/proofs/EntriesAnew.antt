-- Entries of three words anew: how many words there are, what each word is, and what a word or an entry written before or after does. By induction over the
-- entries. Assumes nothing.
use Prim.Native.Nat.{ℕ, zero, suc, ◌+◌, ◌*◌, ◌/◌, ◌%◌, ◌≤◌, ◌<◌}
use native.Mathlib.Nat.{zero-add}
use native.Mathlib.Omega.{arith}
use native.Mathlib.Decide.{dec_le}
use mathlib.Core.Path.{◌≡◌, refl, sym, ap, subst, ◌∙◌}
use mathlib.Core.Bool.{Bool, true, false, cond}
use mathlib.Core.List.{List, [], ◌∷◌}
use lib.ListN.{length, get_or, set, replicate}
use lib.Seq.{ext_get_or}
use lib.Dec.{eqb, ltb}
use borrow.Author.Tests.{eqb-true, ltb-true}
use Rattle.words.specs.Areas.{entry_word, set_entry, write_word}
use Rattle.building.specs.Taking.{has_room, took_words}
use Rattle.building.proofs.Filling.{room_fits}
use Rattle.undo.specs.Notes.{Words, words, entries_anew}
use Rattle.undo.specs.Turns.{words_at, made}

pub anew_length : (f : ℕ → ℕ → ℕ → ℕ → Words) (i : ℕ) (l : List ℕ) → length (entries_anew f i l) ≡ length l
anew_length f i [] = refl
anew_length f i (a ∷ []) = refl
anew_length f i (a ∷ (b ∷ [])) = refl
anew_length f i (a ∷ (b ∷ (c ∷ l))) = ap (λ (n : ℕ). suc (suc (suc n))) (anew_length f (suc i) l)

-- a word behind the first entry
pub word_behind : (a b c : ℕ) (l : List ℕ) (j r : ℕ) → entry_word 3 (suc j) r (a ∷ b ∷ c ∷ l) ≡ entry_word 3 j r l
word_behind a b c l j r = let next : suc j * 3 + r ≡ suc (suc (suc (j * 3 + r))) = omega arith in rw next

words_behind : (a b c : ℕ) (l : List ℕ) (j : ℕ) → words_at (suc j) (a ∷ b ∷ c ∷ l) ≡ words_at j l
words_behind a b c l j = rw (word_behind a b c l j 0, word_behind a b c l j 1, word_behind a b c l j 2)

-- the words of an entry that is whole, and those of one that is not
pub anew_entry : (f : ℕ → ℕ → ℕ → ℕ → Words) (i : ℕ) (l : List ℕ) (j : ℕ) → j * 3 + 3 ≤ length l
    → words_at j (entries_anew f i l) ≡ made f (i + j) (words_at j l)
anew_entry f i [] j h = absurd (omega arith)
anew_entry f i (a ∷ []) j h = absurd (omega arith)
anew_entry f i (a ∷ (b ∷ [])) j h = absurd (omega arith)
anew_entry f i (a ∷ (b ∷ (c ∷ l))) zero h = let here : i + 0 ≡ i = omega arith in rw here
anew_entry f i (a ∷ (b ∷ (c ∷ l))) (suc j) h =
    let next : i + suc j ≡ suc i + j = omega arith in
    let x : Words = f i a b c in
    words_behind x.first x.second x.third (entries_anew f (suc i) l) j
    ∙ anew_entry f (suc i) l j (omega arith)
    ∙ rw (next, word_behind a b c l j 0, word_behind a b c l j 1, word_behind a b c l j 2)

pub anew_beyond : (f : ℕ → ℕ → ℕ → ℕ → Words) (i : ℕ) (l : List ℕ) (j r : ℕ) → length l < j * 3 + 3
    → entry_word 3 j r (entries_anew f i l) ≡ entry_word 3 j r l
anew_beyond f i [] j r h = refl
anew_beyond f i (a ∷ []) j r h = refl
anew_beyond f i (a ∷ (b ∷ [])) j r h = refl
anew_beyond f i (a ∷ (b ∷ (c ∷ l))) zero r h = absurd (omega arith)
anew_beyond f i (a ∷ (b ∷ (c ∷ l))) (suc j) r h =
    let x : Words = f i a b c in
    word_behind x.first x.second x.third (entries_anew f (suc i) l) j r
    ∙ anew_beyond f (suc i) l j r (omega arith)
    ∙ sym (word_behind a b c l j r)

-- an entry written before is one written after
abbrev pub entry_of : Words → List ℕ
entry_of x = x.first ∷ x.second ∷ x.third ∷ []

set_behind : (j a b c x y z : ℕ) (l : List ℕ)
    → set_entry 3 (suc j) (a ∷ b ∷ c ∷ []) (x ∷ y ∷ z ∷ l) ≡ x ∷ y ∷ z ∷ set_entry 3 j (a ∷ b ∷ c ∷ []) l
set_behind j a b c x y z l =
    let from : suc j * 3 ≡ suc (suc (suc (j * 3))) = omega arith in
    let past : suc (suc (suc (j * 3))) + 3 ≡ suc (suc (suc (j * 3 + 3))) = omega arith in
    rw (from, past)

pub anew_set_entry : (f : ℕ → ℕ → ℕ → ℕ → Words) (i : ℕ) (l : List ℕ) (j a b c : ℕ) → j * 3 + 3 ≤ length l
    → entries_anew f i (set_entry 3 j (a ∷ b ∷ c ∷ []) l) ≡ set_entry 3 j (entry_of (f (i + j) a b c)) (entries_anew f i l)
anew_set_entry f i [] j a b c h = absurd (omega arith)
anew_set_entry f i (x ∷ []) j a b c h = absurd (omega arith)
anew_set_entry f i (x ∷ (y ∷ [])) j a b c h = absurd (omega arith)
anew_set_entry f i (x ∷ (y ∷ (z ∷ l))) zero a b c h = let here : i + 0 ≡ i = omega arith in rw here
anew_set_entry f i (x ∷ (y ∷ (z ∷ l))) (suc j) a b c h =
    let next : i + suc j ≡ suc i + j = omega arith in
    let u : Words = f i x y z in
    let v : Words = f (suc i + j) a b c in
    rw (next, set_behind j a b c x y z l, anew_set_entry f (suc i) l j a b c (omega arith))
    (sym (set_behind j v.first v.second v.third u.first u.second u.third (entries_anew f (suc i) l)))

-- the last word of an entry written, where the two before do not depend on it
set_word_behind : (j v x y z : ℕ) (l : List ℕ) → set (x ∷ y ∷ z ∷ l) (suc j * 3 + 2) v ≡ x ∷ y ∷ z ∷ set l (j * 3 + 2) v
set_word_behind j v x y z l = let next : suc j * 3 + 2 ≡ suc (suc (suc (j * 3 + 2))) = omega arith in rw next

pub record Aside (f : ℕ → ℕ → ℕ → ℕ → Words) : Type 0 where
  pub first : (i a b c d : ℕ) → (f i a b c).first ≡ (f i a b d).first
  pub second : (i a b c d : ℕ) → (f i a b c).second ≡ (f i a b d).second

pub anew_set_word : (f : ℕ → ℕ → ℕ → ℕ → Words) → Aside f → (i : ℕ) (l : List ℕ) (j v : ℕ)
    → entries_anew f i (set l (j * 3 + 2) v)
    ≡ set (entries_anew f i l) (j * 3 + 2) (f (i + j) (entry_word 3 j 0 l) (entry_word 3 j 1 l) v).third
anew_set_word f s i [] j v = refl
anew_set_word f s i (x ∷ []) zero v = refl
anew_set_word f s i (x ∷ []) (suc j) v = let next : suc j * 3 + 2 ≡ suc (suc (suc (j * 3 + 2))) = omega arith in rw next
anew_set_word f s i (x ∷ (y ∷ [])) zero v = refl
anew_set_word f s i (x ∷ (y ∷ [])) (suc j) v = let next : suc j * 3 + 2 ≡ suc (suc (suc (j * 3 + 2))) = omega arith in rw next
anew_set_word f s i (x ∷ (y ∷ (z ∷ l))) zero v =
    let here : i + 0 ≡ i = omega arith in
    rw (here, s.first i x y v z, s.second i x y v z)
anew_set_word f s i (x ∷ (y ∷ (z ∷ l))) (suc j) v =
    let next : i + suc j ≡ suc i + j = omega arith in
    let u : Words = f i x y z in
    rw (next, word_behind x y z l j 0, word_behind x y z l j 1, set_word_behind j v x y z l, anew_set_word f s (suc i) l j v)
    (sym (set_word_behind j (f (suc i + j) (entry_word 3 j 0 l) (entry_word 3 j 1 l) v).third u.first u.second u.third (entries_anew f (suc i) l)))

-- the same, counted from entry 0
pub anew_at : (f : ℕ → ℕ → ℕ → ℕ → Words) (l : List ℕ) (j : ℕ) → j * 3 + 3 ≤ length l → words_at j (entries_anew f 0 l) ≡ made f j (words_at j l)
anew_at f l j h = anew_entry f 0 l j h ∙ ap (λ (n : ℕ). made f n (words_at j l)) (zero-add j)

-- zeros
pub word_zero : (n k : ℕ) → get_or {A = ℕ} (replicate n 0) k 0 ≡ 0
word_zero zero k = refl
word_zero (suc n) zero = refl
word_zero (suc n) (suc k) = word_zero n k

-- two areas are the same where their entries are, and their tails
word_of : (l m : List ℕ) (j r : ℕ) → r < 3 → words_at j l ≡ words_at j m → entry_word 3 j r l ≡ entry_word 3 j r m
word_of l m j zero h e = ap (λ (x : Words). x.first) e
word_of l m j (suc zero) h e = ap (λ (x : Words). x.second) e
word_of l m j (suc (suc zero)) h e = ap (λ (x : Words). x.third) e
word_of l m j (suc (suc (suc r))) h e = absurd (omega arith)

pub entries_same : (l m : List ℕ) → length l ≡ length m → ((j : ℕ) → j * 3 + 3 ≤ length l → words_at j l ≡ words_at j m)
    → ((j r : ℕ) → length l < j * 3 + 3 → entry_word 3 j r l ≡ entry_word 3 j r m) → l ≡ m
entries_same l m e whole tail = ext_get_or 0 l m e (λ k h. at k (dec_le (k / 3 * 3 + 3) (length l)))
  where
    at : (k : ℕ) → Dec (k / 3 * 3 + 3 ≤ length l) → get_or l k 0 ≡ get_or m k 0
    at k (yes h) =
        let here : k / 3 * 3 + k % 3 ≡ k = omega arith in
        subst (λ (p : ℕ). get_or l p 0 ≡ get_or m p 0) here (word_of l m (k / 3) (k % 3) (omega arith) (whole (k / 3) h))
    at k (no h) =
        let here : k / 3 * 3 + k % 3 ≡ k = omega arith in
        subst (λ (p : ℕ). get_or l p 0 ≡ get_or m p 0) here (tail (k / 3) (k % 3) (omega arith))

pub anew_is : (f : ℕ → ℕ → ℕ → ℕ → Words) (l m : List ℕ) → length l ≡ length m
    → ((j : ℕ) → j * 3 + 3 ≤ length l → made f j (words_at j l) ≡ words_at j m)
    → ((j r : ℕ) → length l < j * 3 + 3 → entry_word 3 j r l ≡ entry_word 3 j r m) → entries_anew f 0 l ≡ m
anew_is f l m e whole tail =
    let long : length (entries_anew f 0 l) ≡ length l = anew_length f 0 l in
    entries_same (entries_anew f 0 l) m (long ∙ e) (λ j h. anew_at f l j (omega arith) ∙ whole j (omega arith))
    (λ j r h. anew_beyond f 0 l j r (omega arith) ∙ tail j r (omega arith))

-- entries from one on that stay
pub anew_behind : (f : ℕ → ℕ → ℕ → ℕ → Words) (n : ℕ) (l : List ℕ) → ((j a b c : ℕ) → n ≤ j → f j a b c ≡ words a b c)
    → (k : ℕ) → n * 3 ≤ k → get_or (entries_anew f 0 l) k 0 ≡ get_or l k 0
anew_behind f n l same k h = go (dec_le (k / 3 * 3 + 3) (length l))
  where
    here : k / 3 * 3 + k % 3 ≡ k
    here = omega arith

    at : entry_word 3 (k / 3) (k % 3) (entries_anew f 0 l) ≡ entry_word 3 (k / 3) (k % 3) l → get_or (entries_anew f 0 l) k 0 ≡ get_or l k 0
    at e = subst (λ (p : ℕ). get_or (entries_anew f 0 l) p 0 ≡ get_or l p 0) here e

    go : Dec (k / 3 * 3 + 3 ≤ length l) → get_or (entries_anew f 0 l) k 0 ≡ get_or l k 0
    go (yes w) =
        at (word_of (entries_anew f 0 l) l (k / 3) (k % 3) (omega arith)
        (anew_at f l (k / 3) w ∙ same (k / 3) (entry_word 3 (k / 3) 0 l) (entry_word 3 (k / 3) 1 l) (entry_word 3 (k / 3) 2 l) (omega arith)))
    go (no w) = at (anew_beyond f 0 l (k / 3) (k % 3) (omega arith))

-- an entry more, and the last word of an entry written
pub anew_took : (f : ℕ → ℕ → ℕ → ℕ → Words) (full count a b c : ℕ) (l : List ℕ) → (full ≡ 0 → f count a b c ≡ words a b c)
    → entries_anew f 0 (took_words full count (a ∷ b ∷ c ∷ []) l) ≡ took_words full count (a ∷ b ∷ c ∷ []) (entries_anew f 0 l)
anew_took f full count a b c l e = rw (anew_length f 0 l) (go (eqb full 0) refl (has_room 3 count (length l)) refl)
  where
    go : (x : Bool) → eqb full 0 ≡ x → (y : Bool) → has_room 3 count (length l) ≡ y
        → entries_anew f 0 (cond x (cond y (set_entry 3 count (a ∷ b ∷ c ∷ []) l) l) l)
        ≡ cond x (cond y (set_entry 3 count (a ∷ b ∷ c ∷ []) (entries_anew f 0 l)) (entries_anew f 0 l)) (entries_anew f 0 l)
    go true p true q =
        anew_set_entry f 0 l count a b c (room_fits 3 count (length l) (ltb-true count _ q))
        ∙ ap (λ (n : ℕ). set_entry 3 count (entry_of (f n a b c)) (entries_anew f 0 l)) (zero-add count)
        ∙ ap (λ (x : Words). set_entry 3 count (entry_of x) (entries_anew f 0 l)) (e (eqb-true full 0 p))
    go true p false q = refl
    go false p y q = refl

pub anew_write : (f : ℕ → ℕ → ℕ → ℕ → Words) → Aside f → (j v u : ℕ) (l : List ℕ)
    → (j * 3 + 3 ≤ length l → (f j (entry_word 3 j 0 l) (entry_word 3 j 1 l) v).third ≡ u)
    → entries_anew f 0 (write_word 3 j 2 v l) ≡ write_word 3 j 2 u (entries_anew f 0 l)
anew_write f s j v u l e = rw (anew_length f 0 l) (go (ltb (j * 3 + 2) (length l)) refl)
  where
    go : (x : Bool) → ltb (j * 3 + 2) (length l) ≡ x
        → entries_anew f 0 (cond x (set l (j * 3 + 2) v) l) ≡ cond x (set (entries_anew f 0 l) (j * 3 + 2) u) (entries_anew f 0 l)
    go true q =
        let inside : j * 3 + 2 < length l = ltb-true (j * 3 + 2) (length l) q in
        anew_set_word f s 0 l j v
        ∙ ap (λ (n : ℕ). set (entries_anew f 0 l) (j * 3 + 2) (f n (entry_word 3 j 0 l) (entry_word 3 j 1 l) v).third) (zero-add j)
        ∙ ap (λ (n : ℕ). set (entries_anew f 0 l) (j * 3 + 2) n) (e (omega arith))
    go false q = refl
