-- A refusal gives an area back as it was: what stood is at the front of the area, with the notes of what a bundle may change, and zeros are behind it. By the
-- words of each entry. Assumes nothing.
use Prim.Native.Nat.{ℕ, zero, suc, ◌+◌, ◌-◌, ◌*◌, ◌/◌, ◌%◌, ◌^◌, ◌≤◌, ◌<◌}
use native.Mathlib.Omega.{arith}
use native.Mathlib.Decide.{dec_lt}
use mathlib.Core.Path.{◌≡◌, refl, sym, ap, ◌∙◌}
use mathlib.Core.Bool.{Bool, true, false, cond, ◌&&◌}
use mathlib.Core.List.{List}
use lib.ListN.{length, take, get_or, replicate, length-append, length-replicate, get_or-append}
use lib.Seq.{length-take-le, get_or-take, get_or-append-add, ext_get_or}
use lib.Dec.{eqb}
use borrow.Author.Tests.{eqb-true, lt-ltb, le-ltb, eq-eqb, ne_eqb}
use Rattle.words.specs.Areas.{constants_area, methods_area, entry_word, cleared_from}
use Rattle.undo.specs.Fits.{MethodsFit}
use Rattle.undo.specs.Notes.{Words, words, entries_anew, noted_mark, noted_marks, restored_mark, restored_marks, noted_method, noted_methods}
use Rattle.undo.specs.Notes.{restored_method, restored_methods, plain_method, plain_methods, note_method, noted_function}
use Rattle.undo.specs.Stood.{kept_of, Stood}
use Rattle.undo.specs.Turns.{words_at, made}
use Rattle.undo.proofs.EntriesAnew.{anew_length, anew_at, word_zero, anew_beyond, anew_behind, anew_is}

-- zeros from a word on
module _ (from : ℕ) (w : List ℕ) (inside : from ≤ length w) where
  front : length (take from w) ≡ from
  front = length-take-le from w inside

  pub cleared_length : length (cleared_from from w) ≡ length w
  cleared_length =
      length-append (take from w) (replicate (length w - from) 0)
      ∙ let zeros : length {A = ℕ} (replicate (length w - from) 0) ≡ length w - from = length-replicate (length w - from) 0 in omega (arith, front)

  pub cleared_below : (k : ℕ) → k < from → get_or (cleared_from from w) k 0 ≡ get_or w k 0
  cleared_below k h =
      get_or-append (take from w) (replicate (length w - from) 0) 0 k (omega (arith, front)) ∙ get_or-take from w k 0 h

  pub cleared_behind : (k : ℕ) → from ≤ k → get_or (cleared_from from w) k 0 ≡ 0
  cleared_behind k h =
      let there : length (take from w) + (k - from) ≡ k = omega (arith, front) in
      ap (λ (n : ℕ). get_or (cleared_from from w) n 0) (sym there)
      ∙ get_or-append-add (take from w) (replicate (length w - from) 0) (k - from) 0
      ∙ word_zero (length w - from) (k - from)

-- what stood, word by word
pub stood_word : (area n : ℕ) (before w : List ℕ) → Stood area (take n before) w → n ≤ length before
    → (k : ℕ) → k < n → kept_of area k (get_or w k 0) ≡ kept_of area k (get_or before k 0)
stood_word area n before w s h k b =
    let all : length (take n before) ≡ n = length-take-le n before h in
    s.kept k (omega arith) ∙ ap (λ (v : ℕ). kept_of area k v) (get_or-take n before k 0 b)

kept_word : (area k x y : ℕ) → eqb (k % 3) 2 ≡ false → kept_of area k x ≡ kept_of area k y → x ≡ y
kept_word area k x y beside = rw beside (go (eqb area constants_area) (eqb area methods_area))
  where
    go : (a b : Bool)
        → cond (a && false) (cond (eqb x 2) 1 0) (cond (b && false) (x / 2 ^ 56) x)
        ≡ cond (a && false) (cond (eqb y 2) 1 0) (cond (b && false) (y / 2 ^ 56) y) → x ≡ y
    go true true e = e
    go true false e = e
    go false true e = e
    go false false e = e

third_place : (j : ℕ) → eqb ((j * 3 + 2) % 3) 2 ≡ true
third_place j = eq-eqb ((j * 3 + 2) % 3) 2 (omega arith)

-- the two words before the last one of an entry that stood are as they were
module _ (area n : ℕ) (before w : List ℕ) (s : Stood area (take (n * 3) before) w) (long : n * 3 ≤ length before) (j : ℕ) (h : j < n) where
  stood_first : entry_word 3 j 0 w ≡ entry_word 3 j 0 before
  stood_first =
      kept_word area (j * 3 + 0) (entry_word 3 j 0 w) (entry_word 3 j 0 before) (ne_eqb ((j * 3 + 0) % 3) 2 (λ q. omega arith))
      (stood_word area (n * 3) before w s long (j * 3 + 0) (omega arith))

  stood_second : entry_word 3 j 1 w ≡ entry_word 3 j 1 before
  stood_second =
      kept_word area (j * 3 + 1) (entry_word 3 j 1 w) (entry_word 3 j 1 before) (ne_eqb ((j * 3 + 1) % 3) 2 (λ q. omega arith))
      (stood_word area (n * 3) before w s long (j * 3 + 1) (omega arith))

-- what is noted: as many words, and those behind as they were
pub noted_marks_length : (n : ℕ) (l : List ℕ) → length (noted_marks n l) ≡ length l
noted_marks_length n l = anew_length (noted_mark n) 0 l

pub noted_marks_behind : (n : ℕ) (l : List ℕ) (k : ℕ) → n * 3 ≤ k → get_or (noted_marks n l) k 0 ≡ get_or l k 0
noted_marks_behind n l k h = anew_behind (noted_mark n) n l (λ j a b c past. rw (le-ltb j n past)) k h

pub noted_methods_length : (n : ℕ) (l : List ℕ) → length (noted_methods n l) ≡ length l
noted_methods_length n l = anew_length (noted_method n) 0 l

pub noted_methods_behind : (n : ℕ) (l : List ℕ) (k : ℕ) → n * 3 ≤ k → get_or (noted_methods n l) k 0 ≡ get_or l k 0
noted_methods_behind n l k h = anew_behind (noted_method n) n l (λ j a b c past. rw (le-ltb j n past)) k h

-- entries anew give an area back, where they give back the first n, and leave zeros
restored_area : (f : ℕ → ℕ → ℕ → ℕ → Words) (n : ℕ) (l w : List ℕ) → length w ≡ length l → n * 3 ≤ length l
    → ((k : ℕ) → n * 3 ≤ k → get_or l k 0 ≡ 0) → ((j a b c : ℕ) → n ≤ j → f j a b c ≡ words a b c)
    → ((j : ℕ) → j < n → made f j (words_at j w) ≡ words_at j l) → entries_anew f 0 (cleared_from (n * 3) w) ≡ l
restored_area f n l w same inside zeros stays gives =
    anew_is f (cleared_from (n * 3) w) l (long ∙ same) (λ j h. whole j (dec_lt j n)) (λ j r h. behind (j * 3 + r) (omega (arith, long)))
  where
    room : n * 3 ≤ length w
    room = omega arith

    long : length (cleared_from (n * 3) w) ≡ length w
    long = cleared_length (n * 3) w room

    behind : (k : ℕ) → n * 3 ≤ k → get_or (cleared_from (n * 3) w) k 0 ≡ get_or l k 0
    behind k h = cleared_behind (n * 3) w room k h ∙ sym (zeros k h)

    there : (j : ℕ) → j < n → words_at j (cleared_from (n * 3) w) ≡ words_at j w
    there j h =
        rw (
          cleared_below (n * 3) w room (j * 3 + 0) (omega arith),
          cleared_below (n * 3) w room (j * 3 + 1) (omega arith),
          cleared_below (n * 3) w room (j * 3 + 2) (omega arith),
        )

    whole : (j : ℕ) → Dec (j < n) → made f j (words_at j (cleared_from (n * 3) w)) ≡ words_at j l
    whole j (yes h) = ap (λ (x : Words). made f j x) (there j h) ∙ gives j h
    whole j (no h) =
        stays j (entry_word 3 j 0 (cleared_from (n * 3) w)) (entry_word 3 j 1 (cleared_from (n * 3) w)) (entry_word 3 j 2 (cleared_from (n * 3) w))
        (omega arith)
        ∙ rw (behind (j * 3 + 0) (omega arith), behind (j * 3 + 1) (omega arith), behind (j * 3 + 2) (omega arith))

-- marks
abbrev is_note : ℕ → ℕ
is_note c = cond (eqb c 2) 1 0

restored_mark_lem : (n j c d : ℕ) → j < n → d < 2 → is_note c ≡ is_note (noted_mark n j 0 0 d).third → (restored_mark n j 0 0 c).third ≡ d
restored_mark_lem n j c d h small e = rw (lt-ltb j n h) (go d small (rw (lt-ltb j n h) at e))
  where
    go : (m : ℕ) → m < 2 → is_note c ≡ is_note (cond (eqb m 1) 2 m) → is_note c ≡ m
    go zero b q = q
    go (suc zero) b q = q
    go (suc (suc m)) b q = absurd (omega arith)

pub restored_marks_lem : (n : ℕ) (l w : List ℕ) → Stood constants_area (take (n * 3) (noted_marks n l)) w → length w ≡ length l → n * 3 ≤ length l
    → ((i : ℕ) → entry_word 3 i 2 l < 2) → ((k : ℕ) → n * 3 ≤ k → get_or l k 0 ≡ 0) → restored_marks n (cleared_from (n * 3) w) ≡ l
restored_marks_lem n l w s same inside marks zeros =
    restored_area (restored_mark n) n l w same inside zeros (λ j a b c past. rw (le-ltb j n past)) gives
  where
    long : n * 3 ≤ length (noted_marks n l)
    long = omega (arith, noted_marks_length n l)

    gives : (j : ℕ) → j < n → made (restored_mark n) j (words_at j w) ≡ words_at j l
    gives j h =
        let noted : words_at j (noted_marks n l) ≡ made (noted_mark n) j (words_at j l) = anew_at (noted_mark n) l j (omega arith) in
        let kept : is_note (entry_word 3 j 2 w) ≡ is_note (entry_word 3 j 2 (noted_marks n l)) =
        rw (third_place j) at (stood_word constants_area (n * 3) (noted_marks n l) w s long (j * 3 + 2) (omega arith)) in
        let third : (restored_mark n j 0 0 (entry_word 3 j 2 w)).third ≡ entry_word 3 j 2 l =
        restored_mark_lem n j (entry_word 3 j 2 w) (entry_word 3 j 2 l) h (marks j) (kept ∙ ap (λ (x : Words). is_note x.third) noted) in
        rw (
          stood_first constants_area n (noted_marks n l) w s long j h ∙ ap (λ (x : Words). x.first) noted,
          stood_second constants_area n (noted_marks n l) w s long j h ∙ ap (λ (x : Words). x.second) noted,
        )
        (ap (λ (c : ℕ). words (entry_word 3 j 0 l) (entry_word 3 j 1 l) c) third)

-- methods
lower : (x y : ℕ) → (x % 2 ^ 56 + 2 ^ 56 * y) % 2 ^ 56 ≡ x % 2 ^ 56
lower x y = omega arith

upper : (x y : ℕ) → (x % 2 ^ 56 + 2 ^ 56 * y) / 2 ^ 56 ≡ y
upper x y = omega arith

lower_name : (x y : ℕ) → (x % 2 ^ 20 + 2 ^ 20 * y) % 2 ^ 20 ≡ x % 2 ^ 20
lower_name x y = omega arith

upper_name : (x y : ℕ) → (x % 2 ^ 20 + 2 ^ 20 * y) / 2 ^ 20 ≡ y
upper_name x y = omega arith

parts : (x : ℕ) → x < 2 ^ 56 → x / 2 ^ 52 * 2 ^ 52 + x / 2 ^ 44 % 2 ^ 8 * 2 ^ 44 + x % 2 ^ 44 ≡ x
parts x h = omega arith

small_number : (x : ℕ) → x < 2 ^ 56 → x % 2 ^ 56 ≡ x
small_number x h = omega arith

small_name : (x : ℕ) → x < 2 ^ 20 → x % 2 ^ 20 ≡ x
small_name x h = omega arith

restored_method_lem : (model name function a b c : ℕ) → model < 2 ^ 56 → name < 2 ^ 20 → function < 2 ^ 56
    → a ≡ model % 2 ^ 56 + 2 ^ 56 * (function % 2 ^ 56 / 2 ^ 52) → b ≡ name % 2 ^ 20 + 2 ^ 20 * (function % 2 ^ 56 % 2 ^ 44)
    → c / 2 ^ 56 ≡ (function % 2 ^ 56 + 2 ^ 56 * (function % 2 ^ 56 / 2 ^ 44 % 2 ^ 8)) / 2 ^ 56
    → words (a % 2 ^ 56) (b % 2 ^ 20) (noted_function a b c) ≡ words model name function
restored_method_lem model name function a b c small short fits first second third =
    rw (
      first,
      second,
      third,
      lower model (function % 2 ^ 56 / 2 ^ 52),
      upper model (function % 2 ^ 56 / 2 ^ 52),
      lower_name name (function % 2 ^ 56 % 2 ^ 44),
      upper_name name (function % 2 ^ 56 % 2 ^ 44),
      upper function (function % 2 ^ 56 / 2 ^ 44 % 2 ^ 8),
      small_number model small,
      small_name name short,
      small_number function fits,
      parts function fits,
    )

pub restored_methods_lem : (n : ℕ) (l w : List ℕ) → Stood methods_area (take (n * 3) (noted_methods n l)) w → length w ≡ length l → n * 3 ≤ length l
    → MethodsFit n l → ((k : ℕ) → n * 3 ≤ k → get_or l k 0 ≡ 0) → restored_methods n (cleared_from (n * 3) w) ≡ l
restored_methods_lem n l w s same inside fits zeros =
    restored_area (restored_method n) n l w same inside zeros (λ j a b c past. rw (le-ltb j n past)) gives
  where
    long : n * 3 ≤ length (noted_methods n l)
    long = omega (arith, noted_methods_length n l)

    gives : (j : ℕ) → j < n → made (restored_method n) j (words_at j w) ≡ words_at j l
    gives j h =
        let function : ℕ = entry_word 3 j 2 l % 2 ^ 56 in
        let noted : words_at j (noted_methods n l) ≡ note_method (entry_word 3 j 0 l % 2 ^ 56) (entry_word 3 j 1 l % 2 ^ 20) function function =
        anew_at (noted_method n) l j (omega arith) ∙ rw (lt-ltb j n h) in
        let kept : entry_word 3 j 2 w / 2 ^ 56 ≡ entry_word 3 j 2 (noted_methods n l) / 2 ^ 56 =
        rw (third_place j) at (stood_word methods_area (n * 3) (noted_methods n l) w s long (j * 3 + 2) (omega arith)) in
        rw (lt-ltb j n h)
        (restored_method_lem (entry_word 3 j 0 l) (entry_word 3 j 1 l) (entry_word 3 j 2 l) (entry_word 3 j 0 w) (entry_word 3 j 1 w) (entry_word 3 j 2 w)
        (fits.model j h) (fits.name j h) (fits.function j h)
        (stood_first methods_area n (noted_methods n l) w s long j h ∙ ap (λ (x : Words). x.first) noted)
        (stood_second methods_area n (noted_methods n l) w s long j h ∙ ap (λ (x : Words). x.second) noted)
        (kept ∙ ap (λ (x : Words). x.third / 2 ^ 56) noted))

plain_noted : (model name function : ℕ) → model < 2 ^ 56 → name < 2 ^ 20 → function < 2 ^ 56
    → (x : Words) → x ≡ note_method (model % 2 ^ 56) (name % 2 ^ 20) (function % 2 ^ 56) (function % 2 ^ 56)
    → words (x.first % 2 ^ 56) (x.second % 2 ^ 20) (x.third % 2 ^ 56) ≡ words model name function
plain_noted model name function small short fits x e =
    rw (
      e,
      lower model (function % 2 ^ 56 / 2 ^ 52),
      lower_name name (function % 2 ^ 56 % 2 ^ 44),
      lower function (function % 2 ^ 56 / 2 ^ 44 % 2 ^ 8),
      small_number model small,
      small_name name short,
      small_number function fits,
    )

-- what is noted says what the area said
pub noted_plain_methods : (n : ℕ) (l : List ℕ) → MethodsFit n l → ((k : ℕ) → n * 3 ≤ k → get_or l k 0 ≡ 0) → plain_methods n (noted_methods n l) ≡ l
unfolding plain_methods
noted_plain_methods n l fits zeros = go (eqb n 0) refl
  where
    long : length (noted_methods n l) ≡ length l
    long = noted_methods_length n l

    whole : (j : ℕ) → Dec (j < n) → j * 3 + 3 ≤ length l → made (plain_method n) j (words_at j (noted_methods n l)) ≡ words_at j l
    whole j (yes h) k =
        rw (lt-ltb j n h) (plain_noted (entry_word 3 j 0 l) (entry_word 3 j 1 l) (entry_word 3 j 2 l) (fits.model j h) (fits.name j h) (fits.function j h)
        (words_at j (noted_methods n l)) (anew_at (noted_method n) l j k ∙ rw (lt-ltb j n h)))
    whole j (no h) k =
        let past : n ≤ j = omega arith in
        rw (
          le-ltb j n past,
          noted_methods_behind n l (j * 3 + 0) (omega arith),
          noted_methods_behind n l (j * 3 + 1) (omega arith),
          noted_methods_behind n l (j * 3 + 2) (omega arith),
          zeros (j * 3 + 2) (omega arith),
        )

    go : (x : Bool) → eqb n 0 ≡ x → cond x (noted_methods n l) (entries_anew (plain_method n) 0 (noted_methods n l)) ≡ l
    go true q =
        let none : n ≡ 0 = eqb-true n 0 q in
        ext_get_or 0 (noted_methods n l) l long (λ k h. noted_methods_behind n l k (omega arith))
    go false q =
        anew_is (plain_method n) (noted_methods n l) l long (λ j h. whole j (dec_lt j n) (omega (arith, long)))
        (λ j r h. anew_beyond (noted_method n) 0 l j r (omega (arith, long)))

-- every other area has no notes
pub restored_other : (area k : ℕ) (l w : List ℕ) → eqb area constants_area ≡ false → eqb area methods_area ≡ false → Stood area (take k l) w
    → length w ≡ length l → k ≤ length l → ((p : ℕ) → k ≤ p → get_or l p 0 ≡ 0) → cleared_from k w ≡ l
restored_other area k l w a b s same inside zeros =
    ext_get_or 0 (cleared_from k w) l (cleared_length k w room ∙ same) (λ p h. at p (dec_lt p k))
  where
    room : k ≤ length w
    room = omega arith

    at : (p : ℕ) → Dec (p < k) → get_or (cleared_from k w) p 0 ≡ get_or l p 0
    at p (yes h) = cleared_below k w room p h ∙ (rw (a, b) at (stood_word area k l w s inside p h))
    at p (no h) = cleared_behind k w room p (omega arith) ∙ sym (zeros p (omega arith))
