-- Theorem `lines_injective` (2026-10: 'Over one text table whose texts all differ, equal lines delivered come from equal error lists'), whatever the callers'
-- files were: a line gives its error back, field by field. Assumes nothing.
use Prim.Native.Nat.{ℕ, zero, suc, ◌+◌, ◌-◌, ◌*◌, ◌/◌, ◌≤◌, ◌<◌}
use native.Mathlib.Omega.{arith}
use native.Mathlib.Decide.{dec_lt, ℕ_discrete}
use mathlib.Core.Path.{◌≡◌, refl, sym, ap, subst, ◌∙◌}
use mathlib.Core.Bool.{Bool, true, false, cond, ◌&&◌}
use Rattle.std.specs.Prelude.{Option, Some, None}
use mathlib.Core.List.{List, [], ◌∷◌, ◌++◌, append_assoc}
use lib.ListN.{length, get_or, replicate}
use lib.Seq.{take-append_seam}
use lib.Dec.{eqb, leb}
use borrow.Author.Tests.{eq-eqb, ne_eqb, eqb-true, leb-true}
use Rattle.words.specs.Record.{most_text, line_of, column_of}
use Rattle.column_lines.specs.Numeral.{word_end}
use Rattle.column_lines.specs.Form.{signed_kind}
use Rattle.definition.specs.Compiler.{Error}
use Rattle.error_lines.specs.Known.{known, known_ring, known_other, holds_text}
use Rattle.error_lines.specs.Messages.{messages, message}
use Rattle.error_lines.specs.Texts.{plain, text_field, TextsDiffer}
use Rattle.error_lines.specs.Lines.{error_at, is_zeros, errors_from, errors_in, file_of, shown_value, value_field, error_line, lines_of}
use Rattle.error_lines.specs.Words.{first_unknown, delivered, in_words, written, AllBelow}
use Rattle.error_lines.proofs.Lists.{error}
use Rattle.error_lines.proofs.Reading.{cons_tail, Free, end, more, free_split, Apart, free_plain, plain_same, text_split}

apart_44 : Apart 44
apart_44 = record { blank = λ e. omega (arith, e); minus = λ e. omega (arith, e); low = omega arith }

apart_10 : Apart 10
apart_10 = record { blank = λ e. omega (arith, e); minus = λ e. omega (arith, e); low = omega arith }

-- messages: none has a comma, and each has its number

abbrev free_of : ℕ → List ℕ → Bool
free_of c [] = true
free_of c (b ∷ bs) = cond (eqb b c) false (free_of c bs)

free_of_lem : (c : ℕ) (l : List ℕ) → free_of c l ≡ true → Free c l
free_of_lem c [] e = end
free_of_lem c (b ∷ l) e = go (ℕ_discrete b c) (free_of_lem c l)
  where
    go : Dec (b ≡ c) → (free_of c l ≡ true → Free c l) → Free c (b ∷ l)
    go (yes q) r = absurd (let x : false ≡ true = simp (eq-eqb b c q) at e in let z : ◌≡◌ {A = ℕ} 0 1 = cc x in omega (arith, z))
    go (no d) r = more d (r (simp (ne_eqb b c d) at e))

abbrev all_free : ℕ → List (List ℕ) → Bool
all_free c [] = true
all_free c (m ∷ ms) = cond (free_of c m) (all_free c ms) false

free_among : (c : ℕ) (ms : List (List ℕ)) → all_free c ms ≡ true → (n : ℕ) → Free c (get_or ms n [])
free_among c [] e n = end
free_among c (m ∷ ms) e n = go (free_of c m) refl n (free_among c ms)
  where
    go : (t : Bool) → free_of c m ≡ t → (n : ℕ) → (all_free c ms ≡ true → (n : ℕ) → Free c (get_or ms n [])) → Free c (get_or (m ∷ ms) n [])
    go true q zero r = free_of_lem c m q
    go true q (suc n) r = r (simp q at e) n
    go false q n r = absurd (let x : false ≡ true = simp q at e in let z : ◌≡◌ {A = ℕ} 0 1 = cc x in omega (arith, z))

free_message : (n : ℕ) → Free 44 (message n)
unfolding message
free_message n = free_among 44 messages refl n

abbrev same_bytes : List ℕ → List ℕ → Bool
same_bytes [] [] = true
same_bytes [] (b ∷ bs) = false
same_bytes (a ∷ as') [] = false
same_bytes (a ∷ as') (b ∷ bs) = cond (eqb a b) (same_bytes as' bs) false

abbrev number_from : ℕ → List ℕ → List (List ℕ) → ℕ
number_from i l [] = 0
number_from i l (m ∷ ms) = cond (same_bytes l m) i (number_from (i + 1) l ms)

abbrev all_below : (ℕ → Bool) → ℕ → Bool
all_below f zero = true
all_below f (suc n) = cond (f n) (all_below f n) false

below_at : (f : ℕ → Bool) (n : ℕ) → all_below f n ≡ true → (k : ℕ) → k < n → f k ≡ true
below_at f zero t k h = absurd (omega (arith, h))
below_at f (suc n) t k h = go (f n) refl (dec_lt k n) (λ (r : all_below f n ≡ true). below_at f n r k)
  where
    go : (x : Bool) → f n ≡ x → Dec (k < n) → (all_below f n ≡ true → k < n → f k ≡ true) → f k ≡ true
    go true q (yes l) r = r (simp q at t) l
    go true q (no l) r = let e : n ≡ k = omega (arith, l, h) in subst (λ (j : ℕ). f j ≡ true) e q
    go false q l r = absurd (let x : false ≡ true = simp q at t in let z : ◌≡◌ {A = ℕ} 0 1 = cc x in omega (arith, z))

message_number : (n : ℕ) → n < 12 → number_from 0 (message n) messages ≡ n
unfolding message
message_number n h = eqb-true _ n (below_at (λ (k : ℕ). eqb (number_from 0 (get_or messages k []) messages) k) 12 refl n h)

message_same : (n m : ℕ) → n < 12 → m < 12 → message n ≡ message m → n ≡ m
message_same n m h k e = sym (message_number n h) ∙ (ap (λ (l : List ℕ). number_from 0 l messages) e ∙ message_number m k)

-- what is known of a known error

and_left : (a b : Bool) → (a && b) ≡ true → a ≡ true
and_left true b e = refl
and_left false b e = e

and_right : (a b : Bool) → (a && b) ≡ true → b ≡ true
and_right true b e = e
and_right false b e = absurd (let z : ◌≡◌ {A = ℕ} 0 1 = cc e in omega (arith, z))

record Ring (n p k v : ℕ) : Type 0 where
  position : p ≡ 0
  kind : k ≡ 0
  value : v ≤ most_text

ring_parts : (n p k v : ℕ) → known (error n p k v) ≡ true → n ≡ 11 → Ring n p k v
unfolding known
ring_parts n p k v h e =
    let g : known_ring (error n p k v) ≡ true = simp (eq-eqb n 11 e) at h in
    let b = and_right (eqb p 0) _ g in
    let c = and_right (eqb k 0) _ b in
    record {
      position = eqb-true p 0 (and_left (eqb p 0) _ g);
      kind = eqb-true k 0 (and_left (eqb k 0) _ b);
      value = leb-true v most_text (and_right (leb 1 v) _ c);
    }

number_low : (n p k v : ℕ) → known (error n p k v) ≡ true → n < 12
unfolding known
number_low n p k v h = go (ℕ_discrete n 11)
  where
    go : Dec (n ≡ 11) → n < 12
    go (yes e) = omega (arith, e)
    go (no d) =
        let g : known_other (error n p k v) ≡ true = simp (ne_eqb n 11 d) at h in
        let l = leb-true n 10 (and_left (leb n 10) _ (and_right (leb 1 n) _ g)) in
        omega (arith, l)

position_same : (p q : ℕ) → line_of p ≡ line_of q → column_of p ≡ column_of q → p ≡ q
position_same p q a b = omega (arith, a, b)

line_small : (p : ℕ) → p < word_end → line_of p < word_end
line_small p h = omega (arith, h)

column_small : (p : ℕ) → p < word_end → column_of p < word_end
column_small p h = omega (arith, h)

-- words of 64 bits
pub record Fits (n p k v : ℕ) : Type 0 where
  pub position : p < word_end
  pub kind : k < word_end
  pub value : v < word_end

pub error_eq : {n n' p p' k k' v v' : ℕ} → n ≡ n' → p ≡ p' → k ≡ k' → v ≡ v' → error n p k v ≡ error n' p' k' v'
error_eq {n} {n'} {p} {p'} {k} {k'} {v} {v'} a b c d =
    ap (λ (x : ℕ). error x p k v) a ∙ (ap (λ (x : ℕ). error n' x k v) b ∙ (ap (λ (x : ℕ). error n' p' x v) c ∙ ap (λ (x : ℕ). error n' p' k' x) d))

cond_small : (t : Bool) (a b m : ℕ) → a < m → b < m → cond t a b < m
cond_small true a b m h k = h
cond_small false a b m h k = k

-- a line from each of its fields on, with what comes after it

module _ (table bytes : List ℕ) (f n p k v : ℕ) where
  abbrev from₆ : List ℕ → List ℕ
  from₆ r = value_field table bytes k (shown_value (error n p k v)) ++ (10 ∷ r)

  abbrev from₅ : List ℕ → List ℕ
  from₅ r = plain false k ++ (44 ∷ 32 ∷ from₆ r)

  abbrev from₄ : List ℕ → List ℕ
  from₄ r = plain false (column_of p) ++ (44 ∷ 32 ∷ from₅ r)

  abbrev from₃ : List ℕ → List ℕ
  from₃ r = plain false (line_of p) ++ (44 ∷ 32 ∷ from₄ r)

  abbrev from₂ : List ℕ → List ℕ
  from₂ r = text_field table bytes (file_of f (error n p k v)) ++ (44 ∷ 32 ∷ from₃ r)

  abbrev from₁ : List ℕ → List ℕ
  from₁ r = message n ++ (44 ∷ 32 ∷ from₂ r)

  line_on : (r : List ℕ) → error_line table bytes f (error n p k v) ++ r ≡ from₁ r
  unfolding error_line
  line_on r =
      let e₆ : from₆ [] ++ r ≡ from₆ r = append_assoc (value_field table bytes k (shown_value (error n p k v))) (10 ∷ []) r in
      let e₅ : from₅ [] ++ r ≡ from₅ r = append_assoc (plain false k) (44 ∷ 32 ∷ from₆ []) r ∙ ap (λ (l : List ℕ). plain false k ++ (44 ∷ 32 ∷ l)) e₆ in
      let e₄ : from₄ [] ++ r ≡ from₄ r
      = append_assoc (plain false (column_of p)) (44 ∷ 32 ∷ from₅ []) r ∙ ap (λ (l : List ℕ). plain false (column_of p) ++ (44 ∷ 32 ∷ l)) e₅ in
      let e₃ : from₃ [] ++ r ≡ from₃ r
      = append_assoc (plain false (line_of p)) (44 ∷ 32 ∷ from₄ []) r ∙ ap (λ (l : List ℕ). plain false (line_of p) ++ (44 ∷ 32 ∷ l)) e₄ in
      let e₂ : from₂ [] ++ r ≡ from₂ r
      = append_assoc (text_field table bytes (file_of f (error n p k v))) (44 ∷ 32 ∷ from₃ []) r
      ∙ ap (λ (l : List ℕ). text_field table bytes (file_of f (error n p k v)) ++ (44 ∷ 32 ∷ l)) e₃ in
      append_assoc (message n) (44 ∷ 32 ∷ from₂ []) r ∙ ap (λ (l : List ℕ). message n ++ (44 ∷ 32 ∷ l)) e₂

module _ (table bytes : List ℕ) (B : AllBelow 256 bytes) (D : TextsDiffer table bytes) where
  value_split : (kind v w : ℕ) (r s : List ℕ) → v < word_end → w < word_end
      → value_field table bytes kind v ++ (10 ∷ r) ≡ value_field table bytes kind w ++ (10 ∷ s) → (v ≡ w) × (r ≡ s)
  unfolding value_field
  value_split kind v w r s h k = go (holds_text kind)
    where
      go : (t : Bool) → cond t (text_field table bytes v) (plain (eqb kind signed_kind) v) ++ (10 ∷ r)
          ≡ cond t (text_field table bytes w) (plain (eqb kind signed_kind) w) ++ (10 ∷ s) → (v ≡ w) × (r ≡ s)
      go true e = let x = text_split table bytes B 10 apart_10 (λ q. omega (arith, q)) v w r s e in (x.1 D h k, x.0)
      go false e =
          let x = free_split 10 (plain (eqb kind signed_kind) v) (plain (eqb kind signed_kind) w) r s (free_plain 10 apart_10 (eqb kind signed_kind) v)
          (free_plain 10 apart_10 (eqb kind signed_kind) w) e in
          (plain_same (eqb kind signed_kind) v w h k x.0, x.1)

  pub line_read : (f g n p k v n' p' k' v' : ℕ) (r s : List ℕ) → known (error n p k v) ≡ true → known (error n' p' k' v') ≡ true → Fits n p k v
      → Fits n' p' k' v'
      → error_line table bytes f (error n p k v) ++ r ≡ error_line table bytes g (error n' p' k' v') ++ s → (error n p k v ≡ error n' p' k' v') × (r ≡ s)
  line_read f g n p k v n' p' k' v' r s K K' F F' e =
      let e₁ : from₁ table bytes f n p k v r ≡ from₁ table bytes g n' p' k' v' s
      = sym (line_on table bytes f n p k v r) ∙ (e ∙ line_on table bytes g n' p' k' v' s) in
      let a = free_split 44 (message n) (message n') (32 ∷ from₂ table bytes f n p k v r) (32 ∷ from₂ table bytes g n' p' k' v' s)
      (free_message n) (free_message n') e₁ in
      let b = text_split table bytes B 44 apart_44 (λ q. omega (arith, q)) (file_of f (error n p k v)) (file_of g (error n' p' k' v'))
      (32 ∷ from₃ table bytes f n p k v r) (32 ∷ from₃ table bytes g n' p' k' v' s) (cons_tail a.1) in
      let c = free_split 44 (plain false (line_of p)) (plain false (line_of p')) (32 ∷ from₄ table bytes f n p k v r) (32 ∷ from₄ table bytes g n' p' k' v' s)
      (free_plain 44 apart_44 false (line_of p)) (free_plain 44 apart_44 false (line_of p')) (cons_tail b.0) in
      let d = free_split 44 (plain false (column_of p)) (plain false (column_of p')) (32 ∷ from₅ table bytes f n p k v r)
      (32 ∷ from₅ table bytes g n' p' k' v' s)
      (free_plain 44 apart_44 false (column_of p)) (free_plain 44 apart_44 false (column_of p')) (cons_tail c.1) in
      let h = free_split 44 (plain false k) (plain false k') (32 ∷ from₆ table bytes f n p k v r) (32 ∷ from₆ table bytes g n' p' k' v' s)
      (free_plain 44 apart_44 false k) (free_plain 44 apart_44 false k') (cons_tail d.1) in
      let N : n ≡ n' = message_same n n' (number_low n p k v K) (number_low n' p' k' v' K') a.0 in
      let P : p ≡ p' = position_same p p'
      (plain_same false (line_of p) (line_of p') (line_small p F.position) (line_small p' F'.position) c.0)
      (plain_same false (column_of p) (column_of p') (column_small p F.position) (column_small p' F'.position) d.0) in
      let Q : k ≡ k' = plain_same false k k' F.kind F'.kind h.0 in
      let u = shown_value (error n p k v) in
      let u' = shown_value (error n' p' k' v') in
      let x = value_split k u u' r s (cond_small (eqb n 11) 0 v word_end (omega arith) F.value)
      (cond_small (eqb n' 11) 0 v' word_end (omega arith) F'.value)
      (cons_tail h.1 ∙ ap (λ (z : ℕ). value_field table bytes z u' ++ (10 ∷ s)) (sym Q)) in
      (error_eq N P Q (values N (ℕ_discrete n 11) (b.1 D) x.0), x.1)
    where
      values : n ≡ n' → Dec (n ≡ 11)
          → (file_of f (error n p k v) < word_end → file_of g (error n' p' k' v') < word_end → file_of f (error n p k v) ≡ file_of g (error n' p' k' v'))
          → shown_value (error n p k v) ≡ shown_value (error n' p' k' v') → v ≡ v'
      values N (yes q) file value =
          let q' : n' ≡ 11 = sym N ∙ q in
          let a : file_of f (error n p k v) ≡ v = simp (eq-eqb n 11 q) in
          let b : file_of g (error n' p' k' v') ≡ v' = simp (eq-eqb n' 11 q') in
          let h = F.value in
          let h' = F'.value in
          sym a ∙ (file (omega (arith, a, h)) (omega (arith, b, h')) ∙ b)
      values N (no d) file value =
          let a : shown_value (error n p k v) ≡ v = simp (ne_eqb n 11 d) in
          let b : shown_value (error n' p' k' v') ≡ v' = simp (ne_eqb n' 11 (λ q. d (N ∙ q))) in
          sym a ∙ (value ∙ b)

-- lists of known errors of 64 bits
pub data Readable : List Error → Type 0 where
  none' : Readable []
  more' : {n p k v : ℕ} {es : List Error} → known (error n p k v) ≡ true → Fits n p k v → Readable es → Readable (error n p k v ∷ es)

no_line : (a b r : List ℕ) (c : ℕ) → ◌≡◌ {A = List ℕ} [] (a ++ (c ∷ b)) → ⊥
no_line [] b r c e = let z : ◌≡◌ {A = ℕ} 0 1 = cc e in omega (arith, z)
no_line (x ∷ a) b r c e = let z : ◌≡◌ {A = ℕ} 0 1 = cc e in omega (arith, z)

module _ (table bytes : List ℕ) (B : AllBelow 256 bytes) (D : TextsDiffer table bytes) (f g : ℕ) where
  pub lines_read : (es ds : List Error) → Readable es → Readable ds → lines_of table bytes f es ≡ lines_of table bytes g ds → es ≡ ds
  unfolding lines_of
  lines_read [] [] none' none' e = refl
  lines_read [] (d ∷ ds) none' (more' {n} {p} {k} {v} K F R) e =
      absurd (no_line (message n) (32 ∷ from₂ table bytes g n p k v (lines_of table bytes g ds)) [] 44
      (e ∙ line_on table bytes g n p k v (lines_of table bytes g ds)))
  lines_read (d ∷ ds) [] (more' {n} {p} {k} {v} K F R) none' e =
      absurd (no_line (message n) (32 ∷ from₂ table bytes f n p k v (lines_of table bytes f ds)) [] 44
      (sym e ∙ line_on table bytes f n p k v (lines_of table bytes f ds)))
  lines_read (x ∷ es) (y ∷ ds) (more' {n} {p} {k} {v} K F R) (more' {n = n'} {p = p'} {k = k'} {v = v'} K' F' R') e =
      let h = line_read table bytes B D f g n p k v n' p' k' v' (lines_of table bytes f es) (lines_of table bytes g ds) K K' F F' e in
      let t = lines_read es ds R R' h.1 in
      ap (λ (z : Error). z ∷ es) h.0 ∙ ap (λ (l : List Error). error n' p' k' v' ∷ l) t

-- the list in an area of words of 64 bits, where no error is unknown

readable : (w : List ℕ) → AllBelow word_end w → (n i : ℕ) → first_unknown i (errors_from w i n) ≡ None → Readable (errors_from w i n)
unfolding first_unknown errors_from
readable w h zero i e = none'
readable w h (suc n) i e = go (is_zeros (error_at w i)) (known (error_at w i)) refl (readable w h n (i + 1)) e
  where
    go : (t x : Bool) → known (error_at w i) ≡ x → (first_unknown (i + 1) (errors_from w (i + 1) n) ≡ None → Readable (errors_from w (i + 1) n))
        → first_unknown i (cond t [] (error_at w i ∷ errors_from w (i + 1) n)) ≡ None → Readable (cond t [] (error_at w i ∷ errors_from w (i + 1) n))
    go true x q r e = none'
    go false true q r e =
        more' q (record { position = h (i * 4 + 1); kind = h (i * 4 + 2); value = h (i * 4 + 3) }) (r (simp q at e))
    go false false q r e = absurd (let x : Some i ≡ None = simp q at e in let z : ◌≡◌ {A = ℕ} 0 1 = cc x in omega (arith, z))

-- what a delivery has written

pub record Delivers (errors table bytes : List ℕ) (file room : ℕ) : Type 0 where
  pub known' : first_unknown 0 (errors_in errors) ≡ None
  pub lines : written (in_words errors file table bytes room) ≡ lines_of table bytes file (errors_in errors)

delivers : (errors table bytes : List ℕ) (file room : ℕ) → (in_words errors file table bytes room).reply.number ≡ 0 → Delivers errors table bytes file room
unfolding in_words delivered
delivers errors table bytes file room h = go (first_unknown 0 (errors_in errors)) refl
  where
    ls : List ℕ
    ls = lines_of table bytes file (errors_in errors)

    fit : (t : Bool) → leb (length ls) room ≡ t → (delivered ls room).reply.number ≡ 0 → written (delivered ls room) ≡ ls
    fit true q e = rw q (take-append_seam ls (replicate (room - length ls) 0))
    fit false q e = absurd (let x : ◌≡◌ {A = ℕ} 9 0 = rw q at e in omega (arith, x))

    go : (o : Option ℕ) → first_unknown 0 (errors_in errors) ≡ o → Delivers errors table bytes file room
    go (Some i) q = absurd (let x : ◌≡◌ {A = ℕ} 3 0 = rw q at h in omega (arith, x))
    go None q = record { known' = q; lines = rw q (fit (leb (length ls) room) refl (rw q at h)) }

whole : (w : List ℕ) → AllBelow word_end w → first_unknown 0 (errors_in w) ≡ None → Readable (errors_in w)
unfolding errors_in
whole w h e = readable w h (length w / 4) 0 e

pub lines_injective : (table bytes : List ℕ) → AllBelow 256 bytes → TextsDiffer table bytes → (a b : List ℕ) → AllBelow word_end a → AllBelow word_end b
    → (f g room room' : ℕ) → (in_words a f table bytes room).reply.number ≡ 0 → (in_words b g table bytes room').reply.number ≡ 0
    → written (in_words a f table bytes room) ≡ written (in_words b g table bytes room') → errors_in a ≡ errors_in b
lines_injective table bytes B D a b h k f g room room' p q e =
    let x = delivers a table bytes f room p in
    let y = delivers b table bytes g room' q in
    lines_read table bytes B D f g (errors_in a) (errors_in b) (whole a h x.known') (whole b k y.known') (sym x.lines ∙ (e ∙ y.lines))
