-- One reading of fields: a field without a byte ends at its first, a plain number has its word, escapes are a prefix code. Assumes nothing.
use Prim.Native.Nat.{ℕ, zero, suc, ◌+◌, ◌/◌, ◌≤◌, ◌<◌}
use native.Mathlib.Omega.{arith}
use native.Mathlib.Decide.{dec_lt, ℕ_discrete}
use mathlib.Core.Path.{◌≡◌, refl, sym, ap, subst, ◌∙◌}
use mathlib.Core.Logic.{◌⊎◌, inl, inr}
use mathlib.Core.Bool.{Bool, true, false, cond}
use Rattle.std.specs.Prelude.{Option, Some, None}
use mathlib.Core.List.{List, [], ◌∷◌, ◌++◌, append_assoc}
use lib.ListN.{length, take, drop, get_or, replicate, length-take, get_or-eq_default}
use lib.Seq.{get_or-take, get_or-drop}
use lib.Dec.{eqb, leb}
use Rattle.column_lines.specs.Numeral.{word_end, digit_of, negative_of, numeral, read_numeral}
use Rattle.column_lines.specs.Spelling.{magnitude_of, lead_of, rest_of, spelled}
use Rattle.std.specs.Prelude.{Some}
use Rattle.column_lines.proofs.Digits.{numeral_spelled}
use Rattle.column_lines.proofs.Numerals.{read_written}
use Rattle.column_lines.proofs.Again.{value_fits}
use Rattle.error_lines.specs.Texts.{after_blanks, plain, escape, escaped, quoted, start_of, length_of, in_table, text_at, text_field, text_field_by}
use Rattle.error_lines.specs.Texts.{TextsDiffer}
use Rattle.error_lines.specs.Words.{AllBelow}
use Rattle.error_lines.proofs.TextFields.{escape_quotation, escape_backslash, escape_low, escape_high, escape_plain}

pub cons_head : {x y : ℕ} {xs ys : List ℕ} → ◌≡◌ {A = List ℕ} (x ∷ xs) (y ∷ ys) → x ≡ y
cons_head e = cc e

pub cons_tail : {x y : ℕ} {xs ys : List ℕ} → ◌≡◌ {A = List ℕ} (x ∷ xs) (y ∷ ys) → xs ≡ ys
cons_tail e = cc e

-- a byte that a list has not

pub data Free (c : ℕ) : List ℕ → Type 0 where
  end : Free c []
  more : {b : ℕ} {bs : List ℕ} → (b ≡ c → ⊥) → Free c bs → Free c (b ∷ bs)

pub free_split : (c : ℕ) (f g r s : List ℕ) → Free c f → Free c g → f ++ (c ∷ r) ≡ g ++ (c ∷ s) → (f ≡ g) × (r ≡ s)
free_split c [] [] r s F G e = (refl, cons_tail e)
free_split c [] (b ∷ g) r s F (more n G) e = absurd (n (sym (cons_head e)))
free_split c (a ∷ f) [] r s (more n F) G e = absurd (n (cons_head e))
free_split c (a ∷ f) (b ∷ g) r s (more n F) (more m G) e =
    let x = free_split c f g r s F G (cons_tail e) in
    let h : a ≡ b = cons_head e in
    (ap (λ (z : ℕ). z ∷ f) h ∙ ap (λ (l : List ℕ). b ∷ l) x.0, x.1)

free_append : (c : ℕ) (f g : List ℕ) → Free c f → Free c g → Free c (f ++ g)
free_append c [] g end G = G
free_append c (b ∷ f) g (more n F) G = more n (free_append c f g F G)

free_replicate : (c b n : ℕ) → (b ≡ c → ⊥) → Free c (replicate n b)
free_replicate c b zero d = end
free_replicate c b (suc n) d = more d (free_replicate c b n d)

free_cond : (c : ℕ) (t : Bool) {f g : List ℕ} → Free c f → Free c g → Free c (cond t f g)
free_cond c true F G = F
free_cond c false F G = G

-- a byte that no numeral has
pub record Apart (c : ℕ) : Type 0 where
  pub blank : 32 ≡ c → ⊥
  pub minus : 45 ≡ c → ⊥
  pub low : c < 48

module _ (c : ℕ) (A : Apart c) where
  free_lead : (w : ℕ) (g : Bool) → Free c (lead_of w g)
  unfolding lead_of
  free_lead w false = free_replicate c 32 w A.blank
  free_lead zero true = end
  free_lead (suc w) true = free_append c (replicate w 32) (45 ∷ []) (free_replicate c 32 w A.blank) (more A.minus end)

  free_digit : (m : ℕ) → Free c (digit_of m ∷ [])
  free_digit m = more {b = digit_of m} (λ (e : digit_of m ≡ c). let l = A.low in omega (arith, e, l)) end

  free_rest : (w : ℕ) (g : Bool) (m : ℕ) → Free c (rest_of w g m)
  unfolding rest_of
  free_rest zero g m = end
  free_rest (suc w) g m =
      free_cond c (eqb m 0) (free_lead (suc w) g) (free_append c (rest_of w g (m / 10)) (digit_of m ∷ []) (free_rest w g (m / 10)) (free_digit m))

  free_spelled : (w : ℕ) (g : Bool) (m : ℕ) → Free c (spelled w g m)
  unfolding spelled
  free_spelled zero g m = end
  free_spelled (suc w) g m = free_append c (rest_of w g (m / 10)) (digit_of m ∷ []) (free_rest w g (m / 10)) (free_digit m)

  free_after : (l : List ℕ) → Free c l → Free c (after_blanks l)
  unfolding after_blanks
  free_after [] F = end
  free_after (b ∷ l) (more n F) = free_cond c (eqb b 32) (free_after l F) (more n F)

  pub free_plain : (s : Bool) (word : ℕ) → Free c (plain s word)
  unfolding plain
  free_plain s word =
      free_after (numeral 21 s word) (subst (Free c) (sym (numeral_spelled s word 21)) (free_spelled 21 (negative_of s word) (magnitude_of s word)))

-- a plain number has its word

read_after : (s : Bool) (l : List ℕ) → read_numeral s (after_blanks l) ≡ read_numeral s l
unfolding read_numeral after_blanks
read_after s [] = refl
read_after s (b ∷ l) = go (eqb b 32) refl (read_after s l)
  where
    go : (t : Bool) → eqb b 32 ≡ t → read_numeral s (after_blanks l) ≡ read_numeral s l
        → read_numeral s (cond (eqb b 32) (after_blanks l) (b ∷ l)) ≡ read_numeral s (b ∷ l)
    go true e r = simp e r
    go false e r = simp e

read_plain : (s : Bool) (word : ℕ) → word < word_end → read_numeral s (plain s word) ≡ Some word
unfolding plain
read_plain s word h = read_after s (numeral 21 s word) ∙ read_written 21 s word h (value_fits s word h)

pub plain_same : (s : Bool) (a b : ℕ) → a < word_end → b < word_end → plain s a ≡ plain s b → a ≡ b
plain_same s a b h k e =
    let w : Some a ≡ Some b = sym (read_plain s a h) ∙ (ap (read_numeral s) e ∙ read_plain s b k) in
    cc w

-- escapes

data Escape (b : ℕ) : List ℕ → Type 0 where
  mark : (b ≡ 34) ⊎ (b ≡ 92) → Escape b (92 ∷ b ∷ [])
  printed : (b ≡ 34 → ⊥) → (b ≡ 92 → ⊥) → Escape b (b ∷ [])
  digits : Escape b (92 ∷ digit_of (b / 100) ∷ digit_of (b / 10) ∷ digit_of b ∷ [])

escape_is : (b : ℕ) → Escape b (escape b)
escape_is b = go (ℕ_discrete b 34) (ℕ_discrete b 92) (dec_lt b 32) (dec_lt 126 b)
  where
    go : Dec (b ≡ 34) → Dec (b ≡ 92) → Dec (b < 32) → Dec (126 < b) → Escape b (escape b)
    go (yes e) y l h = subst (Escape b) (escape_quotation b e) (mark (inl e))
    go (no d) (yes e) l h = subst (Escape b) (escape_backslash b d e) (mark (inr e))
    go (no d) (no e) (yes l) h = subst (Escape b) (escape_low b d e l) digits
    go (no d) (no e) (no l) (yes h) = subst (Escape b) (escape_high b d e (omega (arith, l)) h) digits
    go (no d) (no e) (no l) (no h) = subst (Escape b) (escape_plain b d e (omega (arith, l)) (omega (arith, h))) (printed d e)

mark_digit : (b m : ℕ) → (b ≡ 34) ⊎ (b ≡ 92) → b ≡ digit_of m → ⊥
mark_digit b m (inl e) h = omega (arith, e, h)
mark_digit b m (inr e) h = omega (arith, e, h)

ten : (q r : ℕ) → q / 10 ≡ r / 10 → digit_of q ≡ digit_of r → q ≡ r
ten q r a b = omega (arith, a, b)

hundred : (b : ℕ) → b / 10 / 10 ≡ b / 100
hundred b = omega arith

small : (q r : ℕ) → q < 10 → r < 10 → digit_of q ≡ digit_of r → q ≡ r
small q r h k e = omega (arith, h, k, e)

digits_same : (b c : ℕ) → b < 256 → c < 256 → digit_of (b / 100) ≡ digit_of (c / 100) → digit_of (b / 10) ≡ digit_of (c / 10) → digit_of b ≡ digit_of c → b ≡ c
digits_same b c h k x y z =
    let l : b / 100 < 10 = omega (arith, h) in
    let m : c / 100 < 10 = omega (arith, k) in
    ten b c (ten (b / 10) (c / 10) (hundred b ∙ (small (b / 100) (c / 100) l m x ∙ sym (hundred c))) y) z

escape_split : (b c : ℕ) {x y : List ℕ} (r s : List ℕ) → Escape b x → Escape c y → b < 256 → c < 256 → x ++ r ≡ y ++ s → (b ≡ c) × (r ≡ s)
escape_split b c r s (mark m) (mark n) h k e = (cons_head (cons_tail e), cons_tail (cons_tail e))
escape_split b c r s (mark m) (printed p q) h k e = absurd (q (sym (cons_head e)))
escape_split b c r s (mark m) digits h k e = absurd (mark_digit b (c / 100) m (cons_head (cons_tail e)))
escape_split b c r s (printed p q) (mark n) h k e = absurd (q (cons_head e))
escape_split b c r s (printed p q) (printed p' q') h k e = (cons_head e, cons_tail e)
escape_split b c r s (printed p q) digits h k e = absurd (q (cons_head e))
escape_split b c r s digits (mark n) h k e = absurd (mark_digit c (b / 100) n (sym (cons_head (cons_tail e))))
escape_split b c r s digits (printed p q) h k e = absurd (q (sym (cons_head e)))
escape_split b c r s digits digits h k e =
    let x : digit_of (b / 100) ≡ digit_of (c / 100) = cons_head (cons_tail e) in
    let y : digit_of (b / 10) ≡ digit_of (c / 10) = cons_head (cons_tail (cons_tail e)) in
    let z : digit_of b ≡ digit_of c = cons_head (cons_tail (cons_tail (cons_tail e))) in
    (digits_same b c h k x y z, cons_tail (cons_tail (cons_tail (cons_tail e))))

escape_no_end : (b : ℕ) {x : List ℕ} (r s : List ℕ) → Escape b x → x ++ r ≡ 34 ∷ s → ⊥
escape_no_end b r s (mark m) e = let h : ◌≡◌ {A = ℕ} 92 34 = cons_head e in omega (arith, h)
escape_no_end b r s (printed p q) e = p (cons_head e)
escape_no_end b r s digits e = let h : ◌≡◌ {A = ℕ} 92 34 = cons_head e in omega (arith, h)

below_tail : (n b : ℕ) (l : List ℕ) → AllBelow n (b ∷ l) → AllBelow n l
below_tail n b l h j = h (suc j)

escaped_split : (t u r s : List ℕ) → AllBelow 256 t → AllBelow 256 u → escaped t ++ (34 ∷ r) ≡ escaped u ++ (34 ∷ s) → (t ≡ u) × (r ≡ s)
unfolding escaped
escaped_split [] [] r s T U e = (refl, cons_tail e)
escaped_split [] (c ∷ u) r s T U e =
    absurd (escape_no_end c (escaped u ++ (34 ∷ s)) r (escape_is c) (sym (append_assoc (escape c) (escaped u) (34 ∷ s)) ∙ sym e))
escaped_split (b ∷ t) [] r s T U e =
    absurd (escape_no_end b (escaped t ++ (34 ∷ r)) s (escape_is b) (sym (append_assoc (escape b) (escaped t) (34 ∷ r)) ∙ e))
escaped_split (b ∷ t) (c ∷ u) r s T U e =
    let x = escape_split b c (escaped t ++ (34 ∷ r)) (escaped u ++ (34 ∷ s)) (escape_is b) (escape_is c) (T 0) (U 0)
    (sym (append_assoc (escape b) (escaped t) (34 ∷ r)) ∙ (e ∙ append_assoc (escape c) (escaped u) (34 ∷ s))) in
    let y = escaped_split t u r s (below_tail 256 b t T) (below_tail 256 c u U) x.1 in
    let h : b ≡ c = x.0 in
    (ap (λ (z : ℕ). z ∷ t) h ∙ ap (λ (l : List ℕ). c ∷ l) y.0, y.1)

quoted_split : (t u r s : List ℕ) → AllBelow 256 t → AllBelow 256 u → quoted t ++ r ≡ quoted u ++ s → (t ≡ u) × (r ≡ s)
unfolding quoted
quoted_split t u r s T U e =
    escaped_split t u r s T U (sym (append_assoc (escaped t) (34 ∷ []) r) ∙ (cons_tail e ∙ append_assoc (escaped u) (34 ∷ []) s))

-- a text's field

below_part : (l : List ℕ) (n : ℕ) (start len : ℕ) → AllBelow n l → 0 < n → AllBelow n (take len (drop start l))
below_part l n start len h z j = go (dec_lt j len)
  where
    go : Dec (j < len) → get_or (take len (drop start l)) j 0 < n
    go (yes k) =
        let e : get_or (take len (drop start l)) j 0 ≡ get_or l (start + j) 0 = get_or-take len (drop start l) j 0 k ∙ get_or-drop start l j 0 in
        let x = h (start + j) in
        omega (arith, e, x)
    go (no k) =
        let m : length (take len (drop start l)) ≤ j = let y = length-take len (drop start l) in omega (arith, y, k) in
        let e : get_or (take len (drop start l)) j 0 ≡ 0 = get_or-eq_default (take len (drop start l)) 0 m in
        omega (arith, e, z)

text_below : (table bytes : List ℕ) (n : ℕ) (t : List ℕ) → AllBelow 256 bytes → text_at table bytes n ≡ Some t → AllBelow 256 t
unfolding text_at
text_below table bytes n t h = go (in_table table n) (leb (start_of table n + length_of table n) (length bytes))
  where
    go : (a b : Bool) → cond a (cond b (Some (take (length_of table n) (drop (start_of table n) bytes))) None) None ≡ Some t → AllBelow 256 t
    go true true e =
        let q : take (length_of table n) (drop (start_of table n) bytes) ≡ t = cc e in
        subst (AllBelow 256) q (below_part bytes 256 (start_of table n) (length_of table n) h (omega arith))
    go true false e = absurd (let z : ◌≡◌ {A = ℕ} 0 1 = cc e in omega (arith, z))
    go false b e = absurd (let z : ◌≡◌ {A = ℕ} 0 1 = cc e in omega (arith, z))

no_mark : (c : ℕ) (x f y : List ℕ) → Free 34 f → (34 ≡ c → ⊥) → ◌≡◌ {A = List ℕ} (34 ∷ x) (f ++ (c ∷ y)) → ⊥
no_mark c x [] y F d e = d (cons_head e)
no_mark c x (b ∷ f) y (more n F) d e = n (sym (cons_head e))

pub apart_34 : Apart 34
apart_34 = record { blank = λ e. omega (arith, e); minus = λ e. omega (arith, e); low = omega arith }

quoted_starts : (t r : List ℕ) → quoted t ++ r ≡ 34 ∷ ((escaped t ++ (34 ∷ [])) ++ r)
unfolding quoted
quoted_starts t r = refl

module _ (table bytes : List ℕ) (B : AllBelow 256 bytes) (c : ℕ) (A : Apart c) (d : 34 ≡ c → ⊥) where
  pub text_split : (n m : ℕ) (r s : List ℕ) → text_field table bytes n ++ (c ∷ r) ≡ text_field table bytes m ++ (c ∷ s)
      → (r ≡ s) × (TextsDiffer table bytes → n < word_end → m < word_end → n ≡ m)
  unfolding text_field
  text_split n m r s = go (text_at table bytes n) (text_at table bytes m) refl refl
    where
      go : (x y : Option (List ℕ)) → text_at table bytes n ≡ x → text_at table bytes m ≡ y → text_field_by x n ++ (c ∷ r) ≡ text_field_by y m ++ (c ∷ s)
          → (r ≡ s) × (TextsDiffer table bytes → n < word_end → m < word_end → n ≡ m)
      go (Some t) (Some u) p q e =
          let x = quoted_split t u (c ∷ r) (c ∷ s) (text_below table bytes n t B p) (text_below table bytes m u B q) e in
          (cons_tail x.1, λ D h k. D n m t p (q ∙ ap Some (sym x.0)))
      go (Some t) None p q e =
          absurd (no_mark c _ (plain false m) s (free_plain 34 apart_34 false m) d (sym (quoted_starts t (c ∷ r)) ∙ e))
      go None (Some u) p q e =
          absurd (no_mark c _ (plain false n) r (free_plain 34 apart_34 false n) d (sym (quoted_starts u (c ∷ s)) ∙ sym e))
      go None None p q e =
          let x = free_split c (plain false n) (plain false m) r s (free_plain c A false n) (free_plain c A false m) e in
          (x.1, λ D h k. plain_same false n m h k x.0)
