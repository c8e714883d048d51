-- The round trips. Words that pass rows 2 to 4 come back from their column file as they were (`records_come_back`), and a file that passes row 1 comes
-- back from its words byte for byte (`file_comes_back`); `records_round_trip` and `file_round_trip` say it of the converters. Assumes nothing.
use Prim.Native.Nat.{ℕ, zero, suc, ◌+◌, ◌-◌, ◌*◌, ◌/◌, ◌≤◌, ◌<◌}
use native.Mathlib.Omega.{arith}
use native.Mathlib.Decide.{dec_lt, ℕ_discrete}
use mathlib.Core.Path.{◌≡◌, refl, sym, ap, subst, ◌∙◌}
use mathlib.Core.Bool.{Bool, true, false, cond}
use mathlib.Core.List.{List, [], ◌∷◌, ◌++◌}
use lib.ListN.{length, take, drop, get_or, replicate, length-drop, take-append-drop}
use lib.Seq.{take_at, drop_at, get_or-drop, drop-cons}
use lib.Dec.{eqb, leb}
use borrow.Author.Tests.{eq-eqb, eqb-true, le-leb, leb-true}
use Rattle.std.specs.Prelude.{Ok}
use Rattle.words.specs.Record.{field_of, kind_at, span_at, position_at, value_at, most_records, in_place}
use Rattle.words.proofs.Positions.{in_place_lem}
use Rattle.tree.specs.Rules.{Rule, rules, rule_of, unused, anything, may_be_at, may_stand, slot_after, first_slot, in_range}
use Rattle.tree.specs.Check.{walk_of, head_at, shape_of, records_of}
use Rattle.tree.proofs.Tables.{may_past}
use Rattle.tree.proofs.Spans.{and_left, and_right, within_true}
use Rattle.tree.proofs.Walks.{walk_on, head_went}
use Rattle.tree.proofs.Children.{then_went, sound_parts}
use Rattle.tree.proofs.Bundle.{fine_passed}
use Rattle.column_lines.specs.Form.{line_length}
use Rattle.column_lines.specs.Line.{read_line, record_of, record_line}
use Rattle.words.specs.declared.node.Record.{Record}
use Rattle.std.specs.Prelude.{Option, Some, None}
use Rattle.column_lines.proofs.Lines.{line_size_lem}
use Rattle.column_lines.proofs.Again.{line_again, line_read}
use Rattle.column_files.specs.Files.{lines_in, words_by, words_of, good_then, bad_by, first_bad, lines_by, columns_of}
use Rattle.column_files.specs.Convert.{success, answer_by, columns_to_records, records_to_columns}
use Rattle.column_files.proofs.Files.{words_length, lines_length}

-- a record whose words fit their columns
pub record Good (w : List ℕ) (j : ℕ) : Type 0 where
  pub kind : kind_at w j < 50
  pub span : span_at w j ≤ most_records
  pub position : in_place (position_at w j) ≡ true
  pub value : value_at w j < 18446744073709551616

-- every kind's limits, by one test of the table
limits : Rule → Bool
limits r = leb r.most anything

all : (Rule → Bool) → List Rule → Bool
all f [] = true
all f (r ∷ rs) = cond (f r) (all f rs) false

all_get : (f : Rule → Bool) (rs : List Rule) (d : Rule) (k : ℕ) → all f rs ≡ true → f d ≡ true → f (get_or rs k d) ≡ true
unfolding all
all_get f [] d k a e = e
all_get f (r ∷ rs) d zero a e = first (f r) refl a
  where
    first : (t : Bool) → f r ≡ t → cond t (all f rs) false ≡ true → f r ≡ true
    first true y x = y
    first false y x = cc
all_get f (r ∷ rs) d (suc k) a e = all_get f rs d k (rest (f r) a) e
  where
    rest : (t : Bool) {x : Bool} → cond t x false ≡ true → x ≡ true
    rest true y = y
    rest false y = cc

limited : (k : ℕ) → limits (rule_of k) ≡ true
unfolding limits all
limited k = all_get limits rules unused k refl refl

placed_in_lem : (placed : Bool) (p : ℕ) → may_be_at placed p ≡ true → in_place p ≡ true
unfolding may_be_at in_place
placed_in_lem true p e = e
placed_in_lem false p e = let z : p ≡ 0 = eqb-true p 0 e in subst (λ (n : ℕ). in_place n ≡ true) (sym z) refl

good_range : (k p v : ℕ) → in_range k p v ≡ true → (in_place p ≡ true) × (v < 18446744073709551616)
unfolding in_range limits
good_range k p v e =
    let b = leb-true (rule_of k).most anything (limited k) in
    let y = leb-true v (rule_of k).most (and_right (leb (rule_of k).least v) _ (and_right (may_be_at (rule_of k).position p) _ e)) in
    (placed_in_lem (rule_of k).position p (and_left (may_be_at (rule_of k).position p) _ e), omega (arith, b, y))

good_kind : (s k : ℕ) → may_stand s k ≡ true → k < 50
good_kind s k e = go (dec_lt k 50)
  where
    go : Dec (k < 50) → k < 50
    go (yes h) = h
    go (no h) = let f : false ≡ may_stand s k = may_past s k (omega arith) in cc

-- the walk goes over every record
walk_good : (n : ℕ) (w : List ℕ) (s l t i e u : ℕ) → walk_of w s l t i e ≡ Ok u → e ≤ most_records → e - i ≤ n → (j : ℕ) → i ≤ j → j < e → Good w j
walk_good zero w s l t i e u h m b j a x = absurd (omega arith)
walk_good (suc n) w s l t i e u h m b j a x =
    let g : i < e = omega arith in
    let p = then_went (head_at w s l t i e) _ u (sym (walk_on w s l t i e g) ∙ h) in
    let q = then_went (walk_of w (first_slot (kind_at w i)) (l + 1) p.0 (i + 1) (i + span_at w i)) _ u p.2 in
    let o = sound_parts w s t i e (head_went w s l t i e p.0 p.1).sound in
    let y = within_true i (span_at w i) e o.within in
    let r = good_range (kind_at w i) (position_at w i) (value_at w i) o.range in
    let here : Good w i = record { kind = good_kind s (kind_at w i) o.may; span = omega arith; position = r.0; value = r.1 } in
    by here y (ℕ_discrete i j) (dec_lt j (i + span_at w i))
    (λ k z. walk_good n w (first_slot (kind_at w i)) (l + 1) p.0 (i + 1) (i + span_at w i) q.0 q.1 (omega arith) (omega arith) j k z)
    (λ k. walk_good n w (slot_after s (kind_at w i)) l q.0 (i + span_at w i) e u q.2 m (omega arith) j k x)
  where
    by : Good w i → (0 < span_at w i) × (i + span_at w i ≤ e) → Dec (i ≡ j) → Dec (j < i + span_at w i)
        → (i + 1 ≤ j → j < i + span_at w i → Good w j) → (i + span_at w i ≤ j → Good w j) → Good w j
    by here y (yes z) d inner rest = subst (λ (k : ℕ). Good w k) z here
    by here y (no z) (yes d) inner rest = inner (omega arith) d
    by here y (no z) (no d) inner rest = rest (omega arith)

fine_good : (w : List ℕ) → shape_of w ≡ Ok tt → (j : ℕ) → j < records_of w → Good w j
fine_good w h j x =
    let p = fine_passed w h in
    walk_good (records_of w) w 1 1 0 0 (records_of w) p.went.0 p.went.1 p.limit (omega arith) j (omega arith) x

-- good records come back

-- the words of a record, and those after it
four : (w : List ℕ) → 4 ≤ length w → w ≡ get_or w 0 0 ∷ get_or w 1 0 ∷ get_or w 2 0 ∷ get_or w 3 0 ∷ drop 4 w
four w h =
    drop-cons w 0 0 (omega arith) ∙ ap (λ (l : List ℕ). get_or w 0 0 ∷ l) (drop-cons w 1 0 (omega arith)
    ∙ ap (λ (l : List ℕ). get_or w 1 0 ∷ l) (drop-cons w 2 0 (omega arith) ∙ ap (λ (l : List ℕ). get_or w 2 0 ∷ l) (drop-cons w 3 0 (omega arith))))

good_first : (w : List ℕ) → Good w 0 → read_line (record_line (get_or w 0 0) (get_or w 1 0) (get_or w 2 0) (get_or w 3 0))
    ≡ Some (record_of (get_or w 0 0) (get_or w 1 0) (get_or w 2 0) (get_or w 3 0))
unfolding field_of
good_first w g =
    let k = g.kind in
    let s = g.span in
    let p = in_place_lem (get_or w (0 * 4 + 2) 0) g.position in
    line_read (get_or w 0 0) (get_or w 1 0) (get_or w 2 0) (get_or w 3 0) (omega (arith, k)) (omega (arith, s)) (omega (arith, p.0)) (omega (arith, p.1))
    g.value

good_rest : (w : List ℕ) (j : ℕ) → Good w (suc j) → Good (drop 4 w) j
unfolding field_of
good_rest w j g =
    let e : (k : ℕ) → get_or (drop 4 w) (j * 4 + k) 0 ≡ get_or w (suc j * 4 + k) 0
    = λ k. get_or-drop 4 w (j * 4 + k) 0 ∙ ap (λ (n : ℕ). get_or w n 0) (let x : 4 + (j * 4 + k) ≡ suc j * 4 + k = omega arith in x) in
    record {
      kind = rw (e 0) g.kind;
      span = rw (e 1) g.span;
      position = rw (e 2) g.position;
      value = rw (e 3) g.value;
    }

pub record Back (w : List ℕ) (n line : ℕ) : Type 0 where
  pub words : words_by n (lines_by n w) ≡ w
  pub good : bad_by n line (lines_by n w) ≡ 0

nothing_left : (w : List ℕ) → length w ≡ 0 → [] ≡ w
nothing_left [] e = refl
nothing_left (x ∷ xs) e = absurd (omega arith)

back : (n line : ℕ) (w : List ℕ) → length w ≡ n * 4 → ((j : ℕ) → j < n → Good w j) → Back w n line
unfolding words_by lines_by bad_by
back zero line w e g = record { words = nothing_left w (omega arith); good = refl }
back (suc n) line w e g =
    let r = record_line (get_or w 0 0) (get_or w 1 0) (get_or w 2 0) (get_or w 3 0) in
    let z : length r ≡ line_length = line_size_lem (get_or w 0 0) (get_or w 1 0) (get_or w 2 0) (get_or w 3 0) in
    let t : take line_length (r ++ lines_by n (drop 4 w)) ≡ r = take_at r (lines_by n (drop 4 w)) line_length z in
    let d : drop line_length (r ++ lines_by n (drop 4 w)) ≡ lines_by n (drop 4 w) = drop_at r (lines_by n (drop 4 w)) line_length z in
    let f = good_first w (g 0 (omega arith)) in
    let b = back n (line + 1) (drop 4 w) (length-drop 4 w ∙ omega arith) (λ j h. good_rest w j (g (suc j) (omega arith))) in
    record {
      words = rw (t, d, f, b.words) (sym (four w (omega arith)));
      good = rw (t, d, f) b.good;
    }

lines_are : (w : List ℕ) → lines_in (columns_of w) ≡ records_of w
lines_are w = let l = lines_length (length w / 4) w in omega (arith, l)

pub record ComesBack (w : List ℕ) : Type 0 where
  pub words : words_of (columns_of w) ≡ w
  pub good : first_bad (columns_of w) ≡ 0

-- words that pass rows 2 to 4 come back from their column file as they were
pub records_come_back : (w : List ℕ) → shape_of w ≡ Ok tt → ComesBack w
records_come_back w h =
    let p = (fine_passed w h).whole in
    let b = back (length w / 4) 1 w (omega arith) (fine_good w h) in
    record {
      words = ap (λ (n : ℕ). words_by n (columns_of w)) (lines_are w) ∙ b.words;
      good = ap (λ (n : ℕ). bad_by n 1 (columns_of w)) (lines_are w) ∙ b.good;
    }

-- a file that passes row 1 comes back

good_line : (l : Option Record) (line next : ℕ) → 0 < line → good_then l line next ≡ 0
    → (r : Record) × (l ≡ Some r) × (next ≡ 0)
good_line (Some r) line next h e = (r, refl, e)
good_line None line next h e = absurd (omega arith)

file_back : (n line : ℕ) (file : List ℕ) → 0 < line → bad_by n line file ≡ 0 → lines_by n (words_by n file) ≡ file
unfolding words_by lines_by bad_by
file_back zero line file h e = nothing_left file (go (eqb (length file) 0) refl e)
  where
    go : (t : Bool) → eqb (length file) 0 ≡ t → cond t 0 line ≡ 0 → length file ≡ 0
    go true x y = eqb-true (length file) 0 x
    go false x y = absurd (omega arith)
file_back (suc n) line file h e =
    let g = good_line (read_line (take line_length file)) line (bad_by n (line + 1) (drop line_length file)) h e in
    let a = line_again (take line_length file) g.1 in
    let r = file_back n (line + 1) (drop line_length file) (omega arith) g.2 in
    rw g.1 (rw (a, r) (take-append-drop line_length file))

pub file_comes_back : (file : List ℕ) → first_bad file ≡ 0 → columns_of (words_of file) ≡ file
file_comes_back file h =
    let l = words_length (lines_in file) file in
    ap (λ (n : ℕ). lines_by n (words_of file)) (let x : length (words_of file) / 4 ≡ lines_in file = omega (arith, l) in x)
    ∙ file_back (lines_in file) 1 file (omega arith) h

-- the same of the converters: what one writes, without the zeros after it, the other takes back

pub records_round_trip : (w : List ℕ) (room : ℕ) → shape_of w ≡ Ok tt → length w ≤ room
    → columns_to_records (columns_of w) room ≡ record { reply = success (records_of w); output = w ++ replicate (room - length w) 0 }
unfolding columns_to_records answer_by
records_round_trip w room h l =
    let b = records_come_back w h in
    let g : eqb (first_bad (columns_of w)) 0 ≡ true = eq-eqb (first_bad (columns_of w)) 0 b.good in
    rw (g, b.words, lines_are w) (rw h (rw (le-leb (length w) room l)))

pub file_round_trip : (file : List ℕ) (room : ℕ) → first_bad file ≡ 0 → shape_of (words_of file) ≡ Ok tt → length file ≤ room
    → records_to_columns (words_of file) room ≡ record { reply = success (lines_in file); output = file ++ replicate (room - length file) 0 }
unfolding records_to_columns answer_by
file_round_trip file room b h l =
    let w = words_length (lines_in file) file in
    let n : length (words_of file) / 4 ≡ lines_in file = omega (arith, w) in
    ap (λ (c : List ℕ). answer_by (shape_of (words_of file)) c (length (words_of file) / 4) room) (file_comes_back file b)
    ∙ ap (λ (k : ℕ). answer_by (shape_of (words_of file)) file k room) n ∙ rw h (rw (le-leb (length file) room l))
