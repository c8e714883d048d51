-- A line that has room and whose numbers fit is exactly its bytes, in their place: `line_whole`. Assumes nothing.
use Prim.Native.Nat.{ℕ, suc, ◌+◌, ◌≤◌}
use native.Mathlib.Omega.{arith}
use mathlib.Core.Path.{◌≡◌, refl, sym, ap, subst, ◌∙◌}
use mathlib.Core.Bool.{Bool, true, false, cond}
use mathlib.Core.List.{List, [], ◌∷◌, ◌++◌, append_assoc}
use lib.ListN.{length, take, drop, get_or, set, length-append, take-append-drop}
use lib.Seq.{length-take-le, set_at, drop-cons}
use Rattle.column_lines.specs.Numeral.{numeral, numeral_fits}
use Rattle.column_lines.proofs.Lines.{numeral_length, Begun, begun_more, begun_length}
use Rattle.line_writer.specs.declared.writer.Fields.{Fields}
use Rattle.line_writer.specs.Placed.{Placed, refused, number_put, number_at, byte_put, byte_at}
use Rattle.column_lines.specs.Form.{newline}
use Rattle.line_writer.specs.Written.{start_at, field_width, section_width, last_width, field_at, line_at, line_size}
use Rattle.line_writer.specs.Written.{six_behind, line_behind}
use Rattle.line_writer.proofs.Placing.{room_yes}

-- no number of a line is wider than its field
pub record EachFits (l : Fields) : Type 0 where
  pub section : numeral_fits section_width false l.section ≡ true
  pub first : numeral_fits field_width false l.first ≡ true
  pub second : numeral_fits field_width false l.second ≡ true
  pub third : numeral_fits field_width false l.third ≡ true
  pub fourth : numeral_fits field_width false l.fourth ≡ true
  pub fifth : numeral_fits field_width false l.fifth ≡ true
  pub sixth : numeral_fits field_width false l.sixth ≡ true
  pub last : numeral_fits last_width l.signed l.last ≡ true

-- all up to k is `done`, the rest of the buffer is as it was, and nothing was refused
record Along (done before : List ℕ) (k : ℕ) (m : Placed) : Type 0 where
  offset : m.offset ≡ k
  fits : m.fits ≡ true
  bytes : Begun done before m.bytes k

room : {done before : List ℕ} {k : ℕ} {m : Placed} (n : ℕ) → Along done before k m → k + n ≤ length before → m.offset + n ≤ length m.bytes
room {done} {before} {k} {m} n a h =
    let l = begun_length done before m.bytes k a.bytes (omega (arith, h)) in
    omega (arith, l, h, a.offset)

number_more : {done before : List ℕ} {k : ℕ} {m : Placed} (width word : ℕ) (g : Bool) → Along done before k m → numeral_fits width g word ≡ true
    → k + width ≤ length before → Along (done ++ numeral width g word) before (k + width) (number_at width g word m)
unfolding number_at
number_more {done} {before} {k} {m} width word g a f h =
    let put : number_at width g word m ≡ number_put width g word m =
    ap (λ (b : Bool). cond b (number_put width g word m) (refused m)) (room_yes width m a.fits (room width a h)) in
    let n = numeral_length width g word in
    subst (Along (done ++ numeral width g word) before (k + width)) (sym put) (record {
      offset = ap (λ (o : ℕ). o + width) a.offset;
      fits = f;
      bytes = begun_more done before m.bytes (numeral width g word) _ k (k + width) a.bytes (omega (arith, n)) (omega arith)
          (ap (λ (o : ℕ). take o m.bytes ++ (numeral width g word ++ drop (o + width) m.bytes)) a.offset);
    })

byte_more : {done before : List ℕ} {k : ℕ} {m : Placed} (b : ℕ) → Along done before k m → k + 1 ≤ length before
    → Along (done ++ (b ∷ [])) before (k + 1) (byte_at b m)
unfolding byte_at
byte_more {done} {before} {k} {m} b a h =
    let put : byte_at b m ≡ byte_put b m = ap (λ (t : Bool). cond t (byte_put b m) (refused m)) (room_yes 1 m a.fits (room 1 a h)) in
    let c : drop k before ≡ get_or before k 0 ∷ drop (suc k) before = drop-cons before k 0 (omega (arith, h)) in
    let s : set (done ++ (get_or before k 0 ∷ drop (suc k) before)) k b ≡ done ++ (b ∷ drop (suc k) before) =
    set_at done (get_or before k 0) (drop (suc k) before) b k a.bytes.long in
    let n : suc k ≡ k + 1 = omega arith in
    subst (Along (done ++ (b ∷ [])) before (k + 1)) (sym put) (record {
      offset = ap (λ (o : ℕ). o + 1) a.offset;
      fits = refl;
      bytes = record {
        long = length-append done (b ∷ []) ∙ ap (λ (x : ℕ). x + 1) a.bytes.long;
        rest = ap (λ (o : ℕ). set m.bytes o b) a.offset ∙ (ap (λ (out : List ℕ). set out k b) (a.bytes.rest ∙ ap (λ (r : List ℕ). done ++ r) c)
            ∙ (s ∙ (ap (λ (j : ℕ). done ++ (b ∷ drop j before)) n ∙ sym (append_assoc done (b ∷ []) (drop (k + 1) before)))));
      };
    })

-- a line, with room for it
module _ (l : Fields) (at : ℕ) (bs : List ℕ) (h : at + line_size ≤ length bs) (f : EachFits l) where
  begins : Along (take at bs) bs at (start_at at bs)
  begins = record { offset = refl; fits = refl; bytes = record { long = length-take-le at bs (omega (arith, h)); rest = sym (take-append-drop at bs) } }

  six : Along (six_behind (take at bs ++ numeral section_width false l.section) l) bs (at + 4 + 8 + 8 + 8 + 8 + 8 + 8) (field_at l.sixth (field_at l.fifth
      (field_at l.fourth (field_at l.third (field_at l.second (field_at l.first (number_at section_width false l.section (start_at at bs))))))))
  six =
      number_more field_width l.sixth false (number_more field_width l.fifth false (number_more field_width l.fourth false
      (number_more field_width l.third false (number_more field_width l.second false (number_more field_width l.first false
      (number_more section_width l.section false begins f.section (omega (arith, h))) f.first (omega (arith, h))) f.second (omega (arith, h)))
      f.third (omega (arith, h))) f.fourth (omega (arith, h))) f.fifth (omega (arith, h))) f.sixth (omega (arith, h))

  along : Along (line_behind (take at bs) l) bs (at + 4 + 8 + 8 + 8 + 8 + 8 + 8 + 21 + 1) (line_at l (start_at at bs))
  unfolding line_at
  along = byte_more newline (number_more last_width l.last l.signed six f.last (omega (arith, h))) (omega (arith, h))

  pub line_whole : line_at l (start_at at bs) ≡ record { offset = at + line_size; fits = true; bytes = line_behind (take at bs) l ++ drop (at + line_size) bs }
  line_whole =
      let size : at + 4 + 8 + 8 + 8 + 8 + 8 + 8 + 21 + 1 ≡ at + line_size = omega arith in
      let bytes = along.bytes.rest ∙ ap (λ (k : ℕ). line_behind (take at bs) l ++ drop k bs) size in
      λ j. record { offset = (along.offset ∙ size) j; fits = along.fits j; bytes = bytes j }
