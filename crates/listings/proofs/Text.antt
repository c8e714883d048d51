-- Lines written from an offset on are their text, in its place, where they fit and have room (`lines_whole`); and what fits says so (`lines_told`). From both,
-- what the end of a listing answers (`finished`). Assumes nothing.
use Prim.Native.Nat.{ℕ, ◌+◌, ◌-◌, ◌≤◌}
use native.Mathlib.Omega.{arith}
use mathlib.Core.Path.{◌≡◌, refl, sym, ap, subst, ◌∙◌}
use mathlib.Core.Bool.{Bool, true, false, cond, ◌&&◌}
use mathlib.Core.List.{List, [], ◌∷◌, ◌++◌, append_assoc, append-nil}
use lib.ListN.{length, take, drop, replicate, length-append}
use lib.Dec.{leb}
use borrow.Author.Tests.{leb-true, leb-false}
use Rattle.std.specs.Prelude.{Ok}
use Rattle.words.specs.Areas.{cleared_from}
use Rattle.tree.proofs.Spans.{and_left, and_right}
use Rattle.column_lines.specs.Form.{newline}
use Rattle.column_lines.specs.Numeral.{numeral_fits}
use Rattle.column_lines.proofs.Lines.{numeral_length, Begun, begun, begun_more, begun_length}
use Rattle.column_files.specs.Convert.{Converts, answer_by, refuse, success, refusal, short_reply}
use Rattle.column_files.specs.declared.Converted.{Converted}
use Rattle.column_files.proofs.Converting.{cleared_all, cleared_rest, answer_short, answer_done}
use Rattle.line_writer.specs.Placed.{Placed, refused, number_put, number_at, byte_put, byte_at}
use Rattle.line_writer.specs.Written.{start_at, section_width, field_width, last_width, field_at, line_at, line_size, line_behind}
use Rattle.line_writer.specs.declared.writer.Fields.{Fields}
use Rattle.line_writer.proofs.Placing.{number_length}
use Rattle.line_writer.proofs.InARow.{line_length_lem}
use Rattle.line_writer.proofs.WholeLine.{EachFits, line_whole}
use Rattle.listings.specs.Lines.{line_bytes, line_fits, text_of, all_fit, lines_at}
use Rattle.listings.specs.Listing.{printed, Finishes}
use Rattle.listings.proofs.Walking.{lines_refused}

-- a line's bytes behind others are those, and then the line's

line_behind_lem : (before : List ℕ) (l : Fields) → line_behind before l ≡ before ++ line_bytes l
unfolding line_bytes
line_behind_lem before l = simp append_assoc

line_size_lem : (l : Fields) → length (line_bytes l) ≡ line_size
unfolding line_bytes
line_size_lem l =
    let s = numeral_length section_width false l.section in
    let a = numeral_length field_width false l.first in
    let b = numeral_length field_width false l.second in
    let c = numeral_length field_width false l.third in
    let d = numeral_length field_width false l.fourth in
    let e = numeral_length field_width false l.fifth in
    let f = numeral_length field_width false l.sixth in
    let z = numeral_length last_width l.signed l.last in
    simp (length-append, s, a, b, c, d, e, f, z)

-- the test and what it says
eight : (a b c d e f g h : Bool) → (a && (b && (c && (d && (e && (f && (g && h))))))) ≡ true
    → (a ≡ true) × (b ≡ true) × (c ≡ true) × (d ≡ true) × (e ≡ true) × (f ≡ true) × (g ≡ true) × (h ≡ true)
eight a b c d e f g h t =
    let t₁ = and_right a (b && (c && (d && (e && (f && (g && h)))))) t in
    let t₂ = and_right b (c && (d && (e && (f && (g && h))))) t₁ in
    let t₃ = and_right c (d && (e && (f && (g && h)))) t₂ in
    let t₄ = and_right d (e && (f && (g && h))) t₃ in
    let t₅ = and_right e (f && (g && h)) t₄ in
    let t₆ = and_right f (g && h) t₅ in (
      and_left a (b && (c && (d && (e && (f && (g && h)))))) t,
      and_left b (c && (d && (e && (f && (g && h))))) t₁,
      and_left c (d && (e && (f && (g && h)))) t₂,
      and_left d (e && (f && (g && h))) t₃,
      and_left e (f && (g && h)) t₄,
      and_left f (g && h) t₅,
      and_left g h t₆,
      and_right g h t₆,
    )

line_fits_lem : (l : Fields) → line_fits l ≡ true → EachFits l
unfolding line_fits
line_fits_lem l h =
    let t = eight (numeral_fits section_width false l.section) (numeral_fits field_width false l.first) (numeral_fits field_width false l.second)
    (numeral_fits field_width false l.third) (numeral_fits field_width false l.fourth) (numeral_fits field_width false l.fifth)
    (numeral_fits field_width false l.sixth) (numeral_fits last_width l.signed l.last) h in
    record {
      section = t.0;
      first = t.1;
      second = t.2;
      third = t.3;
      fourth = t.4;
      fifth = t.5;
      sixth = t.6;
      last = t.7;
    }

fits_line : (l : Fields) → EachFits l → line_fits l ≡ true
unfolding line_fits
fits_line l f = simp (f.section, f.first, f.second, f.third, f.fourth, f.fifth, f.sixth, f.last)

-- what a step that fits says of the place before it
record Told (width : ℕ) (fits : Bool) (m m' : Placed) : Type 0 where
  before : m.fits ≡ true
  room : m.offset + width ≤ length m.bytes
  field : fits ≡ true
  offset : m'.offset ≡ m.offset + width

number_told : (width word : ℕ) (g : Bool) (m : Placed) → (number_at width g word m).fits ≡ true
    → Told width (numeral_fits width g word) m (number_at width g word m)
unfolding number_at
number_told width word g m h = by m.fits (leb (m.offset + width) (length m.bytes)) refl refl h
  where
    by : (f t : Bool) → m.fits ≡ f → leb (m.offset + width) (length m.bytes) ≡ t → (cond (f && t) (number_put width g word m) (refused m)).fits ≡ true
        → Told width (numeral_fits width g word) m (cond (f && t) (number_put width g word m) (refused m))
    by true true e l h = record { before = e; room = leb-true _ _ l; field = h; offset = refl }
    by true false e l h = absurd (let z : ◌≡◌ {A = ℕ} 0 1 = cc in omega arith)
    by false t e l h = absurd (let z : ◌≡◌ {A = ℕ} 0 1 = cc in omega arith)

byte_told : (b : ℕ) (m : Placed) → (byte_at b m).fits ≡ true → Told 1 true m (byte_at b m)
unfolding byte_at
byte_told b m h = by m.fits (leb (m.offset + 1) (length m.bytes)) refl refl h
  where
    by : (f t : Bool) → m.fits ≡ f → leb (m.offset + 1) (length m.bytes) ≡ t → (cond (f && t) (byte_put b m) (refused m)).fits ≡ true
        → Told 1 true m (cond (f && t) (byte_put b m) (refused m))
    by true true e l h = record { before = e; room = leb-true _ _ l; field = refl; offset = refl }
    by true false e l h = absurd (let z : ◌≡◌ {A = ℕ} 0 1 = cc in omega arith)
    by false t e l h = absurd (let z : ◌≡◌ {A = ℕ} 0 1 = cc in omega arith)

-- a line that fits: its numbers fit, and it has room
record Roomy (l : Fields) (at : ℕ) (bs : List ℕ) : Type 0 where
  fits : EachFits l
  room : at + line_size ≤ length bs

module _ (l : Fields) (at : ℕ) (bs : List ℕ) where
  line_told : (line_at l (start_at at bs)).fits ≡ true → Roomy l at bs
  unfolding line_at
  line_told h =
      let n₁ : Placed = number_at section_width false l.section (start_at at bs) in
      let n₂ : Placed = field_at l.first n₁ in
      let n₃ : Placed = field_at l.second n₂ in
      let n₄ : Placed = field_at l.third n₃ in
      let n₅ : Placed = field_at l.fourth n₄ in
      let n₆ : Placed = field_at l.fifth n₅ in
      let n₇ : Placed = field_at l.sixth n₆ in
      let n₈ : Placed = number_at last_width l.signed l.last n₇ in
      let t₉ = byte_told newline n₈ h in
      let t₈ = number_told last_width l.last l.signed n₇ t₉.before in
      let t₇ = number_told field_width l.sixth false n₆ t₈.before in
      let t₆ = number_told field_width l.fifth false n₅ t₇.before in
      let t₅ = number_told field_width l.fourth false n₄ t₆.before in
      let t₄ = number_told field_width l.third false n₃ t₅.before in
      let t₃ = number_told field_width l.second false n₂ t₄.before in
      let t₂ = number_told field_width l.first false n₁ t₃.before in
      let t₁ = number_told section_width l.section false (start_at at bs) t₂.before in
      let long : length n₈.bytes ≡ length bs =
      number_length last_width l.last l.signed n₇ ∙ (number_length field_width l.sixth false n₆ ∙ (number_length field_width l.fifth false n₅
      ∙ (number_length field_width l.fourth false n₄ ∙ (number_length field_width l.third false n₃ ∙ (number_length field_width l.second false n₂
      ∙ (number_length field_width l.first false n₁ ∙ number_length section_width l.section false (start_at at bs))))))) in
      let o₁ = t₁.offset in
      let o₂ = t₂.offset in
      let o₃ = t₃.offset in
      let o₄ = t₄.offset in
      let o₅ = t₅.offset in
      let o₆ = t₆.offset in
      let o₇ = t₇.offset in
      let o₈ = t₈.offset in
      let r = t₉.room in
      record {
        fits = record {
          section = t₁.field;
          first = t₂.field;
          second = t₃.field;
          third = t₄.field;
          fourth = t₅.field;
          fifth = t₆.field;
          sixth = t₇.field;
          last = t₈.field;
        };
        room = omega (arith, o₁, o₂, o₃, o₄, o₅, o₆, o₇, o₈, r, long);
      }

-- a line that fits, in its place
line_put : (l : Fields) (at : ℕ) (bs : List ℕ) → Roomy l at bs
    → line_at l (start_at at bs) ≡ start_at (at + line_size) (take at bs ++ (line_bytes l ++ drop (at + line_size) bs))
line_put l at bs r =
    line_whole l at bs r.room r.fits
    ∙ ap (start_at (at + line_size)) (ap (λ (x : List ℕ). x ++ drop (at + line_size) bs) (line_behind_lem (take at bs) l)
    ∙ append_assoc (take at bs) (line_bytes l) (drop (at + line_size) bs))

-- lines: `done` is behind them, and the rest of the buffer is as it was before all
lines_whole : (ls : List Fields) (done before bs : List ℕ) (at : ℕ) → Begun done before bs at → all_fit ls ≡ true → at + length (text_of ls) ≤ length before
    → (after : Placed) → after ≡ lines_at ls (start_at at bs)
    → (after.fits ≡ true) × (after.offset ≡ at + length (text_of ls)) × Begun (done ++ text_of ls) before after.bytes (at + length (text_of ls))
unfolding all_fit text_of lines_at
lines_whole [] done before bs at b f h after e =
    let same : at + 0 ≡ at = omega arith in (
      ap (λ (m : Placed). m.fits) e,
      ap (λ (m : Placed). m.offset) e ∙ sym same,
      rw e (record {
        long = length-append done [] ∙ ap (λ (n : ℕ). n + 0) b.long;
        rest = b.rest ∙ rw same (ap (λ (x : List ℕ). x ++ drop at before) (sym (append-nil done)));
      }),
    )
lines_whole (l ∷ ls) done before bs at b f h after e =
    let fits = line_fits_lem l (and_left (line_fits l) (all_fit ls) f) in
    let size = line_size_lem l in
    let both = length-append (line_bytes l) (text_of ls) in
    let long = begun_length done before bs at b (omega (arith, h)) in
    let put = line_put l at bs (record { fits = fits; room = omega (arith, h, size, both, long) }) in
    let next = begun_more done before bs (line_bytes l) _ at (at + line_size) b (omega (arith, size)) (omega arith) refl in
    let sum : at + line_size + length (text_of ls) ≡ at + length (line_bytes l ++ text_of ls) = omega (arith, size, both) in
    let rest = lines_whole ls (done ++ line_bytes l) before _ (at + line_size) next (and_right (line_fits l) (all_fit ls) f) (omega (arith, h, sum)) after
    (e ∙ ap (lines_at ls) put) in (
      rest.0,
      rest.1 ∙ sum,
      subst (λ (n : ℕ). Begun (done ++ (line_bytes l ++ text_of ls)) before after.bytes n) sum
          (subst (λ (x : List ℕ). Begun x before after.bytes (at + line_size + length (text_of ls))) (append_assoc done (line_bytes l) (text_of ls)) rest.2),
    )

-- what fits in the end has fitted all along
lines_told : (ls : List Fields) (at : ℕ) (bs : List ℕ) → at ≤ length bs → (lines_at ls (start_at at bs)).fits ≡ true
    → (all_fit ls ≡ true) × (at + length (text_of ls) ≤ length bs)
unfolding all_fit text_of lines_at
lines_told [] at bs r h = (refl, omega (arith, r))
lines_told (l ∷ ls) at bs r h = by (line_at l (start_at at bs)).fits refl (λ bs' a b. lines_told ls (at + line_size) bs' a b)
  where
    Rest : Type 0
    Rest = (bs' : List ℕ) → at + line_size ≤ length bs' → (lines_at ls (start_at (at + line_size) bs')).fits ≡ true
        → (all_fit ls ≡ true) × (at + line_size + length (text_of ls) ≤ length bs')

    went : Roomy l at bs → Rest → (all_fit (l ∷ ls) ≡ true) × (at + length (text_of (l ∷ ls)) ≤ length bs)
    went y rest =
        let bs' : List ℕ = take at bs ++ (line_bytes l ++ drop (at + line_size) bs) in
        let put = line_put l at bs y in
        let size = line_size_lem l in
        let room = y.room in
        let long : length bs' ≡ length bs = ap (λ (m : Placed). length m.bytes) (sym put) ∙ line_length_lem l (start_at at bs) in
        let told = rest bs' (omega (arith, room, long)) (sym (ap (λ (m : Placed). (lines_at ls m).fits) put) ∙ h) in
        let left = told.1 in
        let both = length-append (line_bytes l) (text_of ls) in
        (ap (λ (t : Bool). t && all_fit ls) (fits_line l y.fits) ∙ told.0, omega (arith, left, both, size, long))

    by : (t : Bool) → (line_at l (start_at at bs)).fits ≡ t → Rest → (all_fit (l ∷ ls) ≡ true) × (at + length (text_of (l ∷ ls)) ≤ length bs)
    by true e rest = went (line_told l at bs e) rest
    by false e rest =
        let stays = lines_refused ls (line_at l (start_at at bs)) e in
        let no : true ≡ false = sym h ∙ (ap (λ (m : Placed). m.fits) (sym stays) ∙ e) in
        absurd (let z : ◌≡◌ {A = ℕ} 0 1 = cc in omega arith)

-- the end of a listing, from what its lines made of an output
module _ (ls : List Fields) (out : List ℕ) (m : Placed) (after : List ℕ) (r : Converted) (e : m ≡ lines_at ls (start_at 0 out)) (F : Finishes m after r) where
  done : m.fits ≡ true → Converts (printed ls (length out)) after r
  unfolding printed
  done f =
      let told = lines_told ls 0 out (omega arith) (ap (λ (x : Placed). x.fits) (sym e) ∙ f) in
      let whole = lines_whole ls [] out out 0 (begun out) told.0 told.1 m e in
      let room = told.1 in
      let text : List ℕ = text_of ls in
      let size : 0 + length text ≡ length text = omega arith in
      let at : m.offset ≡ length text = whole.1 ∙ size in
      let put = subst (λ (n : ℕ). Begun text out m.bytes n) size whole.2 in
      let long = begun_length text out m.bytes (length text) put (omega (arith, room)) in
      let cleared = cleared_rest text (drop (length text) out) m.bytes (length text) (length out) put.rest refl long in
      let output : after ≡ text ++ replicate (length out - length text) 0 =
      F.output ∙ (ap (λ (t : Bool). cleared_from (cond t m.offset 0) m.bytes) f ∙ (ap (λ (n : ℕ). cleared_from n m.bytes) at ∙ cleared)) in
      let reply : r ≡ success (length text) =
      F.reply ∙ (ap (λ (t : Bool). cond t (success m.offset) (refusal 9 0)) f ∙ ap success at) in
      rw (told.0, reply) (answer_done (Ok tt) text (length text) (length out) refl (omega (arith, room)) output)

  wide : m.fits ≡ false → length m.bytes ≡ length out → Converts (printed ls (length out)) after r
  unfolding printed short_reply
  wide f long = by (all_fit ls) (leb (length (text_of ls)) (length out)) refl refl
    where
      output : after ≡ replicate (length out) 0
      output = F.output ∙ (ap (λ (t : Bool). cleared_from (cond t m.offset 0) m.bytes) f ∙ cleared_all m.bytes (length out) long)

      reply : r ≡ refusal 9 0
      reply = F.reply ∙ ap (λ (t : Bool). cond t (success m.offset) (refusal 9 0)) f

      by : (a b : Bool) → all_fit ls ≡ a → leb (length (text_of ls)) (length out) ≡ b
          → Converts (cond a (answer_by (Ok tt) (text_of ls) (length (text_of ls)) (length out)) (refuse 9 0 (length out))) after r
      by false b A B = record { reply = reply; output = output }
      by true false A B = answer_short (Ok tt) (text_of ls) (length (text_of ls)) (length out) (leb-false _ _ B) output reply
      by true true A B =
          let room = leb-true (length (text_of ls)) (length out) B in
          let whole = lines_whole ls [] out out 0 (begun out) A (omega (arith, room)) m e in
          let no : true ≡ false = sym whole.0 ∙ f in
          absurd (let z : ◌≡◌ {A = ℕ} 0 1 = cc in omega arith)

  pub finished : length m.bytes ≡ length out → Converts (printed ls (length out)) after r
  finished long = by m.fits refl
    where
      by : (t : Bool) → m.fits ≡ t → Converts (printed ls (length out)) after r
      by true f = done f
      by false f = wide f long
