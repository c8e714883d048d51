-- The whole answer: lines that fit, lines that do not, an unknown error. Assumes nothing.
use Prim.Native.Nat.{ℕ, ◌+◌, ◌-◌, ◌≤◌, ◌<◌}
use native.Mathlib.Omega.{arith}
use native.Mathlib.Decide.{dec_lt}
use mathlib.Core.Path.{◌≡◌, sym, ap, ◌∙◌}
use mathlib.Core.Bool.{Bool, true, false, cond}
use denote.Ref.{MutBor}
use Rattle.std.specs.Prelude.{Option, Some, None}
use mathlib.Core.List.{List, ◌++◌}
use lib.ListN.{length, replicate}
use lib.Dec.{leb}
use borrow.Author.Tests.{le-leb, lt-leb}
use Rattle.words.specs.Areas.{cleared_from}
use Rattle.column_files.specs.Convert.{Conversion, Converts, refuse, refusal, success}
use Rattle.column_files.specs.declared.Converted.{Converted}
use Rattle.error_lines.specs.Lines.{errors_in, lines_of}
use Rattle.error_lines.specs.Puts.{Puts, Writes, Finishes}
use Rattle.error_lines.specs.declared.buffer.Sink.{Sink}
use Rattle.error_lines.specs.Words.{first_unknown, delivered, in_words_by, in_words}

zeros : (before : List ℕ) → cleared_from 0 before ≡ replicate (length before) 0
zeros before = let e : length before - 0 ≡ length before = omega arith in ap (λ (k : ℕ). replicate k 0) e

-- what `finish` leaves after the lines were written
whole : (lines before middle : List ℕ) (end : ℕ) {after : List ℕ} {r : Converted} → Puts lines 0 before middle end → Finishes end middle after r
    → Converts (delivered lines (length before)) after r
unfolding delivered
whole lines before middle end {after} {r} P F = go (dec_lt (length before) (length lines))
  where
    go : Dec (length before < length lines) → Converts (delivered lines (length before)) after r
    go (yes h) =
        let s = P.same in
        let x = P.full (omega (arith, h)) in
        let t : leb end (length middle) ≡ false = lt-leb end (length middle) (omega (arith, x, s)) in
        let u : leb (length lines) (length before) ≡ false = lt-leb (length lines) (length before) h in
        let d : delivered lines (length before) ≡ refuse 9 13 (length before) = simp u in
        record {
          reply = F.reply ∙ (ap (λ (b : Bool). cond b (success end) (refusal 9 13)) t ∙ ap (λ (c : Conversion). c.reply) (sym d));
          output = F.output ∙ (ap (λ (b : Bool). cleared_from (cond b end 0) middle) t ∙ (zeros middle ∙ (ap (λ (k : ℕ). replicate k 0) s
              ∙ ap (λ (c : Conversion). c.output) (sym d))));
        }
    go (no h) =
        let s = P.same in
        let f : 0 + length lines ≤ length before = omega (arith, h) in
        let x : end ≡ length lines = omega (arith, P.place f) in
        let t : leb end (length middle) ≡ true = le-leb end (length middle) (omega (arith, x, s, h)) in
        let u : leb (length lines) (length before) ≡ true = le-leb (length lines) (length before) (omega (arith, h)) in
        let m : length middle - end ≡ length before - length lines = omega (arith, s, x) in
        let d : delivered lines (length before) ≡ record { reply = success (length lines); output = lines ++ replicate (length before - length lines) 0 }
        = simp u in
        record {
          reply = F.reply ∙ (ap (λ (b : Bool). cond b (success end) (refusal 9 13)) t ∙ (ap success x ∙ ap (λ (c : Conversion). c.reply) (sym d)));
          output = F.output ∙ (ap (λ (b : Bool). cleared_from (cond b end 0) middle) t
              ∙ (ap (λ (l : List ℕ). l ++ replicate (length middle - end) 0) (P.bytes f)
              ∙ (ap (λ (k : ℕ). lines ++ replicate k 0) m ∙ ap (λ (c : Conversion). c.output) (sym d))));
        }

module _ (errors table bytes : List ℕ) (file : ℕ) {x : Option ℕ} (q : x ≡ first_unknown 0 (errors_in errors)) where
  pub answer_unknown : (before : List ℕ) {i : ℕ} {after : List ℕ} → x ≡ Some i → after ≡ cleared_from 0 before
      → Converts (in_words errors file table bytes (length before)) after (refusal 3 i)
  unfolding in_words
  answer_unknown before {i} {after} e c =
      let d : in_words errors file table bytes (length before) ≡ refuse 3 i (length before)
      = ap (λ (y : Option ℕ). in_words_by y (lines_of table bytes file (errors_in errors)) (length before)) (sym q ∙ e) in
      record { reply = ap (λ (y : Conversion). y.reply) (sym d); output = c ∙ (zeros before ∙ ap (λ (y : Conversion). y.output) (sym d)) }

  pub answer_lines : (out : MutBor (List ℕ)) (t : Sink) (last after : List ℕ) {r : Converted} → x ≡ None
      → Writes (lines_of table bytes file (errors_in errors)) (record { out = out; place = 0 }) t → Finishes t.place t.out.now after r
      → (out.ghost_name ≡ t.out.ghost_name → last ≡ after) → Converts (in_words errors file table bytes (length out.now)) last r
  unfolding in_words
  answer_lines out t last after {r} e W F tie =
      let c = whole (lines_of table bytes file (errors_in errors)) out.now t.out.now t.place W.puts F in
      let d : delivered (lines_of table bytes file (errors_in errors)) (length out.now) ≡ in_words errors file table bytes (length out.now)
      = ap (λ (y : Option ℕ). in_words_by y (lines_of table bytes file (errors_in errors)) (length out.now)) (sym e ∙ q) in
      record {
        reply = c.reply ∙ ap (λ (y : Conversion). y.reply) d;
        output = tie (sym W.same_buffer) ∙ (c.output ∙ ap (λ (y : Conversion). y.output) d);
      }
