-- Lines one after the other: what a section's loop has left to write, after each turn; and that nothing is written once something did not fit.
-- Assumes nothing.
use Prim.Native.Nat.{ℕ, suc, ◌+◌, ◌-◌, ◌/◌, ◌≤◌, ◌<◌}
use native.Mathlib.Omega.{arith}
use mathlib.Core.Path.{◌≡◌, refl, sym, ap, ◌∙◌}
use mathlib.Core.Bool.{Bool, true, false, cond}
use mathlib.Core.List.{List, [], ◌∷◌, ◌++◌}
use lib.ListN.{length}
use Rattle.words.specs.Program.{function_at, code_of}
use Rattle.words.specs.declared.program.FunctionRecord.{FunctionRecord}
use Rattle.line_writer.specs.Placed.{Placed, placed, number_at, byte_at}
use Rattle.line_writer.specs.Written.{start_at, line_at}
use Rattle.std.specs.Prelude.{Result, Ok, Err}
use Rattle.line_writer.specs.declared.place.Refused.{Refused}
use Rattle.line_writer.specs.declared.writer.Fields.{Fields}
use Rattle.listings.specs.Lines.{lines_at}
use Rattle.listings.specs.Sections.{entry_line, is_listed, entry_lines, each_from, each, section, function_code}
use Rattle.listings.specs.Selecting.{method_lines}
use Rattle.listings.specs.declared.lines.Section.{Section}
use Rattle.listings.specs.declared.lines.Section.TheVariants.{Instructions}
use Rattle.std.specs.Prelude.{Option}

-- what was refused stays as it is
abbrev stopped : ℕ → List ℕ → Placed
stopped at bs = record { offset = at; fits = false; bytes = bs }

line_stopped : (l : Fields) (at : ℕ) (bs : List ℕ) → line_at l (stopped at bs) ≡ stopped at bs
unfolding line_at number_at byte_at
line_stopped l at bs = refl

lines_stopped : (ls : List Fields) (at : ℕ) (bs : List ℕ) → lines_at ls (stopped at bs) ≡ stopped at bs
unfolding lines_at
lines_stopped [] at bs = refl
lines_stopped (l ∷ ls) at bs = ap (lines_at ls) (line_stopped l at bs) ∙ lines_stopped ls at bs

pub lines_refused : (ls : List Fields) (m : Placed) → m.fits ≡ false → m ≡ lines_at ls m
lines_refused ls m e = by m.offset m.fits m.bytes e
  where
    by : (at : ℕ) (f : Bool) (bs : List ℕ) → f ≡ false → ◌≡◌ {A = Placed} (record { offset = at; fits = f; bytes = bs })
        (lines_at ls (record { offset = at; fits = f; bytes = bs }))
    by at f bs e = rw e (sym (lines_stopped ls at bs))

pub lines_append : (a b : List Fields) (m : Placed) → lines_at (a ++ b) m ≡ lines_at b (lines_at a m)
unfolding lines_at
lines_append [] b m = refl
lines_append (l ∷ a) b m = lines_append a b (line_at l m)

-- a place that was refused before
pub place_refused : (ls : List Fields) (p r : Result ℕ Refused) {x : Refused} (bs : List ℕ) → p ≡ Err x → r ≡ Err x → placed r bs ≡ lines_at ls (placed p bs)
place_refused ls p r {x} bs e f =
    ap (λ (o : Result ℕ Refused). placed o bs) f ∙ (sym (lines_stopped ls x.offset bs) ∙ ap (λ (o : Result ℕ Refused). lines_at ls (placed o bs)) (sym e))

-- one entry
module _ (s : Section) (w : List ℕ) (i : ℕ) (p : Result ℕ Refused) (at : ℕ) (bs : List ℕ) (P : p ≡ Ok at) where
  from_place : lines_at (entry_lines s w i) (start_at at bs) ≡ lines_at (entry_lines s w i) (placed p bs)
  from_place = ap (λ (o : Result ℕ Refused). lines_at (entry_lines s w i) (placed o bs)) (sym P)

  pub entry_written : {l : Fields} {r : Placed} {t : Bool} → t ≡ is_listed s w i → t ≡ true → l ≡ entry_line s w i → r ≡ line_at l (start_at at bs)
      → r ≡ lines_at (entry_lines s w i) (placed p bs)
  unfolding lines_at
  entry_written {l} {r} {t} d e q h =
      h ∙ (ap (λ (x : Fields). line_at x (start_at at bs)) q
      ∙ (ap (λ (b : Bool). lines_at (cond b (entry_line s w i ∷ []) []) (start_at at bs)) (sym e ∙ d) ∙ from_place))

  pub entry_unlisted : {t : Bool} → t ≡ is_listed s w i → t ≡ false → start_at at bs ≡ lines_at (entry_lines s w i) (placed p bs)
  unfolding lines_at
  entry_unlisted d e = ap (λ (b : Bool). lines_at (cond b (entry_line s w i ∷ []) []) (start_at at bs)) (sym e ∙ d) ∙ from_place

-- all that n numbers give from the place m₀ on is what those from i on give from m
pub record Left (f : ℕ → List Fields) (n : ℕ) (m₀ m : Placed) (i : ℕ) : Type 0 where
  pub whole : lines_at (each f n) m₀ ≡ lines_at (each_from f i (n - i)) m

module _ (f : ℕ → List Fields) (n : ℕ) where
  left_begin : (m : Placed) → Left f n m m 0
  left_begin m = record { whole = ap (λ (k : ℕ). lines_at (each_from f 0 k) m) (omega arith) }

  pub left_from : (p : Result ℕ Refused) {at : ℕ} (out : List ℕ) → p ≡ Ok at → Left f n (placed p out) (start_at at out) 0
  left_from p out e = rw e (left_begin _)

  one_more : (i k : ℕ) (m : Placed) → lines_at (each_from f i (suc k)) m ≡ lines_at (each_from f (i + 1) k) (lines_at (f i) m)
  unfolding each_from
  one_more i k m =
      lines_append (f i) (each_from f (suc i) k) m ∙ ap (λ (j : ℕ). lines_at (each_from f j k) (lines_at (f i) m)) (omega arith)

  pub left_more : {m₀ m m' : Placed} {i : ℕ} → Left f n m₀ m i → i < n → m' ≡ lines_at (f i) m → Left f n m₀ m' (i + 1)
  left_more {m₀} {m} {m'} {i} h l e =
      let falls : n - i ≡ suc (n - (i + 1)) = omega (arith, l) in
      record {
        whole = h.whole ∙ (ap (λ (k : ℕ). lines_at (each_from f i k) m) falls ∙ (one_more i (n - (i + 1)) m
            ∙ ap (lines_at (each_from f (i + 1) (n - (i + 1)))) (sym e)));
      }

  pub left_none : {m₀ m : Placed} {i : ℕ} → Left f n m₀ m i → n ≤ i → m ≡ lines_at (each f n) m₀
  unfolding each_from lines_at
  left_none {m₀} {m} {i} h l =
      let none : n - i ≡ 0 = omega (arith, l) in
      sym (h.whole ∙ ap (λ (k : ℕ). lines_at (each_from f i k) m) none)

  left_refused : {m₀ m : Placed} {i : ℕ} → Left f n m₀ m i → m.fits ≡ false → m ≡ lines_at (each f n) m₀
  left_refused {m₀} {m} {i} h e = lines_refused (each_from f i (n - i)) m e ∙ sym h.whole

  -- a turn of the loop, after which the next byte goes to a place or nothing more is written
  pub left_on : {m₀ m : Placed} {i : ℕ} (r : Result ℕ Refused) {at : ℕ} {out : List ℕ} → Left f n m₀ m i → i < n → placed r out ≡ lines_at (f i) m
      → r ≡ Ok at → Left f n m₀ (start_at at out) (i + 1)
  left_on r {out = out} h l e q = left_more h l (ap (λ (o : Result ℕ Refused). placed o out) (sym q) ∙ e)

  pub left_stopped : {m₀ m : Placed} {i : ℕ} (r s : Result ℕ Refused) {x : Refused} (out : List ℕ) → Left f n m₀ m i → i < n
      → placed r out ≡ lines_at (f i) m → r ≡ Err x → s ≡ Err x → placed s out ≡ lines_at (each f n) m₀
  left_stopped r s out h l e q t =
      ap (λ (o : Result ℕ Refused). placed o out) t ∙ left_refused (left_more h l (ap (λ (o : Result ℕ Refused). placed o out) (sym q) ∙ e)) refl

-- a function's instructions, by the part of the code area that they occupy
pub code_written : (functions code : List ℕ) (i : ℕ) (m : Placed) {f : FunctionRecord} {part : List ℕ} {m' : Placed} → f ≡ function_at functions i
    → part ≡ code_of code f → m' ≡ lines_at (section (Instructions i) part (length part / 2)) m → m' ≡ lines_at (function_code functions code i) m
code_written functions code i m {f} {part} {m'} F P h =
    h ∙ ap (λ (p : List ℕ). lines_at (section (Instructions i) p (length p / 2)) m) (P ∙ ap (code_of code) F)

pub method_written : (w : List ℕ) (m : Placed) {x y : Option ℕ} {m' : Placed} → x ≡ y → m' ≡ lines_at (method_lines w x) m → m' ≡ lines_at (method_lines w y) m
method_written w m {x} {y} {m'} e h = h ∙ ap (λ (z : Option ℕ). lines_at (method_lines w z) m) e
