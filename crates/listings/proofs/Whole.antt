-- Sections one after the other are the lines of a delivery or of a refusal, and the listing is what the end makes of them. Assumes nothing.
use Prim.Native.Nat.{ℕ}
use mathlib.Core.Path.{◌≡◌, refl, sym, ap, ◌∙◌}
use mathlib.Core.Bool.{Bool, true, false, cond}
use mathlib.Core.List.{List, [], ◌∷◌, ◌++◌}
use lib.ListN.{length}
use borrow.Author.Tests.{eq-eqb, ne_eqb}
use Rattle.words.specs.declared.reply.Reply.{Reply}
use Rattle.words.specs.declared.reply.Totals.{Totals}
use Rattle.column_files.specs.Convert.{Converts}
use Rattle.column_files.specs.declared.Converted.{Converted}
use Rattle.line_writer.specs.Placed.{Placed, placed}
use Rattle.line_writer.specs.Written.{start_at, line_at}
use Rattle.std.specs.Prelude.{Result, Ok, Err}
use Rattle.line_writer.specs.declared.place.Refused.{Refused}
use Rattle.line_writer.specs.declared.writer.Fields.{Fields}
use Rattle.listings.specs.Lines.{lines_at}
use Rattle.listings.specs.Sections.{totals_line, refusal_line, section, each, function_code, methods, errors_in, lists_errors}
use Rattle.listings.specs.Selecting.{selected}
use Rattle.listings.proofs.Sorting.{selected_sorted}
use Rattle.listings.specs.Listing.{Areas, delivery_lines, refusal_lines, listing, Finishes}
use Rattle.listings.specs.declared.lines.Section.TheVariants.{Functions, Constants, Models, Properties, ContextValues, Globals, Files, Errors}
use Rattle.listings.proofs.Walking.{lines_append}
use Rattle.listings.proofs.Text.{finished}

pub placed_long : (p : Result ℕ Refused) (bs : List ℕ) → length (placed p bs).bytes ≡ length bs
placed_long (Ok at) bs = refl
placed_long (Err r) bs = refl

-- one part, and what follows it
follows : (m : Placed) (a b : List Fields) {m' r : Placed} → m' ≡ lines_at a m → r ≡ lines_at b m' → r ≡ lines_at (a ++ b) m
follows m a b e h = h ∙ (ap (lines_at b) e ∙ sym (lines_append a b m))

heads : (m : Placed) (l : Fields) (b : List Fields) {x : Fields} {m' r : Placed} → x ≡ l → m' ≡ line_at x m → r ≡ lines_at b m' → r ≡ lines_at (l ∷ b) m
unfolding lines_at
heads m l b d e h = h ∙ ap (lines_at b) (e ∙ ap (λ (y : Fields). line_at y m) d)

pub delivery_written : (t : Totals) (w : Areas) (bs : List ℕ) (x : Fields) (a b c d e f g h i r : Placed) → x ≡ totals_line t → a ≡ line_at x (start_at 0 bs)
    → b ≡ lines_at (section Functions w.functions t.functions) a
    → c ≡ lines_at (each (λ j. function_code w.functions w.code j) t.functions) b
    → d ≡ lines_at (section Constants w.constants t.constants) c
    → e ≡ lines_at (section Models w.models t.models) d
    → f ≡ lines_at (section Properties w.properties t.properties) e
    → g ≡ lines_at (selected w.methods t.methods) f
    → h ≡ lines_at (section ContextValues w.locals t.context_locals) g
    → i ≡ lines_at (section Globals w.constants t.constants) h
    → r ≡ lines_at (section Files w.books t.books) i
    → r ≡ lines_at (delivery_lines t w) (start_at 0 bs)
unfolding delivery_lines
delivery_written t w bs x a b c d e f g h i r X A B C D E F G H I R =
    heads (start_at 0 bs) (totals_line t) _ X A (follows a (section Functions w.functions t.functions) _ B
    (follows b (each (λ j. function_code w.functions w.code j) t.functions) _ C (follows c (section Constants w.constants t.constants) _ D
    (follows d (section Models w.models t.models) _ E (follows e (section Properties w.properties t.properties) _ F
    (follows f (methods w.methods t.methods) _ (G ∙ ap (λ (ls : List Fields). lines_at ls f) (selected_sorted w.methods t.methods))
    (follows g (section ContextValues w.locals t.context_locals) _ H
    (follows h (section Globals w.constants t.constants) (section Files w.books t.books) I R))))))))

-- a refusal's line, with or without errors
abbrev error_lines : (errors : List ℕ) → Bool → List Fields
error_lines errors b = cond b (section Errors errors (errors_in errors)) []

module _ (reply : Reply) (errors bs : List ℕ) (x : Fields) (a : Placed) (X : x ≡ refusal_line reply) (A : a ≡ line_at x (start_at 0 bs)) {t : Bool}
    (T : t ≡ lists_errors reply.number) where
  with_errors_lem : (r : Placed) → r ≡ lines_at (error_lines errors t) a → r ≡ lines_at (refusal_lines reply errors) (start_at 0 bs)
  unfolding refusal_lines
  with_errors_lem r R =
      heads (start_at 0 bs) (refusal_line reply) (error_lines errors (lists_errors reply.number)) X A
      (R ∙ ap (λ (b : Bool). lines_at (error_lines errors b) a) T)

  pub refusal_written : (r : Placed) {n : ℕ} → t ≡ true → n ≡ errors_in errors → r ≡ lines_at (section Errors errors n) a
      → r ≡ lines_at (refusal_lines reply errors) (start_at 0 bs)
  refusal_written r y N R =
      with_errors_lem r (R ∙ (ap (λ (n : ℕ). lines_at (section Errors errors n) a) N ∙ ap (λ (b : Bool). lines_at (error_lines errors b) a) (sym y)))

  pub refusal_alone : t ≡ false → a ≡ lines_at (refusal_lines reply errors) (start_at 0 bs)
  unfolding lines_at
  refusal_alone n = with_errors_lem a (ap (λ (b : Bool). lines_at (error_lines errors b) a) (sym n))

-- the listing
module _ (reply : Reply) (w : Areas) (errors out : List ℕ) (m : Placed) {after : List ℕ} {r : Converted} (F : Finishes m after r)
    (long : length m.bytes ≡ length out) where
  pub listing_delivered : reply.number ≡ 0 → m ≡ lines_at (delivery_lines reply.totals w) (start_at 0 out)
      → Converts (listing reply w errors (length out)) after r
  unfolding listing
  listing_delivered z e = rw (eq-eqb reply.number 0 z) (finished (delivery_lines reply.totals w) out m after r e F long)

  pub listing_refused : (reply.number ≡ 0 → ⊥) → m ≡ lines_at (refusal_lines reply errors) (start_at 0 out)
      → Converts (listing reply w errors (length out)) after r
  unfolding listing
  listing_refused z e = rw (ne_eqb reply.number 0 z) (finished (refusal_lines reply errors) out m after r e F long)
