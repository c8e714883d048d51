-- A writer's steps in a row: a line of nine pieces, from the writer that `new` makes to the last.
-- Assumes nothing.
use mathlib.Core.Path.{◌≡◌, sym, ap, ◌∙◌}
use mathlib.Core.Bool.{false}
use mathlib.Core.List.{List}
use Prim.Native.Nat.{ℕ}
use lib.ListN.{length}
use base.Fml.{GName}
use denote.Ref.{MutBor}
use Rattle.std.specs.Prelude.{Result}
use Rattle.line_writer.specs.declared.place.Refused.{Refused}
use Rattle.line_writer.specs.declared.writer.Writer.{Writer}
use Rattle.line_writer.specs.declared.writer.Fields.{Fields}
use Rattle.line_writer.specs.Placed.{Placed, placed, number_at, byte_at}
use Rattle.column_lines.specs.Form.{newline}
use Rattle.line_writer.specs.Written.{held, onto, begun, start_at, field_at, section_width, field_width, last_width, line_at}
use Rattle.line_writer.proofs.Placing.{number_length, byte_length, placed_back}

-- the writer r is h after a step: the same borrow, at the step's bytes
pub record Then (F : Placed → Placed) (h r : Writer) : Type 0 where
  pub is : r ≡ onto h (F (held h))

then_held : {F : Placed → Placed} {h r : Writer} {m : Placed} → held h ≡ m → Then F h r → held r ≡ F m
then_held {F} {h} before e = ap held e.is ∙ (placed_back (F (held h)) ∙ ap F before)

then_name : {F : Placed → Placed} {h r : Writer} {γ : GName} → h.buffer.ghost_name ≡ γ → Then F h r → r.buffer.ghost_name ≡ γ
then_name before e = ap (λ (w : Writer). w.buffer.ghost_name) e.is ∙ before

-- a line leaves the buffer as long as it is
pub line_length_lem : (l : Fields) (m : Placed) → length (line_at l m).bytes ≡ length m.bytes
unfolding line_at
line_length_lem l m =
    byte_length newline _ ∙ (number_length last_width l.last l.signed _ ∙ (number_length field_width l.sixth false _
    ∙ (number_length field_width l.fifth false _ ∙ (number_length field_width l.fourth false _ ∙ (number_length field_width l.third false _
    ∙ (number_length field_width l.second false _ ∙ (number_length field_width l.first false _
    ∙ number_length section_width l.section false m)))))))

module _ (x : MutBor (List ℕ)) (n : ℕ) (l : Fields) (r₀ r₁ r₂ r₃ r₄ r₅ r₆ r₇ r₈ r₉ : Writer) (e₀ : r₀ ≡ begun x n)
    (e₁ : Then (number_at section_width false l.section) r₀ r₁) (e₂ : Then (field_at l.first) r₁ r₂) (e₃ : Then (field_at l.second) r₂ r₃)
    (e₄ : Then (field_at l.third) r₃ r₄) (e₅ : Then (field_at l.fourth) r₄ r₅) (e₆ : Then (field_at l.fifth) r₅ r₆)
    (e₇ : Then (field_at l.sixth) r₆ r₇) (e₈ : Then (number_at last_width l.signed l.last) r₇ r₈) (e₉ : Then (byte_at newline) r₈ r₉) where
  pub line_held : held r₉ ≡ line_at l (start_at n x.now)
  unfolding line_at
  line_held =
      then_held (then_held (then_held (then_held (then_held (then_held (then_held (then_held (then_held (ap held e₀) e₁) e₂) e₃) e₄) e₅) e₆) e₇) e₈) e₉

  pub line_name : r₉.buffer.ghost_name ≡ x.ghost_name
  line_name =
      then_name (then_name (then_name (then_name (then_name (then_name (then_name (then_name (then_name (ap (λ (w : Writer). w.buffer.ghost_name) e₀) e₁) e₂)
      e₃)
      e₄) e₅) e₆) e₇) e₈) e₉

  -- where the writer's borrow ended as e says, and the buffer has what it ended with
  pub line_back : (p : Result ℕ Refused) (last bs : List ℕ) → (x.ghost_name ≡ r₉.buffer.ghost_name → last ≡ bs) → placed p bs ≡ held r₉
      → placed p last ≡ line_at l (start_at n x.now)
  line_back p last bs tie e = ap (placed p) (tie (sym line_name)) ∙ (e ∙ line_held)

-- the same of the column writer on slice and offset
module _ (l : Fields) (m₀ m₁ m₂ m₃ m₄ m₅ m₆ m₇ m₈ m₉ : Placed) (e₁ : m₁ ≡ number_at section_width false l.section m₀) (e₂ : m₂ ≡ field_at l.first m₁)
    (e₃ : m₃ ≡ field_at l.second m₂) (e₄ : m₄ ≡ field_at l.third m₃) (e₅ : m₅ ≡ field_at l.fourth m₄) (e₆ : m₆ ≡ field_at l.fifth m₅)
    (e₇ : m₇ ≡ field_at l.sixth m₆) (e₈ : m₈ ≡ number_at last_width l.signed l.last m₇) (e₉ : m₉ ≡ byte_at newline m₈) where
  pub line_placed : m₉ ≡ line_at l m₀
  unfolding line_at
  line_placed =
      e₉ ∙ ap (byte_at newline) (e₈ ∙ ap (number_at last_width l.signed l.last) (e₇ ∙ ap (field_at l.sixth) (e₆ ∙ ap (field_at l.fifth)
      (e₅ ∙ ap (field_at l.fourth) (e₄ ∙ ap (field_at l.third) (e₃ ∙ ap (field_at l.second) (e₂ ∙ ap (field_at l.first) e₁)))))))
