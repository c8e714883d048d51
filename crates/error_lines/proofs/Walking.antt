-- A line, field after field, and the turns of the two loops over the list of errors. Assumes nothing.
use Prim.Native.Nat.{ℕ, ◌+◌, ◌-◌, ◌/◌, ◌≤◌, ◌<◌}
use mathlib.Core.Path.{◌≡◌, sym, ap, ◌∙◌}
use mathlib.Core.Bool.{Bool, true, false}
use Rattle.std.specs.Prelude.{Option, Some, None}
use mathlib.Core.List.{List, [], ◌∷◌}
use lib.ListN.{length}
use Rattle.words.specs.Record.{line_of, column_of}
use Rattle.column_lines.specs.Form.{newline}
use Rattle.definition.specs.Compiler.{Error}
use Rattle.error_lines.specs.Known.{known}
use Rattle.error_lines.specs.Messages.{message}
use Rattle.error_lines.specs.Texts.{plain, text_field}
use Rattle.error_lines.specs.Lines.{error_at, is_zeros, errors_from, errors_in, between, file_of, shown_value, value_field, error_line, lines_of}
use Rattle.error_lines.specs.Words.{first_unknown}
use Rattle.error_lines.specs.Puts.{Writes}
use Rattle.error_lines.specs.declared.buffer.Sink.{Sink}
use Rattle.error_lines.proofs.Putting.{writes_then, writes_as, Rest, rest_more, rest_end}
use Rattle.error_lines.proofs.Lists.{errors_zeros, errors_more, errors_end, errors_begin, unknown_none, unknown_more, unknown_here, lines_none}
use Rattle.error_lines.proofs.Lists.{lines_more}

pub line_writes : (table bytes : List ℕ) (file : ℕ) (x : Error) {s₀ s₁ s₂ s₃ s₄ s₅ s₆ s₇ s₈ s₉ s₁₀ s₁₁ s₁₂ : Sink} → Writes (message x.number) s₀ s₁
    → Writes between s₁ s₂ → Writes (text_field table bytes (file_of file x)) s₂ s₃ → Writes between s₃ s₄
    → Writes (plain false (line_of x.token.position)) s₄ s₅ → Writes between s₅ s₆ → Writes (plain false (column_of x.token.position)) s₆ s₇
    → Writes between s₇ s₈ → Writes (plain false x.token.kind) s₈ s₉ → Writes between s₉ s₁₀
    → Writes (value_field table bytes x.token.kind (shown_value x)) s₁₀ s₁₁ → Writes (newline ∷ []) s₁₁ s₁₂ → Writes (error_line table bytes file x) s₀ s₁₂
unfolding error_line
line_writes table bytes file x M B₁ N B₂ L B₃ C B₄ K B₅ Y E =
    writes_then _ _ M (writes_then _ _ B₁ (writes_then _ _ N (writes_then _ _ B₂ (writes_then _ _ L (writes_then _ _ B₃ (writes_then _ _ C
    (writes_then _ _ B₄ (writes_then _ _ K (writes_then _ _ B₅ (writes_then _ _ Y E))))))))))

zeros_are : (w : List ℕ) (i : ℕ) {y : Error} {x t : Bool} → y ≡ error_at w i → x ≡ is_zeros y → x ≡ t → is_zeros (error_at w i) ≡ t
zeros_are w i q h e = sym (ap is_zeros q) ∙ (sym h ∙ e)

module _ (w table bytes : List ℕ) (file n i : ℕ) where
  abbrev rest : List ℕ
  rest = lines_of table bytes file (errors_from w i (n - i))

  pub lines_turn : {text : List ℕ} {first here next : Sink} {y : Error} {x : Bool} → Rest text first rest here → i < n → y ≡ error_at w i → x ≡ is_zeros y
      → x ≡ false → Writes (error_line table bytes file y) here next
      → Rest text first (lines_of table bytes file (errors_from w (i + 1) (n - (i + 1)))) next
  lines_turn R l q h e P =
      rest_more (error_line table bytes file (error_at w i)) (lines_of table bytes file (errors_from w (i + 1) (n - (i + 1)))) rest
      (lines_more table bytes file (error_at w i) (errors_from w (i + 1) (n - (i + 1))) (errors_more w i n l (zeros_are w i q h e))) R
      (writes_as (ap (error_line table bytes file) q) P)

  pub lines_stop : {text : List ℕ} {first here : Sink} {y : Error} {x : Bool} → Rest text first rest here → i < n → y ≡ error_at w i → x ≡ is_zeros y
      → x ≡ true → Writes text first here
  lines_stop R l q h e = rest_end rest (lines_none table bytes file (errors_zeros w i n l (zeros_are w i q h e))) R

  pub lines_done : {text : List ℕ} {first here : Sink} → Rest text first rest here → n ≤ i → Writes text first here
  lines_done R l = rest_end rest (lines_none table bytes file (errors_end w i n l)) R

pub lines_start : (w table bytes : List ℕ) (file : ℕ) (s : Sink)
    → Rest (lines_of table bytes file (errors_in w)) s (lines_of table bytes file (errors_from w 0 (length w / 4 - 0))) s
lines_start w table bytes file s = record { whole = λ after P. writes_as (ap (lines_of table bytes file) (sym (errors_begin w))) P }

-- what is searched from entry i on
abbrev pub searched : List ℕ → ℕ → ℕ → Option ℕ
searched w n i = first_unknown i (errors_from w i (n - i))

pub search_start : (w : List ℕ) → searched w (length w / 4) 0 ≡ first_unknown 0 (errors_in w)
search_start w = ap (first_unknown 0) (sym (errors_begin w))

module _ (w : List ℕ) (n i : ℕ) {y : Error} {x z : Bool} {o : Option ℕ} where
  pub search_turn : searched w n i ≡ o → i < n → y ≡ error_at w i → x ≡ is_zeros y → x ≡ false → z ≡ known y → z ≡ true → searched w n (i + 1) ≡ o
  search_turn s l q h e k d =
      sym (unknown_more i (error_at w i) (errors_from w (i + 1) (n - (i + 1))) (errors_more w i n l (zeros_are w i q h e))
      (sym (ap known q) ∙ (sym k ∙ d))) ∙ s

  pub search_found : searched w n i ≡ o → i < n → y ≡ error_at w i → x ≡ is_zeros y → x ≡ false → z ≡ known y → z ≡ false → Some i ≡ o
  search_found s l q h e k d =
      sym (unknown_here i (error_at w i) (errors_from w (i + 1) (n - (i + 1))) (errors_more w i n l (zeros_are w i q h e))
      (sym (ap known q) ∙ (sym k ∙ d))) ∙ s

pub search_stop : (w : List ℕ) (n i : ℕ) {y : Error} {x : Bool} {o : Option ℕ} → searched w n i ≡ o → i < n → y ≡ error_at w i → x ≡ is_zeros y → x ≡ true
    → None ≡ o
search_stop w n i s l q h e = sym (unknown_none i (errors_zeros w i n l (zeros_are w i q h e))) ∙ s

pub search_done : (w : List ℕ) (n i : ℕ) {o : Option ℕ} → searched w n i ≡ o → n ≤ i → None ≡ o
search_done w n i s l = sym (unknown_none i (errors_end w i n l)) ∙ s
