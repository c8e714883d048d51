-- How the code lists methods in order: at each place the least key above that of the place before.
-- Private contracts alone cite this file: whoever reads the promises need not believe it
use Rattle.std.specs.Option.{option_map_or}
use Rattle.std.specs.Prelude.{ℕ, zero, suc, Bool, true, false, cond, List, [], ◌∷◌, Option, Some, None, eqb, ltb}
use Rattle.line_writer.specs.declared.writer.Fields.{Fields}
use Rattle.listings.specs.declared.methods.MethodKey.{MethodKey}
use Rattle.listings.specs.Sections.{method_model, method_name, method_line, is_below, each}

-- after the one that was listed last, if one was
abbrev pub is_above : List ℕ → Option ℕ → ℕ → Bool
is_above w None i = true
is_above w (Some j) i = is_below w j i

-- and below the least so far, if there is one
abbrev pub is_less : List ℕ → Option ℕ → ℕ → Bool
is_less w None i = true
is_less w (Some j) i = is_below w i j

abbrev pub lesser : List ℕ → (last least : Option ℕ) → ℕ → Option ℕ
lesser w last least i = cond (is_above w last i) (cond (is_less w least i) (Some i) least) least

-- the same, of keys: a search's loop reads each entry's key once (`lesser_keys` of proofs/Keys.antt)
abbrev pub key_of : List ℕ → ℕ → MethodKey
key_of w i = record { entry = i; model = method_model w i; name = method_name w i }

abbrev pub key_below : MethodKey → MethodKey → Bool
key_below a b = cond (ltb a.model b.model) true (cond (eqb a.model b.model) (ltb a.name b.name) false)

abbrev pub lesser_key : (last least : Option MethodKey) → MethodKey → Option MethodKey
lesser_key last least k =
    cond (option_map_or (λ (l : MethodKey). key_below l k) last true) (cond (option_map_or (λ (l : MethodKey). key_below k l) least true) (Some k) least) least

-- the least of n entries from i on above the last, or an earlier one that is less
unfoldable pub least_from : List ℕ → (last least : Option ℕ) → ℕ → ℕ → Option ℕ
least_from w last least i zero = least
least_from w last least i (suc n) = least_from w last (lesser w last least i) (suc i) n

-- the method to list after one; after the last there is none
unfoldable pub method_after : List ℕ → ℕ → Option ℕ → Option ℕ
method_after w n None = None
method_after w n (Some j) = least_from w (Some j) None 0 n

-- the method that stands at a place of the section
unfoldable pub method_at : List ℕ → ℕ → ℕ → Option ℕ
method_at w n zero = least_from w None None 0 n
method_at w n (suc k) = method_after w n (method_at w n k)

abbrev pub method_lines : List ℕ → Option ℕ → List Fields
method_lines w None = []
method_lines w (Some i) = method_line w i ∷ []

-- the section as the code writes it; it is `methods` (proofs/Sorting.antt)
abbrev pub selected : List ℕ → ℕ → List Fields
selected w n = each (λ k. method_lines w (method_at w n k)) n
