-- The ways through `find` of `plain.rt`: a constant is the one that is looked for where its value and its kind are. Assumes nothing.
use Rattle.std.proofs.Common.{◌≡◌, ℕ, Bool, true, false, cond, eqb, List, refl, sym, ap, ◌∙◌, ◌+◌, ◌-◌, eq-eqb, ne_eqb, eqb-true}
use Rattle.std.proofs.lemmas.Bool.{eqb-false}
use Rattle.std.specs.Prelude.{Some, None}
use Rattle.words.specs.Areas.{entry_field}
use Rattle.words.specs.Object.{constant_of}
use Rattle.words.specs.Search.{has_word, find_word}
use Rattle.words.proofs.Firsts.{Reached, reached, none_reached, first_here, first_next}
use Rattle.constant_slots.specs.Plain.{found_of, first_from, is_constant, find_plain}

-- entry i by its kind and its value
module _ (kind value : ℕ) (w : List ℕ) (i : ℕ) where
  pub kinds_differ : (entry_field 3 i 0 w ≡ kind → ⊥) → is_constant (constant_of kind value) w i ≡ false
  kinds_differ h = rw (ne_eqb kind (entry_field 3 i 0 w) (λ q. h (sym q)))

  pub kinds_agree : entry_field 3 i 0 w ≡ kind → has_word 3 1 value w i ≡ true → is_constant (constant_of kind value) w i ≡ true
  kinds_agree h v =
      rw (eq-eqb kind (entry_field 3 i 0 w) (sym h)) (eq-eqb value (entry_field 3 i 1 w) (sym (eqb-true (entry_field 3 i 1 w) value v)))

  pub values_differ : has_word 3 1 value w i ≡ false → is_constant (constant_of kind value) w i ≡ false
  values_differ v =
      rw (ne_eqb value (entry_field 3 i 1 w) (λ q. eqb-false (entry_field 3 i 1 w) value v (sym q))) (go (eqb kind (entry_field 3 i 0 w)))
    where
      go : (b : Bool) → cond b false false ≡ false
      go true = refl
      go false = refl

-- the entry that has the value, of those from entry i on
module _ (kind value : ℕ) (w : List ℕ) (n i : ℕ) where
  pub value_found : {r : ℕ} → Some r ≡ found_of (find_word 3 1 value i n w)
      → Reached (has_word 3 1 value w) (is_constant (constant_of kind value) w) n i r
  value_found = reached (has_word 3 1 value w) (is_constant (constant_of kind value) w) (values_differ kind value w) n i (n - i) refl

  pub find_here : {r : ℕ} → Some r ≡ found_of (find_word 3 1 value i n w) → entry_field 3 r 0 w ≡ kind
      → first_from (is_constant (constant_of kind value) w) (n - i) i ≡ find_plain n (constant_of kind value) w
      → Some r ≡ found_of (find_plain n (constant_of kind value) w)
  find_here {r} e q s =
      let p = value_found e in
      first_here (is_constant (constant_of kind value) w) n r n 0 p.last (kinds_agree kind value w r q p.taken) (sym p.same ∙ s)

  pub find_next : {r : ℕ} → Some r ≡ found_of (find_word 3 1 value i n w) → (entry_field 3 r 0 w ≡ kind → ⊥)
      → first_from (is_constant (constant_of kind value) w) (n - i) i ≡ find_plain n (constant_of kind value) w
      → first_from (is_constant (constant_of kind value) w) (n - (r + 1)) (r + 1) ≡ find_plain n (constant_of kind value) w
  find_next {r} e q s =
      let p = value_found e in
      first_next (is_constant (constant_of kind value) w) n r n 0 p.last (kinds_differ kind value w r q) (sym p.same ∙ s)

  pub find_end : None ≡ found_of (find_word 3 1 value i n w)
      → first_from (is_constant (constant_of kind value) w) (n - i) i ≡ find_plain n (constant_of kind value) w
      → None ≡ found_of (find_plain n (constant_of kind value) w)
  find_end e s =
      ap found_of
      (sym (none_reached (has_word 3 1 value w) (is_constant (constant_of kind value) w) (values_differ kind value w) i (n - i) e) ∙ s)
