-- The method that is selected at each place of the section is the one that stands there when all are inserted in order: `selected_sorted`.
-- By what the least above the last one is in a list in order, as one entry more is inserted. Assumes nothing.
use Prim.Native.Nat.{ℕ, zero, suc, ◌+◌, ◌≤◌, ◌<◌}
use native.Mathlib.Omega.{arith}
use mathlib.Core.Path.{◌≡◌, refl, sym, ap, ◌∙◌}
use mathlib.Core.Bool.{Bool, true, false, cond}
use mathlib.Core.List.{List, [], ◌∷◌, ◌++◌, map}
use lib.ListN.{length}
use lib.Dec.{eqb, ltb}
use borrow.Author.Tests.{eqb-true, eqb-false, eq-eqb, ne_eqb, ltb-true, ltb-false, lt-ltb, le-ltb}
use Rattle.definition.specs.Within.{All, nil, ◌&◌}
use Rattle.line_writer.specs.declared.writer.Fields.{Fields}
use Rattle.listings.specs.Sections.{method_model, method_name, method_line, is_below, insert_method, method_order, methods, each_from}
use Rattle.listings.specs.Selecting.{is_above, is_less, lesser, least_from, method_after, method_at, method_lines, selected}
use Rattle.std.specs.Prelude.{Option}
use Rattle.std.specs.Prelude.{Some, None}

-- keys as pairs
abbrev lower : (a b c d : ℕ) → Bool
lower a b c d = cond (ltb a c) true (cond (eqb a c) (ltb b d) false)

-- what a key below another is, and what it is not
data Lower (a b c d : ℕ) : Type 0 where
  by_model : a < c → Lower a b c d
  by_name : a ≡ c → b < d → Lower a b c d

data Not (a b c d : ℕ) : Type 0 where
  past_model : c < a → Not a b c d
  past_name : a ≡ c → d ≤ b → Not a b c d

lower_is : (a b c d : ℕ) → lower a b c d ≡ true → Lower a b c d
lower_is a b c d h = go (ltb a c) refl (eqb a c) refl h
  where
    go : (x : Bool) → ltb a c ≡ x → (y : Bool) → eqb a c ≡ y → cond x true (cond y (ltb b d) false) ≡ true → Lower a b c d
    go true p y q h = by_model (ltb-true a c p)
    go false p true q h = by_name (eqb-true a c q) (ltb-true b d h)
    go false p false q h = absurd (let z : ◌≡◌ {A = ℕ} 0 1 = cc in omega arith)

not_is : (a b c d : ℕ) → lower a b c d ≡ false → Not a b c d
not_is a b c d h = go (ltb a c) refl (eqb a c) refl h
  where
    go : (x : Bool) → ltb a c ≡ x → (y : Bool) → eqb a c ≡ y → cond x true (cond y (ltb b d) false) ≡ false → Not a b c d
    go true p y q h = absurd (let z : ◌≡◌ {A = ℕ} 0 1 = cc in omega arith)
    go false p true q h = past_name (eqb-true a c q) (ltb-false b d h)
    go false p false q h = past_model (let x = ltb-false a c p in let y = eqb-false a c q in apart x y)
      where
        apart : c ≤ a → (a ≡ c → ⊥) → c < a
        apart x y = go' (ltb c a) refl
          where
            go' : (t : Bool) → ltb c a ≡ t → c < a
            go' true e = ltb-true c a e
            go' false e = absurd (y (let z = ltb-false c a e in omega (arith, x, z)))

is_lower : (a b c d : ℕ) → Lower a b c d → lower a b c d ≡ true
is_lower a b c d (by_model h) = ap (λ (t : Bool). cond t true (cond (eqb a c) (ltb b d) false)) (lt-ltb a c h)
is_lower a b c d (by_name e h) =
    ap (λ (t : Bool). cond t true (cond (eqb a c) (ltb b d) false)) (le-ltb a c (omega (arith, e)))
    ∙ (ap (λ (t : Bool). cond t (ltb b d) false) (eq-eqb a c e) ∙ lt-ltb b d h)

is_not : (a b c d : ℕ) → Not a b c d → lower a b c d ≡ false
is_not a b c d (past_model h) =
    ap (λ (t : Bool). cond t true (cond (eqb a c) (ltb b d) false)) (le-ltb a c (omega (arith, h)))
    ∙ ap (λ (t : Bool). cond t (ltb b d) false) (ne_eqb a c (λ e. omega (arith, h, e)))
is_not a b c d (past_name e h) =
    ap (λ (t : Bool). cond t true (cond (eqb a c) (ltb b d) false)) (le-ltb a c (omega (arith, e)))
    ∙ (ap (λ (t : Bool). cond t (ltb b d) false) (eq-eqb a c e) ∙ le-ltb b d h)

module _ (w : List ℕ) where
  abbrev M : ℕ → ℕ
  M i = method_model w i

  abbrev N : ℕ → ℕ
  N i = method_name w i

  below_trans : (i j k : ℕ) → is_below w i j ≡ true → is_below w j k ≡ true → is_below w i k ≡ true
  below_trans i j k p q = is_lower (M i) (N i) (M k) (N k) (go (lower_is (M i) (N i) (M j) (N j) p) (lower_is (M j) (N j) (M k) (N k) q))
    where
      go : Lower (M i) (N i) (M j) (N j) → Lower (M j) (N j) (M k) (N k) → Lower (M i) (N i) (M k) (N k)
      go (by_model a) (by_model b) = by_model (omega (arith, a, b))
      go (by_model a) (by_name e b) = by_model (omega (arith, a, e))
      go (by_name e a) (by_model b) = by_model (omega (arith, e, b))
      go (by_name e a) (by_name f b) = by_name (e ∙ f) (omega (arith, a, b))

  below_back : (i j : ℕ) → is_below w i j ≡ true → is_below w j i ≡ false
  below_back i j p = is_not (M j) (N j) (M i) (N i) (go (lower_is (M i) (N i) (M j) (N j) p))
    where
      go : Lower (M i) (N i) (M j) (N j) → Not (M j) (N j) (M i) (N i)
      go (by_model a) = past_model a
      go (by_name e a) = past_name (sym e) (omega (arith, a))

  below_self : (i : ℕ) → is_below w i i ≡ false
  below_self i = is_not (M i) (N i) (M i) (N i) (past_name refl (omega arith))

  -- neither is below the other: the keys are the same
  same_above : (i j : ℕ) → is_below w i j ≡ false → is_below w j i ≡ false → (last : Option ℕ) → is_above w last i ≡ is_above w last j
  same_above i j p q last = go (not_is (M i) (N i) (M j) (N j) p) (not_is (M j) (N j) (M i) (N i) q) last
    where
      same : M i ≡ M j → N i ≡ N j → (last : Option ℕ) → is_above w last i ≡ is_above w last j
      same m n None = refl
      same m n (Some k) = (λ t. lower (M k) (N k) (m t) (n t))

      go : Not (M i) (N i) (M j) (N j) → Not (M j) (N j) (M i) (N i) → (last : Option ℕ) → is_above w last i ≡ is_above w last j
      go (past_model a) (past_model b) last = absurd (omega (arith, a, b))
      go (past_model a) (past_name e b) last = absurd (omega (arith, a, e))
      go (past_name e a) (past_model b) last = absurd (omega (arith, e, b))
      go (past_name e a) (past_name f b) last = same e (omega (arith, a, b)) last

  -- a list in order
  abbrev Above : ℕ → List ℕ → Type 0
  Above j js = All (λ (k : ℕ). is_below w j k ≡ true) js

  data Rising : List ℕ → Type 0 where
    flat : Rising []
    more : {j : ℕ} {js : List ℕ} → Above j js → Rising js → Rising (j ∷ js)

  above_trans : (i j : ℕ) (js : List ℕ) → is_below w i j ≡ true → Above j js → Above i js
  above_trans i j [] e nil = nil
  above_trans i j (k ∷ js) e (p & ps) = below_trans i j k e p & above_trans i j js e ps

  above_insert : (i j : ℕ) (js : List ℕ) → is_below w j i ≡ true → Above j js → Above j (insert_method w i js)
  unfolding insert_method
  above_insert i j [] e nil = e & nil
  above_insert i j (k ∷ js) e (p & ps) = go (is_below w i k) (is_below w k i) (above_insert i j js e ps)
    where
      go : (x y : Bool) → Above j (insert_method w i js) → Above j (cond x (i ∷ k ∷ js) (cond y (k ∷ insert_method w i js) (k ∷ js)))
      go true y r = e & (p & ps)
      go false true r = p & r
      go false false r = p & ps

  rising_insert : (i : ℕ) (js : List ℕ) → Rising js → Rising (insert_method w i js)
  unfolding insert_method
  rising_insert i [] flat = more nil flat
  rising_insert i (j ∷ js) (more a r) = go (is_below w i j) (is_below w j i) refl refl (rising_insert i js r)
    where
      go : (x y : Bool) → is_below w i j ≡ x → is_below w j i ≡ y → Rising (insert_method w i js)
          → Rising (cond x (i ∷ j ∷ js) (cond y (j ∷ insert_method w i js) (j ∷ js)))
      go true y p q s = more (p & above_trans i j js p a) (more a r)
      go false true p q s = more (above_insert i j js q a) s
      go false false p q s = more a r

  rising_order : (n : ℕ) → Rising (method_order w n)
  unfolding method_order
  rising_order zero = flat
  rising_order (suc n) = rising_insert n (method_order w n) (rising_order n)

  -- the first of a list above the last one
  abbrev first_above : Option ℕ → List ℕ → Option ℕ
  first_above last [] = None
  first_above last (j ∷ js) = cond (is_above w last j) (Some j) (first_above last js)

  first_less : (last : Option ℕ) (i : ℕ) (js : List ℕ) → Above i js → is_less w (first_above last js) i ≡ true
  first_less last i [] nil = refl
  first_less last i (j ∷ js) (p & ps) = go (is_above w last j) (first_less last i js ps)
    where
      go : (x : Bool) → is_less w (first_above last js) i ≡ true → is_less w (cond x (Some j) (first_above last js)) i ≡ true
      go true r = p
      go false r = r

  stays : (last : Option ℕ) (i j : ℕ) → is_below w i j ≡ false → lesser w last (Some j) i ≡ Some j
  stays last i j e = go (is_above w last i) (is_below w i j) e
    where
      go : (x y : Bool) → y ≡ false → cond x (cond y (Some i) (Some j)) (Some j) ≡ Some j
      go false y q = refl
      go true false q = refl
      go true true q = absurd (let z : ◌≡◌ {A = ℕ} 0 1 = cc in omega arith)

  past : (last least : Option ℕ) (i : ℕ) → is_above w last i ≡ false → lesser w last least i ≡ least
  past last least i e = ap (λ (t : Bool). cond t (cond (is_less w least i) (Some i) least) least) e

  first_insert : (last : Option ℕ) (i : ℕ) (js : List ℕ) → Rising js → lesser w last (first_above last js) i ≡ first_above last (insert_method w i js)
  unfolding insert_method
  first_insert last i [] flat = refl
  first_insert last i (j ∷ js) (more a r) = go (is_below w i j) (is_below w j i) refl refl (first_insert last i js r)
    where
      F : Option ℕ
      F = first_above last (j ∷ js)

      second : (x : Bool) → is_above w last j ≡ x → is_below w i j ≡ false → lesser w last (first_above last js) i ≡ first_above last (insert_method w i js)
          → lesser w last (cond x (Some j) (first_above last js)) i ≡ cond x (Some j) (first_above last (insert_method w i js))
      second true e p s = stays last i j p
      second false e p s = s

      third : (x : Bool) → is_above w last j ≡ x → is_below w i j ≡ false → is_below w j i ≡ false
          → lesser w last (cond x (Some j) (first_above last js)) i ≡ cond x (Some j) (first_above last js)
      third true e p q = stays last i j p
      third false e p q = past last (first_above last js) i (same_above i j p q last ∙ e)

      go : (x y : Bool) → is_below w i j ≡ x → is_below w j i ≡ y → lesser w last (first_above last js) i ≡ first_above last (insert_method w i js)
          → lesser w last F i ≡ first_above last (cond x (i ∷ j ∷ js) (cond y (j ∷ insert_method w i js) (j ∷ js)))
      go true y p q s =
          ap (λ (t : Bool). cond (is_above w last i) (cond t (Some i) F) F) (first_less last i (j ∷ js) (p & above_trans i j js p a))
      go false true p q s = second (is_above w last j) refl p s
      go false false p q s = third (is_above w last j) refl p q

  -- the least above the last one, of the first n entries
  least_last : (last least : Option ℕ) (i n : ℕ) → least_from w last least i (suc n) ≡ lesser w last (least_from w last least i n) (i + n)
  unfolding least_from
  least_last last least i zero = ap (lesser w last least) (omega arith)
  least_last last least i (suc n) =
      least_last last (lesser w last least i) (suc i) n
      ∙ ap (lesser w last (least_from w last (lesser w last least i) (suc i) n)) (omega arith)

  least_first : (last : Option ℕ) (n : ℕ) → least_from w last None 0 n ≡ first_above last (method_order w n)
  unfolding least_from method_order
  least_first last zero = refl
  least_first last (suc n) =
      least_last last None 0 n ∙ (ap (lesser w last (least_from w last None 0 n)) (omega arith)
      ∙ (ap (λ (x : Option ℕ). lesser w last x n) (least_first last n) ∙ first_insert last n (method_order w n) (rising_order n)))

  -- the entry at a place of a list, and the one after it
  abbrev nth : List ℕ → ℕ → Option ℕ
  nth [] k = None
  nth (j ∷ js) zero = Some j
  nth (j ∷ js) (suc k) = nth js k

  abbrev next_in : List ℕ → Option ℕ → Option ℕ
  next_in js None = None
  next_in js (Some j) = first_above (Some j) js

  nth_less : (j : ℕ) (js : List ℕ) → Above j js → (k : ℕ) → is_less w (nth js k) j ≡ true
  nth_less j [] nil k = refl
  nth_less j (x ∷ js) (p & ps) zero = p
  nth_less j (x ∷ js) (p & ps) (suc k) = nth_less j js ps k

  skip_head : (j : ℕ) (js : List ℕ) (m : Option ℕ) → is_less w m j ≡ true → next_in (j ∷ js) m ≡ next_in js m
  skip_head j js None h = refl
  skip_head j js (Some x) h = ap (λ (t : Bool). cond t (Some j) (first_above (Some x) js)) (below_back j x h)

  next_nth : (js : List ℕ) → Rising js → (k : ℕ) → next_in js (nth js k) ≡ nth js (suc k)
  next_nth [] flat k = refl
  next_nth (j ∷ js) (more a r) zero = ap (λ (t : Bool). cond t (Some j) (first_above (Some j) js)) (below_self j) ∙ head js a
    where
      head : (js : List ℕ) → Above j js → first_above (Some j) js ≡ nth js zero
      head [] nil = refl
      head (x ∷ js) (p & ps) = ap (λ (t : Bool). cond t (Some x) (first_above (Some j) js)) p
  next_nth (j ∷ js) (more a r) (suc k) = skip_head j js (nth js k) (nth_less j js a k) ∙ next_nth js r k

  after_next : (n : ℕ) (m : Option ℕ) → method_after w n m ≡ next_in (method_order w n) m
  unfolding method_after
  after_next n None = refl
  after_next n (Some j) = least_first (Some j) n

  at_nth : (n k : ℕ) → method_at w n k ≡ nth (method_order w n) k
  unfolding method_at
  at_nth n zero = least_first None n ∙ head (method_order w n)
    where
      head : (js : List ℕ) → first_above None js ≡ nth js zero
      head [] = refl
      head (j ∷ js) = refl
  at_nth n (suc k) =
      ap (method_after w n) (at_nth n k) ∙ (after_next n (nth (method_order w n) k) ∙ next_nth (method_order w n) (rising_order n) k)

  -- so many at most
  insert_length : (i : ℕ) (js : List ℕ) → length (insert_method w i js) ≤ suc (length js)
  unfolding insert_method
  insert_length i [] = omega arith
  insert_length i (j ∷ js) = go (is_below w i j) (is_below w j i) (insert_length i js)
    where
      go : (x y : Bool) → length (insert_method w i js) ≤ suc (length js)
          → length (cond x (i ∷ j ∷ js) (cond y (j ∷ insert_method w i js) (j ∷ js))) ≤ suc (length (j ∷ js))
      go true y h = omega arith
      go false true h = omega (arith, h)
      go false false h = omega arith

  order_length : (n : ℕ) → length (method_order w n) ≤ n
  unfolding method_order
  order_length zero = omega arith
  order_length (suc n) = omega (arith, insert_length n (method_order w n), order_length n)

  each_nth : (f : ℕ → List Fields) (js : List ℕ) (i n : ℕ) → ((k : ℕ) → f (i + k) ≡ method_lines w (nth js k)) → length js ≤ n
      → each_from f i n ≡ map (λ (j : ℕ). method_line w j) js
  unfolding each_from
  each_nth f [] i zero h l = refl
  each_nth f (j ∷ js) i zero h l = absurd (omega (arith, l))
  each_nth f [] i (suc n) h l =
      let here : f i ≡ [] = ap f (omega arith) ∙ h 0 in
      ap (λ (ls : List Fields). ls ++ each_from f (suc i) n) here
      ∙ each_nth f [] (suc i) n (λ k. ap f (omega arith) ∙ h (suc k)) (omega arith)
  each_nth f (j ∷ js) i (suc n) h l =
      let here : f i ≡ method_line w j ∷ [] = ap f (omega arith) ∙ h 0 in
      ap (λ (ls : List Fields). ls ++ each_from f (suc i) n) here
      ∙ ap (λ (ls : List Fields). method_line w j ∷ ls) (each_nth f js (suc i) n (λ k. ap f (omega arith) ∙ h (suc k)) (omega (arith, l)))

  pub selected_sorted : (n : ℕ) → selected w n ≡ methods w n
  selected_sorted n =
      each_nth (λ k. method_lines w (method_at w n k)) (method_order w n) 0 n
      (λ k. ap (λ (m : Option ℕ). method_lines w m) (ap (method_at w n) (omega arith) ∙ at_nth n k)) (order_length n)
