-- laws of lists: All, and what stays of a code
use Prim.Native.Nat.{ℕ, zero, suc, ◌-◌, ◌≤◌, ◌<◌}
use native.Mathlib.Omega.{arith}
use native.Mathlib.Decide.{dec_lt, ℕ_discrete}
use mathlib.Core.Path.{◌≡◌, refl, sym, ap, ◌∙◌, subst}
use mathlib.Core.Logic.{◌≢◌}
use mathlib.Core.Bool.{Bool, true, false, cond, not}
use mathlib.Core.List.{List, [], ◌∷◌, ◌++◌}
use lib.ListN.{length, take, set, length-append, length-set, length-take, get_or-append}
use lib.Seq.{get_or-set_same, get_or-set_other, get_or-take, get_or-append_seam, set_out}
use lib.Dec.{T, eqb, eqb_refl}
use Rattle.words.specs.Opcode.{Instruction, to_instruction, nothing, Jump}
use Rattle.definition.specs.FunctionState.{patch_all, init, last}
use Rattle.definition.specs.Within.{All, nil, ◌&◌}
use Rattle.definition_laws.proofs.Safe.{at, Each}

module _ {A : Type 0} where
  pub all_map : {P Q : A → Type 0} {l : List A} → ((x : A) → P x → Q x) → All P l → All Q l
  all_map f nil = nil
  all_map f (p & ps) = f _ p & all_map f ps

  pub all_append : {P : A → Type 0} {l m : List A} → All P l → All P m → All P (l ++ m)
  all_append nil qs = qs
  all_append (p & ps) qs = p & all_append ps qs

  pub all_set : {P : A → Type 0} {l : List A} {a : A} → All P l → P a → (i : ℕ) → All P (set l i a)
  all_set nil q i = nil
  all_set (p & ps) q zero = q & ps
  all_set (p & ps) q (suc i) = p & all_set ps q i

  pub all_take : {P : A → Type 0} {l : List A} → All P l → (n : ℕ) → All P (take n l)
  all_take ps zero = nil
  all_take nil (suc n) = nil
  all_take {l = x ∷ xs} (p & ps) (suc n) = p & all_take {l = xs} ps n

  pub cond_case : (P : A → Type 0) (b : Bool) {x y : A} → (T b → P x) → (T (not b) → P y) → P (cond b x y)
  cond_case P true f g = f tt
  cond_case P false f g = g tt

pub ne_of_test : {m n : ℕ} → T (not (eqb m n)) → m ≢ n
ne_of_test {m} {n} t e = go (eqb m n) t (subst (λ k. T (eqb m k)) e (eqb_refl m))
  where
    go : (b : Bool) → T (not b) → T b → ⊥
    go true s r = s
    go false s r = r

pub all_patch : {P : Instruction → Type 0} {l : List Instruction} {t : ℕ} (bs : List ℕ) → All P l → P (to_instruction Jump t) → All P (patch_all bs t l)
all_patch [] ps q = ps
all_patch (b ∷ bs) ps q = all_patch bs (all_set ps q b) q

pub length_patch : (bs : List ℕ) (t : ℕ) (l : List Instruction) → length (patch_all bs t l) ≡ length l
length_patch [] t l = refl
length_patch (b ∷ bs) t l = length_patch bs t (set l b (to_instruction Jump t)) ∙ length-set l b (to_instruction Jump t)

-- what a piece of compiling leaves: all but a Pop
pub record Kept (l l' : List Instruction) : Type 0 where
  pub keeps : (i : ℕ) → i < length l → (at l i).opcode ≢ 1 → (i < length l') × (at l' i ≡ at l i)

-- an index that a piece may write: none of the code before it, unless a Pop
pub record Fresh (l : List Instruction) (j : ℕ) : Type 0 where
  pub free : j < length l → (at l j).opcode ≢ 1 → ⊥

pub kept_refl : (l : List Instruction) → Kept l l
kept_refl l = record { keeps = λ i h k. (h, refl) }

pub kept_trans : {l m n : List Instruction} → Kept l m → Kept m n → Kept l n
kept_trans {l} {m} {n} a b = record {
  keeps = λ i h k.
      let (h₁, e₁) = a.keeps i h k in
      let (h₂, e₂) = b.keeps i h₁ (subst (λ (x : Instruction). x.opcode ≢ 1) (sym e₁) k) in
      (h₂, e₂ ∙ e₁);
}

pub fresh_ge : {l : List Instruction} {j : ℕ} → length l ≤ j → Fresh l j
fresh_ge h = record { free = λ k q. omega arith }

pub fresh_trans : {l m : List Instruction} {j : ℕ} → Kept l m → Fresh m j → Fresh l j
fresh_trans {l} {m} {j} a f = record {
  free = λ h k.
      let (h₁, e₁) = a.keeps j h k in
      f.free h₁ (subst (λ (x : Instruction). x.opcode ≢ 1) (sym e₁) k);
}

pub kept_append : (l m : List Instruction) → Kept l (l ++ m)
kept_append l m = record { keeps = λ i h k. (omega (arith, length-append l m), get_or-append l m nothing i h) }

pub kept_set : {l₀ l : List Instruction} {j : ℕ} (a : Instruction) → Kept l₀ l → Fresh l₀ j → Kept l₀ (set l j a)
kept_set {l₀} {l} {j} a k f = record {
  keeps = λ i h q.
      let (h₁, e₁) = k.keeps i h q in
      let ne : i ≢ j = λ e. f.free (subst (λ x. x < length l₀) e h) (subst (λ x. (at l₀ x).opcode ≢ 1) e q) in
      (omega (arith, length-set l j a), get_or-set_other l j i a nothing ne ∙ e₁);
}

pub kept_patch : {l₀ l : List Instruction} (bs : List ℕ) (t : ℕ) → Kept l₀ l → All (Fresh l₀) bs → Kept l₀ (patch_all bs t l)
kept_patch [] t k nil = k
kept_patch (b ∷ bs) t k (f & fs) = kept_patch bs t (kept_set (to_instruction Jump t) k f) fs

pub kept_init : (l : List Instruction) → (last l nothing).opcode ≡ 1 → Kept l (init l)
kept_init l e = record { keeps = λ i h q. go i h q (dec_lt i (length l - 1)) }
  where
    go : (i : ℕ) → i < length l → (at l i).opcode ≢ 1 → Dec (i < length l - 1) → (i < length (init l)) × (at (init l) i ≡ at l i)
    go i h q (yes p) = (omega (arith, length-take (length l - 1) l), get_or-take (length l - 1) l i nothing p)
    go i h q (no p) = absurd (q (let eq : i ≡ length l - 1 = omega arith in rw eq e))

-- after patches
pub patch_other : (bs : List ℕ) (t : ℕ) (l : List Instruction) (i : ℕ) → All (λ b. b ≢ i) bs → at (patch_all bs t l) i ≡ at l i
patch_other [] t l i nil = refl
patch_other (b ∷ bs) t l i (n & ns) = patch_other bs t (set l b (to_instruction Jump t)) i ns
    ∙ get_or-set_other l b i (to_instruction Jump t) nothing (λ e. n (sym e))

pub patch_stays : (bs : List ℕ) (t : ℕ) (l : List Instruction) (i : ℕ) → i < length l → at l i ≡ to_instruction Jump t
    → at (patch_all bs t l) i ≡ to_instruction Jump t
patch_stays [] t l i h e = e
patch_stays (b ∷ bs) t l i h e = patch_stays bs t l' i (omega (arith, length-set l b J)) (go (ℕ_discrete i b))
  where
    J : Instruction
    J = to_instruction Jump t

    l' : List Instruction
    l' = set l b J

    go : Dec (i ≡ b) → at l' i ≡ J
    go (yes p) = rw p (get_or-set_same l b J nothing (subst (λ x. x < length l) p h))
    go (no p) = get_or-set_other l b i J nothing p ∙ e

pub patch_hits : (bs : List ℕ) (t : ℕ) (l : List Instruction) → All (λ b. b < length l) bs
    → All (λ b. (b < length (patch_all bs t l)) × (at (patch_all bs t l) b ≡ to_instruction Jump t)) bs
patch_hits [] t l nil = nil
patch_hits (b ∷ bs) t l (h & hs) = head & patch_hits bs t l' (all_map (λ x q. omega (arith, same)) hs)
  where
    J : Instruction
    J = to_instruction Jump t

    l' : List Instruction
    l' = set l b J

    same : length l' ≡ length l
    same = length-set l b J

    head : (b < length (patch_all bs t l')) × (at (patch_all bs t l') b ≡ J)
    head = (omega (arith, length_patch bs t l', same), patch_stays bs t l' b (omega (arith, same)) (get_or-set_same l b J nothing h))

-- each instruction with its index

module _ {P Q : ℕ → Instruction → Type 0} where
  pub each_map : (l : List Instruction) → ((i : ℕ) (x : Instruction) → P i x → Q i x) → Each P l → Each Q l
  each_map l f ps i h = f i _ (ps i h)

module _ (P : ℕ → Instruction → Type 0) where
  pub each_snoc : (l : List Instruction) (x : Instruction) → Each P l → P (length l) x → Each P (l ++ (x ∷ []))
  each_snoc l x ps p i h = go (dec_lt i (length l))
    where
      go : Dec (i < length l) → P i (at (l ++ (x ∷ [])) i)
      go (yes k) = rw (get_or-append l (x ∷ []) nothing i k) (ps i k)
      go (no k) = let e : i ≡ length l = omega (arith, length-append l (x ∷ [])) in rw (e, get_or-append_seam l x [] nothing) p

  pub each_set : (l : List Instruction) (j : ℕ) (x : Instruction) → Each P l → P j x → Each P (set l j x)
  each_set l j x ps p i h = go (ℕ_discrete i j)
    where
      go : Dec (i ≡ j) → P i (at (set l j x) i)
      go (yes e) = rw (e, get_or-set_same l j x nothing (omega (arith, length-set l j x))) p
      go (no e) = rw (get_or-set_other l j i x nothing e) (ps i (omega (arith, length-set l j x)))

  pub each_init : (l : List Instruction) → Each P l → Each P (init l)
  each_init l ps i h = rw (get_or-take (length l - 1) l i nothing (omega (arith, length-take (length l - 1) l)))
      (ps i (omega (arith, length-take (length l - 1) l)))

  pub each_patch : (bs : List ℕ) (t : ℕ) (l : List Instruction) → ((i : ℕ) → P i (to_instruction Jump t)) → Each P l → Each P (patch_all bs t l)
  each_patch [] t l p ps = ps
  each_patch (b ∷ bs) t l p ps = each_patch bs t (set l b (to_instruction Jump t)) p (each_set l b (to_instruction Jump t) ps (p b))

-- the last
pub last_snoc : (l : List Instruction) (x : Instruction) → last (l ++ (x ∷ [])) nothing ≡ x
last_snoc l x = let e : length (l ++ (x ∷ [])) - 1 ≡ length l = omega (arith, length-append l (x ∷ [])) in rw e (get_or-append_seam l x [] nothing)

pub opcode_set : (l : List Instruction) (j : ℕ) (x : Instruction) (k : ℕ) → (at l j).opcode ≡ x.opcode → (at (set l j x) k).opcode ≡ (at l k).opcode
opcode_set l j x k e = go (ℕ_discrete k j) (dec_lt j (length l))
  where
    go : Dec (k ≡ j) → Dec (j < length l) → (at (set l j x) k).opcode ≡ (at l k).opcode
    go (no q) d = ap (λ (y : Instruction). y.opcode) (get_or-set_other l j k x nothing q)
    go (yes q) (yes h) = rw (q, get_or-set_same l j x nothing h) (sym e)
    go (yes q) (no h) = ap (λ (y : List Instruction). (at y k).opcode) (set_out l j x (omega arith))

pub opcode_patch : (bs : List ℕ) (t : ℕ) (l : List Instruction) (k : ℕ) → All (λ b. (at l b).opcode ≡ Jump) bs → (at (patch_all bs t l) k).opcode ≡
    (at l k).opcode
opcode_patch [] t l k nil = refl
opcode_patch (b ∷ bs) t l k (p & ps) = opcode_patch bs t l' k (all_map (λ c q. opcode_set l b J c p ∙ q) ps) ∙ opcode_set l b J k p
  where
    J : Instruction
    J = to_instruction Jump t

    l' : List Instruction
    l' = set l b J
