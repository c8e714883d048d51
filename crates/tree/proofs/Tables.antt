-- The code's tables are those of `Rules`: each row stands at its place, and the code's struct says what the row says, by one test of every slot and one of
-- every rule, which antt computes. Also one law for each way through the functions that read a row. Assumes nothing.
use mathlib.Core.Path.{◌≡◌, refl, sym, ap, subst, ◌∙◌}
use mathlib.Core.Bool.{Bool, true, false, cond, not, ◌&&◌}
use mathlib.Core.List.{List, [], ◌∷◌}
use Prim.Native.Nat.{ℕ, zero, suc, ◌/◌, ◌%◌, ◌^◌, ◌≤◌, ◌<◌}
use native.Mathlib.Omega.{arith}
use native.Mathlib.Decide.{dec_lt}
use lib.ListN.{get_or, get_or-eq_default}
use lib.Dec.{T, eqb, ltb, ltb→lt, eqb→eq}
use borrow.Author.Tests.{lt-ltb, le-ltb, ne_eqb}
use Rattle.tree.specs.Rules.{Slot, Rule, slots, rules, slot_of, rule_of, nothing, unused, has, may_stand, first_slot}
use Rattle.tree.specs.Rules.{in_range}
use Rattle.tree.specs.Rows.{bits, slot_row, value_row, rule_row, holds_in, range_in, least_in, most_in}
use Rattle.words.specs.Kinds.{number_of_record}
use Rattle.words.specs.declared.record.RecordKind.{RecordKind}
use Rattle.words.specs.declared.record.RecordKind.TheVariants.{Document, LocalDefinition, IncludeDefinition, ModelDefinition, PublicModelDefinition}
use Rattle.words.specs.declared.record.RecordKind.TheVariants.{FunctionDefinition, PublicFunctionDefinition, ImplementDefinition, ApplyDefinition}
use Rattle.words.specs.declared.record.RecordKind.TheVariants.{LocalStatement, ReturnStatement, BreakStatement, RescueStatement, ForStatement}
use Rattle.words.specs.declared.record.RecordKind.TheVariants.{ExpressionStatement, Identifier, This, Null, Integer, Float, String, Boolean, Array, Prefix}
use Rattle.words.specs.declared.record.RecordKind.TheVariants.{Infix, Name, ThisParameter, If, Block, Call, InstanceGet, IndexGet, OtherToken}
use Rattle.tree.specs.declared.SlotRule.{SlotRule}
use Rattle.tree.specs.declared.KindRule.{KindRule}
use Rattle.tree.specs.declared.Values.{Values}
use Rattle.tree.specs.declared.Values.TheVariants.{Text, Word, UpTo}

-- a test of every entry of a list, and of every number below n

abbrev both : Bool → Bool → Bool
both true b = b
both false b = false

both_left : (a b : Bool) → T (both a b) → T a
both_left true b t = tt
both_left false b t = t

both_right : (a b : Bool) → T (both a b) → T b
both_right true b t = t
both_right false b t = absurd t

abbrev all : {A : Type 0} → (A → Bool) → List A → Bool
all f [] = true
all f (x ∷ xs) = both (f x) (all f xs)

all_at : {A : Type 0} (f : A → Bool) (xs : List A) (d : A) → T (all f xs) → T (f d) → (k : ℕ) → T (f (get_or xs k d))
all_at f [] d t u k = u
all_at f (x ∷ xs) d t u zero = both_left (f x) (all f xs) t
all_at f (x ∷ xs) d t u (suc k) = all_at f xs d (both_right (f x) (all f xs) t) u k

abbrev below : (ℕ → Bool) → ℕ → Bool
below f zero = true
below f (suc n) = both (f n) (below f n)

below_at : (f : ℕ → Bool) (n : ℕ) → T (below f n) → (k : ℕ) → k < n → T (f k)
below_at f zero t k h = absurd (omega arith)
below_at f (suc n) t k h = go (dec_lt k n) (below_at f n (both_right (f n) (below f n) t) k)
  where
    go : Dec (k < n) → (k < n → T (f k)) → T (f k)
    go (yes l) r = r l
    go (no l) r = let e : n ≡ k = omega arith in subst (λ (j : ℕ). T (f j)) e (both_left (f n) (below f n) t)

-- rows by their place: what a match that has no arm left says, that the number is none of its keys, and that every row of no key says nothing

abbrev pub NoneOf : Type 0 → List ℕ → ℕ → Type 0
NoneOf N [] n = N
NoneOf N (k ∷ ks) n = NoneOf (N × (n ≡ k → ⊥)) ks n

none_before : (N : Type 0) (ks : List ℕ) (n : ℕ) → NoneOf N ks n → N
none_before N [] n r = r
none_before N (k ∷ ks) n r = (none_before (N × (n ≡ k → ⊥)) ks n r).0

none_has : (N : Type 0) (ks : List ℕ) (n : ℕ) → NoneOf N ks n → has n ks ≡ false
none_has N [] n r = refl
none_has N (k ∷ ks) n r = simp (ne_eqb n k (none_before (N × (n ≡ k → ⊥)) ks n r).1) (none_has (N × (n ≡ k → ⊥)) ks n r)

abbrev all_but : {A : Type 0} → List ℕ → (A → Bool) → (ℕ → A) → ℕ → Bool
all_but ks is row k = cond (has k ks) true (is (row k))

left_out : {A : Type 0} (ks : List ℕ) (is : A → Bool) (row : ℕ → A) (d : A) → ((x : A) → T (is x) → x ≡ d) → (m n : ℕ) → T (below (all_but ks is row) m)
    → (m ≤ n → row n ≡ d) → has n ks ≡ false → row n ≡ d
left_out ks is row d sure m n t high none = go (dec_lt n m)
  where
    go : Dec (n < m) → row n ≡ d
    go (yes l) = sure (row n) (subst (λ (b : Bool). T (cond b true (is (row n)))) none (below_at (all_but ks is row) m t n l))
    go (no l) = high (omega (arith, l))

abbrev slot_keys : List ℕ
slot_keys = 1 ∷ 2 ∷ 3 ∷ 4 ∷ 5 ∷ 6 ∷ 7 ∷ 8 ∷ 9 ∷ 10 ∷ 11 ∷ 12 ∷ 13 ∷ 14 ∷ 15 ∷ 16 ∷ 17 ∷ 18 ∷ 19 ∷ 20 ∷ 21 ∷ 22 ∷ 23 ∷ []

abbrev kinds : List RecordKind
kinds =
    Document ∷ LocalDefinition ∷ IncludeDefinition ∷ ModelDefinition ∷ PublicModelDefinition ∷ FunctionDefinition ∷ PublicFunctionDefinition
    ∷ ImplementDefinition ∷ ApplyDefinition ∷ LocalStatement ∷ ReturnStatement ∷ BreakStatement ∷ RescueStatement ∷ ForStatement ∷ ExpressionStatement
    ∷ Identifier ∷ This ∷ Null ∷ Integer ∷ Float ∷ String ∷ Boolean ∷ Array ∷ Prefix ∷ Infix ∷ Name ∷ ThisParameter ∷ If ∷ Block ∷ Call ∷ InstanceGet
    ∷ IndexGet ∷ OtherToken ∷ []

abbrev numbers : List RecordKind → List ℕ
numbers [] = []
numbers (k ∷ ks) = number_of_record k ∷ numbers ks

abbrev rule_keys : List ℕ
rule_keys = numbers kinds

none_numbered : (n : ℕ) → ((k : RecordKind) → number_of_record k ≡ n → ⊥) → (ks : List RecordKind) → has n (numbers ks) ≡ false
none_numbered n none [] = refl
none_numbered n none (k ∷ ks) = simp (ne_eqb n (number_of_record k) (λ e. none k (sym e))) (none_numbered n none ks)

abbrev pub slot_at : ℕ → SlotRule
slot_at s = slot_row (slot_of s)

abbrev pub rule_at : ℕ → KindRule
rule_at k = rule_row (rule_of k)

abbrev is_nothing : SlotRule → Bool
is_nothing r = both (eqb r.kinds 0) (both (eqb r.next 0) (not r.due))

not_true : (b : Bool) → T (not b) → b ≡ false
not_true false t = refl
not_true true t = absurd t

nothing_by : {kinds next : ℕ} {due : Bool} → kinds ≡ 0 → next ≡ 0 → due ≡ false
    → ◌≡◌ {A = SlotRule} (record { kinds = kinds; next = next; due = due }) (slot_row nothing)
nothing_by a b c = rw (a, b, c) refl

nothing_is : (r : SlotRule) → T (is_nothing r) → r ≡ slot_row nothing
nothing_is r t =
    let u = both_right (eqb r.kinds 0) (both (eqb r.next 0) (not r.due)) t in
    nothing_by (eqb→eq r.kinds 0 (both_left (eqb r.kinds 0) _ t)) (eqb→eq r.next 0 (both_left (eqb r.next 0) _ u))
    (not_true r.due (both_right (eqb r.next 0) _ u))

abbrev is_zero : Values → Bool
is_zero Text = false
is_zero Word = false
is_zero (UpTo most) = eqb most 0

zero_is : (v : Values) → T (is_zero v) → v ≡ UpTo 0
zero_is Text t = absurd t
zero_is Word t = absurd t
zero_is (UpTo most) t = ap UpTo (eqb→eq most 0 t)

abbrev is_unused : KindRule → Bool
is_unused r = both (eqb r.first 0) (both (not r.placed) (is_zero r.values))

unused_by : {first : ℕ} {placed : Bool} {values : Values} → first ≡ 0 → placed ≡ false → values ≡ UpTo 0
    → ◌≡◌ {A = KindRule} (record { first = first; placed = placed; values = values }) (rule_row unused)
unused_by a b c = rw (a, b, c) refl

unused_is : (r : KindRule) → T (is_unused r) → r ≡ rule_row unused
unused_is r t =
    let u = both_right (eqb r.first 0) (both (not r.placed) (is_zero r.values)) t in
    unused_by (eqb→eq r.first 0 (both_left (eqb r.first 0) _ t)) (not_true r.placed (both_left (not r.placed) _ u))
    (zero_is r.values (both_right (not r.placed) _ u))

pub no_slot : (s : ℕ) → NoneOf (Unit {0}) slot_keys s → slot_row nothing ≡ slot_at s
no_slot s r =
    sym (left_out slot_keys is_nothing slot_at (slot_row nothing) nothing_is 24 s tt (λ h. ap slot_row (get_or-eq_default slots nothing h))
    (none_has (Unit {0}) slot_keys s r))

pub no_kind : (n : ℕ) → ((k : RecordKind) → number_of_record k ≡ n → ⊥) → rule_row unused ≡ rule_at n
no_kind n none =
    sym (left_out rule_keys is_unused rule_at (rule_row unused) unused_is 50 n tt (λ h. ap rule_row (get_or-eq_default rules unused h))
    (none_numbered n none kinds))

-- the test of a slot: bits below 50 are its kinds, and it has no kind past them

abbrev bit : ℕ → ℕ → Bool
bit m k = eqb (m / 2 ^ k % 2) 1

abbrev same : Bool → Bool → Bool
same true b = b
same false true = false
same false false = true

same_is : (a b : Bool) → T (same a b) → a ≡ b
same_is true true t = refl
same_is true false t = absurd t
same_is false true t = absurd t
same_is false false t = refl

abbrev by_bits : Slot → Bool
by_bits s = below (λ k. same (bit (bits s.kinds) k) (has k s.kinds)) 50

abbrev low : List ℕ → Bool
low ks = all (λ k. ltb k 50) ks

abbrev slot_told : Slot → Bool
slot_told s = both (by_bits s) (low s.kinds)

record SlotTold (s : Slot) : Type 0 where
  kinds : T (by_bits s)
  past : T (low s.kinds)

every_slot : (s : ℕ) → SlotTold (slot_of s)
every_slot s =
    let t = all_at slot_told slots nothing tt tt s in
    record { kinds = both_left (by_bits (slot_of s)) _ t; past = both_right (by_bits (slot_of s)) _ t }

none_past : (k : ℕ) (ks : List ℕ) → T (low ks) → 50 ≤ k → has k ks ≡ false
none_past k [] t h = refl
none_past k (x ∷ xs) t h =
    let l : x < 50 = ltb→lt x 50 (both_left (ltb x 50) (low xs) t) in
    let n : eqb k x ≡ false = ne_eqb k x (λ e. omega arith) in
    rw n (none_past k xs (both_right (ltb x 50) (low xs) t) h)

-- may_stand

pub may_past : (s k : ℕ) → 50 ≤ k → false ≡ may_stand s k
unfolding may_stand
may_past s k h = sym (none_past k (slot_of s).kinds (every_slot s).past h)

may_bit : (s k : ℕ) → k < 50 → bit (bits (slot_of s).kinds) k ≡ may_stand s k
unfolding may_stand
may_bit s k h = same_is _ _ (below_at (λ j. same (bit (bits (slot_of s).kinds) j) (has j (slot_of s).kinds)) 50 (every_slot s).kinds k h)

hold_bit : (s k : ℕ) → holds_in (bits (slot_of s).kinds) k ≡ may_stand s k
unfolding holds_in
hold_bit s k = go (dec_lt k 50)
  where
    go : Dec (k < 50) → (ltb k 50 && bit (bits (slot_of s).kinds) k) ≡ may_stand s k
    go (yes h) = simp (lt-ltb k 50 h) (may_bit s k h)
    go (no h) = let l : 50 ≤ k = omega (arith, h) in simp (le-ltb k 50 l) (may_past s k l)

pub hold_row : (s k : ℕ) {r : SlotRule} → r ≡ slot_row (slot_of s) → holds_in r.kinds k ≡ may_stand s k
hold_row s k q = ap (λ (x : SlotRule). holds_in x.kinds k) q ∙ hold_bit s k

-- the test of a rule: its least and its greatest value

abbrev by_least : Rule → Bool
by_least r = eqb (least_in (value_row r.most)) r.least

abbrev by_most : Rule → Bool
by_most r = eqb (most_in (value_row r.most)) r.most

abbrev rule_told : Rule → Bool
rule_told r = both (by_least r) (by_most r)

record RuleTold (r : Rule) (row : KindRule) : Type 0 where
  first : row.first ≡ r.first
  position : row.placed ≡ r.position
  least : least_in row.values ≡ r.least
  most : most_in row.values ≡ r.most

rule_parts : (r : Rule) → T (rule_told r) → RuleTold r (rule_row r)
rule_parts r t =
    record {
      first = refl;
      position = refl;
      least = eqb→eq _ _ (both_left (by_least r) _ t);
      most = eqb→eq _ _ (both_right (by_least r) _ t);
    }

every_rule : (k : ℕ) {row : KindRule} → row ≡ rule_row (rule_of k) → RuleTold (rule_of k) row
every_rule k q = subst (λ (x : KindRule). RuleTold (rule_of k) x) (sym q) (rule_parts (rule_of k) (all_at rule_told rules unused tt tt k))

-- first_slot

pub first_row : (k : ℕ) {row : KindRule} → row ≡ rule_row (rule_of k) → row.first ≡ first_slot k
unfolding first_slot
first_row k q = (every_rule k q).first

-- in_range

pub range_row : (k p v : ℕ) {row : KindRule} → row ≡ rule_row (rule_of k) → range_in row p v ≡ in_range k p v
unfolding range_in in_range
range_row k p v q = rw ((every_rule k q).position, (every_rule k q).least, (every_rule k q).most)
