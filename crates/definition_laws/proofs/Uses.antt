-- Row 9 and the notes, once over the area: no note is beyond its area just where the greatest note of each area is within it (`over_none`, `greatest_fits`),
-- and a note that stands is at most the greatest of its area. By recursion on the notes. Assumes nothing.
use Prim.Native.Nat.{ℕ, ◌≤◌, ◌<◌, max}
use native.Mathlib.Nat.{le_refl, le_trans}
use native.Mathlib.Omega.{arith}
use native.Mathlib.Decide.{dec_lt, ℕ_discrete}
use mathlib.Core.Path.{◌≡◌, refl}
use mathlib.Core.Bool.{Bool, true, false, cond, not}
use mathlib.Core.Option.{Option, none, some}
use mathlib.Core.List.{List, [], ◌∷◌}
use lib.ListN.{length, get_or, set}
use lib.Seq.{get_or-set_same, get_or-set_other, set_out}
use lib.Dec.{T, eqb, ltb, eqb→eq, eqb_refl, ltb→lt, nltb→le}
use Rattle.definition.specs.FunctionState.{or_else}
use Rattle.definition.specs.Uses.{Use, using', Limits, limit_of, over_by, first_over, greatest_use}
use Rattle.definition.specs.Within.{All, nil, ◌&◌}
use Rattle.definition_laws.proofs.Lists.{all_map, cond_case}

-- a note within its area
abbrev pub FitsArea : Limits → Use → Type 0
FitsArea l u = u.count ≤ limit_of l u.area

pub or_none : (o p : Option ℕ) → or_else o p ≡ none → (o ≡ none) × (p ≡ none)
or_none none p e = (refl, e)
or_none (some i) p e = absurd (let z : ◌≡◌ {A = ℕ} 0 1 = cc in omega arith)

by_none : (b : Bool) (n : ℕ) → cond b (some n) none ≡ none → T (not b)
by_none true n e = absurd (let z : ◌≡◌ {A = ℕ} 0 1 = cc in omega arith)
by_none false n e = tt

-- row 9 is not met just where every note is within its area
pub over_none : (l : Limits) (us : List Use) → first_over l us ≡ none → All (FitsArea l) us
unfolding first_over
over_none l [] e = nil
over_none l (u ∷ us) e =
    let x = or_none (first_over l us) (over_by l u) e in
    nltb→le _ _ (by_none (ltb (limit_of l u.area) u.count) u.area x.1) & over_none l us x.0

pub none_over : (l : Limits) (us : List Use) → All (FitsArea l) us → first_over l us ≡ none
unfolding first_over
none_over l [] nil = refl
none_over l (u ∷ us) (h & hs) = rw (none_over l us hs) (go (ltb (limit_of l u.area) u.count) (ltb→lt (limit_of l u.area) u.count))
  where
    go : (b : Bool) → (T b → limit_of l u.area < u.count) → cond b (some u.area) none ≡ none
    go true k = absurd (omega (arith, k tt))
    go false k = refl

-- the greatest note of an area is within n just where each of its notes is
greatest_within : (area n : ℕ) (us : List Use) → All (λ (u : Use). u.area ≡ area → u.count ≤ n) us → greatest_use area us ≤ n
unfolding greatest_use
greatest_within area n [] nil = omega arith
greatest_within area n (u ∷ us) (h & hs) =
    let x : cond (eqb u.area area) u.count 0 ≤ n = cond_case (λ k. k ≤ n) (eqb u.area area) (λ t. h (eqb→eq _ _ t)) (λ t. omega arith) in
    omega (arith, greatest_within area n us hs)

-- greater notes make a greater greatest
pub greatest_later : (area : ℕ) (u : Use) (us : List Use) → greatest_use area us ≤ greatest_use area (u ∷ us)
unfolding greatest_use
greatest_later area u us = omega arith

pub greatest_here : (area n : ℕ) (us : List Use) → n ≤ greatest_use area (using' area n ∷ us)
unfolding greatest_use
greatest_here area n us = go (eqb area area) (eqb_refl area)
  where
    go : (b : Bool) → T b → n ≤ max (cond b n 0) (greatest_use area us)
    go true t = omega arith
    go false t = elim t [ ]

each_greatest : (us : List Use) → All (λ (u : Use). u.count ≤ greatest_use u.area us) us
each_greatest us = go us (λ a. le_refl _)
  where
    go : (vs : List Use) → ((a : ℕ) → greatest_use a vs ≤ greatest_use a us) → All (λ (u : Use). u.count ≤ greatest_use u.area us) vs
    go [] h = nil
    go (v ∷ vs) h = le_trans (greatest_here v.area v.count vs) (h v.area) & go vs (λ a. le_trans (greatest_later a v vs) (h a))

-- 2026-09: row 9 is not met just where for every area the greatest note is within it
pub greatest_fits : (l : Limits) (us : List Use) → first_over l us ≡ none → (area : ℕ) → greatest_use area us ≤ limit_of l area
greatest_fits l us e area = greatest_within area (limit_of l area) us (all_map (λ u h q. rw q at h) (over_none l us e))

pub fits_greatest : (l : Limits) (us : List Use) → ((area : ℕ) → greatest_use area us ≤ limit_of l area) → first_over l us ≡ none
fits_greatest l us h = none_over l us (all_map (λ (u : Use) k. le_trans k (h u.area)) (each_greatest us))

-- notes that come after others
pub record Later (us vs : List Use) : Type 0 where
  pub least : (area : ℕ) → greatest_use area us ≤ greatest_use area vs

pub later_same : (us : List Use) → Later us us
later_same us = record { least = λ area. le_refl _ }

pub later_more : {us vs : List Use} (v : Use) → Later us vs → Later us (v ∷ vs)
later_more {us} {vs} v l = record { least = λ area. le_trans (l.least area) (greatest_later area v vs) }

-- n entries of an area stood before, `standing`, or are noted
pub record Noted (standing : ℕ → ℕ) (us : List Use) (area n : ℕ) : Type 0 where
  pub known : n ≤ max (standing area) (greatest_use area us)

module _ {S : ℕ → ℕ} {us : List Use} where
  pub noted_here : {area n : ℕ} → Noted S (using' area n ∷ us) area n
  noted_here {area} {n} = record { known = omega (arith, greatest_here area n us) }

  pub noted_later : {vs : List Use} {area n : ℕ} → Later us vs → Noted S us area n → Noted S vs area n
  noted_later {vs} {area} {n} l k = record { known = omega (arith, l.least area, k.known) }

  pub noted_more : {u : Use} {area n : ℕ} → Noted S us area n → Noted S (u ∷ us) area n
  noted_more {u} k = noted_later (later_more u (later_same us)) k

  pub noted_less : {area n : ℕ} (m : ℕ) → m ≤ n → Noted S us area n → Noted S us area m
  noted_less {area} {n} m h k = record { known = omega (arith, k.known) }

-- counts by area, from 0: each is noted
pub record Counted (standing : ℕ → ℕ) (us : List Use) (ns : List ℕ) : Type 0 where
  pub each : (area : ℕ) → Noted standing us area (get_or ns area 0)

module _ {S : ℕ → ℕ} {us : List Use} {ns : List ℕ} where
  pub counted_later : {vs : List Use} → Later us vs → Counted S us ns → Counted S vs ns
  counted_later l k = record { each = λ area. noted_later l (k.each area) }

  pub counted_more : {u : Use} → Counted S us ns → Counted S (u ∷ us) ns
  counted_more {u} k = counted_later (later_more u (later_same us)) k

  -- one area's count anew
  pub counted_at : (area n : ℕ) → Noted S us area n → Counted S us ns → Counted S us (set ns area n)
  counted_at area n h k = record { each = λ a. go a (ℕ_discrete a area) (dec_lt area (length ns)) }
    where
      go : (a : ℕ) → Dec (a ≡ area) → Dec (area < length ns) → Noted S us a (get_or (set ns area n) a 0)
      go a (no q) d = rw (get_or-set_other ns area a n 0 q) (k.each a)
      go a (yes q) (yes l) = rw (q, get_or-set_same ns area n 0 l) h
      go a (yes q) (no l) = rw (set_out ns area n (omega arith)) (k.each a)
