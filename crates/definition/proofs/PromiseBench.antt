-- What each part of the compile call's promise rules out, on a book that is refused: `implement` on an unknown name, row 7 with error 10. The reply's number
-- and place, and every word of every area, are said. Assumes nothing.
use Prim.Native.Nat.{ℕ}
use mathlib.Core.Path.{◌≡◌, ap}
use mathlib.Core.Bool.{false}
use mathlib.Core.List.{List, [], ◌∷◌}
use lib.ListN.{get_or, replicate}
use Rattle.words.specs.declared.reply.Reply as struct
use Rattle.words.specs.Reply.{area_totals}
use Rattle.definition.specs.Answer.{Reply, areas_of}
use Rattle.definition.specs.Within.{Areas}
use Rattle.definition.specs.Bench.{run}
use Rattle.definition.specs.Promise.{areas, lengths_of, answering, Compiles}

faulty : List ℕ
faulty = 1 ∷ 2 ∷ 0 ∷ 2 ∷ 16 ∷ 1 ∷ 0 ∷ 3 ∷ []

-- areas of twelve words, whatever they are
stale : ℕ → Areas
stale w =
    let l = replicate 12 w in areas l l l l l l l l l l l l

module _ (w : ℕ) (c k f m p t l u n b e o : List ℕ) (r : struct.Reply) (C : Compiles false faulty (stale w) (areas c k f m p t l u n b e o) r) where
  number_said : r.number ≡ 7
  unfolding faulty stale run
  number_said = ap (λ (x : Reply). x.number) C.reply

  place_said : r.place ≡ 2
  unfolding faulty stale run
  place_said = ap (λ (x : Reply). x.place) C.reply

  totals_said : area_totals r.totals ≡ 0 ∷ 0 ∷ 0 ∷ 0 ∷ 0 ∷ 0 ∷ 0 ∷ 0 ∷ 0 ∷ 0 ∷ 0 ∷ 0 ∷ 0 ∷ []
  unfolding faulty stale run
  totals_said = ap (λ (x : Reply). x.totals) C.reply

  count_said : r.totals.bundles ≡ 0
  unfolding faulty stale run
  count_said = C.bundles

  zero_said : (c ≡ replicate 12 0) × (k ≡ replicate 12 0) × (f ≡ replicate 12 0) × (m ≡ replicate 12 0) × (p ≡ replicate 12 0) × (t ≡ replicate 12 0)
      × (l ≡ replicate 12 0) × (u ≡ replicate 12 0) × (n ≡ replicate 12 0) × (b ≡ replicate 12 0) × (o ≡ replicate 12 0)
  unfolding faulty stale run
  zero_said = (at 1, at 2, at 3, at 4, at 5, at 6, at 7, at 8, at 9, at 10, at 12)
    where
      at : (i : ℕ) → get_or (areas c k f m p t l u n b e o) i [] ≡ get_or (areas_of (lengths_of (stale w)) (answering false faulty (stale w))) i []
      at i = ap (λ (x : Areas). get_or x i []) C.words

  errors_said : e ≡ 10 ∷ 0 ∷ 16 ∷ 3 ∷ replicate 8 0
  unfolding faulty stale run
  errors_said = ap (λ (x : Areas). get_or x 11 []) C.words
