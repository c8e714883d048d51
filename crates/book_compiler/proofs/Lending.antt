-- A part of the memory that was lent or read: what was done to the part is done to the memory, once the memory has its layout. Assumes nothing.
use Rattle.std.proofs.Common.{◌≡◌, ℕ, suc, ◌+◌, ◌-◌, ◌<◌, min, List, ◌++◌, length, take, drop, get_or, refl, ap, ◌∙◌, subst, arith}
use Rattle.memory.specs.Layout.{part, with_part, Fits}
use Rattle.memory.proofs.Parts.{ends_within}
use Rattle.building.specs.declared.function_state.FunctionState.{FunctionState}
use Rattle.compiler_laws.specs.declared.book.Book as struct
use Rattle.book_compiler.specs.Represents.{laid, Replaced, On}
use Rattle.book_compiler.specs.RepresentsBook.{book_laid, OnArea}
use Rattle.book_compiler.specs.Leaves.{Reads}
use Rattle.book_compiler.specs.BookOrder.{LentPart, ReadsPart}

-- where the starts fit the memory, nothing is cut
pub uncut : {a : List ℕ} {n i s e : ℕ} → Fits a n → i < 14 → e ≡ min (get_or a (i + 1) 0) n → s ≡ min (get_or a i 0) e
    → (s ≡ get_or a i 0) × (e ≡ get_or a (suc i) 0)
uncut {a} {n} {i} {s} {e} f h p q =
    let next : i + 1 ≡ suc i = omega arith in
    let cut : e ≡ min (get_or a (suc i) 0) n = p ∙ ap (λ (k : ℕ). min (get_or a k 0) n) next in
    let within = ends_within f i h in
    let end : e ≡ get_or a (suc i) 0 = omega (arith, cut, within) in
    let ordered = f.ordered i h in
    (omega (arith, q, end, ordered), end)

pub put_between : {i : ℕ} {R : List ℕ → List ℕ → Type 0} (a w x : List ℕ) {s e : ℕ} → (s ≡ get_or a i 0) × (e ≡ get_or a (suc i) 0)
    → R (take (e - s) (drop s w)) x → length x ≡ length (take (e - s) (drop s w)) → Replaced i R a w (take s w ++ (x ++ drop (e - s) (drop s w)))
unfolding part with_part
put_between a w x at r l = record { words = x; does = rw (← at.0, ← at.1) r; long = rw (← at.0, ← at.1) l; is = rw (← at.0, ← at.1) refl }

-- a closure did P, which is R
pub lent_as : {i : ℕ} {P R : List ℕ → List ℕ → Type 0} {a w w' : List ℕ} → LentPart i P a w w' → ((x y : List ℕ) → P x y → R x y)
    → LentPart i R a w w'
lent_as L q = record { on = λ f. let p = L.on f in record { words = p.words; does = q _ _ p.does; long = p.long; is = p.is } }

pub lent_on : {i : ℕ} {P R : List ℕ → List ℕ → Type 0} {s s' : FunctionState} {a w w' : List ℕ} → LentPart i P a w w'
    → ((x y : List ℕ) → P x y → R x y) → On i R (laid s a w) (laid s' a w')
lent_on L q = record { same = refl; on = (lent_as L q).on }

pub lent_area : {i : ℕ} {P R : List ℕ → List ℕ → Type 0} {s s' : struct.Book} {a w w' : List ℕ} → LentPart i P a w w'
    → ((x y : List ℕ) → P x y → R x y) → OnArea i R (book_laid s a w) (book_laid s' a w')
lent_area L q = record { same = refl; on = (lent_as L q).on }

pub read_on : {i : ℕ} {R : List ℕ → Type 0} {s : FunctionState} {a w x : List ℕ} → ReadsPart i (λ y. x ≡ y) a w → R x → Reads i R (laid s a w)
read_on {R = R} L r = record { on = λ f. subst R (L.on f) r }
