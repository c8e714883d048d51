-- What a number is read as, where each case of an enum has a number
use Rattle.std.specs.Prelude.{ℕ, ◌≡◌, Result, MatchResult}
use Rattle.words.specs.declared.UnknownNumber.{UnknownNumber}

-- the case that has the number, or the number itself where none has
abbrev pub ReadAs : {K : Type 0} → (K → ℕ) → ℕ → Result K UnknownNumber → Type 0
ReadAs {K} number n r = MatchResult r (λ k. number k ≡ n) (λ e. (e.0 ≡ n) × ((k : K) → number k ≡ n → ⊥))
