-- 02, 2026-05: 'Adding a float whose 64 bits stand in the pool gives the first number that has them'; 01, 'Emission': 'Equal integers and equal texts share'.
-- So no two shared constants of a pool are the same
-- No contract cites this file, and it need not be believed: the claim is proved (proofs/SharedOnce.antt)
use Rattle.std.specs.Prelude.{ℕ, ◌<◌, ◌≡◌, true, false, List, length, get_or}
use Rattle.words.specs.Object.{Constant, constant_of, null_kind, is_shared, same_constant}

-- the constant of a number
abbrev pub numbered : List Constant → ℕ → Constant
numbered cs i = get_or cs i (constant_of null_kind 0)

-- a shared constant is the same as none before it
pub record SharedOnce (cs : List Constant) : Type 0 where
  pub apart : (i j : ℕ) → i < j → j < length cs → is_shared (numbered cs j).kind ≡ true → same_constant (numbered cs j) (numbered cs i) ≡ false
