-- The areas whose entries are looked at one by one: 1 to 8, and 12
use Rattle.std.specs.Prelude.{ℕ, ◌≤◌, ◌≡◌, ◌≢◌}

pub record HasEntries (area : ℕ) : Type 0 where
  pub from_code : 1 ≤ area
  pub or_books : 9 ≤ area → area ≡ 12

-- the areas that are looked at at all: not the listed errors
pub record IsChecked (area : ℕ) : Type 0 where
  pub from_code : 1 ≤ area
  pub to_books : area ≤ 12
  pub no_errors : area ≢ 11
