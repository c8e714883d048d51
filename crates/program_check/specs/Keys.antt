-- Keys of entries: two words of an entry, of which a word past the entry counts as 0 (so the key of a book is its number alone)
use Rattle.std.specs.Prelude.{ℕ, ◌+◌, ◌*◌, ◌/◌, ◌%◌, Bool, true, false, cond, ◌&&◌, List, eqb}
use Rattle.words.specs.Areas.{entry_field}
use Rattle.definition.specs.Within.{all_below, where'}

-- words `group` and `name` of entries i and j are the same
abbrev pub same_by : ℕ → ℕ → ℕ → List ℕ → ℕ → ℕ → Bool
same_by width group name w i j =
    eqb (entry_field width i group w) (entry_field width j group w) && eqb (entry_field width i name w) (entry_field width j name w)

abbrev pub differs_from : ℕ → ℕ → ℕ → List ℕ → ℕ → ℕ → Bool
differs_from width group name w i j = cond (same_by width group name w i j) false true

-- no entry before entry i has its key
unfoldable pub fresh_by : ℕ → ℕ → ℕ → List ℕ → ℕ → Bool
fresh_by width group name w i = all_below i (differs_from width group name w i)

unfoldable pub keys_by : ℕ → ℕ → ℕ → List ℕ → ℕ → Bool
keys_by width group name w total = all_below total (fresh_by width group name w)

-- a set of bits has so many places, in so many words
abbrev pub set_size : ℕ
set_size = 1048576

abbrev pub set_words : ℕ
set_words = 16384

-- a number for a key: its place in a set is what is left by the set's size, and its share follows from the rest
unfoldable pub hash_of : ℕ → ℕ → ℕ
hash_of group name = group % set_size * 648055 + name % set_size

abbrev pub hash_at : ℕ → ℕ → ℕ → List ℕ → ℕ → ℕ
hash_at width group name w i = hash_of (entry_field width i group w) (entry_field width i name w)

abbrev pub place_at : ℕ → ℕ → ℕ → List ℕ → ℕ → ℕ
place_at width group name w i = hash_at width group name w i % set_size

abbrev pub share_at : ℕ → ℕ → ℕ → List ℕ → ℕ → ℕ → ℕ
share_at width group name w shares i = hash_at width group name w i / set_size % shares

-- entry i is of another share, or has the key of no entry before it
abbrev pub fresh_in : ℕ → ℕ → ℕ → List ℕ → ℕ → ℕ → ℕ → Bool
fresh_in width group name w shares share i = where' (eqb (share_at width group name w shares i) share) (fresh_by width group name w i)

unfoldable pub share_fresh : ℕ → ℕ → ℕ → List ℕ → ℕ → ℕ → ℕ → Bool
share_fresh width group name w total shares share = all_below total (fresh_in width group name w shares share)
