-- What the routines of `solver.rt` promise, by the definition's `DependencySolver`. A promise holds of every list of documents that the words spell;
-- `standing` is the set of the books that stand before, which are passed over (2026-01); a fresh call's is empty
-- Private contracts alone cite this file: whoever reads the promises need not believe it
use Rattle.std.specs.Prelude.{ℕ, ◌+◌, ◌*◌, ◌/◌, ◌%◌, ◌≤◌, ◌<◌, ◌≡◌, Bool, true, false, cond, List, [], ◌∷◌, ◌++◌, length, get_or, take, drop, eqb}
use Rattle.std.proofs.Math.Option.{none, some}
use Rattle.words.specs.Ast.{Definition, Document}
use Rattle.words.specs.Areas.{entries_in, entry_field, books_area}
use Rattle.words.specs.Record.{most_records}
use Rattle.tree.specs.At.{RunAt, DefinitionAt, size_d, DocumentAt, DocumentsAt, size_doc, run_size}
use Rattle.definition.specs.DependencySolver.{dependencies, find_document, needed, missing, ready}
use Rattle.definition.specs.Answer.{twice, document_places}
use Rattle.std.specs.Prelude.{None}
use Rattle.building.specs.declared.taking.Taken.{Taken}
use Rattle.building.specs.Taking.{taken}
use Rattle.building.specs.Found.{Found, found_of}
use Rattle.compiler_laws.specs.InsideFunction.{skip_c}
use Rattle.compiler_laws.specs.FileSets.{set_size, narrow_size, bit_of, add_bits, all_bits, all_known, SetIs, Below, Ascends}

-- every file number, and every number that is included, is below a size
abbrev pub InSets : ℕ → List Document → Type 0
InSets size [] = Unit {0}
InSets size (d ∷ ds) = (d.filename < size) × Below size (dependencies d.definitions) × InSets size ds

-- a set has a bit for each of these numbers
abbrev pub Room : List ℕ → List Document → Type 0
Room set ds = InSets (length set * 64) ds

-- the documents that stand from a place up to the end
pub record Bundle (ds : List Document) (tree : List ℕ) (at end : ℕ) : Type 0 where
  pub documents : DocumentsAt ds tree at
  pub fills : at + run_size size_doc ds ≡ end
  pub numbers : InSets set_size ds

-- no two documents have the same file number
abbrev pub Distinct : List Document → Type 0
Distinct [] = Unit {0}
Distinct (d ∷ ds) = (find_document d.filename ds ≡ none) × Distinct ds

abbrev pub files : List Document → List ℕ
files [] = []
files (d ∷ ds) = d.filename ∷ files ds

-- `twice`: row 5; where it finds none, `present` is the set of all file numbers
pub record Twice (tree : List ℕ) (end : ℕ) (ds : List Document) (r : Found) (after : List ℕ) : Type 0 where
  pub answer : end ≡ length tree / 4 → r ≡ found_of (twice [] tree (document_places tree))
  pub distinct : r ≡ None → Distinct ds
  pub present : r ≡ None → SetIs after (files ds)

-- with an empty set to begin with that has room
pub record FindsTwice (tree : List ℕ) (end : ℕ) (before : List ℕ) (r : Found) (after : List ℕ) : Type 0 where
  pub finds : (ds : List Document) → Bundle ds tree 0 end → Room before ds → SetIs before [] → Twice tree end ds r after

-- `add_includes`: the includes among the definitions from a place up to the end, but for those that stand, into a set. Where the answer is no, none was new
pub record Includes (tree : List ℕ) (at end : ℕ) (standing : List ℕ) (any : Bool) (set after : List ℕ) (r : Bool) : Type 0 where
  pub adds : (defs : List Definition) → RunAt DefinitionAt size_d defs tree at → at + run_size size_d defs ≡ end
      → after ≡ add_bits standing set (dependencies defs)
  pub still : r ≡ false → (any ≡ false) × (after ≡ set)

-- what the documents of a set include, into the next
abbrev pub reach_bits : List ℕ → List ℕ → List Document → List ℕ → List ℕ
reach_bits standing set [] next = next
reach_bits standing set (d ∷ ds) next =
    reach_bits standing set ds (cond (bit_of set d.filename) (add_bits standing next (dependencies d.definitions)) next)

-- the includes of documents that were read stand or are in a set
abbrev pub Covers : List ℕ → List ℕ → List ℕ → List Document → Type 0
Covers standing read next [] = Unit {0}
Covers standing read next (d ∷ ds) =
    (bit_of read d.filename ≡ true → all_known standing next (dependencies d.definitions) ≡ true) × Covers standing read next ds

-- `reach`: the same, though documents that were read before are not read again
pub record Reaches (tree : List ℕ) (at end : ℕ) (standing read set : List ℕ) (any : Bool) (next after : List ℕ) (r : Bool) : Type 0 where
  pub adds : (ds : List Document) → Bundle ds tree at end → Room next ds → Covers standing read next ds → after ≡ reach_bits standing set ds next
  pub still : r ≡ false → (any ≡ false) × (after ≡ next)

-- `needed`: an empty set that has room becomes that of the books needed; `files`: the numbers of those that stand
pub record Needs (tree : List ℕ) (end : ℕ) (standing read set after : List ℕ) : Type 0 where
  pub needs : (files : List ℕ) → SetIs standing files → (root : Document) (others : List Document) → Bundle (root ∷ others) tree 0 end
      → Distinct (root ∷ others) → Room set (root ∷ others) → SetIs set [] → SetIs read [] → SetIs after (needed files root others)

-- `missing`: row 6, by the sets of the books needed and of those there
pub record Misses (set present : List ℕ) (r : Found) : Type 0 where
  pub misses : (ds : List Document) (numbers : List ℕ) → Ascends 0 numbers → Below set_size numbers → SetIs set numbers → SetIs present (files ds)
      → r ≡ found_of (missing ds numbers)

-- the place of a file's document among those from a place on; the end where there is none
abbrev pub place_of : ℕ → ℕ → List Document → ℕ
place_of n i [] = i
place_of n i (d ∷ ds) = cond (eqb d.filename n) i (place_of n (i + size_doc d) ds)

pub record FindsDocument (tree : List ℕ) (at end n r : ℕ) : Type 0 where
  pub inside : r ≤ end
  pub finds : (ds : List Document) → Bundle ds tree at end → r ≡ place_of n at ds

-- a document of a number from n on, but below a bound, that is found from a place on is found from the start: those ahead have none of these numbers
pub record Skips (tree : List ℕ) (end at n above : ℕ) : Type 0 where
  pub inside : at ≤ end
  pub skips : (m r : ℕ) → n ≤ m → m < above → FindsDocument tree at end m r → FindsDocument tree 0 end m r

-- `lower`: a bound that is no higher, still above n where it was, and not above a number there that is
pub record Lowers (above n there r : ℕ) : Type 0 where
  pub most : r ≤ above
  pub bound : n < there → r ≤ there
  pub more : n < above → n < r

-- `resumed`: the place, or the start where the number is not below the bound
pub record Resumes (n at above to bound : ℕ) : Type 0 where
  pub below : n < bound
  pub from : (tree : List ℕ) (end : ℕ) → Skips tree end at n above → Skips tree end to n bound

-- `find_document`: the place of a file's document, from where an earlier one was found, and what is known of those ahead of it
pub record FindsNext (tree : List ℕ) (end n at above to bound : ℕ) : Type 0 where
  pub finds : Skips tree end at n above → FindsDocument tree 0 end n to
  pub skips : Skips tree end at n above → Skips tree end to n bound

-- a word of area 12 for a book that waits: its file number times this; below it, in units of the next, how many records behind its document's were read;
-- below that the place of its document. Places are below 1,048,576 (row 2)
abbrev pub book_unit : ℕ
book_unit = 1099511627776

abbrev pub place_unit : ℕ
place_unit = 1048576

-- nothing is read when it is taken
abbrev pub book_word : List Document → ℕ → ℕ
book_word ds n = n * book_unit + place_of n 0 ds

abbrev pub waiting : List Document → List ℕ → List ℕ
waiting ds [] = []
waiting ds (n ∷ ns) = book_word ds n ∷ waiting ds ns

-- `take_books`: an entry for each book needed, behind those of so many that stand, where there is room for all; else the mark. With a mark set nothing changes,
-- and those that stand never do
pub record TakesBooks (tree : List ℕ) (end : ℕ) (set : List ℕ) (full stand : ℕ) (books : List ℕ) (r : Taken) (after : List ℕ) : Type 0 where
  pub marked : (full ≡ 0 → ⊥) → (r.full ≡ full) × (after ≡ books)
  pub fits : (ds : List Document) (numbers : List ℕ) → Bundle ds tree 0 end → Ascends 0 numbers → Below set_size numbers → SetIs set numbers → full ≡ 0
      → stand + length numbers ≤ entries_in 1 (length books)
      → (r ≡ taken 0 (stand + length numbers)) × (after ≡ take stand books ++ (waiting ds numbers ++ drop (stand + length numbers) books))
  pub over : (ds : List Document) (numbers : List ℕ) → Bundle ds tree 0 end → Ascends 0 numbers → Below set_size numbers → SetIs set numbers → full ≡ 0
      → stand ≤ entries_in 1 (length books) → entries_in 1 (length books) < stand + length numbers → r.full ≡ books_area
  pub named : (k : ℕ) → k < stand → get_or after k 0 ≡ get_or books k 0

-- `narrow_includes`: the includes among the definitions from a place up to the end are below `narrow_size`
pub record NarrowIncludes (tree : List ℕ) (at end : ℕ) (r : Bool) : Type 0 where
  pub below : r ≡ true → (defs : List Definition) → RunAt DefinitionAt size_d defs tree at → at + run_size size_d defs ≡ end
      → Below narrow_size (dependencies defs)

-- `narrow`: the file numbers of the documents from a place up to the end, and the numbers they include, are below `narrow_size`
pub record Narrows (tree : List ℕ) (at end : ℕ) (r : Bool) : Type 0 where
  pub below : r ≡ true → (ds : List Document) → Bundle ds tree at end → InSets narrow_size ds

-- `narrow_books`: whether numbers are all below `narrow_size`
pub record NarrowNumbers (numbers : List ℕ) (r : Bool) : Type 0 where
  pub below : r ≡ true → Below narrow_size numbers
  pub above : r ≡ false → Below narrow_size numbers → ⊥

-- `add_books`: an empty set that has room for numbers becomes theirs
pub record AddsNumbers (numbers set after : List ℕ) : Type 0 where
  pub adds : SetIs set [] → Below (length set * 64) numbers → SetIs after numbers

-- whether the includes among the definitions from a place up to the end are all in a set
pub record AllIncluded (tree : List ℕ) (at end : ℕ) (set : List ℕ) (r : Bool) : Type 0 where
  pub all : (defs : List Definition) → RunAt DefinitionAt size_d defs tree at → at + run_size size_d defs ≡ end → r ≡ all_bits set (dependencies defs)

-- the numbers of a set are in another
pub record Grows (set larger : List ℕ) : Type 0 where
  pub stays : (n : ℕ) → bit_of set n ≡ true → bit_of larger n ≡ true

-- the includes from a place up to another are all in a set: whether all up to the end are, in it or in a larger one, is asked from there on
pub record ReadTo (tree : List ℕ) (at to end : ℕ) (set : List ℕ) : Type 0 where
  pub on : (larger : List ℕ) (r : Bool) → Grows set larger → AllIncluded tree to end larger r → AllIncluded tree at end larger r

-- `first_uncompiled`: the place of the first include from a place on that is not in a set, or the end
pub record FirstUncompiled (tree : List ℕ) (at end : ℕ) (set : List ℕ) (r : ℕ) : Type 0 where
  pub later : at ≤ r
  pub read : ReadTo tree at r end set
  pub all : end ≤ r → AllIncluded tree at end set true
  pub not_all : r < end → AllIncluded tree at end set false

-- the word of a book that waits: what was read of it are includes of compiled books, and other definitions
pub record Waits (ds : List Document) (tree : List ℕ) (end : ℕ) (set : List ℕ) (n w : ℕ) : Type 0 where
  pub number : w / book_unit ≡ n
  pub place : w % place_unit ≡ place_of n 0 ds
  pub read : ReadTo tree (place_of n 0 ds + 1) (place_of n 0 ds + 1 + w / place_unit % place_unit) (skip_c tree (place_of n 0 ds) end) set

-- those of several, one for each
abbrev pub AllWait : List Document → List ℕ → ℕ → List ℕ → List ℕ → List ℕ → Type 0
AllWait ds tree end set [] [] = Unit {0}
AllWait ds tree end set [] (w ∷ ws) = ⊥
AllWait ds tree end set (n ∷ ns) [] = ⊥
AllWait ds tree end set (n ∷ ns) (w ∷ ws) = Waits ds tree end set n w × AllWait ds tree end set ns ws

-- where the work stands when the next book is looked for: in area 12 the file numbers of the books done, the words of those that are left, and the rest; of the
-- books that are left all are there; and the set of those compiled, which has room for the others
pub record Stands (ds : List Document) (tree : List ℕ) (end : ℕ) (done left rest books set compiled : List ℕ) : Type 0 where
  pub bundle : Bundle ds tree 0 end
  pub limit : end ≤ most_records
  pub there : missing ds left ≡ none
  pub words : List ℕ
  pub area : books ≡ done ++ (words ++ rest)
  pub waits : AllWait ds tree end set left words
  pub held : SetIs set compiled
  pub room : Room set ds

-- `next_ready`: the book at entry r of area 12 is the next; how far the books ahead of it were read is written down
pub record Ready (ds : List Document) (tree : List ℕ) (end : ℕ) (files left rest after set compiled : List ℕ) (r : ℕ) : Type 0 where
  pub book : Document
  pub is : ready ds compiled left ≡ some book
  pub file : entry_field 1 r 0 after / book_unit ≡ book.filename
  pub document : DocumentAt book tree (entry_field 1 r 0 after % place_unit)
  pub inside : entry_field 1 r 0 after % place_unit + size_doc book ≤ end
  pub before : List ℕ
  pub later : List ℕ
  pub split : left ≡ before ++ (book.filename ∷ later)
  pub index : r ≡ length files + length before
  pub stands : Stands ds tree end files left rest after set compiled

pub record NoneReady (ds : List Document) (tree : List ℕ) (end : ℕ) (files left rest after set compiled : List ℕ) : Type 0 where
  pub is : ready ds compiled left ≡ none
  pub stands : Stands ds tree end files left rest after set compiled

pub record FindsReady (tree : List ℕ) (end done count : ℕ) (set books : List ℕ) (r : ℕ) (after : List ℕ) : Type 0 where
  pub found : (ds : List Document) (files left rest compiled : List ℕ) → Stands ds tree end files left rest books set compiled → done ≡ length files
      → count ≡ done + length left → r < count → Ready ds tree end files left rest after set compiled r
  pub nothing : (ds : List Document) (files left rest compiled : List ℕ) → Stands ds tree end files left rest books set compiled → done ≡ length files
      → count ≡ done + length left → count ≤ r → NoneReady ds tree end files left rest after set compiled

-- `move_to_front`: a number in the place of entry `done`, the entries from there up to entry k one further; that of k goes
pub record Brings (books : List ℕ) (done k file : ℕ) (after : List ℕ) : Type 0 where
  pub brings : (files before later : List ℕ) (word : ℕ) → books ≡ files ++ (before ++ (word ∷ later)) → done ≡ length files → k ≡ done + length before
      → after ≡ files ++ (file ∷ (before ++ later))
