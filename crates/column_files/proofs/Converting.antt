-- The two converters, one law for each way through the code. Assumes nothing.
use Prim.Native.Nat.{ℕ, ◌+◌, ◌-◌, ◌*◌, ◌/◌, ◌%◌, ◌≤◌, ◌<◌}
use native.Mathlib.Omega.{arith}
use mathlib.Core.Path.{◌≡◌, refl, sym, ap, ◌∙◌}
use mathlib.Core.Bool.{Bool, true, false, cond}
use mathlib.Core.List.{List, ◌++◌, append-nil}
use lib.ListN.{length, take, drop, get_or, replicate}
use lib.Seq.{get_or-drop, take_at}
use lib.Dec.{eqb, leb}
use borrow.Author.Tests.{eq-eqb, le-leb, lt-leb}
use borrow.Rule.Slice.PartMut.{mid_of, put_mid, Post-is, mid_len}
use Rattle.words.specs.declared.row.Row.TheVariants.{BadLine, AreaFull}
use Rattle.tree.specs.Check.{refused}
use Rattle.std.specs.Prelude.{Result, Ok, Err}
use Rattle.words.specs.Row.{row_number}
use Rattle.words.specs.declared.row.Refused.{Refused}
use Rattle.words.specs.Areas.{Written, cleared_from}
use Rattle.tree.specs.Check.{shape_of}
use Rattle.column_lines.specs.Form.{line_length}
use Rattle.column_lines.specs.Line.{read_line, record_line, LineWrote}
use Rattle.words.specs.declared.node.Record.{Record}
use Rattle.std.specs.Prelude.{Option, None}
use Rattle.column_lines.proofs.Lines.{Begun, begun_more, line_size_lem}
use Rattle.column_files.specs.declared.Converted.{Converted}
use Rattle.column_files.specs.Files.{lines_in, words_in, words_by, words_of, bad_by, first_bad, row_one, lines_by, columns_of, Lent, LinesRead}
use Rattle.column_files.specs.Convert.{Conversion, success, refuse, reply_of, short_reply}
use Rattle.column_files.specs.Convert.{answer_by, columns_to_records, records_to_columns, kept_of, Stands, Converts}
use Rattle.column_files.proofs.Files.{line_of, words_in_lem, words_length, words_more, lines_more, lines_length, bad_here, row_one_at, row_one_end}

-- a record's line is put in its place
pub record_put : (tree out : List ℕ) (at : ℕ) {part : List ℕ} {r : Bool} → (at + 1) * line_length ≤ length out
    → LineWrote (get_or tree (at * 4) 0) (get_or tree (at * 4 + 1) 0) (get_or tree (at * 4 + 2) 0) (get_or tree (at * 4 + 3) 0)
    (mid_of (at * line_length) (at * line_length + line_length - at * line_length) out) part r
    → Lent (lines_by 1 (drop (at * 4) tree)) (at * line_length) (at * line_length + line_length) out
    (put_mid (at * line_length) (at * line_length + line_length - at * line_length) out part)
unfolding lines_by
record_put tree out at {part} {r} h w =
    let n : length (mid_of (at * line_length) (at * line_length + line_length - at * line_length) out) ≡ line_length = mid_len (at * line_length)
    (at * line_length + line_length) out (omega arith) ∙ omega arith in
    let t : eqb (length (mid_of (at * line_length) (at * line_length + line_length - at * line_length) out)) line_length ≡ true = eq-eqb _ line_length n in
    let b : part ≡ record_line (get_or tree (at * 4) 0) (get_or tree (at * 4 + 1) 0) (get_or tree (at * 4 + 2) 0) (get_or tree (at * 4 + 3) 0) = simp t at
    w.bytes in
    let z : at * 4 + 0 ≡ at * 4 = omega arith in
    record { is = rw (b, Post-is (at * line_length) (at * line_length + line_length) out (omega arith)) (simp (get_or-drop, z, append-nil)) }

-- a line's words are put in its record's place
pub words_put : (file out : List ℕ) (at : ℕ) {l : Option Record} {after : List ℕ} {r : Bool} → (at + 1) * 4 ≤ length out → l ≡ read_line (line_of at file)
    → Written 4 at (words_in l) out after r → Lent (words_in (read_line (line_of at file))) (at * 4) (at * 4 + 4) out after
words_put file out at {l} {after} {r} h L w =
    let t : leb (at * 4 + 4) (length out) ≡ true = le-leb (at * 4 + 4) (length out) (omega arith) in
    let b : after ≡ take (at * 4) out ++ (words_in l ++ drop (at * 4 + 4) out) = simp t at w.words in
    record { is = rw (← L) b }

-- one after the other

pub records_begun : (tree out : List ℕ) → Begun (lines_by 0 tree) out out (0 * line_length)
unfolding lines_by
records_begun tree out = record { long = refl; rest = refl }

pub lines_begun : (file out : List ℕ) → Begun (words_by 0 file) out out (0 * 4)
unfolding words_by
lines_begun file out = record { long = refl; rest = refl }

line_long : (w : List ℕ) → length (lines_by 1 w) ≡ line_length
unfolding lines_by
line_long w =
    ap length (append-nil (record_line (get_or w 0 0) (get_or w 1 0) (get_or w 2 0) (get_or w 3 0)))
    ∙ line_size_lem (get_or w 0 0) (get_or w 1 0) (get_or w 2 0) (get_or w 3 0)

pub records_more : (tree before out after : List ℕ) (i : ℕ) → Begun (lines_by i tree) before out (i * line_length)
    → Lent (lines_by 1 (drop (i * 4) tree)) (i * line_length) (i * line_length + line_length) out after
    → Begun (lines_by (i + 1) tree) before after ((i + 1) * line_length)
records_more tree before out after i b l =
    let e : i * line_length + line_length ≡ (i + 1) * line_length = omega arith in
    let n : length (lines_by 1 (drop (i * 4) tree)) ≡ i * line_length + line_length - i * line_length = line_long (drop (i * 4) tree) ∙ omega arith in
    rw (lines_more i tree, ← e) (begun_more (lines_by i tree) before out _ after (i * line_length) (i * line_length + line_length) b n (omega arith) l.is)

pub lines_next : (file before out after : List ℕ) (i : ℕ) → Begun (words_by i file) before out (i * 4)
    → Lent (words_in (read_line (line_of i file))) (i * 4) (i * 4 + 4) out after → Begun (words_by (i + 1) file) before after ((i + 1) * 4)
lines_next file before out after i b l =
    let e : i * 4 + 4 ≡ (i + 1) * 4 = omega arith in
    let n : length (words_in (read_line (line_of i file))) ≡ i * 4 + 4 - i * 4 = words_in_lem (read_line (line_of i file)) ∙ omega arith in
    rw (words_more i file, ← e) (begun_more (words_by i file) before out _ after (i * 4) (i * 4 + 4) b n (omega arith) l.is)

pub records_all : (tree before out : List ℕ) (i n : ℕ) → Begun (lines_by i tree) before out (i * line_length) → i ≡ n
    → out ≡ lines_by n tree ++ drop (n * line_length) before
records_all tree before out i n b e = b.rest ∙ ap (λ (k : ℕ). lines_by k tree ++ drop (k * line_length) before) e

-- reading ends at a bad line, or after the last
module _ (file before out : List ℕ) (i : ℕ) (B : first_bad file ≡ bad_by (lines_in file - i) (i + 1) (drop (i * line_length) file)) where
  pub lines_bad : {l : Option Record} → i < lines_in file → l ≡ read_line (line_of i file) → l ≡ None → LinesRead file before out (refused BadLine (i + 1))
  lines_bad h L e = record { first = row_one_at file i (B ∙ bad_here file i h L e ∙ omega arith); words = λ z. cc }

  pub lines_end : {r : Result (Unit {0}) Refused} → Begun (words_by i file) before out (i * 4) → lines_in file ≤ i → i ≤ lines_in file
      → r ≡ cond (eqb (length file % line_length) 0) (Ok tt) (refused BadLine (lines_in file + 1)) → LinesRead file before out r
  lines_end b h l e =
      let n : i ≡ lines_in file = omega arith in
      record { first = e ∙ row_one_end file i B h l; words = λ _. b.rest ∙ ap (λ (k : ℕ). words_by k file ++ drop (k * 4) before) n }

-- what is cleared

pub cleared_all : (w : List ℕ) (room : ℕ) → length w ≡ room → cleared_from 0 w ≡ replicate room 0
cleared_all w room e = ap (λ (n : ℕ). replicate n 0) (let x : length w - 0 ≡ room = omega (arith, e) in x)

pub cleared_rest : (c d mid : List ℕ) (k room : ℕ) → mid ≡ c ++ d → length c ≡ k → length mid ≡ room
    → cleared_from k mid ≡ c ++ replicate (room - length c) 0
cleared_rest c d mid k room m l n =
    let t : take k mid ≡ c = rw m (take_at c d k l) in
    let x : length mid - k ≡ room - length c = omega (arith, l, n) in
    rw (t, x)

-- the answers after row 1

pub answer_short : (s : Result (Unit {0}) Refused) (c : List ℕ) (n room : ℕ) {after : List ℕ} {r : Converted} → room < length c → after ≡ replicate room 0
    → r ≡ short_reply s
    → Converts (answer_by s c n room) after r
unfolding answer_by short_reply
answer_short (Err found) c n room l a e = record { reply = e; output = a }
answer_short (Ok u) c n room l a e =
    let t : leb (length c) room ≡ false = lt-leb (length c) room l in
    rw t (record { reply = e; output = a })

pub answer_done : (s : Result (Unit {0}) Refused) (c : List ℕ) (n room : ℕ) {after : List ℕ} → s ≡ Ok tt → length c ≤ room
    → after ≡ c ++ replicate (room - length c) 0
    → Converts (answer_by s c n room) after (success n)
unfolding answer_by
answer_done s c n room e l a =
    let t : leb (length c) room ≡ true = le-leb (length c) room l in
    rw (e, t) (record { reply = refl; output = a })

-- what stands, by what a conversion answers

pub stands_short : (s : Result (Unit {0}) Refused) (c : List ℕ) (n room : ℕ) → s ≡ Ok tt → room < length c → answer_by s c n room ≡ refuse 9 0 room
unfolding answer_by
stands_short s c n room e l = let t : leb (length c) room ≡ false = lt-leb (length c) room l in rw (e, t)

pub stands_off : (s : Result (Unit {0}) Refused) (c : List ℕ) (n room : ℕ) {found : Refused} → s ≡ Err found
    → answer_by s c n room ≡ refuse (row_number found.row) found.place room
unfolding answer_by
stands_off s c n room e = rw e

pub stands_whole : (s : Result (Unit {0}) Refused) (c d mid : List ℕ) (n width : ℕ) → s ≡ Ok tt → length c ≡ n * width → length c ≤ length mid → mid ≡ c ++ d
    → Stands width (answer_by s c n (length mid)) mid (Ok n)
unfolding answer_by
stands_whole s c d mid n width e k l m =
    let t : leb (length c) (length mid) ≡ true = le-leb (length c) (length mid) l in
    let x : c ++ replicate (length mid - length c) 0 ≡ cleared_from (n * width) mid = sym (cleared_rest c d mid (n * width) (length mid) m k refl) in
    (omega (arith, k, l), rw (e, t) (ap (λ (o : List ℕ). record { reply = success n; output = o }) x))

-- zeros after what stands
pub finished : (width : ℕ) (c : Conversion) (mid : List ℕ) (r : Result ℕ Refused) {kept : ℕ} {after : List ℕ} {reply : Converted} → Stands width c mid r
    → kept ≡ kept_of width r → after ≡ cleared_from kept mid → reply ≡ reply_of r → Converts c after reply
finished width c mid (Ok n) s k a e = rw s.1 (record { reply = e; output = a ∙ rw k })
finished width c mid (Err found) s k a e = rw s (record { reply = e; output = a ∙ rw k (cleared_all mid (length mid) refl) })

-- records to columns

module _ (tree out : List ℕ) where
  long : length (columns_of tree) ≡ length tree / 4 * line_length
  long = lines_length (length tree / 4) tree

  pub columns_refused : {found : Refused} → shape_of tree ≡ Err found → Stands line_length (records_to_columns tree (length out)) out (Err found)
  unfolding records_to_columns
  columns_refused e = stands_off (shape_of tree) (columns_of tree) (length tree / 4) (length out) e

  pub columns_short : {found : Refused} → shape_of tree ≡ Ok tt → length out / line_length < length tree / 4 → found ≡ record { row = AreaFull; place = 0 }
      → Stands line_length (records_to_columns tree (length out)) out (Err found)
  unfolding records_to_columns
  columns_short e h f = rw f (stands_short (shape_of tree) (columns_of tree) (length tree / 4) (length out) e (omega (arith, long)))

  pub columns_done : (mid : List ℕ) → shape_of tree ≡ Ok tt → length tree / 4 ≤ length out / line_length → length mid ≡ length out
      → mid ≡ lines_by (length tree / 4) tree ++ drop (length tree / 4 * line_length) out
      → Stands line_length (records_to_columns tree (length out)) mid (Ok (length tree / 4))
  unfolding records_to_columns
  columns_done mid e h n m =
      rw (← n) (stands_whole (shape_of tree) (columns_of tree) _ mid (length tree / 4) line_length e long (omega (arith, long, n)) m)

-- columns to records

module _ (file mid : List ℕ) (room : ℕ) (n : length mid ≡ room) where
  size : length (words_of file) ≡ lines_in file * 4
  size = words_length (lines_in file) file

  pub words_bad : {found : Refused} → row_one file ≡ Err found → Stands 4 (columns_to_records file room) mid (Err found)
  unfolding columns_to_records
  words_bad {found} e = rw n (go (eqb (first_bad file) 0) e)
    where
      go : (t : Bool) → cond t (Ok (tt {0})) (refused BadLine (first_bad file)) ≡ Err found
          → cond t (answer_by (shape_of (words_of file)) (words_of file) (lines_in file) room) (refuse 1 (first_bad file) room)
          ≡ refuse (row_number found.row) found.place room
      go true x = cc
      go false x = let f : record { row = BadLine; place = first_bad file } ≡ found = cc in rw (← f)

  module _ (good : first_bad file ≡ 0) where
    passed : (r : Result ℕ Refused) → Stands 4 (answer_by (shape_of (words_of file)) (words_of file) (lines_in file) room) mid r
        → Stands 4 (columns_to_records file room) mid r
    unfolding columns_to_records
    passed r x = let t : eqb (first_bad file) 0 ≡ true = eq-eqb (first_bad file) 0 good in rw t x

    pub words_refused : {found : Refused} → shape_of (words_of file) ≡ Err found → Stands 4 (columns_to_records file room) mid (Err found)
    words_refused {found} e = passed (Err found) (rw n (stands_off (shape_of (words_of file)) (words_of file) (lines_in file) room e))

    pub words_short : {found : Refused} → shape_of (words_of file) ≡ Ok tt → room / 4 < lines_in file → found ≡ record { row = AreaFull; place = 0 }
        → Stands 4 (columns_to_records file room) mid (Err found)
    words_short {found} e h f = passed (Err found)
        (rw (f, n) (stands_short (shape_of (words_of file)) (words_of file) (lines_in file) room e (omega (arith, size))))

    pub words_done : (rest : List ℕ) → shape_of (words_of file) ≡ Ok tt → lines_in file ≤ room / 4 → mid ≡ words_of file ++ rest
        → Stands 4 (columns_to_records file room) mid (Ok (lines_in file))
    words_done rest e h m =
        passed (Ok (lines_in file)) (rw (← n)
        (stands_whole (shape_of (words_of file)) (words_of file) rest mid (lines_in file) 4 e size (omega (arith, size, n)) m))

-- the words of the whole file, at the head of what stands
pub words_checked : (file rest mid : List ℕ) → mid ≡ words_of file ++ rest → shape_of (take (lines_in file * 4) mid) ≡ shape_of (words_of file)
words_checked file rest mid m = ap shape_of (rw m (take_at (words_of file) rest (lines_in file * 4) (words_length (lines_in file) file)))
