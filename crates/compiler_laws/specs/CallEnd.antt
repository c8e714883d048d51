-- What the last routines promise: `finish` of the areas that the work left, `run` of areas of zeros
-- Private contracts alone cite this file: whoever reads the promises need not believe it
use Rattle.std.specs.Prelude.{ℕ, ◌-◌, ◌≡◌, Bool, true, false, cond, not, List, ltb}
use Rattle.words.specs.declared.reply.Totals.{Totals}
use Rattle.words.specs.declared.reply.Reply as struct
use Rattle.words.specs.Reply.{no_totals, delivery, refusal}
use Rattle.compiler_laws.specs.declared.book.Book as book
use Rattle.compiler_laws.specs.BooksInOrder.{Zero, Cleared, Emptied, MarkedFrom}
use Rattle.definition.specs.Uses.{first_not_public}
use Rattle.definition.specs.Trial.{Order, Lay, Trial, Commit, line_one, same_numbers}
use Rattle.definition.specs.Promise.{areas, saying, Compiles}

-- the totals of a delivery
abbrev pub totals : book.Book → ℕ → ℕ → ℕ → Totals
totals s books globals bundles = record {
  code = s.code;
  constants = s.constants;
  functions = s.functions;
  models = s.models;
  properties = s.properties;
  methods = s.methods;
  context_locals = s.locals;
  public_names = s.publics;
  scope_names = 0;
  breaks = 0;
  errors = 0;
  books = books;
  entry_point = s.entry_point;
  global_dependencies = globals;
  bundles = bundles;
}

-- a row's number and place, with the totals of a program that stays as it was
abbrev pub refusal_with : Totals → ℕ → ℕ → struct.Reply
refusal_with t row place = record { number = row; place = place; totals = t }

-- `refused_by`: a mark below 16 is an area's, row 9; from there on it is an include's, row 11 (specs/Uses.antt of `definition`)
abbrev pub mark_refusal_with : Totals → ℕ → struct.Reply
mark_refusal_with t full = cond (ltb full first_not_public) (refusal_with t 9 full) (refusal_with t 11 (full - first_not_public))

abbrev pub mark_refusal : ℕ → struct.Reply
mark_refusal full = mark_refusal_with no_totals full

-- the end of a call on a program, by its order (2026-08): a trial gives the program back, and so does a commit whose trial had another of line 1's totals
unfoldable pub is_trial : Order → Bool
is_trial Lay = false
is_trial Trial = true
is_trial (Commit t) = false

unfoldable pub differs : Order → Totals → Bool
differs Lay t = false
differs Trial t = false
differs (Commit c) t = not (same_numbers (line_one c.reply) (line_one (saying (delivery t))))

-- `finish`: after a full area all is cleared; after a row all but the errors; else the areas stay, and the reply has their totals
pub record Finishes (s : book.Book) (row place : ℕ) (c k f m p t l u n b e o c'' k'' f'' m'' p'' t'' l'' u'' n'' b'' e'' o'' : List ℕ) (r : struct.Reply) : Type
    0 where
  pub full : (s.full ≡ 0 → ⊥) → Emptied c'' k'' f'' m'' p'' t'' l'' u'' n'' b'' o'' × (Zero e'' × (r ≡ mark_refusal s.full))
  pub refused : s.full ≡ 0 → (row ≡ 0 → ⊥) → Emptied c'' k'' f'' m'' p'' t'' l'' u'' n'' b'' o'' × ((e'' ≡ e) × (r ≡ refusal row place))
  pub whole : s.full ≡ 0 → row ≡ 0 → (areas c'' k'' f'' m'' p'' t'' l'' u'' n'' b'' e'' o'' ≡ areas c k f m p t l u n b e o)
      × ((globals : ℕ) × (MarkedFrom k 0 s.constants 0 globals × (r ≡ delivery (totals s place globals 1))))

-- `run`: from areas of zeros, what the call promises
pub record Runs (strict : Bool) (tree c k f m p t l u n b e o c'' k'' f'' m'' p'' t'' l'' u'' n'' b'' e'' o'' : List ℕ) (r : struct.Reply) : Type 0 where
  pub runs : Cleared c k f m p t l u n b e o → Compiles strict tree (areas c k f m p t l u n b e o) (areas c'' k'' f'' m'' p'' t'' l'' u'' n'' b'' e'' o'') r
