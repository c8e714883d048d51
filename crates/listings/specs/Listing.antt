-- 01's listing of a reply and the areas: its lines, its text, and what `write` answers. 'An output too short for .. the listing, or a number wider than its
-- listing field, then gives 9, place 0, output all zero'
use Rattle.std.specs.Prelude.{Ok}
use Rattle.std.specs.Prelude.{ℕ, cond, ◌≡◌, List, [], ◌∷◌, ◌++◌, length, eqb}
use Rattle.words.specs.Areas.{cleared_from}
use Rattle.words.specs.declared.reply.Reply.{Reply}
use Rattle.words.specs.declared.reply.Totals.{Totals}
use Rattle.column_files.specs.Convert.{Conversion, answer_by, refuse, success, refusal}
use Rattle.column_files.specs.declared.Converted.{Converted}
use Rattle.line_writer.specs.Placed.{Placed}
use Rattle.line_writer.specs.declared.writer.Fields.{Fields}
use Rattle.listings.specs.Lines.{text_of, all_fit}
use Rattle.listings.specs.Sections.{refusal_line, totals_line, section, each, function_code, methods, errors_in, lists_errors}
use Rattle.listings.specs.declared.LentAreas.{LentAreas}
use Rattle.listings.specs.declared.lines.Section.TheVariants.{Functions, Constants, Models, Properties, ContextValues, Globals, Files, Errors}

-- the words of a program's areas that are listed
pub record Areas : Type 0 where
  pub code : List ℕ
  pub constants : List ℕ
  pub functions : List ℕ
  pub models : List ℕ
  pub properties : List ℕ
  pub methods : List ℕ
  pub locals : List ℕ
  pub books : List ℕ

abbrev pub areas : (code constants functions models properties methods locals books : List ℕ) → Areas
areas c k f m p t l o = record {
  code = c;
  constants = k;
  functions = f;
  models = m;
  properties = p;
  methods = t;
  locals = l;
  books = o;
}

-- those of areas that are lent
abbrev pub areas_of : LentAreas → Areas
areas_of a = areas a.code.now a.constants.now a.functions.now a.models.now a.properties.now a.methods.now a.locals.now a.books.now

-- a delivery: sections 1 to 10
unfoldable pub delivery_lines : Totals → Areas → List Fields
delivery_lines t a =
    totals_line t ∷ (section Functions a.functions t.functions ++ (each (λ i. function_code a.functions a.code i) t.functions
    ++ (section Constants a.constants t.constants ++ (section Models a.models t.models
    ++ (section Properties a.properties t.properties ++ (methods a.methods t.methods
    ++ (section ContextValues a.locals t.context_locals ++ (section Globals a.constants t.constants
    ++ section Files a.books t.books))))))))

-- a refusal: section 0, 'followed by 11s alone', after rows 7 and 8
unfoldable pub refusal_lines : Reply → List ℕ → List Fields
refusal_lines r errors = refusal_line r ∷ cond (lists_errors r.number) (section Errors errors (errors_in errors)) []

abbrev pub listing_lines : Reply → Areas → (errors : List ℕ) → List Fields
listing_lines r a errors = cond (eqb r.number 0) (delivery_lines r.totals a) (refusal_lines r errors)

-- lines in an output of `room` bytes: their text, zeros after it, and how many bytes; or 9, place 0, and zeros
unfoldable pub printed : List Fields → ℕ → Conversion
printed ls room = cond (all_fit ls) (answer_by (Ok tt) (text_of ls) (length (text_of ls)) room) (refuse 9 0 room)

unfoldable pub listing : Reply → Areas → (errors : List ℕ) → (room : ℕ) → Conversion
listing r a errors room = printed (listing_lines r a errors) room

-- what a place in an output becomes: the reply, and zeros after it, or everywhere
pub record Finishes (m : Placed) (after : List ℕ) (r : Converted) : Type 0 where
  pub reply : r ≡ cond m.fits (success m.offset) (refusal 9 0)
  pub output : after ≡ cleared_from (cond m.fits m.offset 0) m.bytes
