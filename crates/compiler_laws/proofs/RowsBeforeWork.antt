-- Rows 2 to 6, one lemma for each way: what the routines found is what the definition's `answer` asks, one after the other. Assumes nothing.
use mathlib.Core.Bool.{Bool}
use Prim.Native.Nat.{ℕ, ◌-◌, ◌*◌, ◌/◌}
use native.Mathlib.Omega.{arith}
use mathlib.Core.Path.{◌≡◌, refl, sym, ap, subst, ◌∙◌}
use mathlib.Core.Option.{Option, none, some}
use mathlib.Core.List.{List, [], ◌∷◌}
use lib.ListN.{length, replicate, length-replicate}
use Rattle.std.specs.Prelude.{Result, Ok, Err}
use Rattle.words.specs.Row.{row_number}
use Rattle.words.specs.declared.row.Refused.{Refused}
use Rattle.words.specs.Ast.{Document}
use Rattle.words.specs.Areas.{cleared_from}
use Rattle.tree.specs.Check.{shape_of}
use Rattle.tree.specs.Reading.{documents_of}
use Rattle.definition.specs.Book.{Context, new_context}
use Rattle.definition.specs.DependencySolver.{loaded_of, needed, missing, compile_needed}
use Rattle.definition.specs.Answer.{Refusal, answer_needed, answer_bundle, answer_worked, answer_from, answer}
use Rattle.definition.specs.Answer.{twice, document_places, limits_of}
use Rattle.std.specs.Prelude.{Some, None}
use Rattle.building.specs.Found.{Found, found_of}
use Rattle.compiler_laws.specs.FileSets.{SetIs}
use Rattle.compiler_laws.specs.SolverSteps.{InSets, Bundle, Room, Distinct, Twice, FindsTwice, Needs, Misses}
use Rattle.compiler_laws.specs.BooksInOrder.{Fresh, Accepted, FrontRows, ChecksRows}
use Rattle.definition_laws.proofs.Answer.{ShapeRow, fine, refused, shape_row}
use Rattle.compiler_laws.proofs.BundleRange.{fine_bundle, fine_root}
use Rattle.compiler_laws.proofs.BooksNeeded.{set_empty, needed_ascends, needed_below}
use Rattle.definition_laws.proofs.Promise.{no_row}

found_none : (o : Option ℕ) → None ≡ found_of o → o ≡ none
found_none none h = refl
found_none (some i) h = absurd (let z : ◌≡◌ {A = ℕ} 0 1 = cc in omega arith)

found_some : (o : Option ℕ) (i : ℕ) → Some i ≡ found_of o → o ≡ some i
found_some none i h = absurd (let z : ◌≡◌ {A = ℕ} 0 1 = cc in omega arith)
found_some (some j) i h = let same : i ≡ j = cc in ap some (sym same)

-- rows 2 to 4
shape_number : {x : Result (Unit {0}) Refused} → ShapeRow x → (found : Refused) → x ≡ Err found → row_number found.row ≡ 0 → ⊥
shape_number fine found h z = absurd (let y : ◌≡◌ {A = ℕ} 0 1 = cc in omega arith)
shape_number (refused other x) found h z = let same : other ≡ found = cc in no_row x (ap (λ (f : Refused). row_number f.row) same ∙ z)

pub front_shape : (tree standing set : List ℕ) {number : ℕ} {found : Refused} {x : Result (Unit {0}) Refused} → x ≡ shape_of tree → x ≡ Err found
    → number ≡ row_number found.row → ChecksRows tree standing number found.place set
unfolding answer_from
front_shape tree standing set {found = found} q h n = record {
  rows = λ files s. record {
    refused = λ ne c l lengths. rw (sym q ∙ h, n);
    accepted = λ z. absurd (shape_number (shape_row tree) found (sym q ∙ h) (sym n ∙ z));
  };
}

-- of a fresh call
pub fresh_refused : {tree : List ℕ} {row place : ℕ} {set : List ℕ} → FrontRows tree row place set [] → (row ≡ 0 → ⊥) → (strict : Bool) (lengths : List ℕ)
    → answer strict tree lengths ≡ Refusal row place []
unfolding answer answer_from
fresh_refused F ne strict lengths = F.refused ne (new_context strict) refl lengths

pub fresh_answers : {tree set : List ℕ} {root : Document} {others : List Document} → Accepted tree set [] root others → (strict : Bool) (lengths : List ℕ)
    → answer strict tree lengths ≡ answer_worked (limits_of lengths) (compile_needed (needed [] root others) (root ∷ others) (new_context strict))
unfolding answer answer_from
fresh_answers A strict lengths = A.answers (new_context strict) refl lengths

-- zeros with a bit for each number
pub fresh_zeros : (tree : List ℕ) (k : ℕ) → ((ds : List Document) → Bundle ds tree 0 (length tree / 4) → InSets (k * 64) ds) → Fresh tree (replicate k 0)
fresh_zeros tree k h =
    let long : length (replicate {A = ℕ} k 0) ≡ k = length-replicate {A = ℕ} k 0 in
    record { empty = ap (λ (n : ℕ). replicate n 0) (sym long); room = λ ds b. rw long (h ds b) }

-- fine words
module _ (tree : List ℕ) {x : Result (Unit {0}) Refused} (Shape-is : x ≡ shape_of tree) (fine_is : x ≡ Ok tt) {end : ℕ} (end_is : end ≡ length tree / 4)
    {chosen₀ present present' : List ℕ} {r : Found} (fresh : Fresh tree chosen₀) (same : present ≡ chosen₀) (F : FindsTwice tree end present r present') where
  is_fine : shape_of tree ≡ Ok tt
  is_fine = sym Shape-is ∙ fine_is

  bundle : Bundle (documents_of tree) tree 0 end
  bundle = rw end_is (fine_bundle tree is_fine)

  empty : SetIs chosen₀ []
  empty = rw fresh.empty (set_empty (length chosen₀))

  room : (ds : List Document) → Bundle ds tree 0 end → Room chosen₀ ds
  room ds b = fresh.room ds (rw end_is at b)

  finds : (ds : List Document) → Bundle ds tree 0 end → Twice tree end ds r present'
  finds ds b = F.finds ds b (rw same (room ds b)) (rw same empty)

  pub front_twice : (standing set : List ℕ) {i : ℕ} → r ≡ Some i → ChecksRows tree standing 5 i set
  unfolding answer_from
  front_twice standing set {i} at = record {
    rows = λ files s. record {
      refused = λ ne c l lengths. rw (
        is_fine,
        found_some (twice [] tree (document_places tree)) i (sym at ∙ (finds (documents_of tree) bundle).answer end_is),
      );
      accepted = λ z. absurd (omega arith);
    };
  }

  -- the set of the file numbers is lent to `needed`, and made again after it
  module _ (none-twice : r ≡ None) {standing read again files' set : List ℕ} {r' m : Found} (read_is : read ≡ cleared_from 0 present')
      (N : Needs tree end standing read chosen₀ set) (kept : length set ≡ length chosen₀)
      (again-is : again ≡ replicate (length chosen₀) 0) (F' : FindsTwice tree end again r' files') (M : Misses set files' m) where
    again_long : length again ≡ length chosen₀
    again_long = ap length again-is ∙ length-replicate {A = ℕ} (length chosen₀) 0

    finds_again : (ds : List Document) → Bundle ds tree 0 end → Twice tree end ds r' files'
    finds_again ds b = F'.finds ds b (rw again_long (room ds b)) (rw again-is (set_empty (length chosen₀)))

    none_again : r' ≡ None
    none_again = (finds_again (documents_of tree) bundle).answer end_is ∙ sym ((finds (documents_of tree) bundle).answer end_is) ∙ none-twice

    once : twice [] tree (document_places tree) ≡ none
    once = found_none (twice [] tree (document_places tree)) (sym none-twice ∙ (finds (documents_of tree) bundle).answer end_is)

    module _ (files : List ℕ) (stands : SetIs standing files) (root : Document) (others : List Document) (documents : documents_of tree ≡ root ∷ others) where
      abbrev numbers : List ℕ
      numbers = needed files root others

      bundled : Bundle (root ∷ others) tree 0 end
      bundled = rw documents at bundle

      distinct : Distinct (root ∷ others)
      distinct = (finds (root ∷ others) bundled).distinct none-twice

      chosen : SetIs set numbers
      chosen = N.needs files stands root others bundled distinct (room (root ∷ others) bundled) empty (rw read_is (set_empty (length present' - 0)))

      absent : m ≡ found_of (missing (root ∷ others) numbers)
      absent =
          M.misses (root ∷ others) numbers (needed_ascends files root others) (needed_below files root others bundled.numbers) chosen
          ((finds_again (root ∷ others) bundled).present none_again)

      so_far : (c : Context) → loaded_of c ≡ files → (lengths : List ℕ)
          → answer_from c tree lengths ≡ answer_needed (missing (root ∷ others) numbers) numbers (root ∷ others) (limits_of lengths) c
      unfolding answer_from answer_bundle
      so_far c loaded lengths = rw (is_fine, once, documents, loaded)

      no_root : {y : ℕ} → m ≡ Some y → FrontRows tree 6 y set files
      no_root {y} at = record {
        refused = λ ne c loaded lengths. so_far c loaded lengths ∙ rw (found_some (missing (root ∷ others) numbers) y (sym at ∙ absent));
        accepted = λ z. absurd (omega arith);
      }

      all_there : m ≡ None → FrontRows tree 0 0 set files
      all_there nothing =
          let there : missing (root ∷ others) numbers ≡ none = found_none (missing (root ∷ others) numbers) (sym nothing ∙ absent) in
          record {
            refused = λ ne c loaded lengths. absurd (ne refl);
            accepted = λ z. (
              root,
              (
                others,
                record {
                  fine = is_fine;
                  documents = documents;
                  bundle = rw (← end_is) bundled;
                  distinct = distinct;
                  chosen = chosen;
                  room = subst (λ (n : ℕ). InSets (n * 64) (root ∷ others)) (sym kept) (room (root ∷ others) bundled);
                  there = there;
                  answers = λ c loaded lengths. so_far c loaded lengths ∙ rw there;
                },
              ),
            );
          }

    pub front_missing : {y : ℕ} → m ≡ Some y → ChecksRows tree standing 6 y set
    front_missing at = let d = fine_root tree is_fine in record { rows = λ files s. no_root files s d.0 d.1 d.2 at }

    pub front_ready : m ≡ None → ChecksRows tree standing 0 0 set
    front_ready nothing = let d = fine_root tree is_fine in record { rows = λ files s. all_there files s d.0 d.1 d.2 nothing }
