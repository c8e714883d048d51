-- The call's ways to its end: refused before the work, an area too short, a book with errors or a ring, and a delivery. The areas' lengths stay, so that the
-- limits are those of the areas lent. Assumes nothing.
use Prim.Native.Nat.{ℕ, suc, ◌+◌, ◌-◌, ◌≤◌, ◌<◌}
use native.Mathlib.Nat.{sub-zero}
use native.Mathlib.Omega.{arith}
use native.Mathlib.Decide.{ℕ_discrete}
use mathlib.Core.Path.{◌≡◌, refl, sym, ap, subst, ◌∙◌}
use mathlib.Core.Bool.{Bool, true, false, cond}
use lib.Dec.{eqb, ltb}
use borrow.Author.Tests.{lt-ltb, le-ltb}
use mathlib.Core.List.{List, [], ◌∷◌}
use lib.ListN.{length, replicate, length-replicate}
use Rattle.words.specs.Areas.{cleared_from, entry_field}
use Rattle.words.specs.Object.{Constant}
use Rattle.words.specs.declared.reply.Totals.{Totals}
use Rattle.words.specs.declared.reply.Reply as struct
use Rattle.words.specs.Reply.{delivery, refusal}
use Rattle.definition.specs.Uses.{first_not_public}
use Rattle.definition.specs.Compiler.{Error}
use Rattle.definition.specs.Book.{has_text, new_context}
use Rattle.definition.specs.DependencySolver.{Worked, needed, compile_needed}
use Rattle.definition.specs.Program.{bit, error_tables, entries_from, error_entry, global_dependencies}
use Rattle.definition.specs.Answer.{Answer, Delivery, Refusal, answer_worked, limits_of, answer, reply_of, areas_of}
use Rattle.definition.specs.Within.{Areas, KeepsWithin}
use Rattle.definition.specs.Trial.{fresh_bundles}
use Rattle.building.specs.RepresentsMachine.{Filled}
use Rattle.compiler_laws.specs.declared.book.Book as book
use Rattle.compiler_laws.specs.BooksInOrder.{Zero, Cleared, Lent, Outcome, FrontRows, Works, MarkedFrom, mark_of, Emptied}
use Rattle.definition_laws.proofs.Strict.{none_there}
use Rattle.definition.specs.Promise.{areas, lengths_of, saying, answering, logs_in, program_of, Compiles}
use Rattle.compiler_laws.specs.CallEnd.{totals, mark_refusal, refusal_with, mark_refusal_with, Finishes, Runs}
use Rattle.compiler_laws.proofs.AnswerWords.{filled_is}
use Rattle.compiler_laws.proofs.WorkEnd.{answer_full, answer_errors, answer_delivered}
use Rattle.definition_laws.proofs.Promise.{compiles}
use Rattle.compiler_laws.proofs.CallBeginning.{zero_filled}
use Rattle.compiler_laws.proofs.RowsBeforeWork.{fresh_refused, fresh_answers}

-- an area cleared is zeros
pub cleared_zero : (w : List ℕ) {w' : List ℕ} → w' ≡ cleared_from 0 w → Zero w'
cleared_zero w {w'} q =
    let all : w' ≡ replicate (length w) 0 = q ∙ rw (sub-zero (length w)) in
    let long : length w' ≡ length w = ap (λ (x : List ℕ). length x) all ∙ length-replicate {A = ℕ} (length w) 0 in
    all ∙ ap (λ (x : ℕ). replicate x 0) (sym long)

-- zeros but for the errors
refused_words : {c k f m p t l u n b e o : List ℕ} {errors : ℕ} (row place : ℕ) (es : List Error) → Zero c → Zero k → Zero f → Zero m → Zero p → Zero t → Zero l
    → Zero u → Zero n → Zero b → Filled 4 e (entries_from error_entry 0 es) errors → Zero o
    → areas c k f m p t l u n b e o ≡ areas_of (lengths_of (areas c k f m p t l u n b e o)) (Refusal row place es)
unfolding areas_of error_tables
refused_words row place es zc zk zf zm zp zt zl zu zn zb fe zo =
    rw (
      ← filled_is (zero_filled {width = 2} zc),
      ← filled_is (zero_filled {width = 3} zk),
      ← filled_is (zero_filled {width = 8} zf),
      ← filled_is (zero_filled {width = 2} zm),
      ← filled_is (zero_filled {width = 2} zp),
      ← filled_is (zero_filled {width = 3} zt),
      ← filled_is (zero_filled {width = 4} zl),
      ← filled_is (zero_filled {width = 3} zu),
      ← filled_is (zero_filled {width = 2} zn),
      ← filled_is (zero_filled {width = 1} zb),
      ← filled_is fe,
      ← filled_is (zero_filled {width = 1} zo),
    )

-- the reply of a refusal
refused_reply : (row place : ℕ) (es : List Error) → saying (refusal row place) ≡ reply_of (Refusal row place es)
unfolding reply_of
refused_reply row place es = refl

-- the limits are those of the areas
pub lent_are : (s : book.Book) (c k f m p t l u n b e o : List ℕ) → Lent (limits_of (lengths_of (areas c k f m p t l u n b e o))) s c k f m p t l u n b e o
lent_are s c k f m p t l u n b e o = record {
  fitted = record {
    code = refl;
    constants = refl;
    functions = refl;
    models = refl;
    properties = refl;
    methods = refl;
    locals = refl;
    publics = refl;
    names = refl;
    breaks = refl;
    errors = refl;
    others = none_there (lengths_of (areas c k f m p t l u n b e o));
  };
  books = refl;
}

module _ (strict : Bool) (tree : List ℕ) (before : Areas) where
  -- an answer's reply, count and words are the call's
  answered : {after : Areas} {r : struct.Reply} (a : Answer) → length (lengths_of before) ≡ 13 → answering strict tree before ≡ a → saying r ≡ reply_of a
      → r.totals.bundles ≡ fresh_bundles a → after ≡ areas_of (lengths_of before) a → Compiles strict tree before after r
  answered {after} {r} a thirteen q says counts holds =
      compiles strict tree before after r thirteen (says ∙ sym (ap reply_of q)) (holds ∙ sym (ap (areas_of (lengths_of before)) q))
      (counts ∙ sym (ap fresh_bundles q))

  -- a refusal with these errors and zeros
  refuses : {c k f m p t l u n b e o : List ℕ} {errors : ℕ} (row place : ℕ) (es : List Error) → length (lengths_of before) ≡ 13
      → lengths_of before ≡ lengths_of (areas c k f m p t l u n b e o) → answering strict tree before ≡ Refusal row place es → Zero c → Zero k → Zero f
      → Zero m → Zero p
      → Zero t → Zero l → Zero u → Zero n → Zero b → Filled 4 e (entries_from error_entry 0 es) errors → Zero o
      → Compiles strict tree before (areas c k f m p t l u n b e o) (refusal row place)
  refuses {c} {k} {f} {m} {p} {t} {l} {u} {n} {b} {e} {o} row place es thirteen long q zc zk zf zm zp zt zl zu zn zb fe zo =
      answered (Refusal row place es) thirteen q (refused_reply row place es) refl
      (subst (λ (ls : List ℕ). areas c k f m p t l u n b e o ≡ areas_of ls (Refusal row place es)) (sym long)
      (refused_words row place es zc zk zf zm zp zt zl zu zn zb fe zo))

  -- rows 2 to 6
  pub compile_refused : {set c k f m p t l u n b e o : List ℕ} {row place : ℕ} {r : struct.Reply} → length (lengths_of before) ≡ 13
      → lengths_of before ≡ lengths_of (areas c k f m p t l u n b e o) → Cleared c k f m p t l u n b e o → FrontRows tree row place set [] → (row ≡ 0 → ⊥)
      → r ≡ refusal row place → Compiles strict tree before (areas c k f m p t l u n b e o) r
  compile_refused {c = c} {k} {f} {m} {p} {t} {l} {u} {n} {b} {e} {o} {row} {place} {r} thirteen long z F ne says =
      let E = z.emptied in
      subst (λ (x : struct.Reply). Compiles strict tree before (areas c k f m p t l u n b e o) x) (sym says)
      (refuses row place [] thirteen long (fresh_refused F ne strict (lengths_of before)) E.code E.constants E.functions E.models E.properties
      E.methods
      E.locals E.publics E.names E.breaks (zero_filled z.errors) E.books)

  -- the work, and how it ends
  module _ {set c k f m p t l u n b e o : List ℕ} {s' : book.Book} {c' k' f' m' p' t' l' u' n' b' e' o' : List ℕ} {row place number : ℕ}
      (thirteen : length (lengths_of before) ≡ 13) (long : lengths_of before ≡ lengths_of (areas c k f m p t l u n b e o)) (z : Cleared c k f m p t l u n b e o)
      {at : ℕ} (F : FrontRows tree number at set []) (went : number ≡ 0)
      (W : Works strict tree set c k f m p t l u n b e o s' c' k' f' m' p' t' l' u' n' b' e' o' row place) where
    -- what the definition's work came to
    record Worked' : Type 0 where
      worked : Worked
      answers : answering strict tree before ≡ answer_worked (limits_of (lengths_of before)) worked
      rest : List ℕ
      zeros : Zero rest
      outcome : Outcome (limits_of (lengths_of before)) s' c' k' f' m' p' t' l' u' n' b' e' o' rest row place worked

    work : Worked'
    work =
        let X = F.accepted went in
        let A = X.1.1 in
        let κ = limits_of (lengths_of before) in
        let lent : (s : book.Book) → Lent κ s c k f m p t l u n b e o = λ s. subst (λ (ls : List ℕ). Lent (limits_of ls) s c k f m p t l u n b e o) (sym long)
        (lent_are s c k f m p t l u n b e o) in
        let Y = W.works X.0 X.1.0 A z κ lent in
        record {
          worked = compile_needed (needed [] X.0 X.1.0) (X.0 ∷ X.1.0) (new_context strict);
          answers = fresh_answers A strict (lengths_of before);
          rest = Y.0;
          zeros = Y.1.0;
          outcome = Y.1.1;
        }

    -- an area is too short
    module _ {c'' k'' f'' m'' p'' t'' l'' u'' n'' b'' e'' o'' : List ℕ} {r : struct.Reply}
        (long'' : lengths_of before ≡ lengths_of (areas c'' k'' f'' m'' p'' t'' l'' u''
        n'' b'' e'' o''))
      where
        pub compile_full : (s'.full ≡ 0 → ⊥) → Cleared c'' k'' f'' m'' p'' t'' l'' u'' n'' b'' e'' o'' → r ≡ mark_refusal s'.full
            → Compiles strict tree before (areas c'' k'' f'' m'' p'' t'' l'' u'' n'' b'' e'' o'') r
        compile_full ne y says =
            let X = work in by (ltb s'.full first_not_public) (answer_full X.answers X.outcome ne) says y.emptied (zero_filled y.errors)
          where
            by : (area : Bool) → answering strict tree before ≡ cond area (Refusal 9 s'.full []) (Refusal 11 (s'.full - first_not_public) [])
                → r ≡ cond area (refusal 9 s'.full) (refusal 11 (s'.full - first_not_public)) → Emptied c'' k'' f'' m'' p'' t'' l'' u'' n'' b'' o'' →
                {errors : ℕ}
                → Filled 4 e'' (entries_from error_entry 0 []) errors → Compiles strict tree before (areas c'' k'' f'' m'' p'' t'' l'' u'' n'' b'' e'' o'') r
            by true q says E z =
                subst (λ (x : struct.Reply). Compiles strict tree before (areas c'' k'' f'' m'' p'' t'' l'' u'' n'' b'' e'' o'') x) (sym says)
                (refuses 9 s'.full [] thirteen long'' q E.code E.constants E.functions E.models E.properties E.methods E.locals
                E.publics E.names E.breaks z E.books)
            by false q says E z =
                subst (λ (x : struct.Reply). Compiles strict tree before (areas c'' k'' f'' m'' p'' t'' l'' u'' n'' b'' e'' o'') x) (sym says)
                (refuses 11 (s'.full - first_not_public) [] thirteen long'' q E.code E.constants E.functions E.models E.properties E.methods
                E.locals E.publics E.names E.breaks z E.books)

    -- a book with errors, or a ring: the errors stay
    module _ {c'' k'' f'' m'' p'' t'' l'' u'' n'' b'' o'' : List ℕ} {r : struct.Reply}
        (long'' : lengths_of before ≡ lengths_of (areas c'' k'' f'' m'' p'' t'' l'' u'' n'' b'' e' o''))
      where
        pub compile_errors : s'.full ≡ 0 → (row ≡ 0 → ⊥) → Zero c'' → Zero k'' → Zero f'' → Zero m'' → Zero p'' → Zero t'' → Zero l'' → Zero u'' → Zero n'' →
            Zero b''
            → Zero o'' → r ≡ refusal row place → Compiles strict tree before (areas c'' k'' f'' m'' p'' t'' l'' u'' n'' b'' e' o'') r
        compile_errors y ne zc zk zf zm zp zt zl zu zn zb zo says =
            let L = answer_errors work.answers work.outcome y ne in
            subst (λ (x : struct.Reply). Compiles strict tree before (areas c'' k'' f'' m'' p'' t'' l'' u'' n'' b'' e' o'') x) (sym says)
            (refuses row place L.errors thirteen long'' L.is zc zk zf zm zp zt zl zu zn zb L.area zo)

    -- a delivery
    pub compile_delivered : {globals : ℕ} {r : struct.Reply} → lengths_of before ≡ lengths_of (areas c' k' f' m' p' t' l' u' n' b' e' o') → s'.full ≡ 0 → row ≡
        0
        → MarkedFrom k' 0 s'.constants 0 globals → r ≡ delivery (totals s' place globals 1)
        → Compiles strict tree before (areas c' k' f' m' p' t' l' u' n' b' e' o') r
    compile_delivered long' y zero_row M says =
        let D = answer_delivered work.answers work.outcome y zero_row work.zeros M in
        subst (λ (x : struct.Reply). Compiles strict tree before (areas c' k' f' m' p' t' l' u' n' b' e' o') x) (sym says)
        (answered (Delivery D.context) thirteen D.is (D.reply 1) refl
        (subst (λ (ls : List ℕ). areas c' k' f' m' p' t' l' u' n' b' e' o' ≡ areas_of ls (Delivery D.context)) (sym long') D.words))

-- `count_marked`
pub marked_end : {k : List ℕ} {i count n : ℕ} → count ≤ i → MarkedFrom k i count n n
marked_end {k} {i} {count} {n} past = record { marked = go }
  where
    go : (gs : List ℕ) (cs : List Constant) → ((j : ℕ) → j < length cs → entry_field 3 (i + j) 2 k ≡ bit (has_text (i + j) gs)) → i + length cs ≡ count
        → n ≡ n + global_dependencies gs i cs
    go gs [] h q = omega arith
    go gs (c ∷ cs) h q = absurd (omega arith)

pub marked_more : {k : List ℕ} {i count n r word one : ℕ} → i < count → word ≡ entry_field 3 i 2 k → one ≡ mark_of word → MarkedFrom k (i + 1) count (n + one) r
    → MarkedFrom k i count n r
marked_more {k} {i} {count} {n} {r} {word} {one} inside word-is one-is M = record { marked = go }
  where
    bit_mark : (x : Bool) → mark_of (bit x) ≡ bit x
    bit_mark true = refl
    bit_mark false = refl

    go : (gs : List ℕ) (cs : List Constant) → ((j : ℕ) → j < length cs → entry_field 3 (i + j) 2 k ≡ bit (has_text (i + j) gs)) → i + length cs ≡ count
        → r ≡ n + global_dependencies gs i cs
    go gs [] h q = absurd (omega arith)
    go gs (c ∷ cs) h q =
        let here : i + 0 ≡ i = omega arith in
        let first : word ≡ bit (has_text i gs) = word-is ∙ rw here at (h 0 (omega arith)) in
        let mark : one ≡ bit (has_text i gs) = one-is ∙ ap mark_of first ∙ bit_mark (has_text i gs) in
        let rest : r ≡ n + one + global_dependencies gs (i + 1) cs = M.marked gs cs (later gs c cs h) (omega arith) in
        omega (arith, mark, rest)
      where
        later : (gs : List ℕ) (c : Constant) (cs : List Constant)
            → ((j : ℕ) → j < length (c ∷ cs) → entry_field 3 (i + j) 2 k ≡ bit (has_text (i + j) gs)) → (j : ℕ) → j < length cs
            → entry_field 3 (i + 1 + j) 2 k ≡ bit (has_text (i + 1 + j) gs)
        later gs c cs h j l = let next : i + suc j ≡ i + 1 + j = omega arith in rw next at (h (suc j) (omega arith))

pub mark_small : (word : ℕ) {one : ℕ} → one ≡ mark_of word → one ≤ 1
mark_small word q = go (eqb word 0) q
  where
    go : {one : ℕ} (x : Bool) → one ≡ cond x 0 1 → one ≤ 1
    go true q = omega arith
    go false q = omega arith

-- the areas are as long as they were
pub record SameLengths (c₀ k₀ f₀ m₀ p₀ t₀ l₀ u₀ n₀ b₀ e₀ o₀ c k f m p t l u n b e o : List ℕ) : Type 0 where
  pub code : length c ≡ length c₀
  pub constants : length k ≡ length k₀
  pub functions : length f ≡ length f₀
  pub models : length m ≡ length m₀
  pub properties : length p ≡ length p₀
  pub methods : length t ≡ length t₀
  pub locals : length l ≡ length l₀
  pub publics : length u ≡ length u₀
  pub names : length n ≡ length n₀
  pub breaks : length b ≡ length b₀
  pub errors : length e ≡ length e₀
  pub books : length o ≡ length o₀

same_lengths : {c₀ k₀ f₀ m₀ p₀ t₀ l₀ u₀ n₀ b₀ e₀ o₀ c k f m p t l u n b e o : List ℕ} → SameLengths c₀ k₀ f₀ m₀ p₀ t₀ l₀ u₀ n₀ b₀ e₀ o₀ c k f m p t l u n b e o
    → lengths_of (areas c₀ k₀ f₀ m₀ p₀ t₀ l₀ u₀ n₀ b₀ e₀ o₀) ≡ lengths_of (areas c k f m p t l u n b e o)
same_lengths S = rw (S.code, S.constants, S.functions, S.models, S.properties, S.methods, S.locals, S.publics, S.names, S.breaks, S.errors, S.books)

-- the ways of `refused_by`
pub refused_full : (t : Totals) {full : ℕ} {r : struct.Reply} → full < first_not_public → r ≡ refusal_with t 9 full → r ≡ mark_refusal_with t full
refused_full t {full} h says =
    says ∙ sym (ap (λ (x : Bool). cond x (refusal_with t 9 full) (refusal_with t 11 (full - first_not_public))) (lt-ltb full first_not_public h))

pub refused_name : (t : Totals) {full : ℕ} {r : struct.Reply} → first_not_public ≤ full → r ≡ refusal_with t 11 (full - first_not_public)
    → r ≡ mark_refusal_with t full
refused_name t {full} h says =
    says ∙ sym (ap (λ (x : Bool). cond x (refusal_with t 9 full) (refusal_with t 11 (full - first_not_public))) (le-ltb full first_not_public h))

-- the ways of `run`
module _ {strict : Bool} {tree c k f m p t l u n b e o : List ℕ} where
  pub run_row : {set : List ℕ} {row place : ℕ} {r : struct.Reply} → FrontRows tree row place set [] → (row ≡ 0 → ⊥) → r ≡ refusal row place
      → Runs strict tree c k f m p t l u n b e o c k f m p t l u n b e o r
  run_row F ne says = record { runs = λ z. compile_refused strict tree (areas c k f m p t l u n b e o) refl refl z F ne says }

  module _ {set : List ℕ} {s' : book.Book} {c' k' f' m' p' t' l' u' n' b' e' o' c'' k'' f'' m'' p'' t'' l'' u'' n'' b'' e'' o'' : List ℕ}
      {row place number at : ℕ}
      {r : struct.Reply}
      (F : FrontRows tree number at set []) (went : number ≡ 0)
      (W : Works strict tree set c k f m p t l u n b e o s' c' k' f' m' p' t' l' u' n' b' e' o' row place)
      (E : Finishes s' row place c' k' f' m' p' t' l' u' n' b' e' o' c'' k'' f'' m'' p'' t'' l'' u'' n'' b'' e'' o'' r)
      (S : SameLengths c k f m p t l u n b e o c'' k'' f'' m'' p'' t'' l'' u'' n'' b'' e'' o'') where
    ended_full : Cleared c k f m p t l u n b e o → (s'.full ≡ 0 → ⊥)
        → Compiles strict tree (areas c k f m p t l u n b e o) (areas c'' k'' f'' m'' p'' t'' l'' u'' n'' b'' e'' o'') r
    ended_full z ne =
        let X = E.full ne in
        compile_full strict tree (areas c k f m p t l u n b e o) refl refl z F went W (same_lengths S) ne (record { emptied = X.0; errors = X.1.0 })
        X.1.1

    ended_refused : Cleared c k f m p t l u n b e o → s'.full ≡ 0 → (row ≡ 0 → ⊥)
        → Compiles strict tree (areas c k f m p t l u n b e o) (areas c'' k'' f'' m'' p'' t'' l'' u'' n'' b'' e'' o'') r
    ended_refused z y ne =
        let X = E.refused y ne in
        let Z = X.0 in
        let long : lengths_of (areas c k f m p t l u n b e o) ≡ lengths_of (areas c'' k'' f'' m'' p'' t'' l'' u'' n'' b'' e' o'') =
        subst (λ (x : List ℕ). lengths_of (areas c k f m p t l u n b e o) ≡ lengths_of (areas c'' k'' f'' m'' p'' t'' l'' u'' n'' b'' x o'')) X.1.0
        (same_lengths S) in
        subst (λ (x : List ℕ). Compiles strict tree (areas c k f m p t l u n b e o) (areas c'' k'' f'' m'' p'' t'' l'' u'' n'' b'' x o'') r) (sym X.1.0)
        (compile_errors strict tree (areas c k f m p t l u n b e o) refl refl z F went W long y ne Z.code Z.constants Z.functions Z.models
        Z.properties Z.methods Z.locals
        Z.publics Z.names Z.breaks Z.books X.1.1)

    ended_whole : Cleared c k f m p t l u n b e o → s'.full ≡ 0 → row ≡ 0
        → Compiles strict tree (areas c k f m p t l u n b e o) (areas c'' k'' f'' m'' p'' t'' l'' u'' n'' b'' e'' o'') r
    ended_whole z y h =
        let X = E.whole y h in
        subst (λ (x : Areas). Compiles strict tree (areas c k f m p t l u n b e o) x r) (sym X.0)
        (compile_delivered strict tree (areas c k f m p t l u n b e o) refl refl z F went W (same_lengths S
        ∙ ap lengths_of X.0) y h X.1.1.0 X.1.1.1)

    pub run_finished : Runs strict tree c k f m p t l u n b e o c'' k'' f'' m'' p'' t'' l'' u'' n'' b'' e'' o'' r
    run_finished = record { runs = go }
      where
        by_row : Cleared c k f m p t l u n b e o → s'.full ≡ 0 → Dec (row ≡ 0)
            → Compiles strict tree (areas c k f m p t l u n b e o) (areas c'' k'' f'' m'' p'' t'' l'' u'' n'' b'' e'' o'') r
        by_row z y (yes h) = ended_whole z y h
        by_row z y (no ne) = ended_refused z y ne

        by_full : Cleared c k f m p t l u n b e o → Dec (s'.full ≡ 0)
            → Compiles strict tree (areas c k f m p t l u n b e o) (areas c'' k'' f'' m'' p'' t'' l'' u'' n'' b'' e'' o'') r
        by_full z (yes y) = by_row z y (ℕ_discrete row 0)
        by_full z (no ne) = ended_full z ne

        go : Cleared c k f m p t l u n b e o → Compiles strict tree (areas c k f m p t l u n b e o) (areas c'' k'' f'' m'' p'' t'' l'' u'' n'' b'' e'' o'') r
        go z = by_full z (ℕ_discrete s'.full 0)

-- the promise is of the lengths alone
carried : {strict : Bool} {tree : List ℕ} {before before' after : Areas} {r : struct.Reply} → lengths_of before ≡ lengths_of before'
    → Compiles strict tree before' after r
    → Compiles strict tree before after r
carried {strict} {tree} {after = after} {r} q C = record {
  reply = C.reply ∙ ap (λ (ls : List ℕ). reply_of (answer strict tree ls)) (sym q);
  words = C.words ∙ ap (λ (ls : List ℕ). areas_of ls (answer strict tree ls)) (sym q);
  bundles = C.bundles ∙ ap (λ (ls : List ℕ). fresh_bundles (answer strict tree ls)) (sym q);
  within = λ z. subst
      (λ (ls : List ℕ). KeepsWithin (program_of after r) 0 (logs_in (answer strict tree ls)))
      (sym q) (C.within z);
}

-- the way of `compile`
pub compile_runs : {strict : Bool} {tree c₀ k₀ f₀ m₀ p₀ t₀ l₀ u₀ n₀ b₀ e₀ o₀ c k f m p t l u n b e o c'' k'' f'' m'' p'' t'' l'' u'' n'' b'' e'' o'' : List ℕ}
    {r : struct.Reply}
    → SameLengths c₀ k₀ f₀ m₀ p₀ t₀ l₀ u₀ n₀ b₀ e₀ o₀ c k f m p t l u n b e o → Emptied c k f m p t l u n b o → Zero e
    → Runs strict tree c k f m p t l u n b e o c'' k'' f'' m'' p'' t'' l'' u'' n'' b'' e'' o'' r
    → Compiles strict tree (areas c₀ k₀ f₀ m₀ p₀ t₀ l₀ u₀ n₀ b₀ e₀ o₀) (areas c'' k'' f'' m'' p'' t'' l'' u'' n'' b'' e'' o'') r
compile_runs S E z R = carried (same_lengths S) (R.runs (record { emptied = E; errors = z }))
