-- Writing from a place on: nothing, one part after the other, and what a loop has left to write. Assumes nothing.
use Prim.Native.Nat.{ℕ, suc, ◌+◌, ◌-◌, ◌≤◌, ◌<◌}
use native.Mathlib.Omega.{arith}
use native.Mathlib.Decide.{dec_lt}
use mathlib.Core.Path.{◌≡◌, refl, sym, ap, subst, ◌∙◌}
use mathlib.Core.List.{List, [], ◌∷◌, ◌++◌, append_assoc, append-nil}
use lib.ListN.{length, take, drop, get_or, length-append, length-drop, drop_of_length-le}
use lib.Seq.{drop-cons, take_all}
use Rattle.error_lines.specs.Puts.{Puts, Writes}
use Rattle.error_lines.specs.declared.buffer.Sink.{Sink}

pub puts_none : (at : ℕ) (out : List ℕ) → Puts [] at out out at
puts_none at out = record {
  same = refl;
  place = λ h. omega arith;
  bytes = λ h. sym (append-nil (take at out));
  full = λ h. omega (arith, h);
}

pub puts_then : (a b : List ℕ) {at m r : ℕ} {o p q : List ℕ} → Puts a at o p m → Puts b m p q r → Puts (a ++ b) at o q r
puts_then a b {at} {m} {r} {o} {p} {q} A B =
    let n : length (a ++ b) ≡ length a + length b = length-append a b in
    let s : length p ≡ length o = A.same in
    let first : at + length (a ++ b) ≤ length o → at + length a ≤ length o = λ h. omega (arith, n, h) in
    let second : (h : at + length (a ++ b) ≤ length o) → m + length b ≤ length p = λ h. let x = A.place (first h) in omega (arith, n, h, x, s) in
    record {
      same = B.same ∙ A.same;
      place = λ h. let x = A.place (first h) in let y = B.place (second h) in omega (arith, n, x, y);
      bytes = λ h. B.bytes (second h) ∙ (ap (λ (l : List ℕ). l ++ b) (A.bytes (first h)) ∙ append_assoc (take at o) a b);
      full = λ h. past n s h (dec_lt (length o) (at + length a));
    }
  where
    past : length (a ++ b) ≡ length a + length b → length p ≡ length o → length o < at + length (a ++ b) → Dec (length o < at + length a) → length o < r
    past n s h (yes x) = let y = A.full x in let z = B.full (omega (arith, y, s)) in omega (arith, z, s)
    past n s h (no x) =
        let f : at + length a ≤ length o = omega (arith, x) in
        let y = A.place f in
        let z = B.full (omega (arith, y, s, n, h)) in
        omega (arith, z, s)

-- the same of a sink
pub writes_none : (s : Sink) → Writes [] s s
writes_none s = record { same_buffer = refl; puts = puts_none s.place s.out.now }

pub writes_then : (a b : List ℕ) {s t u : Sink} → Writes a s t → Writes b t u → Writes (a ++ b) s u
writes_then a b A B = record { same_buffer = B.same_buffer ∙ A.same_buffer; puts = puts_then a b A.puts B.puts }

-- one text for another
pub writes_as : {a b : List ℕ} {s t : Sink} → a ≡ b → Writes a s t → Writes b s t
writes_as {a} {b} {s} {t} e W = subst (λ (x : List ℕ). Writes x s t) e W

-- whoever writes `rest` from here has written `text` from there
pub record Rest (text : List ℕ) (first : Sink) (rest : List ℕ) (here : Sink) : Type 0 where
  pub whole : (after : Sink) → Writes rest here after → Writes text first after

pub rest_more : (a b rest : List ℕ) {text : List ℕ} {first here next : Sink} → rest ≡ a ++ b → Rest text first rest here → Writes a here next
    → Rest text first b next
rest_more a b rest e R A = record { whole = λ after B. R.whole after (writes_as (sym e) (writes_then a b A B)) }

pub rest_end : (rest : List ℕ) {text : List ℕ} {first here : Sink} → rest ≡ [] → Rest text first rest here → Writes text first here
rest_end rest {here = here} e R = R.whole here (writes_as (sym e) (writes_none here))

-- the bytes from place i on: the one there, and those after it
pub bytes_more : (bytes : List ℕ) (i : ℕ) → i < length bytes → drop i bytes ≡ (get_or bytes i 0 ∷ []) ++ drop (i + 1) bytes
bytes_more bytes i l =
    let e : suc i ≡ i + 1 = omega arith in
    drop-cons bytes i 0 l ∙ ap (λ (k : ℕ). get_or bytes i 0 ∷ drop k bytes) e

pub bytes_none : (bytes : List ℕ) (i : ℕ) → length bytes ≤ i → drop i bytes ≡ []
bytes_none bytes i l = drop_of_length-le bytes l

-- the bytes from a place to the end, as a part
pub part_all : (l : List ℕ) (k : ℕ) → take (length l - k) (drop k l) ≡ drop k l
part_all l k = take_all (length l - k) (drop k l) (let e = length-drop k l in omega (arith, e))
