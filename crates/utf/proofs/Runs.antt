-- Runs of ASCII and eight bytes, in the words of the library.
use Rattle.std.specs.Prelude.{IsTrue, ◌↔◌, Bool, true, false, ◌≡◌, refl, List, [], ◌∷◌, ℕ, zero, suc, ◌+◌, ◌-◌, ◌≤◌, ◌<◌, leb, eqb, length, take, drop, get_or}
use Rattle.std.proofs.Common.{sym, ◌∙◌, ap, arith, length-drop, lt-ltb, le-ltb, le-leb, eq-eqb, ne_eqb}
use Rattle.std.proofs.lemmas.Bool.{lt-leb, false≢true}
use Rattle.std.specs.Int.Bits.{bit_and}
use Rattle.std.proofs.Math.Decide.{dec_lt}
use Rattle.std.proofs.lemmas.List.{drop-drop}
use Rattle.std.specs.Int.{from_le_bytes, w64}
use Rattle.std.specs.List.{position_or_len}
use Rattle.std.proofs.Math.Seq.{take_all}
use Rattle.utf.specs.Utf8Laws.{ascii_cons}
use Rattle.std.proofs.lemmas.List.Sums.{position_or_len_is}
use Rattle.utf.specs.Unicode.{is_ascii}
use Rattle.utf.specs.Bounds.{Below}
use Rattle.utf.specs.Plain.{ascii_run, BehindRun, little_of, tops_of}
use Rattle.utf.specs.PlainLaws.{run_on, run_le, run_ascii, run_plain, eight_plain}

-- the run ends at the first byte that is not ASCII
run_position : (s : List ℕ) → ascii_run s ≡ position_or_len (leb 0x80) s
unfolding ascii_run
run_position [] = refl
run_position (b ∷ s) =
    elim (dec_lt b 0x80) [
      | yes p ↦ rw (lt-ltb b 0x80 p, lt-leb 0x80 b p) (omega (arith, run_position s))
      | no p ↦
          let h : 0x80 ≤ b = omega arith in
          rw (le-ltb b 0x80 h, le-leb 0x80 b h)
    ]

-- the place with ASCII before it, and none at it, is where the run ends
pub run_place : (s : List ℕ) (i : ℕ) → i ≤ length s → ((k : ℕ) → k < i → get_or s k 0 < 0x80) → (i < length s → 0x80 ≤ get_or s i 0) → i ≡ ascii_run s
run_place s i h before found =
    sym (position_or_len_is (leb 0x80) s i 0 h (λ k g. lt-leb 0x80 (get_or s k 0) (before k g)) (λ g. le-leb 0x80 (get_or s i 0) (found g))) ∙ sym (run_position s)

-- the number of eight bytes
pub little_eight : (s : List ℕ) → length s ≡ 8 → from_le_bytes w64 s ≡ little_of s
unfolding little_of
little_eight (a ∷ b ∷ c ∷ d ∷ e ∷ f ∷ g ∷ h ∷ []) l = omega arith
little_eight _ l = absurd (omega (arith, l))

-- what is left behind a part of the run
pub behind_more : (s rest : List ℕ) (k : ℕ) → BehindRun s rest → k ≤ ascii_run rest → BehindRun s (drop k rest)
behind_more s rest k b h =
    let more : k ≤ ascii_run (drop b.0 s) = rw b.2 at h in
    (b.0 + k, omega (arith, run_on s 0 b.0 (omega arith, omega (arith, b.1))), rw b.2 (drop-drop k b.0 s))

pub behind_far : (s t u : List ℕ) → BehindRun s t → BehindRun t u → BehindRun s u
behind_far s t u p q = rw q.2 (behind_more s t q.0 p q.1)

-- how many bytes are in front of what is left behind a run, where the first eight bytes are ASCII
pub behind_place : (s rest : List ℕ) → Below 256 s → 8 ≤ length s → bit_and (little_of (take 8 s)) (tops_of 8) ≡ 0 → BehindRun (drop 8 s) rest → let i = length s - length rest in (8 ≤ i) × (i ≤ ascii_run s)
behind_place s rest b h z q =
    let first : 8 ≤ ascii_run s = run_plain 8 s h (eight_plain s 0 b h z) in
    let size : length rest ≡ length s - 8 - q.0 = rw q.2 (length-drop q.0 (drop 8 s) ∙ ap (λ (n : ℕ). n - q.0) (length-drop 8 s)) in
    omega (arith, size, q.1, run_on s 0 8 (omega arith, omega arith), run_le s, run_le (drop 8 s), length-drop 8 s)

-- bytes are ASCII where what is left behind a part of their run is: the run goes as far towards their end
drop_ascii : (n : ℕ) (s : List ℕ) → n ≤ ascii_run s → is_ascii (drop n s) ≡ is_ascii s
drop_ascii n s h = sym (run_ascii (drop n s)) ∙ as_far ∙ run_ascii s
  where
    more : ascii_run s ≡ n + ascii_run (drop n s)
    more = omega (arith, run_on s 0 n (omega arith, omega (arith, h)))

    as_far : eqb (ascii_run (drop n s)) (length (drop n s)) ≡ eqb (ascii_run s) (length s)
    as_far =
        let left = length-drop n s in
        elim (dec_lt (ascii_run s) (length s)) [
          | yes p ↦ ne_eqb (ascii_run (drop n s)) (length (drop n s)) (omega (arith, more, left)) ∙ sym (ne_eqb (ascii_run s) (length s) (omega arith))
          | no p ↦ eq-eqb (ascii_run (drop n s)) (length (drop n s)) (omega (arith, more, left, run_le s)) ∙ sym (eq-eqb (ascii_run s) (length s) (omega (arith, run_le s)))
        ]

pub behind_ascii : (s rest : List ℕ) → BehindRun s rest → is_ascii rest ≡ is_ascii s
behind_ascii s rest b = rw b.2 (drop_ascii b.0 s b.1)

-- a test of every byte
each_ascii : (s : List ℕ) → ((k : ℕ) → k < length s → get_or s k 0 < 0x80) → is_ascii s ≡ true
unfolding is_ascii
each_ascii [] h = refl
each_ascii (b ∷ s) h = rw (lt-ltb b 0x80 (h 0 (omega arith))) (each_ascii s (λ k g. h (suc k) (omega arith)))

ascii_each : (s : List ℕ) → is_ascii s ≡ true → (k : ℕ) → k < length s → get_or s k 0 < 0x80
ascii_each [] e k g = absurd (omega arith)
ascii_each (b ∷ s) e zero g = (ascii_cons b s e).0
ascii_each (b ∷ s) e (suc k) g = ascii_each s (ascii_cons b s e).1 k (omega arith)

pub all_ascii : (s : List ℕ) (r : Bool) → IsTrue r ↔ ((k : ℕ) → k < length s → get_or s k 0 < 0x80) → r ≡ is_ascii s
all_ascii s true t = sym (each_ascii s (t.0 refl))
all_ascii s false t = go (is_ascii s) refl
  where
    go : (b : Bool) → is_ascii s ≡ b → false ≡ b
    go true e = absurd (false≢true (t.1 (ascii_each s e)))
    go false e = refl

-- what a slice from a place on is
pub slice_from : (s : List ℕ) (n : ℕ) → take (length s - n) (drop n s) ≡ drop n s
slice_from s n = take_all (length s - n) (drop n s) (omega (arith, length-drop n s))
