-- The sums of the pass that measures: how large they can be, and how they grow from the last event back.
use Rattle.std.specs.Prelude.{◌≡◌, ℕ, zero, suc, ◌+◌, ◌-◌, ◌*◌, ◌<◌, ◌≤◌, Bool, true, false, cond, List, [], ◌∷◌, length, take, drop, ◌==◌, refl}
use Rattle.std.proofs.Common.{ap, length-append, length-drop, length-take-le}
use native.Mathlib.Omega.{arith}
use Rattle.std.proofs.Math.ListN.{drop_of_length-le}
use Rattle.event.specs.Meaning.{Meaning, array, dictionary, close, boolean, bytes, date, integer, real, text, uid}
use Rattle.tape.specs.Code.{bytes_for, allowed}
use Rattle.tape.specs.Events.{start_at}
use Rattle.utf.specs.ToUtf16Walk.{counted}
use Rattle.utf.specs.Unicode.{is_ascii, utf16, scalars8}
use Rattle.written.proofs.CountLaws.{sum}
use Rattle.written.specs.Encoding.{scalar_bytes}
use Rattle.written.proofs.EncodingLaws.{head_le, scalar_size_le}
use Rattle.written.specs.Graph.{Piece, scalar, start, end, val, kids, meant}
use Rattle.written.proofs.NameLaws.{drop_next}
use Rattle.written.specs.Scalar.{units_for}
use Rattle.written.specs.Weigh.{rep_of, counted as length_of, weight_of, weight_from, members_of, members_from}
use Rattle.writer.specs.Columns.{Collected, Measured}
use Rattle.writer.specs.Measure.{Weighs, Summed}
use Rattle.writer.specs.Ready.{pieces_in, Ready}
use Rattle.writer.specs.ReadyLaws.{EventAt, event_at_law, scalar_at, piece_at, drop_piece, ready_count, start_le}

-- an event is the member of one container at most
sum_none : (m : ℕ) → sum m (λ (j : ℕ). 0) ≡ 0
unfolding sum
sum_none zero = refl
sum_none (suc m) = omega (arith, sum_none m)

tally : (es : List Piece) (m n : ℕ) → sum m (λ (j : ℕ). length (kids j n es)) + members_from n es ≤ length es
unfolding sum kids members_from members_of
tally [] m n = omega (arith, sum_none m)
tally (scalar s ∷ es) zero n = omega (arith, tally es 0 (suc n))
tally (scalar s ∷ es) (suc m) n = omega (arith, tally es (suc m) (suc n))
tally (start k ∷ es) zero n = omega (arith, tally es 1 (suc n))
tally (start k ∷ es) (suc m) n = omega (arith, tally es (suc (suc m)) (suc n))
tally (end ∷ es) zero n = omega (arith, tally es 0 (suc n))
tally (end ∷ es) (suc m) n = omega (arith, tally es m (suc n))

pub members_few : (n : ℕ) (es : List Piece) → members_from n es ≤ length es
unfolding sum
members_few n es = omega (arith, tally es 0 n)

-- a text has no more units than bytes
pub units_le : (m : Meaning) → allowed m ≡ true → units_for m ≤ length (bytes_for m)
unfolding units_for allowed bytes_for
units_le (array n) h = omega arith
units_le (dictionary n) h = omega arith
units_le close h = omega arith
units_le (boolean b) h = omega arith
units_le (bytes s) h = omega arith
units_le (date b) h = omega arith
units_le (integer z) h = omega arith
units_le (real b) h = omega arith
units_le (text s) h = go (is_ascii s)
  where
    go : (b : Bool) → cond b 0 (length (utf16 (scalars8 s))) ≤ length (bytes_for (text s))
    go true = omega arith
    go false = simp length-append (omega (arith, (counted s h).0, (counted s h).1))
units_le (uid n) h = omega arith

module _ {t : List ℕ} {n : ℕ} (o : Ready t n) where
  -- how long an event is
  pub long_is : (i : ℕ) (m : Meaning) → EventAt t i m → start_at t i + length (bytes_for m) ≡ start_at t (suc i)
  long_is i m a =
      let l : length (take (start_at t (suc i) - start_at t i) (drop (start_at t i) t)) ≡ start_at t (suc i) - start_at t i =
      length-take-le (start_at t (suc i) - start_at t i) (drop (start_at t i) t) (rw length-drop (omega (arith, a.within))) in
      omega (arith, a.on, ap length a.bytes)

  -- an event's part of the bytes
  part_le : (i : ℕ) (p : Piece) (r : List Piece) → drop i (pieces_in t) ≡ p ∷ r → weight_of (pieces_in t) i p r + 2 * start_at t i ≤ 2 * start_at t (suc i) + 17
  unfolding weight_of
  part_le i (scalar s) r e =
      let (m, a) = scalar_at o i s r e in
      go (rep_of (pieces_in t) (val s) == i) (rw a.means (omega (arith, scalar_size_le m a.here.held.1, long_is i m a.here))) a.here.on
    where
      go : (b : Bool) → length (scalar_bytes (meant s)) + 2 * start_at t i ≤ 2 * start_at t (suc i) + 17 → start_at t i < start_at t (suc i)
          → cond b (length (scalar_bytes (meant s))) 0 + 2 * start_at t i ≤ 2 * start_at t (suc i) + 17
      go true h l = h
      go false h l = omega arith
  part_le i (start k) r e = omega (arith, head_le 0 (length_of k (length (kids 0 (suc i) r))), (event_at_law o i (drop_piece o i (start k) r e)).1.on)
  part_le i end r e = omega (arith, (event_at_law o i (drop_piece o i end r e)).1.on)

  bytes_le : (r : List Piece) (i : ℕ) → i ≤ n → drop i (pieces_in t) ≡ r → weight_from (pieces_in t) i r + 2 * start_at t i ≤ 2 * length t + 17 * length r
  unfolding weight_from
  bytes_le [] i h e = omega (arith, start_le o i h)
  bytes_le (p ∷ r) i h e =
      omega (arith, part_le i p r e, bytes_le r (suc i) (drop_piece o i p r e) (drop_next (pieces_in t) i p r e))

  -- the sums from an event on
  pub weight_le : (i : ℕ) → i ≤ n → weight_from (pieces_in t) i (drop i (pieces_in t)) ≤ 2 * length t + 17 * n
  weight_le i h = omega (arith, bytes_le (drop i (pieces_in t)) i h refl, length-drop i (pieces_in t), ready_count o)

  pub members_le : (i : ℕ) → members_from i (drop i (pieces_in t)) ≤ n
  members_le i = omega (arith, members_few i (drop i (pieces_in t)), length-drop i (pieces_in t), ready_count o)

  -- behind the last event there is nothing to sum up
  pub summed_none : (w : List ℕ) → Collected t w n n → Summed t w n n 0 0
  unfolding weight_from members_from
  summed_none w c =
      let d : drop n (pieces_in t) ≡ [] = drop_of_length-le (pieces_in t) {i = n} (omega (arith, ready_count o)) in
      record {
        upto = omega arith;
        columns = record {
          long = c.long;
          off = c.off;
          rep = c.rep;
          alone = c.alone;
          nexts = λ i l h. absurd (omega arith);
          members = λ i k r l e. absurd (omega (arith, drop_piece o i (start k) r e));
          units = λ i s r l e q. absurd (omega (arith, drop_piece o i (scalar s) r e));
        };
        weight = rw d;
        count = rw d;
      }

  -- an event more
  pub summed_more : {v w : List ℕ} {e b m bs ms : ℕ} → Summed t v n (suc e) bs ms → Measured t w n e → Weighs t e b m → Summed t w n e (bs + b) (ms + m)
  unfolding weight_from members_from
  summed_more {e = e} s c g =
      let (p, d) = piece_at o e s.upto in
      let a = g p (drop (suc e) (pieces_in t)) d in
      record { upto = omega (arith, s.upto); columns = c; weight = rw d (omega (arith, a.0, s.weight)); count = rw d (omega (arith, a.1, s.count)) }

-- the event before
pub summed_back : {t w : List ℕ} {n e bs ms : ℕ} → Summed t w n e bs ms → 0 < e → Summed t w n (suc (e - 1)) bs ms
summed_back {e = e} s h = let z : suc (e - 1) ≡ e = omega arith in rw z s
