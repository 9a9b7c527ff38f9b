-- Bytes that are put into the part of the output from a place on, where there is room for them.
use Rattle.std.proofs.Common.{◌≡◌, ℕ, ◌+◌, ◌-◌, ◌^◌, ◌<◌, ◌≤◌, List, length, arith}
use borrow.Rule.Slice.PartMut.{put_mid, mid_of}
use lib.Seq.{sets}
use Rattle.encode.specs.Put.{put_into, put_of}
use Rattle.encode.specs.PutLaws.{put_lent}
use Rattle.encode.specs.Said.{put_said}
use Rattle.encode.specs.SaidLaws.{put_said_one}
use Rattle.encode.specs.declared.put.Put.{Put}
use Rattle.encode.specs.declared.put.Put.TheVariants.{Bytes}
use Rattle.writer.specs.Speak.{Wrote}

-- bytes s are put at a place of l: the answer r, and the part m after it
pub record Lent (l : List ℕ) (pos : ℕ) (s : List ℕ) (r : Put) (m : List ℕ) : Type 0 where
  pub room : pos + length s ≤ length l
  pub answer : r ≡ put_of (mid_of pos (length l - pos) l) s
  pub memory : m ≡ put_into (mid_of pos (length l - pos) l) s

-- as what puts a number or a head tells of them
pub lent_put : (l s : List ℕ) (pos : ℕ) {r : Put} {m : List ℕ} → pos + length s ≤ length l →
    record { result_value : put_said 0 r ≡ put_said 0 (put_of (mid_of pos (length l - pos) l) s); out_after : m ≡ put_into (mid_of pos (length l - pos) l) s } → Lent l pos s r m
lent_put l s pos h p = record { room = h; answer = put_said_one 0 _ _ p.result_value; memory = p.out_after }

module _ {l : List ℕ} {pos : ℕ} {s : List ℕ} {r : Put} {m : List ℕ} (x : Lent l pos s r m) where
  put : (r ≡ Bytes (length s)) × (put_mid pos (length l - pos) l m ≡ sets l pos s)
  put = put_lent l pos (length l) s x.room (omega arith) (x.answer, x.memory)

  -- the answer is how many they are
  pub put_all : length l < 2 ^ 64 → (n : ℕ) × (r ≡ Bytes n) × (pos + n < 2 ^ 64)
  put_all h = (length s, put.0, omega (arith, x.room))

  -- and they are written, up to the place behind them
  pub lent : {next : ℕ} → ((n : ℕ) → r ≡ Bytes n → next ≡ pos + n) → Wrote l pos s (put_mid pos (length l - pos) l m) next
  lent f = record { memory = put.1; ends = f (length s) put.0 }
