-- How long a day and time is in bytes, and of which bytes it is.
use Rattle.std.specs.Prelude.{[], ◌∷◌, ◌++◌, ◌≡◌, ℕ, ◌+◌, ◌<◌, length}
use Rattle.std.proofs.Common.{arith, length-append}
use Rattle.calendar.specs.declared.Time.{Time}
use Rattle.digits.specs.Digits.{digits_of}
use Rattle.digits.specs.DigitsLaws.{length_digits, digits_each}
use Rattle.digits.specs.Each.{Each, each_append}
use Rattle.digits.specs.Stamp.{field, three, stamp}

pub length_field : (k n mark : ℕ) → length (field k n mark) ≡ k + 1
unfolding field
length_field k n mark = simp (length-append, length_digits)

pub length_three : (k a b c mark end : ℕ) → length (three k a b c mark end) ≡ k + 7
unfolding three
length_three k a b c mark end = simp (length-append, length_field) (omega arith)

pub length_stamp : (t : Time) → length (stamp t) ≡ 20
unfolding stamp
length_stamp t = simp (length-append, length_three)

-- what holds of the ten digits and of the four marks holds of every byte
module _ (P : ℕ → Type 0) (ten : (d : ℕ) → d < 10 → P (48 + d)) where
  field_each : (k n mark : ℕ) → P mark → Each P (field k n mark)
  unfolding field
  field_each k n mark m = each_append P (digits_of k n) (mark ∷ []) (digits_each P ten k n) (m, tt)

  three_each : (k a b c mark end : ℕ) → P mark → P end → Each P (three k a b c mark end)
  unfolding three
  three_each k a b c mark end m e = each_append P (field k a mark) (field 2 b mark ++ field 2 c end) (field_each k a mark m) (each_append P (field 2 b mark) (field 2 c end) (field_each 2 b mark m) (field_each 2 c end e))

  pub stamp_each : P 45 → P 84 → P 58 → P 90 → (t : Time) → Each P (stamp t)
  unfolding stamp
  stamp_each dash tee colon zed t =
      each_append P (three 4 t.year t.month t.day 45 84) (three 2 t.hour t.minute t.second 58 90)
      (three_each 4 t.year t.month t.day 45 84 dash tee)
      (three_each 2 t.hour t.minute t.second 58 90 colon zed)
