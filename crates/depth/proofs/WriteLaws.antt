-- THE WRITER on a tape of arrays that stand inside each other: 1 to max_open of them are written; with more 15 comes at the first too many.
use Rattle.std.specs.Prelude.{[], ◌≡◌}
use Prim.Native.Nat.{ℕ, suc, ◌+◌, ◌*◌, ◌≤◌, ◌<◌}
use Rattle.std.proofs.Common.{mul-le-mul_left, arith}
use borrow.Author.Tests.{le-ltb}
use Rattle.number.specs.SizeLaws.{sized, sized_le}
use Rattle.event.specs.Format.{max_length, max_open}
use Rattle.tape.specs.Events.{meanings_in}
use Rattle.writer.specs.Write.{long, refused, words_for, fitted_of, by_check, write_of}
use Rattle.written.specs.File.{file_for}
use Rattle.written_claims.specs.Accepted.{Accepted}
use Rattle.written_claims.specs.Writes.{accepted_of}
use Rattle.depth.proofs.CheckLaws.{bytes_in_law, meanings_are, within_checked, deep_checked}
use Rattle.depth.proofs.FileLaws.{written, length_nested}
use Rattle.depth.specs.Nested.{nest, arrays, refs, step, offset, table_for, offsets, nested, length_for}

-- no reference and no offset has more than 8 bytes
pub length_most : (k : ℕ) → length_for k ≤ 17 * k + 49
unfolding length_for table_for offset step refs offsets
length_most k = omega (arith, mul-le-mul_left k (sized_le (sized k)), mul-le-mul_left (suc k) (sized_le (sized (table_for k))))

pub file_of_law : (k : ℕ) → file_for (meanings_in (arrays (suc k))) ≡ nested k
file_of_law k = rw (meanings_are (suc k)) (written k)

module _ (k : ℕ) (within : k < max_open) where
  pub accepted : Accepted (nest (suc k))
  accepted = rw (meanings_are (suc k)) at (accepted_of (arrays (suc k)) (suc k + suc k) (bytes_in_law (suc k)) (within_checked k within) (rw (file_of_law k, length_nested k) (omega (arith, length_most k))))

  -- so many words and so much room are enough
  pub within_written : (words room : ℕ) → words_for (suc k + suc k) ≤ words → length_for k ≤ room → write_of (arrays (suc k)) words room ≡ long (length_for k)
  unfolding write_of by_check fitted_of
  within_written words room w r =
      rw (within_checked k within, le-ltb words (words_for (suc k + suc k)) w, file_of_law k, length_nested k, le-ltb max_length (length_for k) (omega (arith, length_most k)), le-ltb room (length_for k) r)

-- whatever is lent
pub deep_refused : (k words room : ℕ) → max_open ≤ k → suc k + suc k ≤ max_length → write_of (arrays (suc k)) words room ≡ refused 15 [] max_open
unfolding write_of by_check
deep_refused k words room h s = rw (deep_checked k h s)
