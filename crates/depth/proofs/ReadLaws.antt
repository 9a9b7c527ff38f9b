-- THE READER on the file of 1 to max_open arrays that stand inside each other: it gives them all, then the end for ever.
use mathlib.Core.List.{List, [], ◌∷◌, ◌++◌}
use Rattle.std.specs.Prelude.{◌≡◌, replicate, Some}
use Rattle.std.proofs.Math.Path.{refl}
use Rattle.std.proofs.Common.{ap, zero-add}
use Prim.Native.Nat.{ℕ, zero, suc, ◌+◌, ◌≤◌, ◌<◌}
use native.Mathlib.Omega.{arith}
use Rattle.std.proofs.Math.ListN.{length}
use Rattle.event.specs.Format.{max_open}
use Rattle.event.specs.Meaning.{array}
use Rattle.reader.specs.Meanings.{Told, means, ended, answers}
use Rattle.reader.specs.State.{fresh_reader}
use Rattle.transcribe.specs.TranscriptLaws.{told_of}
use Rattle.written.specs.File.{place_of}
use Rattle.written.specs.Graph.{end, Name, box, kids}
use Rattle.written_claims.specs.Filled.{handed_from, handed_of}
use Rattle.written_claims.proofs.ReadBack.{means_back}
use Rattle.depth.proofs.CheckLaws.{length_nest}
use Rattle.depth.proofs.FileLaws.{written, place_is}
use Rattle.depth.specs.Nested.{nest, offset, nested, opened, closing, told_for}
use Rattle.depth.specs.PieceLaws.{pieces, pieces_of, kids_none, kids_one, es}
use Rattle.depth.proofs.WriteLaws.{accepted}

-- the places of the first n, the innermost first
abbrev down : ℕ → List ℕ
down zero = []
down (suc n) = n ∷ down n

module _ (k : ℕ) where
  abbrev place : Name → ℕ
  place = place_of (es k (suc k))

  told_ends : (n m : ℕ) → m ≤ suc k → told_of (handed_from place n (down m) (replicate m end)) ≡ closing k m
  unfolding handed_from closing
  told_ends n zero h = refl
  told_ends n (suc m) h = rw (place_is k (suc k) m (omega arith), told_ends (suc n) m (omega arith))

  told_from : (q i : ℕ) → i + q ≡ k → told_of (handed_from place i (down i) (pieces (suc q) (suc k))) ≡ opened k q i ++ (means (array (Some 0)) (offset k k) ∷ closing k (suc k))
  unfolding handed_from opened pieces
  told_from zero i e =
      let z : i ≡ k = omega arith in
      let c : length (kids 0 (suc k) (pieces 0 (suc k))) ≡ 0 = rw (kids_none (suc k) (suc k)) in
      let p : place (box k) ≡ offset k k = place_is k (suc k) k (omega arith) in
      rw (z, c, told_ends (suc k) (suc k) (omega arith), p)
  told_from (suc q) i e =
      let c : length (kids 0 (suc i) (pieces (suc q) (suc k))) ≡ 1 = rw (kids_one (suc i) q (suc k)) in
      let p : place (box i) ≡ offset k i = place_is k (suc k) i (omega arith) in
      rw (c, p) (ap (λ (l : List Told). means (array (Some 1)) (offset k i) ∷ l) (told_from q (suc i) (omega arith)))

  -- what the reader is to hand out
  told_is : told_of (handed_of (nest (suc k))) ≡ told_for k
  unfolding handed_of told_for
  told_is = rw (pieces_of (suc k)) (told_from k 0 (zero-add k))

-- THE READING
pub read_back : (k : ℕ) → k < max_open → (m : ℕ) → answers (suc k + suc k + m) (nested k) fresh_reader ≡ told_for k ++ replicate m ended
read_back k h m = rw (length_nest (suc k), written k, told_is k) at (means_back (nest (suc k)) (accepted k h) m)
