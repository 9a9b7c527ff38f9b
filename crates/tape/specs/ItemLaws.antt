-- A step by its item and by its meaning.
use Rattle.std.specs.Prelude.{List, ℕ, None, Option, Some}
use Rattle.std.proofs.Math.Path.{◌≡◌, refl}
use Rattle.std.proofs.Common.{arith}
use Rattle.event.specs.Meaning.{Meaning}
use Rattle.tape.specs.Item.{item_at, meaning_in, event, bad, reading_of, read_at}
use Rattle.tape.specs.declared.item.Item.{Item}

module _ (tape : List ℕ) (at : ℕ) where
  pub item_reads : (i : Item) → item_at tape at ≡ Some i → read_at tape at ≡ event (meaning_in tape i) i.next
  unfolding read_at reading_of
  item_reads i e = rw e

  pub bad_reads : item_at tape at ≡ None → read_at tape at ≡ bad
  unfolding read_at reading_of
  bad_reads e = rw e

  pub reads_item : (m : Meaning) (next : ℕ) → read_at tape at ≡ event m next → (i : Item) × (item_at tape at ≡ Some i) × (meaning_in tape i ≡ m) × (i.next ≡ next)
  unfolding read_at reading_of
  reads_item m next e = go (item_at tape at) refl e
    where
      go : (s : Option Item) → item_at tape at ≡ s → reading_of tape s ≡ event m next → (i : Item) × (item_at tape at ≡ Some i) × (meaning_in tape i ≡ m) × (i.next ≡ next)
      go None f g = let z : ◌≡◌ {A = ℕ} 0 1 = cc in absurd (omega arith)
      go (Some i) f g =
          let means : meaning_in tape i ≡ m = cc in
          let end : i.next ≡ next = cc in
          (i, f, means, end)
