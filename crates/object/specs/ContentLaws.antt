-- Laws of content: where it begins and where it ends.
use Rattle.std.specs.Prelude.{Bool, true, false, cond, List, ◌≡◌, ℕ, ◌+◌, ◌*◌, ◌%◌, ◌≤◌, ◌<◌, eqb, get_or}
use Rattle.std.proofs.Math.Path.{refl}
use Rattle.std.proofs.Math.Nat.{one-le-pow, pow-le-pow_right}
use Rattle.std.proofs.Common.{arith, leb-true, lit<}
use Rattle.number.specs.Either.{either}
use Rattle.object.specs.Content.{trailer_at, length_width, extent_at, has_length, head_at, ends_before, measured, content_at}
use Rattle.object.specs.declared.content.Content.TheVariants.{Fits, Refused}
use Rattle.object.specs.declared.content.Content.{Content}
use Rattle.object.specs.declared.content.Extent.{Extent}
use Rattle.object.specs.declared.refusal.Refusal.{Refusal}

-- a length has 1 to 8 bytes
pub length_width_pos : (byte : ℕ) → 0 < length_width byte
unfolding length_width
length_width_pos byte = one-le-pow (byte % 4) 2 (lit< tt)

pub length_width_le : (byte : ℕ) → length_width byte ≤ 8
unfolding length_width
length_width_le byte = pow-le-pow_right {n = 2} (lit< tt) (let h : byte % 4 ≤ 3 = omega arith in h)

-- content begins behind the marker, and within ten bytes of it
pub start_above : (file : List ℕ) (offset nibble : ℕ) → offset < (extent_at file offset nibble).start
unfolding extent_at
start_above file offset nibble = either (λ (e : Extent). offset < e.start) (eqb nibble 15) _ _ (λ t. omega arith) (λ t. omega arith)

pub start_below : (file : List ℕ) (offset nibble : ℕ) → (extent_at file offset nibble).start ≤ offset + 10
unfolding extent_at
start_below file offset nibble =
    either (λ (e : Extent). e.start ≤ offset + 10) (eqb nibble 15) _ _ (λ t. omega (arith, length_width_le (get_or file (offset + 1) 0))) (λ t. omega arith)

-- content that is refused doesn't fit
pub not_fits : (r : Refusal) (e : Extent) → Refused r ≡ Fits e → ⊥
not_fits r e h = let z : ◌≡◌ {A = ℕ} 0 1 = cc in omega arith

-- a test whose other answer is a refusal, and that gave an extent
fits_by : (b : Bool) (x : Content) (r : Refusal) (e : Extent) → cond b x (Refused r) ≡ Fits e → (b ≡ true) × (x ≡ Fits e)
fits_by true x r e h = (refl, h)
fits_by false x r e h = absurd (not_fits r e h)

module _ (file : List ℕ) (offset nibble : ℕ) (e : Extent) where
  -- what the head tells
  head_is : head_at file offset nibble ≡ Fits e → e ≡ extent_at file offset nibble
  unfolding head_at
  head_is h =
      let f = fits_by (has_length file offset nibble) _ _ e h in
      let s : Fits (extent_at file offset nibble) ≡ Fits e = f.1 in
      cc

  -- what is known of an extent that ends at or before T
  pub record Fitting (each : ℕ) : Type 0 where
    pub head : head_at file offset nibble ≡ Fits e
    pub is : e ≡ extent_at file offset nibble
    pub ends : e.start + e.count * each ≤ trailer_at file
    pub above : offset < e.start
    pub below : e.start ≤ offset + 10

  pub fitting : (each : ℕ) → content_at file offset nibble each ≡ Fits e → Fitting each
  unfolding content_at measured ends_before
  fitting each h = go (head_at file offset nibble) refl h
    where
      go : (x : Content) → head_at file offset nibble ≡ x → measured file each x ≡ Fits e → Fitting each
      go (Refused r) t g = absurd (not_fits r e g)
      go (Fits d) t g =
          let f = fits_by (ends_before file (d.start + d.count * each)) (Fits d) _ e g in
          let s : Fits d ≡ Fits e = f.1 in
          let i : d ≡ e = cc in
          let k : head_at file offset nibble ≡ Fits e = rw (← i) t in
          let j : e ≡ extent_at file offset nibble = head_is k in
          record {
            head = k;
            is = j;
            ends = rw (← i) (leb-true _ _ f.0);
            above = rw j (start_above file offset nibble);
            below = rw j (start_below file offset nibble);
          }
