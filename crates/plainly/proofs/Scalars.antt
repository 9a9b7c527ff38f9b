-- A scalar that a file has, by where its bytes stand.
use mathlib.Core.Bool.{true}
use mathlib.Core.List.{List, []}
use mathlib.Core.Path.{◌≡◌}
use Prim.Native.Nat.{ℕ, ◌+◌, ◌-◌, ◌≤◌}
use native.Mathlib.Omega.{arith}
use lib.ListN.{length, take, drop}
use Rattle.number.specs.Part.{part}
use Rattle.utf.specs.Unicode.{is_utf16, to_utf8}
use Rattle.event.specs.Meaning.{text, meaning_of}
use Rattle.event.specs.declared.Event.{Event}
use Rattle.object.specs.declared.read.Part.{Part}
use Rattle.layout.specs.Said.{span_said}
use Rattle.layout.specs.declared.lookup.Span.{Span}
use Rattle.layout.specs.declared.lookup.Span.TheVariants.{InFile, InUtf16, NoBytes}
use Rattle.reader.specs.Meanings.{bytes_asked}
use Rattle.tape.specs.Append.{put_of, put_to, utf16_of, utf16_to}
use Rattle.tape.specs.Code.{bytes_for}
use Rattle.plainly.specs.One.{Scalar, scalar_means}

-- a part of a file as it is lent
abbrev lent : List ℕ → Part → List ℕ
lent file p = take (p.start + p.length - p.start) (drop p.start file)

lent_is : (file : List ℕ) (p : Part) → lent file p ≡ part file p.start p.length
lent_is file p = rw (let e : p.start + p.length - p.start ≡ p.length = omega arith in e)

module _ {file : List ℕ} {e : Event} {span : Span} (w : Scalar file e span) where
  pub none_means : span ≡ NoBytes → meaning_of e [] ≡ scalar_means file e span
  unfolding bytes_asked span_said
  none_means h = rw h

  module _ {p : Part} (h : span ≡ InFile p) where
    pub file_end : p.start + p.length ≤ length file
    unfolding span_said
    file_end = rw h at w.inside

    pub file_means : meaning_of e (lent file p) ≡ scalar_means file e span
    unfolding bytes_asked span_said
    file_means = rw (lent_is file p, h)

  module _ {p : Part} (h : span ≡ InUtf16 p) where
    pub utf16_end : p.start + p.length ≤ length file
    unfolding span_said
    utf16_end = (rw h at w.inside).0

    utf16_is : is_utf16 (lent file p) ≡ true
    unfolding span_said
    utf16_is = rw (lent_is file p) (rw h at w.inside).1

    utf16_means : text (to_utf8 (lent file p)) ≡ scalar_means file e span
    unfolding bytes_asked span_said meaning_of
    utf16_means = let s : e ≡ _ = (rw h at w.right).0 in rw (lent_is file p, h, s)

    -- changed to UTF-8 on its way, it is put as what it means
    pub utf16_put : (tape : List ℕ) (at : ℕ) → (utf16_of tape at (lent file p) ≡ put_of tape at (bytes_for (scalar_means file e span))) × (utf16_to tape at (lent file p) ≡ put_to tape at (bytes_for (scalar_means file e span)))
    unfolding utf16_of utf16_to
    utf16_put tape at = (rw (utf16_is, ← utf16_means), rw (utf16_is, ← utf16_means))
