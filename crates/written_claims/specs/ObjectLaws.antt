-- An object that stands in a file is shown by it.
use Rattle.std.specs.Prelude.{List, ◌≡◌, refl, ℕ, ◌<◌, length, Some}
use Rattle.std.proofs.Math.Logic.{inl, inr}
use Rattle.std.proofs.Common.{◌∙◌, arith, length-append}
use Rattle.number.specs.Width.{bytes_in}
use Rattle.number.specs.declared.width.Width.TheVariants.{One}
use Rattle.number.specs.declared.width.Width.{Width}
use Rattle.event.specs.Meaning.{Meaning, meaning_of}
use Rattle.event.specs.declared.Event.TheVariants.{Data, String}
use Rattle.object.specs.KnownLaws.{Plain}
use Rattle.object.specs.Object.{Found, object_at}
use Rattle.object.specs.Object as found
use Rattle.layout.specs.Layout.{entry_at, look_in, look_of, source_of}
use Rattle.layout.specs.Looked.{scalar}
use Rattle.layout.specs.FoundLaws.{sound, plain_asked}
use Rattle.layout.specs.LookLaws.{BytesRight, bare_plain, look_right}
use Rattle.layout.specs.Bytes.{no_bytes, data_asked, text_asked, event_asked, has_bytes}
use Rattle.layout.specs.declared.layout.Layout.{Layout}
use Rattle.reader.specs.Meanings.{bytes_asked, meaning_at}
use Rattle.written.specs.Encoding.{Object, lone, list, pairs, object_bytes}
use Rattle.written.proofs.EncodingLaws.{head_pos, scalar_pos}
use Rattle.written_claims.specs.ContainerLaws.{ArrayReads, array_reads, DictionaryReads, dictionary_reads}
use Rattle.written_claims.specs.LookLaws.{look_there, due_there}
use Rattle.written_claims.specs.ScalarLaws.{Says, Reads, scalar_reads}
use Rattle.written_claims.specs.Shown.{Fine, Looks, ListShown, PairsShown, Shown}
use Rattle.written_claims.specs.Stands.{Whole}

-- no object is empty
pub object_pos : (v w : ℕ) (o : Object) → Fine w o → 0 < length (object_bytes v o)
unfolding object_bytes
object_pos v w (lone m) h = scalar_pos m h.0
object_pos v w (list refs) h = rw length-append (omega (arith, head_pos 0xA0 (length refs)))
object_pos v w (pairs keys values) h = rw length-append (omega (arith, head_pos 0xD0 (length keys)))

module _ (file : List ℕ) (l : Layout) (n at : ℕ) (numbered : n < l.count) (entry : entry_at file l n ≡ Some at) where
  scalar_shown : (m : Meaning) → Reads file at m → Looks file (source_of file l) n at m
  unfolding source_of look_in meaning_at meaning_of bytes_asked event_asked data_asked text_asked has_bytes
  scalar_shown m r = go r.there r.is r.says
    where
      go : (x : Found) → ((refs : Width) → object_at file refs at ≡ x) → Says file x m → Looks file (source_of file l) n at m
      go found.outside is says = absurd says
      go (found.refused number values) is says = absurd says
      go (found.scalar e) is says =
          let h : (found.scalar e ≡ found.scalar e) × Plain e = rw (is One) at (sound file One at) in
          let given : event_asked file e at ≡ no_bytes = plain_asked file e at h.1 in
          let look : look_of file l n ≡ scalar e at = look_there file l n at numbered entry ∙ rw (is l.refs) in
          let right : BytesRight file e (event_asked file e at) = rw look at (look_right file l n) in
          record { event = e; look = look; means = says _; asks = rw given (bare_plain e (rw given at right)) }
      go (found.bytes start k) is says = record { event = Data; look = look_there file l n at numbered entry ∙ rw (is l.refs); means = rw (is One) says.0; asks = rw (is One) (says.1, inl refl) }
      go (found.utf8 start k) is says = record { event = String; look = look_there file l n at numbered entry ∙ rw (is l.refs); means = rw (is One) says.0; asks = rw (is One) (says.1, inr (refl, says.2)) }
      go (found.utf16 start k) is says = record { event = String; look = look_there file l n at numbered entry ∙ rw (is l.refs); means = rw (is One) says.0; asks = rw (is One) (refl, says.1) }
      go (found.array k) is says = absurd says
      go (found.dictionary k) is says = absurd says

  list_shown : (refs : List ℕ) → ArrayReads file l at refs → ListShown (source_of file l) n at refs
  unfolding source_of look_in
  list_shown refs r = record {
    look = look_there file l n at numbered entry ∙ rw r.is;
    member = λ f i a h. due_there file l n at numbered entry f a.object a.kept ∙ rw (← a.stands) (r.member f a.long (rw a.stands h));
    end = λ f a. due_there file l n at numbered entry f a.object a.kept ∙ r.end f a.long a.stands;
  }

  pairs_shown : (keys values : List ℕ) → DictionaryReads file l at keys values → PairsShown (source_of file l) n at keys values
  unfolding source_of look_in
  pairs_shown keys values r = record {
    look = look_there file l n at numbered entry ∙ rw r.is;
    key = λ f i a h. due_there file l n at numbered entry f a.object a.kept ∙ r.key f a.long i h a.stands;
    value = λ f i a h. due_there file l n at numbered entry f a.object a.kept ∙ r.value f a.long i h a.stands;
    end = λ f a. due_there file l n at numbered entry f a.object a.kept ∙ r.end f a.long a.stands;
  }

  pub object_shown : (o : Object) → Fine (bytes_in l.refs) o → Whole file at (object_bytes (bytes_in l.refs) o) → Shown file (source_of file l) n at o
  unfolding object_bytes
  object_shown (lone m) h wh = scalar_shown m (scalar_reads file at m h.0 h.1 wh)
  object_shown (list refs) h wh = list_shown refs (array_reads file l at refs h.0 h.1 wh)
  object_shown (pairs keys values) h wh = pairs_shown keys values (dictionary_reads file l at keys values h.0 h.1 h.2 wh)
