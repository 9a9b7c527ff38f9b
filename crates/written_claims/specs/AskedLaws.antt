-- The text request for what is looked up in a file that isn't too long and whose trailer is read: of a record with the object's number and offset it
-- asks for the bytes of that event. docs/FORMAT.md, R27.
use Rattle.std.specs.Prelude.{List, ◌≡◌, ℕ, ◌≤◌, length}
use Rattle.std.proofs.Common.{sym, ◌∙◌}
use Rattle.event.specs.Format.{max_length}
use Rattle.event.specs.declared.Event.{Event}
use Rattle.event.specs.declared.Event.TheVariants.{EndCollection}
use Rattle.object.specs.Object.{object_at}
use Rattle.layout.specs.Bytes.{found_asked}
use Rattle.layout.specs.FoundLaws.{start_asked_law, end_asked_law}
use Rattle.layout.specs.Layout.{look_of}
use Rattle.layout.specs.ListedLaws.{Seen, scalar_seen, container_seen, seen_listed, scalar_asked_law, container_asked}
use Rattle.layout.specs.Looked.{Looked, scalar, container, Shape, start_of}
use Rattle.layout.specs.Trailer.{lays, trailer_of}
use Rattle.layout.specs.declared.layout.Layout.{Layout}
use Rattle.reader.specs.Machine.{origin, record_of}
use Rattle.reader.specs.Request.{asked_of}
use Rattle.reader.specs.RequestLaws.{asked_there}
use Rattle.written_claims.specs.HandsOut.{AsksOwn}

module _ (file : List ℕ) (l : Layout) (root : ℕ) (short : length file ≤ max_length) (trailer : trailer_of file ≡ lays l root) (n : ℕ) where
  asked_seen : (e : Event) (offset : ℕ) (x : Looked) → Seen file l n offset x → asked_of file (record_of e (origin n offset)) ≡ found_asked e (object_at file l.refs offset)
  asked_seen e offset x s = asked_there file l root short trailer (record_of e (origin n offset)) (seen_listed file l n offset x s)

  pub own_scalar : (e : Event) (offset : ℕ) → look_of file l n ≡ scalar e offset → AsksOwn file e (origin n offset)
  own_scalar e offset h = asked_seen e offset (scalar e offset) (scalar_seen file l n e offset h) ∙ scalar_asked_law file l n e offset h

  -- of a container both its start and its end
  module _ (s : Shape) (k offset : ℕ) (h : look_of file l n ≡ container s k offset) where
    pub own_start : AsksOwn file (start_of s k) (origin n offset)
    own_start = asked_seen (start_of s k) offset (container s k offset) (container_seen file l n s k offset h) ∙ (container_asked file l n s k offset h).0 ∙ sym (start_asked_law file s k offset)

    pub own_end : AsksOwn file EndCollection (origin n offset)
    own_end = asked_seen EndCollection offset (container s k offset) (container_seen file l n s k offset h) ∙ (container_asked file l n s k offset h).1 ∙ sym (end_asked_law file offset)
