-- Where each event comes from: over any number of calls from a fresh reader on one file, the record that a call hands out holds an object's number
-- and that number's entry of the offset table. The number is the root's for the first; for an end that of the container which was innermost; else the
-- reference that was due in it. docs/FORMAT.md, R18.
use Rattle.std.proofs.Math.Option.{Option, some}
use Rattle.std.specs.Prelude.{Bool, true, false, cond, List, ◌≡◌, refl, ℕ, ◌<◌, Some}
use Rattle.std.proofs.Common.{arith}
use Rattle.std.proofs.Math.ListN.{get_elem?}
use Rattle.event.specs.declared.Event.{Event}
use Rattle.event.specs.declared.Event.TheVariants.{StartArray, StartDictionary, EndCollection, Boolean, Data, Date, Integer, Real, Nan, String, Uid}
use Rattle.object.specs.KnownLaws.{Plain}
use Rattle.object.specs.Object.{Found, object_at}
use Rattle.object.specs.Object as found
use Rattle.object.specs.declared.container.Container.{Container}
use Rattle.layout.specs.FoundLaws.{Sound, sound}
use Rattle.layout.specs.Layout.{entry_at, due_of, look_in}
use Rattle.layout.specs.ListedLaws.{scalar_seen, container_seen}
use Rattle.layout.specs.Looked.{scalar, Shape, array, dictionary, start_of}
use Rattle.layout.specs.References.{references_of}
use Rattle.layout.specs.Trailer.{lays, trailer_of}
use Rattle.layout.specs.declared.layout.Due.TheVariants.{Member}
use Rattle.layout.specs.declared.layout.Layout.{Layout}
use Rattle.reader.specs.Calls.{runs, answer_of}
use Rattle.reader.specs.Machine.{Said, event, ended, refused}
use Rattle.reader.specs.Next.{next_of}
use Rattle.reader.specs.NextLaws.{next_ended}
use Rattle.reader.specs.State.{fresh_reader, ended_reader, innermost}
use Rattle.reader.specs.declared.answer.Record.{Record}
use Rattle.reader.specs.declared.state.Reader.{Reader}
use Rattle.claims.specs.Call as call
use Rattle.claims.specs.Call.{Call, inner, First, first}
use Rattle.claims.specs.Element.{due_names}
use Rattle.claims.specs.Open.{frame_at, Open, Reached, fresh, over, within}
use Rattle.claims.specs.Reached.{reached}

unfoldable pub is_end : Event → Bool
is_end (StartArray n) = false
is_end (StartDictionary n) = false
is_end EndCollection = true
is_end (Boolean b) = false
is_end Data = false
is_end (Date b) = false
is_end (Integer i) = false
is_end (Real x) = false
is_end (Nan b) = false
is_end String = false
is_end (Uid n) = false

-- the number that is due in a reader's state, by the event that is handed out: the root's where it is fresh; of an end the innermost container's; else
-- the reference of that container at its position
unfoldable pub number_due : List ℕ → Layout → ℕ → Reader → Event → Option ℕ
number_due file l root r e =
    cond r.fresh (some root)
    (cond (is_end e) (some (innermost r).object) (get_elem? (references_of file l (innermost r).object) (innermost r).position))

-- a record that a call in a state hands out: the trailer gives a layout and a root, its number is the one that is due, and the table has its offset
-- under it
pub record Comes (file : List ℕ) (r : Reader) (q : Record) : Type 0 where
  pub layout : Layout
  pub root : ℕ
  pub says : trailer_of file ≡ lays layout root
  pub named : number_due file layout root r q.event ≡ some q.number
  pub numbered : q.number < layout.count
  pub entry : entry_at file layout q.number ≡ Some q.offset

-- no scalar that is looked up is an end, nor is a start
plain_goes_on : (e : Event) → Plain e → is_end e ≡ false
unfolding is_end
plain_goes_on (StartArray n) h = refl
plain_goes_on (StartDictionary n) h = refl
plain_goes_on EndCollection h = absurd h
plain_goes_on (Boolean b) h = refl
plain_goes_on Data h = refl
plain_goes_on (Date b) h = refl
plain_goes_on (Integer i) h = refl
plain_goes_on (Real x) h = refl
plain_goes_on (Nan b) h = refl
plain_goes_on String h = refl
plain_goes_on (Uid n) h = refl

found_goes_on : (file : List ℕ) (each offset : ℕ) (y : Found) (c : Container) (x : Found) → Sound file each x y c → (e : Event) → look_in offset x ≡ scalar e offset → is_end e ≡ false
unfolding look_in is_end
found_goes_on file each offset y c found.outside h e q = let z : ◌≡◌ {A = ℕ} 0 1 = cc in absurd (omega arith)
found_goes_on file each offset y c (found.refused number values) h e q = let z : ◌≡◌ {A = ℕ} 0 1 = cc in absurd (omega arith)
found_goes_on file each offset y c (found.scalar v) h e q = let p : v ≡ e = cc in rw (← p) (plain_goes_on v h.1)
found_goes_on file each offset y c (found.bytes start n) h e q = let p : Data ≡ e = cc in rw (← p)
found_goes_on file each offset y c (found.utf8 start n) h e q = let p : String ≡ e = cc in rw (← p)
found_goes_on file each offset y c (found.utf16 start n) h e q = let p : String ≡ e = cc in rw (← p)
found_goes_on file each offset y c (found.array n) h e q = let z : ◌≡◌ {A = ℕ} 0 1 = cc in absurd (omega arith)
found_goes_on file each offset y c (found.dictionary n) h e q = let z : ◌≡◌ {A = ℕ} 0 1 = cc in absurd (omega arith)

start_goes_on : (s : Shape) (k : ℕ) → is_end (start_of s k) ≡ false
unfolding is_end start_of
start_goes_on array k = refl
start_goes_on dictionary k = refl

-- an answer: a record comes from where it should
abbrev Traced : List ℕ → Reader → Said → Type 0
Traced file r (event q) = Comes file r q
Traced file r ended = Unit {0}
Traced file r (refused number values place) = Unit {0}

module _ (file : List ℕ) where
  -- the reference that is due
  member_due : (l : Layout) (root : ℕ) (r : Reader) → r.fresh ≡ false → (e : Event) → is_end e ≡ false → (n : ℕ) → due_of file l (innermost r) ≡ Member n → number_due file l root r e ≡ some n
  unfolding number_due innermost
  member_due l root r old e goes n d = rw (old, goes) (due_names file l (innermost r) n d)

  traced_open : (r : Reader) (o : Open file r) → Call file o.layout r → Traced file r (next_of file r).answer
  unfolding number_due is_end
  traced_open r o (call.closing e) =
      let t = inner file r o in
      rw e (record { layout = o.layout; root = o.root; says = o.says; named = rw o.old; numbered = t.standing.numbered; entry = t.standing.entry })
  traced_open r o (call.refusing number values place h e) = rw e tt
  traced_open r o (call.passing n d v offset look e) =
      let s = scalar_seen file o.layout n v offset look in
      let goes = found_goes_on file _ offset _ _ (object_at file o.layout.refs offset) (sound file o.layout.refs offset) v s.there in
      rw e (record { layout = o.layout; root = o.root; says = o.says; named = member_due o.layout o.root r o.old v goes n d; numbered = s.numbered; entry = s.entry })
  traced_open r o (call.again n d m offset e) = rw e tt
  traced_open r o (call.deep n d m h k offset e) = rw e tt
  traced_open r o (call.entering n d m few shape k offset look e) =
      let s = container_seen file o.layout n shape k offset look in
      rw e (record { layout = o.layout; root = o.root; says = o.says; named = member_due o.layout o.root r o.old (start_of shape k) (start_goes_on shape k) n d; numbered = s.numbered; entry = s.entry })

  traced_first : First file → Traced file fresh_reader (next_of file fresh_reader).answer
  unfolding number_due
  traced_first (call.keeping number values place h e) = rw e tt
  traced_first (call.refusing number values place h e) = rw e tt
  traced_first (call.passing short l root says v offset look e) =
      let s = scalar_seen file l root v offset look in
      rw e (record { layout = l; root = root; says = says; named = refl; numbered = s.numbered; entry = s.entry })
  traced_first (call.entering short l root says shape k offset look e) =
      let s = container_seen file l root shape k offset look in
      rw e (record { layout = l; root = root; says = says; named = refl; numbered = s.numbered; entry = s.entry })

  traced : (r : Reader) → Reached file r → Traced file r (next_of file r).answer
  traced r (fresh e) = rw e (traced_first (first file))
  traced r (over e) = rw (e, next_ended file ended_reader refl refl) tt
  traced r (within o) = traced_open r o (call.call file r o)

  -- the claim
  pub comes_from : (n : ℕ) (q : Record) → answer_of file n ≡ event q → Comes file (runs file n) q
  unfolding answer_of
  comes_from n q e = rw e at (traced (runs file n) (reached file n))

-- with an open container each frame keeps its object's entry of the table
pub offsets_kept : (file : List ℕ) (r : Reader) (o : Open file r) (i : ℕ) → i < r.depth → entry_at file o.layout (frame_at r.frames i).object ≡ Some (frame_at r.frames i).offset
offsets_kept file r o i h = (o.stack.opened i h).standing.entry
