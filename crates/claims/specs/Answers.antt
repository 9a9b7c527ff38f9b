-- What a fresh reader never answers on one file, over any number of calls: 17; 15 where the file has few objects; a record that the file is
-- then said not to give.
use Rattle.std.specs.Prelude.{true, List, ◌≡◌, refl, ℕ, suc, ◌≤◌}
use Rattle.std.proofs.Common.{arith}
use Rattle.number.specs.Among.{among, among_not}
use Rattle.event.specs.declared.Event.{Event}
use Rattle.layout.specs.FoundLaws.{refs_of}
use Rattle.layout.specs.LookLaws.{never_missing}
use Rattle.layout.specs.Layout.{due_of, look_of}
use Rattle.layout.specs.Looked.{missing}
use Rattle.layout.specs.Bytes.{Asked, in_file, in_utf16, no_bytes, denied, event_asked}
use Rattle.layout.specs.Trailer.{eight_at}
use Rattle.layout.specs.declared.layout.Due.TheVariants.{Wrong}
use Rattle.reader.specs.Calls.{runs, answer_of}
use Rattle.reader.specs.Machine.{event, refused}
use Rattle.reader.specs.Next.{next_of}
use Rattle.reader.specs.Refusals.{step_refusals, not_step_16, not_step_17}
use Rattle.reader.specs.Request.{asked_of}
use Rattle.reader.specs.State.{max_open, innermost}
use Rattle.reader.specs.declared.answer.Record.{Record}
use Rattle.reader.specs.declared.state.Reader.{Reader}
use Rattle.transcribe.specs.HandedLaws.{Given as Stands, next_handed}
use Rattle.claims.specs.Call.{inner}
use Rattle.claims.specs.Due.{Pending, end, reference}
use Rattle.claims.specs.Fair.{Refusing, fair, fair_reached}
use Rattle.claims.specs.Look.{Given}
use Rattle.claims.specs.Open.{opened_pending, Open, Reached}
use Rattle.claims.specs.Reached.{reached}

-- a refusal of such a call has a step's number
pub known_number : (file : List ℕ) (n number : ℕ) (values : List ℕ) (place : ℕ) → answer_of file n ≡ refused number values place → among step_refusals number ≡ true
known_number file n number values place e = let h : Refusing file (runs file n) (runs file (suc n)) number = rw e at (fair file n) in h.known

-- 17 never comes on the file that a state came from (docs/FORMAT.md, R23)
pub never_wrong_file : (file : List ℕ) (n : ℕ) (values : List ℕ) (place : ℕ) → answer_of file n ≡ refused 17 values place → ⊥
never_wrong_file file n values place e = among_not step_refusals 17 17 (known_number file n 17 values place e) not_step_17 refl

-- 16 is the text request's alone
pub never_no_room : (file : List ℕ) (n : ℕ) (values : List ℕ) (place : ℕ) → answer_of file n ≡ refused 16 values place → ⊥
never_no_room file n values place e = among_not step_refusals 16 16 (known_number file n 16 values place e) not_step_16 refl

-- a record that a call of such a reader hands out is given by that file
given_is : (file : List ℕ) (e : Event) (a : Asked) → Stands file e a → Given a
given_is file e (in_file start n) g = tt
given_is file e (in_utf16 start n) g = tt
given_is file e no_bytes g = tt
given_is file e (denied number values) g = g

pub handed_given : (file : List ℕ) (s : Reader) → Reached file s → (r : Record) → (next_of file s).answer ≡ event r → Given (asked_of file r)
handed_given file s reach r e =
    let g : Stands file r.event (event_asked file r.event r.offset) = rw e at (next_handed file s) in
    let own : asked_of file r ≡ event_asked file r.event r.offset = rw e at (fair_reached file s reach) in
    rw own (given_is file r.event (event_asked file r.event r.offset) g)

-- and so 17 never comes for it, nor 1: whatever the record is, it is given (docs/FORMAT.md, R31)
pub never_wrong_record : (file : List ℕ) (n : ℕ) (r : Record) → answer_of file n ≡ event r → Given (asked_of file r)
unfolding answer_of
never_wrong_record file n r e = handed_given file (runs file n) (reached file n) r e

pub never_denied : (file : List ℕ) (n : ℕ) (r : Record) → answer_of file n ≡ event r → (number : ℕ) (values : List ℕ) → asked_of file r ≡ denied number values → ⊥
never_denied file n r e number values d = rw d at (never_wrong_record file n r e)

-- a file that has at most as many objects as containers may be open is never refused with 15
pub never_deep : (file : List ℕ) → eight_at file 8 ≤ max_open → (n : ℕ) (values : List ℕ) (place : ℕ) → answer_of file n ≡ refused 15 values place → ⊥
never_deep file small n values place e =
    let h : Refusing file (runs file n) (runs file (suc n)) 15 = rw e at (fair file n) in
    let f = h.deep refl in
    omega arith

-- why: in a state that such calls come to, what is due is never wrong, and no object is missing
module _ (file : List ℕ) (r : Reader) (o : Open file r) where
  pub due_never_wrong : due_of file o.layout (innermost r) ≡ Wrong → ⊥
  due_never_wrong e = go (opened_pending (inner file r o))
    where
      go : Pending file o.layout (innermost r) (refs_of (inner file r o).shape (innermost r).length) (innermost r).offset → ⊥
      go (end d) = let z : ◌≡◌ {A = ℕ} 0 1 = cc in omega arith
      go (reference h m d) = let z : ◌≡◌ {A = ℕ} 0 1 = cc in omega arith

  pub look_never_missing : (n : ℕ) → look_of file o.layout n ≡ missing → ⊥
  look_never_missing n = never_missing file o.layout o.laid n
