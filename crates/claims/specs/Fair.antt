-- What a call may answer in a state that a fresh reader comes to by calls on one file, and what state it leaves: all that the claims
-- about answers need, shown once.
use Rattle.std.specs.Prelude.{true, List, ◌⊎◌, ◌≡◌, refl, ℕ, suc, ◌≤◌, ◌<◌}
use Rattle.std.proofs.Math.Logic.{inl}
use Rattle.std.proofs.Common.{inr, arith}
use Rattle.number.specs.Among.{among, among_not}
use Rattle.layout.specs.Bytes.{event_asked}
use Rattle.layout.specs.Layout.{due_of}
use Rattle.layout.specs.Trailer.{lays, eight_at, trailer_of}
use Rattle.layout.specs.declared.layout.Due.TheVariants.{Member}
use Rattle.layout.specs.declared.layout.Layout.{Layout}
use Rattle.reader.specs.Calls.{runs, answer_of}
use Rattle.reader.specs.CallsLaws.{runs_more}
use Rattle.reader.specs.Machine.{Said, event, ended, refused}
use Rattle.reader.specs.Next.{next_of}
use Rattle.reader.specs.NextLaws.{next_ended}
use Rattle.reader.specs.Request.{asked_of}
use Rattle.layout.specs.Refusals.{file_refusals}
use Rattle.reader.specs.Refusals.{step_refusals, step_refusal, not_file_14, not_file_15}
use Rattle.reader.specs.State.{max_open, fresh_reader, ended_reader, open_of, innermost}
use Rattle.reader.specs.declared.state.Reader.{Reader}
use Rattle.written_claims.specs.AskedLaws.{own_scalar, own_start, own_end}
use Rattle.claims.specs.Call as call
use Rattle.claims.specs.Call.{Call, inner, First, first}
use Rattle.claims.specs.Depth.{open_fewer, count_is}
use Rattle.claims.specs.Members.{At, member_at}
use Rattle.claims.specs.Open.{Open, Reached, fresh, over, within}
use Rattle.claims.specs.Reached.{reached, not_open}

-- the next reference of the innermost open container names an object that is open
pub record Recurs (file : List ℕ) (r : Reader) : Type 0 where
  pub layout : Layout
  pub root : ℕ
  pub says : trailer_of file ≡ lays layout root
  pub object : ℕ
  pub due : due_of file layout (innermost r) ≡ Member object
  pub at : At r.frames r.depth object

-- as many containers are open as may be, and the file has more objects
pub record Full (file : List ℕ) (r : Reader) : Type 0 where
  pub depth : max_open ≤ r.depth
  pub more : r.depth < eight_at file 8

-- a refusal has a step's number, which is never 16 or 17; 14 and 15 have their reason; and it ends the reader, unless that was fresh and still is
pub record Refusing (file : List ℕ) (r s : Reader) (number : ℕ) : Type 0 where
  pub known : among step_refusals number ≡ true
  pub recursive : number ≡ 14 → Recurs file r
  pub deep : number ≡ 15 → Full file r
  pub settled : (s ≡ ended_reader) ⊎ ((r ≡ fresh_reader) × (s ≡ fresh_reader))

-- of a record that is handed out the request is the object's own: where its bytes stand
abbrev pub Fair : List ℕ → Reader → Reader → Said → Type 0
Fair file r s (event e) = asked_of file e ≡ event_asked file e.event e.offset
Fair file r s ended = Unit {0}
Fair file r s (refused number values place) = Refusing file r s number

-- a refusal for another reason than 14 and 15
other : {file : List ℕ} {r s : Reader} (number : ℕ) → among file_refusals number ≡ true → (s ≡ ended_reader) ⊎ ((r ≡ fresh_reader) × (s ≡ fresh_reader)) → Refusing file r s number
other number h e =
    record {
      known = step_refusal number h;
      recursive = λ q. absurd (among_not file_refusals number 14 h not_file_14 q);
      deep = λ q. absurd (among_not file_refusals number 15 h not_file_15 q);
      settled = e;
    }

listed_14 : among step_refusals 14 ≡ true
unfolding step_refusals among
listed_14 = refl

listed_15 : among step_refusals 15 ≡ true
unfolding step_refusals among
listed_15 = refl

module _ (file : List ℕ) where
  fair_open : (r : Reader) (o : Open file r) → Call file o.layout r → Fair file r (next_of file r).state (next_of file r).answer
  unfolding open_of
  fair_open r o (call.closing e) = rw e (own_end file o.layout o.root o.short o.says _ _ _ _ (inner file r o).look)
  fair_open r o (call.refusing number values place h e) = rw e (other number h (inl refl))
  fair_open r o (call.passing n d v offset look e) = rw e (own_scalar file o.layout o.root o.short o.says n v offset look)
  fair_open r o (call.again n d m offset e) =
      rw e
      (record {
        known = listed_14;
        recursive = λ q. record { layout = o.layout; root = o.root; says = o.says; object = n; due = d; at = member_at r.frames r.depth n m };
        deep = λ q. absurd (omega arith);
        settled = inl refl;
      })
  fair_open r o (call.deep n d m h k offset e) =
      rw e
      (record {
        known = listed_15;
        recursive = λ q. absurd (omega arith);
        deep = λ q. record { depth = k; more = omega (arith, open_fewer file r o n h (not_open file r o n d m), count_is file r o) };
        settled = inl refl;
      })
  fair_open r o (call.entering n d m few s k offset look e) = rw e (own_start file o.layout o.root o.short o.says n s k offset look)

  fair_first : First file → Fair file fresh_reader (next_of file fresh_reader).state (next_of file fresh_reader).answer
  fair_first (call.keeping number values place h e) = rw e (other number h (inr (refl, refl)))
  fair_first (call.refusing number values place h e) = rw e (other number h (inl refl))
  fair_first (call.passing short l root says v offset look e) = rw e (own_scalar file l root short says root v offset look)
  fair_first (call.entering short l root says s k offset look e) = rw e (own_start file l root short says root s k offset look)

  pub fair_reached : (r : Reader) → Reached file r → Fair file r (next_of file r).state (next_of file r).answer
  fair_reached r (fresh e) = rw e (fair_first (first file))
  fair_reached r (over e) = rw (e, next_ended file ended_reader refl refl) tt
  fair_reached r (within o) = fair_open r o (call.call file r o)

  pub fair : (n : ℕ) → Fair file (runs file n) (runs file (suc n)) (answer_of file n)
  unfolding answer_of
  fair n = rw runs_more (fair_reached (runs file n) (reached file n))
