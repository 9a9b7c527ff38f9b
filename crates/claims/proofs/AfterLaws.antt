-- The state after each answer is what After says, whatever file is lent to whatever state.
use Rattle.std.specs.Prelude.{Bool, true, cond, not, ◌&&◌, List, [], ◌≡◌, ℕ, suc, ◌+◌, ◌*◌, ltb, leb, length, get_or, None, Option, Some}
use Rattle.std.proofs.Math.Bool.{false}
use Rattle.std.proofs.Math.Path.{refl}
use Rattle.std.proofs.Common.{add-one, arith}
use borrow.Author.Tests.{leb-true, eqb-true, ne_eqb}
use Rattle.std.proofs.Math.Dec.{eqb}
use Rattle.number.specs.Among.{among, among_more, among_not}
use Rattle.number.specs.Width.{bytes_in, width_of}
use Rattle.number.specs.declared.width.Width.{Width}
use Rattle.event.specs.Format.{magic}
use Rattle.object.specs.Content.{trailer_at}
use Rattle.object.specs.Refusal.{object_refusals}
use Rattle.layout.specs.Refusals.{look_refusals, Faults}
use Rattle.reader.specs.Calls.{runs, answer_of}
use Rattle.reader.specs.CallsLaws.{runs_more}
use Rattle.reader.specs.Refusals.{end_refusals}
use Rattle.layout.specs.LookLaws.{LookedRight, look_right, Laid, never_missing}
use Rattle.number.specs.Either.{either}
use Rattle.layout.specs.Layout.{look_of, source_of}
use Rattle.layout.specs.Looked.{Looked, barred, missing, faulty, scalar, container, Shape}
use Rattle.layout.specs.Trailer.{Trailer, lays, begins, eight_at, table_of, ref_size_of, sizes_of, trailer_of}
use Rattle.layout.specs.declared.layout.Due.{Due}
use Rattle.layout.specs.declared.layout.Due.TheVariants.{Wrong, Close, Member}
use Rattle.layout.specs.declared.layout.Layout.{Layout}
use Rattle.reader.specs.Machine.{ended, refused, Step, step, enter, arrive, follow, step_of}
use Rattle.reader.specs.Next.{laid_out, begin, with_refs, go_on, next_of}
use Rattle.reader.specs.State.{max_open, max_length, ended_reader, open_of, innermost, member_of}
use Rattle.reader.specs.declared.state.Reader.{Reader}
use Rattle.claims.specs.Ended.{Done, done_ended, done_answers}
use Rattle.claims.specs.After.{unchanged, After}

module _ (file : List ℕ) (r : Reader) where
  -- the refusals of an object and of a reference, 14 and 15 end
  pub listed_ends : (number : ℕ) → among end_refusals number ≡ true → unchanged file number ≡ false
  unfolding unchanged end_refusals look_refusals object_refusals among
  listed_ends number h =
      let no : (m : ℕ) → among end_refusals m ≡ false → eqb number m ≡ false = λ m n. ne_eqb number m (among_not end_refusals number m h n) in
      rw (no 1 refl, no 2 refl, no 3 refl, no 4 refl, no 5 refl, no 16 refl, no 17 refl)

  abbrev Leaves : Step → Type 0
  Leaves x = After file r x.state x.answer

  wrong_leaves : Leaves (step r (refused 17 [] 0))
  unfolding unchanged
  wrong_leaves = refl

  faults_end : (number : ℕ) → Faults number → unchanged file number ≡ false
  unfolding end_refusals
  faults_end number h = listed_ends number (among_more 14 _ number (among_more 15 _ number h))

  enter_leaves : (s : Reader) (n : ℕ) (shape : Shape) (k offset : ℕ) → Leaves (enter s n shape k offset)
  unfolding enter unchanged
  enter_leaves s n shape k offset = either Leaves (member_of (open_of s) n) _ _ (λ e. refl) (λ e. either Leaves (leb max_open s.depth) _ _ (λ e. refl) (λ e. tt))

  arrive_leaves : (s : Reader) (l : Layout) (n : ℕ) (x : Looked) → LookedRight file l n x → (x ≡ missing → s ≡ r) → Leaves (arrive s n x)
  unfolding arrive unchanged
  arrive_leaves s l n (barred number values) k m = rw (faults_end number k)
  arrive_leaves s l n missing k m = m refl
  arrive_leaves s l n (faulty number values place) k m = rw (faults_end number k)
  arrive_leaves s l n (scalar e offset) k m = tt
  arrive_leaves s l n (container shape k offset) st m = enter_leaves s n shape k offset

  follow_leaves : (l : Layout) (d : Due) → Leaves (follow (source_of file l) r d)
  unfolding follow source_of
  follow_leaves l Wrong = wrong_leaves
  follow_leaves l (Close offset) = tt
  follow_leaves l (Member n) = arrive_leaves r l n (look_of file l n) (look_right file l n) (λ e. refl)

  refs_leaves : (offsets : Width) (s : Option Width) → Leaves (with_refs file r offsets s)
  unfolding with_refs step_of
  refs_leaves offsets (Some refs) = follow_leaves _ ((source_of file _).due (innermost r))
  refs_leaves offsets None = wrong_leaves

  go_leaves : (s t : Option Width) → Leaves (go_on file r s t)
  unfolding go_on
  go_leaves (Some offsets) t = refs_leaves offsets t
  go_leaves None t = wrong_leaves

  -- the trailer
  abbrev Begins : Trailer → Type 0
  Begins t = Leaves (begin file r t)

  laid_leaves : (l : Layout) (root : ℕ) → Laid file l → Leaves (begin file r (lays l root))
  unfolding begin
  laid_leaves l root laid =
      arrive_leaves (laid_out file l) l root (look_of file l root) (look_right file l root) (λ e. absurd (never_missing file l laid root e))

  table_leaves : (offsets refs : Width) → Leaves (begin file r (table_of file offsets refs))
  unfolding table_of begin unchanged
  table_leaves offsets refs = either Begins (leb (eight_at file 24 + eight_at file 8 * bytes_in offsets) (trailer_at file)) _ _ (λ e. laid_leaves _ (eight_at file 16) (leb-true _ _ e)) (λ e. refl)

  ref_leaves : (offsets : Width) (s : Option Width) → Leaves (begin file r (ref_size_of file offsets s))
  unfolding ref_size_of begin unchanged
  ref_leaves offsets (Some refs) = table_leaves offsets refs
  ref_leaves offsets None = either Begins (eqb (get_or file (trailer_at file + 7) 0) 0) _ _ (λ e. rw e) (λ e. rw e)

  sizes_leaves : (s : Option Width) → Leaves (begin file r (sizes_of file s))
  unfolding sizes_of begin unchanged
  sizes_leaves (Some offsets) = ref_leaves offsets (width_of (get_or file (trailer_at file + 7) 0))
  sizes_leaves None = refl

  begin_leaves : Leaves (begin file r (trailer_of file))
  unfolding trailer_of begin unchanged
  begin_leaves =
      either Begins (ltb (length file) 8) _ _
      (λ e. refl)
      (λ e. either Begins (begins magic file) _ _
      (λ e. either Begins (ltb (length file) 32) _ _
      (λ e. refl)
      (λ e. sizes_leaves (width_of (get_or file (trailer_at file + 6) 0))))
      (λ e. refl))

  both : (a b : Bool) → (not a && b) ≡ true → (a ≡ false) × (b ≡ true)
  both true b e = let z : ◌≡◌ {A = ℕ} 0 1 = cc in absurd (omega arith)
  both false b e = (refl, e)

  pub leaves : Leaves (next_of file r)
  unfolding next_of unchanged
  leaves =
      either Leaves (not r.fresh && eqb r.depth 0) _ _
      (λ e. let t = both r.fresh (eqb r.depth 0) e in (refl, record { old = t.0; none = eqb-true _ _ t.1 }))
      (λ e. either Leaves (ltb max_length (length file)) _ _ (λ e. refl)
      (λ e. either Leaves r.fresh _ _ (λ e. begin_leaves)
      (λ e. either Leaves (not (eqb r.length (length file))) _ _ (λ e. wrong_leaves)
      (λ e. either Leaves (ltb max_open r.depth) _ _ (λ e. wrong_leaves)
      (λ e. go_leaves (width_of r.offsets) (width_of r.refs))))))

  -- the state after a refusal
  pub state_after : (number : ℕ) (values : List ℕ) (place : ℕ) → (next_of file r).answer ≡ refused number values place → (next_of file r).state ≡ cond (unchanged file number) r ended_reader
  state_after number values place a = rw a at leaves

  -- those refusals end, whatever the file and the state
  pub refusal_ends : (number : ℕ) (values : List ℕ) (place : ℕ) → (next_of file r).answer ≡ refused number values place → among end_refusals number ≡ true → (next_of file r).state ≡ ended_reader
  refusal_ends number values place a h = rw (listed_ends number h) at (state_after number values place a)

  -- the answer ended comes of an ended state, which it leaves
  pub after_ended : (next_of file r).answer ≡ ended → Done (next_of file r).state
  after_ended a =
      let t : ((next_of file r).state ≡ r) × Done r = rw a at leaves in
      rw t.0 t.1

-- over calls of a fresh reader on one file: after the answer ended every answer is ended
pub ended_again : (file : List ℕ) (n m : ℕ) → answer_of file n ≡ ended → answer_of file (n + 1 + m) ≡ ended
unfolding answer_of
ended_again file n m a = rw add-one (done_answers file (suc n) (rw runs_more (after_ended file (runs file n) a)) m)

-- and so it is after such a refusal
pub ended_after_refusal : (file : List ℕ) (n m number : ℕ) (values : List ℕ) (place : ℕ) → answer_of file n ≡ refused number values place → among end_refusals number ≡ true
    → answer_of file (n + 1 + m) ≡ ended
unfolding answer_of
ended_after_refusal file n m number values place a h =
    rw add-one (done_answers file (suc n) (rw (runs_more, refusal_ends file (runs file n) number values place a h) done_ended) m)
