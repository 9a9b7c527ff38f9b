-- A transcript holds what the reader's answers mean, in order, and ends as the next answer says.
use Rattle.std.specs.Prelude.{Bool, ◌⊎◌, ◌≡◌, take}
use Rattle.std.proofs.Math.Bool.{true, false}
use Rattle.std.proofs.Common.{true≢false, inl, inr, ap, ◌∙◌, zero-add, add-zero, length-drop, take_at, drop_at}
use mathlib.Core.List.{List, [], ◌∷◌, ◌++◌, map}
use Rattle.std.proofs.Math.Path.{refl, sym}
use Prim.Native.Nat.{ℕ, zero, suc, ◌+◌, ◌-◌, ◌≤◌, ◌<◌}
use Rattle.std.proofs.Math.Nat.{sub-zero}
use native.Mathlib.Omega.{arith}
use borrow.Author.Tests.{leb-true, leb-false, le-leb}
use Rattle.std.proofs.Math.Dec.{leb}
use Rattle.std.proofs.Math.ListN.{length, drop, length-append}
use Rattle.std.proofs.lemmas.List.Edits.{sets, sets-eq}
use Rattle.std.proofs.Math.Seq.{length-sets, take-append_seam}
use Rattle.number.specs.BeLaws.{Bytes}
use Rattle.utf.specs.Unicode.{to_utf8}
use Rattle.event.specs.Meaning.{Meaning, text, meaning_of}
use Rattle.event.specs.declared.Event.{Event}
use Rattle.event.specs.declared.Event.TheVariants.{String}
use Rattle.number.specs.Part.{part}
use Rattle.layout.specs.Bytes.{has_bytes, Asked, in_file, in_utf16, no_bytes, denied, event_asked}
use Rattle.layout.specs.LookLaws.{bare_plain}
use Rattle.reader.specs.Machine.{Said, Origin, origin, event, event_at}
use Rattle.reader.specs.Machine as reader
use Rattle.reader.specs.Meanings.{Told, means, bytes_asked, meaning_at, told, answers}
use Rattle.reader.specs.Meanings as meanings
use Rattle.reader.specs.Next.{next_of}
use Rattle.reader.specs.Refusals.{not_step_16, not_step_27}
use Rattle.reader.specs.Request.{length_said, scratch_after, part_said}
use Rattle.reader.specs.State.{fresh_reader}
use Rattle.reader.specs.declared.state.Reader.{Reader}
use Rattle.tape.specs.Append.{put_of, put_to, fits, append_of, append_to}
use Rattle.utf.proofs.Writing.{sets_append}
use Rattle.tape.specs.Code.{bytes_for, allowed}
use Rattle.tape.specs.Events.{tape_of}
use Rattle.transcribe.specs.HandedLaws.{Given, Own, Handed, next_handed, plain_same, own_not, given_allowed}
use Rattle.transcribe.specs.Note.{Note, noting, from_tape, put_note, text_note, note_of}
use Rattle.transcribe.specs.Note as note
use Rattle.transcribe.specs.Run.{End, ended, stopped, refused, Run, run, by_noted, by_note, by_said, run_of, transcript_of}

-- an event that was put on the tape: what it means, and the offset that it was handed out with
pub record Put : Type 0 where
  pub meaning : Meaning
  pub offset : ℕ

-- the answers that they were, and what they mean
abbrev pub told_of : List Put → List Told
told_of ps = map (λ (p : Put). means p.meaning p.offset) ps

abbrev pub meanings_of : List Put → List Meaning
meanings_of ps = map (λ (p : Put). p.meaning) ps

-- the text of so many bytes of UTF-16 in a file
abbrev pub utf16_text : List ℕ → ℕ → ℕ → List ℕ
utf16_text file start n = to_utf8 (part file start n)

-- text whose UTF-8 the scratch is too short for stands as UTF-16 in the file
pub record NoScratch (file scratch : List ℕ) (m : Meaning) (offset number : ℕ) (values : List ℕ) (place : ℕ) : Type 0 where
  pub says : (number ≡ 16) × (values ≡ []) × (place ≡ offset)
  pub start : ℕ
  pub count : ℕ
  pub stands : event_asked file String offset ≡ in_utf16 start count
  pub is : m ≡ text (utf16_text file start count)
  pub long : length scratch < length (utf16_text file start count)

-- an event whose bytes don't fit behind those held
pub record NoTape (tape : List ℕ) (held : ℕ) (m : Meaning) (number : ℕ) (values : List ℕ) (place : ℕ) : Type 0 where
  pub says : (number ≡ 27) × (values ≡ []) × (place ≡ held)
  pub long : length tape < held + length (bytes_for m)

-- a refusal, by the reader's next answer: the reader's own; or of an event, by the scratch or by the tape
abbrev pub Refuses : List ℕ → List ℕ → List ℕ → ℕ → Told → ℕ → List ℕ → ℕ → Type 0
Refuses file scratch tape held (means m offset) number values place =
    NoScratch file scratch m offset number values place ⊎ NoTape tape held m number values place
Refuses file scratch tape held meanings.ended number values place = ⊥
Refuses file scratch tape held (meanings.refused a b c) number values place = (number ≡ a) × (values ≡ b) × (place ≡ c) × Own number

-- an ending, by the reader's next answer; left is how many events more the budget has
abbrev pub Ends : List ℕ → List ℕ → List ℕ → ℕ → ℕ → Told → End → Type 0
Ends file scratch tape held left next ended = next ≡ meanings.ended
Ends file scratch tape held left next stopped = left ≡ 0
Ends file scratch tape held left next (refused number values place) = Refuses file scratch tape held next number values place

-- what a run of at most n events is: the first answers of the reader are events, their bytes stand behind those held before, and the answer
-- that follows tells why it ends
pub record Transcribed (n : ℕ) (file scratch tape : List ℕ) (held : ℕ) (r : Reader) (x : Run) : Type 0 where
  pub puts : List Put
  pub next : Told
  pub within : length puts ≤ n
  pub in_order : answers (length puts) file r ≡ told_of puts
  pub follows : answers (suc (length puts)) file r ≡ told_of puts ++ (next ∷ [])
  pub held_is : x.held ≡ held + length (tape_of (meanings_of puts))
  pub tape_is : x.tape ≡ sets tape held (tape_of (meanings_of puts))
  pub room : held ≤ length tape → x.held ≤ length tape
  pub scratch_is : length x.scratch ≡ length scratch
  pub ends : Ends file scratch tape x.held (n - length puts) next x.ending

-- what noting an event does: its text is too long for the scratch, or it is appended by its meaning
pub data Notes (file scratch tape : List ℕ) (held : ℕ) (m : Meaning) (offset : ℕ) (x : Note) : Type 0 where
  puts : (s : List ℕ) → length s ≡ length scratch → x ≡ put_note s tape held m → Notes file scratch tape held m offset x
  lacks : NoScratch file scratch m offset 16 [] offset → x ≡ noting (note.refused 16 [] offset) tape scratch → Notes file scratch tape held m offset x

module _ (file scratch tape : List ℕ) (held : ℕ) (e : Event) (offset : ℕ) where
  note_plain : has_bytes e ≡ false → note_of file scratch tape held e offset ≡ put_note scratch tape held (meaning_at file e offset)
  unfolding note_of meaning_at
  note_plain h = rw (h, plain_same e (bytes_asked file (event_asked file e offset)) h)

  module _ (h : has_bytes e ≡ true) (start n : ℕ) where
    pub note_file : event_asked file e offset ≡ in_file start n → note_of file scratch tape held e offset ≡ put_note scratch tape held (meaning_at file e offset)
    unfolding note_of text_note length_said scratch_after part_said meaning_at bytes_asked
    note_file d = rw (h, d, length_said, text_note, d, scratch_after, part_said)

    module _ (d : event_asked file e offset ≡ in_utf16 start n) where
      pub note_long : leb (length (utf16_text file start n)) (length scratch) ≡ false → note_of file scratch tape held e offset ≡ noting (note.refused 16 [] offset) tape scratch
      unfolding note_of text_note length_said scratch_after
      note_long f = rw (h, d, length_said, f, text_note, d, scratch_after, f)

      pub note_changed : leb (length (utf16_text file start n)) (length scratch) ≡ true → note_of file scratch tape held e offset ≡ put_note (utf16_text file start n ++ drop (length (utf16_text file start n)) scratch) tape held (meaning_at file e offset)
      unfolding note_of text_note length_said scratch_after part_said meaning_at bytes_asked
      note_changed f =
          let t : List ℕ = utf16_text file start n in
          let g : leb (length t) (length (t ++ drop (length t) scratch)) ≡ true = le-leb (length t) (length (t ++ drop (length t) scratch)) (simp length-append (omega arith)) in
          rw (h, d, length_said, f, text_note, d, scratch_after, f, part_said, d, scratch_after, f, g, take-append_seam t (drop (length t) scratch))

      note_utf16 : e ≡ String → Notes file scratch tape held (meaning_at file e offset) offset (note_of file scratch tape held e offset)
      unfolding meaning_at bytes_asked meaning_of
      note_utf16 k = go (leb (length (utf16_text file start n)) (length scratch)) refl
        where
          go : (b : Bool) → leb (length (utf16_text file start n)) (length scratch) ≡ b → Notes file scratch tape held (meaning_at file e offset) offset (note_of file scratch tape held e offset)
          go true f =
              let l : length (utf16_text file start n) ≤ length scratch = leb-true _ _ f in
              puts (utf16_text file start n ++ drop (length (utf16_text file start n)) scratch) (rw (length-append, length-drop) (omega arith)) (note_changed f)
          go false f =
              lacks (record { says = (refl, refl, refl); start = start; count = n; stands = rw (← k) d; is = rw (d, k); long = leb-false _ _ f }) (note_long f)

  note_asked : (a : Asked) → event_asked file e offset ≡ a → Given file e a → has_bytes e ≡ true → Notes file scratch tape held (meaning_at file e offset) offset (note_of file scratch tape held e offset)
  note_asked no_bytes d g h = absurd (true≢false (sym h ∙ bare_plain e g))
  note_asked (denied number values) d g h = absurd g
  note_asked (in_file start n) d g h = puts scratch refl (note_file h start n d)
  note_asked (in_utf16 start n) d g h = note_utf16 h start n d g.0

  pub notes : Given file e (event_asked file e offset) → Notes file scratch tape held (meaning_at file e offset) offset (note_of file scratch tape held e offset)
  notes g = go (has_bytes e) refl
    where
      go : (b : Bool) → has_bytes e ≡ b → Notes file scratch tape held (meaning_at file e offset) offset (note_of file scratch tape held e offset)
      go true h = note_asked (event_asked file e offset) refl g h
      go false h = puts scratch refl (note_plain h)

-- it ends here
stop_here : (n : ℕ) (file scratch tape : List ℕ) (held : ℕ) (r : Reader) (s : List ℕ) (end : End) → length s ≡ length scratch → Ends file scratch tape held n (told file (next_of file r).answer) end → Transcribed n file scratch tape held r (run end held tape s)
unfolding answers tape_of
stop_here n file scratch tape held r s end l e =
    record {
      puts = [];
      next = told file (next_of file r).answer;
      within = omega arith;
      in_order = refl;
      follows = refl;
      held_is = sym (add-zero held);
      tape_is = refl;
      room = λ h. h;
      scratch_is = l;
      ends = rw sub-zero e;
    }

-- the reason for an ending is the same with lent memories of the same lengths
refuses_same : (file s scratch t tape : List ℕ) (held : ℕ) → length s ≡ length scratch → length t ≡ length tape → (next : Told) (number : ℕ) (values : List ℕ) (place : ℕ) → Refuses file s t held next number values place → Refuses file scratch tape held next number values place
refuses_same file s scratch t tape held l k (means m offset) number values place (inl w) =
    inl (record { says = w.says; start = w.start; count = w.count; stands = w.stands; is = w.is; long = rw (← l) w.long })
refuses_same file s scratch t tape held l k (means m offset) number values place (inr w) = inr (record { says = w.says; long = rw (← k) w.long })
refuses_same file s scratch t tape held l k meanings.ended number values place w = w
refuses_same file s scratch t tape held l k (meanings.refused a b c) number values place w = w

ends_same : (file s scratch t tape : List ℕ) (held left : ℕ) → length s ≡ length scratch → length t ≡ length tape → (next : Told) (end : End) → Ends file s t held left next end → Ends file scratch tape held left next end
ends_same file s scratch t tape held left l k next ended w = w
ends_same file s scratch t tape held left l k next stopped w = w
ends_same file s scratch t tape held left l k next (refused number values place) w = refuses_same file s scratch t tape held l k next number values place w

module _ (n : ℕ) (file scratch tape : List ℕ) (held : ℕ) (r : Reader) (e : Event) (o : Origin) (called : (next_of file r).answer ≡ event_at e o) where
  abbrev means_now : Meaning
  means_now = meaning_at file e o.offset

  -- it goes on
  go_on : (s : List ℕ) (x : Run) → length s ≡ length scratch → held + length (bytes_for means_now) ≤ length tape → Transcribed n file s (sets tape held (bytes_for means_now)) (held + length (bytes_for means_now)) (next_of file r).state x → Transcribed (suc n) file scratch tape held r x
  unfolding answers told tape_of
  go_on s x l fits w =
      let k : length (sets tape held (bytes_for means_now)) ≡ length tape = length-sets tape held (bytes_for means_now) in
      let z : suc n - suc (length w.puts) ≡ n - length w.puts = omega arith in
      record {
        puts = record { meaning = means_now; offset = o.offset } ∷ w.puts;
        next = w.next;
        within = omega (arith, w.within);
        in_order = rw (called, told, w.in_order);
        follows = rw (called, told) (ap (λ (l : List Told). means means_now o.offset ∷ l) w.follows);
        held_is = rw length-append (omega (arith, w.held_is));
        tape_is = w.tape_is ∙ sym (sets_append (bytes_for means_now) (tape_of (meanings_of w.puts)) tape held);
        room = λ h. rw k at (w.room (rw k fits));
        scratch_is = w.scratch_is ∙ l;
        ends = rw z (ends_same file s scratch (sets tape held (bytes_for means_now)) tape x.held (n - length w.puts) l k w.next x.ending w.ends);
      }

  -- an event is appended, or doesn't fit
  put_run : (s : List ℕ) → length s ≡ length scratch → allowed means_now ≡ true → ((t : List ℕ) (h : ℕ) → Transcribed n file s t h (next_of file r).state (run_of n file s t h (next_of file r).state)) → Transcribed (suc n) file scratch tape held r (by_note (λ s t h q. run_of n file s t h q) held (next_of file r).state (put_note s tape held means_now))
  unfolding by_note by_noted put_note from_tape append_of append_to put_of put_to fits told
  put_run s l a ih = go (leb (held + length (bytes_for means_now)) (length tape)) refl
    where
      go : (b : Bool) → leb (held + length (bytes_for means_now)) (length tape) ≡ b → Transcribed (suc n) file scratch tape held r (by_note (λ s t h q. run_of n file s t h q) held (next_of file r).state (put_note s tape held means_now))
      go true f = rw (a, f) (go_on s _ l (leb-true _ _ f) (ih (sets tape held (bytes_for means_now)) (held + length (bytes_for means_now))))
      go false f = rw (a, f) (stop_here (suc n) file scratch tape held r s (refused 27 [] held) l (rw (called, told) (inr (record { says = (refl, refl, refl); long = leb-false _ _ f }))))

  event_run : allowed means_now ≡ true → (x : Note) → Notes file scratch tape held means_now o.offset x → ((s t : List ℕ) (h : ℕ) → Transcribed n file s t h (next_of file r).state (run_of n file s t h (next_of file r).state)) → Transcribed (suc n) file scratch tape held r (by_note (λ s t h q. run_of n file s t h q) held (next_of file r).state x)
  unfolding by_note by_noted told
  event_run a x (puts s l e) ih = rw e (put_run s l a (ih s))
  event_run a x (lacks w e) ih = rw e (stop_here (suc n) file scratch tape held r scratch (refused 16 [] o.offset) refl (rw (called, told) (inl w)))

-- every run is such a one: the bytes behind those held before are those of the reader's events, in order; the next answer is the ending, or
-- the event that there is no room for, unless the budget is used up. That the file is bytes, as all lent files are, serves one thing: text
-- that stands as UTF-16 is handed out as UTF-8, so the tape takes it
pub run_told : (n : ℕ) (file : List ℕ) → Bytes file → (scratch tape : List ℕ) (held : ℕ) (r : Reader) → Transcribed n file scratch tape held r (run_of n file scratch tape held r)
unfolding run_of by_said told meaning_at
run_told zero file b scratch tape held r = stop_here zero file scratch tape held r scratch stopped refl refl
run_told (suc n) file b scratch tape held r = go (next_of file r).answer refl (next_handed file r) (λ (s t : List ℕ) (h : ℕ) (q : Reader). run_told n file b s t h q)
  where
    go : (a : Said) → (next_of file r).answer ≡ a → Handed file a → ((s t : List ℕ) (h : ℕ) (q : Reader) → Transcribed n file s t h q (run_of n file s t h q)) → Transcribed (suc n) file scratch tape held r (run_of (suc n) file scratch tape held r)
    go (event e) c g ih =
        rw c (event_run n file scratch tape held r e.event (origin e.number e.offset) c (given_allowed file b e.event (event_asked file e.event e.offset) g) _ (notes file scratch tape held e.event e.offset g) (λ (s t : List ℕ) (h : ℕ). ih s t h (next_of file r).state))
    go reader.ended c g ih = rw c (stop_here (suc n) file scratch tape held r scratch ended refl (rw (c, told)))
    go (reader.refused number values place) c g ih =
        rw c (stop_here (suc n) file scratch tape held r scratch (refused number values place) refl (rw (c, told) (refl, refl, refl, g)))

-- the same of a transcript: a fresh reader, nothing held before
pub transcript_told : (budget : ℕ) (file : List ℕ) → Bytes file → (scratch tape : List ℕ) → Transcribed budget file scratch tape 0 fresh_reader (transcript_of budget file scratch tape)
unfolding transcript_of
transcript_told budget file b scratch tape = run_told budget file b scratch tape 0 fresh_reader

module _ {n : ℕ} {file scratch tape : List ℕ} {r : Reader} {x : Run} (w : Transcribed n file scratch tape 0 r x) where
  count_held : x.held ≡ length (tape_of (meanings_of w.puts))
  count_held = w.held_is ∙ zero-add (length (tape_of (meanings_of w.puts)))

  tape_parts : x.tape ≡ tape_of (meanings_of w.puts) ++ drop x.held tape
  tape_parts =
      let s : List ℕ = tape_of (meanings_of w.puts) in
      rw w.held_is (w.tape_is ∙ sets-eq s tape 0 (rw (← w.held_is) (w.room (omega arith))))

  -- what is held is the events' bytes, and nothing behind them has changed
  pub held_bytes : take x.held x.tape ≡ tape_of (meanings_of w.puts)
  held_bytes = rw tape_parts (take_at (tape_of (meanings_of w.puts)) (drop x.held tape) x.held (sym count_held))

  pub behind_held : drop x.held x.tape ≡ drop x.held tape
  behind_held = rw tape_parts (drop_at (tape_of (meanings_of w.puts)) (drop x.held tape) x.held (sym count_held))

module _ {n : ℕ} {file scratch tape : List ℕ} {held : ℕ} {r : Reader} {x : Run} (w : Transcribed n file scratch tape held r x) where
  -- the ending, and the answer that follows the events on the tape
  pub at_end : x.ending ≡ ended → w.next ≡ meanings.ended
  at_end e = rw e at w.ends

  pub at_budget : x.ending ≡ stopped → length w.puts ≡ n
  at_budget e =
      let z : n - length w.puts ≡ 0 = rw e at w.ends in
      omega (arith, w.within)

  module _ (number : ℕ) (values : List ℕ) (place : ℕ) (e : x.ending ≡ refused number values place) where
    refuses : Refuses file scratch tape x.held w.next number values place
    refuses = rw e at w.ends

    -- any number but 16 and 27 is the reader's own, and then it is a step's, or 17
    pub at_refusal : (number ≡ 16 → ⊥) → (number ≡ 27 → ⊥) → (w.next ≡ meanings.refused number values place) × Own number
    at_refusal f g = go w.next refuses
      where
        go : (t : Told) → Refuses file scratch tape x.held t number values place → (t ≡ meanings.refused number values place) × Own number
        go (means m offset) (inl h) = absurd (f h.says.0)
        go (means m offset) (inr h) = absurd (g h.says.0)
        go meanings.ended h = absurd h
        go (meanings.refused a b c) h = (rw (h.0, h.1, h.2), h.3)

    -- 16 is the scratch's alone
    pub at_scratch : number ≡ 16 → (m : Meaning) × (offset : ℕ) × (w.next ≡ means m offset) × NoScratch file scratch m offset number values place
    at_scratch f = go w.next refuses
      where
        go : (t : Told) → Refuses file scratch tape x.held t number values place → (m : Meaning) × (offset : ℕ) × (t ≡ means m offset) × NoScratch file scratch m offset number values place
        go (means m offset) (inl h) = (m, offset, refl, h)
        go (means m offset) (inr h) = let z : number ≡ 27 = h.says.0 in absurd (omega arith)
        go meanings.ended h = absurd h
        go (meanings.refused a b c) h = absurd (own_not number 16 h.3 not_step_16 (λ e. omega arith) f)

    -- 27 the tape's
    pub at_tape : number ≡ 27 → (m : Meaning) × (offset : ℕ) × (w.next ≡ means m offset) × NoTape tape x.held m number values place
    at_tape f = go w.next refuses
      where
        go : (t : Told) → Refuses file scratch tape x.held t number values place → (m : Meaning) × (offset : ℕ) × (t ≡ means m offset) × NoTape tape x.held m number values place
        go (means m offset) (inl h) = let z : number ≡ 16 = h.says.0 in absurd (omega arith)
        go (means m offset) (inr h) = (m, offset, refl, h)
        go meanings.ended h = absurd h
        go (meanings.refused a b c) h = absurd (own_not number 27 h.3 not_step_27 (λ e. omega arith) f)
