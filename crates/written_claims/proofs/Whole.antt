-- A run over answers that hand events out, and then the end: each event is noted by the room that there is for it, so the run comes to the outcome of them.
use Rattle.std.specs.Prelude.{Bool, true, false, ◌≡◌, leb}
use mathlib.Core.List.{List, [], ◌∷◌, ◌++◌, head-eq_of_cons-eq, tail-eq_of_cons-eq}
use Rattle.std.proofs.Math.Path.{refl, ap, ap₂}
use Rattle.std.proofs.Common.{sym, ◌∙◌, add-zero, add_assoc, length-append}
use Prim.Native.Nat.{ℕ, zero, suc, ◌+◌, ◌≤◌, ◌<◌}
use borrow.Author.Tests.{leb-true, leb-false, le-leb, lt-leb}
use Rattle.std.proofs.Math.ListN.{length}
use Rattle.std.proofs.lemmas.List.Edits.{sets}
use Rattle.std.proofs.Math.Seq.{length-sets}
use Rattle.utf.proofs.Writing.{sets_append}
use Rattle.event.specs.Meaning.{meaning_of}
use Rattle.layout.specs.Bytes.{has_bytes, event_asked}
use Rattle.reader.specs.Calls.{calls, answers_of}
use Rattle.reader.specs.Machine.{Said}
use Rattle.reader.specs.Machine as machine
use Rattle.reader.specs.Meanings.{bytes_asked, meaning_at}
use Rattle.reader.specs.Next.{next_of}
use Rattle.reader.specs.Request.{scratch_after}
use Rattle.reader.specs.declared.state.Reader.{Reader}
use Rattle.tape.specs.Append.{append_of, append_to, put_of, put_to, fits}
use Rattle.tape.specs.Code.{bytes_for, allowed}
use Rattle.tape.specs.Events.{tape_of}
use Rattle.tape.proofs.EventsLaws.{AllOnTape}
use Rattle.transcribe.specs.HandedLaws.{plain_same}
use Rattle.transcribe.specs.Note.{kept, noting, put_note, text_note, note_of, from_tape}
use Rattle.transcribe.specs.Note as note
use Rattle.transcribe.specs.Run.{Run, run, by_noted, by_note, by_said, run_of}
use Rattle.transcribe.specs.TranscriptLaws.{Put, meanings_of}
use Rattle.written_claims.specs.HandsOut.{content_of, scratch_for, HandsOut, HandOut}
use Rattle.written_claims.proofs.HandsOutLaws.{content_is}
use Rattle.written_claims.specs.Outcome.{Outcome, put_first, outcome_of}

-- an event that is handed out: too long for the scratch, too long for the tape, or noted
module _ (file : List ℕ) (p : Put) (x : Said) (h : HandsOut file p x) (scratch tape : List ℕ) (held : ℕ) where
  abbrev own : List ℕ
  own = bytes_for p.meaning

  pub note_lacks : length scratch < scratch_for p.meaning → note_of file scratch tape held h.e p.offset ≡ noting (note.refused 16 [] p.offset) tape scratch
  unfolding note_of text_note
  note_lacks less =
      let k = h.lacks scratch less in
      rw (k.has, rw h.asks at k.first, text_note, rw h.asks at k.kept)

  module _ (room : scratch_for p.meaning ≤ length scratch) where
    -- it is appended by its meaning
    noted : (s : List ℕ) × (length s ≡ length scratch) × (note_of file scratch tape held h.e p.offset ≡ put_note s tape held p.meaning)
    unfolding note_of text_note meaning_at
    noted = go (has_bytes h.e) refl
      where
        asked : List ℕ
        asked = bytes_asked file (event_asked file h.e p.offset)

        go : (b : Bool) → has_bytes h.e ≡ b → (s : List ℕ) × (length s ≡ length scratch) × (note_of file scratch tape held h.e p.offset ≡ put_note s tape held p.meaning)
        go false f = (scratch, refl, rw f (ap (put_note scratch tape held) (sym (plain_same h.e asked f) ∙ h.means)))
        go true f =
            let k = rw h.asks at (h.gives scratch room) in
            let c : content_of p.meaning ≡ asked = ap content_of (sym h.means) ∙ content_is h.e asked f in
            let after : List ℕ = scratch_after file scratch (event_asked file h.e p.offset) in
            (after, k.scratch_is, rw (f, k.first, text_note, k.second) (ap (put_note after tape held) (ap (meaning_of h.e) c ∙ h.means)))

    module _ (ok : allowed p.meaning ≡ true) where
      pub note_full : length tape < held + length own → (s : List ℕ) × (note_of file scratch tape held h.e p.offset ≡ noting (note.refused 27 [] held) tape s)
      unfolding put_note from_tape append_of append_to put_of put_to fits
      note_full less = (noted.0, noted.2 ∙ rw (ok, lt-leb (held + length own) (length tape) less))

      pub note_kept : held + length own ≤ length tape
          → (s : List ℕ) × (length s ≡ length scratch) × (note_of file scratch tape held h.e p.offset ≡ noting (kept (held + length own)) (sets tape held own) s)
      unfolding put_note from_tape append_of append_to put_of put_to fits
      note_kept fit = (noted.0, noted.1, noted.2 ∙ rw (ok, le-leb (held + length own) (length tape) fit))

-- the run of an outcome, from a tape of which so many bytes are held
abbrev pub ran : List ℕ → ℕ → List ℕ → Outcome → Run
ran tape held s y = run y.ending (held + length (tape_of (meanings_of y.puts))) (sets tape held (tape_of (meanings_of y.puts))) s

module _ (file : List ℕ) where
  -- one event behind which it goes on
  ran_more : (tape : List ℕ) (held : ℕ) (s : List ℕ) (p : Put) (y : Outcome)
      → ran (sets tape held (bytes_for p.meaning)) (held + length (bytes_for p.meaning)) s y ≡ ran tape held s (put_first p y)
  unfolding tape_of put_first
  ran_more tape held s p y =
      let b = bytes_for p.meaning in
      let t = tape_of (meanings_of y.puts) in
      ap₂ (λ (i : ℕ) (u : List ℕ). run y.ending i u s) (add_assoc held (length b) (length t) ∙ ap (λ (i : ℕ). held + i) (sym (length-append b t))) (sym (sets_append b t tape held))

  run_event : (p : Put) (ps : List Put) (x : Said) (h : HandsOut file p x) (n : ℕ) (scratch tape : List ℕ) (held : ℕ) (r : Reader) → (next_of file r).answer ≡ x → allowed p.meaning ≡ true
      → ((u v : List ℕ) (k : ℕ) → (s : List ℕ) × (run_of n file u v k (next_of file r).state ≡ ran v k s (outcome_of n (length u) (length v) k ps)))
      → (s : List ℕ) × (run_of (suc n) file scratch tape held r ≡ ran tape held s (outcome_of (suc n) (length scratch) (length tape) held (p ∷ ps)))
  unfolding run_of by_said by_note by_noted outcome_of tape_of
  run_event p ps x h n scratch tape held r a ok on = by_scratch (leb (scratch_for p.meaning) (length scratch)) refl
    where
      b : List ℕ
      b = bytes_for p.meaning

      Goal : Type 0
      Goal = (s : List ℕ) × (run_of (suc n) file scratch tape held r ≡ ran tape held s (outcome_of (suc n) (length scratch) (length tape) held (p ∷ ps)))

      by_tape : (c : Bool) → leb (held + length b) (length tape) ≡ c → leb (scratch_for p.meaning) (length scratch) ≡ true → Goal
      by_tape false g f =
          let k = note_full file p x h scratch tape held (leb-true _ _ f) ok (leb-false _ _ g) in
          (k.0, rw (a ∙ h.is, by_said, k.1, f, g, add-zero))
      by_tape true g f =
          let k = note_kept file p x h scratch tape held (leb-true _ _ f) ok (leb-true _ _ g) in
          let w = on k.0 (sets tape held b) (held + length b) in
          let q : length (sets tape held b) ≡ length tape = length-sets tape held b in
          (w.0, rw (a ∙ h.is, by_said, k.2, f, g) (rw (k.1, q) at w.1 ∙ ran_more tape held w.0 p (outcome_of n (length scratch) (length tape) (held + length b) ps)))

      by_scratch : (c : Bool) → leb (scratch_for p.meaning) (length scratch) ≡ c → Goal
      by_scratch true f = by_tape (leb (held + length b) (length tape)) refl f
      by_scratch false f = (scratch, rw (a ∙ h.is, by_said, note_lacks file p x h scratch tape held (leb-false _ _ f), f, add-zero))

  -- THE RUN comes to the outcome
  pub run_back : (ps : List Put) (xs : List Said) (n : ℕ) (scratch tape : List ℕ) (held : ℕ) (r : Reader)
      → HandOut file ps xs → answers_of (calls (suc (length xs)) file r) ≡ xs ++ (machine.ended ∷ []) → AllOnTape (meanings_of ps)
      → (s : List ℕ) × (run_of n file scratch tape held r ≡ ran tape held s (outcome_of n (length scratch) (length tape) held ps))
  unfolding calls run_of by_said outcome_of tape_of
  run_back ps xs zero scratch tape held r h e t = (scratch, rw add-zero)
  run_back [] [] (suc n) scratch tape held r h e t =
      let a : (next_of file r).answer ≡ machine.ended = head-eq_of_cons-eq e in
      (scratch, rw (a, add-zero))
  run_back [] (x ∷ xs) (suc n) scratch tape held r h e t = absurd h
  run_back (p ∷ ps) [] (suc n) scratch tape held r h e t = absurd h
  run_back (p ∷ ps) (x ∷ xs) (suc n) scratch tape held r h e t =
      run_event p ps x h.0 n scratch tape held r (head-eq_of_cons-eq e) t.0.1
      (λ u v k. run_back ps xs n u v k (next_of file r).state h.1 (tail-eq_of_cons-eq e) t.1)
