-- Outcome a written file onto a tape, with room enough: the tape holds exactly the events, lengths filled in; and what enough is.
use Rattle.std.specs.Prelude.{List, [], ◌↔◌, ◌≡◌, ℕ, ◌+◌, ◌≤◌, ◌<◌, length, take}
use Rattle.std.proofs.Common.{sym, ap, ◌∙◌, zero-add, arith}
use Rattle.event.specs.Meaning.{Meaning}
use Rattle.transcribe.specs.Run.{End, ended, stopped, refused, transcript_of}
use Rattle.transcribe.specs.TranscriptLaws.{Put}
use Rattle.tape.specs.Code.{bytes_for}
use Rattle.written.specs.File.{file_for}
use Rattle.written_claims.specs.Accepted.{Accepted}
use Rattle.written_claims.specs.Filled.{filled, handed_of}
use Rattle.written_claims.specs.HandsOut.{scratch_for}
use Rattle.written_claims.proofs.ReadBack.{handed_means}
use Rattle.written_claims.proofs.ReadEnds.{length_handed, ends_back, which_first}
use Rattle.written_claims.specs.Outcome.{scratch_needed, tape_needed, budget_needed, Enough, Outcome, outcome, outcome_of, Holds}
use Rattle.written_claims.proofs.OutcomeLaws as laws
use Rattle.written_claims.proofs.OutcomeLaws.{bytes_of, HasRoom, Reaches, needed_same}

module _ (ms : List Meaning) (a : Accepted ms) (budget : ℕ) (scratch tape : List ℕ) where
  abbrev room : Type 0
  room = Enough ms budget (length scratch) (length tape)

  -- the same of what is handed out
  abbrev Fits : Type 0
  Fits = (length (handed_of ms) < budget) × HasRoom budget (length scratch) (length tape) 0 (handed_of ms) (handed_of ms)

  enough_fits : room → Fits
  enough_fits (b, s, t) = rw (length_handed ms a, handed_means ms a, needed_same, zero-add) (b, (s, t))

  fits_enough : Fits → room
  fits_enough f = let (b, (s, t)) = rw (length_handed ms a, handed_means ms a, needed_same, zero-add) at f in (b, s, t)

  -- THE READING with room enough
  pub whole_back : room → Holds ended (filled ms) tape (transcript_of budget (file_for ms) scratch tape)
  whole_back e =
      let (b, r) = enough_fits e in
      let w : outcome_of budget (length scratch) (length tape) 0 (handed_of ms) ≡ outcome ended (handed_of ms) = laws.enough_ended (which_first ms a budget scratch tape) b r in
      rw (handed_means ms a) at (rw w at (ends_back ms a budget scratch tape))

  abbrev ending : End
  ending = (transcript_of budget (file_for ms) scratch tape).ending

  ends : {e : End} {ps : List Put} → outcome_of budget (length scratch) (length tape) 0 (handed_of ms) ≡ outcome e ps → ending ≡ e
  ends w = (ends_back ms a budget scratch tape).ends ∙ ap (λ (y : Outcome). y.ending) w

  -- it ends with the file exactly where all three are enough
  pub ended_exactly : (ending ≡ ended) ↔ room
  ended_exactly = (
    λ e. fits_enough (laws.ended_enough (which_first ms a budget scratch tape) (sym (ends_back ms a budget scratch tape).ends ∙ e)),
    λ e. (whole_back e).ends,
  )

  -- too little scratch alone: 16, at the first text that is too long for it; too little tape alone: 27, at the first event that doesn't fit; too small a
  -- budget alone: it is used up
  pub less_scratch : budget_needed ms ≤ budget → length scratch < scratch_needed ms → tape_needed ms ≤ length tape
      → (i : ℕ) × (p : Put) × Reaches budget (length scratch) (length tape) 0 (handed_of ms) i p × (length scratch < scratch_for p.meaning) × (ending ≡ refused 16 [] p.offset)
  less_scratch b s t =
      let (i, p, r, l, e) = laws.less_scratch (which_first ms a budget scratch tape) (rw (length_handed ms a) b) (rw (handed_means ms a, needed_same) s) (rw (handed_means ms a, zero-add) t) in
      (i, p, r, l, ends e)

  pub less_tape : budget_needed ms ≤ budget → scratch_needed ms ≤ length scratch → length tape < tape_needed ms
      → (i : ℕ) × (p : Put) × Reaches budget (length scratch) (length tape) 0 (handed_of ms) i p × (length tape < bytes_of (take i (handed_of ms)) + length (bytes_for p.meaning))
      × (ending ≡ refused 27 [] (bytes_of (take i (handed_of ms))))
  less_tape b s t =
      let (i, p, r, l, e) = laws.less_tape (which_first ms a budget scratch tape) (rw (length_handed ms a) b) (rw (handed_means ms a, needed_same) s) (rw (handed_means ms a, zero-add) t) in
      (i, p, r, rw zero-add at l, rw zero-add at (ends e))

  pub less_budget : budget < budget_needed ms → scratch_needed ms ≤ length scratch → tape_needed ms ≤ length tape → ending ≡ stopped
  less_budget b s t =
      ends (laws.less_budget (which_first ms a budget scratch tape) (rw (length_handed ms a) (omega arith)) (rw (handed_means ms a, needed_same) s, rw (handed_means ms a, zero-add) t))
