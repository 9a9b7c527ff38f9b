-- The state after each answer, whatever file is lent to whatever state: what docs/FORMAT.md, N, says that a refusal leaves.
use Rattle.std.specs.Prelude.{Bool, true, cond, List, ◌≡◌, ℕ, ◌+◌, get_or}
use Rattle.std.proofs.Math.Dec.{eqb}
use Rattle.object.specs.Content.{trailer_at}
use Rattle.reader.specs.Machine.{Said, event, ended, refused}
use Rattle.reader.specs.State.{ended_reader}
use Rattle.reader.specs.declared.state.Reader.{Reader}
use Rattle.claims.specs.Ended.{Done}

-- which refusals leave the state unchanged: 1 to 4, 16 and 17; 5 if the byte is 0. All others end
unfoldable pub unchanged : List ℕ → ℕ → Bool
unchanged file number =
    cond (eqb number 1) true
    (cond (eqb number 2) true
    (cond (eqb number 3) true
    (cond (eqb number 4) true
    (cond (eqb number 5) (eqb (get_or file (trailer_at file + 7) 0) 0)
    (cond (eqb number 16) true
    (eqb number 17))))))

-- ended comes of a state that has ended, and leaves it
abbrev pub After : List ℕ → Reader → Reader → Said → Type 0
After file r s (event e) = Unit {0}
After file r s ended = (s ≡ r) × Done r
After file r s (refused number values place) = s ≡ cond (unchanged file number) r ended_reader
