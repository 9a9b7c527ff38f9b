-- What is left of a run, one turn of it, and its end.
use Rattle.std.specs.Prelude.{List, ◌≡◌, refl, ℕ, zero, suc, ◌-◌, ◌<◌}
use Rattle.std.proofs.Common.{sub-one, arith}
use Rattle.reader.specs.Machine.{Step}
use Rattle.reader.specs.Next.{next_of}
use Rattle.reader.specs.declared.state.Reader.{Reader}
use Rattle.transcribe.specs.Run.{ended, by_said, run_of, onward, finished_of}

pub onward_turn : (n : ℕ) (file scratch tape : List ℕ) (held : ℕ) (x : Step) → 0 < n → onward n file scratch tape held x ≡ by_said (λ s t h q. run_of (n - 1) file s t h q) file scratch tape held x.state x.answer
unfolding onward
onward_turn zero file scratch tape held x h = absurd (omega arith)
onward_turn (suc n) file scratch tape held x h = simp sub-one

-- a run is what is left of it from the reader's next call
pub run_onward : (n : ℕ) (file scratch tape : List ℕ) (held : ℕ) (r : Reader) → run_of n file scratch tape held r ≡ onward n file scratch tape held (next_of file r)
unfolding run_of onward
run_onward zero file scratch tape held r = refl
run_onward (suc n) file scratch tape held r = refl

-- the end, with some of the budget left
pub finished_ended : (n : ℕ) → (n ≡ 0 → ⊥) → finished_of n ≡ ended
unfolding finished_of
finished_ended zero h = absurd (h refl)
finished_ended (suc n) h = refl
