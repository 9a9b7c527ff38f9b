-- What stands on the tape, and which answer is given: as many events as the budget and the tape take, and 37 before 27.
use Rattle.std.specs.Prelude.{List, [], map, ◌≡◌, ℕ, suc, ◌+◌, ◌≤◌, ◌<◌, take}
use Rattle.std.proofs.Math.ListN.{length}
use Rattle.std.proofs.lemmas.List.Edits.{sets}
use Rattle.tape.specs.Events.{tape_of}
use Rattle.plainly.specs.Plain.{Last, whole, stopped, Put, last_of}
use Rattle.plainly.specs.Says.{Stated, End, done, refused, Says}

-- the bytes of the first n events
abbrev pub first_bytes : ℕ → List Stated → List ℕ
first_bytes n es = tape_of (map (λ (e : Stated). e.meaning) (take n es))

-- how it ends
unfoldable pub last_for : End → Last
last_for (done place) = whole
last_for (refused number values place) = stopped number values place

-- n of the events stand on the tape, behind what is held, and this is the last answer
pub record Holds (held : ℕ) (tape : List ℕ) (es : List Stated) (n : ℕ) (last : Last) (p : Put) : Type 0 where
  pub fit : held + length (first_bytes n es) ≤ length tape
  pub is : (last_of p.reach ≡ last) × (p.held ≡ held + length (first_bytes n es)) × (p.tape ≡ sets tape held (first_bytes n es))

-- The three endings: all events stand there, and the file's own ending is given; as many as the budget says, another one is next, and 37 is
-- given, whether it would fit or not; fewer than that, the next one doesn't fit, and 27 is given with the bytes held
pub data Outcome (budget held : ℕ) (tape : List ℕ) (s : Says) (p : Put) : Type 0 where
  all : length s.events ≤ budget → Holds held tape s.events (length s.events) (last_for s.ending) p → Outcome budget held tape s p
  spent : budget < length s.events → Holds held tape s.events budget (stopped 37 [] 0) p → Outcome budget held tape s p
  full : (n : ℕ) → n < budget → n < length s.events → length tape < held + length (first_bytes (suc n) s.events) → Holds held tape s.events n (stopped 27 [] p.held) p → Outcome budget held tape s p
