-- One turn of the pass that collects events.
use Rattle.std.specs.Prelude.{◌≡◌, ℕ, suc, ◌+◌, ◌*◌, ◌<◌, ◌≤◌, cond, List, ◌∷◌, length, drop, ◌==◌, nat_lt, slice_index}
use Rattle.tape.specs.Events.{start_at}
use Rattle.written.specs.Graph.{Piece}
use Rattle.written.specs.Shape.{name_of}
use Rattle.written.specs.Weigh.{rep_of}
use Rattle.writer.specs.Index.{Index}
use Rattle.writer.specs.Ready.{Ready, pieces_in}

-- r is the first event with the name of event e
abbrev pub FirstOf : List ℕ → ℕ → ℕ → Type 0
FirstOf t e r = (p : Piece) (q : List Piece) → drop e (pieces_in t) ≡ p ∷ q → r ≡ rep_of (pieces_in t) (name_of e p)

-- NEXT by an event's kind, while the containers aren't measured
unfoldable pub alone_by : ℕ → ℕ → ℕ
alone_by kind e = cond (nat_lt kind 0x0a) (e + 1) (cond (kind == 0x0e) 0 e)

-- event e stands from one place to the other, OFF stands for the events up to it, and the index has those before it
pub record Turn (t w : List ℕ) (n e at after : ℕ) : Type 0 where
  pub ready : Ready t n
  pub within : e < n
  pub long : length w ≡ n * 8
  pub off : (i : ℕ) → i ≤ e → slice_index w i ≡ start_at t i
  pub begins : at ≡ start_at t e
  pub ends : after ≡ start_at t (suc e)
  pub index : Index t w n e
