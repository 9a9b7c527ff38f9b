-- What it is that a contract leaves one answer, and one content of all lent memory. The crate claims shows it of every public function; of one it
-- is shown here, beside that function, so that an edit that weakens its promise is refused.
use mathlib.Core.List.{List}
use mathlib.Core.Path.{◌≡◌, refl, sym, ◌∙◌}
use Prim.Native.Nat.{ℕ}
use borrow.Fn.Kinds.{ParamKind, ResultKind, Out, Dens, ended_of, res_t}
use contract.Lifetimes.{Lfts}
use denote.Triple.Clauses.{AtExit}
use Rattle.reader.proofs.state.Reader.fresh_reader.Kinds as fresh-reader-kinds
use Rattle.reader.proofs.state.Reader.fresh_reader.Reads as fresh-reader-reads

-- two answers to the same arguments that meet a contract are the same, and so is what is looked at in lent memory as the function returns
abbrev pub One : (n : ℕ) (ps : List (ParamKind n)) (r : ResultKind n) → Out n ps r → (X : Type 0) → ((κs : Lfts n) → AtExit (ended_of n ps r) κs → X) → Type 0
One n ps r post X look =
    (κs : Lfts n) (a : Dens κs ps) (x y : (res_t r κs).Denot) (e f : AtExit (ended_of n ps r) κs) →
    post κs a x e → post κs a y f → (x ≡ y) × (look κs e ≡ look κs f)

-- the same of what is seen of an answer that is a reference
abbrev pub OneView : (n : ℕ) (ps : List (ParamKind n)) (r : ResultKind n) → Out n ps r → (Y : Type 0) → ((κs : Lfts n) → (res_t r κs).Denot → Y) → Type 0
OneView n ps r post Y view =
    (κs : Lfts n) (a : Dens κs ps) (x y : (res_t r κs).Denot) (e f : AtExit (ended_of n ps r) κs) →
    post κs a x e → post κs a y f → view κs x ≡ view κs y

pub fresh_reader_one : One 0 fresh-reader-kinds.ps fresh-reader-kinds.r fresh-reader-reads.Post (Unit {0}) (λ κs e. tt)
fresh_reader_one κs a x y e f p q = (p ∙ sym q, refl)
