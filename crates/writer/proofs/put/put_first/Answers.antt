-- The bytes of the scalar that stands on the tape there.
use Rattle.std.proofs.Common.{◌≡◌, ℕ, ◌+◌, ◌-◌, ◌*◌, List, length, get_or, ap, ◌∙◌, arith}
use borrow.Rule.Slice.PartMut.{mid_of}
use Rattle.encode.specs.Put.{put_into, scalar_of, bytes_at as bytes_on}
use Rattle.encode.specs.PutLaws.{scalar_put}
use Rattle.encode.specs.Said.{put_said}
use Rattle.encode.specs.SaidLaws.{put_said_one}
use Rattle.encode.specs.declared.put.Put.{Put}
use Rattle.written.specs.File.{bytes_at}
use Rattle.written.specs.Graph.{Scalar, val}
use Rattle.writer.specs.Ready.{pieces_in}
use Rattle.writer.specs.Speak.{First}
use Rattle.writer.proofs.Lent.{Lent, put_all, lent}
use Rattle.writer.proofs.Once.{first_in, first_bytes_law, first_some}
use Rattle.writer.proofs.put.put_first.Goals as goal

pub word-at-requires : goal.word-at-requires
word-at-requires c = omega (arith, first_in c.requires.1, c.requires.1.indexed.long)

pub word-units-requires : goal.word-units-requires
word-units-requires c = omega (arith, first_in c.requires.1, c.requires.1.indexed.long)

-- the scalar's bytes are put
put : {t w out : List ℕ} {n i pos : ℕ} {s : Scalar} → First t w out n i pos s → (off units : ℕ) {r : Put} {m : List ℕ} → off ≡ get_or w i 0 → units ≡ get_or w (n * 3 + i) 0 →
    record {
      result_value : put_said off r ≡ put_said off (scalar_of (mid_of pos (length out - pos) out) (bytes_on t off units));
      out_after : m ≡ put_into (mid_of pos (length out - pos) out) (bytes_on t off units);
    } → Lent out pos (bytes_at (pieces_in t) (val s)) r m
put {out = out} {pos = pos} o off units f g p =
    let b = first_bytes_law o f g in
    let l = mid_of pos (length out - pos) out in
    record { room = o.room; answer = put_said_one off _ _ p.result_value ∙ ap (scalar_of l) b ∙ scalar_put l _ (first_some o); memory = p.out_after ∙ ap (put_into l) b }

pub behind-requires : goal.behind-requires
behind-requires c = put_all (put c.requires.1 _ _ c.word-at.ensures.0 c.word-units.ensures.0 c.put_scalar.ensures) (omega arith)

pub returns : goal.returns
returns c s o = lent (put o _ _ c.word-at.ensures.0 c.word-units.ensures.0 c.put_scalar.ensures) c.behind.ensures
