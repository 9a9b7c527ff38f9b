-- What is known where a scalar is to be written.
use Rattle.std.proofs.Common.{◌≡◌, ℕ, suc, ◌+◌, ◌*◌, ◌^◌, ◌<◌, ◌≤◌, List, [], ◌∷◌, length, get_or, set, sym, ap, ◌∙◌, arith}
use Rattle.tape.specs.Events.{start_at}
use Rattle.encode.specs.Put.{bytes_at as bytes_on}
use Rattle.encode.specs.ScalarLaws.{scalar_there}
use Rattle.written.specs.Encoding.{scalar_bytes}
use Rattle.written.proofs.EncodingLaws.{scalar_pos}
use Rattle.written.specs.File.{bytes_at}
use Rattle.written.specs.Graph.{Scalar, scalar, Name, val, same, number}
use Rattle.written.specs.Nub.{nub_onto}
use Rattle.written.proofs.RepLaws.{rep_le, rep_same}
use Rattle.written.specs.Scalar.{units_for}
use Rattle.written.specs.Weigh.{rep_of}
use Rattle.writer.specs.ColumnsLaws.{indexed_set}
use Rattle.writer.specs.Ready.{pieces_in}
use Rattle.writer.specs.ReadyLaws.{drop_piece, scalar_at}
use Rattle.writer.specs.Speak.{First, Single, Grown, Wrote}
use Rattle.writer.specs.SpeakLaws.{end_le, place_inside, single_seen, single_new, single_room, scalar_bytes_law}

module _ {t w out : List ℕ} {n r pos : ℕ} {s : Scalar} (o : First t w out n r pos s) where
  pub first_in : r < n
  first_in = drop_piece o.ready r (scalar s) o.behind o.stands

  -- what stands on the tape there is the scalar
  pub first_bytes_law : {off units : ℕ} → off ≡ get_or w r 0 → units ≡ get_or w (n * 3 + r) 0 → bytes_on t off units ≡ bytes_at (pieces_in t) (val s)
  first_bytes_law f g =
      let (m, a) = scalar_at o.ready r s o.behind o.stands in
      let p = f ∙ o.indexed.off r first_in in
      let u = g ∙ o.indexed.units r s o.behind (omega arith) o.stands o.first ∙ ap units_for a.means in
      rw (p, u) (scalar_there t (start_at t r) m (start_at t (suc r)) a.here.reads a.lone o.ready.bytes ∙ sym (scalar_bytes_law (pieces_in t) s ∙ ap scalar_bytes a.means))

  pub first_some : 0 < length (bytes_at (pieces_in t) (val s))
  first_some =
      let (m, a) = scalar_at o.ready r s o.behind o.stands in
      rw (scalar_bytes_law (pieces_in t) s, a.means) (scalar_pos m a.lone)

module _ {t w out : List ℕ} {n e pos : ℕ} {kept : List Name} {s : Scalar} (o : Single t w out n e pos kept s) where
  pub once_in : e < n
  once_in = drop_piece o.stand.ready e (scalar s) o.behind o.stands

  pub once_under : rep_of (pieces_in t) (val s) < n
  once_under = omega (arith, once_in, rep_le (pieces_in t) e (scalar s) o.behind o.stands)

  pub once_long : length w ≡ n * 8
  once_long = o.stand.indexed.long

  pub once_small : pos < 2 ^ 32
  once_small = omega (arith, end_le (pieces_in t) kept (val s ∷ []), o.stand.here, o.room.small)

  module _ {r : ℕ} (rep : r ≡ get_or w (n + e) 0) where
    rep_is : r ≡ rep_of (pieces_in t) (val s)
    rep_is = rep ∙ o.stand.indexed.rep e (scalar s) o.behind once_in o.stands

    pub once_rep : r < n
    once_rep = rw rep_is once_under

    numbered : get_or w (n * 4 + r) 0 ≡ suc (number (pieces_in t) (val s))
    numbered = rw rep_is (o.stand.numbers (val s) o.named)

    pub once_number : 0 < get_or w (n * 4 + r) 0
    once_number = omega (arith, numbered)

    module _ {num : ℕ} (at : suc num ≡ get_or w (n * 4 + r) 0) where
      number_is : num ≡ number (pieces_in t) (val s)
      number_is = omega (arith, at, numbered)

      pub once_place : n * 5 + num < length w
      once_place = rw number_is (place_inside o.stand (val s) o.named)

      pub once_seen : 0 < get_or w (n * 5 + num) 0 → Grown t n kept out pos (nub_onto same kept (val s ∷ [])) w out pos
      once_seen h = single_seen o (rw number_is at h)

      module _ (new : get_or w (n * 5 + num) 0 ≤ 0) where
        pub once_first : {v : List ℕ} → v ≡ set w (n * 5 + num) pos → First t v out n r pos s
        once_first q =
            let (b, there) = rep_same (pieces_in t) e s o.behind o.stands in
            record {
              ready = o.stand.ready;
              indexed = rw q (indexed_set o.stand.ready o.stand.indexed (n * 5 + num) pos (omega (arith, number_is)));
              behind = b;
              stands = rw rep_is there;
              first = sym rep_is;
              room = single_room o (rw number_is at new);
            }

        pub once_new : {v a : List ℕ} {j : ℕ} → v ≡ set w (n * 5 + num) pos → Wrote out pos (bytes_at (pieces_in t) (val s)) a j → Grown t n kept out pos (nub_onto same kept (val s ∷ [])) v a j
        once_new q f = rw (q, number_is, f.memory, f.ends) (single_new o (rw number_is at new))
