-- Keys one after the other: what is left of them.
use Rattle.std.proofs.Common.{◌≡◌, ℕ, suc, ◌+◌, ◌<◌, ◌≤◌, List, [], ◌∷◌, length, get_or, sym, refl, ap, ◌∙◌, arith}
use lib.Seq.{length-sets}
use Rattle.written.specs.Graph.{Name, val, same}
use Rattle.written.proofs.NameLaws.{in_here, in_there}
use Rattle.written.specs.Nub.{has, nub_onto}
use Rattle.written.specs.Shape.{InPairs, next_at}
use Rattle.written.proofs.ShapeLaws.{MetPair, pairs_step, pairs_end}
use Rattle.writer.specs.Ready.{pieces_in}
use Rattle.writer.specs.ReadyLaws.{drop_piece}
use Rattle.writer.specs.Speak.{end_of, Room, Grown, Single, Named, Keys}
use Rattle.writer.specs.SpeakLaws.{end_le, grown_none, grown_join}

pub record Saying (t : List ℕ) (n stop : ℕ) (kept ks : List Name) (out₀ : List ℕ) (from : ℕ) (w out : List ℕ) (i pos : ℕ) : Type 0 where
  pub mid : List Name
  pub left : List Name
  pub values : List Name
  pub pairs : InPairs (pieces_in t) stop i left values
  pub named : Named (pieces_in t) left
  pub rest : nub_onto same mid left ≡ nub_onto same kept ks
  pub grown : Grown t n kept out₀ from mid w out pos

pub saying_start : {t w out : List ℕ} {n i stop pos : ℕ} {kept ks vs : List Name} → Keys t w out n i stop pos kept ks vs → Saying t n stop kept ks out pos w out i pos
saying_start {out = out} {kept = kept} {ks = ks} {vs = vs} o =
    record { mid = kept; left = ks; values = vs; pairs = o.pairs; named = o.named; rest = refl; grown = grown_none o.stand out }

module _ {t : List ℕ} {n stop : ℕ} {kept ks : List Name} {out₀ : List ℕ} {from : ℕ} {w out : List ℕ} {i pos : ℕ} (o : Saying t n stop kept ks out₀ from w out i pos) where
  pub saying_length : length out ≡ length out₀
  saying_length = rw o.grown.written (length-sets out₀ from o.grown.bytes)

  pub saying_done : stop ≤ i → Grown t n kept out₀ from (nub_onto same kept ks) w out pos
  unfolding nub_onto
  saying_done h = rw (sym o.rest ∙ ap (nub_onto same o.mid) (pairs_end (pieces_in t) stop i o.left o.values o.pairs h).1) o.grown

  module _ (h : i < stop) where
    pub met : MetPair (pieces_in t) stop i o.left o.values
    met = pairs_step (pieces_in t) stop i o.left o.values o.pairs h

    pub met_in : suc i < n
    met_in = drop_piece o.grown.stand.ready (suc i) met.piece met.behind met.stands_value

    again : nub_onto same (nub_onto same o.mid (val met.bytes ∷ [])) met.others ≡ nub_onto same kept ks
    unfolding nub_onto
    again = rw met.keys_are at o.rest

    pub saying_single : Room t out₀ (nub_onto same kept ks) → Single t w out n i pos o.mid met.bytes
    saying_single r =
        let le = rw again at (end_le (pieces_in t) (nub_onto same o.mid (val met.bytes ∷ [])) met.others) in
        record {
          stand = o.grown.stand;
          behind = met.piece ∷ met.behind;
          stands = met.stands;
          named = o.named (val met.bytes) (ap (has same (val met.bytes)) met.keys_are ∙ in_here (val met.bytes) met.others);
          room = record { fits = omega (arith, le, r.fits, saying_length); small = omega (arith, le, r.small) };
        }

    module _ {v a : List ℕ} {j : ℕ} (g : Grown t n o.mid out pos (nub_onto same o.mid (val met.bytes ∷ [])) v a j) where
      next_is : get_or v (n + n + (i + 1)) 0 ≡ next_at (pieces_in t) (suc i)
      next_is = ap (λ (k : ℕ). get_or v k 0) (let e : n + n + (i + 1) ≡ n + n + suc i = omega arith in e) ∙ g.stand.indexed.nexts (suc i) (omega arith) met_in

      pub saying_above : i < get_or v (n + n + (i + 1)) 0
      saying_above = omega (arith, next_is, met.above)

      pub saying_turn : from ≡ end_of (pieces_in t) kept → Saying t n stop kept ks out₀ from v a (get_or v (n + n + (i + 1)) 0) j
      saying_turn here = rw next_is (record {
        mid = nub_onto same o.mid (val met.bytes ∷ []);
        left = met.others;
        values = met.values;
        pairs = met.more;
        named = λ x k. o.named x (rw met.keys_are (in_there x (val met.bytes) met.others k));
        rest = again;
        grown = grown_join here o.grown g;
      })
