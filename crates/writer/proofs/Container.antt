-- What is known where a container is to be written.
use Rattle.std.proofs.Common.{◌≡◌, ℕ, suc, ◌+◌, ◌*◌, ◌/◌, ◌^◌, ◌<◌, ◌≤◌, false, List, [], ◌∷◌, ◌++◌, map, length, get_or, drop, set, sym, ap, ◌∙◌, add-one, arith}
use lib.ListN.{length-map}
use Rattle.event.specs.Format.{max_open}
use Rattle.tape.specs.Events.{start_at}
use Rattle.written.specs.Encoding.{object_bytes, list, pairs}
use Rattle.written.specs.File.{bytes_at}
use Rattle.written.specs.Graph.{Kind, arr, dic, Piece, start, Name, box, same, order, number, kids, evens, odds}
use Rattle.written.proofs.NameLaws.{In, length_odds}
use Rattle.written.specs.Nub.{has, nub_onto}
use Rattle.written.proofs.RepLaws.{rep_box}
use Rattle.written.specs.Shape.{skip}
use Rattle.written.proofs.ShapeLaws.{in_pairs, pairs_length}
use Rattle.written.specs.Weigh.{rep_of}
use Rattle.writer.specs.IndexedLaws.{path_members, path_keys, path_values}
use Rattle.writer.specs.Marks.{Path}
use Rattle.writer.specs.Ready.{pieces_in}
use Rattle.writer.specs.ReadyLaws.{start_lt, start_le, kind_arr, kind_dic}
use Rattle.writer.specs.Speak.{said_at, end_of, Stand, Grown, Spoke, Named, Keys, Told, Refs, Listed, Paired, Wrote}
use Rattle.writer.specs.SpeakLaws.{place_inside, stand_new, grown_new, grown_join, end_le, array_bytes, dictionary_bytes, refs_are, members_named, keys_named, spoken_fits, container_new, at_array, at_dictionary, container_named}
use Rattle.writer.proofs.Objects.{wrote_length}

-- what is written with the container itself
abbrev pub with_box : List ℕ → ℕ → List Name
with_box t e = said_at t e ++ (box e ∷ [])

abbrev pub numbers_of : List ℕ → List Name → List ℕ
numbers_of t xs = map (number (pieces_in t)) xs

module _ {t w out : List ℕ} {n e width pos : ℕ} (o : Told t w out n e width pos) where
  -- the place fits into a word
  pub box_small : pos < 2 ^ 32
  box_small = omega (arith, o.stand.here, spoken_fits (pieces_in t) e, o.small)

  pub box_start : start_at t e < length t
  box_start = omega (arith, start_lt o.stand.ready e o.within, start_le o.stand.ready (suc e) o.within)

  module _ (k : Kind) (r : List Piece) (d : drop e (pieces_in t) ≡ start k ∷ r) where
    named : In (box e) (order (pieces_in t))
    named = container_named max_open (pieces_in t) o.stand.ready.shaped e r k d

    new : has same (box e) (said_at t e) ≡ false
    new = container_new max_open (pieces_in t) o.stand.ready.shaped e r k d

    numbered : get_or w (n * 4 + e) 0 ≡ suc (number (pieces_in t) (box e))
    numbered = rw (rep_box (pieces_in t) e k r d) at (o.stand.numbers (box e) named)

    pub box_number : 0 < get_or w (n * 4 + e) 0
    box_number = omega (arith, numbered)

    module _ {num : ℕ} (at : suc num ≡ get_or w (n * 4 + e) 0) where
      number_is : num ≡ number (pieces_in t) (box e)
      number_is = omega (arith, at, numbered)

      pub box_place : n * 5 + num < length w
      box_place = rw number_is (place_inside o.stand (box e) named)

      module _ {v : List ℕ} (q : v ≡ set w (n * 5 + num) pos) where
        pub box_stand : Stand t v n (with_box t e) (pos + length (bytes_at (pieces_in t) (box e)))
        box_stand = rw (q, number_is) (stand_new o.stand (box e) named new)

        pub box_off : get_or v e 0 ≡ start_at t e
        box_off = box_stand.indexed.off e o.within

        box_grown : {a : List ℕ} {j : ℕ} → Wrote out pos (bytes_at (pieces_in t) (box e)) a j → Grown t n (said_at t e) out pos (with_box t e) v a j
        box_grown f = rw (q, number_is, f.memory, f.ends) (grown_new o.stand out (box e) named new)

        refs : (stop pair side : ℕ) (xs : List Name) → Path v n stop pair side (suc e) (map (rep_of (pieces_in t)) xs) → Named (pieces_in t) xs → Refs v n stop pair side (e + 1) (numbers_of t xs)
        refs stop pair side xs p h = rw add-one (refs_are box_stand stop pair side xs (suc e) h p)

        room : (more : List Name) → said_at t (suc e) ≡ nub_onto same (with_box t e) more → pos + length (bytes_at (pieces_in t) (box e)) ≤ length out
        room more h = omega (arith, o.fits, spoken_fits (pieces_in t) (suc e), ap (end_of (pieces_in t)) h, end_le (pieces_in t) (with_box t e) more, box_stand.here)

        members : get_or v (n * 3 + e) 0 ≡ length (kids 0 (suc e) r)
        members = box_stand.indexed.members e k r (omega arith) d

    -- which kind it is
    module _ {off : ℕ} (there : off ≡ start_at t e) where
      pub box_arr : get_or t off 0 < 0x0c → drop e (pieces_in t) ≡ start arr ∷ r
      box_arr h = rw (kind_arr o.stand.ready e k r d (rw there at h)) at d

      pub box_dic : 0x0c ≤ get_or t off 0 → drop e (pieces_in t) ≡ start dic ∷ r
      box_dic h = rw (kind_dic o.stand.ready e k r d (rw there at h)) at d

  -- an array
  module _ (r : List Piece) (d : drop e (pieces_in t) ≡ start arr ∷ r) {num : ℕ} (at : suc num ≡ get_or w (n * 4 + e) 0) {v : List ℕ} (q : v ≡ set w (n * 5 + num) pos) where
    bytes_are : bytes_at (pieces_in t) (box e) ≡ object_bytes width (list (numbers_of t (kids 0 (suc e) r)))
    bytes_are = array_bytes (pieces_in t) e r d ∙ rw (← o.wide)

    then : said_at t (suc e) ≡ said_at t e ++ (box e ∷ [])
    then = at_array max_open (pieces_in t) o.stand.ready.shaped e r d

    pub array_listed : {stop : ℕ} → stop ≡ e + skip 0 r → Listed v out n e stop width pos (numbers_of t (kids 0 (suc e) r))
    unfolding nub_onto
    array_listed s =
        let g = box_stand arr r d at q in
        record {
          long = g.indexed.long;
          within = o.within;
          members = members arr r d at q ∙ sym (length-map (kids 0 (suc e) r) (number (pieces_in t)));
          refs = rw s (refs arr r d at q (e + skip 0 r) 0 0 (kids 0 (suc e) r) (path_members g.ready v g.indexed e arr r d) (members_named (pieces_in t) e arr r d));
          room = rw bytes_are at (room arr r d at q [] then);
        }

    pub array_grown : {a : List ℕ} {j : ℕ} → Wrote out pos (object_bytes width (list (numbers_of t (kids 0 (suc e) r)))) a j → Spoke t n e out pos v a j
    array_grown f = rw then (box_grown arr r d at q (rw bytes_are f))

  -- a dictionary
  module _ (r : List Piece) (d : drop e (pieces_in t) ≡ start dic ∷ r) {num : ℕ} (at : suc num ≡ get_or w (n * 4 + e) 0) {v : List ℕ} (q : v ≡ set w (n * 5 + num) pos) {stop : ℕ} (s : stop ≡ e + skip 0 r) where
    both_are : bytes_at (pieces_in t) (box e) ≡ object_bytes width (pairs (numbers_of t (evens (kids 0 (suc e) r))) (numbers_of t (odds (kids 0 (suc e) r))))
    both_are = dictionary_bytes (pieces_in t) e r d ∙ rw (← o.wide)

    after : said_at t (suc e) ≡ nub_onto same (with_box t e) (evens (kids 0 (suc e) r))
    after = at_dictionary max_open (pieces_in t) o.stand.ready.shaped e r d

    half : length (kids 0 (suc e) r) / 2 ≡ length (evens (kids 0 (suc e) r))
    half =
        let m = kids 0 (suc e) r in
        omega (arith, length_odds m, (pairs_length (pieces_in t) (e + skip 0 r) (suc e) (evens m) (odds m) (in_pairs max_open (pieces_in t) o.stand.ready.shaped e r d)).1)

    pub dictionary_paired : Paired v out n e stop width pos (numbers_of t (evens (kids 0 (suc e) r))) (numbers_of t (odds (kids 0 (suc e) r)))
    dictionary_paired =
        let g = box_stand dic r d at q in
        let h = keys_named (pieces_in t) e r d in
        record {
          long = g.indexed.long;
          within = o.within;
          members = ap (λ (m : ℕ). m / 2) (members dic r d at q) ∙ half ∙ sym (length-map (evens (kids 0 (suc e) r)) (number (pieces_in t)));
          keys = rw s (refs dic r d at q (e + skip 0 r) 1 0 (evens (kids 0 (suc e) r)) (path_keys g.ready v g.indexed e r d) h.0);
          values = rw s (refs dic r d at q (e + skip 0 r) 1 1 (odds (kids 0 (suc e) r)) (path_values g.ready v g.indexed e r d) h.1);
          room = rw both_are at (room dic r d at q (evens (kids 0 (suc e) r)) after);
        }

    module _ {a : List ℕ} {j : ℕ} (f : Wrote out pos (object_bytes width (pairs (numbers_of t (evens (kids 0 (suc e) r))) (numbers_of t (odds (kids 0 (suc e) r))))) a j) where
      first : Grown t n (said_at t e) out pos (with_box t e) v a j
      first = box_grown dic r d at q (rw both_are f)

      pub dictionary_keys : Keys t v a n (e + 1) stop j (with_box t e) (evens (kids 0 (suc e) r)) (odds (kids 0 (suc e) r))
      dictionary_keys =
          let le = rw after at (spoken_fits (pieces_in t) (suc e)) in
          let l : length a ≡ length out = wrote_length f in
          record {
            stand = first.stand;
            pairs = rw (add-one, s) (in_pairs max_open (pieces_in t) o.stand.ready.shaped e r d);
            named = (keys_named (pieces_in t) e r d).0;
            room = record { fits = omega (arith, le, o.fits, l); small = omega (arith, le, o.small) };
          }

      pub dictionary_grown : {u b : List ℕ} {i : ℕ} → Grown t n (with_box t e) a j (nub_onto same (with_box t e) (evens (kids 0 (suc e) r))) u b i → Spoke t n e out pos u b i
      dictionary_grown g = rw after (grown_join o.stand.here first g)
