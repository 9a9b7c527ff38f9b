-- The reader on the file of some events hands out what they mean, with the objects' numbers and offsets.
use mathlib.Core.List.{List, [], ◌∷◌, ◌++◌, map}
use Rattle.std.specs.Prelude.{◌≡◌, refl, ℕ, suc, ◌+◌, length, drop, Some}
use Rattle.std.proofs.Math.Path.{ap}
use Rattle.std.proofs.Common.{◌∙◌}
use Rattle.std.proofs.Math.ListN.{replicate}
use Rattle.event.specs.Meaning.{array, dictionary, close, meaning_of}
use Rattle.event.specs.Format.{max_open}
use Rattle.event.specs.declared.Event.{Event}
use Rattle.event.specs.declared.Event.TheVariants.{EndCollection}
use Rattle.layout.specs.Layout.{look_of, source_of}
use Rattle.layout.specs.Looked.{container, start_of}
use Rattle.layout.specs.Looked as looked
use Rattle.layout.specs.Bytes.{event_asked, has_bytes}
use Rattle.reader.specs.Calls.{calls, answers_of}
use Rattle.reader.specs.Machine.{Origin, origin, event_at}
use Rattle.reader.specs.Machine as machine
use Rattle.reader.specs.Meanings.{Told, ended, told, answers, meaning_at}
use Rattle.reader.specs.State.{fresh_reader}
use Rattle.transcribe.specs.TranscriptLaws.{told_of}
use Rattle.written.proofs.EmissionLaws.{in_emission, written_numbered}
use Rattle.written.specs.File.{place_of, file_of}
use Rattle.written.specs.Graph.{Scalar, Kind, arr, dic, Piece, scalar, start, end, Name, val, box, kids, evens, order, number, object_of, meant, spoken}
use Rattle.written.proofs.NameLaws.{In, drop_next, in_here, in_there, in_right}
use Rattle.written.specs.Weigh.{counted}
use Rattle.written_claims.specs.AskedLaws.{own_scalar, own_start, own_end}
use Rattle.written_claims.specs.Back.{event_by}
use Rattle.written_claims.specs.FileShown.{file_shows}
use Rattle.written_claims.specs.Filled.{shape_of, handed_from, origin_of, said_from, event_in}
use Rattle.written_claims.specs.HandsOut.{AsksOwn, HandsOut, HandOut}
use Rattle.written_claims.proofs.HandsOutLaws.{hands_out, told_all}
use Rattle.written_claims.specs.Laid.{layout_of, trailer}
use Rattle.written_claims.specs.NextBack.{told_ended, read_said}
use Rattle.written_claims.proofs.Objects.{look_holder}
use Rattle.written_claims.specs.Writable.{Sound}

-- what the reader's events of containers mean; the file gives them, and they have no bytes
array_hands : (file : List ℕ) (i n at : ℕ) → AsksOwn file (start_of looked.array n) (origin i at) → HandsOut file (record { meaning = array (Some n); offset = at }) (event_at (start_of looked.array n) (origin i at))
unfolding meaning_at meaning_of start_of event_asked has_bytes
array_hands file i n at h = hands_out file i _ (start_of looked.array n) h refl refl

dictionary_hands : (file : List ℕ) (i n at : ℕ) → AsksOwn file (start_of looked.dictionary n) (origin i at) → HandsOut file (record { meaning = dictionary (Some n); offset = at }) (event_at (start_of looked.dictionary n) (origin i at))
unfolding meaning_at meaning_of start_of event_asked has_bytes
dictionary_hands file i n at h = hands_out file i _ (start_of looked.dictionary n) h refl refl

close_hands : (file : List ℕ) (i at : ℕ) → AsksOwn file EndCollection (origin i at) → HandsOut file (record { meaning = close; offset = at }) (event_at EndCollection (origin i at))
unfolding meaning_at meaning_of event_asked has_bytes
close_hands file i at h = hands_out file i _ EndCollection h refl refl

module _ (es : List Piece) (g : Sound es) where
  abbrev pub by : Scalar → Event
  by = event_by es (source_of (file_of es) (layout_of es))

  -- where an object's events come from
  abbrev from : Name → Origin
  from = origin_of es (place_of es)

  -- the reader's answers, event by event
  pub said_back : (m : ℕ) → answers_of (calls (length es + m) (file_of es) fresh_reader) ≡ said_from by from 0 [] es ++ replicate m machine.ended
  said_back m = read_said (file_of es) (layout_of es) g.short (trailer es g.short) es (place_of es) (file_shows es g) m g.one

  -- a scalar's event
  scalar_hands : (s : Scalar) → In (val s) (order es) → HandsOut (file_of es) (record { meaning = meant s; offset = place_of es (val s) }) (event_at (by s) (from (val s)))
  unfolding object_of event_by event_in source_of
  scalar_hands s h =
      let r = file_shows es g (val s) h in
      let e : by s ≡ r.event = rw r.look in
      rw e (hands_out (file_of es) (number es (val s)) _ r.event (own_scalar (file_of es) (layout_of es) 0 g.short (trailer es g.short) (number es (val s)) r.event _ r.look) r.means r.asks)

  pub event_means : (s : Scalar) → In (val s) (order es) → meaning_at (file_of es) (by s) (place_of es (val s)) ≡ meant s
  unfolding object_of event_by event_in
  event_means s h =
      let r = file_shows es g (val s) h in
      let e : by s ≡ r.event = rw r.look in
      rw e r.means

  -- the request for a container's start, and for its end
  module _ (n : ℕ) (k : Kind) (post : List Piece) (d : drop n es ≡ start k ∷ post) (h : In (box n) (order es)) where
    abbrev long : ℕ
    long = counted k (length (kids 0 (suc n) post))

    box_look : look_of (file_of es) (layout_of es) (number es (box n)) ≡ container (shape_of k) long (place_of es (box n))
    box_look = look_holder es g n h (record { kind = k; post = post; there = d })

    start_own : AsksOwn (file_of es) (start_of (shape_of k) long) (from (box n))
    start_own = own_start (file_of es) (layout_of es) 0 g.short (trailer es g.short) (number es (box n)) (shape_of k) long (place_of es (box n)) box_look

    end_own : AsksOwn (file_of es) EndCollection (from (box n))
    end_own = own_end (file_of es) (layout_of es) 0 g.short (trailer es g.short) (number es (box n)) (shape_of k) long (place_of es (box n)) box_look

  -- the open containers' ends are given
  abbrev Closing : List ℕ → Type 0
  Closing [] = Unit {0}
  Closing (p ∷ ps) = AsksOwn (file_of es) EndCollection (from (box p)) × Closing ps

  hands : (fs : List Piece) (n : ℕ) (ps : List ℕ) → drop n es ≡ fs → Closing ps → ((x : Name) → In x (spoken n fs) → In x (order es))
      → HandOut (file_of es) (handed_from (place_of es) n ps fs) (said_from by from n ps fs)
  unfolding said_from handed_from spoken counted
  hands [] n ps d c h = tt
  hands (scalar s ∷ fs) n ps d c h =
      (scalar_hands s (h (val s) (in_here (val s) (spoken (suc n) fs))), hands fs (suc n) ps (drop_next es n _ fs d) c (λ x i. h x (in_there x (val s) (spoken (suc n) fs) i)))
  hands (start arr ∷ fs) n ps d c h =
      let named = h (box n) (in_here (box n) (spoken (suc n) fs)) in (
        array_hands (file_of es) (number es (box n)) _ _ (start_own n arr fs d named),
        hands fs (suc n) (n ∷ ps) (drop_next es n _ fs d) (end_own n arr fs d named, c) (λ x i. h x (in_there x (box n) (spoken (suc n) fs) i)),
      )
  hands (start dic ∷ fs) n ps d c h =
      let ks = evens (kids 0 (suc n) fs) in
      let named = h (box n) (in_here (box n) (ks ++ spoken (suc n) fs)) in (
        dictionary_hands (file_of es) (number es (box n)) _ _ (start_own n dic fs d named),
        hands fs (suc n) (n ∷ ps) (drop_next es n _ fs d) (end_own n dic fs d named, c) (λ x i. h x (in_there x (box n) (ks ++ spoken (suc n) fs) (in_right x ks (spoken (suc n) fs) i))),
      )
  hands (end ∷ fs) n [] d c h = tt
  hands (end ∷ fs) n (p ∷ ps) d c h = (close_hands (file_of es) (number es (box p)) _ c.0, hands fs (suc n) ps (drop_next es n _ fs d) c.1 h)

  -- the answers hand out what the events mean, lengths filled in, and the bytes of data and text
  pub hand_out : HandOut (file_of es) (handed_from (place_of es) 0 [] es) (said_from by from 0 [] es)
  hand_out = hands es 0 [] refl tt (λ x i. written_numbered max_open es x g.one (in_emission es x i))

  pub told_back : (m : ℕ) → answers (length es + m) (file_of es) fresh_reader ≡ told_of (handed_from (place_of es) 0 [] es) ++ replicate m ended
  unfolding answers
  told_back m =
      ap (map (told (file_of es))) (said_back m)
      ∙ told_ended (file_of es) m (said_from by from 0 [] es)
      ∙ ap (λ (l : List Told). l ++ replicate m ended) (told_all (file_of es) (handed_from (place_of es) 0 [] es) (said_from by from 0 [] es) hand_out)
