-- Changing given lengths changes no refusal but those that follow from the tape's own length, its events' places, and a malformed number.
use Rattle.std.specs.Prelude.{Bool, ◌⊎◌, get_or}
use Rattle.std.proofs.Math.Bool.{true, false}
use mathlib.Core.List.{List, [], ◌∷◌, ◌++◌, map, map-append, append_assoc}
use Rattle.std.proofs.Common.{inl, inr, ◌∙◌, add-zero, ltb-true, ltb-false, take-append-drop, take_all}
use Rattle.std.proofs.Math.Path.{◌≡◌, refl, sym, ap}
use Prim.Native.Nat.{ℕ, zero, suc, ◌+◌, ◌-◌, ◌≤◌, ◌<◌}
use Rattle.std.proofs.Math.Nat.{zero-sub, suc-sub-suc, sub-zero}
use native.Mathlib.Omega.{arith}
use Rattle.std.proofs.Math.Dec.{ltb}
use Rattle.std.proofs.Math.ListN.{length, take, drop, length-append, length-drop}
use Rattle.std.proofs.lemmas.List.{length-map, get_or_at, take-append-le}
use Rattle.std.proofs.Math.Seq.{drop_at}
use Rattle.number.specs.BeLaws.{Bytes}
use Rattle.event.specs.Format.{max_length}
use Rattle.event.specs.Meaning.{Meaning, close}
use Rattle.event.specs.Unmeasured.{unmeasured}
use Rattle.tape.proofs.CodeLaws.{bytes_some}
use Rattle.tape.specs.Events.{Events, whole, broken, events_of, tape_of, meant_by, meanings_in, is_broken, start_at}
use Rattle.tape.proofs.EventsLaws.{all_append, whole_is, broken_is, tape_whole, tape_broken, tape_append}
use Rattle.tape.specs.Item.{bad, read_at}
use Rattle.tape.proofs.PlaceLaws.{bad_there}
use Rattle.tape.proofs.StartLaws.{Among, start_inside}
use Rattle.grammar.specs.Check.{check_of}
use Rattle.grammar.specs.MoreLaws.{bad_stops, stops_within, stops_least, bad_or_same}
use Rattle.grammar.specs.Said.{number_of, kinds_of, refused_at}
use Rattle.grammar.specs.Verdict.{Verdict, passes, unfinished, stops, judge_from, judge, said_by}
use Rattle.grammar.specs.VerdictLaws.{judge_meant, judge_unmeasured}
use Rattle.grammar.specs.declared.answer.Refusal.{Refusal}
use Rattle.grammar.specs.declared.answer.Refusal.TheVariants.{BadTape}
use Rattle.grammar.specs.declared.turn.Due.TheVariants.{Root}
use Rattle.written.specs.File.{file_for}
use Rattle.written.specs.Graph.{arr, dic, piece_of}
use Rattle.writer.specs.Write.{refused, by_check, write_of}
use Rattle.written_claims.specs.Lengths.{TapePiece, event, given, bytes_in, tape_from, place_of, Formed, Malformed, shape_of, LengthsApart, Answers, equal, at_piece, in_rest, at_end, one_long, other_long, one_malformed, other_malformed}
use Rattle.written_claims.proofs.Same.{pieces_unmeasured, file_same}
use Rattle.written_claims.proofs.SameAnswers.{answered}
use Rattle.written_claims.proofs.TapePieceLaws.{Front, front_held, front_shape, front_length, front_tape, front_place, Walked, over, stuck, walked, bytes_behind}

-- the first of two lists, then the second
take_both : (i : ℕ) (ms ns : List Meaning) → take i (ms ++ ns) ≡ take i ms ++ take (i - length ms) ns
take_both zero ms ns = rw zero-sub
take_both (suc i) [] ns = rw sub-zero
take_both (suc i) (m ∷ ms) ns = rw suc-sub-suc (ap (λ (l : List Meaning). m ∷ l) (take_both i ms ns))

tape_from_law : (ps qs : List TapePiece) (rest : List ℕ) → tape_from (ps ++ qs) rest ≡ tape_from ps (tape_from qs rest)
unfolding tape_from
tape_from_law [] qs rest = refl
tape_from_law (p ∷ ps) qs rest = rw (tape_from_law ps qs rest)

tape_rest : (ps : List TapePiece) (rest : List ℕ) → tape_from ps rest ≡ tape_from ps [] ++ rest
unfolding tape_from
tape_rest [] rest = refl
tape_rest (p ∷ ps) rest = rw (tape_rest ps rest, append_assoc)

piece_some : (p : TapePiece) → 0 < length (bytes_in p)
unfolding bytes_in
piece_some (event m) = bytes_some m
piece_some (given arr s) = omega arith
piece_some (given dic s) = omega arith

-- the verdict on pieces of these shapes and a rest, were no number malformed
abbrev verdict_of : List Meaning → List ℕ → Verdict
verdict_of shapes rest = judge_from (is_broken (events_of rest)) Root [] (shapes ++ map unmeasured (meanings_in rest))

-- that is the verdict on the tape, with these places and these events
record Straight (tape : List ℕ) (ps : List TapePiece) (rest : List ℕ) : Type 0 where
  verdict : judge (events_of tape) ≡ verdict_of (map shape_of ps) rest
  places : (i : ℕ) → i ≤ length (meanings_in tape) → start_at tape i ≡ place_of ps i + start_at rest (i - length ps)
  events : (n : ℕ) → verdict_of (map shape_of ps) rest ≡ passes n → map unmeasured (meanings_in tape) ≡ map shape_of ps ++ map unmeasured (meanings_in rest)

-- or a start is refused, whose number is malformed
record Refused (tape : List ℕ) (ps : List TapePiece) : Type 0 where
  piece : ℕ
  is : Malformed (get_or ps piece (event close))
  verdict : judge (events_of tape) ≡ stops piece BadTape
  place : start_at tape piece ≡ place_of ps piece

-- a tape of pieces and a rest
module _ (tape : List ℕ) (ps : List TapePiece) (rest : List ℕ) (split : tape ≡ tape_from ps rest) (good : Bytes tape) where
  -- all pieces are events
  module _ (ms : List Meaning) (f : Front ps ms) where
    tape_over : tape ≡ tape_of ms ++ rest
    tape_over = split ∙ front_tape ps ms rest f

    rest_bytes : Bytes rest
    rest_bytes = bytes_behind (tape_of ms) rest (rw tape_over at good)

    events_over : (es : Events) → events_of rest ≡ es → (meant_by (events_of tape) ≡ ms ++ meant_by es) × (is_broken (events_of tape) ≡ is_broken es)
    unfolding meant_by
    events_over (whole ns) e =
        let w = whole_is rest ns rest_bytes e in
        let t : tape ≡ tape_of (ms ++ ns) = tape_over ∙ rw w.1 (sym (tape_append ms ns)) in
        let x : events_of tape ≡ whole (ms ++ ns) = rw t (tape_whole (ms ++ ns) (all_append ms ns (front_held ps ms f) w.0)) in
        (rw x, rw x)
    events_over (broken ns place) e =
        let w = broken_is rest ns place rest_bytes e in
        let q : List ℕ = drop place rest in
        let r : rest ≡ tape_of ns ++ q = sym (take-append-drop place rest) ∙ ap (λ (l : List ℕ). l ++ q) w.front in
        let t : tape ≡ tape_of (ms ++ ns) ++ q = tape_over ∙ ap (λ (l : List ℕ). tape_of ms ++ l) r ∙ rw (tape_append ms ns, append_assoc) in
        let d : q ≡ drop (length (tape_of (ms ++ ns))) tape = rw (t, drop_at (tape_of (ms ++ ns)) q (length (tape_of (ms ++ ns))) refl) in
        let n : read_at tape (length (tape_of (ms ++ ns))) ≡ bad = bad_there rest tape place (length (tape_of (ms ++ ns))) good d w.is_bad in
        let some : 0 < length q = rw length-drop (omega (arith, w.within)) in
        let x : events_of tape ≡ broken (ms ++ ns) (length (tape_of (ms ++ ns))) = rw t (tape_broken (ms ++ ns) q (all_append ms ns (front_held ps ms f) w.held) some (rw t at n)) in
        (rw x, rw x)

    straight_over : Straight tape ps rest
    unfolding meanings_in start_at
    straight_over =
        let e = events_over (events_of rest) refl in
        let ns = meanings_in rest in
        let is : map unmeasured (ms ++ ns) ≡ map shape_of ps ++ map unmeasured ns = map-append unmeasured ms ns ∙ rw (front_shape ps ms f) in
        record {
          verdict = judge_meant (events_of tape) ∙ rw (e.0, e.1) (sym (judge_unmeasured _ Root [] (ms ++ ns)) ∙ rw is);
          places = λ i h. rw (e.0, take_both i ms ns, tape_append, length-append, front_place i ps ms f, front_length ps ms f);
          events = λ n v. rw e.0 is;
        }

  -- or those in front of a start whose number is malformed
  module _ (front : List TapePiece) (ms : List Meaning) (p : TapePiece) (more : List TapePiece) (is : ps ≡ front ++ (p ∷ more)) (f : Front front ms) (x : Malformed p) (b : read_at (bytes_in p ++ tape_from more rest) 0 ≡ bad) where
    events_stuck : events_of tape ≡ broken ms (length (tape_of ms))
    unfolding tape_from
    events_stuck =
        let q : List ℕ = bytes_in p ++ tape_from more rest in
        let t : tape ≡ tape_of ms ++ q = split ∙ rw (is, tape_from_law front (p ∷ more) rest) (front_tape front ms q f) in
        let d : q ≡ drop (length (tape_of ms)) tape = rw (t, drop_at (tape_of ms) q (length (tape_of ms)) refl) in
        let n : read_at tape (length (tape_of ms)) ≡ bad = bad_there q tape 0 (length (tape_of ms)) good d b in
        let some : 0 < length q = rw length-append (omega (arith, piece_some p)) in
        rw t (tape_broken ms q (front_held front ms f) some (rw t at n))

    judged_stuck : judge (events_of tape) ≡ judge_from true Root [] (map shape_of front)
    unfolding meant_by
    judged_stuck = judge_meant (events_of tape) ∙ rw (events_stuck, front_shape front ms f) (sym (judge_unmeasured true Root [] ms))

    -- the verdict on all pieces begins with that on the pieces in front
    abbrev behind : List Meaning
    behind = map shape_of more ++ map unmeasured (meanings_in rest)

    verdict_is : verdict_of (map shape_of ps) rest ≡ judge_from (is_broken (events_of rest)) Root [] (map shape_of front ++ (shape_of p ∷ behind))
    verdict_is = rw (is, map-append shape_of front (p ∷ more), append_assoc)

    place_front : (i : ℕ) → i ≤ length ms → length (tape_of (take i ms)) ≡ place_of ps i
    unfolding place_of
    place_front i h =
        let y : take i ps ≡ take i front = rw is (take-append-le i front (p ∷ more) (omega (arith, front_length front ms f))) in
        rw y (sym (front_place i front ms f))

    -- no piece of them lies in the rest
    place_stuck : (i : ℕ) → i ≤ length ms → length (tape_of (take i ms)) ≡ place_of ps i + start_at rest (i - length ps)
    unfolding start_at tape_of
    place_stuck i h =
        let l : length ps ≡ length front + suc (length more) = ap length is ∙ length-append front (p ∷ more) in
        let n : i - length ps ≡ 0 = omega (arith, l, front_length front ms f) in
        rw (n, add-zero) (place_front i h)

    stuck_or_straight : Straight tape ps rest ⊎ Refused tape ps
    unfolding meanings_in meant_by start_at
    stuck_or_straight = go (bad_or_same (is_broken (events_of rest)) Root [] (map shape_of front) (shape_of p) behind)
      where
        never : (n : ℕ) → judge_from true Root [] (map shape_of front) ≡ passes n → ⊥
        never n e =
            let s = bad_stops Root [] (map shape_of front) in
            let u : stops s.0 s.1 ≡ passes n = sym s.2 ∙ e in
            let z : ◌≡◌ {A = ℕ} 0 1 = cc in
            omega arith

        go : (judge_from true Root [] (map shape_of front) ≡ judge_from (is_broken (events_of rest)) Root [] (map shape_of front ++ (shape_of p ∷ behind))) ⊎ (judge_from true Root [] (map shape_of front) ≡ stops (length (map shape_of front)) BadTape) → Straight tape ps rest ⊎ Refused tape ps
        go (inl e) =
            let v : judge_from true Root [] (map shape_of front) ≡ verdict_of (map shape_of ps) rest = e ∙ sym verdict_is in
            inl (record { verdict = judged_stuck ∙ v; places = rw events_stuck place_stuck; events = λ n w. absurd (never n (v ∙ w)) })
        go (inr e) =
            inr (record {
              piece = length front;
              is = rw (is, get_or_at front p more (event close) (length front) refl) x;
              verdict = judged_stuck ∙ rw (length-map front shape_of) at e;
              place = rw events_stuck (place_front (length front) (omega (arith, front_length front ms f)));
            })

  judged : Formed ps rest → Straight tape ps rest ⊎ Refused tape ps
  judged f = go (walked ps rest f (rw split at good))
    where
      go : Walked ps rest → Straight tape ps rest ⊎ Refused tape ps
      go (over ms g) = inl (straight_over ms g)
      go (stuck front ms p more is g x b) = stuck_or_straight front ms p more is g x b

-- what the writer answers to a tape that is not too long (1)
module _ (tape : List ℕ) (good : Bytes tape) (short : length tape ≤ max_length) (words room : ℕ) where
  answered_stop : (i : ℕ) (r : Refusal) → judge (events_of tape) ≡ stops i r → write_of tape words room ≡ refused (number_of r) (kinds_of r) (start_at tape i)
  unfolding said_by by_check refused_at
  answered_stop i r e = answered tape good short words room (stops i r) e

  -- a refusal, where no number is malformed
  module _ {ps : List TapePiece} {rest : List ℕ} (g : Straight tape ps rest) (i : ℕ) (r : Refusal) (e : verdict_of (map shape_of ps) rest ≡ stops i r) where
    answered_place : write_of tape words room ≡ refused (number_of r) (kinds_of r) (place_of ps i + start_at rest (i - length ps))
    answered_place =
        let v = g.verdict ∙ e in
        answered_stop i r v ∙ rw (g.places i (stops_least tape i r v))

    answered_piece : i < length ps → write_of tape words room ≡ refused (number_of r) (kinds_of r) (place_of ps i)
    unfolding start_at tape_of
    answered_piece h =
        let n : i - length ps ≡ 0 = omega arith in
        answered_place ∙ rw (n, add-zero)

    answered_rest : length ps ≤ i → write_of tape words room ≡ refused (number_of r) (kinds_of r) (length (tape_from ps []) + start_at rest (i - length ps))
    unfolding place_of
    answered_rest h = answered_place ∙ rw (take_all i ps h)

-- THE SECOND SENTENCE OF REQUEST 113
module _ {s t : List ℕ} (good : Bytes s) (well : Bytes t) (d : LengthsApart s t) (words room : ℕ) where
  abbrev Goal : Type 0
  Goal = Answers d (write_of s words room) (write_of t words room)

  abbrev verdict : Verdict
  verdict = verdict_of (map shape_of d.ps) d.rest

  same_number : length d.ps ≡ length d.qs
  same_number = sym (length-map d.ps shape_of) ∙ ap length d.same ∙ length-map d.qs shape_of

  rest_of : Bytes d.rest
  rest_of = bytes_behind (tape_from d.ps []) d.rest (rw (← tape_rest d.ps d.rest, ← d.one) good)

  -- none is too long, and no malformed number is met
  module _ (ls : length s ≤ max_length) (lt : length t ≤ max_length) (g : Straight s d.ps d.rest) (h : Straight t d.qs d.rest) where
    others : (v : Verdict) → verdict ≡ v → verdict_of (map shape_of d.qs) d.rest ≡ v
    others v e = rw (← d.same) e

    same_file : (n : ℕ) → verdict ≡ passes n → file_for (meanings_in s) ≡ file_for (meanings_in t)
    same_file n e =
        let m = meanings_in s in
        let o = meanings_in t in
        let p : map unmeasured m ≡ map unmeasured o = g.events n e ∙ rw d.same (sym (h.events n (others (passes n) e))) in
        file_same m o (sym (pieces_unmeasured m) ∙ ap (map piece_of) p ∙ pieces_unmeasured o)

    inside : (i : ℕ) (r : Refusal) → verdict ≡ stops i r → length d.ps ≤ i → start_at d.rest (i - length d.ps) < length d.rest
    inside i r e l = start_inside d.rest (i - length d.ps) rest_of (go (stops_within _ Root [] _ i r e))
      where
        n : length (map shape_of d.ps ++ map unmeasured (meanings_in d.rest)) ≡ length d.ps + length (meanings_in d.rest)
        n = length-append (map shape_of d.ps) (map unmeasured (meanings_in d.rest)) ∙ rw (length-map d.ps shape_of, length-map (meanings_in d.rest) unmeasured)

        go : Among (length (map shape_of d.ps ++ map unmeasured (meanings_in d.rest))) (is_broken (events_of d.rest)) i → Among (length (meanings_in d.rest)) (is_broken (events_of d.rest)) (i - length d.ps)
        go (inl q) = inl (omega (arith, n))
        go (inr (q, b)) = inr (omega (arith, n), b)

    stopped : (i : ℕ) (r : Refusal) → verdict ≡ stops i r → Goal
    stopped i r e = go (ltb i (length d.ps)) refl
      where
        go : (b : Bool) → ltb i (length d.ps) ≡ b → Goal
        go true f =
            let l : i < length d.ps = ltb-true i (length d.ps) f in
            at_piece i r l (answered_piece s good ls words room g i r e l) (answered_piece t well lt words room h i r (others (stops i r) e) (omega (arith, same_number)))
        go false f =
            let l : length d.ps ≤ i = ltb-false i (length d.ps) f in
            in_rest (start_at d.rest (i - length d.ps)) r (inside i r e l) (answered_rest s good ls words room g i r e l) (rw same_number (answered_rest t well lt words room h i r (others (stops i r) e) (omega (arith, same_number))))

    answers_by : (v : Verdict) → verdict ≡ v → Goal
    unfolding said_by by_check refused_at number_of kinds_of
    answers_by (passes n) e = equal (answered s good ls words room (passes n) (g.verdict ∙ e) ∙ rw (same_file n e) (sym (answered t well lt words room (passes n) (h.verdict ∙ others (passes n) e))))
    answers_by unfinished e = at_end (answered s good ls words room unfinished (g.verdict ∙ e)) (answered t well lt words room unfinished (h.verdict ∙ others unfinished e))
    answers_by (stops i r) e = stopped i r e

  -- none is too long
  answers_short : length s ≤ max_length → length t ≤ max_length → Goal
  unfolding number_of kinds_of
  answers_short ls lt = go (judged s d.ps d.rest d.one good d.one_formed) (judged t d.qs d.rest d.other well d.other_formed)
    where
      go : Straight s d.ps d.rest ⊎ Refused s d.ps → Straight t d.qs d.rest ⊎ Refused t d.qs → Goal
      go (inr f) o = one_malformed f.piece f.is (answered_stop s good ls words room f.piece BadTape f.verdict ∙ rw f.place)
      go (inl g) (inr f) = other_malformed f.piece f.is (answered_stop t well lt words room f.piece BadTape f.verdict ∙ rw f.place)
      go (inl g) (inl h) = answers_by ls lt g h verdict refl

  pub lengths_apart : Answers d (write_of s words room) (write_of t words room)
  unfolding write_of by_check check_of refused_at number_of kinds_of
  lengths_apart = go (ltb max_length (length s)) (ltb max_length (length t)) refl refl
    where
      go : (b c : Bool) → ltb max_length (length s) ≡ b → ltb max_length (length t) ≡ c → Goal
      go true c e f = one_long (ltb-true max_length (length s) e) (rw e)
      go false true e f = other_long (ltb-true max_length (length t) f) (rw f)
      go false false e f = answers_short (ltb-false max_length (length s) e) (ltb-false max_length (length t) f)
