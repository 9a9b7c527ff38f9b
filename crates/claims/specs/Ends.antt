-- Over any file the calls come to an end.
use Rattle.std.specs.Prelude.{List, ◌⊎◌, ◌≡◌, refl, ℕ, zero, suc, ◌+◌, ◌-◌, ◌*◌, ◌^◌, ◌≤◌, ◌<◌, length, set}
use Rattle.std.proofs.Common.{inl, inr, sym, ap, subst, ◌∙◌, le-mul_of_pos_right, zero-add, arith, lit<, lit≤, get_or-set_same, get_or-set_other}
use Rattle.std.proofs.Math.Nat.{one-le-pow, sub-zero}
use Rattle.number.specs.Width.{bytes_in}
use Rattle.number.specs.WidthLaws.{bytes_in_pos}
use Rattle.event.specs.declared.Event.TheVariants.{EndCollection}
use Rattle.layout.specs.FoundLaws.{refs_of}
use Rattle.layout.specs.Layout.{due_of}
use Rattle.layout.specs.Frame.{no_frame, next_in}
use Rattle.layout.specs.declared.layout.Due.TheVariants.{Member}
use Rattle.layout.specs.declared.layout.Layout.{Layout}
use Rattle.layout.specs.declared.frame.Frame.{Frame}
use Rattle.reader.specs.Calls.{runs, answer_of}
use Rattle.reader.specs.CallsLaws.{runs_more}
use Rattle.reader.specs.Machine.{Said, Origin, event, event_at, ended, refused, Step, step}
use Rattle.reader.specs.Next.{laid_out, next_of}
use Rattle.reader.specs.NextLaws.{next_ended}
use Rattle.reader.specs.State.{max_open, fresh_reader, ended_reader, innermost, advanced, passed, entered, closed}
use Rattle.reader.specs.declared.state.Reader.{Reader}
use Rattle.claims.specs.Call as call
use Rattle.claims.specs.Call.{Call, First, first}
use Rattle.claims.specs.Open.{frame_at, Opened, Stack, Open}
use Rattle.claims.specs.Reached.{due_top, passed_is, entered_is, closed_is, closed_last, open_passed, open_entered, open_closed, open_first}
use Rattle.claims.specs.Stack.{same_or_not, next_position, on_top, on_other, stack_on, off_other}
use Rattle.claims.specs.Weight.{weight, unit_pos, weight_same, weight_top, unit_more, weight_next, weighs}

-- a container has at most as many references as the file has bytes
refs_few : (file : List ℕ) (l : Layout) (f : Frame) (t : Opened file l f) → refs_of t.shape f.length ≤ length file
refs_few file l f t =
    let i : t.standing.lies.extent.start + refs_of t.shape f.length * bytes_in l.refs ≤ length file = t.standing.lies.inside in
    omega (arith, le-mul_of_pos_right (refs_of t.shape f.length) (bytes_in_pos l.refs))

module _ (file : List ℕ) (l : Layout) (root depth : ℕ) (fs : List Frame) (o : Stack file l root depth fs) (deepest : ℕ) (fits : depth ≤ deepest) where
  abbrev weight_of : List Frame → ℕ → ℕ
  weight_of gs h = weight (length file) deepest gs h

  abbrev unit : ℕ
  unit = (length file + 2) ^ (deepest - (depth - 1))

  abbrev place : ℕ
  place = (frame_at fs (depth - 1)).position

  few : place ≤ length file
  few =
      let t = o.opened (depth - 1) (omega arith) in
      omega (arith, refs_few file l (frame_at fs (depth - 1)) t, t.within)

  -- a close weighs less
  falls_off : 1 < depth → weight_of (set fs (depth - 1) no_frame) (depth - 1) < weight_of fs depth
  falls_off more =
      let a = weight_same (length file) deepest (set fs (depth - 1) no_frame) fs (depth - 1) (λ i h. off_other file l root depth fs o more i h) in
      let b = weight_top (length file) deepest fs depth o.some in
      let c : 0 < (length file + 1 - place) * unit = weighs (length file) unit place few (unit_pos (length file) deepest (depth - 1)) in
      omega arith

  -- a reference that is handed out, by a unit
  falls_on : (n : ℕ) → due_of file l (frame_at fs (depth - 1)) ≡ Member n → weight_of (set fs (depth - 1) (next_in (frame_at fs (depth - 1)))) depth + unit ≡ weight_of fs depth
  falls_on n due =
      let gs = set fs (depth - 1) (next_in (frame_at fs (depth - 1))) in
      let a = weight_same (length file) deepest gs fs (depth - 1) (λ i h. on_other file l root depth fs o n due i (λ e. omega arith)) in
      let b = weight_top (length file) deepest fs depth o.some in
      let c = weight_top (length file) deepest gs depth o.some in
      let p : (frame_at gs (depth - 1)).position ≡ place + 1 = rw (on_top file l root depth fs o n due) (next_position (frame_at fs (depth - 1))) in
      let d : (length file + 1 - (frame_at gs (depth - 1)).position) * unit + unit ≡ (length file + 1 - place) * unit = rw p (weight_next (length file) unit place few) in
      omega arith

  -- and a container that is entered weighs less than that unit
  falls_onto : (n : ℕ) → due_of file l (frame_at fs (depth - 1)) ≡ Member n → depth < max_open → (new : Frame) → new.position ≡ 0
      → weight_of (set (set fs (depth - 1) (next_in (frame_at fs (depth - 1)))) depth new) (depth + 1) < weight_of fs depth
  falls_onto n due below new zeroth =
      let gs = set fs (depth - 1) (next_in (frame_at fs (depth - 1))) in
      let ks = set gs depth new in
      let k : depth + 1 - 1 ≡ depth = omega arith in
      let q : length gs ≡ max_open = (stack_on file l root depth fs o n due).room in
      let a = weight_same (length file) deepest ks gs depth (λ i h. get_or-set_other gs depth i new no_frame (λ e. omega arith)) in
      let t : frame_at ks depth ≡ new = get_or-set_same gs depth new no_frame (omega arith) in
      let b : weight_of ks (depth + 1) ≡ weight_of ks depth + (length file + 1 - (frame_at ks depth).position) * (length file + 2) ^ (deepest - depth) = rw k at (weight_top (length file) deepest ks (depth + 1) (omega arith)) in
      let c : (length file + 1 - (frame_at ks depth).position) * (length file + 2) ^ (deepest - depth) ≡ (length file + 1) * (length file + 2) ^ (deepest - depth) = rw (t, zeroth, sub-zero) in
      omega (arith, falls_on n due, unit_more (length file) deepest depth o.some fits)

  -- something is left while a container is open
  weighs_some : 0 < weight_of fs depth
  weighs_some =
      let b = weight_top (length file) deepest fs depth o.some in
      omega (arith, weighs (length file) unit place few (unit_pos (length file) deepest (depth - 1)))

-- the weight of a reader
abbrev left : List ℕ → Reader → ℕ
left file r = weight (length file) max_open r.frames r.depth

-- the end: nothing more is handed out
abbrev pub Final : Said → Type 0
Final (event e) = ⊥
Final ended = Unit {0}
Final (refused number values at) = Unit {0}

-- a call of a reader with an open container is final, or closes the last one, or goes on with less weight
data Goes (file : List ℕ) (r : Reader) : Type 0 where
  final : Final (next_of file r).answer → Goes file r
  last : (next_of file r).state ≡ ended_reader → Goes file r
  less : Open file (next_of file r).state → left file (next_of file r).state < left file r → Goes file r

module _ (file : List ℕ) (r : Reader) (o : Open file r) where
  goes_to : (s : Reader) (a : Said) → next_of file r ≡ step s a → Open file s → left file s < left file r → Goes file r
  goes_to s a e t h = less (rw e t) (rw e h)

  closed_goes : (from : Origin) → next_of file r ≡ step (closed r) (event_at EndCollection from) → Goes file r
  closed_goes from e = go (same_or_not r.depth 1)
    where
      go : (r.depth ≡ 1) ⊎ (r.depth ≡ 1 → ⊥) → Goes file r
      go (inl q) = last (rw e (closed_last file r o q))
      go (inr d) =
          let more : 1 < r.depth = omega (arith, o.stack.some) in
          goes_to (closed r) _ e (open_closed file r o more) (rw (closed_is file r o more) (falls_off file o.layout o.root r.depth r.frames o.stack max_open o.stack.few more))

  module _ (n : ℕ) (due : due_of file o.layout (innermost r) ≡ Member n) where
    passed_less : (place : ℕ) → left file (passed r place) < left file r
    passed_less place =
        rw (passed_is file r o place)
        (omega (arith, falls_on file o.layout o.root r.depth r.frames o.stack max_open o.stack.few n (due_top file r o n due), unit_pos (length file) max_open (r.depth - 1)))

    entered_less : r.depth < max_open → (k place : ℕ) → left file (entered r n k place) < left file r
    entered_less below k place =
        rw (entered_is file r o n k place)
        (falls_onto file o.layout o.root r.depth r.frames o.stack max_open o.stack.few n (due_top file r o n due) below _ refl)

  goes : Call file o.layout r → Goes file r
  goes (call.closing e) = closed_goes _ e
  goes (call.refusing number values place h e) = final (rw e tt)
  goes (call.passing n d v offset a e) = goes_to (passed r offset) _ e (open_passed file r o n d offset) (passed_less n d offset)
  goes (call.again n d m offset e) = final (rw e tt)
  goes (call.deep n d m h k offset e) = final (rw e tt)
  goes (call.entering n d m few s k offset look e) = goes_to (entered r n k offset) _ e (open_entered file r o n d m few s k offset look) (entered_less n d few k offset)

-- a call whose answer is final, after at most so many calls
pub record EndsBy (file : List ℕ) (most : ℕ) : Type 0 where
  pub calls : ℕ
  pub soon : calls ≤ most
  pub ends : Final (answer_of file calls)

later : {file : List ℕ} (m n : ℕ) → m ≤ n → EndsBy file m → EndsBy file n
later m n h e = record { calls = e.calls; soon = omega arith; ends = e.ends }

-- where the state has ended, the next answer is ended
ended_now : (file : List ℕ) (n : ℕ) → runs file n ≡ ended_reader → EndsBy file n
unfolding answer_of
ended_now file n e = record { calls = n; soon = omega arith; ends = subst Final (sym (ap (λ (r : Reader). (next_of file r).answer) e ∙ ap (λ (s : Step). s.answer) (next_ended file ended_reader refl refl))) tt }

fuel_on : (file : List ℕ) (k n : ℕ) → left file (runs file n) ≤ suc k → Goes file (runs file n)
    → (Open file (runs file (suc n)) → left file (runs file (suc n)) ≤ k → EndsBy file (suc n + k)) → EndsBy file (n + suc k)
unfolding answer_of
fuel_on file k n h (final f) more = record { calls = n; soon = omega arith; ends = f }
fuel_on file k n h (last e) more = later (suc n) (n + suc k) (omega arith) (ended_now file (suc n) (runs_more file n ∙ e))
fuel_on file k n h (less o l) more = later (suc n + k) (n + suc k) (omega arith) (more (rw runs_more o) (rw runs_more (omega arith)))

-- so a reader with an open container ends within as many calls as it weighs
fuel : (file : List ℕ) (k n : ℕ) → Open file (runs file n) → left file (runs file n) ≤ k → EndsBy file (n + k)
fuel file zero n o h =
    absurd (omega (arith, weighs_some file o.layout o.root (runs file n).depth (runs file n).frames o.stack max_open o.stack.few))
fuel file (suc k) n o h = fuel_on file k n h (goes file (runs file n) o (call.call file (runs file n) o)) (fuel file k (suc n))

-- a root that was entered weighs less than the bound
first_weighs : (file : List ℕ) (l : Layout) (root k offset : ℕ) → left file (entered (laid_out file l) root k offset) < (length file + 2) ^ (max_open + 1)
unfolding entered laid_out advanced weight
first_weighs file l root k offset =
    let e : left file (entered (laid_out file l) root k offset) ≡ (length file + 1) * (length file + 2) ^ max_open = simp (zero-add, sub-zero) in
    let u : (length file + 1) * (length file + 2) ^ max_open < (length file + 2) ^ (max_open + 1) = unit_more (length file) (max_open + 1) 1 (lit< tt) (lit≤ tt) in
    omega arith

refused_final : (file : List ℕ) (r s : Reader) (number : ℕ) (values : List ℕ) (place : ℕ) → next_of file r ≡ step s (refused number values place) → Final (next_of file r).answer
refused_final file r s number values place e = rw e tt

ends_first : (file : List ℕ) → First file → EndsBy file ((length file + 2) ^ (max_open + 1))
unfolding runs answer_of
ends_first file (call.keeping number values at h e) = record { calls = 0; soon = omega arith; ends = refused_final file fresh_reader _ number values at e }
ends_first file (call.refusing number values at h e) = record { calls = 0; soon = omega arith; ends = refused_final file fresh_reader _ number values at e }
ends_first file (call.passing short l root says v offset look e) = later 1 _ (one-le-pow (max_open + 1) (length file + 2) (omega arith)) (ended_now file 1 (ap (λ (s : Step). s.state) e))
ends_first file (call.entering short l root says s k offset look e) =
    let r = entered (laid_out file l) root k offset in
    let q : runs file 1 ≡ r = ap (λ (s : Step). s.state) e in
    later (1 + left file r) _ (omega (arith, first_weighs file l root k offset))
    (fuel file (left file r) 1 (subst (λ (x : Reader). Open file x) (sym q) (open_first file short l root says s k offset look)) (subst (λ (x : Reader). left file x ≤ left file r) (sym q) (omega arith)))

-- every file comes to its end: within (length + 2) ^ (max_open + 1) calls the answer is ended or a refusal
pub ends_by : (file : List ℕ) → EndsBy file ((length file + 2) ^ (max_open + 1))
ends_by file = ends_first file (first file)
