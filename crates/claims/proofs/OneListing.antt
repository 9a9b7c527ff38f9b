-- Each contract of the functions behind the listing leaves one answer, and one content of all lent memory. A line that is printed is put to a
-- writer, which may fail: that it fails is its own affair, and all else is one.
use mathlib.Core.List.{List}
use mathlib.Core.Path.{◌≡◌, refl, sym, ◌∙◌}
use Prim.Native.Nat.{ℕ}
use borrow.Fn.Kinds.{ParamKind, ResultKind, Out, Dens, ended_of, res_t}
use contract.Lifetimes.{Lfts}
use denote.Param.Laws.{Laws}
use denote.RattleType.{RattleType}
use denote.Triple.Clauses.{AtExit}
use mir.Syntax.{Dict}
use Rattle.std.specs.Prelude.{Option, Some, None, Result, Ok, Err, IsSome, IsOk, OnOk}
use Rattle.std.specs.Io.KnownBytes.{Appends}
use Rattle.std.specs.declared.io.traits.Write.{Ghosts}
use Rattle.digits.proofs.fits.Kinds as fits-kinds
use Rattle.digits.proofs.fits.Reads as fits-reads
use Rattle.digits.proofs.decimal.decimal_length.Kinds as decimal-length-kinds
use Rattle.digits.proofs.decimal.decimal_length.Reads as decimal-length-reads
use Rattle.digits.proofs.decimal.put_decimal.Kinds as put-decimal-kinds
use Rattle.digits.proofs.decimal.put_decimal.Reads as put-decimal-reads
use Rattle.digits.proofs.decimal.signed_length.Kinds as signed-length-kinds
use Rattle.digits.proofs.decimal.signed_length.Reads as signed-length-reads
use Rattle.digits.proofs.decimal.put_signed.Kinds as put-signed-kinds
use Rattle.digits.proofs.decimal.put_signed.Reads as put-signed-reads
use Rattle.digits.proofs.stamp.put_stamp.Kinds as put-stamp-kinds
use Rattle.digits.proofs.stamp.put_stamp.Reads as put-stamp-reads
use Rattle.line.proofs.put.put_event.Kinds as put-event-kinds
use Rattle.line.proofs.put.put_event.Reads as put-event-reads
use Rattle.line.proofs.put.put_refusal.Kinds as put-refusal-kinds
use Rattle.line.proofs.put.put_refusal.Reads as put-refusal-reads
use Rattle.line.proofs.put.put_fixed.Kinds as put-fixed-kinds
use Rattle.line.proofs.put.put_fixed.Reads as put-fixed-reads
use Rattle.say.proofs.say_answer.Kinds as say-answer-kinds
use Rattle.say.proofs.say_answer.Reads as say-answer-reads
use Rattle.say.proofs.say_event.Kinds as say-event-kinds
use Rattle.say.proofs.say_event.Reads as say-event-reads
use Rattle.say.proofs.put_record.Kinds as put-record-kinds
use Rattle.say.proofs.put_record.Reads as put-record-reads
use Rattle.say.proofs.say_fixed.Kinds as say-fixed-kinds
use Rattle.say.proofs.say_fixed.Reads as say-fixed-reads
use Rattle.say.proofs.say_refusal.Kinds as say-refusal-kinds
use Rattle.say.proofs.say_refusal.Reads as say-refusal-reads
use Rattle.say.proofs.say_put.Kinds as say-put-kinds
use Rattle.say.proofs.say_put.Reads as say-put-reads
use Rattle.reader.proofs.One.{One}

-- ---- digits

fits_one : One 0 fits-kinds.ps fits-kinds.r fits-reads.Post (Unit {0}) (λ κs e. tt)
fits_one κs a x y e f p q = (p ∙ sym q, refl)

decimal_length_one : One 0 decimal-length-kinds.ps decimal-length-kinds.r decimal-length-reads.Post (Unit {0}) (λ κs e. tt)
decimal_length_one κs a x y e f p q = (p.0 ∙ sym q.0, refl)

put_decimal_one : One 1 put-decimal-kinds.ps put-decimal-kinds.r put-decimal-reads.Post (List ℕ) (λ κs e. e.0.now)
put_decimal_one κs a x y e f p q = (p.0 ∙ sym q.0, p.1 ∙ sym q.1)

signed_length_one : One 0 signed-length-kinds.ps signed-length-kinds.r signed-length-reads.Post (Unit {0}) (λ κs e. tt)
signed_length_one κs a x y e f p q = (p.0 ∙ sym q.0, refl)

put_signed_one : One 1 put-signed-kinds.ps put-signed-kinds.r put-signed-reads.Post (List ℕ) (λ κs e. e.0.now)
put_signed_one κs a x y e f p q = (p.0 ∙ sym q.0, p.1 ∙ sym q.1)

put_stamp_one : One 1 put-stamp-kinds.ps put-stamp-kinds.r put-stamp-reads.Post (List ℕ) (λ κs e. e.0.now)
put_stamp_one κs a x y e f p q = (p.0 ∙ sym q.0, p.1 ∙ sym q.1)

-- ---- lines

put_event_one : One 2 put-event-kinds.ps put-event-kinds.r put-event-reads.Post (List ℕ) (λ κs e. e.0.now)
put_event_one κs a x y e f p q = (p.0 ∙ sym q.0, p.1 ∙ sym q.1)

put_refusal_one : One 1 put-refusal-kinds.ps put-refusal-kinds.r put-refusal-reads.Post (List ℕ) (λ κs e. e.0.now)
put_refusal_one κs a x y e f p q = (p.0 ∙ sym q.0, p.1 ∙ sym q.1)

put_fixed_one : One 1 put-fixed-kinds.ps put-fixed-kinds.r put-fixed-reads.Post (List ℕ) (λ κs e. e.0.now)
put_fixed_one κs a x y e f p q = (p.0 ∙ sym q.0, p.1 ∙ sym q.1)

-- ---- lines that are printed

-- Of two calls with the same arguments: the scratch and the line's memory are the same, whatever the writer answered. Where both succeed, the answer is
-- the same, and so is what the writer holds, of one that tells what it holds
abbrev OneSaid : (n : ℕ) (ps : List (ParamKind n)) (r : ResultKind n) → Out n ps r → (X : Type 0) → ((κs : Lfts n) → AtExit (ended_of n ps r) κs → X)
    → ((κs : Lfts n) → (res_t r κs).Denot → Type 0) → ((κs : Lfts n) → Dens κs ps → Option (List ℕ)) → ((κs : Lfts n) → AtExit (ended_of n ps r) κs → Option (List ℕ)) → Type 0
OneSaid n ps r post X look is_ok before after =
    (κs : Lfts n) (a : Dens κs ps) (x y : (res_t r κs).Denot) (e f : AtExit (ended_of n ps r) κs) →
    post κs a x e → post κs a y f →
    (look κs e ≡ look κs f) × (is_ok κs x → is_ok κs y → (x ≡ y) × (IsSome (before κs a) → after κs e ≡ after κs f))

same_held : (old e f : Option (List ℕ)) (s : List ℕ) → Appends old e s → Appends old f s → IsSome old → e ≡ f
same_held None e f s p q told = cc
same_held (Some b) None f s p q told = absurd p
same_held (Some b) (Some m) None s p q told = absurd q
same_held (Some b) (Some m) (Some n) s p q told = rw (p, q)

-- both succeed
both : {E : Type 0} (x y : Result (Unit {0}) E) (old e f : Option (List ℕ)) (s : List ℕ) → OnOk x (Appends old e s) → OnOk y (Appends old f s) → IsOk x → IsOk y → (x ≡ y) × (IsSome old → e ≡ f)
both (Ok t) (Ok u) old e f s p q i j = (refl, same_held old e f s p q)
both (Ok t) (Err u) old e f s p q i j = cc
both (Err t) y old e f s p q i j = cc

module _ (T : RattleType) (L : Laws T) (W : Ghosts T.Denot) (d : Dict) where
  say_answer_one : OneSaid 5 (say-answer-kinds.ps T L) (say-answer-kinds.r T L) (say-answer-reads.Post T L W d) (record { scratch : List ℕ; out : List ℕ })
      (λ κs e. record { scratch = e.1.1.0.now; out = e.1.1.1.0.now }) (λ κs x. IsOk x) (λ κs a. W.contents a.0.now) (λ κs e. W.contents e.0.now)
  say_answer_one κs a x y e f p q = (rw (p.0 ∙ sym q.0, p.1.0 ∙ sym q.1.0), both x y _ _ _ _ p.1.1 q.1.1)

  say_event_one : OneSaid 5 (say-event-kinds.ps T L) (say-event-kinds.r T L) (say-event-reads.Post T L W d) (record { scratch : List ℕ; out : List ℕ })
      (λ κs e. record { scratch = e.1.1.0.now; out = e.1.1.1.0.now }) (λ κs x. IsOk x) (λ κs a. W.contents a.0.now) (λ κs e. W.contents e.0.now)
  say_event_one κs a x y e f p q = (rw (p.0 ∙ sym q.0, p.1.0 ∙ sym q.1.0), both x y _ _ _ _ p.1.1 q.1.1)

  say_fixed_one : OneSaid 3 (say-fixed-kinds.ps T L) (say-fixed-kinds.r T L) (say-fixed-reads.Post T L W d) (List ℕ)
      (λ κs e. e.1.0.now) (λ κs x. IsOk x) (λ κs a. W.contents a.0.now) (λ κs e. W.contents e.0.now)
  say_fixed_one κs a x y e f p q = (p.0 ∙ sym q.0, both x y _ _ _ _ p.1 q.1)

  say_refusal_one : OneSaid 3 (say-refusal-kinds.ps T L) (say-refusal-kinds.r T L) (say-refusal-reads.Post T L W d) (List ℕ)
      (λ κs e. e.1.0.now) (λ κs x. IsOk x) (λ κs a. W.contents a.0.now) (λ κs e. W.contents e.0.now)
  say_refusal_one κs a x y e f p q = (p.0 ∙ sym q.0, both x y _ _ _ _ p.1 q.1)

  -- it is lent nothing to change but the writer
  say_put_one : OneSaid 3 (say-put-kinds.ps T L) (say-put-kinds.r T L) (say-put-reads.Post T L W d) (Unit {0})
      (λ κs e. tt) (λ κs x. IsOk x) (λ κs a. W.contents a.0.now) (λ κs e. W.contents e.0.now)
  say_put_one κs a x y e f p q = (refl, both x y _ _ _ _ p q)

put_record_one : One 3 put-record-kinds.ps put-record-kinds.r put-record-reads.Post (record { scratch : List ℕ; out : List ℕ }) (λ κs e. record { scratch = e.1.0.now; out = e.1.1.0.now })
put_record_one κs a x y e f p q = (p.0 ∙ sym q.0, rw (p.1.0 ∙ sym q.1.0, p.1.1 ∙ sym q.1.1))
