-- Each way says whether the bytes are the same.
use Rattle.std.specs.Prelude.{◌≡◌, ℕ, ◌-◌, ◌<◌, ◌≤◌, Bool, List, take, drop, length, Option, None, Some, ◌==◌}
use Rattle.std.specs.Borrow.{Bor}
use Rattle.std.specs.Array.{IsFirstChunk, IsWholeChunk}
use Rattle.std.specs.Bool.{Decides}
use Rattle.std.specs.Option.{MatchOption, option_eq}
use Rattle.std.specs.Cmp.Lexicographic.{pointwise}
use Rattle.std.proofs.Common.{ap, sym, ◌∙◌, arith, rules}
use Rattle.std.proofs.lemmas.Bool.Decides.{same_from_decides, not_from_Decides, Decides-like, Decides-eqb}
use Rattle.std.proofs.lemmas.Iterator.{YieldsList-from_slice, YieldsList-from_zip, same_from_all}
use Rattle.std.proofs.lemmas.Slice.Eq.{slice_eq-Decides}
use Rattle.writer.specs.AlikeLaws.{bytes_decide, bytes_other, same_ends}
use Rattle.writer.proofs.alike.same_bytes.Goals as goal

-- `==` of two first chunks
firsts : (s t : List ℕ) (k : ℕ) (x y : Option (Bor (List ℕ))) (r : Bool)
    → MatchOption x (length s < k) (λ u. IsFirstChunk s u.now k) → MatchOption y (length t < k) (λ v. IsFirstChunk t v.now k)
    → k ≤ length s → k ≤ length t → r ≡ option_eq (λ u v. pointwise ◌==◌ u.now v.now) x y → Decides r (take k s ≡ take k t)
firsts s t k None y r f g l m e = absurd (omega arith)
firsts s t k (Some u) None r f g l m e = absurd (omega arith)
firsts s t k (Some u) (Some v) r f g l m e = Decides-like r (λ q. sym f.same ∙ q ∙ g.same) (λ q. f.same ∙ q ∙ sym g.same) (slice_eq-Decides Decides-eqb u.now v.now r e)

-- and of two last
lasts : (s t : List ℕ) (k : ℕ) (x y : Option (Bor (List ℕ))) (r : Bool)
    → MatchOption x (length s < k) (λ u. (k ≤ length s) × IsWholeChunk (drop (length s - k) s) u.now k)
    → MatchOption y (length t < k) (λ v. (k ≤ length t) × IsWholeChunk (drop (length t - k) t) v.now k)
    → k ≤ length s → k ≤ length t → r ≡ option_eq (λ u v. pointwise ◌==◌ u.now v.now) x y → Decides r (drop (length s - k) s ≡ drop (length t - k) t)
lasts s t k None y r f g l m e = absurd (omega arith)
lasts s t k (Some u) None r f g l m e = absurd (omega arith)
lasts s t k (Some u) (Some v) r f g l m e = Decides-like r (λ q. sym f.1.same ∙ q ∙ g.1.same) (λ q. f.1.same ∙ q ∙ sym g.1.same) (slice_eq-Decides Decides-eqb u.now v.now r e)

pub returns-then-a-b : goal.returns-then-a-b
returns-then-a-b c = sym (bytes_other c.args.a.now c.args.b.now (λ e. c.if-a-b.true (ap length e)))

pub returns-then-eq : goal.returns-then-eq
returns-then-eq c = same_from_decides _ _ (slice_eq-Decides Decides-eqb _ _ _ c.eq-then-eq.ensures) (bytes_decide c.args.a.now c.args.b.now)

pub returns-else-eq : goal.returns-else-eq
returns-else-eq c =
    let a = c.args.a.now in
    let b = c.args.b.now in
    let first = firsts a b 16 c.first_chunk.result c.first_chunk-then-a-gt32.result c.eq.result c.first_chunk.ensures.cases c.first_chunk-then-a-gt32.ensures.cases (omega arith) (omega arith) c.eq.ensures in
    c.if-eq.false ∙ sym (bytes_other a b (λ e. not_from_Decides c.eq.result first c.if-eq.false (ap (λ (l : List ℕ). take 16 l) e)))

pub returns-then-eq-2 : goal.returns-then-eq-2
returns-then-eq-2 c =
    let a = c.args.a.now in
    let b = c.args.b.now in
    let first = firsts a b 16 c.first_chunk-then-a-ge16.result c.first_chunk-then-a-ge16-2.result c.eq-then-a-ge16.result c.first_chunk-then-a-ge16.ensures.cases c.first_chunk-then-a-ge16-2.ensures.cases (omega arith) (omega arith) c.eq-then-a-ge16.ensures in
    let last = lasts a b 16 c.last_chunk.result c.last_chunk-then-eq-2.result c.eq-then-eq-2.result c.last_chunk.ensures.cases c.last_chunk-then-eq-2.ensures.cases (omega arith) (omega arith) c.eq-then-eq-2.ensures in
    same_from_decides _ _
    (Decides-like c.eq-then-eq-2.result (same_ends a b 16 c.if-a-b.false (omega arith) (omega arith) (first.0 c.if-eq-2.true)) (ap (λ (l : List ℕ). drop (length l - 16) l)) last)
    (bytes_decide a b)

pub returns-else-eq-2 : goal.returns-else-eq-2
returns-else-eq-2 c =
    let a = c.args.a.now in
    let b = c.args.b.now in
    let first = firsts a b 16 c.first_chunk-then-a-ge16.result c.first_chunk-then-a-ge16-2.result c.eq-then-a-ge16.result c.first_chunk-then-a-ge16.ensures.cases c.first_chunk-then-a-ge16-2.ensures.cases (omega arith) (omega arith) c.eq-then-a-ge16.ensures in
    c.if-eq-2.false ∙ sym (bytes_other a b (λ e. not_from_Decides c.eq-then-a-ge16.result first c.if-eq-2.false (ap (λ (l : List ℕ). take 16 l) e)))

pub returns-then-eq-3 : goal.returns-then-eq-3
returns-then-eq-3 c =
    let a = c.args.a.now in
    let b = c.args.b.now in
    let first = firsts a b 8 c.first_chunk-then-a-ge8.result c.first_chunk-then-a-ge8-2.result c.eq-then-a-ge8.result c.first_chunk-then-a-ge8.ensures.cases c.first_chunk-then-a-ge8-2.ensures.cases (omega arith) (omega arith) c.eq-then-a-ge8.ensures in
    let last = lasts a b 8 c.last_chunk-then-eq-3.result c.last_chunk-then-eq-3-2.result c.eq-then-eq-3.result c.last_chunk-then-eq-3.ensures.cases c.last_chunk-then-eq-3-2.ensures.cases (omega arith) (omega arith) c.eq-then-eq-3.ensures in
    same_from_decides _ _
    (Decides-like c.eq-then-eq-3.result (same_ends a b 8 c.if-a-b.false (omega arith) (omega arith) (first.0 c.if-eq-3.true)) (ap (λ (l : List ℕ). drop (length l - 8) l)) last)
    (bytes_decide a b)

pub returns-else-eq-3 : goal.returns-else-eq-3
returns-else-eq-3 c =
    let a = c.args.a.now in
    let b = c.args.b.now in
    let first = firsts a b 8 c.first_chunk-then-a-ge8.result c.first_chunk-then-a-ge8-2.result c.eq-then-a-ge8.result c.first_chunk-then-a-ge8.ensures.cases c.first_chunk-then-a-ge8-2.ensures.cases (omega arith) (omega arith) c.eq-then-a-ge8.ensures in
    c.if-eq-3.false ∙ sym (bytes_other a b (λ e. not_from_Decides c.eq-then-a-ge8.result first c.if-eq-3.false (ap (λ (l : List ℕ). take 8 l) e)))

pub returns : goal.returns
returns c =
    let a = c.args.a.now in
    let b = c.args.b.now in
    same_from_decides _ _
    (same_from_all c.all.new.self _ _ a b c.all.ensures.ran (YieldsList-from_zip (YieldsList-from_slice a cc) (YieldsList-from_slice b cc)) c.if-a-b.false (λ x q k. search rules) (λ x q k. search rules))
    (bytes_decide a b)
