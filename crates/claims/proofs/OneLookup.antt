-- Each contract of the lookup's public functions leaves one answer and one content of all lent memory; and through the promise of `zm_find`: where it
-- answers 0, the part that it names is the value under the path.
use Rattle.std.specs.Prelude.{None, Some}
use mathlib.Core.List.{List}
use mathlib.Core.Path.{◌≡◌, refl, sym, ◌∙◌}
use Prim.Native.Nat.{ℕ}
use borrow.Fn.Kinds.{Dens, ended_of, res_t}
use contract.Lifetimes.{Lfts}
use denote.Triple.Clauses.{AtExit}
use Rattle.tape.specs.Events.{meanings_in}
use Rattle.lookup.proofs.append.append_key.Kinds as append-key-kinds
use Rattle.lookup.proofs.append.append_key.Reads as append-key-reads
use Rattle.lookup.proofs.find.find.Kinds as find-kinds
use Rattle.lookup.proofs.find.find.Reads as find-reads
use Rattle.lookup.proofs.find.find_part.Kinds as find-part-kinds
use Rattle.lookup.proofs.find.find_part.Reads as find-part-reads
use Rattle.lookup.specs.Find.{found, not_found, find_of}
use Rattle.lookup.proofs.FoundLaws.{Holds, found_value, none_value}
use Rattle.lookup.specs.Path.{keys_of}
use Rattle.lookup.specs.SaidLaws.{found_said_one}
use Rattle.lookup.specs.Value.{value_at}
use Rattle.exports.proofs.numbers.Numbers.plain.Kinds as plain-kinds
use Rattle.exports.proofs.numbers.Numbers.plain.Reads as plain-reads
use Rattle.exports.proofs.numbers.Numbers.refused.Kinds as refused-kinds
use Rattle.exports.proofs.numbers.Numbers.refused.Reads as refused-reads
use Rattle.exports.proofs.numbers.first_number.Kinds as first-number-kinds
use Rattle.exports.proofs.numbers.first_number.Reads as first-number-reads
use Rattle.exports.proofs.numbers.second_number.Kinds as second-number-kinds
use Rattle.exports.proofs.numbers.second_number.Reads as second-number-reads
use Rattle.exports_find.proofs.find.zm_find.Kinds as zm-find-kinds
use Rattle.exports_find.proofs.find.zm_find.Reads as zm-find-reads
use Rattle.exports_find.proofs.path_append.zm_path_append.Kinds as zm-path-append-kinds
use Rattle.exports_find.proofs.path_append.zm_path_append.Reads as zm-path-append-reads
use Rattle.exports_find.specs.Find.{find_code, find_start, find_length}
use Rattle.exports_find.specs.FindLaws.{find_from, find_again, find_told}
use Rattle.reader.proofs.One.{One, OneView}

find_one : One 2 find-kinds.ps find-kinds.r find-reads.Post (Unit {0}) (λ κs e. tt)
find_one κs a x y e f p q = (found_said_one x y (p.0 ∙ sym q.0), refl)

-- of the part that is handed out its bytes are seen (docs/EXCEPTIONS.md)
find_part_one : OneView 2 find-part-kinds.ps find-part-kinds.r find-part-reads.Post (List ℕ) (λ κs x. x.now)
find_part_one κs a x y e f p q = p ∙ sym q

append_key_one : One 2 append-key-kinds.ps append-key-kinds.r append-key-reads.Post (List ℕ) (λ κs e. e.0.now)
append_key_one κs a x y e f p q = (p.0 ∙ sym q.0, p.1 ∙ sym q.1)

plain_one : One 0 plain-kinds.ps plain-kinds.r plain-reads.Post (Unit {0}) (λ κs e. tt)
plain_one κs a x y e f p q = (p ∙ sym q, refl)

refused_one : One 0 refused-kinds.ps refused-kinds.r refused-reads.Post (Unit {0}) (λ κs e. tt)
refused_one κs a x y e f p q = (p ∙ sym q, refl)

first_number_one : One 0 first-number-kinds.ps first-number-kinds.r first-number-reads.Post (Unit {0}) (λ κs e. tt)
first_number_one κs a x y e f p q = (p ∙ sym q, refl)

second_number_one : One 0 second-number-kinds.ps second-number-kinds.r second-number-reads.Post (Unit {0}) (λ κs e. tt)
second_number_one κs a x y e f p q = (p ∙ sym q, refl)

zm_path_append_one : One 2 zm-path-append-kinds.ps zm-path-append-kinds.r zm-path-append-reads.Post (List ℕ) (λ κs e. e.0.now)
zm_path_append_one κs a x y e f p q = (p.0 ∙ sym q.0, p.1.0 ∙ sym q.1.0)

zm_find_one : One 6 zm-find-kinds.ps zm-find-kinds.r zm-find-reads.Post (record { start : ℕ; length : ℕ; expected : ℕ; found : ℕ }) (λ κs e. record { start = e.1.1.0.now; length = e.1.1.1.0.now; expected = e.1.1.1.1.0.now; found = e.1.1.1.1.1.0.now })
zm_find_one κs a x y e f p q = (
  p.0 ∙ sym q.0,
  rw (p.1.0 ∙ sym q.1.0, p.1.1.0 ∙ sym q.1.1.0, p.1.1.1.0 ∙ sym q.1.1.1.0, p.1.1.1.1.0 ∙ sym q.1.1.1.1.0),
)

-- code 0 is a part, and 254 that there is none: no refusal has these numbers
part_code : (t p : List ℕ) → find_code (find_of t p) ≡ 0 → find_of t p ≡ found (find_start (find_of t p)) (find_length (find_of t p))
unfolding find_from
part_code t p e = sym (rw e at (find_again (find_of t p) (find_told t p)))

none_code : (t p : List ℕ) → find_code (find_of t p) ≡ 254 → find_of t p ≡ not_found
unfolding find_from
none_code t p e = sym (rw e at (find_again (find_of t p) (find_told t p)))

module _ (κs : Lfts 6) (a : Dens κs zm-find-kinds.ps) (x : (res_t zm-find-kinds.r κs).Denot) (e : AtExit (ended_of 6 zm-find-kinds.ps zm-find-kinds.r) κs) (post : zm-find-reads.Post κs a x e) where
  -- the part is the value, and a complete tape
  pub zm_find_value : x ≡ 0 → Holds a.0.now a.1.0.now e.1.1.0.now e.1.1.1.0.now
  zm_find_value code =
      let t = a.0.now in
      let p = a.1.0.now in
      let f : find_of t p ≡ found (find_start (find_of t p)) (find_length (find_of t p)) = part_code t p (sym post.0 ∙ code) in
      rw (post.1.0, post.1.1.0) (found_value t p post.1.1.1.1.1 (find_start (find_of t p)) (find_length (find_of t p)) f)

  -- or there is no such value
  pub zm_find_none : x ≡ 254 → (keys : List (List ℕ)) × (keys_of a.1.0.now ≡ Some keys) × (value_at keys (meanings_in a.0.now) ≡ None)
  zm_find_none code = none_value a.0.now a.1.0.now (none_code a.0.now a.1.0.now (sym post.0 ∙ code))
