-- Key by key: what is left of the path decides.
use mathlib.Core.Bool.{true, false≢true}
use mathlib.Core.List.{List}
use mathlib.Core.Path.{◌≡◌, refl, sym, ap, ◌∙◌}
use Rattle.std.specs.Prelude.{Some, None, Option}
use Prim.Native.Nat.{ℕ, suc, ◌+◌, ◌-◌, ◌<◌}
use native.Mathlib.Nat.{add-sub_cancel_left}
use native.Mathlib.Omega.{arith}
use native.Mathlib.Nat.{sub-zero}
use lib.ListN.{take, drop}
use Rattle.event.specs.Meaning.{Meaning}
use Rattle.tape.specs.Events.{meanings_in}
use Rattle.lookup.specs.Find.{found, not_found, by_path}
use Rattle.lookup.proofs.FindLaws.{by_stop, by_next, by_end}
use Rattle.lookup.specs.Path.{key_at, with_key, keys_from, is_some}
use Rattle.lookup.specs.PathLaws.{keys_next, some_next, some_stop}
use Rattle.lookup.specs.Rest.{events_at, Rest, Placed}
use Rattle.lookup.specs.RestLaws.{rest_is, rest_same}
use Rattle.lookup.specs.Value.{behind, into}
use Rattle.lookup.specs.declared.answer.Part.{Part}

placed_none : (tape : List ℕ) (o : Option (List Meaning)) → Placed tape None o → o ≡ None
placed_none tape None p = refl
placed_none tape (Some ms) p = absurd p

placed_some : (tape : List ℕ) (at : ℕ) (o : Option (List Meaning)) → Placed tape (Some at) o → (ms : List Meaning) × (o ≡ Some ms) × Rest tape at ms
placed_some tape at None p = absurd p
placed_some tape at (Some ms) p = (ms, refl, p)

pub record Left (tape path : List ℕ) (count first left next at : ℕ) : Type 0 where
  pub rest : Rest tape at (events_at tape at)
  pub known : is_some (keys_from left path next) ≡ true
  pub same : by_path tape (keys_from left path next) (events_at tape at) ≡ by_path tape (keys_from count path first) (meanings_in tape)

-- no key is taken yet
pub left_first : (tape path : List ℕ) (count first : ℕ) → Rest tape 0 (meanings_in tape) → is_some (keys_from count path first) ≡ true → Left tape path count first (count - 0) first 0
unfolding events_at
left_first tape path count first r k = rw sub-zero (record { rest = r; known = k; same = refl })

module _ {tape path : List ℕ} {count first left next at : ℕ} (l : Left tape path count first left next at) where
  -- the path's keys are there
  pub left_key : 0 < left → key_at path next ≡ None → ⊥
  left_key h e = false≢true (sym (some_stop path next left h e) ∙ l.known)

  pub left_end : left ≡ 0 → {end : ℕ} → Rest tape end (behind 0 (events_at tape at)) → found at (end - at) ≡ by_path tape (keys_from count path first) (meanings_in tape)
  left_end z {end} b = by_end tape path at end next left (events_at tape at) l.rest b z l.known ∙ l.same

  module _ (h : 0 < left) {key : Part} (e : key_at path next ≡ Some key) where
    letters : List ℕ
    letters = take (key.start + key.length - key.start) (drop key.start path)

    others : Option (List (List ℕ))
    others = keys_from (left - 1) path (key.start + key.length)

    keys_are : keys_from left path next ≡ with_key letters others
    unfolding letters others
    keys_are =
        let s : left ≡ suc (left - 1) = omega arith in
        ap (λ (i : ℕ). keys_from i path next) s ∙ keys_next path next (left - 1) key e ∙ rw add-sub_cancel_left

    others_known : is_some others ≡ true
    unfolding others
    others_known = sym (some_next path next left key h e) ∙ l.known

    same_here : by_path tape (with_key letters others) (events_at tape at) ≡ by_path tape (keys_from count path first) (meanings_in tape)
    same_here = ap (λ (o : Option (List (List ℕ))). by_path tape o (events_at tape at)) (sym keys_are) ∙ l.same

    pub left_none : Placed tape None (into (take (key.start + key.length - key.start) (drop key.start path)) (events_at tape at)) → not_found ≡ by_path tape (keys_from count path first) (meanings_in tape)
    unfolding letters
    left_none p = sym (by_stop tape letters (events_at tape at) others others_known (placed_none tape _ p)) ∙ same_here

    pub left_again : {v : ℕ} → Placed tape (Some v) (into (take (key.start + key.length - key.start) (drop key.start path)) (events_at tape at)) → Left tape path count first (left - 1) (key.start + key.length) v
    unfolding letters others
    left_again {v} p =
        let q = placed_some tape v _ p in
        record {
          rest = rest_same q.2;
          known = others_known;
          same = ap (by_path tape others) (rest_is q.2) ∙ sym (by_next tape letters (events_at tape at) others q.0 others_known q.1) ∙ same_here;
        }
