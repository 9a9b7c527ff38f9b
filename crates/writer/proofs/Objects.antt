-- A container's bytes are its head and its references.
use Rattle.std.proofs.Common.{◌≡◌, ℕ, ◌+◌, ◌*◌, ◌≤◌, List, ◌++◌, length, sym, ◌∙◌, append_assoc, arith, length-append}
use lib.Seq.{length-sets}
use Rattle.utf.proofs.Writing.{sets_append}
use Rattle.written.specs.Encoding.{head_bytes, numbers_bytes, object_bytes, list, pairs}
use Rattle.written.proofs.FileLaws.{length_numbers, numbers_append}
use Rattle.writer.specs.Speak.{Each, Listed, Paired, Wrote}

-- bytes behind others
pub wrote_join : {out : List ℕ} {pos : ℕ} {s u a b : List ℕ} {i j : ℕ} → Wrote out pos s a i → Wrote a i u b j → Wrote out pos (s ++ u) b j
wrote_join {out} {pos} {s} {u} f g = record { memory = g.memory ∙ rw (f.memory, f.ends) (sym (sets_append s u out pos)); ends = omega (arith, f.ends, g.ends, length-append s u) }

pub wrote_length : {out : List ℕ} {pos : ℕ} {s a : List ℕ} {i : ℕ} → Wrote out pos s a i → length a ≡ length out
wrote_length f = rw (f.memory, length-sets)

module _ {w out : List ℕ} {n e stop width pos : ℕ} {ks : List ℕ} (o : Listed w out n e stop width pos ks) where
  list_length : length (object_bytes width (list ks)) ≡ length (head_bytes 0xA0 (length ks)) + length ks * width
  unfolding object_bytes
  list_length = length-append (head_bytes 0xA0 (length ks)) (numbers_bytes width ks) ∙ rw (length_numbers width ks)

  pub list_head : pos + length (head_bytes 0xA0 (length ks)) ≤ length out
  list_head = omega (arith, o.room, list_length)

  module _ {a : List ℕ} {i : ℕ} (head : Wrote out pos (head_bytes 0xA0 (length ks)) a i) where
    pub list_each : Each w a n (e + 1) stop 0 0 width i ks
    list_each = record { long = o.long; refs = o.refs; room = omega (arith, o.room, list_length, head.ends, wrote_length head) }

    pub list_wrote : {b : List ℕ} {j : ℕ} → Wrote a i (numbers_bytes width ks) b j → Wrote out pos (object_bytes width (list ks)) b j
    unfolding object_bytes
    list_wrote refs = wrote_join head refs

module _ {w out : List ℕ} {n e stop width pos : ℕ} {ks vs : List ℕ} (o : Paired w out n e stop width pos ks vs) where
  pairs_are : object_bytes width (pairs ks vs) ≡ head_bytes 0xD0 (length ks) ++ numbers_bytes width ks ++ numbers_bytes width vs
  unfolding object_bytes
  pairs_are = rw (numbers_append width ks vs) (sym (append_assoc (head_bytes 0xD0 (length ks)) (numbers_bytes width ks) (numbers_bytes width vs)))

  pairs_length : length (object_bytes width (pairs ks vs)) ≡ length (head_bytes 0xD0 (length ks)) + length ks * width + length vs * width
  pairs_length =
      let h = head_bytes 0xD0 (length ks) in
      rw (pairs_are, length-append (h ++ numbers_bytes width ks) (numbers_bytes width vs), length-append h (numbers_bytes width ks), length_numbers width ks, length_numbers width vs)

  pub pairs_head : pos + length (head_bytes 0xD0 (length ks)) ≤ length out
  pairs_head = omega (arith, o.room, pairs_length)

  module _ {a : List ℕ} {i : ℕ} (head : Wrote out pos (head_bytes 0xD0 (length ks)) a i) where
    pub pairs_keys : Each w a n (e + 1) stop 1 0 width i ks
    pairs_keys = record { long = o.long; refs = o.keys; room = omega (arith, o.room, pairs_length, head.ends, wrote_length head) }

    module _ {b : List ℕ} {j : ℕ} (keys : Wrote a i (numbers_bytes width ks) b j) where
      pub pairs_values : Each w b n (e + 1) stop 1 1 width j vs
      pairs_values = record { long = o.long; refs = o.values; room = omega (arith, o.room, pairs_length, head.ends, wrote_length head, keys.ends, wrote_length keys, length_numbers width ks) }

      pub pairs_wrote : {d : List ℕ} {k : ℕ} → Wrote b j (numbers_bytes width vs) d k → Wrote out pos (object_bytes width (pairs ks vs)) d k
      pairs_wrote values = rw pairs_are (wrote_join (wrote_join head keys) values)
