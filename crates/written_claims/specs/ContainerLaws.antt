-- A container that is written is found again, and so are its references.
use Rattle.std.specs.Prelude.{List, ◌++◌, ◌≡◌, ℕ, zero, suc, ◌+◌, ◌*◌, ◌/◌, ◌%◌, ◌^◌, ◌≤◌, ◌<◌, get_or}
use Rattle.std.proofs.Math.Path.{refl}
use Rattle.std.proofs.Common.{ap, ◌∙◌, add-mul, mul_assoc, mul_comm, length-append, get_or-append-add}
use native.Mathlib.Omega.{arith}
use borrow.Author.Tests.{lt-ltb, eq-eqb, ne_eqb}
use Rattle.std.proofs.Math.ListN.{length, get_or-append}
use Rattle.number.specs.Width.{bytes_in}
use Rattle.number.specs.declared.width.Width.{Width}
use Rattle.utf.specs.Bounds.{Below}
use Rattle.object.specs.Container.{array_of, dictionary_of, container_of, container_at}
use Rattle.object.specs.Content.{trailer_at}
use Rattle.object.specs.Kind.{kind_of}
use Rattle.object.specs.KindLaws.{kind_array, kind_dictionary}
use Rattle.object.specs.Object.{by_kind, object_at, array_in, dictionary_in}
use Rattle.object.specs.Object as found
use Rattle.object.specs.declared.container.Container.TheVariants.{Array, Dictionary}
use Rattle.object.specs.declared.kind.Kind.TheVariants as kind
use Rattle.layout.specs.Layout.{place_in, given, due_at, in_array, in_dictionary, due_in}
use Rattle.layout.specs.declared.layout.Due.TheVariants.{Close, Member}
use Rattle.layout.specs.declared.layout.Layout.{Layout}
use Rattle.layout.specs.declared.frame.Frame.{Frame}
use Rattle.written_claims.specs.HeadLaws.{kind_nibble, behind, headed}
use Rattle.written_claims.specs.NumbersLaws.{numbers_read}
use Rattle.written_claims.specs.Stands.{Stands, Whole}
use Rattle.written.specs.Encoding.{numbers_bytes, nibble_of, head_bytes, list, pairs, object_bytes}
use Rattle.written.proofs.FileLaws.{length_numbers}

-- what is due among references that stand from a place of the file on: the reference at the position's place, then the end
module _ (file : List ℕ) (refs : Width) (offset start : ℕ) (rs : List ℕ) (good : Below (256 ^ bytes_in refs) rs) (st : Stands file start (numbers_bytes (bytes_in refs) rs)) where
  pub due_reference : (place position : ℕ) → position < length rs → place < length rs → due_at file refs offset start (length rs) place position ≡ Member (get_or rs place 0)
  unfolding due_at given
  due_reference place position h k = rw (ne_eqb position (length rs) (omega arith), lt-ltb position (length rs) h, numbers_read file refs start rs place good k st)

  pub due_end : (place : ℕ) → due_at file refs offset start (length rs) place (length rs) ≡ Close offset
  unfolding due_at
  due_end place = rw (eq-eqb (length rs) (length rs) refl)

module _ (file : List ℕ) (l : Layout) (at : ℕ) where
  -- what an array says: its number of elements, each reference, and its end
  pub record ArrayReads (rs : List ℕ) : Type 0 where
    pub is : object_at file l.refs at ≡ found.array (length rs)
    pub lies : container_at file at ≡ Array (behind at 0xA0 (length rs))
    pub body : Stands file (at + length (head_bytes 0xA0 (length rs))) (numbers_bytes (bytes_in l.refs) rs)
    pub member : (f : Frame) → f.length ≡ length rs → f.position < length rs → due_in file l f at (container_at file at) ≡ Member (get_or rs f.position 0)
    pub end : (f : Frame) → f.length ≡ length rs → f.position ≡ length rs → due_in file l f at (container_at file at) ≡ Close at

  pub array_reads : (rs : List ℕ) → length rs < 2 ^ 64 → Below (256 ^ bytes_in l.refs) rs
      → Whole file at (object_bytes (bytes_in l.refs) (list rs)) → ArrayReads rs
  unfolding object_bytes by_kind array_in container_at container_of array_of due_in in_array
  array_reads rs small good wh =
      let w = bytes_in l.refs in
      let n = length rs in
      let d = headed file at 0xA0 n w (numbers_bytes w rs) small (omega (arith, length_numbers w rs)) wh in
      let k : kind_of (0xA0 + nibble_of n) ≡ kind.Array (nibble_of n) = kind_nibble 0xA0 kind.Array kind_array n in
      let c : container_at file at ≡ Array (behind at 0xA0 n) = rw (lt-ltb at (trailer_at file) d.inside, d.marker, k, container_of, d.head) in
      let start = at + length (head_bytes 0xA0 n) in
      record {
        is = d.decides l.refs ∙ rw (k, d.content);
        lies = c;
        body = d.body;
        member = λ f e h. rw (c, due_in, in_array, e, eq-eqb n n refl) (due_reference file l.refs at start rs good d.body f.position f.position h h);
        end = λ f e h. rw (c, due_in, in_array, e, eq-eqb n n refl, h) (due_end file l.refs at start rs good d.body n);
      }

-- the place of a position of n pairs is below the number of their references
pub place_lt : (n p : ℕ) → p < 2 * n → place_in n p < 2 * n
unfolding place_in
place_lt n p h = go (p / 2) (p % 2) refl refl
  where
    go : (q r : ℕ) → p / 2 ≡ q → p % 2 ≡ r → p / 2 + p % 2 * n < 2 * n
    go q zero a b = rw (a, b) (omega arith)
    go q (suc zero) a b = rw (a, b) (omega arith)
    go q (suc (suc r)) a b = absurd (omega arith)

-- keys and values come in turn
module _ (keys values : List ℕ) (j : ℕ) (h : j < length keys) where
  pub key_place : get_or (keys ++ values) (place_in (length keys) (2 * j)) 0 ≡ get_or keys j 0
  unfolding place_in
  key_place =
      let q : 2 * j / 2 ≡ j = omega arith in
      let r : 2 * j % 2 ≡ 0 = omega arith in
      let e : 2 * j / 2 + 2 * j % 2 * length keys ≡ j = rw (q, r) (omega arith) in
      rw e (get_or-append keys values 0 j h)

  pub value_place : get_or (keys ++ values) (place_in (length keys) (2 * j + 1)) 0 ≡ get_or values j 0
  unfolding place_in
  value_place =
      let q : (2 * j + 1) / 2 ≡ j = omega arith in
      let r : (2 * j + 1) % 2 ≡ 1 = omega arith in
      let e : (2 * j + 1) / 2 + (2 * j + 1) % 2 * length keys ≡ length keys + j = rw (q, r) (omega arith) in
      rw e (get_or-append-add keys values j 0)

-- the bytes of n pairs of references
pairs_le : (n w : ℕ) → n * (2 * w) ≤ 2 * (n * w)
pairs_le n w = rw (← mul_assoc n 2 w, mul_comm n 2, mul_assoc 2 n w) (omega arith)

module _ (file : List ℕ) (l : Layout) (at : ℕ) where
  -- what a dictionary says: its number of pairs, key and value in turn, and its end
  pub record DictionaryReads (keys values : List ℕ) : Type 0 where
    pub is : object_at file l.refs at ≡ found.dictionary (length keys)
    pub lies : container_at file at ≡ Dictionary (behind at 0xD0 (length keys))
    pub body : Stands file (at + length (head_bytes 0xD0 (length keys))) (numbers_bytes (bytes_in l.refs) (keys ++ values))
    pub key : (f : Frame) → f.length ≡ length keys → (j : ℕ) → j < length keys → f.position ≡ 2 * j → due_in file l f at (container_at file at) ≡ Member (get_or keys j 0)
    pub value : (f : Frame) → f.length ≡ length keys → (j : ℕ) → j < length keys → f.position ≡ 2 * j + 1 → due_in file l f at (container_at file at) ≡ Member (get_or values j 0)
    pub end : (f : Frame) → f.length ≡ length keys → f.position ≡ 2 * length keys → due_in file l f at (container_at file at) ≡ Close at

  pub dictionary_reads : (keys values : List ℕ) → length values ≡ length keys → length keys < 2 ^ 64 → Below (256 ^ bytes_in l.refs) (keys ++ values)
      → Whole file at (object_bytes (bytes_in l.refs) (pairs keys values)) → DictionaryReads keys values
  unfolding object_bytes by_kind dictionary_in container_at container_of dictionary_of due_in in_dictionary
  dictionary_reads keys values same small good wh =
      let w = bytes_in l.refs in
      let n = length keys in
      let rs = keys ++ values in
      let many : length rs ≡ 2 * n = rw (length-append, same) (omega arith) in
      let twice : length (numbers_bytes w rs) ≡ 2 * (n * w) = length_numbers w rs ∙ rw (length-append, same, add-mul) (omega arith) in
      let d = headed file at 0xD0 n (2 * w) (numbers_bytes w rs) small (rw twice (pairs_le n w)) wh in
      let k : kind_of (0xD0 + nibble_of n) ≡ kind.Dictionary (nibble_of n) = kind_nibble 0xD0 kind.Dictionary kind_dictionary n in
      let c : container_at file at ≡ Dictionary (behind at 0xD0 n) = rw (lt-ltb at (trailer_at file) d.inside, d.marker, k, container_of, d.head) in
      let start = at + length (head_bytes 0xD0 n) in
      let whole : at + (length (head_bytes 0xD0 n) + 2 * (n * w)) ≤ trailer_at file = rw (length-append (head_bytes 0xD0 n), twice) at wh.ends in
      let at_place : (f : Frame) → f.length ≡ n → f.position < 2 * n → due_in file l f at (container_at file at) ≡ Member (get_or rs (place_in n f.position) 0) =
      λ f e h. rw (c, due_in, in_dictionary, e, eq-eqb n n refl, ← many) (due_reference file l.refs at start rs good d.body (place_in n f.position) f.position (omega arith) (omega (arith, place_lt n f.position h))) in
      record {
        is = d.decides l.refs ∙ rw (k, d.content);
        lies = c;
        body = d.body;
        key = λ f e j h p. at_place f e (omega arith) ∙ rw p (ap Member (key_place keys values j h));
        value = λ f e j h p. at_place f e (omega arith) ∙ rw p (ap Member (value_place keys values j h));
        end = λ f e p. rw (c, due_in, in_dictionary, e, eq-eqb n n refl, p, ← many) (due_end file l.refs at start rs good d.body (place_in n (length rs)));
      }
