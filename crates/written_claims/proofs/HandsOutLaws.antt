-- An event whose bytes stand in the file as its meaning asks is handed out with them.
use Rattle.std.specs.Prelude.{Bool, cond, ◌⊎◌, ◌≡◌, ℕ, ◌<◌, length}
use Rattle.std.proofs.Math.Bool.{true, false}
use Rattle.std.proofs.Common.{true≢false, inl, inr, sym, ap, ◌∙◌, arith}
use Rattle.std.proofs.lemmas.Bool.{false≢true}
use mathlib.Core.List.{List, [], ◌∷◌, map}
use Rattle.std.proofs.Math.Path.{refl}
use Rattle.event.specs.Meaning.{bytes, text, meaning_of}
use Rattle.event.specs.declared.Event.{Event}
use Rattle.event.specs.declared.Event.TheVariants.{StartArray, StartDictionary, EndCollection, Boolean, Data, Date, Integer, Real, Nan, String, Uid}
use Rattle.utf.specs.Unicode.{is_ascii, to_utf8}
use Rattle.number.specs.Part.{part}
use Rattle.layout.specs.Bytes.{Asked, in_file, in_utf16, no_bytes, denied, event_asked, has_bytes}
use Rattle.reader.specs.Machine.{Said, origin, event_at}
use Rattle.reader.specs.Meanings.{bytes_asked, meaning_at, told}
use Rattle.reader.specs.RequestLaws.{Present, scratch_asked, gives, lacks}
use Rattle.transcribe.specs.TranscriptLaws.{Put, told_of}
use Rattle.written_claims.specs.HandsOut.{content_of, scratch_for, AsksOwn, HandsOut, HandOut}
use Rattle.written_claims.specs.Shown.{Asks}

-- the bytes beside a data or text event are its content
pub content_is : (e : Event) (s : List ℕ) → has_bytes e ≡ true → content_of (meaning_of e s) ≡ s
unfolding has_bytes meaning_of content_of
content_is (StartArray n) s h = absurd (false≢true h)
content_is (StartDictionary n) s h = absurd (false≢true h)
content_is EndCollection s h = absurd (false≢true h)
content_is (Boolean b) s h = absurd (false≢true h)
content_is Data s h = refl
content_is (Date b) s h = absurd (false≢true h)
content_is (Integer i) s h = absurd (false≢true h)
content_is (Real x) s h = absurd (false≢true h)
content_is (Nan b) s h = absurd (false≢true h)
content_is String s h = refl
content_is (Uid n) s h = absurd (false≢true h)

-- the others have none
content_none : (e : Event) (s : List ℕ) → has_bytes e ≡ false → content_of (meaning_of e s) ≡ []
unfolding has_bytes meaning_of content_of
content_none (StartArray n) s h = refl
content_none (StartDictionary n) s h = refl
content_none EndCollection s h = refl
content_none (Boolean b) s h = refl
content_none Data s h = absurd (true≢false h)
content_none (Date b) s h = refl
content_none (Integer i) s h = refl
content_none (Real x) s h = refl
content_none (Nan b) s h = refl
content_none String s h = absurd (true≢false h)
content_none (Uid n) s h = refl

-- what stands in the file as it is, is data or text
kept_has : (e : Event) (P : Type 0) → (e ≡ Data) ⊎ ((e ≡ String) × P) → has_bytes e ≡ true
unfolding has_bytes
kept_has e P (inl q) = rw q refl
kept_has e P (inr q) = rw q.0 refl

-- an event without bytes needs no scratch
plain_free : (e : Event) (s : List ℕ) → has_bytes e ≡ false → scratch_for (meaning_of e s) ≡ 0
unfolding has_bytes meaning_of scratch_for
plain_free (StartArray n) s h = refl
plain_free (StartDictionary n) s h = refl
plain_free EndCollection s h = refl
plain_free (Boolean b) s h = refl
plain_free Data s h = absurd (true≢false h)
plain_free (Date b) s h = refl
plain_free (Integer i) s h = refl
plain_free (Real x) s h = refl
plain_free (Nan b) s h = refl
plain_free String s h = absurd (true≢false h)
plain_free (Uid n) s h = refl

-- data need no scratch, and a text needs some where it isn't ASCII
bytes_scratch : (s : List ℕ) → scratch_for (bytes s) ≡ 0
unfolding scratch_for
bytes_scratch s = refl

text_scratch : (t : List ℕ) (ascii : Bool) → is_ascii t ≡ ascii → scratch_for (text t) ≡ cond ascii 0 (length t)
unfolding scratch_for
text_scratch t ascii e = ap (λ (b : Bool). cond b 0 (length t)) e

-- where the bytes of an event stand as its meaning asks, all of them do, they are its content, and the scratch that the meaning asks for is the one
-- that they need: none but for a text that stands as UTF-16
module _ (file : List ℕ) (e : Event) where
  asks_whole : (a : Asked) → Asks file e a → Present file a
  asks_whole (in_file start n) d = d.0
  asks_whole (in_utf16 start n) d = tt
  asks_whole no_bytes d = tt
  asks_whole (denied number values) d = d

  asks_content : (a : Asked) → Asks file e a → content_of (meaning_of e (bytes_asked file a)) ≡ bytes_asked file a
  unfolding bytes_asked has_bytes
  asks_content (in_file start n) d = content_is e (part file start n) (kept_has e _ d.1)
  asks_content (in_utf16 start n) d = content_is e (to_utf8 (part file start n)) (rw d.0 refl)
  asks_content no_bytes d = content_none e [] d
  asks_content (denied number values) d = absurd d

  asks_scratch : (a : Asked) → Asks file e a → scratch_for (meaning_of e (bytes_asked file a)) ≡ scratch_asked file a
  unfolding bytes_asked scratch_asked meaning_of
  asks_scratch (in_file start n) d = go d.1
    where
      go : (e ≡ Data) ⊎ ((e ≡ String) × (is_ascii (part file start n) ≡ true)) → scratch_for (meaning_of e (part file start n)) ≡ 0
      go (inl q) = rw q (bytes_scratch (part file start n))
      go (inr q) = rw q.0 (text_scratch (part file start n) true q.1)
  asks_scratch (in_utf16 start n) d = rw d.0 (text_scratch (to_utf8 (part file start n)) false d.1)
  asks_scratch no_bytes d = plain_free e [] d
  asks_scratch (denied number values) d = absurd d

  asks_has : (a : Asked) → Asks file e a → 0 < scratch_asked file a → has_bytes e ≡ true
  unfolding scratch_asked has_bytes
  asks_has (in_file start n) d some = absurd (omega arith)
  asks_has (in_utf16 start n) d some = rw d.0 refl
  asks_has no_bytes d some = absurd (omega arith)
  asks_has (denied number values) d some = absurd d

pub hands_out : (file : List ℕ) (n : ℕ) (p : Put) (e : Event) → AsksOwn file e (origin n p.offset) → meaning_at file e p.offset ≡ p.meaning → Asks file e (event_asked file e p.offset)
    → HandsOut file p (event_at e (origin n p.offset))
unfolding meaning_at
hands_out file n p e own m d =
    let a = event_asked file e p.offset in
    let needs : scratch_for p.meaning ≡ scratch_asked file a = ap scratch_for (sym m) ∙ asks_scratch file e a d in
    let content : bytes_asked file a ≡ content_of p.meaning = sym (asks_content file e a d) ∙ ap content_of m in
    record {
      e = e;
      number = n;
      is = refl;
      means = m;
      asks = own;
      gives = λ scratch room. rw (own, ← content) (gives file scratch p.offset a (asks_whole file e a d) (rw needs at room));
      lacks = λ scratch less.
          let short_of : length scratch < scratch_asked file a = rw needs at less in
          let k = lacks file scratch p.offset a short_of in
          record { has = asks_has file e a d (omega arith); first = rw own k.0; kept = rw own k.1 };
    }

-- what they mean
pub told_all : (file : List ℕ) (ps : List Put) (xs : List Said) → HandOut file ps xs → map (told file) xs ≡ told_of ps
unfolding told
told_all file [] [] h = refl
told_all file [] (x ∷ xs) h = absurd h
told_all file (p ∷ ps) [] h = absurd h
told_all file (p ∷ ps) (x ∷ xs) h = rw (h.0.is, told, h.0.means, told_all file ps xs h.1)
