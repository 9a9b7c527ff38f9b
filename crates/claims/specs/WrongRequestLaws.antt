-- The text request answers 17 exactly when `WrongRequest` says so, whatever the file, the scratch and the record.
use Rattle.std.specs.Prelude.{Bool, ◌⊎◌, ◌↔◌, ℕ, ◌<◌, ltb, length, None, Option, Some}
use Rattle.std.proofs.Math.Bool.{true, false}
use mathlib.Core.List.{List, []}
use Rattle.std.proofs.Math.Logic.{inl, inr}
use Rattle.std.proofs.Math.Path.{◌≡◌, refl, ap}
use Rattle.std.proofs.Common.{sym, ◌∙◌}
use native.Mathlib.Omega.{arith}
use borrow.Author.Tests.{lt-ltb, le-ltb, eq-eqb, ltb-true, ltb-false, eqb-true}
use Rattle.std.proofs.Math.Dec.{leb, eqb}
use Rattle.utf.specs.Unicode.{to_utf8}
use Rattle.event.specs.Meaning as meaning
use Rattle.event.specs.Meaning.{meaning_of}
use Rattle.event.specs.Same.{same}
use Rattle.event.specs.SameLaws.{same_means, means_same}
use Rattle.event.specs.declared.Event.{Event}
use Rattle.event.specs.declared.Event.TheVariants.{StartArray, StartDictionary, EndCollection, Boolean, Data, Date, Integer, Real, Nan, String, Uid}
use Rattle.number.specs.Part.{part}
use Rattle.object.specs.Object.{Found, object_at}
use Rattle.object.specs.Object as found
use Rattle.layout.specs.Bytes.{Asked, in_file, in_utf16, no_bytes, denied, data_asked, text_asked, given_if, scalar_asked, start_asked, end_asked, found_asked}
use Rattle.layout.specs.Layout.{entry_at}
use Rattle.layout.specs.Listed.{is_entry, is_listed}
use Rattle.layout.specs.Trailer.{Trailer, keeps, ends, lays, trailer_of}
use Rattle.layout.specs.declared.layout.Layout.{Layout}
use Rattle.reader.specs.Request.{asked_under, asked_by, asked_of, TextSaid, long, refusing, length_said}
use Rattle.reader.specs.State.{max_length}
use Rattle.reader.specs.declared.answer.Record.{Record}
use Rattle.claims.specs.WrongFile.{ScalarThere, Gives, GivesRecord, WrongRequest}

-- what is found is data, or is denied to a data record; text the same
data_or_denied : (x : Found) → ((start : ℕ) × (n : ℕ) × (x ≡ found.bytes start n)) ⊎ (data_asked x ≡ denied 17 [])
unfolding data_asked
data_or_denied found.outside = inr refl
data_or_denied (found.refused number values) = inr refl
data_or_denied (found.scalar e) = inr refl
data_or_denied (found.bytes start n) = inl (start, n, refl)
data_or_denied (found.utf8 start n) = inr refl
data_or_denied (found.utf16 start n) = inr refl
data_or_denied (found.array n) = inr refl
data_or_denied (found.dictionary n) = inr refl

text_or_denied : (x : Found) → ((start : ℕ) × (n : ℕ) × ((x ≡ found.utf8 start n) ⊎ (x ≡ found.utf16 start n))) ⊎ (text_asked x ≡ denied 17 [])
unfolding text_asked
text_or_denied found.outside = inr refl
text_or_denied (found.refused number values) = inr refl
text_or_denied (found.scalar e) = inr refl
text_or_denied (found.bytes start n) = inr refl
text_or_denied (found.utf8 start n) = inl (start, n, inl refl)
text_or_denied (found.utf16 start n) = inl (start, n, inr refl)
text_or_denied (found.array n) = inr refl
text_or_denied (found.dictionary n) = inr refl

-- a scalar without bytes
scalar_or_denied : (e : Event) (x : Found) → ((y : Event) × (x ≡ found.scalar y) × (meaning_of y [] ≡ meaning_of e [])) ⊎ (scalar_asked e x ≡ denied 17 [])
unfolding scalar_asked
scalar_or_denied e found.outside = inr refl
scalar_or_denied e (found.refused number values) = inr refl
scalar_or_denied e (found.scalar y) = go (same e y) refl
  where
    go : (b : Bool) → same e y ≡ b
        → ((z : Event) × (found.scalar y ≡ found.scalar z) × (meaning_of z [] ≡ meaning_of e [])) ⊎ (given_if (same e y) ≡ denied 17 [])
    go true q = inl (y, refl, sym (same_means e y q))
    go false q = inr (rw q)
scalar_or_denied e (found.bytes start n) = inr refl
scalar_or_denied e (found.utf8 start n) = inr refl
scalar_or_denied e (found.utf16 start n) = inr refl
scalar_or_denied e (found.array n) = inr refl
scalar_or_denied e (found.dictionary n) = inr refl

-- a start, whose length is given
array_or_denied : (n : Option ℕ) (x : Found) → ((k : ℕ) × (x ≡ found.array k) × (n ≡ Some k)) ⊎ (start_asked (StartArray n) x ≡ denied 17 [])
unfolding start_asked meaning_of
array_or_denied n found.outside = inr refl
array_or_denied n (found.refused number values) = inr refl
array_or_denied n (found.scalar e) = inr refl
array_or_denied n (found.bytes start k) = inr refl
array_or_denied n (found.utf8 start k) = inr refl
array_or_denied n (found.utf16 start k) = inr refl
array_or_denied n (found.array k) = go (same (StartArray n) (StartArray (Some k))) refl
  where
    go : (b : Bool) → same (StartArray n) (StartArray (Some k)) ≡ b
        → ((m : ℕ) × (found.array k ≡ found.array m) × (n ≡ Some m)) ⊎ (start_asked (StartArray n) (found.array k) ≡ denied 17 [])
    go true q =
        let m : meaning.array n ≡ meaning.array (Some k) = same_means (StartArray n) (StartArray (Some k)) q in
        inl (k, refl, cc)
    go false q = inr (rw q)
array_or_denied n (found.dictionary k) = go (same (StartArray n) (StartDictionary (Some k))) refl
  where
    go : (b : Bool) → same (StartArray n) (StartDictionary (Some k)) ≡ b
        → ((m : ℕ) × (found.dictionary k ≡ found.array m) × (n ≡ Some m)) ⊎ (start_asked (StartArray n) (found.dictionary k) ≡ denied 17 [])
    go true q =
        let m : meaning.array n ≡ meaning.dictionary (Some k) = same_means (StartArray n) (StartDictionary (Some k)) q in
        let z : ◌≡◌ {A = ℕ} 0 1 = cc in
        absurd (omega arith)
    go false q = inr (rw q)

dictionary_or_denied : (n : Option ℕ) (x : Found) → ((k : ℕ) × (x ≡ found.dictionary k) × (n ≡ Some k)) ⊎ (start_asked (StartDictionary n) x ≡ denied 17 [])
unfolding start_asked meaning_of
dictionary_or_denied n found.outside = inr refl
dictionary_or_denied n (found.refused number values) = inr refl
dictionary_or_denied n (found.scalar e) = inr refl
dictionary_or_denied n (found.bytes start k) = inr refl
dictionary_or_denied n (found.utf8 start k) = inr refl
dictionary_or_denied n (found.utf16 start k) = inr refl
dictionary_or_denied n (found.array k) = go (same (StartDictionary n) (StartArray (Some k))) refl
  where
    go : (b : Bool) → same (StartDictionary n) (StartArray (Some k)) ≡ b
        → ((m : ℕ) × (found.array k ≡ found.dictionary m) × (n ≡ Some m)) ⊎ (start_asked (StartDictionary n) (found.array k) ≡ denied 17 [])
    go true q =
        let m : meaning.dictionary n ≡ meaning.array (Some k) = same_means (StartDictionary n) (StartArray (Some k)) q in
        let z : ◌≡◌ {A = ℕ} 0 1 = cc in
        absurd (omega arith)
    go false q = inr (rw q)
dictionary_or_denied n (found.dictionary k) = go (same (StartDictionary n) (StartDictionary (Some k))) refl
  where
    go : (b : Bool) → same (StartDictionary n) (StartDictionary (Some k)) ≡ b
        → ((m : ℕ) × (found.dictionary k ≡ found.dictionary m) × (n ≡ Some m)) ⊎ (start_asked (StartDictionary n) (found.dictionary k) ≡ denied 17 [])
    go true q =
        let m : meaning.dictionary n ≡ meaning.dictionary (Some k) = same_means (StartDictionary n) (StartDictionary (Some k)) q in
        inl (k, refl, cc)
    go false q = inr (rw q)

-- an end
end_or_denied : (x : Found) → ((k : ℕ) × ((x ≡ found.array k) ⊎ (x ≡ found.dictionary k))) ⊎ (end_asked x ≡ denied 17 [])
unfolding end_asked
end_or_denied found.outside = inr refl
end_or_denied (found.refused number values) = inr refl
end_or_denied (found.scalar e) = inr refl
end_or_denied (found.bytes start k) = inr refl
end_or_denied (found.utf8 start k) = inr refl
end_or_denied (found.utf16 start k) = inr refl
end_or_denied (found.array k) = inl (k, inl refl)
end_or_denied (found.dictionary k) = inl (k, inr refl)

-- not denied
abbrev Kept : Asked → Type 0
Kept (in_file start n) = Unit {0}
Kept (in_utf16 start n) = Unit {0}
Kept no_bytes = Unit {0}
Kept (denied number values) = ⊥

-- reading gives the record, or it is denied
gives_or_denied : (e : Event) (x : Found) → Gives e x ⊎ (found_asked e x ≡ denied 17 [])
unfolding found_asked
gives_or_denied (StartArray n) x = array_or_denied n x
gives_or_denied (StartDictionary n) x = dictionary_or_denied n x
gives_or_denied EndCollection x = end_or_denied x
gives_or_denied (Boolean b) x = scalar_or_denied (Boolean b) x
gives_or_denied Data x = data_or_denied x
gives_or_denied (Date b) x = scalar_or_denied (Date b) x
gives_or_denied (Integer i) x = scalar_or_denied (Integer i) x
gives_or_denied (Real v) x = scalar_or_denied (Real v) x
gives_or_denied (Nan b) x = scalar_or_denied (Nan b) x
gives_or_denied String x = text_or_denied x
gives_or_denied (Uid n) x = scalar_or_denied (Uid n) x

scalar_kept : (e : Event) (x : Found) → ScalarThere e x → Kept (scalar_asked e x)
unfolding scalar_asked
scalar_kept e x (y, h, m) = rw (h, means_same e y (sym m)) tt

-- and where it gives the record, it isn't
gives_kept : (e : Event) (x : Found) → Gives e x → Kept (found_asked e x)
unfolding found_asked data_asked text_asked start_asked end_asked
gives_kept (StartArray n) x (k, h, q) = rw (h, q, means_same (StartArray (Some k)) (StartArray (Some k)) refl) tt
gives_kept (StartDictionary n) x (k, h, q) = rw (h, q, means_same (StartDictionary (Some k)) (StartDictionary (Some k)) refl) tt
gives_kept EndCollection x (k, inl h) = rw h tt
gives_kept EndCollection x (k, inr h) = rw h tt
gives_kept (Boolean b) x g = scalar_kept (Boolean b) x g
gives_kept Data x (start, n, h) = rw h tt
gives_kept (Date b) x g = scalar_kept (Date b) x g
gives_kept (Integer i) x g = scalar_kept (Integer i) x g
gives_kept (Real v) x g = scalar_kept (Real v) x g
gives_kept (Nan b) x g = scalar_kept (Nan b) x g
gives_kept String x (start, n, inl h) = rw h tt
gives_kept String x (start, n, inr h) = rw h tt
gives_kept (Uid n) x g = scalar_kept (Uid n) x g

module _ (file : List ℕ) (r : Record) where
  -- the file gives the record, or it is denied: by its trailer, its table, or what is read
  under_or_denied : (l : Layout) (root : ℕ) → trailer_of file ≡ lays l root → GivesRecord file r ⊎ (asked_under file r l ≡ denied 17 [])
  unfolding asked_under is_listed is_entry
  under_or_denied l root says = go (ltb r.number l.count) refl (entry_at file l r.number) refl
    where
      read : r.number < l.count → (entry : ℕ) → entry_at file l r.number ≡ Some entry → (b : Bool) → eqb entry r.offset ≡ b → GivesRecord file r ⊎ (asked_under file r l ≡ denied 17 [])
      read c entry e false q = inr (rw (lt-ltb _ _ c, e, q))
      read c entry e true q = given (gives_or_denied r.event (object_at file l.refs r.offset))
        where
          given : Gives r.event (object_at file l.refs r.offset) ⊎ (found_asked r.event (object_at file l.refs r.offset) ≡ denied 17 []) → GivesRecord file r ⊎ (asked_under file r l ≡ denied 17 [])
          given (inl g) = inl (record { layout = l; root = root; says = says; numbered = c; entry = e ∙ ap Some (eqb-true _ _ q); gives = g })
          given (inr d) = inr (rw (lt-ltb _ _ c, e, q) d)

      go : (b : Bool) → ltb r.number l.count ≡ b → (x : Option ℕ) → entry_at file l r.number ≡ x → GivesRecord file r ⊎ (asked_under file r l ≡ denied 17 [])
      go false q x e = inr (rw q)
      go true q None e = inr (rw (q, e))
      go true q (Some entry) e = read (ltb-true _ _ q) entry e (eqb entry r.offset) refl

  record_or_denied : (t : Trailer) → trailer_of file ≡ t → GivesRecord file r ⊎ (asked_by file r t ≡ denied 17 [])
  unfolding asked_by
  record_or_denied (keeps number values place) e = inr refl
  record_or_denied (ends number values place) e = inr refl
  record_or_denied (lays l root) e = under_or_denied l root e

  record_kept : GivesRecord file r → Kept (asked_by file r (trailer_of file))
  unfolding asked_by asked_under is_listed is_entry
  record_kept g =
      rw (g.says, lt-ltb _ _ g.numbered, g.entry, eq-eqb r.offset r.offset refl) (gives_kept r.event (object_at file g.layout.refs r.offset) g.gives)

-- the answer is a refusal with 17
abbrev Says17 : TextSaid → Type 0
Says17 (long n) = ⊥
Says17 (refusing number values place) = number ≡ 17

module _ (file scratch : List ℕ) (r : Record) where
  -- bytes that aren't denied are told, or don't fit the scratch
  kept_told : (x : Asked) → Kept x → Says17 (length_said file scratch r.offset x) → ⊥
  unfolding length_said
  kept_told (in_file start n) g s = s
  kept_told (in_utf16 start n) g s = go (leb (length (to_utf8 (part file start n))) (length scratch)) refl
    where
      go : (b : Bool) → leb (length (to_utf8 (part file start n))) (length scratch) ≡ b → ⊥
      go true e = rw e at s
      go false e = let z : ◌≡◌ {A = ℕ} 16 17 = rw e at s in omega arith
  kept_told no_bytes g s = s
  kept_told (denied number values) g s = g

  -- 17 comes only of a wrong request, whatever its values and its place
  pub request_only : (values : List ℕ) (place : ℕ) → length_said file scratch r.offset (asked_of file r) ≡ refusing 17 values place → WrongRequest file r
  unfolding asked_of length_said
  request_only values place a = go (ltb max_length (length file)) refl
    where
      s : Says17 (length_said file scratch r.offset (asked_of file r))
      s = rw a refl

      go : (b : Bool) → ltb max_length (length file) ≡ b → WrongRequest file r
      go true e = let z : ◌≡◌ {A = ℕ} 1 17 = rw e at s in absurd (omega arith)
      go false e =
          record {
            short = ltb-false _ _ e;
            wrong = λ g. kept_told (asked_by file r (trailer_of file)) (record_kept file r g) (rw e at s);
          }

  -- and each wrong request is answered so
  pub request_then : WrongRequest file r → length_said file scratch r.offset (asked_of file r) ≡ refusing 17 [] 0
  unfolding asked_of length_said
  request_then w = go (record_or_denied file r (trailer_of file) refl)
    where
      go : GivesRecord file r ⊎ (asked_by file r (trailer_of file) ≡ denied 17 []) → length_said file scratch r.offset (asked_of file r) ≡ refusing 17 [] 0
      go (inl g) = absurd (w.wrong g)
      go (inr e) = rw (le-ltb _ _ w.short, e)

  pub request_exactly : (length_said file scratch r.offset (asked_of file r) ≡ refusing 17 [] 0) ↔ WrongRequest file r
  request_exactly = (request_only [] 0, request_then)
