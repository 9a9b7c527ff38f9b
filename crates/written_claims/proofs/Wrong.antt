-- WRONG WRITERS. The file that each would leave of some events, and that a claim about written files is false of it: the claims are those of
-- Claims.antt, ReadBack.antt and ReadWhole.antt, with that file in the place of the events' file. So the theorem rules out the writer.
use Rattle.std.proofs.Common.{true≢false, sym, ap, subst, ◌∙◌, arith, lit<, lit≤}
use Rattle.std.specs.Prelude.{List, [], ◌∷◌, ◌++◌, ◌≡◌, refl, ℕ, ◌+◌, ◌*◌, ◌≤◌, ◌<◌, ℤ, pos, length, get_or, replicate, Some, None}
use Rattle.event.specs.Format.{magic}
use Rattle.event.specs.Meaning.{Meaning, array, dictionary, close, bytes, integer, real, text}
use Rattle.event.specs.declared.Event.{Event}
use Rattle.event.specs.declared.Event.TheVariants as event
use Rattle.event.specs.declared.Integer.TheVariants.{Unsigned}
use Rattle.layout.specs.Layout.{look_of}
use Rattle.layout.specs.Looked.{faulty, Shape, scalar, container}
use Rattle.layout.specs.Looked as looked
use Rattle.layout.specs.Trailer.{ends, lays, trailer_of}
use Rattle.layout.specs.declared.layout.Layout.{Layout}
use Rattle.number.specs.Width.{bytes_in}
use Rattle.number.specs.declared.width.Width.TheVariants.{One}
use Rattle.object.specs.Content.{trailer_at}
use Rattle.reader.specs.Meanings.{Told, means, ended, refused, answers, meaning_at}
use Rattle.reader.specs.State.{fresh_reader}
use Rattle.tape.specs.Events.{tape_of}
use Rattle.transcribe.specs.Run.{transcript_of}
use Rattle.transcribe.specs.Run as run
use Rattle.transcribe.specs.TranscriptLaws.{Put, told_of, meanings_of}
use Rattle.written_claims.proofs.Claims.{LookedUp, lone, holding, EndsBefore}
use Rattle.written_claims.specs.Computed.{computed}
use Rattle.written_claims.specs.Filled.{filled}
use Rattle.written_claims.specs.Outcome.{scratch_needed, Holds}
use Rattle.written_claims.specs.References.{Names, Reached, at_root, along, mentions, all_references}

-- the first eight bytes, objects and the table of their offsets; then the trailer: sizes of one byte, the count, the root, where the table begins
abbrev file : List ℕ → ℕ → ℕ → ℕ → List ℕ
file middle count root table =
    magic ++ middle ++ replicate 6 0 ++ (1 ∷ 1 ∷ []) ++ replicate 7 0 ++ (count ∷ []) ++ replicate 7 0 ++ (root ∷ []) ++ replicate 7 0 ++ (table ∷ [])

abbrev laid : ℕ → ℕ → Layout
laid count table = record { offsets = One; refs = One; count = count; table = table }

-- a claim is false of a file, whatever layout with root 0 its trailer gives
abbrev Breaks : List ℕ → (Layout → Type 0) → Type 0
Breaks f claim = (k : Layout) → trailer_of f ≡ lays k 0 → claim k → ⊥

-- there is one such layout
breaks : (f : List ℕ) (l : Layout) (claim : Layout → Type 0) → trailer_of f ≡ lays l 0 → (claim l → ⊥) → Breaks f claim
breaks f l claim e false_of k d c =
    let q : lays k 0 ≡ lays l 0 = sym d ∙ e in
    let s : k ≡ l = cc in
    false_of (subst claim s c)

-- ---- 1. `laid_out`, `looked_up`

-- the objects and the table of [1, "a", 1], P10 of docs/FORMAT.md
abbrev p10 : List ℕ
p10 = 0xA3 ∷ 0x01 ∷ 0x02 ∷ 0x01 ∷ 0x10 ∷ 0x01 ∷ 0x51 ∷ 0x61 ∷ 0x08 ∷ 0x0C ∷ 0x0E ∷ []

-- a count that is one too high: the table would end behind T
pub count_high : (k : Layout) → trailer_of (file p10 4 0 16) ≡ lays k 0 → ⊥
unfolding computed
count_high k e =
    let d : ends 6 [] 16 ≡ lays k 0 = e in
    let z : ◌≡◌ {A = ℕ} 0 1 = cc in
    omega arith

-- root 1 in the trailer
pub root_one : (k : Layout) → trailer_of (file p10 3 1 16) ≡ lays k 0 → ⊥
unfolding computed
root_one k e =
    let d : lays (laid 3 16) 1 ≡ lays k 0 = e in
    let z : ◌≡◌ {A = ℕ} 1 0 = cc in
    omega arith

-- what is refused is not looked up
not_faulty : {f : List ℕ} {l : Layout} {i : ℕ} (number place : ℕ) → look_of f l i ≡ faulty number [] place → LookedUp f l i → ⊥
not_faulty {f} {l} {i} number place e (lone d at q h) =
    let r : faulty number [] place ≡ scalar d at = sym e ∙ q in
    let z : ◌≡◌ {A = ℕ} 0 1 = cc in
    omega arith
not_faulty {f} {l} {i} number place e (holding s k at q h) =
    let r : faulty number [] place ≡ container s k at = sym e ∙ q in
    let z : ◌≡◌ {A = ℕ} 0 1 = cc in
    omega arith

-- infinity, written as a date: 34
abbrev infinite : List ℕ
infinite = file (0x33 ∷ 0x7F ∷ 0xF0 ∷ replicate 6 0 ++ (0x08 ∷ [])) 1 0 17

pub infinite_date : Breaks infinite (λ k. (i : ℕ) → i < k.count → LookedUp infinite k i)
unfolding computed
infinite_date = breaks infinite (laid 1 17) _ refl (λ claim. not_faulty {i = 0} 34 8 refl (claim 0 (lit< tt)))

-- an empty array that came with the length 5, which stands in its head: 6
abbrev five : List ℕ
five = file (0xA5 ∷ 0x08 ∷ []) 1 0 9

pub length_in_head : Breaks five (λ k. (i : ℕ) → i < k.count → LookedUp five k i)
unfolding computed
length_in_head = breaks five (laid 1 9) _ refl (λ claim. not_faulty {i = 0} 6 8 refl (claim 0 (lit< tt)))

-- ---- 2. `in_range_law`

-- P10 with references that count from 1
abbrev counted_from_one : List ℕ
counted_from_one = file (0xA3 ∷ 0x02 ∷ 0x03 ∷ 0x02 ∷ 0x10 ∷ 0x01 ∷ 0x51 ∷ 0x61 ∷ 0x08 ∷ 0x0C ∷ 0x0E ∷ []) 3 0 16

pub from_one : Breaks counted_from_one (λ k. (m i : ℕ) → Names counted_from_one k m i → i < k.count)
unfolding computed
from_one = breaks counted_from_one (laid 3 16) _ refl (λ claim. let h : 3 < 3 = claim 0 3 refl in omega arith)

-- ---- 3. `reached`

-- P10 with an array that names nothing: only the root is reached
abbrev unnamed : List ℕ
unnamed = file (0xA0 ∷ 0x10 ∷ 0x01 ∷ 0x51 ∷ 0x61 ∷ 0x08 ∷ 0x09 ∷ 0x0B ∷ []) 3 0 13

root_alone : {i : ℕ} → Reached unnamed (laid 3 13) 0 i → i ≡ 0
unfolding computed
root_alone at_root = refl
root_alone (along m i r n) =
    let h : m ≡ 0 = root_alone r in
    absurd (true≢false (sym (rw h at n)))

pub unreached : Breaks unnamed (λ k. (i : ℕ) → i < k.count → Reached unnamed k 0 i)
unfolding computed
unreached = breaks unnamed (laid 3 13) _ refl (λ claim. let h : 1 ≡ 0 = root_alone (claim 1 (lit< tt)) in omega arith)

-- ---- 4. `one_object`

-- P10 with every scalar written anew: 1 is the objects 1 and 3
abbrev anew : List ℕ
anew = file (0xA3 ∷ 0x01 ∷ 0x02 ∷ 0x03 ∷ 0x10 ∷ 0x01 ∷ 0x51 ∷ 0x61 ∷ 0x10 ∷ 0x01 ∷ 0x08 ∷ 0x0C ∷ 0x0E ∷ 0x10 ∷ []) 4 0 18

pub every_scalar :
    Breaks anew
    (λ k. (i j : ℕ) → i < k.count → j < k.count → (e d : Event) (at bt : ℕ) → look_of anew k i ≡ scalar e at → look_of anew k j ≡ scalar d bt →
    meaning_at anew e at ≡ meaning_at anew d bt → i ≡ j)
unfolding computed
every_scalar =
    breaks anew (laid 4 18) _ refl
    (λ claim.
    let one : Event = event.Integer (Unsigned 1) in
    let h : 1 ≡ 3 = claim 1 3 (lit< tt) (lit< tt) one one 12 16 refl refl refl in
    omega arith)

-- ---- 5. `named_once`, `from_lower`

-- [[], []] with its two arrays as one object
abbrev merged : List ℕ
merged = file (0xA2 ∷ 0x01 ∷ 0x01 ∷ 0xA0 ∷ 0x08 ∷ 0x0B ∷ []) 2 0 12

pub containers :
    Breaks merged
    (λ k. (i : ℕ) → i < k.count → (s : Shape) (n at : ℕ) → look_of merged k i ≡ container s n at → 0 < i → mentions i (all_references merged k 0 k.count) ≡ 1)
unfolding computed
containers = breaks merged (laid 2 12) _ refl (λ claim. let h : 2 ≡ 1 = claim 1 (lit< tt) looked.array 0 11 refl (lit< tt) in omega arith)

-- [[[]]] with the innermost array as object 1, and the one around it as 2
abbrev inside_out : List ℕ
inside_out = file (0xA1 ∷ 0x02 ∷ 0xA1 ∷ 0x01 ∷ 0xA0 ∷ 0x08 ∷ 0x0C ∷ 0x0A ∷ []) 3 0 13

pub inner_first :
    Breaks inside_out
    (λ k. (m i : ℕ) → i < k.count → (s : Shape) (n at : ℕ) → look_of inside_out k i ≡ container s n at → Names inside_out k m i → m < i)
unfolding computed
inner_first = breaks inside_out (laid 3 13) _ refl (λ claim. let h : 2 < 1 = claim 2 1 (lit< tt) looked.array 0 12 refl refl in omega arith)

-- ---- 6. `ends_before_law`, `table_ends`

-- P10 with a table that is said to begin a byte early
pub table_early : Breaks (file p10 3 0 15) (λ k. k.table + k.count * bytes_in k.offsets ≡ trailer_at (file p10 3 0 15))
unfolding computed
table_early = breaks (file p10 3 0 15) (laid 3 15) _ refl (λ claim. let h : 18 ≡ 19 = claim in omega arith)

-- P9, true, whose last byte, where the table begins, is not written
pub unfinished : Breaks (file (0x09 ∷ 0x08 ∷ []) 1 0 0) (λ k. k.table + k.count * bytes_in k.offsets ≡ trailer_at (file (0x09 ∷ 0x08 ∷ []) 1 0 0))
unfolding computed
unfinished = breaks (file (0x09 ∷ 0x08 ∷ []) 1 0 0) (laid 1 0) _ refl (λ claim. let h : 1 ≡ 10 = claim in omega arith)

-- 15 bytes of data with a length of 16 bytes in front of them
abbrev sixteen : List ℕ
sixteen = file (0x4F ∷ 0x14 ∷ replicate 15 0 ++ (15 ∷ []) ++ replicate 15 7 ++ (0x08 ∷ [])) 1 0 41

pub length_byte : Breaks sixteen (λ k. (i : ℕ) → i < k.count → EndsBefore sixteen k i)
unfolding computed
length_byte =
    breaks sixteen (laid 1 41) _ refl
    (λ claim.
    let x = claim 0 (lit< tt) in
    let e : Some 8 ≡ Some x.at = x.entry in
    let a : x.at ≡ 8 = cc in
    let h : 0x14 ≤ 0x13 = ((rw a at x.marked) refl).1 in
    omega arith)

-- ---- 7. `means_back`, `handed_means`

-- the answers of a fresh reader are these events, lengths filled in, and then the end
abbrev ReadBack : List ℕ → List Meaning → Type 0
ReadBack f ms = (ps : List Put) × ((m : ℕ) → answers (length ms + m) f fresh_reader ≡ told_of ps ++ replicate m ended) × (meanings_of ps ≡ filled ms)

-- what the answers mean
meanings_told : List Told → List Meaning
meanings_told [] = []
meanings_told (means m at ∷ ts) = m ∷ meanings_told ts
meanings_told (ended ∷ ts) = meanings_told ts
meanings_told (refused number values place ∷ ts) = meanings_told ts

told_means : (ps : List Put) → meanings_told (told_of ps ++ []) ≡ meanings_of ps
unfolding meanings_told
told_means [] = refl
told_means (p ∷ ps) = ap (p.meaning ∷◌) (told_means ps)

read_as : (f : List ℕ) (ms : List Meaning) → ReadBack f ms → meanings_told (answers (length ms + 0) f fresh_reader) ≡ filled ms
read_as f ms b = ap meanings_told (b.1 0) ∙ told_means b.0 ∙ b.2

integer_text : (z : ℤ) (s : List ℕ) → integer z ≡ text s → ⊥
integer_text z s e = let q : ◌≡◌ {A = ℕ} 0 1 = cc in omega arith

text_bytes_law : (s t : List ℕ) → text s ≡ bytes t → ⊥
text_bytes_law s t e = let q : ◌≡◌ {A = ℕ} 0 1 = cc in omega arith

-- {"a": 1} with key and value exchanged
abbrev pair : List Meaning
pair = dictionary None ∷ text (0x61 ∷ []) ∷ integer (pos 1) ∷ close ∷ []

abbrev value_first : List ℕ
value_first = file (0xD1 ∷ 0x02 ∷ 0x01 ∷ 0x51 ∷ 0x61 ∷ 0x10 ∷ 0x01 ∷ 0x08 ∷ 0x0B ∷ 0x0D ∷ []) 3 0 15

pub exchanged : ReadBack value_first pair → ⊥
unfolding computed meanings_told
exchanged b = integer_text (pos 1) (0x61 ∷ []) (ap (λ (ms : List Meaning). get_or ms 1 close) (read_as value_first pair b))

-- ["a", the data 61] with both as one object
abbrev text_and_data : List Meaning
text_and_data = array None ∷ text (0x61 ∷ []) ∷ bytes (0x61 ∷ []) ∷ close ∷ []

abbrev one_for_both : List ℕ
one_for_both = file (0xA2 ∷ 0x01 ∷ 0x01 ∷ 0x51 ∷ 0x61 ∷ 0x08 ∷ 0x0B ∷ []) 2 0 13

pub text_with_data : ReadBack one_for_both text_and_data → ⊥
unfolding computed meanings_told
text_with_data b = text_bytes_law (0x61 ∷ []) (0x61 ∷ []) (ap (λ (ms : List Meaning). get_or ms 2 close) (read_as one_for_both text_and_data b))

-- ---- 8. `Whole-back`

-- with budget, scratch and tape enough a transcript holds the tape of the events
abbrev Transcribed : List ℕ → List Meaning → Type 0
Transcribed f ms =
    (budget : ℕ) (scratch tape : List ℕ) → length ms < budget → scratch_needed ms ≤ length scratch → length (tape_of (filled ms)) ≤ length tape →
    Holds run.ended (filled ms) tape (transcript_of budget f scratch tape)

-- 1.5 written as a date: 06 on the tape, and not 05
pub real_as_date : Transcribed (file (0x33 ∷ 0x3F ∷ 0xF8 ∷ replicate 6 0 ++ (0x08 ∷ [])) 1 0 17) (real 0x3FF8_0000_0000_0000 ∷ []) → ⊥
unfolding computed
real_as_date claim =
    let h = claim 2 [] (replicate 9 0) (lit< tt) (lit≤ tt) (lit≤ tt) in
    let z : ◌≡◌ {A = ℕ} 6 5 = ap (λ (s : List ℕ). get_or s 0 0) h.front in
    omega arith

-- "ab" cut short: three bytes are held, and not four
pub cut_short : Transcribed (file (0x51 ∷ 0x61 ∷ 0x08 ∷ []) 1 0 10) (text (0x61 ∷ 0x62 ∷ []) ∷ []) → ⊥
unfolding computed
cut_short claim =
    let h = claim 2 [] (replicate 4 0) (lit< tt) (lit≤ tt) (lit≤ tt) in
    let z : ◌≡◌ {A = ℕ} 3 4 = h.held in
    omega arith

-- "a" in UTF-16: without scratch it is refused with 16
pub ascii_as_utf16 : Transcribed (file (0x61 ∷ 0x00 ∷ 0x61 ∷ 0x08 ∷ []) 1 0 11) (text (0x61 ∷ []) ∷ []) → ⊥
unfolding computed
ascii_as_utf16 claim =
    let h = claim 2 [] (replicate 3 0) (lit< tt) (lit≤ tt) (lit≤ tt) in
    let e : run.refused 16 [] 8 ≡ run.ended = h.ends in
    let z : ◌≡◌ {A = ℕ} 0 1 = cc in
    omega arith

-- [1] with its element named twice: the budget is used up before the end
pub member_twice : Transcribed (file (0xA2 ∷ 0x01 ∷ 0x01 ∷ 0x10 ∷ 0x01 ∷ 0x08 ∷ 0x0B ∷ []) 2 0 13) (array None ∷ integer (pos 1) ∷ close ∷ []) → ⊥
unfolding computed
member_twice claim =
    let h = claim 4 [] (replicate 7 0) (lit< tt) (lit≤ tt) (lit≤ tt) in
    let e : run.stopped ≡ run.ended = h.ends in
    let z : ◌≡◌ {A = ℕ} 0 1 = cc in
    omega arith
