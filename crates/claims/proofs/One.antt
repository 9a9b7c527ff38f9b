-- Each contract of a public function leaves one answer, and one content of all lent memory.
use mathlib.Core.List.{List}
use mathlib.Core.Path.{◌≡◌, refl, sym, ap, ◌∙◌}
use Prim.Native.Nat.{ℕ}
use Rattle.object.specs.FoundLaws.{found_of_one}
use Rattle.layout.specs.SaidLaws.{look_one, trailer_one, due_said_one}
use Rattle.reader.specs.SaidLaws.{step_said_one, text_said_one}
use Rattle.tape.proofs.AppendLaws.{said_one}
use Rattle.tape.specs.SaidLaws.{step_said_one as tape-step-one}
use Rattle.transcribe.specs.Run.{Run}
use Rattle.transcribe.specs.SaidLaws.{end_said_one}
use Rattle.transcribe.specs.declared.Transcript.{Transcript}
use Rattle.transcribe.proofs.transcribe.Kinds as transcribe-kinds
use Rattle.transcribe.proofs.transcribe.Reads as transcribe-reads
use Rattle.exports.proofs.text.zm_is_utf8.Kinds as zm-is-utf8-kinds
use Rattle.exports.proofs.text.zm_is_utf8.Reads as zm-is-utf8-reads
use Rattle.exports.proofs.text.zm_is_utf16.Kinds as zm-is-utf16-kinds
use Rattle.exports.proofs.text.zm_is_utf16.Reads as zm-is-utf16-reads
use Rattle.exports.proofs.text.zm_is_ascii.Kinds as zm-is-ascii-kinds
use Rattle.exports.proofs.text.zm_is_ascii.Reads as zm-is-ascii-reads
use Rattle.exports.proofs.text.zm_utf16_to_utf8.Kinds as zm-utf16-to-utf8-kinds
use Rattle.exports.proofs.text.zm_utf16_to_utf8.Reads as zm-utf16-to-utf8-reads
use Rattle.exports.proofs.text.zm_utf8_to_utf16.Kinds as zm-utf8-to-utf16-kinds
use Rattle.exports.proofs.text.zm_utf8_to_utf16.Reads as zm-utf8-to-utf16-reads
use Rattle.exports.proofs.tape_append.zm_tape_append.Kinds as zm-tape-append-kinds
use Rattle.exports.proofs.tape_append.zm_tape_append.Reads as zm-tape-append-reads
use Rattle.exports.proofs.tape_step.zm_tape_step.Kinds as zm-tape-step-kinds
use Rattle.exports.proofs.tape_step.zm_tape_step.Reads as zm-tape-step-reads
use Rattle.exports.proofs.transcript.zm_transcribe.Kinds as zm-transcribe-kinds
use Rattle.exports.proofs.transcript.zm_transcribe.Reads as zm-transcribe-reads
use Rattle.event.proofs.date.is_date.Kinds as is-date-kinds
use Rattle.event.proofs.date.is_date.Reads as is-date-reads
use Rattle.event.proofs.real.real_of.Kinds as real-of-kinds
use Rattle.event.proofs.real.real_of.Reads as real-of-reads
use Rattle.event.proofs.real.short_real_of.Kinds as short-real-of-kinds
use Rattle.event.proofs.real.short_real_of.Reads as short-real-of-reads
use Rattle.event.proofs.real.float_bits.Kinds as float-bits-kinds
use Rattle.event.proofs.real.float_bits.Reads as float-bits-reads
use Rattle.event.proofs.same.is_same.Kinds as is-same-kinds
use Rattle.event.proofs.same.is_same.Reads as is-same-reads
use Rattle.number.proofs.be.read_be.Kinds as read-be-kinds
use Rattle.number.proofs.be.read_be.Reads as read-be-reads
use Rattle.number.proofs.be.read_eight.Kinds as read-eight-kinds
use Rattle.number.proofs.be.read_eight.Reads as read-eight-reads
use Rattle.number.proofs.be.read_halves.Kinds as read-halves-kinds
use Rattle.number.proofs.be.read_halves.Reads as read-halves-reads
use Rattle.number.proofs.be.write_be.Kinds as write-be-kinds
use Rattle.number.proofs.be.write_be.Reads as write-be-reads
use Rattle.number.proofs.be.write_halves.Kinds as write-halves-kinds
use Rattle.number.proofs.be.write_halves.Reads as write-halves-reads
use Rattle.number.proofs.copy.write_bytes.Kinds as write-bytes-kinds
use Rattle.number.proofs.copy.write_bytes.Reads as write-bytes-reads
use Rattle.number.proofs.signed.signed_of.Kinds as signed-of-kinds
use Rattle.number.proofs.signed.signed_of.Reads as signed-of-reads
use Rattle.number.proofs.signed.bits_of.Kinds as bits-of-kinds
use Rattle.number.proofs.signed.bits_of.Reads as bits-of-reads
use Rattle.number.proofs.signed.magnitude.Kinds as magnitude-kinds
use Rattle.number.proofs.signed.magnitude.Reads as magnitude-reads
use Rattle.number.proofs.signed.negative_of.Kinds as negative-of-kinds
use Rattle.number.proofs.signed.negative_of.Reads as negative-of-reads
use Rattle.number.proofs.size.size_for.Kinds as size-for-kinds
use Rattle.number.proofs.size.size_for.Reads as size-for-reads
use Rattle.number.proofs.width.width_of.Kinds as width-of-kinds
use Rattle.number.proofs.width.width_of.Reads as width-of-reads
use Rattle.number.proofs.width.bytes_in.Kinds as bytes-in-kinds
use Rattle.number.proofs.width.bytes_in.Reads as bytes-in-reads
use Rattle.utf.proofs.utf8.is_utf8.Kinds as is-utf8-kinds
use Rattle.utf.proofs.utf8.is_utf8.Reads as is-utf8-reads
use Rattle.utf.proofs.utf8.is_ascii.Kinds as is-ascii-kinds
use Rattle.utf.proofs.utf8.is_ascii.Reads as is-ascii-reads
use Rattle.utf.proofs.utf16.is_utf16.Kinds as is-utf16-kinds
use Rattle.utf.proofs.utf16.is_utf16.Reads as is-utf16-reads
use Rattle.utf.proofs.utf16.utf8_length.Kinds as utf8-length-kinds
use Rattle.utf.proofs.utf16.utf8_length.Reads as utf8-length-reads
use Rattle.utf.proofs.utf16.utf16_to_utf8.Kinds as utf16-to-utf8-kinds
use Rattle.utf.proofs.utf16.utf16_to_utf8.Reads as utf16-to-utf8-reads
use Rattle.utf.proofs.to_utf16.utf16_units.Kinds as utf16-units-kinds
use Rattle.utf.proofs.to_utf16.utf16_units.Reads as utf16-units-reads
use Rattle.utf.proofs.to_utf16.utf8_to_utf16.Kinds as utf8-to-utf16-kinds
use Rattle.utf.proofs.to_utf16.utf8_to_utf16.Reads as utf8-to-utf16-reads
use Rattle.utf.proofs.unchecked.utf8_to_utf16.Kinds as unchecked-utf8-to-utf16-kinds
use Rattle.utf.proofs.unchecked.utf8_to_utf16.Reads as unchecked-utf8-to-utf16-reads
use Rattle.object.proofs.kind.kind_of.Kinds as kind-of-kinds
use Rattle.object.proofs.kind.kind_of.Reads as kind-of-reads
use Rattle.object.proofs.container.container_at.Kinds as container-at-kinds
use Rattle.object.proofs.container.container_at.Reads as container-at-reads
use Rattle.object.proofs.read.object_at.Kinds as object-at-kinds
use Rattle.object.proofs.read.object_at.Reads as object-at-reads
use Rattle.layout.proofs.refusal.number_of.Kinds as number-of-kinds
use Rattle.layout.proofs.refusal.number_of.Reads as number-of-reads
use Rattle.object.proofs.refusal.number_of.Kinds as object-number-kinds
use Rattle.object.proofs.refusal.number_of.Reads as object-number-reads
use Rattle.reader.proofs.refusal.number_of.Kinds as reader-number-kinds
use Rattle.reader.proofs.refusal.number_of.Reads as reader-number-reads
use Rattle.layout.proofs.layout.number_at.Kinds as number-at-kinds
use Rattle.layout.proofs.layout.number_at.Reads as number-at-reads
use Rattle.layout.proofs.layout.due_at.Kinds as due-at-kinds
use Rattle.layout.proofs.layout.due_at.Reads as due-at-reads
use Rattle.layout.proofs.layout.is_listed.Kinds as is-listed-kinds
use Rattle.layout.proofs.layout.is_listed.Reads as is-listed-reads
use Rattle.layout.proofs.layout.stands_in.Kinds as stands-in-kinds
use Rattle.layout.proofs.layout.stands_in.Reads as stands-in-reads
use Rattle.layout.proofs.layout.due_in.Kinds as due-in-kinds
use Rattle.layout.proofs.layout.due_in.Reads as due-in-reads
use Rattle.layout.proofs.lookup.look_up.Kinds as look-up-kinds
use Rattle.layout.proofs.lookup.look_up.Reads as look-up-reads
use Rattle.layout.proofs.lookup.start_of.Kinds as start-of-kinds
use Rattle.layout.proofs.lookup.start_of.Reads as start-of-reads
use Rattle.layout.proofs.trailer.trailer_of.Kinds as trailer-of-kinds
use Rattle.layout.proofs.trailer.trailer_of.Reads as trailer-of-reads
use Rattle.reader.proofs.One.{One, OneView}
use Rattle.reader.proofs.state.is_open.Kinds as is-open-kinds
use Rattle.reader.proofs.state.is_open.Reads as is-open-reads
use Rattle.reader.proofs.state.Reader.max_open.Kinds as max-open-kinds
use Rattle.reader.proofs.state.Reader.max_open.Reads as max-open-reads
use Rattle.reader.proofs.state.Reader.max_length.Kinds as max-length-kinds
use Rattle.reader.proofs.state.Reader.max_length.Reads as max-length-reads
use Rattle.reader.proofs.state.Reader.ended_reader.Kinds as ended-reader-kinds
use Rattle.reader.proofs.state.Reader.ended_reader.Reads as ended-reader-reads
use Rattle.reader.proofs.state.Reader.next.Kinds as next-kinds
use Rattle.reader.proofs.state.Reader.next.Reads as next-reads
use Rattle.reader.proofs.request.text_length.Kinds as text-length-kinds
use Rattle.reader.proofs.request.text_length.Reads as text-length-reads
use Rattle.reader.proofs.request.text_part.Kinds as text-part-kinds
use Rattle.reader.proofs.request.text_part.Reads as text-part-reads
use Rattle.tape.proofs.step.quick_step.Kinds as quick-step-kinds
use Rattle.tape.proofs.step.quick_step.Reads as quick-step-reads
use Rattle.tape.proofs.step.step.Kinds as step-kinds
use Rattle.tape.proofs.step.step.Reads as step-reads
use Rattle.tape.proofs.append.append.Kinds as append-kinds
use Rattle.tape.proofs.append.append.Reads as append_reads
use Rattle.tape.proofs.unchecked.append.Kinds as unchecked-append-kinds
use Rattle.tape.proofs.unchecked.append.Reads as unchecked-append-reads
use Rattle.tape.proofs.unchecked.put_bytes.Kinds as put-bytes-kinds
use Rattle.tape.proofs.unchecked.put_bytes.Reads as put-bytes-reads
use Rattle.tape.proofs.unchecked.put_kind.Kinds as put-kind-kinds
use Rattle.tape.proofs.unchecked.put_kind.Reads as put-kind-reads
use Rattle.tape.proofs.unchecked.put_number.Kinds as put-number-kinds
use Rattle.tape.proofs.unchecked.put_number.Reads as put-number-reads
use Rattle.tape.proofs.append.put_boolean.Kinds as put-boolean-kinds
use Rattle.tape.proofs.append.put_boolean.Reads as put-boolean-reads
use Rattle.tape.proofs.append.put_integer.Kinds as put-integer-kinds
use Rattle.tape.proofs.append.put_integer.Reads as put-integer-reads
use Rattle.tape.proofs.unchecked.put_eight.Kinds as put-eight-kinds
use Rattle.tape.proofs.unchecked.put_eight.Reads as put-eight-reads

is_date_one : One 0 is-date-kinds.ps is-date-kinds.r is-date-reads.Post (Unit {0}) (λ κs e. tt)
is_date_one κs a x y e f p q = (p ∙ sym q, refl)

real_of_one : One 0 real-of-kinds.ps real-of-kinds.r real-of-reads.Post (Unit {0}) (λ κs e. tt)
real_of_one κs a x y e f p q = (p ∙ sym q, refl)

short_real_of_one : One 0 short-real-of-kinds.ps short-real-of-kinds.r short-real-of-reads.Post (Unit {0}) (λ κs e. tt)
short_real_of_one κs a x y e f p q = (p ∙ sym q, refl)

float_bits_one : One 0 float-bits-kinds.ps float-bits-kinds.r float-bits-reads.Post (Unit {0}) (λ κs e. tt)
float_bits_one κs a x y e f p q = (p ∙ sym q, refl)

is_same_one : One 0 is-same-kinds.ps is-same-kinds.r is-same-reads.Post (Unit {0}) (λ κs e. tt)
is_same_one κs a x y e f p q = (p ∙ sym q, refl)

read_be_one : One 1 read-be-kinds.ps read-be-kinds.r read-be-reads.Post (Unit {0}) (λ κs e. tt)
read_be_one κs a x y e f p q = (p ∙ sym q, refl)

read_eight_one : One 1 read-eight-kinds.ps read-eight-kinds.r read-eight-reads.Post (Unit {0}) (λ κs e. tt)
read_eight_one κs a x y e f p q = (p ∙ sym q, refl)

read_halves_one : One 1 read-halves-kinds.ps read-halves-kinds.r read-halves-reads.Post (Unit {0}) (λ κs e. tt)
read_halves_one κs a x y e f p q = (p ∙ sym q, refl)

write_be_one : One 1 write-be-kinds.ps write-be-kinds.r write-be-reads.Post (List ℕ) (λ κs e. e.0.now)
write_be_one κs a x y e f p q = (refl, p ∙ sym q)

write_bytes_one : One 2 write-bytes-kinds.ps write-bytes-kinds.r write-bytes-reads.Post (List ℕ) (λ κs e. e.0.now)
write_bytes_one κs a x y e f p q = (refl, p ∙ sym q)

write_halves_one : One 1 write-halves-kinds.ps write-halves-kinds.r write-halves-reads.Post (List ℕ) (λ κs e. e.0.now)
write_halves_one κs a x y e f p q = (refl, p ∙ sym q)

signed_of_one : One 0 signed-of-kinds.ps signed-of-kinds.r signed-of-reads.Post (Unit {0}) (λ κs e. tt)
signed_of_one κs a x y e f p q = (p ∙ sym q, refl)

bits_of_one : One 0 bits-of-kinds.ps bits-of-kinds.r bits-of-reads.Post (Unit {0}) (λ κs e. tt)
bits_of_one κs a x y e f p q = (p ∙ sym q, refl)

magnitude_one : One 0 magnitude-kinds.ps magnitude-kinds.r magnitude-reads.Post (Unit {0}) (λ κs e. tt)
magnitude_one κs a x y e f p q = (p ∙ sym q, refl)

negative_of_one : One 0 negative-of-kinds.ps negative-of-kinds.r negative-of-reads.Post (Unit {0}) (λ κs e. tt)
negative_of_one κs a x y e f p q = (p ∙ sym q, refl)

size_for_one : One 0 size-for-kinds.ps size-for-kinds.r size-for-reads.Post (Unit {0}) (λ κs e. tt)
size_for_one κs a x y e f p q = (p ∙ sym q, refl)

width_of_one : One 0 width-of-kinds.ps width-of-kinds.r width-of-reads.Post (Unit {0}) (λ κs e. tt)
width_of_one κs a x y e f p q = (p ∙ sym q, refl)

bytes_in_one : One 0 bytes-in-kinds.ps bytes-in-kinds.r bytes-in-reads.Post (Unit {0}) (λ κs e. tt)
bytes_in_one κs a x y e f p q = (p ∙ sym q, refl)

is_utf8_one : One 1 is-utf8-kinds.ps is-utf8-kinds.r is-utf8-reads.Post (Unit {0}) (λ κs e. tt)
is_utf8_one κs a x y e f p q = (p ∙ sym q, refl)

is_ascii_one : One 1 is-ascii-kinds.ps is-ascii-kinds.r is-ascii-reads.Post (Unit {0}) (λ κs e. tt)
is_ascii_one κs a x y e f p q = (p ∙ sym q, refl)

is_utf16_one : One 1 is-utf16-kinds.ps is-utf16-kinds.r is-utf16-reads.Post (Unit {0}) (λ κs e. tt)
is_utf16_one κs a x y e f p q = (p ∙ sym q, refl)

utf8_length_one : One 1 utf8-length-kinds.ps utf8-length-kinds.r utf8-length-reads.Post (Unit {0}) (λ κs e. tt)
utf8_length_one κs a x y e f p q = (p ∙ sym q, refl)

utf16_to_utf8_one : One 2 utf16-to-utf8-kinds.ps utf16-to-utf8-kinds.r utf16-to-utf8-reads.Post (List ℕ) (λ κs e. e.1.0.now)
utf16_to_utf8_one κs a x y e f p q = (p.0 ∙ sym q.0, p.1 ∙ sym q.1)

utf16_units_one : One 1 utf16-units-kinds.ps utf16-units-kinds.r utf16-units-reads.Post (Unit {0}) (λ κs e. tt)
utf16_units_one κs a x y e f p q = (p ∙ sym q, refl)

utf8_to_utf16_one : One 2 utf8-to-utf16-kinds.ps utf8-to-utf16-kinds.r utf8-to-utf16-reads.Post (List ℕ) (λ κs e. e.1.0.now)
utf8_to_utf16_one κs a x y e f p q = (p.0 ∙ sym q.0, p.1 ∙ sym q.1)

unchecked_utf8_to_utf16_one : One 2 unchecked-utf8-to-utf16-kinds.ps unchecked-utf8-to-utf16-kinds.r unchecked-utf8-to-utf16-reads.Post (List ℕ) (λ κs e. e.1.0.now)
unchecked_utf8_to_utf16_one κs a x y e f p q = (p.0 ∙ sym q.0, p.1 ∙ sym q.1)

kind_of_one : One 0 kind-of-kinds.ps kind-of-kinds.r kind-of-reads.Post (Unit {0}) (λ κs e. tt)
kind_of_one κs a x y e f p q = (p ∙ sym q, refl)

container_at_one : One 1 container-at-kinds.ps container-at-kinds.r container-at-reads.Post (Unit {0}) (λ κs e. tt)
container_at_one κs a x y e f p q = (p ∙ sym q, refl)

object_at_one : One 1 object-at-kinds.ps object-at-kinds.r object-at-reads.Post (Unit {0}) (λ κs e. tt)
object_at_one κs a x y e f p q = (found_of_one x y (p ∙ sym q), refl)

number_of_one : One 0 number-of-kinds.ps number-of-kinds.r number-of-reads.Post (Unit {0}) (λ κs e. tt)
number_of_one κs a x y e f p q = (p ∙ sym q, refl)

object_number_one : One 0 object-number-kinds.ps object-number-kinds.r object-number-reads.Post (Unit {0}) (λ κs e. tt)
object_number_one κs a x y e f p q = (p ∙ sym q, refl)

reader_number_one : One 0 reader-number-kinds.ps reader-number-kinds.r reader-number-reads.Post (Unit {0}) (λ κs e. tt)
reader_number_one κs a x y e f p q = (p ∙ sym q, refl)

number_at_one : One 1 number-at-kinds.ps number-at-kinds.r number-at-reads.Post (Unit {0}) (λ κs e. tt)
number_at_one κs a x y e f p q = (p ∙ sym q, refl)

due_at_one : One 1 due-at-kinds.ps due-at-kinds.r due-at-reads.Post (Unit {0}) (λ κs e. tt)
due_at_one κs a x y e f p q = (due_said_one x y (p ∙ sym q), refl)

is_listed_one : One 1 is-listed-kinds.ps is-listed-kinds.r is-listed-reads.Post (Unit {0}) (λ κs e. tt)
is_listed_one κs a x y e f p q = (p ∙ sym q, refl)

stands_in_one : One 1 stands-in-kinds.ps stands-in-kinds.r stands-in-reads.Post (Unit {0}) (λ κs e. tt)
stands_in_one κs a x y e f p q = (p ∙ sym q, refl)

due_in_one : One 1 due-in-kinds.ps due-in-kinds.r due-in-reads.Post (Unit {0}) (λ κs e. tt)
due_in_one κs a x y e f p q = (due_said_one x y (p ∙ sym q), refl)

look_up_one : One 1 look-up-kinds.ps look-up-kinds.r look-up-reads.Post (Unit {0}) (λ κs e. tt)
look_up_one κs a x y e f p q = (look_one x y (p.0 ∙ sym q.0) (p.1 ∙ sym q.1), refl)

start_of_one : One 0 start-of-kinds.ps start-of-kinds.r start-of-reads.Post (Unit {0}) (λ κs e. tt)
start_of_one κs a x y e f p q = (p ∙ sym q, refl)

is_open_one : One 0 is-open-kinds.ps is-open-kinds.r is-open-reads.Post (Unit {0}) (λ κs e. tt)
is_open_one κs a x y e f p q = (p ∙ sym q, refl)

trailer_of_one : One 1 trailer-of-kinds.ps trailer-of-kinds.r trailer-of-reads.Post (Unit {0}) (λ κs e. tt)
trailer_of_one κs a x y e f p q = (trailer_one x y (p ∙ sym q), refl)

max_open_one : One 0 max-open-kinds.ps max-open-kinds.r max-open-reads.Post (Unit {0}) (λ κs e. tt)
max_open_one κs a x y e f p q = (p ∙ sym q, refl)

max_length_one : One 0 max-length-kinds.ps max-length-kinds.r max-length-reads.Post (Unit {0}) (λ κs e. tt)
max_length_one κs a x y e f p q = (p ∙ sym q, refl)

ended_reader_one : One 0 ended-reader-kinds.ps ended-reader-kinds.r ended-reader-reads.Post (Unit {0}) (λ κs e. tt)
ended_reader_one κs a x y e f p q = (p ∙ sym q, refl)

next_one : One 1 next-kinds.ps next-kinds.r next-reads.Post (Unit {0}) (λ κs e. tt)
next_one κs a x y e f p q = (step_said_one x y (p ∙ sym q), refl)

text_length_one : One 2 text-length-kinds.ps text-length-kinds.r text-length-reads.Post (List ℕ) (λ κs e. e.1.0.now)
text_length_one κs a x y e f p q = (text_said_one x y (p.0 ∙ sym q.0), p.1 ∙ sym q.1)

-- what is handed out is a part of the file or of the scratch: its bytes are fixed
text_part_one : OneView 1 text-part-kinds.ps text-part-kinds.r text-part-reads.Post (List ℕ) (λ κs x. x.now)
text_part_one κs a x y e f p q = p ∙ sym q

step_one : One 1 step-kinds.ps step-kinds.r step-reads.Post (Unit {0}) (λ κs e. tt)
step_one κs a x y e f p q = (tape-step-one a.1.0 x y (p ∙ sym q), refl)

quick_step_one : One 1 quick-step-kinds.ps quick-step-kinds.r quick-step-reads.Post (Unit {0}) (λ κs e. tt)
quick_step_one κs a x y e f p q = (tape-step-one a.1.0 x y (p ∙ sym q), refl)

append_one : One 2 append-kinds.ps append-kinds.r append_reads.Post (List ℕ) (λ κs e. e.0.now)
append_one κs a x y e f p q = (said_one x y (p.0 ∙ sym q.0), p.1.0 ∙ sym q.1.0)

unchecked_append_one : One 2 unchecked-append-kinds.ps unchecked-append-kinds.r unchecked-append-reads.Post (List ℕ) (λ κs e. e.0.now)
unchecked_append_one κs a x y e f p q = (said_one x y (p.0 ∙ sym q.0), p.1 ∙ sym q.1)

put_bytes_one : One 2 put-bytes-kinds.ps put-bytes-kinds.r put-bytes-reads.Post (List ℕ) (λ κs e. e.0.now)
put_bytes_one κs a x y e f p q = (said_one x y (p.0 ∙ sym q.0), p.1 ∙ sym q.1)

put_kind_one : One 1 put-kind-kinds.ps put-kind-kinds.r put-kind-reads.Post (List ℕ) (λ κs e. e.0.now)
put_kind_one κs a x y e f p q = (said_one x y (p.0 ∙ sym q.0), p.1 ∙ sym q.1)

put_number_one : One 1 put-number-kinds.ps put-number-kinds.r put-number-reads.Post (List ℕ) (λ κs e. e.0.now)
put_number_one κs a x y e f p q = (said_one x y (p.0 ∙ sym q.0), p.1 ∙ sym q.1)

put_boolean_one : One 1 put-boolean-kinds.ps put-boolean-kinds.r put-boolean-reads.Post (List ℕ) (λ κs e. e.0.now)
put_boolean_one κs a x y e f p q = (said_one x y (p.0 ∙ sym q.0), p.1 ∙ sym q.1)

put_integer_one : One 1 put-integer-kinds.ps put-integer-kinds.r put-integer-reads.Post (List ℕ) (λ κs e. e.0.now)
put_integer_one κs a x y e f p q = (said_one x y (p.0 ∙ sym q.0), p.1 ∙ sym q.1)

put_eight_one : One 1 put-eight-kinds.ps put-eight-kinds.r put-eight-reads.Post (List ℕ) (λ κs e. e.0.now)
put_eight_one κs a x y e f p q = (said_one x y (p.0 ∙ sym q.0), p.1 ∙ sym q.1)

transcribe_one : One 3 transcribe-kinds.ps transcribe-kinds.r transcribe-reads.Post (record { tape : List ℕ; scratch : List ℕ }) (λ κs e. record { tape = e.1.1.0.now; scratch = e.1.0.now })
transcribe_one κs a x y e f p q =
    let z = p.0 ∙ sym q.0 in
    (same_transcript x y (end_said_one x.ending y.ending (ap (λ (r : Run). r.ending) z)) (ap (λ (r : Run). r.held) z), rw (ap (λ (r : Run). r.tape) z, ap (λ (r : Run). r.scratch) z))
  where
    same_transcript : (x y : Transcript) → x.ending ≡ y.ending → x.held ≡ y.held → x ≡ y
    same_transcript x y d h = rw (d, h)

zm_is_utf8_one : One 1 zm-is-utf8-kinds.ps zm-is-utf8-kinds.r zm-is-utf8-reads.Post (Unit {0}) (λ κs e. tt)
zm_is_utf8_one κs a x y e f p q = (p ∙ sym q, refl)

zm_is_utf16_one : One 1 zm-is-utf16-kinds.ps zm-is-utf16-kinds.r zm-is-utf16-reads.Post (Unit {0}) (λ κs e. tt)
zm_is_utf16_one κs a x y e f p q = (p ∙ sym q, refl)

zm_is_ascii_one : One 1 zm-is-ascii-kinds.ps zm-is-ascii-kinds.r zm-is-ascii-reads.Post (Unit {0}) (λ κs e. tt)
zm_is_ascii_one κs a x y e f p q = (p ∙ sym q, refl)

zm_utf16_to_utf8_one : One 2 zm-utf16-to-utf8-kinds.ps zm-utf16-to-utf8-kinds.r zm-utf16-to-utf8-reads.Post (List ℕ) (λ κs e. e.1.0.now)
zm_utf16_to_utf8_one κs a x y e f p q = (p.0 ∙ sym q.0, p.1.0 ∙ sym q.1.0)

zm_utf8_to_utf16_one : One 2 zm-utf8-to-utf16-kinds.ps zm-utf8-to-utf16-kinds.r zm-utf8-to-utf16-reads.Post (List ℕ) (λ κs e. e.1.0.now)
zm_utf8_to_utf16_one κs a x y e f p q = (p.0 ∙ sym q.0, p.1.0 ∙ sym q.1.0)

zm_tape_append_one : One 2 zm-tape-append-kinds.ps zm-tape-append-kinds.r zm-tape-append-reads.Post (List ℕ) (λ κs e. e.0.now)
zm_tape_append_one κs a x y e f p q = (p.0 ∙ sym q.0, p.1.0 ∙ sym q.1.0)

zm_tape_step_one : One 4 zm-tape-step-kinds.ps zm-tape-step-kinds.r zm-tape-step-reads.Post (record { value : ℕ; start : ℕ; length : ℕ }) (λ κs e. record { value = e.1.1.0.now; start = e.1.1.1.0.now; length = e.1.1.1.1.0.now })
zm_tape_step_one κs a x y e f p q = (
  p.0 ∙ sym q.0,
  rw (p.1.0 ∙ sym q.1.0, p.1.1.0 ∙ sym q.1.1.0, p.1.1.1.0 ∙ sym q.1.1.1.0),
)

zm_transcribe_one : One 6 zm-transcribe-kinds.ps zm-transcribe-kinds.r zm-transcribe-reads.Post (record { held : ℕ; place : ℕ; marker : ℕ; tape : List ℕ; scratch : List ℕ }) (λ κs e. record { held = e.1.1.1.1.0.now; place = e.1.1.1.1.1.0.now; marker = e.1.1.1.1.1.1.0.now; tape = e.1.1.0.now; scratch = e.1.0.now })
zm_transcribe_one κs a x y e f p q = (
  p.0 ∙ sym q.0,
  rw (p.1.0 ∙ sym q.1.0, p.1.1.0 ∙ sym q.1.1.0, p.1.1.1.0 ∙ sym q.1.1.1.0, p.1.1.1.1.0 ∙ sym q.1.1.1.1.0, p.1.1.1.1.1.0 ∙ sym q.1.1.1.1.1.0),
)
