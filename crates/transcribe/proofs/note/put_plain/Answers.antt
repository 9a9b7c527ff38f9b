-- `put_plain`: each class of events without bytes is written by its own function.
use Rattle.event.specs.Meaning.{meaning_of}
use Rattle.tape.specs.Code.{bytes_for}
use Rattle.transcribe.proofs.note.put_plain.Goals as goal

pub returns-in-Boolean : goal.returns-in-Boolean
unfolding meaning_of
returns-in-Boolean c = rw c.in-Boolean.is c.put_boolean.ensures

pub returns-in-Date : goal.returns-in-Date
unfolding meaning_of bytes_for
returns-in-Date c = rw c.in-Date.is c.put_eight.ensures

pub returns-in-Integer : goal.returns-in-Integer
unfolding meaning_of
returns-in-Integer c = rw c.in-Integer.is c.put_integer.ensures

pub returns-in-Real : goal.returns-in-Real
unfolding meaning_of bytes_for
returns-in-Real c = rw (c.in-Real.is, ← c.float_bits.ensures) c.put_eight-in-Real.ensures

pub returns-in-Nan : goal.returns-in-Nan
unfolding meaning_of bytes_for
returns-in-Nan c = rw c.in-Nan.is c.put_eight-in-Nan.ensures

pub returns-in-Uid : goal.returns-in-Uid
unfolding meaning_of bytes_for
returns-in-Uid c = rw c.in-Uid.is c.put_number.ensures
